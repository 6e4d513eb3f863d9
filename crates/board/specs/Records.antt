-- What is shown of a record: each field of its table but the reserved bytes. Assumes nothing.
use Rattle.std.specs.Prelude.{ℕ, ◌+◌, List}
use Rattle.board.specs.declared.GpioRecord.{GpioRecord}
use Rattle.board.specs.declared.MapRecord.{MapRecord}
use Rattle.board_layout.specs.Places.{MapLabel, MapLength, MapOffset, Address, GpioLabel, GpioLength, GpioOffset, AndData, OrData, DataSize, GpioDataType}
use Rattle.octets.specs.Bytes.{byte, le32, run}

-- a record of the map. "An offset in the image and a bus address are counted apart"
unfoldable pub map_record_at : List ℕ → ℕ → MapRecord
map_record_at s r =
    record {
      maplabel = run s (r + MapLabel) 16;
      length = le32 s (r + MapLength);
      offset = record { 0 = le32 s (r + MapOffset) };
      address = record { 0 = byte s (r + Address) };
    }

-- a record of GPIO data
unfoldable pub gpio_record_at : List ℕ → ℕ → GpioRecord
gpio_record_at s r =
    record {
      gpiolabel = run s (r + GpioLabel) 16;
      length = le32 s (r + GpioLength);
      offset = le32 s (r + GpioOffset);
      anddata = le32 s (r + AndData);
      ordata = le32 s (r + OrData);
      datasize = byte s (r + DataSize);
      datatype = byte s (r + GpioDataType);
    }

-- What a reader shows of what was written: header, map and board structure, and the records of the map, by what was given. Assumes nothing.
use Rattle.std.specs.Prelude.{ℕ, ◌+◌, ◌-◌, ◌*◌, Some}
use Rattle.board.specs.declared.EeprMapFields.{EeprMapFields}
use Rattle.board.specs.declared.EepromFields.{EepromFields}
use Rattle.board.specs.declared.Fields.{Fields}
use Rattle.board.specs.declared.MapRecord.{MapRecord}
use Rattle.board.specs.declared.ShownItem.{ShownItem}
use Rattle.board_layout.specs.Places.{head_size, MapData, map_record_size}
use Rattle.board_writer.specs.Image.{image_length, map_place}
use Rattle.board_writer.specs.Parts.{Parts, given_size, record_count}
use Rattle.octets.specs.Bytes.{byte, run}

-- a structure of VerMajor 1 and VerMinor 0 as it is shown, with its signature, place, Length and fields
abbrev pub item_shown : ℕ → ℕ → ℕ → Fields → ShownItem
item_shown signature place size fields =
    record {
      signature = signature;
      place = place;
      length = size - head_size;
      item = Some (record { major = 1; minor = 0; length = size; fields = fields });
    }

-- the header, where no `$PromSig` cuts the check short
abbrev pub header_shown : Parts → EepromFields
header_shown x = record { structlen = image_length x; crclength = image_length x; version = x.version }

-- the map as it is shown
abbrev pub map_shown : Parts → EeprMapFields
map_shown x =
    record {
      partlabel = x.map.partlabel;
      blklength = x.map.blklength;
      pagesize = x.map.pagesize;
      partsize = x.map.partsize;
      busnumber = x.map.busnumber;
      master = x.map.master;
      speed = x.map.speed;
      mapdata = record { place = map_place x + MapData; length = map_record_size * record_count x };
    }

-- record k: "Record k has Offset k x BlkLength"
abbrev pub record_shown : Parts → ℕ → MapRecord
record_shown x k =
    record {
      maplabel = run x.records (given_size * k) 16;
      length = map_record_size;
      offset = record { 0 = k * x.map.blklength };
      address = record { 0 = byte x.records (given_size * k + 16) };
    }

-- Which board an image is of: the fields of its board structure that say so. (BrdSerial is none of them.) Assumes nothing.
use Rattle.std.specs.Prelude.{ℕ, ◌+◌, List}
use Rattle.board_layout.specs.Layout.{board_at}
use Rattle.board_layout.specs.Places.{ManuName, BrdName, BoardId, FabId, EcId, BoardType}
use Rattle.choice.specs.declared.Board.{Board}
use Rattle.octets.specs.Bytes.{byte, run, le32}

-- those of the board structure at p, and an image's own
abbrev pub board_from : List ℕ → ℕ → Board
board_from s p =
    record {
      manu_name = run s (p + ManuName) 16;
      brd_name = run s (p + BrdName) 16;
      board_id = le32 s (p + BoardId);
      fab_id = le32 s (p + FabId);
      ec_id = le32 s (p + EcId);
      board_type = byte s (p + BoardType);
    }

abbrev pub board_of : List ℕ → Board
board_of s = board_from s (board_at s)

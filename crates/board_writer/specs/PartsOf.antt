-- What is read of an image, as the writer takes it. Paper 01, "Writers": "An image accepted with the full list can be rebuilt if it is .. a board without
-- `$PromSig` and with minor 0 in its first three structures." Each field is what a reader shows of item 0, 1 or 2, or of a map record. Assumes nothing.
use Rattle.std.specs.Prelude.{ℕ, ◌-◌, ◌≡◌, None}
use mathlib.Core.List.{List, [], ◌∷◌, ◌++◌, map, flatten}
use Rattle.board.specs.Items.{eeprom_at, eepr_map_at, brd_info_at}
use Rattle.board.specs.Records.{map_record_at}
use Rattle.board.specs.declared.EeprMapFields.{EeprMapFields}
use Rattle.board.specs.declared.MapRecord.{MapRecord}
use Rattle.board_layout.specs.Layout.{minor_at, length_at, struct_len, end_at, header_with, map_at, board_at, records}
use Rattle.board_layout.specs.declared.Records.TheVariants.{Map}
use Rattle.board_rules.specs.Rules.{prom_sig_at}
use Rattle.board_writer.specs.Parts.{Parts}
use Rattle.board_writer.specs.declared.MapFields.{MapFields}
use Rattle.octets.specs.Bytes.{run}

-- the map's fields but its records
abbrev pub map_given : EeprMapFields → MapFields
map_given m =
    record {
      partlabel = m.partlabel;
      blklength = m.blklength;
      pagesize = m.pagesize;
      partsize = m.partsize;
      busnumber = m.busnumber;
      master = m.master;
      speed = m.speed;
    }

-- a record as the run has it: label and address
abbrev pub record_given : MapRecord → List ℕ
record_given r = r.maplabel ++ (r.address.0 ∷ [])

-- the records of the map, as a run
unfoldable pub records_of : List ℕ → List ℕ
records_of s = flatten (map (λ r. record_given (map_record_at s r)) (records Map s (map_at s)))

-- the further bytes: from the end of the board structure up to StructLen
abbrev pub further_of : List ℕ → List ℕ
further_of s = run s (end_at s (board_at s)) (struct_len s - end_at s (board_at s))

unfoldable pub parts_of : List ℕ → Parts
parts_of s =
    record {
      header = header_with (length_at s 0);
      version = (eeprom_at s 0).version;
      map = map_given (eepr_map_at s (map_at s));
      records = records_of s;
      board = brd_info_at s (board_at s);
      further = further_of s;
    }

-- "a board without `$PromSig` and with minor 0 in its first three structures"
pub record Rebuildable (s : List ℕ) : Type 0 where
  pub unsigned : prom_sig_at s ≡ None
  pub header : minor_at s 0 ≡ 0
  pub map : minor_at s (map_at s) ≡ 0
  pub board : minor_at s (board_at s) ≡ 0

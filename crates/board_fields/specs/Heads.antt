-- Rule 26 at one structure: "VerMajor not 1 in map, board or `$PromSig`; board Length not 60h; map Length not 30h + 20h n with n at least 1; `$PromSig` Length
-- under 20h", each at the structure's start. Assumes nothing.
use Rattle.std.specs.Prelude.{ℕ, ◌+◌, ◌-◌, ◌%◌, Bool, not, ◌&&◌, List, [], ◌∷◌, eqb, ltb, leb}
use Rattle.board_layout.specs.Layout.{major_at, length_at}
use Rattle.board_layout.specs.Places.{MapData, map_record_size, EepromSig}
use Rattle.chain.specs.First.{checks, when}
use Rattle.chain.specs.Found.{Found}

-- 30h + 20h n with n at least 1
abbrev pub map_length_fits : ℕ → Bool
map_length_fits n = leb (MapData + map_record_size) n && eqb ((n - MapData) % map_record_size) 0

unfoldable pub bad_map_head : List ℕ → ℕ → Found
bad_map_head s p = checks (when (not (eqb (major_at s p) 1)) p ∷ when (not (map_length_fits (length_at s p))) p ∷ [])

unfoldable pub bad_board_head : List ℕ → ℕ → Found
bad_board_head s p = checks (when (not (eqb (major_at s p) 1)) p ∷ when (not (eqb (length_at s p) 0x60)) p ∷ [])

unfoldable pub bad_prom_sig_head : List ℕ → ℕ → Found
bad_prom_sig_head s p = checks (when (not (eqb (major_at s p) 1)) p ∷ when (ltb (length_at s p) EepromSig) p ∷ [])

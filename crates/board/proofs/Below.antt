-- The records of an accepted image start before StructLen, so their places fit in 32 bits: those of the map, and those of the item of a number where that
-- holds known GPIO data. Assumes nothing.
use Rattle.std.specs.Prelude.{Some, None, Ok}
use Prim.Native.Nat.{ℕ, ◌+◌, ◌≤◌, ◌<◌}
use mathlib.Core.Bool.{Bool, true, false, cond, ◌&&◌}
use mathlib.Core.List.{List}
use mathlib.Core.Path.{◌≡◌, refl, sym}
use native.Mathlib.Omega.{arith}
use Rattle.board.specs.Answers.{is_gpio, gpio_records_at}
use Rattle.board_layout.specs.Layout.{shape_at, struct_len, end_at, structures, map_at, data_offset, record_size, records}
use Rattle.board_layout.specs.Shapes.{knows}
use Rattle.board_layout.specs.declared.Records.{Records}
use Rattle.board_layout.specs.declared.Records.TheVariants.{Map, Gpio}
use Rattle.board_layout.proofs.laws.Layout.{record-size}
use Rattle.board_rules.specs.Judged.{judged}
use Rattle.board_rules.proofs.laws.Accepted.{board-third, structures-fit, board-place}
use Rattle.board_rules.proofs.laws.Walk.{Fits}
use Rattle.chain.specs.Chain.{ahead}
use Rattle.chain.specs.Nth.{nth}
use Rattle.chain.specs.Found.{Found}
use Rattle.chain.proofs.laws.First.{at-nothing}
use Rattle.chain.proofs.laws.Nth.{nth-all}
use Rattle.chain.proofs.laws.Places.{chain-within}
use Rattle.chain.proofs.laws.Steps.{ahead-grows}
use Rattle.kinds.specs.declared.Kinds.{Kinds}

-- a record starts before the end of its structure
record-below : (which : Records) (s : List ℕ) (p n r : ℕ) → nth (records which s p) n ≡ Some r → r < end_at s p
unfolding records
record-below which s p n r e =
    (nth-all (λ q. (p + data_offset which ≤ q) × (q < end_at s p)) (records which s p) n r
    (chain-within (ahead (record_size which)) (end_at s p) (ahead-grows (record_size which) (omega (arith, (record-size which).0))) (p + data_offset which)) e).1

module _ (k : Kinds) (s : List ℕ) (m : ℕ) (accepted : judged k s ≡ Ok m) where
  -- one of the map: the map ends where the board starts
  pub map-record-below : (n r : ℕ) → nth (records Map s (map_at s)) n ≡ Some r → r < struct_len s
  map-record-below n r e =
      omega (arith, record-below Map s (map_at s) n r e, board-place k s m accepted, (board-third k s m accepted).0)

  -- one of GPIO data: each structure ends by StructLen
  pub gpio-record-below : (i n r : ℕ) → gpio_records_at k s n (nth (structures s) i) ≡ Some r → r < struct_len s
  gpio-record-below i n r = go (nth (structures s) i) refl
    where
      inside : (p : ℕ) → nth (structures s) i ≡ Some p → (b : Bool) → cond b (nth (records Gpio s p) n) None ≡ Some r → r < struct_len s
      inside p d true e =
          omega (arith, record-below Gpio s p n r e, (nth-all (Fits s) (structures s) i p (structures-fit k s m accepted) d).ends)
      inside p d false e = absurd (at-nothing (sym e))

      go : (f : Found) → nth (structures s) i ≡ f → gpio_records_at k s n f ≡ Some r → r < struct_len s
      go (Some p) d e = inside p d (is_gpio (shape_at s p) && knows k (shape_at s p)) e
      go None d e = absurd (at-nothing (sym e))

-- What rule 25 tells: the second and the third structure are there. And where a `$PromSig` that is found lies. Assumes nothing.
use Rattle.std.specs.Prelude.{ℕ, ◌^◌, ◌≤◌, ◌<◌, Bool, not, List, ◌≡◌, eqb, Some, None}
use Rattle.std.proofs.Math.Bool.{true, false, cond}
use Rattle.std.proofs.Math.Path.{refl}
use Rattle.std.proofs.Common.{arith}
use Rattle.std.proofs.Math.Dec.{ltb}
use borrow.Author.Tests.{eqb-true, ltb-true}
use Rattle.board_layout.specs.Layout.{signature_at, struct_len, structures, map_at, board_at}
use Rattle.board_layout.proofs.laws.Layout.{structures-below}
use Rattle.board_rules.specs.Rules.{expected, rule25, is_prom_sig, prom_sig_at}
use Rattle.chain.specs.First.{when}
use Rattle.chain.proofs.laws.Checks.{kept-true}
use Rattle.chain.proofs.laws.First.{Hit, first-hit, hit-holds, at-nothing, when-place, or_else-left, or_else-right}
use Rattle.kinds.specs.Signatures.{eepr_map, brd_info, prom_sig}
use Rattle.octets.specs.Bytes.{Octets}
use Rattle.octets.proofs.laws.Bytes.{le32-below}

module _ (s : List ℕ) where
  -- a structure that is expected at p is there
  pub expected-there : (g p : ℕ) → expected s g p ≡ None → (p < struct_len s) × (signature_at s p ≡ g)
  unfolding expected
  expected-there g p e = go (ltb p (struct_len s)) refl e
    where
      go : (b : Bool) → ltb p (struct_len s) ≡ b → cond b (when (not (eqb (signature_at s p) g)) p) (Some (struct_len s)) ≡ None → (p < struct_len s) × (signature_at s p ≡ g)
      go true d c = (ltb-true p (struct_len s) d, eqb-true (signature_at s p) g (kept-true (eqb (signature_at s p) g) p c))
      go false d c = absurd (at-nothing c)

  pub map-second : rule25 s ≡ None → (map_at s < struct_len s) × (signature_at s (map_at s) ≡ eepr_map)
  unfolding rule25
  map-second e = expected-there eepr_map (map_at s) (or_else-left (expected s eepr_map (map_at s)) _ e)

  pub board-third : rule25 s ≡ None → (board_at s < struct_len s) × (signature_at s (board_at s) ≡ brd_info)
  unfolding rule25
  board-third e =
      expected-there brd_info (board_at s)
      (or_else-left (expected s brd_info (board_at s)) _ (or_else-right (expected s eepr_map (map_at s)) _ e))

  -- a `$PromSig` that is found starts before StructLen
  pub prom-sig-below : (p : ℕ) → prom_sig_at s ≡ Some p → p < struct_len s
  unfolding prom_sig_at
  prom-sig-below p e =
      let h : Hit (is_prom_sig s) (structures s) p = first-hit (is_prom_sig s) (structures s) p e in
      omega (arith, when-place (eqb (signature_at s h.item) prom_sig) h.item p h.breaks, (hit-holds (is_prom_sig s) (λ q. (0 ≤ q) × (q < struct_len s)) (structures s) p (structures-below s) h).1)

  -- so all three places fit in 32 bits
  module _ (octets : Octets s) where
    pub map-low : rule25 s ≡ None → map_at s < 2 ^ 32
    map-low e = omega (arith, (map-second e).0, le32-below s octets 0x10)

    pub board-low : rule25 s ≡ None → board_at s < 2 ^ 32
    board-low e = omega (arith, (board-third e).0, le32-below s octets 0x10)

    pub prom-sig-low : (p : ℕ) → prom_sig_at s ≡ Some p → p < 2 ^ 32
    prom-sig-low p e = omega (arith, prom-sig-below p e, le32-below s octets 0x10)

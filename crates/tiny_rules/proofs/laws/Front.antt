-- A reader needs no more than the first 255 bytes of what is lent: L is a byte. Where L is at least 4, the L bytes are among them; where it is below 4,
-- the answer is by the first two bytes alone. Assumes nothing.
use Rattle.std.specs.Prelude.{ℕ, ◌≤◌, ◌<◌, not, List, ◌≡◌, refl, eqb, length, take}
use Rattle.std.proofs.Common.{inl, inr, sym, ap, ap₂, ◌∙◌, arith, length-take, get_or-take, take_all, lt-ltb, le-ltb}
use Rattle.chain.specs.First.{when}
use Rattle.chain.proofs.laws.Below.{below}
use Rattle.kinds.specs.declared.Kinds.{Kinds}
use Rattle.octets.specs.Bytes.{byte, Octets}
use Rattle.tiny_layout.specs.Layout.{total}
use Rattle.tiny_rules.specs.Judged.{judged}
use Rattle.tiny_rules.specs.Rules.{rule1, rule2, rule3, rule4}
use Rattle.tiny_rules.proofs.laws.Same.{judged-same}
use Rattle.verdict.specs.Verdict.{refusal, refuse}
use Rattle.verdict.specs.Answers.{Judged}

-- the answer by magic and version, where rule 4 is broken
abbrev by_head : ℕ → ℕ → Judged
by_head magic version =
    refuse 2 (when (not (eqb magic 0x56)) 0) (refuse 3 (when (not (eqb version 0x02)) 1) (refusal 4 2))

-- an image of 4 bytes or more with L below 4 is refused by rule 2, 3 or 4
judged-head : (k : Kinds) (s : List ℕ) → 4 ≤ length s → total s < 4 → judged k s ≡ by_head (byte s 0) (byte s 1)
unfolding judged rule1 rule2 rule3 rule4
judged-head k s h l = rw (le-ltb (length s) 4 h, lt-ltb (total s) 4 l) refl

-- 255 bytes or more of what is lent get the answer of all that is lent
pub judged-front : (k : Kinds) (s : List ℕ) (n : ℕ) → Octets s → 255 ≤ n → judged k (take n s) ≡ judged k s
judged-front k s n octets enough =
    elim (below n (length s)) [
      | inl h ↦ elim (below (total s) 4) [ inl l ↦ short h l | inr l ↦ long h l ]
      | inr h ↦ ap (judged k) (take_all n s h)
    ]
  where
    taken : n < length s → length (take n s) ≡ n
    taken h = simp length-take (omega arith)

    same : (q : ℕ) → q < n → byte s q ≡ byte (take n s) q
    same q h = sym (get_or-take n s q 0 h)

    short : n < length s → total s < 4 → judged k (take n s) ≡ judged k s
    short h l =
        judged-head k (take n s) (omega (arith, taken h)) (omega (arith, same 2 (omega arith)))
        ∙ ap₂ by_head (sym (same 0 (omega arith))) (sym (same 1 (omega arith))) ∙ sym (judged-head k s (omega arith) l)

    long : n < length s → 4 ≤ total s → judged k (take n s) ≡ judged k s
    long h l =
        sym
        (judged-same s (take n s) l (λ q _ j. same q (omega (arith, octets 2))) (omega (arith, octets 2)) (omega (arith, octets 2, taken h)) k)

-- What is lent past an image: over 65,536 bytes are refused whatever they are, so 65,537 are enough for the judge's answer; and bytes that agree with an
-- accepted image up to its StructLen are accepted as it is. Assumes nothing.
use Rattle.std.specs.Prelude.{ℕ, ◌≤◌, ◌<◌, List, ◌≡◌, length, take, Ok}
use Rattle.std.proofs.Common.{inl, inr, sym, ap, ◌∙◌, arith, length-take, take_all, get_or-take, length-take-le, lt-ltb, le-ltb}
use Rattle.board_layout.specs.Layout.{struct_len, header_length}
use Rattle.board_layout.specs.declared.Header.TheVariants.{Short}
use Rattle.board_rules.specs.Judged.{judged}
use Rattle.board_rules.specs.Rules.{rule20}
use Rattle.board_rules.proofs.laws.Accepted.{lent-within, struct-len-within, struct-len-least}
use Rattle.board_rules.proofs.laws.Same.{judged-same}
use Rattle.chain.proofs.laws.Below.{below}
use Rattle.kinds.specs.declared.Kinds.{Kinds}
use Rattle.octets.proofs.laws.Same.{Same}
use Rattle.verdict.specs.Verdict.{refusal}

-- over 65,536 bytes lent: 20 at 0
pub over-long : (k : Kinds) (s : List ℕ) → 65536 < length s → judged k s ≡ refusal 20 0
unfolding judged rule20
over-long k s h = rw (le-ltb (length s) (header_length Short) (omega arith), lt-ltb 65536 (length s) h)

-- so n bytes of an image, n over 65,536, are judged as the image is
pub judged-front : (k : Kinds) (s : List ℕ) (n : ℕ) → 65536 < n → judged k (take n s) ≡ judged k s
judged-front k s n h =
    elim (below n (length s)) [
      | inl more ↦ over-long k (take n s) (simp length-take (omega arith)) ∙ sym (over-long k s (omega arith))
      | inr whole ↦ ap (judged k) (take_all n s whole)
    ]

-- what agrees with an accepted image up to its StructLen, lent whole and not too long, is accepted with the same count
pub same-accepted :
    (k : Kinds) (s t : List ℕ) (count : ℕ) → judged k s ≡ Ok count → Same s t 0 (struct_len s) → struct_len s ≤ length t → length t ≤ 65536
    → judged k t ≡ Ok count
same-accepted k s t count e same whole most =
    let within = struct-len-within k s count e in
    sym (judged-same s t (struct-len-least k s count e) same within.1 whole (lent-within k s count e).1 most k) ∙ e

-- so its first StructLen bytes are
pub front-accepted : (k : Kinds) (s : List ℕ) (count : ℕ) → judged k s ≡ Ok count → judged k (take (struct_len s) s) ≡ Ok count
front-accepted k s count e =
    let within = struct-len-within k s count e in
    let long : length (take (struct_len s) s) ≡ struct_len s = length-take-le (struct_len s) s within.1 in
    same-accepted k s (take (struct_len s) s) count e (λ q _ h. sym (get_or-take (struct_len s) s q 0 h)) (omega (arith, long))
    (omega (arith, long, within.1, (lent-within k s count e).1))

-- An image that is accepted, and another that agrees with it up to its StructLen, as does the image with other bytes after it: that one has the same `$PromSig`,
-- and is accepted too if it is not too long. Assumes nothing.
use Rattle.std.specs.Prelude.{ℕ, ◌+◌, ◌≤◌, List, ◌++◌, ◌≡◌, length, Ok}
use Rattle.std.proofs.Common.{sym, arith, length-append}
use Rattle.std.proofs.Math.ListN.{get_or-append}
use Rattle.board_layout.specs.Layout.{struct_len, structures}
use Rattle.board_layout.specs.Places.{head_size}
use Rattle.board_layout.proofs.laws.Same.{struct-len-same, head-same}
use Rattle.board_rules.specs.Judged.{judged}
use Rattle.board_rules.specs.Rules.{prom_sig_at}
use Rattle.board_rules.proofs.laws.Accepted.{struct-len-within, struct-len-least, structures-fit}
use Rattle.board_rules.proofs.laws.Front.{same-accepted}
use Rattle.board_rules.proofs.laws.Walk.{Fits}
use Rattle.board_writer.proofs.laws.Covered.{prom-sig-agree}
use Rattle.chain.proofs.laws.All.{all-map}
use Rattle.kinds.specs.declared.Kinds.{Kinds}
use Rattle.octets.proofs.laws.Same.{Same}

module _ (k : Kinds) (s t : List ℕ) (count : ℕ) (e : judged k s ≡ Ok count) (same : Same s t 0 (struct_len s)) where
  -- StructLen is at least 20h
  least : 0x20 ≤ struct_len s
  least = struct-len-least k s count e

  -- the other has the same `$PromSig`
  pub same-signed : prom_sig_at t ≡ prom_sig_at s
  same-signed =
      sym
      (prom-sig-agree s t (struct-len-same s t least same)
      (all-map (Fits s) (λ p. Same s t p (p + head_size)) (λ p f. head-same s t least same p f.room) (structures s) (structures-fit k s count e)))

-- ---- with other bytes after it
module _ (k : Kinds) (s rest : List ℕ) (count : ℕ) (e : judged k s ≡ Ok count) where
  -- it agrees up to StructLen
  front : Same s (s ++ rest) 0 (struct_len s)
  front q _ h = sym (get_or-append s rest 0 q (omega (arith, (struct-len-within k s count e).1)))

  -- so it is accepted, and its `$PromSig` is the same
  pub front-accepted : length (s ++ rest) ≤ 65536 → judged k (s ++ rest) ≡ Ok count
  front-accepted =
      same-accepted k s (s ++ rest) count e front (omega (arith, (struct-len-within k s count e).1, length-append s rest))

  pub front-signed : prom_sig_at (s ++ rest) ≡ prom_sig_at s
  front-signed = same-signed k s (s ++ rest) count e front

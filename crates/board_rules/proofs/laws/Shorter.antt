-- What a reader accepts, a reader with a shorter list accepts, with the same count. Only rules 32 and 33 depend on the list: they ask of the known structures,
-- and the shorter list knows no more. Assumes nothing.
use Rattle.std.specs.Prelude.{ℕ, cond, List, ◌≡◌, refl, length, None, Ok}
use Rattle.board_fields.specs.Inside.{bad_inside}
use Rattle.board_fields.specs.Reserved.{reserved_used}
use Rattle.board_layout.specs.Layout.{shape_at, structures}
use Rattle.board_layout.specs.Shapes.{knows}
use Rattle.board_layout.specs.declared.Shape.{Shape}
use Rattle.board_layout.proofs.laws.Shapes.{knows-less}
use Rattle.board_rules.specs.Judged.{rules, judged}
use Rattle.board_rules.specs.Rules.{on_known, rule32, rule33}
use Rattle.chain.proofs.laws.Checks.{mark-weaker}
use Rattle.chain.specs.First.{first}
use Rattle.chain.specs.Found.{Found}
use Rattle.chain.proofs.laws.All.{all-of}
use Rattle.chain.proofs.laws.First.{first-weaker}
use Rattle.kinds.specs.Kinds.{Contains}
use Rattle.kinds.specs.declared.Kinds.{Kinds}
use Rattle.verdict.proofs.laws.Accepted.{weaker-accepts}

same : {A : Type 0} → A → A
same a = a

module _ (longer shorter : Kinds) (c : Contains longer shorter) (s : List ℕ) where
  -- a rule on the known structures
  known-weaker : (rule : ℕ → Shape → Found) → first (on_known longer s rule) (structures s) ≡ None → first (on_known shorter s rule) (structures s) ≡ None
  known-weaker rule =
      first-weaker (on_known longer s rule) (on_known shorter s rule) (structures s)
      (all-of (λ p. on_known longer s rule p ≡ None → on_known shorter s rule p ≡ None)
      (λ p.
      mark-weaker (λ t. cond t (rule p (shape_at s p)) None) refl (knows longer (shape_at s p)) (knows shorter (shape_at s p)) (knows-less longer shorter c (shape_at s p)))
      (structures s))

  rule32-weaker : rule32 longer s ≡ None → rule32 shorter s ≡ None
  unfolding rule32
  rule32-weaker = known-weaker (reserved_used s)

  rule33-weaker : rule33 longer s ≡ None → rule33 shorter s ≡ None
  unfolding rule33
  rule33-weaker = known-weaker (bad_inside s)

-- what the reader with the longer list accepts, the reader with the shorter accepts, with the same count
pub shorter-accepts : (longer shorter : Kinds) → Contains longer shorter → (s : List ℕ) (n : ℕ) → judged longer s ≡ Ok n → judged shorter s ≡ Ok n
unfolding judged
shorter-accepts longer shorter c s n =
    weaker-accepts (rules longer s) (rules shorter s) (Ok (length (structures s))) (Ok (length (structures s))) n
    (same, (same, (same, (same, (same, (same, (same, (same, (same, (same, (same, (same, (same, (rule32-weaker longer shorter c s, (rule33-weaker longer shorter c s, tt)))))))))))))))
    same

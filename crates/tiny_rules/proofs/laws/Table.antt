-- The judge goes by the paper's table: it refuses with n at p exactly where the lowest rule that is broken is n and p is the smallest place where it is, and
-- accepts exactly where no rule is broken. From what each rule's search finds. Assumes nothing.
use Rattle.std.specs.Prelude.{ℕ, List, ◌↔◌, ◌≡◌, length, Ok}
use Rattle.kinds.specs.declared.Kinds.{Kinds}
use Rattle.tiny_layout.specs.Layout.{items}
use Rattle.tiny_rules.specs.Broken.{table}
use Rattle.tiny_rules.specs.Judged.{rules, judged}
use Rattle.tiny_rules.proofs.laws.BrokenData.{finds10, finds11}
use Rattle.tiny_rules.proofs.laws.BrokenHead.{finds1, finds2, finds3, finds4, finds5}
use Rattle.tiny_rules.proofs.laws.BrokenItems.{finds6, finds7, finds8, finds9}
use Rattle.verdict.specs.Table.{Unbroken, FirstBroken}
use Rattle.verdict.specs.Verdict.{refusal}
use Rattle.verdict.proofs.laws.Table.{Searched, row}
use Rattle.verdict.proofs.laws.Table as verdict

module _ (k : Kinds) (s : List ℕ) where
  -- the searches, row by row; rule 9 is asked only where rule 8 is not broken
  pub searched : Searched (table k s) (rules k s)
  searched =
      row (finds1 k s) λ e1. row (finds2 k s) λ e2. row (finds3 k s) λ e3. row (finds4 k s) λ e4. row (finds5 k s) λ e5. row (finds6 k s) λ e6.
      row (finds7 k s) λ e7. row (finds8 k s) λ e8. row (finds9 k s e8) λ e9. row (finds10 k s) λ e10. row (finds11 k s) λ e11. tt

  -- refused exactly by the first broken rule, at the smallest place where it is broken
  pub refused-exactly : (n p : ℕ) → (judged k s ≡ refusal n p) ↔ FirstBroken (table k s) n p
  unfolding judged
  refused-exactly n p = verdict.refused-exactly (length (items s)) (table k s) (rules k s) searched n p

  -- accepted exactly where no rule is broken, with the count of the items
  pub accepted-exactly : (n : ℕ) → (judged k s ≡ Ok n) ↔ (Unbroken (table k s) × (length (items s) ≡ n))
  unfolding judged
  accepted-exactly n = verdict.accepted-exactly (length (items s)) (table k s) (rules k s) searched n

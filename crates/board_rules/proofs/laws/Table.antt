-- The judge of board images goes by the paper's table: each rule's search finds the smallest place where its row is broken, given that the rules before it are not,
-- and so an image is refused with n at p exactly where the first broken row is n, first broken at p, and accepted exactly where no row is. Assumes nothing.
use Rattle.std.specs.Prelude.{ℕ, List, ◌↔◌, ◌≡◌, length, Ok}
use Rattle.board_layout.specs.Layout.{structures}
use Rattle.board_rules.specs.Broken.{table}
use Rattle.board_rules.specs.Judged.{rules, judged}
use Rattle.board_rules.proofs.laws.BrokenFields.{finds29, finds30, finds31, finds34}
use Rattle.board_rules.proofs.laws.BrokenHeader.{finds20, finds21, finds22, finds27}
use Rattle.board_rules.proofs.laws.BrokenHeads.{finds26, finds28}
use Rattle.board_rules.proofs.laws.BrokenKnown.{finds32, finds33}
use Rattle.board_rules.proofs.laws.BrokenOrder.{finds25}
use Rattle.board_rules.proofs.laws.BrokenWalk.{finds23, finds24}
use Rattle.kinds.specs.declared.Kinds.{Kinds}
use Rattle.verdict.specs.Table.{Unbroken, FirstBroken}
use Rattle.verdict.specs.Verdict.{refusal}
use Rattle.verdict.proofs.laws.Table.{Searched, row}
use Rattle.verdict.proofs.laws.Table as verdict

module _ (k : Kinds) (s : List ℕ) where
  -- the searches, row by row
  pub searched : Searched (table k s) (rules k s)
  searched =
      row (finds20 k s) λ e20. row (finds21 k s) λ e21. row (finds22 k s) λ e22. row (finds23 k s) λ e23. row (finds24 k s) λ e24.
      row (finds25 k s e21 e23) λ e25. row (finds26 k s e21 e25) λ e26. row (finds27 k s e21 e25) λ e27. row (finds28 k s e25) λ e28.
      row (finds29 k s e21 e25) λ e29. row (finds30 k s e25) λ e30. row (finds34 k s e25) λ e34. row (finds31 k s e25) λ e31. row (finds32 k s) λ e32.
      row (finds33 k s) λ e33. tt

  -- refused with n at p: n is the first row that is broken, and p its smallest place
  pub refused-exactly : (n p : ℕ) → (judged k s ≡ refusal n p) ↔ FirstBroken (table k s) n p
  unfolding judged
  refused-exactly = verdict.refused-exactly (length (structures s)) (table k s) (rules k s) searched

  -- accepted with n: no row is broken, and n structures are counted
  pub accepted-exactly : (n : ℕ) → (judged k s ≡ Ok n) ↔ (Unbroken (table k s) × (length (structures s) ≡ n))
  unfolding judged
  accepted-exactly = verdict.accepted-exactly (length (structures s)) (table k s) (rules k s) searched

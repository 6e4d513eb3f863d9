-- The judge of tiny images: the table of rules in its order. Nothing else decides acceptance. Assumes nothing.
use Rattle.std.specs.Prelude.{ℕ, List, [], ◌∷◌, length, Ok}
use Rattle.chain.specs.Found.{Found}
use Rattle.kinds.specs.declared.Kinds.{Kinds}
use Rattle.tiny_layout.specs.Layout.{items}
use Rattle.tiny_rules.specs.Rules.{rule1, rule2, rule3, rule4, rule5, rule6, rule7, rule8, rule9, rule10, rule11}
use Rattle.verdict.specs.Verdict.{answer}
use Rattle.verdict.specs.Answers.{Judged}

-- the table: each rule with its number
abbrev pub rules : Kinds → List ℕ → List (ℕ × Found)
rules k s =
    (1, rule1 s)
    ∷ (2, rule2 s)
    ∷ (3, rule3 s)
    ∷ (4, rule4 s)
    ∷ (5, rule5 s)
    ∷ (6, rule6 s)
    ∷ (7, rule7 s)
    ∷ (8, rule8 k s)
    ∷ (9, rule9 k s)
    ∷ (10, rule10 k s)
    ∷ (11, rule11 k s)
    ∷ []

-- the refusal by the first rule that is broken, or accepted with the count of items
unfoldable pub judged : Kinds → List ℕ → Judged
judged k s = answer (rules k s) (Ok (length (items s)))

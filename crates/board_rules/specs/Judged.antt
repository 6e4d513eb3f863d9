-- The judge of board images: the table of rules in its order. Nothing else decides acceptance. Assumes nothing.
use Rattle.std.specs.Prelude.{ℕ, List, [], ◌∷◌, length, Ok}
use Rattle.board_layout.specs.Layout.{structures}
use Rattle.board_rules.specs.Rules.{rule20, rule21, rule22, rule23, rule24, rule25, rule26, rule27, rule28, rule29, rule30, rule31, rule32, rule33, rule34}
use Rattle.chain.specs.Found.{Found}
use Rattle.kinds.specs.declared.Kinds.{Kinds}
use Rattle.verdict.specs.Verdict.{answer}
use Rattle.verdict.specs.Answers.{Judged}

-- the table: each rule with its number. 34 "comes after 30 and before 31"
abbrev pub rules : Kinds → List ℕ → List (ℕ × Found)
rules k s =
    (20, rule20 s)
    ∷ (21, rule21 s)
    ∷ (22, rule22 s)
    ∷ (23, rule23 s)
    ∷ (24, rule24 s)
    ∷ (25, rule25 s)
    ∷ (26, rule26 s)
    ∷ (27, rule27 s)
    ∷ (28, rule28 s)
    ∷ (29, rule29 s)
    ∷ (30, rule30 s)
    ∷ (34, rule34 s)
    ∷ (31, rule31 s)
    ∷ (32, rule32 k s)
    ∷ (33, rule33 k s)
    ∷ []

-- the refusal by the first rule that is broken, or accepted with the count of items
unfoldable pub judged : Kinds → List ℕ → Judged
judged k s = answer (rules k s) (Ok (length (structures s)))

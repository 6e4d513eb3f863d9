-- The first place at which a rule is broken. A rule says of an item where the item breaks it. Assumes nothing.
use Rattle.std.specs.Prelude.{ℕ, Bool, true, false, List, [], ◌∷◌, Some, None}
use Rattle.chain.specs.Chain.{chain}
use Rattle.chain.specs.Found.{Found}

-- the first answer, or the second where the first is nothing
abbrev pub or_else : Found → Found → Found
or_else (Some p) f = Some p
or_else None f = f

-- place p where the test says that the rule is broken
abbrev pub when : Bool → ℕ → Found
when true p = Some p
when false p = None

-- the first of several checks that finds something
abbrev pub checks : List Found → Found
checks [] = None
checks (f ∷ fs) = or_else f (checks fs)

-- what the first item of the list that breaks the rule says
unfoldable pub first : (ℕ → Found) → List ℕ → Found
first rule [] = None
first rule (x ∷ xs) = let rest = first rule xs in or_else (rule x) rest

-- the same along the chain from p up to `end`
abbrev pub search : (ℕ → Found) → (ℕ → ℕ) → ℕ → ℕ → Found
search rule next end p = first rule (chain next end p)

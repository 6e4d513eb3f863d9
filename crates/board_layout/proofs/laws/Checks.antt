-- Checks written with the library's `then_some` and `or`, and what they say by `when` and `checks`. Assumes nothing.
use Rattle.std.specs.Prelude.{ℕ, Bool, true, false, List, [], ◌∷◌, ◌≡◌, refl, Some, None}
use Rattle.std.specs.Option.{option_or}
use Rattle.std.specs.Bool.{then_some}
use Rattle.std.proofs.Common.{sym, ◌∙◌}
use Rattle.chain.specs.First.{or_else, when, checks}
use Rattle.chain.specs.Found.{Found}
use Rattle.chain.proofs.laws.First.{or_else-nothing}

-- the place where the test says that the rule is broken
pub then-when : (b : Bool) (p : ℕ) → then_some b p ≡ when b p
then-when true p = refl
then-when false p = refl

-- checks joined by `or` say what the first of them says that finds something
join : (f g : Found) (fs : List Found) → or_else (option_or f g) (checks fs) ≡ checks (f ∷ g ∷ fs)
join (Some p) g fs = refl
join None g fs = refl

pub two-checks : (f g : Found) → option_or f g ≡ checks (f ∷ g ∷ [])
two-checks (Some p) g = refl
two-checks None g = sym (or_else-nothing g)

pub three-checks : (f g h : Found) → option_or (option_or f g) h ≡ checks (f ∷ g ∷ h ∷ [])
three-checks f g h = two-checks (option_or f g) h ∙ join f g (h ∷ [])

pub four-checks : (f g h i : Found) → option_or (option_or (option_or f g) h) i ≡ checks (f ∷ g ∷ h ∷ i ∷ [])
four-checks f g h i = three-checks (option_or f g) h i ∙ join f g (h ∷ i ∷ [])

pub five-checks : (f g h i j : Found) → option_or (option_or (option_or (option_or f g) h) i) j ≡ checks (f ∷ g ∷ h ∷ i ∷ j ∷ [])
five-checks f g h i j = four-checks (option_or f g) h i j ∙ join f g (h ∷ i ∷ j ∷ [])

pub six-checks : (f g h i j k : Found) → option_or (option_or (option_or (option_or (option_or f g) h) i) j) k ≡ checks (f ∷ g ∷ h ∷ i ∷ j ∷ k ∷ [])
six-checks f g h i j k = five-checks (option_or f g) h i j k ∙ join f g (h ∷ i ∷ j ∷ k ∷ [])

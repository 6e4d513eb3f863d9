-- What a search owes: the smallest of the places with a property. The property is said without the search. Assumes nothing.
use Rattle.std.specs.Prelude.{ℕ, ◌≤◌, List, ◌≡◌, Some, None}
use Rattle.chain.specs.Nth.{nth}
use Rattle.chain.specs.Found.{Found}

-- p is one of the places of a list
abbrev pub Among : List ℕ → ℕ → Type 0
Among l p = (i : ℕ) × (nth l i ≡ Some p)

-- p is the smallest place with the property
abbrev pub Smallest : (ℕ → Type 0) → ℕ → Type 0
Smallest B p = B p × ((q : ℕ) → B q → p ≤ q)

-- no place has it
abbrev pub Nowhere : (ℕ → Type 0) → Type 0
Nowhere B = (q : ℕ) → B q → ⊥

-- what is found is the smallest place with the property, and nothing is found where no place has it
abbrev pub Finds : (ℕ → Type 0) → Found → Type 0
Finds B (Some p) = Smallest B p
Finds B None = Nowhere B

-- What a closure tells of the items below `end`: where the next one starts, and where a rule is broken. Assumes nothing.
use Rattle.std.specs.Prelude.{ℕ, ◌<◌, ◌≡◌}
use Rattle.chain.specs.Found.{Found}

-- each item starts after the one before it
abbrev pub Grows : (ℕ → ℕ) → Type 0
Grows step = (p : ℕ) → p < step p

-- the answer at each place is what `step` says there
abbrev pub Follows : (ℕ → ℕ → Type 0) → ℕ → (ℕ → ℕ) → Type 0
Follows answers end step = (p q : ℕ) → p < end → answers p q → q ≡ step p

abbrev pub Asks : (ℕ → Found → Type 0) → ℕ → (ℕ → Found) → Type 0
Asks answers end said = (p : ℕ) (f : Found) → p < end → answers p f → f ≡ said p

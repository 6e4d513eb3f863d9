-- A place inside an item of a list of items: the item at p has a property, and what counts as inside it are the places from `from p` up to `to p`.
-- Assumes nothing.
use Rattle.std.specs.Prelude.{ℕ, ◌≤◌, ◌<◌, List, ◌≡◌, Some}
use Rattle.chain.specs.Nth.{nth}

pub record Inside (items : List ℕ) (has : ℕ → Type 0) (from to : ℕ → ℕ) (q : ℕ) : Type 0 where
  pub number : ℕ
  pub place : ℕ
  pub stands : nth items number ≡ Some place
  pub property : has place
  pub past : from place ≤ q
  pub before : q < to place

-- A closure that follows a chain goes to a later place each time. Assumes nothing.
use Rattle.std.specs.Prelude.{ℕ, ◌<◌}
use Rattle.std.proofs.Common.{arith}
use Rattle.chain.specs.Along.{Follows, Grows}

pub goes-on :
    {answers : ℕ → ℕ → Type 0} {end : ℕ} (step : ℕ → ℕ) → Grows step → Follows answers end step
    → (p q : ℕ) → p < end → answers p q → p < q
goes-on step grows follows p q h e = let on = grows p in let is = follows p q h e in omega (arith, on, is)

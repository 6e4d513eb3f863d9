-- `serial::only_serial` meets its contract. Two searches, the second from behind what the first found, tell the only one (`only-none`, `only-one`, `only-two`).
-- Assumes nothing.
use Rattle.std.specs.Bool.{then_some}
use Rattle.std.specs.Option.{is_some}
use Rattle.std.proofs.Common.{◌≡◌, refl, ℕ, Bool, true, false, not, List, sym, ◌∙◌, arith, Some, None}
use Rattle.chain.specs.Found.{Found}
use Rattle.chain.specs.Keep.{only}
use Rattle.chain.proofs.laws.Keep.{only-none, only-one, only-two}
use Rattle.tiny_layout.specs.Layout.{check_place, next, items}
use Rattle.tiny_layout.proofs.laws.Layout.{next-grows}
use Rattle.tiny_layout.proofs.laws.Pool.{known-found}
use Rattle.tiny.specs.Answers.{is_serial, serials}
use Rattle.tiny.proofs.serial.only_serial.Goals as goal

-- what the second search found tells whether the first item is the only one
by-second : (l : List ℕ) (b : Bool) (f : Found) (p : ℕ) → is_some f ≡ not b → (f ≡ None → only l ≡ Some p) → ((q : ℕ) → f ≡ Some q → only l ≡ None)
    → then_some b p ≡ only l
by-second l true (Some q) p d one two = cc
by-second l false (Some q) p d one two = sym (two q refl)
by-second l true None p d one two = sym (one refl)
by-second l false None p d one two = cc

pub returns-in_err-at : goal.returns-in_err-at
returns-in_err-at c = let a = c.args in
    c.from_residual.ensures ∙ sym (only-none (is_serial a.kinds a.image.now) (items a.image.now) (sym c.first_known.ensures ∙ c.in_err-at.was))

pub overflow_cast-at : goal.overflow_cast-at
overflow_cast-at c = let a = c.args in
    omega (arith, (known-found a.kinds a.image.now 0x10 _ (sym c.first_known.ensures ∙ c.in_ok-at.was)).to, c.type_inv.image 2)

pub returns : goal.returns
returns c = let a = c.args in
    let s = a.image.now in
    let found = sym c.first_known.ensures ∙ c.in_ok-at.was in
    let second = sym (rw c.next_place-after.ensures at c.first_known-2.ensures) in
    c.then_some.ensures
    ∙ by-second (serials a.kinds s) _ _ _ c.is_none.ensures
    (λ e. only-one (is_serial a.kinds s) (next s) (check_place s) (next-grows s) 3 _ found (second ∙ e))
    (λ q e. only-two (is_serial a.kinds s) (next s) (check_place s) (next-grows s) 3 _ q found (second ∙ e))

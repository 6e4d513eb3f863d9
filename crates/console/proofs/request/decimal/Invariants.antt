-- `request::decimal` meets its contract. The loop's invariant: behind the number so far, the digits from the place on spell the whole number. Assumes nothing.
use Rattle.std.proofs.Common.{◌≡◌, ◌≤◌, drop}
use Rattle.console.specs.Request.{decimal_from}
use Rattle.console.proofs.request.decimal.Given as goal

abbrev pub invariant-loop-c : goal.invariant-loop-c
invariant-loop-c l = (decimal_from l.n (drop l.c-index l.text) ≡ decimal_from 0 l.text) × (l.n ≤ l.most)

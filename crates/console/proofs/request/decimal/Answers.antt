-- `request::decimal` meets its contract: a digit with which the number is over the most. Assumes nothing.
use Rattle.std.proofs.Common.{◌≡◌, ◌∙◌, ap, get_or}
use Rattle.std.specs.Option.{unwrap_or}
use Rattle.console.specs.Request.{value}
use Rattle.console.proofs.laws.Request.{digit_or, decimal_over}
use Rattle.console.proofs.request.decimal.Goals as goal

pub returns-then-bound-n : goal.returns-then-bound-n
returns-then-bound-n c =
    let v : c.unwrap_or.result ≡ value (get_or c.args.text.now c.loop-c.c-index 0) = c.unwrap_or.ensures ∙ ap (λ o. unwrap_or o 16) c.value.ensures ∙ digit_or _ in
    (decimal_over _ _ _ _ c.loop-c-test.true v c.if-bound-n.true c.loop-c.invariant.0, tt)

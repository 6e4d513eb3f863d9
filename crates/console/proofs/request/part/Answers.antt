-- `request::part` meets its contract: by the parts that `split` gives. Assumes nothing.
use Rattle.std.proofs.Common.{ℕ, List, [], Bor, refl, ◌∙◌, ap, rules, tests, eqb}
use Rattle.std.specs.Option.{unwrap_or}
use Rattle.std.proofs.lemmas.Iterator.Consumers.{nth_from_yields_List}
use Rattle.std.proofs.lemmas.Iterator.Splits.{YieldsList-from_slice_split}
use Rattle.console.proofs.laws.Request.{part-split, shown-or}
use Rattle.console.proofs.request.part.Goals as goal

pub returns : goal.returns
returns c =
    let found = nth_from_yields_List c.nth.result _ c.args.n c.nth.ensures.ran (YieldsList-from_slice_split _ (λ (b : ℕ). eqb b 0x3B) c.args.line.now c.split.ensures.rest c.split.ensures.done c.split.ensures.closure (λ x r q k. search (rules, tests))) in
    shown-or (λ (r : Bor (List ℕ)). r.now) c.nth.result _ _ c.unwrap_or.ensures refl ∙ ap (λ o. unwrap_or o []) found ∙ part-split c.args.line.now c.args.n

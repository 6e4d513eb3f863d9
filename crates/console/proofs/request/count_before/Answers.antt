-- `request::count_before` meets its contract: by what `position` finds. Assumes nothing.
use Rattle.std.proofs.Common.{rules, tests}
use Rattle.std.proofs.lemmas.Iterator.{YieldsList-from_slice}
use Rattle.std.proofs.lemmas.Iterator.Search.{position_from_yields_List}
use Rattle.console.proofs.laws.Counts.{prefix_len_of_place}
use Rattle.console.proofs.laws.Request.{before-found}
use Rattle.console.proofs.request.count_before.Goals as goal

pub returns-clause-counted : goal.returns-clause-counted
returns-clause-counted g c = λ test computes.
    let found = position_from_yields_List test _ _ c.position.result c.position.ensures.ran (YieldsList-from_slice c.args.text.now c.iter.ensures.rest) (λ x b q k. search (rules, tests, computes)) in
    before-found test c.args.text.now _ _ found c.unwrap_or.ensures

pub returns-clause-within : goal.returns-clause-within
returns-clause-within g c = prefix_len_of_place _ c.position.result _ (search rules) c.unwrap_or.ensures

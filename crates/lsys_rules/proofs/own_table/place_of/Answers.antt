use Rattle.std.proofs.Common.{◌≡◌, Bool, not, rules, tests, ap, ◌∙◌, length, position, unwrap_or}
use Rattle.std.proofs.lemmas.Iterator.{YieldsList-from_slice}
use Rattle.std.proofs.lemmas.Iterator.Search.{position_from_yields_List}
use Rattle.lsys_spec.specs.Systems.{Own, comes_before}
use Rattle.lsys_rules.proofs.OwnOrder.{place_found}
use Rattle.lsys_rules.proofs.own_table.place_of.Goals as goal

pub returns : goal.returns
returns c =
    let p : Own → Bool = λ o. not (comes_before o.table c.args.table) in
    let found : c.position.result ≡ position p c.args.lists.now =
    position_from_yields_List p _ _ c.position.result c.position.ensures.ran (YieldsList-from_slice c.args.lists.now cc) (λ x b q k. search (rules, tests)) in
    c.unwrap_or.ensures ∙ ap (λ r. unwrap_or r (length c.args.lists.now)) found ∙ place_found c.args.table c.args.lists.now

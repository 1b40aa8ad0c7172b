use Rattle.std.proofs.Common.{map, ap, ◌∙◌, rules, ◌≡◌}
use Rattle.std.specs.Map.{keys_of}
use Rattle.lsys_rules.proofs.OwnOrder.{keys_tables}
use Rattle.lsys_rules.proofs.own_table.OwnTable.tables.Goals as goal

pub returns : goal.returns
returns c =
    let es = c.self.inside.lists.value.by_table.entries in
    let all : c.as_slice.result.now ≡ keys_of es = search rules in
    all ∙ keys_tables es c.self.invariant.tables ∙ ap (map (λ o. o.table)) c.self.view_is

use Rattle.std.proofs.Common.{rules, tests, ◌∙◌}
use Rattle.std.proofs.lemmas.Iterator.{YieldsList-from_slice}
use Rattle.std.proofs.lemmas.Iterator.Search.{any_from_yields_List}
use Rattle.lsys_expr.proofs.NameLemmas.{is_same, any-formal}
use Rattle.lsys_expr.proofs.names.is_formal.Goals as goal

pub returns : goal.returns
returns c =
    let formals = c.args.formals.now in
    any_from_yields_List (is_same c.args.name) _ _ _ c.any.ensures.ran (YieldsList-from_slice formals cc) (λ x b q k. search (rules, tests))
    ∙ any-formal formals c.args.name

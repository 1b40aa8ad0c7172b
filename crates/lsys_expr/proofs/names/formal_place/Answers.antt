use Rattle.std.proofs.Common.{◌≡◌, ◌<◌, rules, tests, ◌∙◌, length, arith}
use Rattle.std.specs.List.{position, position_or_len}
use Rattle.std.proofs.lemmas.Iterator.{YieldsList-from_slice}
use Rattle.std.proofs.lemmas.Iterator.Search.{position_from_yields_List}
use Rattle.std.proofs.lemmas.Bool.Decides.{nat_tests}
use Rattle.lsys_expr.proofs.NameLemmas.{is_same, first-formal, formal-found}
use Rattle.lsys_expr.proofs.names.formal_place.Goals as goal

pub unreachable-requires : goal.unreachable-requires
unreachable-requires c =
    let formals = c.args.formals.now in
    let found : c.position.result ≡ position (is_same c.args.name) formals =
    position_from_yields_List (is_same c.args.name) _ _ c.position.result c.position.ensures.ran (YieldsList-from_slice formals cc) (λ x b q k. search (rules, tests)) in
    let within : position_or_len (is_same c.args.name) formals < length formals = formal-found formals c.args.name c.requires.known in
    grind (arith, nat_tests, found, within, c.in-None.is)

pub returns : goal.returns
returns c =
    let formals = c.args.formals.now in
    let found : c.position.result ≡ position (is_same c.args.name) formals =
    position_from_yields_List (is_same c.args.name) _ _ c.position.result c.position.ensures.ran (YieldsList-from_slice formals cc) (λ x b q k. search (rules, tests)) in
    let within : position_or_len (is_same c.args.name) formals < length formals = formal-found formals c.args.name c.requires.known in
    let here : c.in-Some.place ≡ position_or_len (is_same c.args.name) formals = grind (arith, nat_tests, found, within, c.in-Some.is) in
    here ∙ first-formal formals c.args.name

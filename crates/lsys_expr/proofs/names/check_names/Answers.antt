use Rattle.std.proofs.Common.{◌≡◌, ◌-◌, List, None, rules, tests, ◌∙◌, ap, sym, take, drop}
use Rattle.std.specs.List.{position}
use Rattle.std.proofs.lemmas.Iterator.{YieldsList-from_slice}
use Rattle.std.proofs.lemmas.Iterator.Search.{position_from_yields_List}
use Rattle.lsys_syntax.specs.Checks.{is_unknown}
use Rattle.lsys_text.specs.declared.token_kind.Token.{Token}
use Rattle.lsys_text.specs.Tokens.{kind_of}
use Rattle.lsys_expr.specs.Parts.{names_of, counted_from}
use Rattle.lsys_expr.proofs.NameLemmas.{unknown_by_token}
use Rattle.lsys_expr.proofs.names.check_names.Goals as goal

pub returns-in_err-place : goal.returns-in_err-place
returns-in_err-place c =
    let part : List Token = take (c.args.to - c.args.from) (drop c.args.from c.args.tokens.now) in
    let found : c.position.result ≡ position (λ t. is_unknown (names_of c.args.formals.now) (kind_of t.kind)) part =
    position_from_yields_List (λ (t : Token). is_unknown (names_of c.args.formals.now) (kind_of t.kind)) _ _ c.position.result c.position.ensures.ran (YieldsList-from_slice part cc) (λ x b q k. search (rules, tests)) in
    let none : c.from_residual.result ≡ None = search rules in
    none ∙ ap (counted_from c.args.from) (sym c.in_err-place.was ∙ found ∙ unknown_by_token c.args.formals.now c.args.tokens.now c.args.from c.args.to)

pub returns : goal.returns
returns c =
    let part : List Token = take (c.args.to - c.args.from) (drop c.args.from c.args.tokens.now) in
    let found : c.position.result ≡ position (λ t. is_unknown (names_of c.args.formals.now) (kind_of t.kind)) part =
    position_from_yields_List (λ (t : Token). is_unknown (names_of c.args.formals.now) (kind_of t.kind)) _ _ c.position.result c.position.ensures.ran (YieldsList-from_slice part cc) (λ x b q k. search (rules, tests)) in
    ap (counted_from c.args.from) (sym c.in_ok-place.was ∙ found ∙ unknown_by_token c.args.formals.now c.args.tokens.now c.args.from c.args.to)

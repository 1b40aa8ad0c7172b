use Rattle.std.proofs.Common.{◌≡◌, ◌∙◌, Some, ap, sym, subst, map}
use Rattle.std.specs.Option.{IsSome}
use Rattle.lsys_syntax.specs.ExpressionPlaces.{read_expr}
use Rattle.lsys_text.specs.Tokens.{kind_of}
use Rattle.lsys_expr.specs.Parts.{stretch, unknown_in}
use Rattle.lsys_expr.specs.InsideExpr.{expression_spelled}
use Rattle.lsys_expr.proofs.Parsing.{part-kinds, spelled-is}
use Rattle.lsys_expr.proofs.Reading.{read-kinds}
use Rattle.lsys_expr.proofs.build.build_expr.Goals as goal

pub parse-requires-clause-spelled : goal.parse-requires-clause-spelled
parse-requires-clause-spelled c =
    let same : map kind_of c.deref.result.now ≡ stretch c.args.from c.args.to c.args.tokens.now =
    ap (map kind_of) (c.deref.ensures.value ∙ c.in_ok-kinds.ensures) ∙ part-kinds c.args.from c.args.to c.args.tokens.now in
    subst IsSome (ap read_expr (sym same)) c.requires.spelled

pub parse-requires-clause-known : goal.parse-requires-clause-known
parse-requires-clause-known c =
    let same : map kind_of c.deref.result.now ≡ stretch c.args.from c.args.to c.args.tokens.now =
    ap (map kind_of) (c.deref.ensures.value ∙ c.in_ok-kinds.ensures) ∙ part-kinds c.args.from c.args.to c.args.tokens.now in
    ap (unknown_in c.args.formals.now) same ∙ c.requires.known

pub new-requires : goal.new-requires
new-requires c =
    let kinds = c.in_ok-kinds.kinds.items in
    let same : map kind_of kinds ≡ stretch c.args.from c.args.to c.args.tokens.now = ap (map kind_of) c.in_ok-kinds.ensures ∙ part-kinds c.args.from c.args.to c.args.tokens.now in
    read-kinds (map kind_of kinds) (expression_spelled kinds) (spelled-is kinds (subst IsSome (ap read_expr (sym same)) c.requires.spelled))

pub returns-clause-spelled : goal.returns-clause-spelled
returns-clause-spelled c =
    let kinds = c.in_ok-kinds.kinds.items in
    let same : map kind_of kinds ≡ stretch c.args.from c.args.to c.args.tokens.now = ap (map kind_of) c.in_ok-kinds.ensures ∙ part-kinds c.args.from c.args.to c.args.tokens.now in
    ap read_expr (sym same) ∙ spelled-is kinds (subst IsSome (ap read_expr (sym same)) c.requires.spelled) ∙ ap Some (sym c.new.ensures.spelled)

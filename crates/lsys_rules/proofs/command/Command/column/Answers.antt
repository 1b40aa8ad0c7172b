use Rattle.std.proofs.Common.{◌≡◌, ◌<◌, length, get_or, subst, sym, ap, ◌∙◌, arith}
use Rattle.lsys_text.specs.Tokens.{LiesInLine}
use Rattle.lsys_reading.specs.Parsing.{column_of}
use Rattle.lsys_reading.proofs.TokenPlaces.{column-here, column-end}
use Rattle.lsys_rules.specs.Lines.{CommandLine}
use Rattle.lsys_rules.proofs.command.Command.column.Goals as goal

pub overflow_add-result : goal.overflow_add-result
overflow_add-result c =
    let token = c.in-Some.token.now in
    let there = c.in-Some.ensures.lookup in
    let short : c.args.place < length c.self.inside.line = subst (λ ts. c.args.place < length ts) c.tokens.ensures.tokens there.3.0 in
    let same : get_or c.self.inside.line c.args.place token ≡ token = ap (λ ts. get_or ts c.args.place token) (sym c.tokens.ensures.tokens) ∙ sym there.1 in
    let placed : LiesInLine c.self.inside.bytes token = subst (LiesInLine c.self.inside.bytes) same (c.self.invariant.placed c.args.place token short) in
    omega (arith, placed.0, placed.1, c.self.invariant.short)

pub returns-in-Some : goal.returns-in-Some
returns-in-Some c =
    let there = c.in-Some.ensures.lookup in
    column-here c.self.inside.bytes c.tokens.result.now c.args.place c.in-Some.token.now there.3.0 there.1
    ∙ ap (λ ts. column_of c.self.inside.bytes ts c.args.place) c.tokens.ensures.tokens ∙ ap (λ (l : CommandLine). column_of l.bytes l.tokens c.args.place) c.self.view_is

pub returns-in-None : goal.returns-in-None
returns-in-None c =
    column-end c.self.inside.bytes c.tokens.result.now c.args.place c.in-None.ensures.lookup.3
    ∙ ap (λ ts. column_of c.self.inside.bytes ts c.args.place) c.tokens.ensures.tokens ∙ ap (λ (l : CommandLine). column_of l.bytes l.tokens c.args.place) c.self.view_is

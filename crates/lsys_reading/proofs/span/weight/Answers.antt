use Rattle.std.proofs.Common.{arith, sym, ◌∙◌}
use Rattle.std.proofs.lemmas.Result.{err_from_is_err_and}
use Rattle.std.proofs.lemmas.Grind.{common_steps}
use Rattle.lsys_reading.specs.Tokens.{kinds_in}
use Rattle.lsys_reading.proofs.SpanLaws.{weight-ok, weight-err}
use Rattle.lsys_reading.proofs.span.weight.Goals as goal

pub returns-in_err-span-clause-read : goal.returns-in_err-span-clause-read
returns-in_err-span-clause-read c =
    let p = err_from_is_err_and c.from_residual.result c.from_residual.ensures.1 in
    rw (p.1, p.2) (weight-err c.args.form (kinds_in c.args.line.now) c.args.at c.peek.result c.peek.ensures (sym c.takes_weight.ensures ∙ c.if-not-takes_weight.false) c.in_err-span.field-0.0 c.in_err-span.ensures.read)

pub returns-clause-read : goal.returns-clause-read
returns-clause-read c =
    weight-ok c.args.form (kinds_in c.args.line.now) c.args.at c.peek.result c.peek.ensures (sym c.takes_weight.ensures ∙ c.if-not-takes_weight.false) c.in_ok-span.span c.in_ok-span.ensures.read

pub expression-requires : goal.expression-requires
expression-requires c = grind (arith, common_steps)

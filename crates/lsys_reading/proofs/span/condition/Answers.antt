use Rattle.std.proofs.Common.{arith, sym, ◌∙◌}
use Rattle.std.proofs.lemmas.Result.{err_from_is_err_and}
use Rattle.std.proofs.lemmas.Grind.{common_steps}
use Rattle.lsys_reading.specs.Tokens.{kinds_in}
use Rattle.lsys_reading.proofs.SpanLaws.{condition-ok, condition-err}
use Rattle.lsys_reading.proofs.span.condition.Goals as goal

pub returns-in_err-span-clause-read : goal.returns-in_err-span-clause-read
returns-in_err-span-clause-read c =
    let p = err_from_is_err_and c.from_residual.result c.from_residual.ensures.1 in
    rw (p.1, p.2) (condition-err (kinds_in c.args.line.now) c.args.at c.peek.result c.peek.ensures (sym c.is_colon.ensures ∙ c.if-not-is_colon.false) c.in_err-span.field-0.0 c.in_err-span.ensures.read)

pub returns-clause-read : goal.returns-clause-read
returns-clause-read c =
    condition-ok (kinds_in c.args.line.now) c.args.at c.peek.result c.peek.ensures (sym c.is_colon.ensures ∙ c.if-not-is_colon.false) c.in_ok-span.span c.in_ok-span.ensures.read

pub returns-then-not-is_colon-clause-read : goal.returns-then-not-is_colon-clause-read
returns-then-not-is_colon-clause-read c = grind (arith, common_steps)

pub expression-requires : goal.expression-requires
expression-requires c = grind (arith, common_steps)

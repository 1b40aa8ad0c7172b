use Rattle.std.proofs.Common.{sym, ◌∙◌, arith}
use Rattle.std.proofs.lemmas.Result.{err_from_is_err_and}
use Rattle.lsys_reading.specs.Tokens.{kinds_in}
use Rattle.lsys_reading.proofs.PatternLoops.{module-ok, module-err}
use Rattle.lsys_reading.proofs.patterns.module.Goals as goal

pub returns-in_err-formals-clause-read : goal.returns-in_err-formals-clause-read
returns-in_err-formals-clause-read c =
    let ks = kinds_in c.args.line.now in
    let p = err_from_is_err_and c.from_residual.result c.from_residual.ensures.1 in
    rw (p.1, p.2) (module-err c.args.name ks c.args.at c.peek.result c.peek.ensures (sym c.is_open.ensures ∙ c.if-not-is_open.false) c.in_err-formals.field-0.0 c.in_err-formals.ensures.read)

pub returns-clause-read : goal.returns-clause-read
returns-clause-read c =
    let ks = kinds_in c.args.line.now in
    module-ok c.args.name ks c.args.at c.peek.result c.peek.ensures (sym c.is_open.ensures ∙ c.if-not-is_open.false) c.in_ok-formals.field-0 c.in_ok-formals.ensures.read c.in_ok-formals.ensures.some

pub returns-clause-place : goal.returns-clause-place
returns-clause-place c = let p = c.in_ok-formals.ensures.place in (omega (arith, p.0), p.1)

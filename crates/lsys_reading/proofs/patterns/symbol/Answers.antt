use Rattle.std.proofs.Common.{Some, ap, sym, ◌∙◌, arith}
use Rattle.std.proofs.lemmas.Result.{err_from_is_err_and}
use Rattle.std.proofs.lemmas.Grind.{common_steps}
use Rattle.lsys_reading.specs.Tokens.{kinds_in}
use Rattle.lsys_reading.proofs.TokenPlaces.{length-kinds}
use Rattle.lsys_reading.proofs.PatternLoops.{symbol-none, symbol-ok, symbol-err}
use Rattle.lsys_reading.proofs.patterns.symbol.Goals as goal

pub returns-in_default-clause-read : goal.returns-in_default-clause-read
returns-in_default-clause-read c =
    let ks = kinds_in c.args.line.now in
    symbol-none c.args.standing ks c.args.at c.peek.result c.peek.ensures (omega (arith, length-kinds c.args.line.now.tokens.items, c.requires.within)) c.in_default.ensures

pub returns-in_err-pattern-in-Name-clause-read : goal.returns-in_err-pattern-in-Name-clause-read
returns-in_err-pattern-in-Name-clause-read c =
    let ks = kinds_in c.args.line.now in
    let p = err_from_is_err_and c.from_residual.result c.from_residual.ensures.1 in
    rw (p.1, p.2) (symbol-err c.args.standing ks c.args.at c.peek.result c.peek.ensures c.in-Name.name c.in_err-pattern-in-Name.field-0.0 (ap (λ o. Some o) (sym c.in-Name.is) ∙ c.in-Some.ensures) c.in_err-pattern-in-Name.ensures.read)

pub returns-in_ok-pattern-in-Name-clause-read : goal.returns-in_ok-pattern-in-Name-clause-read
returns-in_ok-pattern-in-Name-clause-read c =
    let ks = kinds_in c.args.line.now in
    symbol-ok c.args.standing ks c.args.at c.peek.result c.peek.ensures c.in-Name.name c.in_ok-pattern-in-Name.field-0 (ap (λ o. Some o) (sym c.in-Name.is) ∙ c.in-Some.ensures) c.in_ok-pattern-in-Name.ensures.read

pub module-requires : goal.module-requires
module-requires c = grind (arith, common_steps)

pub returns-in-Push-clause-place : goal.returns-in-Push-clause-place
returns-in-Push-clause-place c = grind (arith, common_steps)

pub returns-in-Pop-clause-place : goal.returns-in-Pop-clause-place
returns-in-Pop-clause-place c = grind (arith, common_steps)

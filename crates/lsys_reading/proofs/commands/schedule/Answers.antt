use Rattle.std.proofs.Common.{◌<◌, length, arith}
use Rattle.std.proofs.lemmas.Result.{err_from_is_err_and}
use Rattle.std.proofs.lemmas.Grind.{common_steps}
use Rattle.lsys_reading.specs.Tokens.{kinds_in}
use Rattle.lsys_reading.proofs.TokenPlaces.{length-kinds}
use Rattle.lsys_reading.proofs.LineParts.{tables-refused}
use Rattle.lsys_reading.proofs.commands.schedule.Goals as goal

pub returns-in_err-word-clause-rest : goal.returns-in_err-word-clause-rest
returns-in_err-word-clause-rest c =
    let p = err_from_is_err_and c.from_residual-in_err-word.result c.from_residual-in_err-word.ensures.1 in
    let more : c.tables.at < length (kinds_in c.args.line.now) = omega (arith, length-kinds c.args.line.now.tokens.items) in
    rw (p.1, p.2) (tables-refused (kinds_in c.args.line.now) c.tables.at c.tables.tables.items c.tables.invariant more c.in_err-word.field-0.0 c.in_err-word.ensures)

pub tables-preserved : goal.tables-preserved
tables-preserved c = grind (arith, common_steps)

pub returns-clause-rest : goal.returns-clause-rest
returns-clause-rest c = grind (arith, common_steps)

use Rattle.std.proofs.Common.{◌<◌, length, arith}
use Rattle.std.proofs.lemmas.Result.{err_from_is_err_and}
use Rattle.std.proofs.lemmas.Grind.{common_steps}
use Rattle.lsys_reading.specs.Tokens.{kinds_in}
use Rattle.lsys_reading.proofs.TokenPlaces.{length-kinds}
use Rattle.lsys_reading.proofs.LineParts.{names-refused}
use Rattle.lsys_reading.proofs.commands.names.Goals as goal

pub returns-in_err-name : goal.returns-in_err-name
returns-in_err-name c =
    let p = err_from_is_err_and c.from_residual.result c.from_residual.ensures.1 in
    let more : c.names.at < length (kinds_in c.args.line.now) = omega (arith, length-kinds c.args.line.now.tokens.items) in
    rw (p.1, p.2) (names-refused (kinds_in c.args.line.now) c.args.from c.names.at c.names.names.items c.names.invariant more c.in_err-name.field-0.0 c.in_err-name.ensures)

pub names-preserved : goal.names-preserved
names-preserved c = grind (arith, common_steps)

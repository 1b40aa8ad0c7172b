use Rattle.std.proofs.Common.{◌<◌, length, Some, arith}
use Rattle.std.proofs.lemmas.Result.{err_from_is_err_and}
use Rattle.lsys_syntax.specs.Commands.{print_string}
use Rattle.lsys_syntax.specs.LineMachine.{StringRead}
use Rattle.lsys_reading.specs.Tokens.{kinds_in}
use Rattle.lsys_reading.proofs.TokenPlaces.{length-kinds}
use Rattle.lsys_reading.proofs.LineParts.{level-due}
use Rattle.lsys_reading.proofs.commands.string.Goals as goal

pub returns-in_err-last_number-clause-rest : goal.returns-in_err-last_number-clause-rest
returns-in_err-last_number-clause-rest c =
    let p = err_from_is_err_and c.from_residual.result c.from_residual.ensures.1 in
    let more : 1 < length (kinds_in c.args.line.now) = omega (arith, length-kinds c.args.line.now.tokens.items) in
    rw (p.1, p.2) (c.in_err-last_number.ensures StringRead (λ n. print_string (Some n)) (level-due (kinds_in c.args.line.now) more))

pub returns-clause-rest : goal.returns-clause-rest
returns-clause-rest c =
    let more : 1 < length (kinds_in c.args.line.now) = omega (arith, length-kinds c.args.line.now.tokens.items) in
    c.in_ok-last_number.ensures StringRead (λ n. print_string (Some n)) (level-due (kinds_in c.args.line.now) more)

use Rattle.std.proofs.Common.{refl}
use Rattle.std.proofs.lemmas.Result.{err_from_is_err_and}
use Rattle.lsys_syntax.specs.Commands.{set_version}
use Rattle.lsys_syntax.specs.LineMachine.{VersionDue}
use Rattle.lsys_reading.proofs.commands.version.Goals as goal

pub returns-in_err-last_number-clause-rest : goal.returns-in_err-last_number-clause-rest
returns-in_err-last_number-clause-rest c =
    let p = err_from_is_err_and c.from_residual.result c.from_residual.ensures.1 in rw (p.1, p.2) (c.in_err-last_number.ensures VersionDue set_version (record { step = λ k. refl; none = λ e. refl }))

pub returns-clause-rest : goal.returns-clause-rest
returns-clause-rest c = c.in_ok-last_number.ensures VersionDue set_version (record { step = λ k. refl; none = λ e. refl })

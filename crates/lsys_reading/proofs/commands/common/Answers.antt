use Rattle.std.proofs.Common.{refl}
use Rattle.std.proofs.lemmas.Result.{err_from_is_err_and}
use Rattle.lsys_syntax.specs.Commands.{drop_own}
use Rattle.lsys_syntax.specs.LineMachine.{CommonDue}
use Rattle.lsys_reading.proofs.commands.common.Goals as goal

pub returns-in_err-last_word-clause-rest : goal.returns-in_err-last_word-clause-rest
returns-in_err-last_word-clause-rest c =
    let p = err_from_is_err_and c.from_residual.result c.from_residual.ensures.1 in rw (p.1, p.2) (c.in_err-last_word.ensures CommonDue drop_own (record { step = λ k. refl; none = refl }))

pub returns-clause-rest : goal.returns-clause-rest
returns-clause-rest c = c.in_ok-last_word.ensures CommonDue drop_own (record { step = λ k. refl; none = refl })

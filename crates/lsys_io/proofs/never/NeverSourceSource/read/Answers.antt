use Rattle.std.proofs.Common.{arith, rules}
use Rattle.std.proofs.lemmas.Grind.{common_steps}
use Rattle.lsys_io.proofs.Known.{reads_part}
use Rattle.lsys_io.proofs.never.NeverSourceSource.read.Goals as goal

pub returns-clause-gives : goal.returns-clause-gives
returns-clause-gives c =
    rw (← c.self.view_is) (
    reads_part c.self.inside.bytes.items c.args.into.now c.copy_from_slice.new.self c.self.inside.at c.min-count.result
    (search rules) (search rules)
    )

pub returns-clause-amount : goal.returns-clause-amount
returns-clause-amount c = grind (arith, common_steps)

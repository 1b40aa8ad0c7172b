use Rattle.lsys_reads.proofs.MateLemmas.{on_ok}
use Rattle.lsys_reads.proofs.mates.into_branch.Goals as goal

pub returns-in-Push-clause-looks : goal.returns-in-Push-clause-looks
returns-in-Push-clause-looks g c = on_ok c.add_children.result (λ added. record { branch = λ k b h. added k h }) c.add_children.ensures.added

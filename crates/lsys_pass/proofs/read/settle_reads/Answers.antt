use Rattle.std.proofs.Common.{ap, ◌∙◌}
use Rattle.lsys_reads.specs.Rows.{has}
use Rattle.lsys_pass.proofs.Settling.{settled_in_order}
use Rattle.lsys_pass.proofs.read.settle_reads.Goals as goal

pub returns-clause-settled : goal.returns-clause-settled
returns-clause-settled c =
    settled_in_order c.args.reads.now c.settle_listed.new.reads c.args.work.now.renewed.items c.args.work.now.dropped.items c.deref.result.now c.deref-2.result.now c.settle_listed.ensures.settled
    (λ k. ap (λ l. has l k) c.deref.ensures.value ∙ c.sort_tags-2.ensures k)
    (λ k. ap (λ l. has l k) c.deref-2.ensures.value ∙ c.sort_tags.ensures k)

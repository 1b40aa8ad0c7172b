use Rattle.std.proofs.Common.{ap, ◌∙◌}
use Rattle.lsys_reads.specs.Relations.{Relations, is_pending}
use Rattle.lsys_reads.proofs.ReadsLemmas.{kept_in_order, pairs_have_in_order}
use Rattle.lsys_reads.proofs.Reads.sort_falling.Goals as goal

pub invariant_of-self : goal.invariant_of-self
invariant_of-self c = (kept_in_order c.self.inside.by_seen c.self.inside.by_reader c.self.inside.pending.items c.make_fall.new.pairs.items c.make_fall.ensures c.self.invariant.0, c.self.invariant.1)

pub returns-clause-pending : goal.returns-clause-pending
returns-clause-pending c = λ reader seen.
    pairs_have_in_order c.self.inside.pending.items c.make_fall.new.pairs.items reader seen c.make_fall.ensures
    ∙ ap (λ (v : Relations). is_pending v reader seen) c.self.view_is

use Rattle.std.proofs.Common.{arith}
use Rattle.lsys_pass.proofs.Backing.{held, back_pass, none_next}
use Rattle.lsys_pass.proofs.Runs.{runs_at_rest}
use Rattle.lsys_pass.proofs.pass.Pass.abandon.Goals as goal

pub rollback-requires : goal.rollback-requires
rollback-requires g c = record { made = held _ c.self.invariant }

pub invariant_of-self : goal.invariant_of-self
invariant_of-self g c =
    none_next c.rollback.new.self c.rollback.new.store c.retract.new.self c.self.inside.readers.is_listed c.self.inside.seats c.forget.new.self c.drop_next.new.next c.self.inside.system c.self.inside.limit c.come_to_rest.new.state c.come_to_rest.new.work _ c.drop_next.ensures c.come_to_rest.ensures.rest
    (back_pass _ c.rollback.new.self c.rollback.new.store c.retract.new.self c.forget.new.self c.come_to_rest.new.work c.self.invariant
    c.rollback.ensures.now c.rollback.ensures.rest c.rollback.ensures.root (let s = c.rollback.ensures.spares.live in omega (arith, s))
    c.rollback.ensures.store c.rollback.ensures.still c.retract.ensures.settled c.retract.ensures.pending
    c.come_to_rest.ensures.cleared c.forget.ensures.rest c.forget.ensures.made)

pub returns-clause-runs : goal.returns-clause-runs
returns-clause-runs g c =
    runs_at_rest _
    (none_next c.rollback.new.self c.rollback.new.store c.retract.new.self c.self.inside.readers.is_listed c.self.inside.seats c.forget.new.self c.drop_next.new.next c.self.inside.system c.self.inside.limit c.come_to_rest.new.state c.come_to_rest.new.work _ c.drop_next.ensures c.come_to_rest.ensures.rest
    (back_pass _ c.rollback.new.self c.rollback.new.store c.retract.new.self c.forget.new.self c.come_to_rest.new.work c.self.invariant
    c.rollback.ensures.now c.rollback.ensures.rest c.rollback.ensures.root (let s = c.rollback.ensures.spares.live in omega (arith, s))
    c.rollback.ensures.store c.rollback.ensures.still c.retract.ensures.settled c.retract.ensures.pending
    c.come_to_rest.ensures.cleared c.forget.ensures.rest c.forget.ensures.made))
    c.come_to_rest.ensures.rest

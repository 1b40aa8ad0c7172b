use Rattle.std.proofs.Common.{refl}
use Rattle.lsys_pass.proofs.Openings.{none_live}
use Rattle.lsys_pass.proofs.Backing.{new_pass}
use Rattle.lsys_pass.proofs.Runs.{runs_at_rest}
use Rattle.lsys_pass.proofs.pass.Pass.new.Goals as goal

pub invariant_of-result : goal.invariant_of-result
invariant_of-result g c =
    let grown = c.in_ok-forest.ensures in
    new_pass c.in_ok-forest.forest c.new.result c.new-2.result.reads c.new-2.result.is_listed c.in_ok-forest.seats c.new-3.result c.in_ok-system.system c.args.limit c.new-4.result
    (record { others = grown.others; alone = grown.root }) (none_live c.new.result c.new.ensures.traces c.new.ensures.values) grown.rest grown.live
    c.in_ok-system.ensures c.new-2.ensures.settled c.new-2.ensures.pending grown.unmarked grown.seated
    c.new-4.ensures c.new-3.ensures.rest c.new-3.ensures.made

pub returns-clause-runs : goal.returns-clause-runs
returns-clause-runs g c =
    let grown = c.in_ok-forest.ensures in
    runs_at_rest _
    (new_pass c.in_ok-forest.forest c.new.result c.new-2.result.reads c.new-2.result.is_listed c.in_ok-forest.seats c.new-3.result c.in_ok-system.system c.args.limit c.new-4.result
    (record { others = grown.others; alone = grown.root }) (none_live c.new.result c.new.ensures.traces c.new.ensures.values) grown.rest grown.live
    c.in_ok-system.ensures c.new-2.ensures.settled c.new-2.ensures.pending grown.unmarked grown.seated
    c.new-4.ensures c.new-3.ensures.rest c.new-3.ensures.made) refl

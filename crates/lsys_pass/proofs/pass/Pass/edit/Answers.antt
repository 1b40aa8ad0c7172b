use Rattle.std.proofs.Common.{subst}
use Rattle.lsys_pass.specs.Passes.{IsPass}
use Rattle.lsys_pass.proofs.Editing.{counted, read_between, edited}
use Rattle.lsys_pass.proofs.pass.Pass.edit.Goals as goal

pub returns-in-Ok-clause-edited : goal.returns-in-Ok-clause-edited
returns-in-Ok-clause-edited g c =
    edited c.args.self.now c.begin.new.self c.make_levels.new.self c.close-count.new.self c.args.system c.in_ok-begin.ensures.begins c.in-Ok.ensures.run c.in-Ok.ensures.pass c.in-Ok.ensures.done
    c.close-count.ensures.closes (subst IsPass c.self-in-Ok.view_is c.self-in-Ok.invariant)

pub returns-in-Ok-clause-counted : goal.returns-in-Ok-clause-counted
returns-in-Ok-clause-counted g c x y m =
    counted c.args.self.now c.begin.new.self c.make_levels.new.self c.args.system x y c.close-count.result c.in_ok-begin.ensures.begins c.in-Ok.ensures.run m c.close-count.ensures.counts

pub returns-in-Ok-clause-read : goal.returns-in-Ok-clause-read
returns-in-Ok-clause-read g c x y m =
    read_between c.args.self.now c.begin.new.self c.make_levels.new.self c.args.system x y c.args.visited.now c.make_levels.new.visited
    c.in_ok-begin.ensures.begins c.in-Ok.ensures.run c.in-Ok.ensures.pass c.in-Ok.ensures.done m c.in-Ok.ensures.visits

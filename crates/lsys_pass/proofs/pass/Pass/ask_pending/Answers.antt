use Rattle.lsys_pass.proofs.Editing.{on_err, goes_step, step_refused}
use Rattle.lsys_pass.proofs.pass.Pass.ask_pending.Goals as goal

pub loop-node-preserved : goal.loop-node-preserved
loop-node-preserved g c =
    goes_step c.args.self.now c.loop-node.self c.step.new.self c.in-Some.node c.args.asked.now c.loop-node.asked c.step.new.asked c.args.visited.now c.loop-node.visited c.step.new.visited
    c.loop-node.invariant c.in-Some.ensures.pass c.requires.state c.in-Some.ensures.some c.in_ok-step.ensures.steps c.in_ok-step.ensures.renewed c.in_ok-step.ensures.moves c.in_ok-step.ensures.few_asked c.in_ok-step.ensures.few_read

pub returns-in_err-step-clause-few_asked : goal.returns-in_err-step-clause-few_asked
returns-in_err-step-clause-few_asked g c =
    on_err c.from_residual.result (step_refused c.args.self.now c.loop-node.self c.in-Some.node c.args.asked.now c.loop-node.asked c.step.new.asked c.args.visited.now c.loop-node.visited c.step.new.visited
    c.loop-node.invariant c.in-Some.ensures.pass c.requires.state c.in-Some.ensures.some c.in_err-step.ensures.few_asked c.in_err-step.ensures.few_read).asks

pub returns-in_err-step-clause-few_read : goal.returns-in_err-step-clause-few_read
returns-in_err-step-clause-few_read g c =
    on_err c.from_residual.result (step_refused c.args.self.now c.loop-node.self c.in-Some.node c.args.asked.now c.loop-node.asked c.step.new.asked c.args.visited.now c.loop-node.visited c.step.new.visited
    c.loop-node.invariant c.in-Some.ensures.pass c.requires.state c.in-Some.ensures.some c.in_err-step.ensures.few_asked c.in_err-step.ensures.few_read).visits

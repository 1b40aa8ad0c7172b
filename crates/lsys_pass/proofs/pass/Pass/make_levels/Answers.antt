use Rattle.lsys_pass.proofs.Editing.{on_err, is_level, makes_first, makes_next, asks_ended, reads_ended}
use Rattle.lsys_pass.proofs.pass.Pass.make_levels.Goals as goal

pub loop-self-init : goal.loop-self-init
loop-self-init g c = makes_first c.args.self.now c.args.asked.now c.args.visited.now c.requires.first c.requires.pending c.requires.renewed

pub loop-self-preserved : goal.loop-self-preserved
loop-self-preserved g c =
    let asked = c.in_ok-ask_pending.ensures in
    makes_next c.args.self.now c.loop-self.self c.ask_pending.new.self c.finish_level.new.self c.args.asked.now c.loop-self.asked c.ask_pending.new.asked c.args.visited.now c.loop-self.visited c.ask_pending.new.visited
    c.loop-self.invariant c.in-Level.ensures.pass (is_level c.loop-self.self.state c.in-Level.field-0 c.in-Level.ensures.state) asked.run asked.state asked.pass asked.none asked.asks asked.visits asked.from_read
    c.in_ok-finish_level.ensures.finishes c.in_ok-finish_level.ensures.all

pub returns-in_err-finish_level-clause-few_asked : goal.returns-in_err-finish_level-clause-few_asked
returns-in_err-finish_level-clause-few_asked g c =
    let asked = c.in_ok-ask_pending.ensures in
    on_err c.from_residual-in_err-finish_level.result (asks_ended c.args.self.now c.loop-self.self c.ask_pending.new.self c.args.asked.now c.loop-self.asked c.ask_pending.new.asked c.args.visited.now c.loop-self.visited
    c.loop-self.invariant (is_level c.loop-self.self.state c.in-Level.field-0 c.in-Level.ensures.state) asked.run asked.state asked.pass asked.asks)

pub returns-in_err-finish_level-clause-few_read : goal.returns-in_err-finish_level-clause-few_read
returns-in_err-finish_level-clause-few_read g c =
    let asked = c.in_ok-ask_pending.ensures in
    on_err c.from_residual-in_err-finish_level.result (reads_ended c.args.self.now c.loop-self.self c.ask_pending.new.self c.args.asked.now c.loop-self.asked c.args.visited.now c.loop-self.visited c.ask_pending.new.visited
    c.loop-self.invariant c.in-Level.ensures.pass (is_level c.loop-self.self.state c.in-Level.field-0 c.in-Level.ensures.state) asked.run asked.state asked.pass asked.visits)

use Rattle.lsys_rules.proofs.OnceNames.{once_start, once_next, once_done}
use Rattle.lsys_rules.proofs.changes.once.Goals as goal

pub loop-name-init : goal.loop-name-init
loop-name-init c = once_start c.args.names.now c.new-kept.result.items c.new-kept.ensures.items

pub loop-name-preserved : goal.loop-name-preserved
loop-name-preserved c = once_next c.args.names.now c.loop-name.kept.items _ c.loop-name.name-index c.name-item.result c.loop-name-test.true c.name-item.is c.loop-name.invariant c.in_ok-add_once.ensures

pub returns : goal.returns
returns c = once_done c.args.names.now c.loop-name.kept.items c.loop-name.name-index c.loop-name-test.false c.loop-name.invariant

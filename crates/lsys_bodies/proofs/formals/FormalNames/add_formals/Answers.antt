use Rattle.lsys_syntax.specs.Tokens.{Comma}
use Rattle.lsys_bodies.proofs.Adding.{more-step, more-end}
use Rattle.lsys_bodies.proofs.formals.FormalNames.add_formals.Goals as goal

pub loop-formal-preserved : goal.loop-formal-preserved
loop-formal-preserved c = more-step _ _ c.args.formals.now c.loop-formal.formal-index c.formal-item.result c.loop-formal-test.true c.formal-item.is c.loop-formal.invariant (c.in_ok-add_formal.ensures Comma)

pub returns : goal.returns
returns c = more-end _ _ c.args.formals.now c.loop-formal.formal-index c.loop-formal-test.false c.loop-formal.invariant

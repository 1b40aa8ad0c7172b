use Rattle.std.proofs.Common.{arith}
use Rattle.lsys_forest.specs.Groves.{now_of}
use Rattle.lsys_forest.proofs.SoundLemmas.{some_of}
use Rattle.lsys_front.proofs.Losing.{loses_none, loses_answer}
use Rattle.lsys_front.proofs.ends.take_answer.Goals as goal

pub returns-in_err-push-clause-loses : goal.returns-in_err-push-clause-loses
returns-in_err-push-clause-loses g c = loses_none c.args.forest.now

pub returns-in_ok-push-clause-loses : goal.returns-in_ok-push-clause-loses
returns-in_ok-push-clause-loses g c =
    let n = some_of (now_of c.args.forest.now c.args.node) c.requires.lives in
    loses_answer c.args.forest.now c.set_answer.new.self c.args.node n.0 n.1 (c.set_answer.ensures.set n.0 n.1) (c.set_answer.ensures.noted n.0 n.1)
    (let l = c.set_answer.ensures.spends.live in omega (arith, l))

pub returns-else-keeps_answer-clause-loses : goal.returns-else-keeps_answer-clause-loses
returns-else-keeps_answer-clause-loses g c = loses_none c.args.forest.now

use Rattle.std.proofs.Common.{◌≡◌, true, false}
use Rattle.lsys_forest.specs.Groves.{now_of}
use Rattle.lsys_front.specs.Candidates.{AsksOn}
use Rattle.lsys_front.proofs.Adding.{adds_none}
use Rattle.lsys_front.proofs.questioned.add_if_asked.Goals as goal

pub returns-then-not-has_question : goal.returns-then-not-has_question
returns-then-not-has_question g c =
    adds_none (AsksOn c.args.system.now c.args.level (now_of c.args.forest.now)) c.args.node c.args.asked.now.items
    (λ h. let e : false ≡ true = c.if-not-has_question.ensures.1 h in cc)

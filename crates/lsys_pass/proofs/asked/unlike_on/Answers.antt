use Rattle.std.proofs.Common.{subst}
use Rattle.std.proofs.lemmas.Result.{IfOk-weaker}
use Rattle.lsys_front.specs.Others.{RulesOf}
use Rattle.lsys_pass.specs.Others.{AreUnlike}
use Rattle.lsys_pass.proofs.Askings.{unlike_listed}
use Rattle.lsys_pass.proofs.asked.unlike_on.Goals as goal

pub returns : goal.returns
returns g c =
    IfOk-weaker c.others_on.result _ _ (λ others listed. subst (λ (r : RulesOf). AreUnlike r c.args.forest.now c.args.level others.items) c.are_known_alike.ensures.same (unlike_listed _ c.args.forest.now c.args.level others.items listed)) c.others_on.ensures

use Rattle.std.proofs.Common.{◌≡◌, true, false, sym, ◌∙◌}
use Rattle.lsys_forest.specs.Groves.{now_of}
use Rattle.lsys_front.specs.Others.{IsOtherwise}
use Rattle.lsys_front.proofs.Adding.{adds_none}
use Rattle.lsys_front.proofs.others.add_if_other.Goals as goal

pub returns-then-not-branch-clause-adds : goal.returns-then-not-branch-clause-adds
returns-then-not-branch-clause-adds g c =
    adds_none (IsOtherwise c.args.rules.now (now_of c.args.forest.now)) c.args.node c.args.others.now.items
    (λ h. let e : false ≡ true = sym c.if-not-branch.true ∙ c.in_ok-is_otherwise.ensures.other.1 h in cc)

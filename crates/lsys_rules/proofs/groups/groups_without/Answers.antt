use Rattle.std.proofs.Common.{sym, subst}
use Rattle.lsys_rules.specs.Groups.{AreRegrouped, is_of, is_some_of}
use Rattle.lsys_rules.proofs.Regrouping.{copy_anew, groups_same}
use Rattle.lsys_rules.proofs.groups.groups_without.Goals.{in-Some+in_ok-regroup, in_default}
use Rattle.lsys_rules.proofs.groups.groups_without.Goals as goal

pub returns : goal.returns
returns c =
    let old = c.args.old.now in
    let rs = c.args.rules.now in
    let copy = c.in_ok-groups.groups in
    elim c.match-gone.branch [
      | in-Some+in_ok-regroup w ↦
          subst (λ gs. AreRegrouped old gs rs (is_some_of c.args.gone.now)) (sym w.groups-is)
          (subst (λ o. AreRegrouped old w.regroup.new.groups rs (is_some_of o)) (sym w.in-Some.is)
          (copy_anew old copy w.regroup.new.groups rs (is_of w.in-Some.rule) c.in_ok-groups.ensures w.in_ok-regroup.ensures))
      | in_default w ↦
          subst (λ gs. AreRegrouped old gs rs (is_some_of c.args.gone.now)) (sym w.groups-is) (groups_same old copy rs c.args.gone.now c.in_ok-groups.ensures w.in_default.is)
    ]

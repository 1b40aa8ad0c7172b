use Rattle.std.proofs.Common.{subst}
use Rattle.lsys_rules.specs.Groups.{AreRegrouped, is_of}
use Rattle.lsys_rules.proofs.Regrouping.{both_anew, one_anew}
use Rattle.lsys_rules.proofs.groups.groups_with.Goals.{then-has_same_group+in_ok-groups, else-has_same_group+in_ok-groups-2}
use Rattle.lsys_rules.proofs.groups.groups_with.Goals as goal

pub returns : goal.returns
returns c =
    let old = c.args.old.now in
    let rs = c.args.rules.now in
    let rule = c.args.rule.now in
    let gone = c.args.gone.now in
    let new = c.regroup.new.groups in
    elim c.if-has_same_group.branch [
      | then-has_same_group+in_ok-groups w ↦
          let copy = w.in_ok-groups.groups in
          one_anew old copy new rs rule gone (c.has_same_group.ensures w.if-has_same_group.true) w.in_ok-groups.ensures
          (subst (λ gs. AreRegrouped gs new rs (is_of rule)) w.groups-is c.in_ok-regroup.ensures)
      | else-has_same_group+in_ok-groups-2 w ↦
          let mid = w.in_ok-groups-2.groups in
          both_anew old mid new rs rule gone w.in_ok-groups-2.ensures (subst (λ gs. AreRegrouped gs new rs (is_of rule)) w.groups-is c.in_ok-regroup.ensures)
    ]

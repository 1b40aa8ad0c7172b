use Rattle.std.proofs.Common.{subst, sym}
use Rattle.lsys_rules.specs.Groups.{IsGroup, rules_or_none}
use Rattle.std.proofs.lemmas.Result.{on_ok_weaker}
use Rattle.lsys_rules.proofs.Regrouping.{group_anew}
use Rattle.lsys_rules.proofs.groups.regroup.Goals as goal

pub returns : goal.returns
returns c =
    let a = c.args in
    let key = c.of-key in
    let group = rules_or_none c.in_ok-group.group in
    let is : IsGroup a.rules.now key.result group = subst (IsGroup a.rules.now key.result) (sym c.in_ok-group.ensures) c.in_ok-rules_of.ensures in
    on_ok_weaker c.set_group.result (group_anew a.groups.now c.set_group.new.groups a.rules.now a.rule.now key.result group key.ensures.table key.ensures.name key.ensures.arity key.ensures.form is) c.set_group.ensures

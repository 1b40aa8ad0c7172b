use Rattle.std.proofs.Common.{Some, None, sym, subst}
use Rattle.lsys_rules.specs.Groups.{HasGroup, rules_or_none}
use Rattle.lsys_rules.proofs.Regrouping.{group_set}
use Rattle.lsys_rules.proofs.groups.set_group.Goals as goal

pub returns-in-None : goal.returns-in-None
returns-in-None c =
    subst (λ o. HasGroup c.args.groups.now c.remove.new.self c.args.key (rules_or_none o)) (sym c.in-None.is)
    (λ q. group_set c.args.groups.now c.remove.new.self c.args.key q None (c.remove.ensures.updates.0 q))

pub returns-in_ok-insert-in-Some : goal.returns-in_ok-insert-in-Some
returns-in_ok-insert-in-Some c =
    subst (λ o. HasGroup c.args.groups.now c.insert.new.self c.args.key (rules_or_none o)) (sym c.in-Some.is)
    (λ q. group_set c.args.groups.now c.insert.new.self c.args.key q (Some c.in-Some.group) (c.in_ok-insert-in-Some.ensures.updates.0 q))

use Rattle.std.proofs.Common.{subst, sym, ◌∙◌}
use Rattle.lsys_rules.specs.Groups.{AreOfOne}
use Rattle.lsys_rules.proofs.Regrouping.{of_one}
use Rattle.lsys_rules.proofs.groups.has_same_group.Goals as goal

pub returns-in-Some : goal.returns-in-Some
returns-in-Some c = λ same.
    let old = c.of.ensures in
    let new = c.of-in-Some.ensures in
    subst (λ o. AreOfOne o c.args.rule.now) (sym c.in-Some.is)
    (of_one c.in-Some.gone c.args.rule.now c.of.result c.of-in-Some.result old.table old.name old.arity old.form new.table new.name new.arity new.form (sym c.eq.ensures ∙ same))

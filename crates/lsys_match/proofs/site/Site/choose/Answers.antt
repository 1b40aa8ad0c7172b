use Rattle.std.proofs.Common.{rules, ◌≡◌, None, subst, sym}
use Rattle.lsys_match.specs.Groups.{rules_of}
use Rattle.lsys_match.specs.Sites.{choice_told}
use Rattle.lsys_match.specs.Choices.{Chooses, ChoosesFront}
use Rattle.lsys_match.proofs.site.Site.choose.Goals as goal

pub returns-in-Some-clause-chosen : goal.returns-in-Some-clause-chosen
returns-in-Some-clause-chosen g c =
    subst (λ key. Chooses (λ naming. choice_told naming c.args.self.now key (rules_of c.args.group.now)) c.pick_weighted.new.trace.read c.pick_weighted.new.bound.items c.pick_weighted.result) (sym c.in-Some.is) c.pick_weighted.ensures.chosen

pub returns-in-Some-clause-refused : goal.returns-in-Some-clause-refused
returns-in-Some-clause-refused g c =
    subst (λ key. ChoosesFront (λ naming. choice_told naming c.args.self.now key (rules_of c.args.group.now)) c.pick_weighted.new.trace.read c.pick_weighted.result) (sym c.in-Some.is) c.pick_weighted.ensures.refused

pub returns-in-None-clause-chosen : goal.returns-in-None-clause-chosen
returns-in-None-clause-chosen g c =
    let none : c.args.key ≡ None = search rules in
    subst (λ key. Chooses (λ naming. choice_told naming c.args.self.now key (rules_of c.args.group.now)) c.first_that_applies.new.trace.read c.first_that_applies.new.bound.items c.first_that_applies.result) (sym none) c.first_that_applies.ensures.chosen

pub returns-in-None-clause-refused : goal.returns-in-None-clause-refused
returns-in-None-clause-refused g c =
    let none : c.args.key ≡ None = search rules in
    subst (λ key. ChoosesFront (λ naming. choice_told naming c.args.self.now key (rules_of c.args.group.now)) c.first_that_applies.new.trace.read c.first_that_applies.result) (sym none) c.first_that_applies.ensures.refused

use Rattle.std.proofs.Common.{rules, ℕ, List, subst, arith, []}
use Rattle.std.proofs.lemmas.List.{length-map}
use Rattle.std.proofs.lemmas.Grind.{elements}
use Rattle.lsys_rewrite.specs.Faults.{fault_of}
use Rattle.lsys_walks.specs.Noted.{entry_by}
use Rattle.lsys_spec.specs.Choice.{none_tried}
use Rattle.lsys_walks.proofs.Told.{on_err}
use Rattle.lsys_match.specs.declared.outcome.RuleOutcome.TheVariants as code
use Rattle.lsys_match.specs.Groups.{meant, rules_of}
use Rattle.lsys_match.specs.Sites.{rule_told, first_told}
use Rattle.lsys_match.specs.Tries.{IsTried, outcome_by, tried_so_far, entries_by}
use Rattle.lsys_match.proofs.Groups.{at_place, past_end}
use Rattle.lsys_match.proofs.Choosing.{first_no, first_yes, first_fails, first_front, first_none}
use Rattle.lsys_match.proofs.site.Site.first_that_applies.Goals as goal

pub returns-in_err-try_rule-clause-refused : goal.returns-in_err-try_rule-clause-refused
returns-in_err-try_rule-clause-refused g c =
    let a = at_place (rules_of c.args.group.now) c.loop-body.place (meant c.in-Some.body.now) c.in-Some.ensures.body in
    λ naming. on_err _ _ (first_front naming c.args.self.now c.loop-body.place (meant c.in-Some.body.now) (rules_of c.args.group.now) _ c.loop-body.trace.read c.try_rule.new.trace.read a.1 (first_told naming c.args.self.now none_tried (rules_of c.args.group.now)) (c.loop-body.invariant.2 naming) (c.in_err-try_rule.ensures.refused naming))

pub loop-body-smaller : goal.loop-body-smaller
loop-body-smaller g c = let a = at_place (rules_of c.args.group.now) c.loop-body.place (meant c.in-Some.body.now) c.in-Some.ensures.body in omega (arith, a.0)

pub loop-body-preserved : goal.loop-body-preserved
loop-body-preserved g c =
    let a = at_place (rules_of c.args.group.now) c.loop-body.place (meant c.in-Some.body.now) c.in-Some.ensures.body in
    let t : (naming : ℕ → List ℕ) → IsTried (rule_told naming c.args.self.now (tried_so_far c.loop-body.place c.loop-body.trace.read) (meant c.in-Some.body.now)) (tried_so_far c.loop-body.place c.loop-body.trace.read) (meant c.in-Some.body.now) (entries_by naming c.loop-body.trace.read) (entries_by naming c.try_rule.new.trace.read) (outcome_by code.No c.try_rule.new.bound.items) =
    λ naming. subst (λ o. IsTried (rule_told naming c.args.self.now (tried_so_far c.loop-body.place c.loop-body.trace.read) (meant c.in-Some.body.now)) (tried_so_far c.loop-body.place c.loop-body.trace.read) (meant c.in-Some.body.now) (entries_by naming c.loop-body.trace.read) (entries_by naming c.try_rule.new.trace.read) (outcome_by o c.try_rule.new.bound.items)) c.in-No.is (c.in_ok-try_rule.ensures.tried naming) in (
      omega (arith, a.0),
      omega (arith, (t (λ t. [])).all.1, length-map c.try_rule.new.trace.read (entry_by (λ t. []))),
      λ naming. first_no naming c.args.self.now c.loop-body.place (meant c.in-Some.body.now) (rules_of c.args.group.now) _ c.loop-body.trace.read c.try_rule.new.trace.read a.1 (first_told naming c.args.self.now none_tried (rules_of c.args.group.now)) (c.loop-body.invariant.2 naming) (t naming),
      search rules,
      omega (arith, c.in_ok-try_rule.ensures.counted, c.loop-body.invariant.4),
    )

pub returns-in-Yes-clause-chosen : goal.returns-in-Yes-clause-chosen
returns-in-Yes-clause-chosen g c =
    let a = at_place (rules_of c.args.group.now) c.loop-body.place (meant c.in-Some.body.now) c.in-Some.ensures.body in
    λ naming. first_yes naming c.args.self.now c.loop-body.place (meant c.in-Some.body.now) (rules_of c.args.group.now) _ c.loop-body.trace.read c.try_rule.new.trace.read a.1 (first_told naming c.args.self.now none_tried (rules_of c.args.group.now)) (c.loop-body.invariant.2 naming) c.try_rule.new.bound.items
    (subst (λ o. IsTried (rule_told naming c.args.self.now (tried_so_far c.loop-body.place c.loop-body.trace.read) (meant c.in-Some.body.now)) (tried_so_far c.loop-body.place c.loop-body.trace.read) (meant c.in-Some.body.now) (entries_by naming c.loop-body.trace.read) (entries_by naming c.try_rule.new.trace.read) (outcome_by o c.try_rule.new.bound.items)) c.in-Yes.is (c.in_ok-try_rule.ensures.tried naming))

pub returns-in-Fails-clause-chosen : goal.returns-in-Fails-clause-chosen
returns-in-Fails-clause-chosen g c =
    let a = at_place (rules_of c.args.group.now) c.loop-body.place (meant c.in-Some.body.now) c.in-Some.ensures.body in
    λ naming. first_fails naming c.args.self.now c.loop-body.place (meant c.in-Some.body.now) (rules_of c.args.group.now) _ c.loop-body.trace.read c.try_rule.new.trace.read a.1 (first_told naming c.args.self.now none_tried (rules_of c.args.group.now)) (c.loop-body.invariant.2 naming) (fault_of c.in-Fails.kind)
    (subst (λ o. IsTried (rule_told naming c.args.self.now (tried_so_far c.loop-body.place c.loop-body.trace.read) (meant c.in-Some.body.now)) (tried_so_far c.loop-body.place c.loop-body.trace.read) (meant c.in-Some.body.now) (entries_by naming c.loop-body.trace.read) (entries_by naming c.try_rule.new.trace.read) (outcome_by o c.try_rule.new.bound.items)) c.in-Fails.is (c.in_ok-try_rule.ensures.tried naming))

pub returns-clause-chosen : goal.returns-clause-chosen
returns-clause-chosen g c =
    let p = past_end (rules_of c.args.group.now) c.loop-body.place (search rules) in
    λ naming. first_none naming c.args.self.now c.loop-body.place (rules_of c.args.group.now) c.loop-body.trace.read (first_told naming c.args.self.now none_tried (rules_of c.args.group.now)) p (c.loop-body.invariant.2 naming) c.loop-body.invariant.1

pub overflow_cast-rule : goal.overflow_cast-rule
overflow_cast-rule g c = grind (arith, elements)

use Rattle.std.proofs.Common.{rules, length, ◌≤◌, ◌≡◌, ℕ, List, [], None, subst, arith, ap, ◌∙◌}
use Rattle.std.specs.Prelude.{Ok, Err}
use Rattle.std.proofs.lemmas.List.{length-map}
use Rattle.std.proofs.lemmas.Grind.{elements}
use Rattle.lsys_spec.specs.Choice.{none_tried, found_with, NoRule, Tried}
use Rattle.lsys_spec.specs.Meaning.{most_entries}
use Rattle.lsys_walks.specs.Noted.{entry_by}
use Rattle.lsys_spec.specs.Choice as choice
use Rattle.lsys_rewrite.specs.Faults.{fault_of}
use Rattle.lsys_walks.proofs.Told.{on_err}
use Rattle.lsys_match.specs.Groups.{meant, rules_of}
use Rattle.lsys_match.specs.Sites.{all_told, rule_told}
use Rattle.lsys_match.specs.Tries.{outcome_by, entries_by, tried_so_far}
use Rattle.lsys_match.specs.Choices.{found_or_fault}
use Rattle.lsys_match.proofs.Trying.{yes_few}
use Rattle.lsys_match.proofs.Groups.{at_place, past_end}
use Rattle.lsys_match.proofs.Choosing.{all_fails, all_few, all_on, all_read, all_front, all_none}
use Rattle.lsys_match.proofs.site.Site.find_all.Goals as goal

pub returns-in_err-outcome-clause-refused : goal.returns-in_err-outcome-clause-refused
returns-in_err-outcome-clause-refused g c =
    let a = at_place (rules_of c.args.group.now) c.loop-body.place (meant c.in-Some.body.now) c.in-Some.ensures.body in
    λ naming. on_err _ _ (all_front naming c.args.self.now c.loop-body.place (meant c.in-Some.body.now) (rules_of c.args.group.now) _ c.loop-body.trace.read c.try_rule.new.trace.read a.1 c.loop-body.found choice.No (all_told naming c.args.self.now none_tried (Ok []) (rules_of c.args.group.now)) (c.loop-body.invariant.2 naming) (c.in_err-outcome.ensures.refused naming))

pub returns-in_err-kind-clause-few : goal.returns-in_err-kind-clause-few
returns-in_err-kind-clause-few g c =
    let naming : ℕ → List ℕ = (λ t. []) in
    let d : Tried = tried_so_far c.loop-body.place c.loop-body.trace.read in
    let n = yes_few (rule_told naming c.args.self.now d (meant c.in-Some.body.now)) d (meant c.in-Some.body.now) (entries_by naming c.loop-body.trace.read) (entries_by naming c.try_rule.new.trace.read) c.try_rule.new.bound.items c.in_ok-outcome.outcome c.in_err-kind.ensures.refused (c.in_ok-outcome.ensures.tried naming) in
    let l : length c.try_rule.new.trace.read ≤ most_entries = omega (arith, n, length-map c.try_rule.new.trace.read (entry_by naming)) in on_err _ _ l

pub returns-in_err-kind-clause-refused : goal.returns-in_err-kind-clause-refused
returns-in_err-kind-clause-refused g c =
    let a = at_place (rules_of c.args.group.now) c.loop-body.place (meant c.in-Some.body.now) c.in-Some.ensures.body in
    λ naming. on_err _ _ (all_read naming c.args.self.now c.loop-body.place (meant c.in-Some.body.now) (rules_of c.args.group.now) _ c.loop-body.trace.read c.try_rule.new.trace.read a.1 c.loop-body.found (outcome_by c.in_ok-outcome.outcome c.try_rule.new.bound.items) (all_told naming c.args.self.now none_tried (Ok []) (rules_of c.args.group.now)) (c.loop-body.invariant.2 naming) (c.in_ok-outcome.ensures.tried naming))

pub returns-in-Some-2-clause-found : goal.returns-in-Some-2-clause-found
returns-in-Some-2-clause-found g c =
    let a = at_place (rules_of c.args.group.now) c.loop-body.place (meant c.in-Some.body.now) c.in-Some.ensures.body in
    let e : found_with c.loop-body.found c.loop-body.place (meant c.in-Some.body.now) (outcome_by c.in_ok-outcome.outcome c.try_rule.new.bound.items) ≡ found_or_fault c.consider.new.self c.in_ok-kind.field-0 =
    subst (λ vs. found_with c.loop-body.found c.loop-body.place (meant c.in-Some.body.now) (outcome_by c.in_ok-outcome.outcome vs) ≡ found_or_fault c.consider.new.self c.in_ok-kind.field-0) c.deref.ensures.value c.in_ok-kind.ensures.found in
    let f : found_with c.loop-body.found c.loop-body.place (meant c.in-Some.body.now) (outcome_by c.in_ok-outcome.outcome c.try_rule.new.bound.items) ≡ Err (fault_of c.in-Some-2.kind) = e ∙ ap (found_or_fault c.consider.new.self) c.in-Some-2.is in
    λ naming. all_fails naming c.args.self.now c.loop-body.place (meant c.in-Some.body.now) (rules_of c.args.group.now) _ c.loop-body.trace.read c.try_rule.new.trace.read a.1 c.loop-body.found (outcome_by c.in_ok-outcome.outcome c.try_rule.new.bound.items) (all_told naming c.args.self.now none_tried (Ok []) (rules_of c.args.group.now)) (c.loop-body.invariant.2 naming) (c.in_ok-outcome.ensures.tried naming) (fault_of c.in-Some-2.kind) f

pub loop-body-smaller : goal.loop-body-smaller
loop-body-smaller g c = let a = at_place (rules_of c.args.group.now) c.loop-body.place (meant c.in-Some.body.now) c.in-Some.ensures.body in omega (arith, a.0)

pub loop-body-preserved : goal.loop-body-preserved
loop-body-preserved g c =
    let a = at_place (rules_of c.args.group.now) c.loop-body.place (meant c.in-Some.body.now) c.in-Some.ensures.body in
    let e : found_with c.loop-body.found c.loop-body.place (meant c.in-Some.body.now) (outcome_by c.in_ok-outcome.outcome c.try_rule.new.bound.items) ≡ found_or_fault c.consider.new.self c.in_ok-kind.field-0 =
    subst (λ vs. found_with c.loop-body.found c.loop-body.place (meant c.in-Some.body.now) (outcome_by c.in_ok-outcome.outcome vs) ≡ found_or_fault c.consider.new.self c.in_ok-kind.field-0) c.deref.ensures.value c.in_ok-kind.ensures.found in
    let none : c.in_ok-kind.field-0 ≡ None = search rules in
    let f : found_with c.loop-body.found c.loop-body.place (meant c.in-Some.body.now) (outcome_by c.in_ok-outcome.outcome c.try_rule.new.bound.items) ≡ Ok c.consider.new.self = e ∙ ap (found_or_fault c.consider.new.self) none in (
      omega (arith, a.0),
      let naming : ℕ → List ℕ = (λ t. []) in all_few naming c.args.self.now c.loop-body.place (meant c.in-Some.body.now) (rules_of c.args.group.now) _ c.loop-body.trace.read c.try_rule.new.trace.read a.1 c.loop-body.found (outcome_by c.in_ok-outcome.outcome c.try_rule.new.bound.items) (all_told naming c.args.self.now none_tried (Ok []) (rules_of c.args.group.now)) (c.loop-body.invariant.2 naming) (c.in_ok-outcome.ensures.tried naming) c.consider.new.self f,
      λ naming. all_on naming c.args.self.now c.loop-body.place (meant c.in-Some.body.now) (rules_of c.args.group.now) _ c.loop-body.trace.read c.try_rule.new.trace.read a.1 c.loop-body.found (outcome_by c.in_ok-outcome.outcome c.try_rule.new.bound.items) (all_told naming c.args.self.now none_tried (Ok []) (rules_of c.args.group.now)) (c.loop-body.invariant.2 naming) (c.in_ok-outcome.ensures.tried naming) c.consider.new.self f,
      search rules,
      omega (arith, c.in_ok-outcome.ensures.counted, c.loop-body.invariant.4),
    )

pub returns-clause-found : goal.returns-clause-found
returns-clause-found g c =
    let p = past_end (rules_of c.args.group.now) c.loop-body.place (search rules) in
    λ naming. all_none naming c.args.self.now c.loop-body.place (rules_of c.args.group.now) c.loop-body.trace.read c.loop-body.found (all_told naming c.args.self.now none_tried (Ok []) (rules_of c.args.group.now)) p (c.loop-body.invariant.2 naming) c.loop-body.invariant.1

pub overflow_cast-rule : goal.overflow_cast-rule
overflow_cast-rule g c = grind (arith, elements)

pub returns-in-Some-2-clause-whole : goal.returns-in-Some-2-clause-whole
returns-in-Some-2-clause-whole g c = grind (arith, elements)

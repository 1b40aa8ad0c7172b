use Rattle.std.proofs.Common.{arith, ◌≡◌, List, map, sym, ap, ◌∙◌, subst}
use Rattle.std.proofs.lemmas.Grind.{common_steps}
use Rattle.lsys_spec.specs.Levels as L
use Rattle.lsys_spec.specs.Questions.{questions, least_visits}
use Rattle.lsys_match.specs.Derivations.{IsDerived, AreMeant, IsCount, KeepsTags, Rises}
use Rattle.lsys_flat.specs.Lines.{line_of}
use Rattle.lsys_flat.specs.Answers.{CanTakeOver, all_moved, lists_of}
use Rattle.lsys_flat.specs.Rounds.{entries_of}
use Rattle.lsys_flat.proofs.Keeping.{IsEdit, edited, kept_same, same_told, on_err, can_take, kept_after, derived_after, tags_after, count_after, read_after}
use Rattle.lsys_flat.proofs.levels.LevelsDerivation.edit.Given.{Over}
use Rattle.lsys_flat.proofs.levels.LevelsDerivation.edit.Goals.{After-as_slice-3}
use Rattle.lsys_flat.proofs.levels.LevelsDerivation.edit.Goals as goal

edit_is : (g : Over) (c : After-as_slice-3 g) → IsEdit c.self.inside.system c.args.system c.self.inside.limit c.self.inside.view (map line_of c.self.inside.ancestries.items) (lists_of c.self.inside.answers.items) c.self.inside.store c.planned.new.store
    c.args.visited.now c.planned.new.visited c.in_ok-plan.plan.view (map line_of c.in_ok-plan.plan.ancestries.items) (lists_of c.in_ok-plan.plan.fresh.items) (lists_of c.in_ok-plan.plan.taken.items) c.in_ok-plan.plan.count
edit_is g c =
    edited c.self.inside.system c.args.system c.self.inside.limit c.self.inside.view (map line_of c.self.inside.ancestries.items) (map line_of c.as_slice.result.now) (lists_of c.self.inside.answers.items) (lists_of c.as_slice-2.result.now) c.self.inside.store
    c.planned.new.store c.args.visited.now c.planned.new.visited c.in_ok-plan.plan.view (map line_of c.in_ok-plan.plan.ancestries.items) (lists_of c.in_ok-plan.plan.fresh.items) (lists_of c.in_ok-plan.plan.taken.items) c.in_ok-plan.plan.count
    c.self.invariant (ap (map line_of) c.as_slice.ensures.value) (ap lists_of c.as_slice-2.ensures.value) c.in_ok-plan.ensures.planned c.in_ok-plan.ensures.new

pub invariant_of-self : goal.invariant_of-self
invariant_of-self g c = kept_same _ _ _ _ _ _ _ c.self.invariant c.in_err-plan.ensures.stay

pub returns-in_err-plan-clause-refused : goal.returns-in_err-plan-clause-refused
returns-in_err-plan-clause-refused g c =
    on_err c.from_residual.result
    ((λ i. record {
      system = c.self.inside.system;
      limit = c.self.inside.limit;
      levels = c.self.inside.view;
      lines = map line_of c.self.inside.ancestries.items;
      answers = same_told _ _ _ _ _ _ _ c.self.invariant c.in_err-plan.ensures.stay i;
    }) ∙ c.self.view_is)

pub take_over-requires : goal.take_over-requires
take_over-requires g c =
    subst (λ olds. CanTakeOver c.planned.new.store (lists_of olds) (lists_of c.in_ok-plan.plan.fresh.items) (lists_of c.as_slice-3.result.now)) (sym (ap (λ v. v.items) c.replace-olds.ensures.value))
    (subst (λ taken. CanTakeOver c.planned.new.store (lists_of c.self.inside.answers.items) (lists_of c.in_ok-plan.plan.fresh.items) (lists_of taken)) (sym c.as_slice-3.ensures.value)
    (can_take _ _ _ _ _ _ _ _ _ _ _ _ _ _ _ (edit_is g (goal.at.take_over-requires g c).After-as_slice-3)))

pub invariant_of-self-2 : goal.invariant_of-self-2
invariant_of-self-2 g c =
    let moved : lists_of c.take_over.result.items ≡ all_moved (lists_of c.self.inside.answers.items) (lists_of c.in_ok-plan.plan.fresh.items) (lists_of c.in_ok-plan.plan.taken.items) =
    c.take_over.ensures.moved
    ∙ ap (λ olds. all_moved (lists_of olds) (lists_of c.in_ok-plan.plan.fresh.items) (lists_of c.as_slice-3.result.now)) (ap (λ v. v.items) c.replace-olds.ensures.value)
    ∙ ap (λ taken. all_moved (lists_of c.self.inside.answers.items) (lists_of c.in_ok-plan.plan.fresh.items) (lists_of taken)) c.as_slice-3.ensures.value in
    kept_after _ _ _ _ _ _ _ _ _ _ _ _ _ _ _ (edit_is g (goal.at.invariant_of-self-2 g c).After-as_slice-3) (lists_of c.take_over.result.items) c.take_over.new.store moved c.take_over.ensures.made c.take_over.ensures.own

pub returns-clause-outcome : goal.returns-clause-outcome
returns-clause-outcome g c =
    subst (λ d. IsDerived c.args.system d.limit c.in_ok-plan.plan.view) c.self.view_is (derived_after _ _ _ _ _ _ _ _ _ _ _ _ _ _ _ (edit_is g (goal.at.returns-clause-outcome g c).After-as_slice-3))

pub returns-clause-tags : goal.returns-clause-tags
returns-clause-tags g c =
    subst (λ d. (x y : List (List L.LevelSymbol)) → AreMeant d.system c.args.system d.limit x y → KeepsTags x y d.levels c.in_ok-plan.plan.view) c.self.view_is
    (tags_after _ _ _ _ _ _ _ _ _ _ _ _ _ _ _ (edit_is g (goal.at.returns-clause-tags g c).After-as_slice-3))

pub returns-clause-counted : goal.returns-clause-counted
returns-clause-counted g c =
    subst (λ d. (x y : List (List L.LevelSymbol)) → AreMeant d.system c.args.system d.limit x y → IsCount (questions d.system x) (questions c.args.system y) c.in_ok-plan.plan.count) c.self.view_is
    (count_after _ _ _ _ _ _ _ _ _ _ _ _ _ _ _ (edit_is g (goal.at.returns-clause-counted g c).After-as_slice-3))

pub returns-clause-read : goal.returns-clause-read
returns-clause-read g c =
    subst (λ d. (x y : List (List L.LevelSymbol)) → AreMeant d.system c.args.system d.limit x y → Rises (least_visits (questions d.system x) (questions c.args.system y)) (entries_of (questions c.args.system y)) c.args.visited.now c.planned.new.visited) c.self.view_is
    (read_after _ _ _ _ _ _ _ _ _ _ _ _ _ _ _ (edit_is g (goal.at.returns-clause-read g c).After-as_slice-3))

pub returns-in_err-plan-clause-limit : goal.returns-in_err-plan-clause-limit
returns-in_err-plan-clause-limit g c = grind (arith, common_steps)

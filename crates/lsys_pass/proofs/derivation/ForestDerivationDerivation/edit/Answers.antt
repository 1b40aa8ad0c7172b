use Rattle.std.proofs.Common.{List, ◌∙◌, subst}
use Rattle.std.proofs.lemmas.Result.{err_from_is_err_and}
use Rattle.lsys_spec.specs.Levels.{LevelSymbol}
use Rattle.lsys_spec.specs.LevelLaws.{candidate_visits}
use Rattle.lsys_spec.specs.Questions.{questions, least_visits}
use Rattle.lsys_match.specs.Derivations.{AreMeant, IsCount, IsDerived, IsLevelRefusal, KeepsTags, Rises}
use Rattle.lsys_pass.specs.Views.{ForestView, levels_for}
use Rattle.lsys_pass.proofs.Derived.{back_view, quiet_after, derived_now, refusal_posed, tags_now, counted_posed, read_posed}
use Rattle.lsys_pass.proofs.derivation.ForestDerivationDerivation.edit.Goals as goal

pub returns-in_err-count-clause-outcome : goal.returns-in_err-count-clause-outcome
returns-in_err-count-clause-outcome g c =
    let p = err_from_is_err_and c.from_residual-in_err-count.result c.from_residual-in_err-count.ensures.1 in
    rw (p.1, p.2)
    (subst (λ (d : ForestView). IsLevelRefusal c.args.system d.limit c.in_err-count.field-0.0) c.self.view_is
    (refusal_posed c.self.inside.system c.args.system c.in_ok-posed.posed c.self.inside.pass c.edit.new.self c.self.invariant.1
    c.in_ok-posed.ensures
    c.in_err-count.field-0.0 c.in_err-count.ensures.refusal))

pub returns-in_err-count-clause-refused : goal.returns-in_err-count-clause-refused
returns-in_err-count-clause-refused g c =
    let p = err_from_is_err_and c.from_residual-in_err-count.result c.from_residual-in_err-count.ensures.1 in
    rw p.1
    (back_view c.self.inside.system c.self.inside.pass c.edit.new.self c.system-2.ensures.pass c.self.invariant.0.state
    c.in_err-count.ensures.refused
    ∙ c.self.view_is)

pub returns-clause-outcome : goal.returns-clause-outcome
returns-clause-outcome g c =
    subst (λ (d : ForestView). IsDerived c.args.system d.limit (levels_for c.args.system c.edit.new.self.forest)) c.self.view_is
    (derived_now c.self.inside.system c.args.system c.in_ok-posed.posed c.self.inside.pass c.edit.new.self c.self.invariant.1
    c.in_ok-posed.ensures
    c.state.ensures.pass
    (quiet_after c.self.inside.pass c.edit.new.self c.in_ok-posed.posed c.edit.result c.self.invariant.0 c.edit.ensures.rest
    c.edit.ensures.edited
    c.edit.ensures.refused)
    c.in_ok-count.ensures.limit c.in_ok-count.ensures.edited)

pub returns-clause-tags : goal.returns-clause-tags
returns-clause-tags g c =
    subst
    (λ (d : ForestView). (x y : List (List LevelSymbol)) → AreMeant d.system c.args.system d.limit x y
    → KeepsTags x y d.levels (levels_for c.args.system c.edit.new.self.forest)) c.self.view_is
    (tags_now c.self.inside.system c.args.system c.in_ok-posed.posed c.self.inside.pass c.edit.new.self c.self.invariant.1
    c.in_ok-posed.ensures
    c.system-2.ensures.pass c.self.invariant.0 c.state.ensures.pass
    (quiet_after c.self.inside.pass c.edit.new.self c.in_ok-posed.posed c.edit.result c.self.invariant.0 c.edit.ensures.rest
    c.edit.ensures.edited
    c.edit.ensures.refused)
    c.in_ok-count.ensures.limit c.in_ok-count.ensures.edited)

pub returns-clause-counted : goal.returns-clause-counted
returns-clause-counted g c =
    subst
    (λ (d : ForestView). (x y : List (List LevelSymbol)) → AreMeant d.system c.args.system d.limit x y
    → IsCount (questions d.system x) (questions c.args.system y) c.in_ok-count.count) c.self.view_is
    (counted_posed c.self.inside.system c.args.system c.in_ok-posed.posed c.self.inside.pass c.edit.new.self c.self.invariant.1
    c.in_ok-posed.ensures
    c.in_ok-count.count c.in_ok-count.ensures.counted)

pub returns-clause-read : goal.returns-clause-read
returns-clause-read g c =
    subst
    (λ (d : ForestView). (x y : List (List LevelSymbol)) → AreMeant d.system c.args.system d.limit x y
    → Rises (least_visits (questions d.system x) (questions c.args.system y)) (candidate_visits d.system c.args.system x y)
    c.args.visited.now c.edit.new.visited) c.self.view_is
    (read_posed c.self.inside.system c.args.system c.in_ok-posed.posed c.self.inside.pass c.edit.new.self c.self.invariant.1
    c.in_ok-posed.ensures
    c.args.visited.now c.edit.new.visited c.in_ok-count.ensures.read)

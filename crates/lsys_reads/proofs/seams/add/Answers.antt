use Rattle.std.proofs.Common.{Some, ◌∷◌, [], sym, ap, ◌∙◌, subst, inl, inr}
use Rattle.std.proofs.lemmas.Option.{same_Some}
use Rattle.lsys_spec.specs.Rows.{In}
use Rattle.lsys_forest.proofs.RowLemmas.{In_append}
use Rattle.lsys_reads.proofs.SeamLemmas.{in_left, in_right}
use Rattle.lsys_reads.proofs.seams.add.Goals as goal

pub returns-in_ok-push-clause-added : goal.returns-in_ok-push-clause-added
returns-in_ok-push-clause-added c = λ k is.
    subst (In k) (sym c.in_ok-push.ensures.items) (in_right c.args.nodes.now.items (c.in-Some.found ∷ []) k (inl (same_Some k c.in-Some.found (sym is ∙ c.in-Some.is))))

pub returns-in_ok-push-clause-keeps : goal.returns-in_ok-push-clause-keeps
returns-in_ok-push-clause-keeps c = λ k h. subst (In k) (sym c.in_ok-push.ensures.items) (in_left c.args.nodes.now.items (c.in-Some.found ∷ []) k h)

pub returns-in_ok-push-clause-only : goal.returns-in_ok-push-clause-only
returns-in_ok-push-clause-only c = λ k h. elim (In_append c.args.nodes.now.items (c.in-Some.found ∷ []) k (subst (In k) c.in_ok-push.ensures.items h)) [
  | inl i ↦ inl i
  | inr (inl e) ↦ inr (c.in-Some.is ∙ ap Some (sym e))
  | inr (inr none) ↦ absurd none
]

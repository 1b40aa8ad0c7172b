use Rattle.std.proofs.Common.{◌++◌, ◌∙◌, List, ℕ, inl, inr, sym, ap, subst}
use Rattle.lsys_spec.specs.Rows.{In}
use Rattle.lsys_front.specs.Found.{LevelChanges}
use Rattle.lsys_reads.proofs.MateLemmas.{on_ok}
use Rattle.lsys_front.specs.Fronts.{StandOn}
use Rattle.lsys_front.proofs.front.Front.tell_next.Goals as goal

pub returns-clause-below : goal.returns-clause-below
returns-clause-below g c = on_ok c.look_below.result
    (λ below t stand k i.
    let came = c.args.self.now.changes.came in
    let turned = c.args.self.now.turned in
    let there = subst (λ (ks : List ℕ). StandOn c.args.forest.now t (ks ++ (came ++ turned))) (sym c.touched.ensures) stand in
    elim (below t there k i) [
      | inl j ↦ inl (subst (In k) (ap (λ (l : LevelChanges). l.looked) (c.changes.view_is ∙ c.requires.none)) j)
      | inr on ↦ inr on
    ])
    c.look_below.ensures.below

use Rattle.std.proofs.Common.{sym, subst}
use Rattle.lsys_spec.specs.Rows.{In}
use Rattle.lsys_pass.proofs.pass.Pass.next_parents.Goals as goal

pub found_parents-requires-clause-are : goal.found_parents-requires-clause-are
found_parents-requires-clause-are g c =
    λ k. (
      λ i. (c.in_ok-nodes.ensures.are k).0 (subst (In k) c.deref.ensures.value i),
      λ m. subst (In k) (sym c.deref.ensures.value) ((c.in_ok-nodes.ensures.are k).1 m),
    )

use Rattle.std.proofs.Common.{sym, ap, ◌∙◌, inl, inr, subst}
use Rattle.lsys_spec.specs.Rows.{In}
use Rattle.lsys_forest.specs.Groves.{now_of}
use Rattle.lsys_forest.specs.Rows.{kids_in}
use Rattle.lsys_forest.proofs.SoundLemmas.{some_of}
use Rattle.lsys_forest.proofs.RowLemmas.{In_append}
use Rattle.lsys_reads.proofs.SeamLemmas.{in_left, in_right}
use Rattle.lsys_reads.proofs.AddedLemmas.{kid_below}
use Rattle.lsys_reads.proofs.mates.add_children.Goals as goal

pub returns-clause-added : goal.returns-clause-added
returns-clause-added g c = λ k h.
    let n = some_of (now_of c.args.forest.now c.args.node) c.requires in
    subst (In k) (sym c.in_ok-extend_from_slice.ensures.items)
    (in_right c.args.looked.now.items c.children.result.now k (subst (In k) (ap kids_in n.1 ∙ sym (c.children.ensures.kids n.0 n.1)) h))

pub returns-clause-keeps : goal.returns-clause-keeps
returns-clause-keeps g c = λ k h. subst (In k) (sym c.in_ok-extend_from_slice.ensures.items) (in_left c.args.looked.now.items c.children.result.now k h)

pub returns-clause-below : goal.returns-clause-below
returns-clause-below g c = λ t on k h.
    let n = some_of (now_of c.args.forest.now c.args.node) c.requires in
    elim (In_append c.args.looked.now.items c.children.result.now k (subst (In k) c.in_ok-extend_from_slice.ensures.items h)) [
      | inl i ↦ inl i
      | inr j ↦ inr (kid_below c.args.forest.now t c.args.node k on.among (subst (In k) (c.children.ensures.kids n.0 n.1 ∙ ap kids_in (sym n.1)) j))
    ]

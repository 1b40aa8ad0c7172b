use Rattle.std.proofs.Common.{sym, ap, ◌∙◌, inl, inr, subst}
use Rattle.lsys_spec.specs.Rows.{In}
use Rattle.lsys_forest.specs.Groves.{changes_in, now_of}
use Rattle.lsys_forest.specs.Rows.{kids_in, level_of_node, place_of_node}
use Rattle.lsys_forest.proofs.SoundLemmas.{some_of}
use Rattle.lsys_forest.proofs.RowLemmas.{In_append, level_apart}
use Rattle.lsys_reads.proofs.SeamLemmas.{in_left, in_right}
use Rattle.lsys_reads.proofs.AddedLemmas.{kid_below, first_below, last_below, spot_split, part_before, part_after}
use Rattle.lsys_reads.proofs.seams.around.Goals as goal

pub returns-clause-looks : goal.returns-clause-looks
returns-clause-looks g c =
    let n = some_of (now_of c.args.forest.now c.args.node) c.requires.lives in
    record {
      children = λ k h. c.in_ok-add-2.ensures.keeps k (c.in_ok-add.ensures.keeps k (subst (In k) (sym c.in_ok-extend_from_slice.ensures.items)
          (in_right c.args.looked.now.items c.children.result.now k (subst (In k) (ap kids_in n.1 ∙ sym (c.children.ensures.kids n.0 n.1)) h))));
      before = λ k left right apart whole last. c.in_ok-add-2.ensures.keeps k (c.in_ok-add.ensures.added k (c.last_before.ensures left right apart whole ∙ last));
      after = λ k left right apart whole first. c.in_ok-add-2.ensures.added k (c.first_after.ensures left right apart whole ∙ first);
    }

pub returns-clause-keeps : goal.returns-clause-keeps
returns-clause-keeps g c = λ k h. c.in_ok-add-2.ensures.keeps k (c.in_ok-add.ensures.keeps k (subst (In k) (sym c.in_ok-extend_from_slice.ensures.items) (in_left c.args.looked.now.items c.children.result.now k h)))

pub returns-clause-below : goal.returns-clause-below
returns-clause-below g c =
    let f = c.args.forest.now in
    let q = c.args.node in
    let n = some_of (now_of f q) c.requires.lives in
    let s = spot_split f q c.requires.spot in
    let apart = level_apart f.root (changes_in f) (now_of f) c.children.ensures.sound (level_of_node f q) in
    let place = place_of_node f q in
    λ t on k h. elim (c.in_ok-add-2.ensures.only k h) [
      | inr e ↦ inr (first_below f t q k s.after on (part_after f q place s) (sym (c.first_after.ensures s.before s.after apart s.whole) ∙ e))
      | inl h ↦ elim (c.in_ok-add.ensures.only k h) [
        | inr e ↦ inr (last_below f t q k s.before on (part_before f q place s) (sym (c.last_before.ensures s.before s.after apart s.whole) ∙ e))
        | inl h ↦ elim (In_append c.args.looked.now.items c.children.result.now k (subst (In k) c.in_ok-extend_from_slice.ensures.items h)) [
          | inl i ↦ inl i
          | inr j ↦ inr (kid_below f t q k on.among (subst (In k) (c.children.ensures.kids n.0 n.1 ∙ ap kids_in (sym n.1)) j))
        ]
      ]
    ]

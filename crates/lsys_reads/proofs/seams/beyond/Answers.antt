use Rattle.std.proofs.Common.{sym, ◌++◌, ◌∷◌, [], ◌∙◌, inl, inr}
use Rattle.lsys_forest.specs.Rows.{place_of_node}
use Rattle.lsys_reads.proofs.AddedLemmas.{first_below, last_below, spot_split, part_from, part_up_to}
use Rattle.lsys_reads.proofs.seams.beyond.Goals as goal

pub returns-clause-looks : goal.returns-clause-looks
returns-clause-looks g c = record {
  up_to = λ k left right whole last. c.in_ok-add-2.ensures.keeps k (c.in_ok-add.ensures.added k (c.last_below.ensures left right whole ∙ last));
  from = λ k left right whole first. c.in_ok-add-2.ensures.added k (c.first_below.ensures left right whole ∙ first);
}

pub returns-clause-keeps : goal.returns-clause-keeps
returns-clause-keeps g c = λ k h. c.in_ok-add-2.ensures.keeps k (c.in_ok-add.ensures.keeps k h)

pub returns-clause-below : goal.returns-clause-below
returns-clause-below g c =
    let f = c.args.forest.now in
    let q = c.args.node in
    let s = spot_split f q c.requires in
    let place = place_of_node f q in
    λ t on k h. elim (c.in_ok-add-2.ensures.only k h) [
      | inr e ↦ inr (first_below f t q k (q ∷ s.after) on (part_from f q place s) (sym (c.first_below.ensures s.before s.after s.whole) ∙ e))
      | inl h ↦ elim (c.in_ok-add.ensures.only k h) [
        | inr e ↦ inr (last_below f t q k (s.before ++ q ∷ []) on (part_up_to f q place s) (sym (c.last_below.ensures s.before s.after s.whole) ∙ e))
        | inl i ↦ inl i
      ]
    ]

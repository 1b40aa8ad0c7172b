use Rattle.std.proofs.Common.{arith, ◌≡◌, Ok, ap, subst, sym, ◌∙◌, rules}
use Rattle.std.specs.Prelude.{flat_map}
use Rattle.std.proofs.lemmas.Grind.{common_steps}
use Rattle.lsys_spec.specs.PictureTexts.{segment_line}
use Rattle.lsys_turtle.specs.Ways.{segment_of}
use Rattle.lsys_out.specs.Drawings.{Drawing, IsNextSegment, drawing, empty_drawing, last_drawing, with_first}
use Rattle.lsys_out.proofs.Resting.{rests_failed, rests_none, rests_same, rests_then, rests_whole}
use Rattle.lsys_out.proofs.Texts.{segments-text}
use Rattle.lsys_out.proofs.segments.put_segments.Goals as goal

pub returns-in_err-put_count-clause-put : goal.returns-in_err-put_count-clause-put
returns-in_err-put_count-clause-put g c =
    let gs = (last_drawing g.T.Lattice.shape c.args.system.now (g.W.LevelView.levels c.args.view.now)).segments in
    rests_failed (flat_map segment_line gs) c.from_residual.ensures.0 (rests_whole (segments-text gs c.args.count c.requires.count)) c.in_err-put_count.ensures

pub segments-init : goal.segments-init
segments-init g c =
    let gs = (last_drawing g.T.Lattice.shape c.args.system.now (g.W.LevelView.levels c.args.view.now)).segments in
    record {
      rests = rests_same (ap (λ (d : Drawing). flat_map segment_line d.segments) (sym c.new-way.ensures.drawing)) (rests_then (rests_whole (segments-text gs c.args.count c.requires.count)) c.in_ok-put_count.ensures);
      drawn = ap (λ (d : Drawing). d.refusal) c.new-way.ensures.drawing ∙ c.requires.drawn;
      can_go = c.new-way.ensures.can_go;
      room = c.new-way.ensures.room;
    }

pub returns-in_err-put_segment-in-Ok-Some-clause-put : goal.returns-in_err-put_segment-in-Ok-Some-clause-put
returns-in_err-put_segment-in-Ok-Some-clause-put g c =
    let l = g.T.Lattice.shape in
    let now = drawing l c.segments.way c.segments.turtle.turtle in
    let next = drawing l c.next.new.self c.next.new.turtle.turtle in
    let first : now ≡ with_first (segment_of c.in-Ok-Some.segment) next = subst (λ o. IsNextSegment now next (Ok o)) c.in-Ok-Some.field-0-is c.in-Ok-Some.ensures.next in
    rests_failed (flat_map segment_line next.segments) c.from_residual-in_err-put_segment-in-Ok-Some.ensures.0
    (rests_same (ap (λ (d : Drawing). flat_map segment_line d.segments) first) c.segments.invariant.rests) c.in_err-put_segment-in-Ok-Some.ensures

pub segments-preserved : goal.segments-preserved
segments-preserved g c =
    let l = g.T.Lattice.shape in
    let now = drawing l c.segments.way c.segments.turtle.turtle in
    let next = drawing l c.next.new.self c.next.new.turtle.turtle in
    let first : now ≡ with_first (segment_of c.in-Ok-Some.segment) next = subst (λ o. IsNextSegment now next (Ok o)) c.in-Ok-Some.field-0-is c.in-Ok-Some.ensures.next in
    record {
      rests = rests_then (rests_same (ap (λ (d : Drawing). flat_map segment_line d.segments) first) c.segments.invariant.rests) c.in_ok-put_segment-in-Ok-Some.ensures;
      drawn = ap (λ (d : Drawing). d.refusal) (sym first) ∙ c.segments.invariant.drawn;
      can_go = search rules;
      room = search rules;
    }

pub returns-in-Ok-None-clause-put : goal.returns-in-Ok-None-clause-put
returns-in-Ok-None-clause-put g c =
    let l = g.T.Lattice.shape in
    let now = drawing l c.segments.way c.segments.turtle.turtle in
    let next = drawing l c.next.new.self c.next.new.turtle.turtle in
    let none : now ≡ empty_drawing = subst (λ o. IsNextSegment now next (Ok o)) c.in-Ok-None.field-0-is c.in-Ok-None.ensures.next in
    rests_none (rests_same (ap (λ (d : Drawing). flat_map segment_line d.segments) none) c.segments.invariant.rests)

pub segments-smaller : goal.segments-smaller
segments-smaller g c = grind (arith, common_steps)

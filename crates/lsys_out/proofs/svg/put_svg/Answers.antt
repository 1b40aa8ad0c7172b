use Rattle.std.proofs.Common.{arith, ◌≡◌, ◌++◌, Ok, ap, codes, subst, sym, ◌∙◌, rules}
use Rattle.std.specs.Prelude.{flat_map}
use Rattle.std.proofs.lemmas.Grind.{common_steps}
use Rattle.lsys_turtle.specs.Ways.{segment_of}
use Rattle.lsys_out.specs.Boxes.{box_of}
use Rattle.lsys_out.specs.Drawings.{Drawing, IsNextSegment, drawing, last_drawing, with_first}
use Rattle.lsys_out.specs.Lines.{drawn_line}
use Rattle.lsys_out.proofs.Resting.{rests_failed, rests_same, rests_then, rests_whole}
use Rattle.lsys_out.proofs.Texts.{lines-after, svg-text}
use Rattle.lsys_out.proofs.svg.put_svg.Goals as goal

pub returns-in_err-put_head-clause-put : goal.returns-in_err-put_head-clause-put
returns-in_err-put_head-clause-put g c =
    let l = g.T.Lattice.shape in
    let gs = (last_drawing l c.args.system.now (g.W.LevelView.levels c.args.view.now)).segments in
    rests_failed (flat_map (drawn_line l) gs ++ codes "</svg>\n") c.from_residual.ensures.0 (rests_whole (svg-text l gs (box_of c.args.extent) c.requires.framed)) c.in_err-put_head.ensures

pub segments-init : goal.segments-init
segments-init g c =
    let l = g.T.Lattice.shape in
    let gs = (last_drawing l c.args.system.now (g.W.LevelView.levels c.args.view.now)).segments in
    record {
      rests = rests_same (ap (λ (d : Drawing). flat_map (drawn_line l) d.segments ++ codes "</svg>\n") (sym c.new-way.ensures.drawing))
          (rests_then (rests_whole (svg-text l gs (box_of c.args.extent) c.requires.framed)) c.in_ok-put_head.ensures);
      drawn = ap (λ (d : Drawing). d.refusal) c.new-way.ensures.drawing ∙ c.requires.drawn;
      can_go = c.new-way.ensures.can_go;
      room = c.new-way.ensures.room;
    }

pub returns-in_err-put_line-in-Ok-Some-clause-put : goal.returns-in_err-put_line-in-Ok-Some-clause-put
returns-in_err-put_line-in-Ok-Some-clause-put g c =
    let l = g.T.Lattice.shape in
    let now = drawing l c.segments.way c.segments.turtle.turtle in
    let next = drawing l c.next.new.self c.next.new.turtle.turtle in
    let first : now ≡ with_first (segment_of c.in-Ok-Some.segment) next = subst (λ o. IsNextSegment now next (Ok o)) c.in-Ok-Some.field-0-is c.in-Ok-Some.ensures.next in
    rests_failed (flat_map (drawn_line l) next.segments ++ codes "</svg>\n") c.from_residual-in_err-put_line-in-Ok-Some.ensures.0
    (rests_same (lines-after l now (segment_of c.in-Ok-Some.segment) next first) c.segments.invariant.rests) c.in_err-put_line-in-Ok-Some.ensures

pub segments-preserved : goal.segments-preserved
segments-preserved g c =
    let l = g.T.Lattice.shape in
    let now = drawing l c.segments.way c.segments.turtle.turtle in
    let next = drawing l c.next.new.self c.next.new.turtle.turtle in
    let first : now ≡ with_first (segment_of c.in-Ok-Some.segment) next = subst (λ o. IsNextSegment now next (Ok o)) c.in-Ok-Some.field-0-is c.in-Ok-Some.ensures.next in
    record {
      rests = rests_then (rests_same (lines-after l now (segment_of c.in-Ok-Some.segment) next first) c.segments.invariant.rests) c.in_ok-put_line-in-Ok-Some.ensures;
      drawn = ap (λ (d : Drawing). d.refusal) (sym first) ∙ c.segments.invariant.drawn;
      can_go = search rules;
      room = search rules;
    }

pub segments-smaller : goal.segments-smaller
segments-smaller g c = grind (arith, common_steps)

pub returns-in-Ok-None-clause-put : goal.returns-in-Ok-None-clause-put
returns-in-Ok-None-clause-put g c = grind (arith, common_steps)

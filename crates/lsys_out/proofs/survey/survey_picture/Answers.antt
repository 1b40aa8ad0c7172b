use Rattle.std.proofs.Common.{Ok, subst}
use Rattle.lsys_out.specs.Drawings.{IsNextSegment, drawing, last_drawing}
use Rattle.lsys_out.proofs.Surveying.{surveying_all}
use Rattle.lsys_out.proofs.survey.survey_picture.Goals as goal

pub returns-clause-surveyed : goal.returns-clause-surveyed
returns-clause-surveyed g c =
    let l = g.T.Lattice.shape in
    let now = drawing l c.loop-way.way c.loop-way.turtle.turtle in
    let next = drawing l c.next.new.self c.next.new.turtle.turtle in
    surveying_all l (last_drawing l c.args.system.now (g.W.LevelView.levels c.args.view.now)) now c.loop-way.survey c.loop-way.invariant.so_far
    (subst (λ o. IsNextSegment now next (Ok o)) c.in_default.is c.in_ok-segment.ensures.next)

use Rattle.std.proofs.Common.{◌≡◌, None, Ok, ap, subst, sym}
use Rattle.lsys_spec.specs.Pictures.{turtle_step}
use Rattle.lsys_hom.specs.Looks.{looked_at}
use Rattle.lsys_turtle.specs.Ways.{stepped_of}
use Rattle.lsys_out.specs.Drawings.{IsStopped, drawing, drawn_on}
use Rattle.lsys_out.proofs.way.TurtleWay.go.Goals as goal

pub returns-in-Ok-None-clause-gone : goal.returns-in-Ok-None-clause-gone
returns-in-Ok-None-clause-gone g c =
    let l = g.T.Lattice.shape in
    let w = c.args.self.now in
    let now = c.take.new.turtle.turtle in
    let step : turtle_step l (looked_at c.args.seen) c.args.turtle.now.turtle ≡ stepped_of (Ok None) now =
    subst (λ o. turtle_step l (looked_at c.args.seen) c.args.turtle.now.turtle ≡ stepped_of (Ok o) now) c.in-Ok-None.field-0-is c.in-Ok-None.ensures.stepped in
    ap (λ o. drawn_on w.image.refusal w.modules o (λ u. drawing l w u)) step

pub returns-in-Err-clause-gone : goal.returns-in-Err-clause-gone
returns-in-Err-clause-gone g c =
    let l = g.T.Lattice.shape in
    let w = c.args.self.now in
    subst (λ o. IsStopped (drawn_on w.image.refusal w.modules o (λ u. drawing l w u)) c.refusal.result) (sym c.in-Err.ensures.stepped) c.refusal.ensures

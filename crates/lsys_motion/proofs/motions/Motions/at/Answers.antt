use Rattle.std.proofs.Common.{◌≡◌, ◌∙◌, ◌+◌, Some, ap, length, sym, slice_get, arith}
use Rattle.lsys_spec.specs.Pictures.{Pose}
use Rattle.lsys_lattice.specs.Effects.{first_walker}
use Rattle.lsys_lattice.specs.Free.{pose_of}
use Rattle.lsys_motion.specs.Told.{Track}
use Rattle.lsys_motion.specs.Pieces.{found}
use Rattle.lsys_motion.proofs.Posing.{length-all, pose_last, pose_before}
use Rattle.lsys_motion.proofs.motions.Motions.at.Goals as goal

pub returns-then-place-self : goal.returns-then-place-self
returns-then-place-self g c =
    let i = c.self.inside in
    ap (λ (p : Pose). Some p) c.pose.ensures
    ∙ sym (pose_last g.T.Lattice.shape i.pieces.items i.symbols i.end c.args.place c.if-place-self.true)
    ∙ ap (λ (t : Track). slice_get t.poses c.args.place) c.self.view_is

pub stand_before-requires : goal.stand_before-requires
stand_before-requires g c =
    let i = c.self.inside in
    let few : length c.args.self.now.poses ≡ i.symbols + 1 =
    sym (ap (λ (t : Track). length t.poses) c.self.view_is) ∙ length-all g.T.Lattice.shape i.pieces.items i.symbols i.end in
    let inside = c.requires in
    let other = c.if-place-self.false in
    rw c.as_slice.ensures.value (c.self.invariant.found c.args.place (omega (arith, few, inside, other)))

pub returns : goal.returns
returns g c =
    let l = g.T.Lattice.shape in
    let i = c.self.inside in
    let n = c.args.place in
    let few : length c.args.self.now.poses ≡ i.symbols + 1 =
    sym (ap (λ (t : Track). length t.poses) c.self.view_is) ∙ length-all l i.pieces.items i.symbols i.end in
    let inside = c.requires in
    ap (λ (p : Pose). Some p) (c.pose-2.ensures ∙ ap pose_of (c.stand_before.ensures.found ∙ ap (λ ps. found l 0 ps n (first_walker l).here) c.as_slice.ensures.value))
    ∙ sym (pose_before l i.pieces.items i.symbols i.end n (omega (arith, few, inside)) c.if-place-self.false)
    ∙ ap (λ (t : Track). slice_get t.poses n) c.self.view_is

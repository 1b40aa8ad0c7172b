-- The frames of the cubic lattice.
use Rattle.std.specs.Prelude.{◌≡◌}
use Rattle.std.proofs.Common.{ap, subst}
use Rattle.std.proofs.Props.{props}
use Rattle.lsys_spec.specs.Lattices.{Frame, frame, IsUpright}
use Rattle.lsys_lattice.specs.Directions.{along, along-faithful}
use Rattle.lsys_lattice.specs.declared.cubic_frame.Direction.{Direction}
use Rattle.lsys_lattice.specs.declared.cubic_frame.CubicFrame.{CubicFrame}

abbrev pub cubic_frame : CubicFrame → Frame
cubic_frame f = frame (along f.heading) (along f.left) (along f.up)

abbrev AreUpright : Direction → Direction → Direction → Type 0
AreUpright heading left up = IsUpright (frame (along heading) (along left) (along up))

abbrev made : (heading left up : Direction) → AreUpright heading left up → CubicFrame
made heading left up h = record { heading = heading; left = left; up = up; upright = h }

AreUpright-prop : (heading left up : Direction) → IsProp (AreUpright heading left up)
AreUpright-prop heading left up = Prim.hlevel props

-- frames with the same directions are the same
same_made : (h l u h' l' u' : Direction) (p : AreUpright h l u) → h ≡ h' → l ≡ l' → u ≡ u' → (q : AreUpright h' l' u') → made h l u p ≡ made h' l' u' q
same_made h l u h' l' u' p eh el eu =
    let same : (q : AreUpright h l u) → made h l u p ≡ made h l u q = λ q. ap (λ r. made h l u r) (AreUpright-prop h l u p q) in
    let same_heading = subst (λ (x : Direction). (q : AreUpright x l u) → made h l u p ≡ made x l u q) eh same in
    let same_left = subst (λ (y : Direction). (q : AreUpright h' y u) → made h l u p ≡ made h' y u q) el same_heading in
    subst (λ (z : Direction). (q : AreUpright h' l' z) → made h l u p ≡ made h' l' z q) eu same_left

pub cubic_faithful : (f g : CubicFrame) → cubic_frame f ≡ cubic_frame g → f ≡ g
cubic_faithful f g e =
    same_made f.heading f.left f.up g.heading g.left g.up f.upright
    (along-faithful f.heading g.heading (ap (λ x. x.heading) e))
    (along-faithful f.left g.left (ap (λ x. x.left) e))
    (along-faithful f.up g.up (ap (λ x. x.up) e))
    g.upright

use Rattle.std.proofs.Common.{◌≡◌, ℕ, Option, Some, None, refl, ap, ap₂, ◌∙◌}
use Rattle.std.specs.Option.{option_or}
use Rattle.lsys_spec.specs.Lattices.{Vector, Frame}
use Rattle.lsys_lattice.specs.Rotations.{plus, carried}
use Rattle.lsys_lattice.specs.Effects.{Stand, width_after, stand_from}
use Rattle.lsys_lattice.specs.Views.{vector_of}
use Rattle.lsys_motion.proofs.stand.Stand.beyond.Goals as goal

abbrev stand : Vector → Frame → Option ℕ → Stand
stand p f w = record { place = p; frame = f; width = w }

same : (p q : Vector) (f g : Frame) (v w : Option ℕ) → p ≡ q → f ≡ g → v ≡ w → stand p f v ≡ stand q g w
same p q f g v w a b c = cc

either : (u v : Option ℕ) → option_or v u ≡ width_after u v
either u None = refl
either u (Some w) = refl

pub returns : goal.returns
returns g c =
    let l = g.T.Lattice.shape in
    let f = g.T.Lattice.frame_of c.self.inside.frame in
    same _ _ _ _ _ _
    (c.shifted.ensures ∙ ap (plus (vector_of c.self.inside.place)) (c.carry-carried.ensures ∙ ap (carried l f) c.wide.ensures))
    c.follow.ensures (c.or.ensures ∙ either c.self.inside.width c.inner.inside.width)
    ∙ ap₂ (stand_from l) c.self.view_is c.inner.view_is

use Rattle.std.proofs.Common.{◌≡◌, ◌∙◌, ap}
use Rattle.std.specs.Prelude.{ℤ, neg_ℤ}
use Rattle.lsys_spec.specs.Lattices.{Vector}
use Rattle.lsys_lattice.specs.Rotations.{plus}
use Rattle.lsys_lattice.specs.Extents.{Extents}
use Rattle.lsys_lattice.specs.CubicFrames.{cubic_frame}
use Rattle.lsys_lattice.specs.CubicTable.{upright_known}
use Rattle.lsys_lattice.specs.Directions.{along}
use Rattle.lsys_lattice.specs.Wide.{shared}
use Rattle.lsys_lattice.proofs.Reach.{reach}
use Rattle.lsys_lattice.proofs.Axes.{cubic_reach, cubic-carried}
use Rattle.lsys_lattice.proofs.cubic.CubicLattice.carry_extents.Goals as goal

both_ways : (a a' b b' : Vector) → a ≡ a' → b ≡ b' → reach a b ≡ reach a' b'
both_ways a a' b b' p q = cc

sums : (a a' l l' u u' : Extents) → a ≡ a' → l ≡ l' → u ≡ u'
    → reach (plus (plus a.low l.low) u.low) (plus (plus a.high l.high) u.high) ≡ reach (plus (plus a'.low l'.low) u'.low) (plus (plus a'.high l'.high) u'.high)
sums a a' l l' u u' p q r = cc

at : (d : Vector) (m m' n n' : ℤ) → m ≡ m' → n ≡ n' → shared d m n ≡ shared d m' n'
at d m m' n n' p q = cc

pub returns : goal.returns
returns c v vs e =
    let f = c.args.frame in
    both_ways _ _ _ _ c.sum_of.ensures c.sum_of-2.ensures
    ∙ sums _ _ _ _ _ _ c.share-ahead.ensures.share (c.share-left.ensures.share ∙ at (along f.left) _ _ _ _ c.back.ensures.low c.back.ensures.high) c.share-up.ensures.share
    ∙ ap (cubic_reach (cubic_frame f)) (c.spans.ensures ∙ e)
    ∙ cubic-carried (cubic_frame f) (upright_known f.heading f.left f.up f.upright) v vs

use Rattle.std.proofs.Common.{◌≡◌, ◌∙◌, ap, arith}
use Rattle.std.specs.Prelude.{ℤ, neg_ℤ}
use Rattle.std.proofs.lemmas.Int.{ints}
use Rattle.lsys_spec.specs.Lattices.{Vector}
use Rattle.lsys_lattice.specs.Rotations.{plus, scaled}
use Rattle.lsys_lattice.specs.Directions.{along}
use Rattle.lsys_lattice.proofs.cubic.CubicLattice.carry.Goals as goal

together : (a l u : Vector) (n n' m m' k k' : ℤ) (d e f : Vector) → a ≡ scaled n d → l ≡ scaled m e → u ≡ scaled k f → n ≡ n' → m ≡ m' → k ≡ k'
    → plus (plus a l) u ≡ plus (plus (scaled n' d) (scaled m' e)) (scaled k' f)
together a l u n n' m m' k k' d e f p q r i j o = cc

pub returns : goal.returns
returns c =
    let f = c.args.frame in
    let v = c.args.v in
    c.sum_of.ensures
    ∙ together _ _ _ _ v.y _ (neg_ℤ v.x) _ v.z (along f.heading) (along f.left) (along f.up) c.times.ensures.steps c.times-2.ensures.steps c.times-3.ensures.steps
    (omega (arith, ints)) (omega (arith, ints)) (omega (arith, ints))

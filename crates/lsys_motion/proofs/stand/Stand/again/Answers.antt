use Rattle.std.proofs.Common.{subst}
use Rattle.std.specs.Prelude.{Contains}
use Rattle.lsys_spec.specs.Lattices.{frames}
use Rattle.lsys_lattice.specs.Effects.{Stand}
use Rattle.lsys_motion.proofs.stand.Stand.again.Goals as goal

pub returns-clause-known : goal.returns-clause-known
returns-clause-known g c = subst (λ (s : Stand). Contains (frames g.T.Lattice.shape) s.frame) c.self.view_is (g.met.T.Lattice.known c.self.inside.frame)

use Rattle.std.proofs.Common.{◌∙◌, ap, length, sym}
use Rattle.lsys_motion.specs.Told.{Track}
use Rattle.lsys_motion.proofs.Posing.{length-all}
use Rattle.lsys_motion.proofs.motions.Motions.len.Goals as goal

pub returns : goal.returns
returns g c =
    let i = c.self.inside in
    sym (length-all g.T.Lattice.shape i.pieces.items i.symbols i.end) ∙ ap (λ (t : Track). length t.poses) c.self.view_is

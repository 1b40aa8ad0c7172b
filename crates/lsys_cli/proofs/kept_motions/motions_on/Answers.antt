use Rattle.lsys_session.proofs.Querying.{has_last}
use Rattle.lsys_cli.proofs.Motioned.{told_own}
use Rattle.lsys_cli.proofs.kept_motions.motions_on.Goals as goal

pub motions-requires : goal.motions-requires
motions-requires g c =
    let d = c.args.derivation.now in
    has_last (g.D.Derivation.limit_of d) (g.D.Derivation.system_of d) (g.D.LevelView.levels d) c.requires.levels c.requires.kept

pub returns : goal.returns
returns g c =
    let d = c.args.derivation.now in
    told_own (g.D.Derivation.limit_of d) (g.D.Derivation.system_of d) (g.D.LevelView.levels d) g.T.Lattice.shape c.motions.result c.requires.levels c.requires.lattice c.motions.ensures

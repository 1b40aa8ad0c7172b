use Rattle.std.specs.Prelude.{[], ◌∷◌}
use Rattle.std.proofs.Common.{refl}
use Rattle.lsys_spec.specs.Levels.{Module}
use Rattle.lsys_lattice.proofs.Descending.{descendants}
use Rattle.lsys_lattice.proofs.motions.law_of_descendants.Goals as goal

pub returns-clause-part : goal.returns-clause-part
returns-clause-part c s t n before part after y b h e = descendants s n t before part after y b h e

pub returns-clause-module : goal.returns-clause-module
returns-clause-module c s t n before after y line m b e = descendants s n t before (Module line m ∷ []) after y b refl e

-- The image of a level is taken part by part.
use Rattle.std.specs.Prelude.{◌≡◌, None}
use Rattle.lsys_spec.specs.Lattices.{Lattice}
use Rattle.lsys_hom.specs.Coming.{Coming}
use Rattle.lsys_hom.specs.Ways.{LevelWay}
use Rattle.lsys_motion.specs.Keepers.{Keeper, IsBusy, Keeps}

-- what comes isn't refused, and is what is left to be taken
pub record IsGoing (l : Lattice) (c : Coming) (k : Keeper) : Type 0 where
  pub busy : IsBusy l c.symbols k
  pub refusal : c.refusal ≡ None

pub record GoesOn (l : Lattice) (old : Coming) (k : Keeper) (new : Coming) (k' : Keeper) : Type 0 where
  pub keeps : Keeps l old.symbols new.symbols k k'
  pub refusal : new.refusal ≡ None

-- it goes on along a level
abbrev pub GoesOnAlong : Lattice → LevelWay → Keeper → LevelWay → Keeper → Type 0
GoesOnAlong l old k new k' = GoesOn l old.coming k new.coming k'

-- What is told of a system's last level, which is among more levels.
use Rattle.std.specs.Prelude.{◌≡◌, ◌+◌, ℕ, List, Result, take}
use Rattle.lsys_spec.specs.Systems.{System}
use Rattle.lsys_spec.specs.Lattices.{Lattice}
use Rattle.lsys_lattice.specs.Extents.{Extents}
use Rattle.lsys_lattice.specs.Bounds.{bounds_of}
use Rattle.lsys_level.specs.Spots.{Spotted}
use Rattle.lsys_out.specs.Drawings.{last_drawing, last_image, last_symbols}
use Rattle.lsys_out.specs.Nesting.{HasLast}
use Rattle.lsys_out.specs.Shown.{on_lattice}
use Rattle.lsys_motion.specs.declared.refusal.MotionRefusal.{MotionRefusal}
use Rattle.lsys_motion.specs.Keepers.{HasTaken, Keeper}
use Rattle.lsys_motion.specs.Refusals.{IsAsTold}
use Rattle.lsys_motion.specs.Told.{Track, poses_of, told}

-- where the levels up to the depth have the last one, levels that go on have it
abbrev pub HasLastOfMore : Type 0
HasLastOfMore =
    (s : System) (levels : List (List Spotted))
    → HasLast s (take (s.depth + 1) levels) → HasLast s levels

-- and it is the same
abbrev pub HasSameLast : Type 0
HasSameLast =
    (naming : ℕ → List ℕ) (s : System) (levels : List (List Spotted))
    → last_symbols naming s (take (s.depth + 1) levels) ≡ last_symbols naming s levels

-- whatever the lineages are, this is told of the picture of the last level, or it is refused
abbrev pub TellsLast : Lattice → System → List (List Spotted) → Result Track MotionRefusal → Type 0
TellsLast l s levels r =
    (naming : ℕ → List ℕ) → IsAsTold (told (on_lattice l s) (last_symbols naming s levels)) r

-- how far the picture of the last level reaches
abbrev pub last_bounds : Lattice → System → List (List Spotted) → Extents
last_bounds l s levels = bounds_of l (last_drawing l s levels).segments

-- what is told of it, where it isn't refused
abbrev pub last_told : Lattice → System → List (List Spotted) → Track
last_told l s levels = record {
  bounds = last_bounds l s levels;
  poses = poses_of l (last_image s levels).symbols;
}

-- the whole image of the last level was taken
abbrev pub HasTakenLast : Lattice → System → List (List Spotted) → Keeper → Type 0
HasTakenLast l s levels k =
    let image = (last_image s levels).symbols in HasTaken l image image k

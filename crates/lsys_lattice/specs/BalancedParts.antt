-- What stays of balanced parts.
use Rattle.std.specs.Prelude.{◌≡◌, ℕ, true, None, Option, List, ◌++◌, Ok}
use Rattle.lsys_spec.specs.Levels.{level_balanced, LevelSymbol}
use Rattle.lsys_spec.specs.Cuts.{Raw, raw_balanced, cut_on}
use Rattle.lsys_spec.specs.Systems.{System}
use Rattle.lsys_spec.specs.LevelLaws.{HasBalance}
use Rattle.lsys_spec.specs.Meaning.{next_level}
use Rattle.lsys_lattice.specs.Nodes.{HasPartBelow}

-- what a cut leaves of a balanced part of a string is
-- balanced, whatever stands before it and after it
abbrev pub CutsLeaveBalancedParts : Type 0
CutsLeaveBalancedParts =
    (a x b : List Raw) → raw_balanced 0 x ≡ true
    → (c : Option ℕ) × (d : Option ℕ)
    × (cut_on None (a ++ (x ++ b)) ≡ cut_on None a ++ (cut_on c x ++ cut_on d b))
    × (level_balanced 0 (cut_on c x) ≡ true)

-- the children of a balanced part of a level stand side by side in the next level, and are balanced
abbrev pub ChildrenOfPartsStandSideBySide : Type 0
ChildrenOfPartsStandSideBySide =
    (s : System) (t : ℕ) (before part after y : List LevelSymbol) → HasBalance s
    → level_balanced 0 part ≡ true
    → next_level s t (before ++ (part ++ after)) ≡ Ok y → HasPartBelow s t before part after y

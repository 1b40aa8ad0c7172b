-- The leftmost of some nodes, and the number of a module on its level.
use Rattle.std.specs.Prelude.{◌≡◌, ◌+◌, ◌≤◌, ℕ, zero, suc, List, [], ◌∷◌, slice_get, Some}
use Rattle.lsys_level.specs.Spots.{Seen, Push, Pop, Module, Spotted, spots_at}
use Rattle.lsys_level.specs.declared.view.LevelView.{Ghosts as LevelViewOf}
use Rattle.lsys_forest.specs.Groves.{Grove}
use Rattle.lsys_forest.specs.Rows.{complete_levels, level_of_node, place_of_node, IsAtSpot}
use Rattle.lsys_rewrite.specs.declared.refusal.FaultKind.{FaultKind}
use Rattle.lsys_rewrite.specs.declared.refusal.DeriveRefusal.{DeriveRefusal}
use Rattle.lsys_rewrite.specs.declared.refusal.DeriveRefusal.TheVariants.{Fault, Limit, Memory}
use Rattle.lsys_pass.specs.declared.fault.Faulted.{Faulted}

-- a module counts one
abbrev pub is_one : Seen → ℕ
is_one (Module v) = 1
is_one Push = 0
is_one Pop = 0

-- how many modules stand before a place of a level
abbrev pub modules_before : List Spotted → ℕ → ℕ
modules_before xs zero = 0
modules_before [] (suc p) = 0
modules_before (x ∷ xs) (suc p) = is_one x.seen + modules_before xs p

-- how many stand before a spot of a view, on its level
abbrev pub modules_at : {V P : Type 0} → LevelViewOf V P → V → P → ℕ
modules_at W view spot =
    modules_before (spots_at (W.levels view) (W.level_of view spot)) (W.place_of view spot)

module _ {A : Type 0} where
  -- the nodes that have a fault stand on one complete level
  pub record AreOnLevel (f : Grove A) (t : ℕ) (faults : List Faulted) : Type 0 where
    pub spots : (i : ℕ) (a : Faulted) → slice_get faults i ≡ Some a → IsAtSpot f a.node
    pub levels : (i : ℕ) (a : Faulted) → slice_get faults i ≡ Some a → level_of_node f a.node ≡ t

  -- one of them, which no other one stands before
  pub record IsLeftmost (f : Grove A) (faults : List Faulted) (a : Faulted) : Type 0 where
    pub place : ℕ
    pub among : slice_get faults place ≡ Some a
    pub first : (i : ℕ) (b : Faulted) → slice_get faults i ≡ Some b
        → place_of_node f a.node ≤ place_of_node f b.node

  -- the leftmost of some faults of level t, of this kind, at the module with this number
  pub record IsFirstAt (f : Grove A) (t : ℕ) (faults : List Faulted) (kind : FaultKind) (u n : ℕ) : Type 0 where
    pub first : Faulted
    pub is : IsLeftmost f faults first
    pub kind_is : kind ≡ first.kind
    pub level : u ≡ t
    pub number : n ≡ modules_before (spots_at (complete_levels f) t) (place_of_node f first.node) + 1

  abbrev pub IsLeftmostFault : Grove A → ℕ → List Faulted → DeriveRefusal → Type 0
  IsLeftmostFault f t faults (Fault kind u n) = IsFirstAt f t faults kind u n
  IsLeftmostFault f t faults (Limit u) = ⊥
  IsLeftmostFault f t faults Memory = ⊥

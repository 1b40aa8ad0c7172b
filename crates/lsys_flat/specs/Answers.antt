-- The answers that are kept of levels, and what becomes of them.
use Rattle.std.specs.Prelude.{◌≡◌, ◌+◌, ℕ, Vec, Option, Some, None, List, [], ◌∷◌, map, length, slice_get, slice_index_or}
use Rattle.std.specs.declared.alloc.Global.{Global}
use Rattle.lsys_region.specs.Pool.{list_at}
use Rattle.lsys_walks.specs.Stores.{Store, AreGone}
use Rattle.lsys_match.specs.Asks.{IsMade}
use Rattle.lsys_match.specs.Kept.{Kept}
use Rattle.lsys_match.specs.KeptAnswers.{HoldOwnRuns, StaysMade}
use Rattle.lsys_match.specs.Stored.{runs_of}
use Rattle.lsys_flat.specs.Moves.{moved, AreTakenOnce, AreWithin}

-- what is kept of each level, place by place
abbrev pub lists_of : {A : Type 0} → List (Vec A Global) → List (List A)
lists_of levels = map (λ level. level.items) levels

-- that of level t; nothing where there is no such level
abbrev pub at_level : {A : Type 0} → List (List A) → ℕ → List A
at_level levels t = slice_index_or levels t []

-- the answer at place p of level t, where there is one
abbrev pub answer_on_level : List (List (Option Kept)) → ℕ → ℕ → Option Kept
answer_on_level kept t p = slice_index_or (at_level kept t) p None

-- 1. answers

-- all were made with this store
pub record AreMadeWith (s : Store) (kept : List (List (Option Kept))) : Type 0 where
  pub each : (t p : ℕ) (a : Kept) → answer_on_level kept t p ≡ Some a → IsMade s a

-- no two of them hold a run in common
pub record AllHoldOwnRuns (kept : List (List (Option Kept))) : Type 0 where
  pub each : (t p u q : ℕ) (a b : Kept) → answer_on_level kept t p ≡ Some a → answer_on_level kept u q ≡ Some b → (t ≡ u → p ≡ q → ⊥) → HoldOwnRuns a b

-- no answer of the one holds a run of one of the other
pub record AreOwnBeside (one other : List (List (Option Kept))) : Type 0 where
  pub each : (t p u q : ℕ) (a b : Kept) → answer_on_level one t p ≡ Some a → answer_on_level other u q ≡ Some b → HoldOwnRuns a b

-- all were made with the new store as well, and are the same answers there
pub record AllStayMade (before after : Store) (kept : List (List (Option Kept))) : Type 0 where
  pub each : (t p : ℕ) (a : Kept) → answer_on_level kept t p ≡ Some a → StaysMade before after a

-- every answer that was made with the store before, and holds no run of these, stays what it is
pub record OthersStayMade (before after : Store) (kept : List (List (Option Kept))) : Type 0 where
  pub each : (a : Kept) → IsMade before a → ((t p : ℕ) (b : Kept) → answer_on_level kept t p ≡ Some b → HoldOwnRuns b a) → StaysMade before after a

-- They are let go: none of their runs is live, and every other run stays live or not, with its list.
pub record AreReleased (before after : Store) (kept : List (List (Option Kept))) : Type 0 where
  pub gone : (t p : ℕ) (a : Kept) → answer_on_level kept t p ≡ Some a → AreGone after (runs_of a)
  pub entries : (n : ℕ) → ((t p : ℕ) (a : Kept) → answer_on_level kept t p ≡ Some a → a.entries ≡ Some n → ⊥) → list_at after.traces n ≡ list_at before.traces n
  pub values : (n : ℕ) → ((t p : ℕ) (a : Kept) → answer_on_level kept t p ≡ Some a → a.values ≡ Some n → ⊥) → list_at after.values n ≡ list_at before.values n

-- 2. answers that are taken over

-- Old answers of a level can be taken over from these places: each from its own, and none where there is a new answer.
pub record CanMove (olds fresh : List (Option Kept)) (places : List (Option ℕ)) : Type 0 where
  pub apart : AreTakenOnce places
  pub below : AreWithin (length olds) places
  pub each : length fresh ≡ length places
  pub free : (p j : ℕ) → slice_get places p ≡ Some (Some j) → slice_index_or fresh p None ≡ None

-- so it is on each level
abbrev pub CanAllMove : List (List (Option Kept)) → List (List (Option Kept)) → List (List (Option ℕ)) → Type 0
CanAllMove olds fresh taken = (t : ℕ) → CanMove (at_level olds t) (at_level fresh t) (at_level taken t)

-- All were made with this store, no two hold a run in common, and old ones can be taken over from the places that are told on each level.
pub record CanTakeOver (s : Store) (olds fresh : List (List (Option Kept))) (taken : List (List (Option ℕ))) : Type 0 where
  pub olds_made : AreMadeWith s olds
  pub fresh_made : AreMadeWith s fresh
  pub olds_own : AllHoldOwnRuns olds
  pub fresh_own : AllHoldOwnRuns fresh
  pub beside : AreOwnBeside olds fresh
  pub levels : length fresh ≡ length taken
  pub places : CanAllMove olds fresh taken

-- what is new of each level from level t on, or old at the place of the old level that is told there
abbrev pub moved_from : {A : Type 0} → ℕ → List (List (Option A)) → List (List (Option A)) → List (List (Option ℕ)) → List (List (Option A))
moved_from t olds [] taken = []
moved_from t olds (f ∷ fresh) [] = f ∷ fresh
moved_from t olds (f ∷ fresh) (places ∷ taken) = moved (at_level olds t) f places ∷ moved_from (t + 1) olds fresh taken

abbrev pub all_moved : {A : Type 0} → List (List (Option A)) → List (List (Option A)) → List (List (Option ℕ)) → List (List (Option A))
all_moved olds fresh taken = moved_from 0 olds fresh taken

-- so it is with the vectors that keep them
abbrev pub AreAllMoved : {A : Type 0} → List (Vec (Option A) Global) → List (Vec (Option A) Global) → List (Vec (Option ℕ) Global) → List (Vec (Option A) Global) → Type 0
AreAllMoved olds fresh taken now = lists_of now ≡ all_moved (lists_of olds) (lists_of fresh) (lists_of taken)

-- old answers that aren't taken over are let go
pub record OthersAreGone (s : Store) (olds : List (List (Option Kept))) (taken : List (List (Option ℕ))) : Type 0 where
  pub each : (t j : ℕ) (a : Kept) → answer_on_level olds t j ≡ Some a → ((p : ℕ) → slice_get (at_level taken t) p ≡ Some (Some j) → ⊥) → AreGone s (runs_of a)

-- on each level what isn't taken over is left, and nothing else
pub record AreAllLeft (olds : List (List (Option Kept))) (taken : List (List (Option ℕ))) (left : List (List (Option Kept))) : Type 0 where
  pub levels : length left ≡ length olds
  pub each : (t j : ℕ) (a : Kept) → answer_on_level left t j ≡ Some a → (answer_on_level olds t j ≡ Some a) × ((p : ℕ) → slice_get (at_level taken t) p ≡ Some (Some j) → ⊥)
  pub others : (t j : ℕ) → ((p : ℕ) → slice_get (at_level taken t) p ≡ Some (Some j) → ⊥) → answer_on_level left t j ≡ answer_on_level olds t j

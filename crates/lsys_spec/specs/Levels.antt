-- A level: symbols with their lineages. What stands around a symbol: the way to the root, and the rest of its branch.
use Rattle.std.specs.Prelude.{Bool, false, ◌==◌, ◌≡◌, ℕ, zero, suc, ℤ, Option, Some, None, List, [], ◌∷◌, ◌+◌, ◌<◌, take, drop, option_map, fold, slice_get}
use Rattle.lsys_syntax.specs.Strings.{ModuleName}
use Rattle.lsys_syntax.specs.Strings as S

-- A module: a letter with its parameters (ABOP 1.10.1).
pub record ModuleValue : Type 0 where
  pub name : ModuleName
  pub params : List ℤ

-- A bracket or a module, after its lineage: the numbers, counted from 0, of its ancestors among their siblings, the eldest first.
pub data LevelSymbol : Type 0 where
  Push : List ℕ → LevelSymbol
  Pop : List ℕ → LevelSymbol
  Module : List ℕ → ModuleValue → LevelSymbol

abbrev pub lineage : LevelSymbol → List ℕ
lineage (Push l) = l
lineage (Pop l) = l
lineage (Module l m) = l

-- as a string's symbol, without its lineage
abbrev pub plain : LevelSymbol → S.Symbol ℤ
plain (Push l) = S.Push
plain (Pop l) = S.Pop
plain (Module l m) = S.Module m.name m.params

-- 1. mates (ABOP 1.6.1)

-- The place of the bracket that ends the branch that is being read, where that many branches inside it are open.
abbrev pub close_of : ℕ → List LevelSymbol → Option ℕ
close_of n [] = None
close_of n (Module l m ∷ x) = option_map (λ q. q + 1) (close_of n x)
close_of n (Push l ∷ x) = option_map (λ q. q + 1) (close_of (suc n) x)
close_of zero (Pop l ∷ x) = Some 0
close_of (suc n) (Pop l ∷ x) = option_map (λ q. q + 1) (close_of n x)

-- q is the place of the bracket that ends the branch that begins at p
pub record AreMates (x : List LevelSymbol) (p q : ℕ) : Type 0 where
  pub opens : (l : List ℕ) × (slice_get x p ≡ Some (Push l))
  pub closes : option_map (λ n. p + 1 + n) (close_of 0 (drop (p + 1) x)) ≡ Some q

-- every front has at least as many open brackets as closed ones, where n are open before, and the whole equally many
abbrev pub level_balanced : ℕ → List LevelSymbol → Bool
level_balanced n [] = n == 0
level_balanced n (Module l m ∷ x) = level_balanced n x
level_balanced n (Push l ∷ x) = level_balanced (suc n) x
level_balanced zero (Pop l ∷ x) = false
level_balanced (suc n) (Pop l ∷ x) = level_balanced n x

-- 2. the way from a symbol to the root, nearest first

pub data Step : Type 0 where
  Passed : LevelSymbol → Step  -- a module
  Around : LevelSymbol → LevelSymbol → Step  -- a whole branch, by its two brackets
  OutOf : LevelSymbol → Step  -- out of a branch, by the bracket that begins it

-- Reading forward: the way back, and for each open bracket the bracket and the way from it.
pub record Reading : Type 0 where
  pub way : List Step
  pub saved : List (LevelSymbol × List Step)

-- (A level is balanced, so a bracket that ends a branch finds the one that began it.)
abbrev pub restored : LevelSymbol → List (LevelSymbol × List Step) → Reading
restored close [] = record { way = []; saved = [] }
restored close (s ∷ saved) = record { way = Around s.0 close ∷ s.1; saved = saved }

abbrev pub read : Reading → LevelSymbol → Reading
read r (Module l m) = record r { way = Passed (Module l m) ∷ r.way }
read r (Push l) = record { way = OutOf (Push l) ∷ r.way; saved = (Push l, r.way) ∷ r.saved }
read r (Pop l) = restored (Pop l) r.saved

abbrev pub reading : List LevelSymbol → ℕ → Reading
reading x p = fold read (record { way = []; saved = [] }) (take p x)

abbrev pub way : List LevelSymbol → ℕ → List Step
way x p = (reading x p).way

-- 3. the rest of a branch

-- A list of items: nothing; a module and more items; a branch by its two brackets, its own items, and more items.
pub data Items : Type 0 where
  Nothing : Items
  One : LevelSymbol → Items → Items
  Branch : LevelSymbol → LevelSymbol → Items → Items → Items

-- items, and after each bracket that ends their branch the items around it
pub data Nest : Type 0 where
  at_root : Items → Nest
  in_branch : Items → LevelSymbol → Nest → Nest

abbrev pub items_here : Nest → Items
items_here (at_root r) = r
items_here (in_branch r close n) = r

abbrev pub with_module : LevelSymbol → Nest → Nest
with_module m (at_root r) = at_root (One m r)
with_module m (in_branch r close n) = in_branch (One m r) close n

abbrev pub with_whole_branch : LevelSymbol → LevelSymbol → Items → Nest → Nest
with_whole_branch o close inner (at_root r) = at_root (Branch o close inner r)
with_whole_branch o close inner (in_branch r c n) = in_branch (Branch o close inner r) c n

-- an open bracket makes the innermost items a branch among those around it (A level is balanced, so there are some.)
abbrev pub with_open_bracket : LevelSymbol → Nest → Nest
with_open_bracket o (at_root inner) = at_root (Branch o o inner Nothing)
with_open_bracket o (in_branch inner close n) = with_whole_branch o close inner n

abbrev pub items_of : List LevelSymbol → Nest
items_of [] = at_root Nothing
items_of (Module l m ∷ x) = with_module (Module l m) (items_of x)
items_of (Push l ∷ x) = with_open_bracket (Push l) (items_of x)
items_of (Pop l ∷ x) = in_branch Nothing (Pop l) (items_of x)

-- the items from place p on, up to the bracket that ends the branch of p; the rest of p is items_from x (p + 1)
abbrev pub items_from : List LevelSymbol → ℕ → Items
items_from x p = items_here (items_of (drop p x))

-- 4. what holds of each level: a lineage stands at one place alone, and each bracket has its mate

pub record IsLevel (x : List LevelSymbol) : Type 0 where
  pub apart : (p q : ℕ) (s t : LevelSymbol) → slice_get x p ≡ Some s → slice_get x q ≡ Some t → lineage s ≡ lineage t → p ≡ q
  pub opens : (p : ℕ) (l : List ℕ) → slice_get x p ≡ Some (Push l) → (q : ℕ) × (p < q) × AreMates x p q
  pub closes : (q : ℕ) (l : List ℕ) → slice_get x q ≡ Some (Pop l) → (p : ℕ) × (p < q) × AreMates x p q

-- Left and right contexts, without what was read to find them (ABOP 1.8 and 1.10.2).
use Rattle.std.specs.Prelude.{ℕ, Bool, true, false, Some, None, List, [], ◌∷◌, ◌++◌, ◌==◌, ◌&&◌, ◌-◌, drop, take, length, option_map, fold, if◌then◌else◌}
use Rattle.lsys_syntax.specs.Strings.{ModuleName}
use Rattle.lsys_spec.specs.Systems.{same_name}
use Rattle.lsys_spec.specs.Bodies.{Pattern, Patterns, Done, OneOf, BranchOf}
use Rattle.lsys_spec.specs.Levels.{ModuleValue, LevelSymbol, Push, Pop, Module, Items, Nothing, One, Branch}
use Rattle.lsys_spec.specs.Walks.{modules, is_ignored, fits, Found}

-- 1. The path to a place: reading forward, `[` saves the path and its `]` restores it; a module that isn't ignored is appended.

-- the path, and the paths that are saved, the last one first
pub record Paths : Type 0 where
  pub path : List ModuleValue
  pub saved : List (List ModuleValue)

-- (A level is balanced, so there is one.)
abbrev pub given_back : List (List ModuleValue) → Paths
given_back [] = record { path = []; saved = [] }
given_back (path ∷ saved) = record { path = path; saved = saved }

abbrev pub unless_ignored : Bool → ModuleValue → List ModuleValue → List ModuleValue
unless_ignored true m path = path
unless_ignored false m path = path ++ m ∷ []

abbrev pub read_path : (ModuleName → Bool) → Paths → LevelSymbol → Paths
read_path ignored r (Module l m) = record r { path = unless_ignored (ignored m.name) m r.path }
read_path ignored r (Push l) = record r { saved = r.path ∷ r.saved }
read_path ignored r (Pop l) = given_back r.saved

abbrev pub path : (ModuleName → Bool) → List LevelSymbol → ℕ → List ModuleValue
path ignored x p = (fold (read_path ignored) (record { path = []; saved = [] }) (take p x)).path

-- 2. A left context of k patterns, in the order of the text: the last k modules of the path, where they match the patterns in order.

-- the letter and the number of parameters are the pattern's
abbrev pub suits : Pattern → ModuleValue → Bool
suits q m = same_name q.name m.name && (q.arity == length m.params)

abbrev pub all_suit : List Pattern → List ModuleValue → Bool
all_suit [] [] = true
all_suit (q ∷ qs) (m ∷ ms) = suits q m && all_suit qs ms
all_suit [] (m ∷ ms) = false
all_suit (q ∷ qs) [] = false

abbrev pub last : ℕ → List ModuleValue → List ModuleValue
last k ms = drop (length ms - k) ms

abbrev pub where_true : Bool → List ModuleValue → Found
where_true true ms = Some ms
where_true false ms = None

abbrev pub left : List Pattern → List ModuleValue → Found
left qs ms = where_true (all_suit qs (last (length qs) ms)) (last (length qs) ms)

-- 3. A right context, by the first pattern and the first item.

-- where the inner patterns match, their modules and then the match of both remainders; else the branch is passed over
abbrev pub inner_or : Found → Found → Found → Found
inner_or (Some ms) after passed = option_map (λ more. ms ++ more) after
inner_or None after passed = passed

abbrev pub right : (ModuleName → Bool) → Patterns → Items → Found
right ignored Done r = Some []
right ignored (OneOf q p) Nothing = None
right ignored (OneOf q p) (Branch o c inner r) = right ignored (OneOf q p) r
right ignored (OneOf q p) (One s r) =
    if is_ignored ignored s then right ignored (OneOf q p) r
    else if fits q s then option_map (λ ms. modules s ++ ms) (right ignored p r) else None
right ignored (BranchOf qs p) Nothing = None
right ignored (BranchOf qs p) (One s r) = if is_ignored ignored s then right ignored (BranchOf qs p) r else None
right ignored (BranchOf qs p) (Branch o c inner r) = inner_or (right ignored qs inner) (right ignored p r) (right ignored (BranchOf qs p) r)

-- 4. both contexts: the modules of the left one, the module itself, and those of the right one
abbrev pub around : Found → ModuleValue → Found → Found
around None own after = None
around (Some ms) own after = option_map (λ more. (ms ++ own ∷ []) ++ more) after

-- How a walk ends, and what its entries are: those of the definitions' walk at that place of that level.
use Rattle.std.specs.Prelude.{◌≡◌, ℕ, Bool, slice_get, ℤ, Some, None, List, ◌++◌, ◌+◌, ◌<◌, ◌≤◌, length, map, take, reverse, Result, IfOk, OnErr}
use Rattle.lsys_syntax.specs.Strings.{ModuleName}
use Rattle.lsys_spec.specs.Bodies.{Patterns, Done, OneOf, BranchOf}
use Rattle.lsys_spec.specs.Levels.{ModuleValue, LevelSymbol, Items, way, items_from}
use Rattle.lsys_spec.specs.Walks as M
use Rattle.lsys_spec.specs.Walks.{Told, Found, Entry, says, deeper, left_walk, right_walk}
use Rattle.lsys_spec.specs.Choice.{contexts, params_of}
use Rattle.lsys_spec.specs.Meaning.{ignored_by, most_entries}
use Rattle.lsys_level.specs.Spots.{Spotted, level_by}
use Rattle.lsys_bodies.specs.declared.body.Pattern.{Pattern}
use Rattle.lsys_bodies.specs.declared.body.Item.{Item}
use Rattle.lsys_bodies.specs.declared.body.Item.TheVariants.{Push}
use Rattle.lsys_bodies.specs.declared.body.Body.{Body}
use Rattle.lsys_bodies.specs.declared.filter.Filter.{Filter}
use Rattle.lsys_bodies.specs.Filters.{filter_of}
use Rattle.lsys_bodies.specs.Views.{as_pattern, body_value}
use Rattle.lsys_walks.specs.declared.mark.Mark.{Mark}
use Rattle.lsys_walks.specs.declared.walked.Walked.{Walked}
use Rattle.lsys_walks.specs.declared.walked.Walked.TheVariants as walked
use Rattle.lsys_walks.specs.Noted.{Noted, entry_by}
use Rattle.lsys_walks.specs.Views.{mark_of}
use Rattle.lsys_walks.specs.Items.{patterns_from}

-- 1. the walks at place p of a level

-- of a left context, whose nearest pattern is the last
abbrev pub left_told : Filter → Mark → List Pattern → ℕ → List LevelSymbol → Told Found
left_told filter d patterns p x = left_walk (ignored_by (filter_of filter)) (mark_of d) (reverse (map as_pattern patterns)) (way x p)

-- of the items from one on, up to the bracket that ends their branch
abbrev pub right_told : Filter → Mark → List Item → ℕ → ℕ → List LevelSymbol → Told Found
right_told filter d items first p x = right_walk (ignored_by (filter_of filter)) (mark_of d) (patterns_from items first) (items_from x (p + 1))

-- of the branch pattern that is wanted, in a branch; where none is wanted nothing is read
abbrev pub inner_walk : (ModuleName → Bool) → M.Mark → Patterns → Items → Told Found
inner_walk ignored d Done r = says None
inner_walk ignored d (OneOf q p) r = says None
inner_walk ignored d (BranchOf qs p) r = right_walk ignored (deeper d) qs r

-- of what the item at a place wants in the branch that begins at place p
abbrev pub inner_told : Filter → Mark → List Item → ℕ → ℕ → List LevelSymbol → Told Found
inner_told filter d items next p x = inner_walk (ignored_by (filter_of filter)) (mark_of d) (patterns_from items next) (items_from x (p + 1))

-- of both contexts of a rule, by its place in its group; m is the module at p
abbrev pub contexts_told : Filter → ℕ → Body → ModuleValue → ℕ → List LevelSymbol → Told Found
contexts_told filter rule b m p x = contexts (ignored_by (filter_of filter)) (record { rule = rule; depth = 0 }) (body_value b) m (way x p) (items_from x (p + 1))

-- 2. what of it was read

-- What was told was added, up to the first entry that is too many. Where the patterns match, this holds of the modules that they match.
abbrev pub Walks : ℕ → Told Found → List Entry → List Entry → (List ModuleValue → Type 0) → Walked → Type 0
Walks most t old new Kept walked.Found = (new ≡ old ++ t.entries) × (length new ≤ most) × (ms : List ModuleValue) × (t.answer ≡ Some ms) × Kept ms
Walks most t old new Kept walked.Missed = (new ≡ old ++ t.entries) × (length new ≤ most) × (t.answer ≡ None)
Walks most t old new Kept walked.TooFar = (new ≡ take (most + 1) (old ++ t.entries)) × (most < length (old ++ t.entries))

-- what was added is a front of what was told
abbrev pub ReadsFront : Told Found → List Entry → List Entry → Type 0
ReadsFront t old new = (rest : List Entry) × (old ++ t.entries ≡ new ++ rest)

-- By every naming of the tags, a walk over the level that is named was read.
abbrev pub IsWalk : {E : Type 0} → (List LevelSymbol → Told Found) → List Spotted → List Noted → List Noted → (List ModuleValue → Type 0) → Result Walked E → Type 0
IsWalk walk row old new Kept r = (naming : ℕ → List ℕ) → IfOk r (λ w. Walks most_entries (walk (level_by naming row)) (map (entry_by naming) old) (map (entry_by naming) new) Kept w)

-- By every naming, a front of it was read before memory was wanting.
abbrev pub IsFrontOfWalk : {E : Type 0} → (List LevelSymbol → Told Found) → List Spotted → List Noted → List Noted → Result Walked E → Type 0
IsFrontOfWalk walk row old new r = (naming : ℕ → List ℕ) → OnErr r (ReadsFront (walk (level_by naming row)) (map (entry_by naming) old) (map (entry_by naming) new))

-- 3. the parameters of the modules that match

-- they were added, the last first
abbrev pub KeptReversed : List ℤ → List ℤ → List ModuleValue → Type 0
KeptReversed old new ms = new ≡ old ++ reverse (params_of ms)

-- they were added in order
abbrev pub KeptInOrder : List ℤ → List ℤ → List ModuleValue → Type 0
KeptInOrder old new ms = new ≡ old ++ params_of ms

-- they are all that is kept
abbrev pub KeptAlone : List ℤ → List ModuleValue → Type 0
KeptAlone new ms = new ≡ params_of ms

-- 4. what else is told of a branch that was tried

-- only a branch pattern is found in it
abbrev pub FoundAtBranch : {E : Type 0} → List Item → ℕ → Result Walked E → Type 0
FoundAtBranch items next r = IfOk r (λ w. w ≡ walked.Found → slice_get items next ≡ Some Push)

-- where nothing matches in it, nothing is kept of it
abbrev pub MissedAsItWas : {E : Type 0} → List ℤ → List ℤ → Result Walked E → Type 0
MissedAsItWas old new r = IfOk r (λ w. w ≡ walked.Missed → new ≡ old)

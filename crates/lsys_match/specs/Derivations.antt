-- What every derivation keeps true, and what an edit does to one.
use Rattle.std.specs.Prelude.{◌≡◌, ◌↔◌, ◌+◌, ◌≤◌, ℕ, List, [], length, Result, Ok, Err, Some, Option, slice_get, slice_index_or, IfOk}
use Rattle.lsys_spec.specs.Draws.{key_of}
use Rattle.lsys_spec.specs.Systems.{System}
use Rattle.lsys_spec.specs.Levels as L
use Rattle.lsys_spec.specs.Levels.{lineage}
use Rattle.lsys_spec.specs.Meaning.{meaning, most_entries, FaultAt, OverLimit}
use Rattle.lsys_spec.specs.Questions.{Question, least_visits, need, questions}
use Rattle.lsys_level.specs.declared.view.LevelView.{Ghosts as LevelViewOf}
use Rattle.lsys_level.specs.Spots.{Spotted, spotted_at}
use Rattle.lsys_level.specs.Tags.{HasOwnTags, ShowsLevels}
use Rattle.lsys_rewrite.specs.Faults.{fault_of}
use Rattle.lsys_rewrite.specs.declared.count.EditCount.{EditCount}
use Rattle.lsys_rewrite.specs.declared.refusal.DeriveRefusal.{DeriveRefusal}
use Rattle.lsys_rewrite.specs.declared.refusal.DeriveRefusal.TheVariants.{Fault, Limit, Memory}

-- 1. levels

-- the symbol at place p of level t
abbrev pub symbol_at : List (List L.LevelSymbol) → ℕ → ℕ → Option L.LevelSymbol
symbol_at levels t p = slice_get (slice_index_or levels t []) p

-- The lists that a view tells are these levels, each symbol with the key of its lineage by the seed. No tag stands twice.
pub record StandsFor (seed : ℕ) (x : List (List L.LevelSymbol)) (levels : List (List Spotted)) : Type 0 where
  pub depth : length levels ≡ length x
  pub strings : ShowsLevels x levels
  pub tags : HasOwnTags levels
  pub keys : (t p : ℕ) (a : Spotted) (s : L.LevelSymbol) → spotted_at levels t p ≡ Some a → symbol_at x t p ≡ Some s → a.key ≡ key_of seed (lineage s)

-- A tag of the old levels x and one of the new levels y are equal exactly where level and lineage are: a symbol that stays keeps its tag.
pub record KeepsTags (x y : List (List L.LevelSymbol)) (old new : List (List Spotted)) : Type 0 where
  pub tags : (t u p q : ℕ) (a b : Spotted) (r s : L.LevelSymbol) → spotted_at old t p ≡ Some a → spotted_at new u q ≡ Some b → symbol_at x t p ≡ Some r → symbol_at y u q ≡ Some s
      → (a.tag ≡ b.tag) ↔ ((t ≡ u) × (lineage r ≡ lineage s))

-- the system has levels under the limit, and the view stands for them
pub record IsDerived (s : System) (limit : ℕ) (levels : List (List Spotted)) : Type 0 where
  pub meant : List (List L.LevelSymbol)
  pub is : meaning s limit ≡ Ok meant
  pub view : StandsFor s.seed meant levels

-- 2. edits

-- these are the levels that both systems mean
pub record AreMeant (old new : System) (limit : ℕ) (x y : List (List L.LevelSymbol)) : Type 0 where
  pub before : meaning old limit ≡ Ok x
  pub after : meaning new limit ≡ Ok y

-- Why a system has no levels under a limit. Out of memory says nothing.
abbrev pub IsLevelRefusal : System → ℕ → DeriveRefusal → Type 0
IsLevelRefusal s limit (Fault kind t n) = meaning s limit ≡ Err (FaultAt (fault_of kind) t n)
IsLevelRefusal s limit (Limit t) = meaning s limit ≡ Err (OverLimit t)
IsLevelRefusal s limit Memory = Unit {0}

-- the system has levels, and the view is theirs; or it has none, for this reason
abbrev pub IsOutcome : System → ℕ → List (List Spotted) → Result EditCount DeriveRefusal → Type 0
IsOutcome s limit levels (Ok count) = IsDerived s limit levels
IsOutcome s limit levels (Err refusal) = IsLevelRefusal s limit refusal

-- how many of the new system's questions the old one didn't answer, and how many it has
pub record IsCount (old new : List Question) (count : EditCount) : Type 0 where
  pub asked : count.asked ≡ need old new
  pub questions : count.questions ≡ length new

-- a number rose at least by this and at most by that
pub record Rises (least most before after : ℕ) : Type 0 where
  pub from : before + least ≤ after
  pub to : after ≤ before + most

-- the most that is read for a question, before it is too far
abbrev pub most_read : ℕ
most_read = most_entries + 1

-- 3. an edit of a derivation, whose representation tells its system, its limit and its levels

-- where both systems have levels, symbols that stay keep their tags
abbrev pub KeepsMeantTags : {D P A E : Type 0} → (D → System) → (D → ℕ) → LevelViewOf D P
    → D → System → D → Result A E → Type 0
KeepsMeantTags system_of limit_of W old s new r =
    (x y : List (List L.LevelSymbol)) → AreMeant (system_of old) s (limit_of old) x y
    → IfOk r (λ _. KeepsTags x y (W.levels old) (W.levels new))

-- it counts the questions that it asked, and those that the new system has
abbrev pub CountsMeant : {E : Type 0} → System → System → ℕ → Result EditCount E → Type 0
CountsMeant old new limit r =
    (x y : List (List L.LevelSymbol)) → AreMeant old new limit x y
    → IfOk r (IsCount (questions old x) (questions new y))

-- it reads at least the entries of the new traces, and at most those that the representation names
abbrev pub ReadsMeant : {D A E : Type 0} → (D → System) → (D → ℕ)
    → (System → System → List (List L.LevelSymbol) → List (List L.LevelSymbol) → ℕ)
    → D → System → ℕ → ℕ → Result A E → Type 0
ReadsMeant system_of limit_of visits old s before after r =
    (x y : List (List L.LevelSymbol)) → AreMeant (system_of old) s (limit_of old) x y
    → IfOk r (λ _. Rises (least_visits (questions (system_of old) x) (questions s y))
    (visits (system_of old) s x y) before after)

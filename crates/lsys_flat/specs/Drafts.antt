-- New levels that are planned beside old ones.
use Rattle.std.specs.Prelude.{◌≡◌, ◌+◌, ◌*◌, ◌<◌, ◌≤◌, ℕ, Option, Some, None, Result, Ok, Err, List, [], ◌∷◌, ◌++◌, length, set, sum_by, slice_index_or, OnOk}
use Rattle.lsys_syntax.specs.Limits.{greatest_module_limit}
use Rattle.lsys_spec.specs.Systems.{System, WellSpelled}
use Rattle.lsys_spec.specs.Levels as L
use Rattle.lsys_spec.specs.Meaning.{meaning, meaning_to}
use Rattle.lsys_spec.specs.Questions.{questions}
use Rattle.lsys_walks.specs.Stores.{Store}
use Rattle.lsys_match.specs.Kept.{Kept}
use Rattle.lsys_match.specs.Asks.{IsMade}
use Rattle.lsys_match.specs.KeptAnswers.{HoldOwnRuns}
use Rattle.lsys_match.specs.Derivations.{most_read}
use Rattle.lsys_rewrite.specs.declared.refusal.DeriveRefusal.{DeriveRefusal}
use Rattle.lsys_rewrite.specs.declared.refusal.DeriveRefusal.TheVariants as refusals
use Rattle.lsys_rewrite.specs.declared.count.EditCount.{EditCount}
use Rattle.lsys_level.specs.Spots.{Spotted, spots_at}
use Rattle.lsys_flat.specs.Lines.{Descent}
use Rattle.lsys_flat.specs.Revised.{Revised, AreOldLevels, CanAdd as CanAddLevel, GrowsByLevel, IsBegunBeside, IsRevised}
use Rattle.lsys_flat.specs.Slots.{AreAllFound, filled_slots}
use Rattle.lsys_flat.specs.Counted.{all_slots_in}
use Rattle.lsys_flat.specs.Answers.{AreMadeWith, AllHoldOwnRuns, answer_on_level}
use Rattle.lsys_flat.specs.Grown.{IsFinished}
use Rattle.lsys_flat.specs.Rounds.{AreNew, IsAt, IsRound, ShowsLevel, Rounded, StayMade, entries_of, answers_told, inquiry}
use Rattle.lsys_laws.specs.Sessions.{IsWell}
use Rattle.lsys_flat.specs.declared.level.Level.{Level}

-- The new levels; for each symbol below the last its new answer, or the place from which an old one is taken over; how many symbols the next level may have; how many answers are new, and how many questions there are.
pub record Drafted : Type 0 where
  pub revised : Revised
  pub fresh : List (List (Option Kept))
  pub taken : List (List (Option ℕ))
  pub room : ℕ
  pub asked : ℕ
  pub all : ℕ

-- New answers of all levels: made with the later store, they hold runs of their own, and none of an answer that was made before; and those stay.
pub record AreAllNew (before after : Store) (fresh : List (List (Option Kept))) : Type 0 where
  pub made : AreMadeWith after fresh
  pub own : AllHoldOwnRuns fresh
  pub beside : (t p : ℕ) (a b : Kept) → answer_on_level fresh t p ≡ Some a → IsMade before b → HoldOwnRuns a b
  pub stay : StayMade before after

-- Old levels, where their symbols come from with their tags, what is kept of them, and the store with which it was made.
pub record OldLevels : Type 0 where
  pub levels : List (List L.LevelSymbol)
  pub lines : List Descent
  pub kept : List (List (Option Kept))
  pub store : Store

abbrev pub olds_from : List (List L.LevelSymbol) → List Descent → List (List (Option Kept)) → Store → OldLevels
olds_from xs lines kept store = record { levels = xs; lines = lines; kept = kept; store = store }

-- The old levels are those that some system means under the limit, and what is kept of them was made with the store.
pub record AreOlds (limit : ℕ) (o : OldLevels) : Type 0 where
  pub old : System
  pub meant : meaning old limit ≡ Ok o.levels
  pub small : limit ≤ greatest_module_limit
  pub olds : AreOldLevels o.levels o.lines
  pub made : AreMadeWith o.store o.kept

-- nothing is planned yet beside these old levels
pub record IsEmpty (limit : ℕ) (old_lines : List Descent) (d : Drafted) : Type 0 where
  pub begun : IsBegunBeside old_lines d.revised
  pub old : d.revised.old_lines ≡ old_lines
  pub fresh : d.fresh ≡ []
  pub taken : d.taken ≡ []
  pub room : d.room ≡ limit
  pub asked : d.asked ≡ 0
  pub all : d.all ≡ 0

-- level 0 can be added: the old levels and the limit are small
pub record CanBegin (d : Drafted) : Type 0 where
  pub limit : ℕ
  pub old_lines : List Descent
  pub xs : List (List L.LevelSymbol)
  pub empty : IsEmpty limit old_lines d
  pub olds : AreOldLevels xs old_lines
  pub few : sum_by length xs ≤ greatest_module_limit
  pub small : limit ≤ greatest_module_limit

-- all levels can be planned: by some old levels, with what is kept of them
pub record CanComplete (old_lines : List Descent) (kept : List (List (Option Kept))) (store : Store) (d : Drafted) : Type 0 where
  pub limit : ℕ
  pub xs : List (List L.LevelSymbol)
  pub olds : AreOlds limit (olds_from xs old_lines kept store)
  pub empty : IsEmpty limit old_lines d

-- the next level was added after the others
pub record IsLonger (level : Level) (old new : Drafted) : Type 0 where
  pub is : new ≡ record old { revised = new.revised; room = new.room }
  pub room : new.room + length level.symbols ≡ old.room
  pub grows : GrowsByLevel level old.revised new.revised
  pub olds : new.revised.old_lines ≡ old.revised.old_lines
  pub last : List Spotted
  pub above : new.revised.view ≡ old.revised.view ++ last ∷ []

-- level t was added; or there was no room for it, or no memory
abbrev pub IsLevelAdded : {A : Type 0} → ℕ → Option Level → Drafted → Drafted → Result A DeriveRefusal → Type 0
IsLevelAdded t None old new (Ok done) = ⊥
IsLevelAdded t None old new (Err e) = e ≡ refusals.Limit t
IsLevelAdded t (Some level) old new (Ok done) = IsLonger level old new
IsLevelAdded t (Some level) old new (Err e) = e ≡ refusals.Memory

-- there is room for the next level, and it fits after the others
abbrev pub CanAddNext : Drafted → Option Level → Type 0
CanAddNext d None = Unit {0}
CanAddNext d (Some level) = CanAddLevel d.revised level × (length level.symbols ≤ d.room)

-- levels 0 to t - 1 were asked about
pub record HasAskedLevels (t : ℕ) (d : Drafted) : Type 0 where
  pub each_fresh : length d.fresh ≡ t
  pub each_taken : length d.taken ≡ t
  pub asked : d.asked ≡ sum_by filled_slots d.fresh
  pub all : d.all ≡ sum_by filled_slots d.fresh + sum_by filled_slots d.taken
  pub few : d.all ≤ sum_by length d.fresh

-- Levels 0 to t of the system, beside old levels.
pub record IsDraft (s : System) (limit : ℕ) (o : OldLevels) (store : Store) (before after t : ℕ) (d : Drafted) : Type 0 where
  pub ys : List (List L.LevelSymbol)
  pub meant : meaning_to s limit t ≡ Ok ys
  pub levels : length ys ≡ t + 1
  pub revised : IsRevised s.seed o.levels ys d.revised
  pub old : d.revised.old_lines ≡ o.lines
  pub room : d.room + sum_by length ys ≡ limit
  pub found : AreAllFound s 0 d.revised.view o.levels (all_slots_in o.store o.kept) ys (all_slots_in store d.fresh) d.taken
  pub long : sum_by length d.fresh + length (slice_index_or ys t []) ≡ sum_by length ys
  pub read : after ≡ before + entries_of (questions s ys)
  pub few : entries_of (questions s ys) ≤ most_read * sum_by length d.fresh

-- level t can be asked about: it is one below the depth of a system that is well formed
pub record CanGoOn (s : System) (limit : ℕ) (old_lines : List Descent) (kept : List (List (Option Kept))) (store : Store) (after t : ℕ) (d : Drafted) : Type 0 where
  pub well : IsWell s
  pub below : t < s.depth
  pub xs : List (List L.LevelSymbol)
  pub olds : AreOlds limit (olds_from xs old_lines kept store)
  pub begin : Store
  pub before : ℕ
  pub draft : IsDraft s limit (olds_from xs old_lines kept begin) store before after t d
  pub found : HasAskedLevels t d

-- What was found out about level t is kept after that of the levels before; and what was made of its children.
pub record HasAsked {A : Type 0} (s : System) (t : ℕ) (kept : List (Option Kept)) (before after : Store) (visited_old visited_new asked_old asked_new : ℕ) (old new : Drafted) (done : Result A DeriveRefusal) (next : Option Level) : Type 0 where
  pub rounded : Rounded
  pub is : new ≡ record old { fresh = set old.fresh t rounded.fresh; taken = set old.taken t rounded.taken; asked = old.asked + filled_slots rounded.fresh; all = old.all + rounded.questions }
  pub round : (naming : ℕ → List ℕ) (x : List L.LevelSymbol) → ShowsLevel naming s.seed (spots_at old.revised.view t) x
      → IsRound (inquiry s t (spots_at old.revised.view t) x (answers_told before kept) old.revised.mates) after rounded visited_old visited_new done
  pub whole : OnOk done (IsAt (length (spots_at old.revised.view t)) rounded)
  pub finished : IsFinished rounded.next.grown next
  pub room : OnOk done (rounded.next.grown.room ≡ old.room)
  pub new_answers : AreNew before after rounded.fresh
  pub each : length rounded.fresh ≤ length (spots_at old.revised.view t)
  pub counted : asked_new ≡ asked_old + filled_slots rounded.fresh

-- All levels of the system, planned beside old levels: what is seen of them, where their symbols come from with their tags, and what was found out.
pub record IsPlanned (s : System) (limit : ℕ) (o : OldLevels) (store : Store) (before after : ℕ)
    (view : List (List Spotted)) (lines : List Descent) (fresh : List (List (Option Kept))) (taken : List (List (Option ℕ))) (count : EditCount) : Type 0 where
  pub spelled : WellSpelled s
  pub ys : List (List L.LevelSymbol)
  pub meant : meaning s limit ≡ Ok ys
  pub revised : Revised
  pub is : IsRevised s.seed o.levels ys revised
  pub old : revised.old_lines ≡ o.lines
  pub seen : revised.view ≡ view
  pub come : revised.lines ≡ lines
  pub found : AreAllFound s 0 view o.levels (all_slots_in o.store o.kept) ys (all_slots_in store fresh) taken
  pub asked : count.asked ≡ sum_by filled_slots fresh
  pub all : count.questions ≡ sum_by filled_slots fresh + sum_by filled_slots taken
  pub read : after ≡ before + entries_of (questions s ys)

-- nothing is found out about the next level yet
abbrev pub with_level_open : Drafted → Drafted
with_level_open d = record d { fresh = d.fresh ++ [] ∷ []; taken = d.taken ++ [] ∷ [] }

-- A level that is asked about, symbol by symbol.
use Rattle.std.specs.Prelude.{◌≡◌, ◌+◌, ◌<◌, ◌≤◌, ◌^◌, ℕ, ℤ, Option, Some, None, Result, Ok, Err, List, [], ◌∷◌, ◌++◌, length, map, drop, set, sum_by, slice_get, option_map}
use Rattle.lsys_syntax.specs.Strings as S
use Rattle.lsys_syntax.specs.Commands.{Numbering}
use Rattle.lsys_spec.specs.Draws.{key_of}
use Rattle.lsys_spec.specs.Systems.{System, WellFormed}
use Rattle.lsys_spec.specs.Levels.{LevelSymbol, lineage}
use Rattle.lsys_spec.specs.Cuts.{Raw}
use Rattle.lsys_spec.specs.Meaning.{FaultAt, next_level}
use Rattle.lsys_spec.specs.Questions.{Question, questions_from, questions_at}
use Rattle.lsys_level.specs.Spots.{Seen, Push, Pop, Module, Spotted, level_by}
use Rattle.lsys_walks.specs.Stores.{Store}
use Rattle.lsys_match.specs.Kept.{Kept}
use Rattle.lsys_match.specs.KeptAnswers.{HoldOwnRuns, StaysMade}
use Rattle.lsys_match.specs.Stored.{answer_in}
use Rattle.lsys_match.specs.Asks.{IsMade}
use Rattle.lsys_match.specs.TagQuestions.{TagAnswer}
use Rattle.lsys_match.specs.declared.refusal.AskRefusal.{AskRefusal}
use Rattle.lsys_match.specs.declared.refusal.AskRefusal.TheVariants as asks
use Rattle.lsys_rewrite.specs.Faults.{fault_of}
use Rattle.lsys_rewrite.specs.declared.refusal.DeriveRefusal.{DeriveRefusal}
use Rattle.lsys_rewrite.specs.declared.refusal.DeriveRefusal.TheVariants as refusals
use Rattle.lsys_flat.specs.Grown.{Making, HasGrown, AddsChildren, nothing_made}
use Rattle.lsys_flat.specs.Steps.{ReplacedTo}
use Rattle.lsys_module.specs.Views.{string_of}
use Rattle.lsys_flat.specs.declared.found.SymbolAnswer.{SymbolAnswer}
use Rattle.lsys_flat.specs.declared.found.SymbolAnswer.TheVariants.{Stays, Same, New}
use Rattle.lsys_laws.specs.KeptQuestions.{question_here}
use Rattle.lsys_flat.specs.Slots.{IsFoundOut, filled_slots, slot_by_place, slot_where_told}

-- 1. what is seen of a level, and what is kept

-- By this naming of the tags the level x is seen, and each symbol has the key of its lineage.
pub record ShowsLevel (naming : ℕ → List ℕ) (seed : ℕ) (row : List Spotted) (x : List LevelSymbol) : Type 0 where
  pub string : level_by naming row ≡ x
  pub keys : (p : ℕ) (a : Spotted) → slice_get row p ≡ Some a → a.key ≡ key_of seed (naming a.tag)

-- By some naming some level of the system is seen, of fewer symbols than numbers have, and each of them has a mate or none.
pub record CanAsk (s : System) (row : List Spotted) (mates : List (Option ℕ)) : Type 0 where
  pub well : WellFormed s
  pub naming : ℕ → List ℕ
  pub level : List LevelSymbol
  pub is : ShowsLevel naming s.seed row level
  pub few : length row + 1 < 2 ^ 32
  pub each : length mates ≡ length row

-- all the answers were made with this store
pub record AreMadeAt (s : Store) (slots : List (Option Kept)) : Type 0 where
  pub each : (p : ℕ) (a : Kept) → slot_by_place slots p ≡ Some a → IsMade s a

-- every answer that was made before stays what it is
pub record StayMade (before after : Store) : Type 0 where
  pub each : (a : Kept) → IsMade before a → StaysMade before after a

-- These answers are new: made with the later store, they hold runs of their own, and none of an answer that was made before; and those stay.
pub record AreNew (before after : Store) (fresh : List (Option Kept)) : Type 0 where
  pub made : AreMadeAt after fresh
  pub own : (p q : ℕ) (a b : Kept) → slot_by_place fresh p ≡ Some a → slot_by_place fresh q ≡ Some b → (p ≡ q → ⊥) → HoldOwnRuns a b
  pub beside : (p : ℕ) (a b : Kept) → slot_by_place fresh p ≡ Some a → IsMade before b → HoldOwnRuns a b
  pub stay : StayMade before after

-- the answers beside the store with which they were made
abbrev pub answers_told : Store → List (Option Kept) → List (Option TagAnswer)
answers_told s slots = map (option_map (answer_in s)) slots

-- 2. a round

-- the next level so far; for each symbol so far its new answer, or the old place from which one is taken over; how many modules there were, and how many questions
pub record Rounded : Type 0 where
  pub next : Making
  pub fresh : List (Option Kept)
  pub taken : List (Option ℕ)
  pub modules : ℕ
  pub questions : ℕ

abbrev pub nothing_asked : Numbering → ℕ → Rounded
nothing_asked g room = record { next = nothing_made g room; fresh = []; taken = []; modules = 0; questions = 0 }

-- so many symbols were asked about
pub record IsAt (p : ℕ) (r : Rounded) : Type 0 where
  pub each_fresh : length r.fresh ≡ p
  pub each_taken : length r.taken ≡ p
  pub parents : r.next.grown.parents ≡ p
  pub modules : r.modules ≤ p
  pub questions : r.questions ≡ filled_slots r.fresh + filled_slots r.taken
  pub few : r.questions ≤ p

-- how many entries these questions read
abbrev pub entries_of : List Question → ℕ
entries_of qs = sum_by (λ q. length q.trace) qs

-- no more entries than these questions have
abbrev pub ReadsAtMost : ℕ → ℕ → ℕ → Type 0
ReadsAtMost most before after = (before ≤ after) × (after ≤ before + most)

-- What a level is asked for: its system, its number, what is seen of it, its symbols, the old level's answers, and the place of each symbol's mate there.
pub record Inquiry : Type 0 where
  pub system : System
  pub number : ℕ
  pub row : List Spotted
  pub level : List LevelSymbol
  pub olds : List (Option TagAnswer)
  pub mates : List (Option ℕ)

abbrev pub inquiry : System → ℕ → List Spotted → List LevelSymbol → List (Option TagAnswer) → List (Option ℕ) → Inquiry
inquiry s t row x olds mates = record { system = s; number = t; row = row; level = x; olds = olds; mates = mates }

-- The first p symbols of the level were asked about and replaced, and so many entries were read for that.
pub record AskedTo (k : Inquiry) (store : Store) (r : Rounded) (before after p : ℕ) : Type 0 where
  pub raw : List Raw
  pub replaced : ReplacedTo k.system k.number k.level p r.modules raw
  pub numbering : r.next.numbering ≡ k.system.numbering
  pub grown : HasGrown k.system.seed k.level raw r.next.grown
  pub found : (q : ℕ) (a : LevelSymbol) → q < p → slice_get k.level q ≡ Some a →
      IsFoundOut k.system k.number k.row q (question_here k.system k.number k.level q a) (slot_by_place k.mates q) (slot_where_told k.olds (slot_by_place k.mates q)) (slot_by_place (answers_told store r.fresh) q) (slot_by_place r.taken q)
  pub read : after + entries_of (questions_from k.system k.number k.level p (drop p k.level)) ≡ before + entries_of (questions_at k.system k.number k.level)
  pub onward : before ≤ after

-- The leftmost module with a fault is this, or memory was wanting; and no more was read than the questions of the level have entries.
abbrev pub IsNoRound : System → ℕ → List LevelSymbol → ℕ → ℕ → DeriveRefusal → Type 0
IsNoRound s t x before after (refusals.Fault k u n) = (u ≡ t) × (next_level s t x ≡ Err (FaultAt (fault_of k) t n)) × ReadsAtMost (entries_of (questions_at s t x)) before after
IsNoRound s t x before after (refusals.Limit u) = ⊥
IsNoRound s t x before after refusals.Memory = ReadsAtMost (entries_of (questions_at s t x)) before after

-- The whole level was asked about, or it wasn't, for this reason.
abbrev pub IsRound : {A : Type 0} → Inquiry → Store → Rounded → ℕ → ℕ → Result A DeriveRefusal → Type 0
IsRound k store r before after (Ok done) = AskedTo k store r before after (length k.level)
IsRound k store r before after (Err e) = IsNoRound k.system k.number k.level before after e

-- 3. its steps

-- what is seen, alone
abbrev pub seen_alone : Seen → List (S.Symbol ℤ)
seen_alone Push = S.Push ∷ []
seen_alone Pop = S.Pop ∷ []
seen_alone (Module m) = S.Module m.name m.params ∷ []

abbrev pub seen_modules : Seen → ℕ
seen_modules Push = 0
seen_modules Pop = 0
seen_modules (Module m) = 1

-- these symbols replaced the next symbol, which has this key
pub record Replaces (key : ℕ) (ys : List (S.Symbol ℤ)) (before after : Making) : Type 0 where
  pub grown : AddsChildren key ys before after
  pub parents : after.grown.parents ≡ before.grown.parents + 1
  pub room : after.grown.room ≡ before.grown.room
  pub numbering : after.numbering ≡ before.numbering

-- why the system has no levels, where n modules stand before this one
abbrev pub derive_refusal_at : ℕ → ℕ → AskRefusal → DeriveRefusal
derive_refusal_at t n (asks.Fault k) = refusals.Fault k t (n + 1)
derive_refusal_at t n asks.Memory = refusals.Memory

-- what replaces a symbol of which this is seen, and of which this was found out beside the old answer
abbrev pub string_found : {L : Type 0} → Seen → Option Kept → SymbolAnswer L → List (S.Symbol ℤ)
string_found e old Stays = seen_alone e
string_found e None Same = []
string_found e (Some o) Same = string_of o.successor
string_found e old (New b) = string_of b.successor

-- where the question is that of the old answer, there is one
abbrev pub HasOld : {L : Type 0} → Option Kept → SymbolAnswer L → Type 0
HasOld None Same = ⊥
HasOld (Some o) Same = Unit {0}
HasOld old Stays = Unit {0}
HasOld old (New b) = Unit {0}

abbrev pub fresh_found : {L : Type 0} → SymbolAnswer L → Option Kept
fresh_found Stays = None
fresh_found Same = None
fresh_found (New b) = Some b

abbrev pub taken_found : {L : Type 0} → Option ℕ → SymbolAnswer L → Option ℕ
taken_found mate Stays = None
taken_found mate Same = mate
taken_found mate (New b) = None

abbrev pub modules_found : {L : Type 0} → Seen → SymbolAnswer L → ℕ
modules_found e Stays = seen_modules e
modules_found e Same = 1
modules_found e (New b) = 1

abbrev pub questions_found : {L : Type 0} → SymbolAnswer L → ℕ
questions_found Stays = 0
questions_found Same = 1
questions_found (New b) = 1

-- so many symbols were asked about, and the next one is not yet
pub record AwaitsAnswer (p : ℕ) (r : Rounded) : Type 0 where
  pub fresh : length r.fresh ≡ p + 1
  pub taken : length r.taken ≡ p + 1
  pub none_fresh : slot_by_place r.fresh p ≡ None
  pub none_taken : slot_by_place r.taken p ≡ None
  pub parents : r.next.grown.parents ≡ p
  pub modules : r.modules ≤ p
  pub questions : r.questions ≤ p
  pub few : p + 1 < 2 ^ 32

-- what is kept of the symbol at place p of which this was found out
abbrev pub settled : {L : Type 0} → ℕ → Seen → Option ℕ → SymbolAnswer L → Making → Rounded → Rounded
settled p e mate f next r = record {
  next = next;
  fresh = set r.fresh p (fresh_found f);
  taken = set r.taken p (taken_found mate f);
  modules = r.modules + modules_found e f;
  questions = r.questions + questions_found f;
}

-- nothing is found out about the next symbol yet
abbrev pub with_next_open : Rounded → Rounded
with_next_open r = record r { fresh = r.fresh ++ None ∷ []; taken = r.taken ++ None ∷ [] }

-- the symbol of which this is seen stays
abbrev pub with_stayed : Seen → Making → Rounded → Rounded
with_stayed e next r = record r { next = next; modules = r.modules + seen_modules e }

-- the old answer is taken over from its place
abbrev pub with_taken : ℕ → Option ℕ → Making → Rounded → Rounded
with_taken p from next r = record r { next = next; taken = set r.taken p from; modules = r.modules + 1; questions = r.questions + 1 }

-- the new answer is kept
abbrev pub with_put : ℕ → Kept → Making → Rounded → Rounded
with_put p answer next r = record r { next = next; fresh = set r.fresh p (Some answer); modules = r.modules + 1; questions = r.questions + 1 }

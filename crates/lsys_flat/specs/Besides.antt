-- A level that is asked about beside the old one, and what the calls of a round leave, told of the parameters that they are lent.
use Rattle.std.specs.Prelude.{◌≡◌, ◌+◌, ◌≤◌, ℕ, ℤ, Option, Some, Result, List, length, OnOk, OnErr}
use Rattle.std.specs.Borrow.{Bor}
use Rattle.lsys_syntax.specs.Calls.{Lent}
use Rattle.lsys_syntax.specs.Strings as S
use Rattle.lsys_spec.specs.Draws.{number_base}
use Rattle.lsys_spec.specs.Levels.{LevelSymbol, ModuleValue}
use Rattle.lsys_spec.specs.Meaning.{replacement}
use Rattle.lsys_level.specs.Spots.{Spotted, spots_at, spotted_at, level_by}
use Rattle.lsys_walks.specs.Stores.{Store}
use Rattle.lsys_match.specs.Kept.{Kept}
use Rattle.lsys_match.specs.Asks.{IsNamedAt, by_definition, kept_lent}
use Rattle.lsys_match.specs.declared.refusal.AskRefusal.{AskRefusal}
use Rattle.lsys_rewrite.specs.declared.refusal.DeriveRefusal.{DeriveRefusal}
use Rattle.lsys_laws.specs.KeptQuestions.{question_here}
use Rattle.lsys_flat.specs.declared.beside.Beside.{Beside}
use Rattle.lsys_flat.specs.declared.found.SymbolAnswer.{SymbolAnswer}
use Rattle.lsys_flat.specs.Slots.{slot_by_place, slot_where_told}
use Rattle.lsys_flat.specs.Replaced.{IsAsked, IsRecalled, IsReplaced, IsSymbolAt}
use Rattle.lsys_flat.specs.Rounds.{Inquiry, Rounded, Replaces, AreMadeAt, AreNew, AskedTo, CanAsk, IsRound, ShowsLevel, answers_told, inquiry, settled, string_found}

-- 1. the level

-- what is seen of it
abbrev pub row_beside : {L : Type 0} → Beside L → List Spotted
row_beside b = spots_at b.view.now b.level

-- what was kept at the old place of the symbol at place p
abbrev pub old_beside : {L : Type 0} → Beside L → ℕ → Option Kept
old_beside b p = slot_where_told b.olds.now (slot_by_place b.mates.now p)

abbrev pub CanAskBeside : {L : Type 0} → Beside L → Type 0
CanAskBeside b = CanAsk b.system.now (row_beside b) b.mates.now

-- by this naming of the tags these are its symbols
abbrev pub ShowsBeside : {L : Type 0} → (ℕ → List ℕ) → Beside L → List LevelSymbol → Type 0
ShowsBeside naming b x = ShowsLevel naming b.system.now.seed (row_beside b) x

-- what it is asked for then, where the old answers were made with this store
abbrev pub inquiry_beside : {L : Type 0} → Store → Beside L → List LevelSymbol → Inquiry
inquiry_beside store b x = inquiry b.system.now b.level (row_beside b) x (answers_told store b.olds.now) b.mates.now

-- 2. one symbol, by every naming of the tags that makes a level of what is seen

-- what replaces the symbol at place p is what the definitions say
abbrev pub IsReplacedBeside : {L : Type 0} → Beside L → ℕ → Option (Bor Kept) → Result (SymbolAnswer L) AskRefusal → Type 0
IsReplacedBeside b p old result =
    (naming : ℕ → List ℕ) (a : LevelSymbol) → IsSymbolAt naming b.system.now.seed (row_beside b) p a
    → IsReplaced (replacement b.system.now b.level (level_by naming (row_beside b)) p a) a (kept_lent old) result

-- so is the answer
abbrev pub IsRecalledBeside : {L : Type 0} → Beside L → ℕ → Option (Bor Kept) → Store → Result (SymbolAnswer L) AskRefusal → Type 0
IsRecalledBeside b p old store result =
    (naming : ℕ → List ℕ) (tag : ℕ) (m : ModuleValue) → IsNamedAt naming b.system.now.seed (row_beside b) p tag m
    → IsRecalled naming (by_definition b.system.now b.level (level_by naming (row_beside b)) p (naming tag) m) store (kept_lent old) result

-- and so many entries are read as the question's trace has
abbrev pub IsReadBeside : {L : Type 0} → Beside L → ℕ → Lent ℕ → Result (SymbolAnswer L) AskRefusal → Type 0
IsReadBeside b p visited result =
    (naming : ℕ → List ℕ) (a : LevelSymbol) → IsSymbolAt naming b.system.now.seed (row_beside b) p a
    → IsAsked (question_here b.system.now b.level (level_by naming (row_beside b)) p a) visited.entry.now visited.exit.now result

-- 3. what is found out about it

-- what replaces it has fewer symbols than numbers have
abbrev pub IsShortBeside : {L : Type 0} → Beside L → ℕ → Option (Bor Kept) → SymbolAnswer L → Type 0
IsShortBeside b p old found = (a : Spotted) → spotted_at b.view.now b.level p ≡ Some a → length (string_found a.seen (kept_lent old) found) ≤ number_base

-- these symbols replaced the next symbol
abbrev pub ReplacesNext : ℕ → List (S.Symbol ℤ) → Lent Rounded → Type 0
ReplacesNext key ys round = Replaces key ys round.entry.now.next round.exit.now.next

-- what was found out replaced it
abbrev pub ReplacesBeside : {L A E : Type 0} → Beside L → ℕ → Option (Bor Kept) → SymbolAnswer L → Lent Rounded → Result A E → Type 0
ReplacesBeside b p old found round result =
    (a : Spotted) → spotted_at b.view.now b.level p ≡ Some a → OnOk result (ReplacesNext a.key (string_found a.seen (kept_lent old) found) round)

-- and is kept of it
abbrev pub SettlesBeside : {L A E : Type 0} → Beside L → ℕ → SymbolAnswer L → Lent Rounded → Result A E → Type 0
SettlesBeside b p found round result =
    (a : Spotted) → spotted_at b.view.now b.level p ≡ Some a
    → OnOk result (round.exit.now ≡ settled p a.seen (slot_by_place b.mates.now p) found round.exit.now.next round.entry.now)

-- 4. all symbols

-- new answers are still new
abbrev pub StayNew : Lent Store → Lent Rounded → Type 0
StayNew store round = (begin : Store) → AreNew begin store.entry.now round.entry.now.fresh → AreNew begin store.exit.now round.exit.now.fresh

-- one more symbol was asked about, by every naming
abbrev pub AsksNext : {L A E : Type 0} → Beside L → ℕ → Lent Store → Lent Rounded → Lent ℕ → Result A E → Type 0
AsksNext b p store round visited result =
    (begin : Store) (before : ℕ) (naming : ℕ → List ℕ) (x : List LevelSymbol) → ShowsBeside naming b x → AreMadeAt begin b.olds.now → AreNew begin store.entry.now round.entry.now.fresh
    → AskedTo (inquiry_beside begin b x) store.entry.now round.entry.now before visited.entry.now p
    → OnOk result (AskedTo (inquiry_beside begin b x) store.exit.now round.exit.now before visited.exit.now (p + 1))

-- the level can't be asked about, for this reason
abbrev pub EndsRound : {L A : Type 0} → Beside L → ℕ → Lent Store → Lent Rounded → Lent ℕ → Result A DeriveRefusal → Type 0
EndsRound b p store round visited result =
    (begin : Store) (before : ℕ) (naming : ℕ → List ℕ) (x : List LevelSymbol) → ShowsBeside naming b x
    → AskedTo (inquiry_beside begin b x) store.entry.now round.entry.now before visited.entry.now p
    → OnErr result (IsRound (inquiry_beside begin b x) store.exit.now round.exit.now before visited.exit.now result)

-- the whole level was asked about, or it wasn't, for this reason
abbrev pub AsksAll : {L A : Type 0} → Beside L → Lent Store → Lent Rounded → Lent ℕ → Result A DeriveRefusal → Type 0
AsksAll b store round visited result =
    (naming : ℕ → List ℕ) (x : List LevelSymbol) → ShowsBeside naming b x
    → IsRound (inquiry_beside store.entry.now b x) store.exit.now round.exit.now visited.entry.now visited.exit.now result

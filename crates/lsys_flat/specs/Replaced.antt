-- What replaces a symbol, as it is answered.
use Rattle.std.specs.Prelude.{◌≡◌, ◌≤◌, ◌+◌, ℕ, ℤ, List, [], ◌∷◌, Option, Some, None, Result, Ok, Err, length, slice_get}
use Rattle.std.specs.Option.{IsSomeAnd}
use Rattle.lsys_syntax.specs.Strings as S
use Rattle.lsys_spec.specs.Draws.{key_of}
use Rattle.lsys_spec.specs.Levels.{LevelSymbol, plain, lineage}
use Rattle.lsys_spec.specs.Choice.{Fault}
use Rattle.lsys_spec.specs.Questions.{Question}
use Rattle.lsys_module.specs.Views.{string_of}
use Rattle.lsys_rewrite.specs.Faults.{fault_of}
use Rattle.lsys_level.specs.Spots.{Spotted, seen_by}
use Rattle.lsys_walks.specs.Stores.{Store}
use Rattle.lsys_match.specs.Asks.{ByDefinition, IsAnswer, IsNew, StaysAsKept}
use Rattle.lsys_match.specs.Stored.{answer_in}
use Rattle.lsys_match.specs.Kept.{Kept}
use Rattle.lsys_match.specs.declared.refusal.AskRefusal.{AskRefusal}
use Rattle.lsys_match.specs.declared.refusal.AskRefusal.TheVariants as refusals
use Rattle.lsys_flat.specs.declared.found.SymbolAnswer.{SymbolAnswer}
use Rattle.lsys_flat.specs.declared.found.SymbolAnswer.TheVariants.{Stays, Same, New}
use Rattle.lsys_match.specs.declared.asked.Asked.{Asked}
use Rattle.lsys_match.specs.declared.asked.Asked.TheVariants as asked

-- This symbol stands at place p, by a naming of the tags, with the key of its lineage.
pub record IsSymbolAt (naming : ℕ → List ℕ) (seed : ℕ) (row : List Spotted) (p : ℕ) (a : LevelSymbol) : Type 0 where
  pub tag : ℕ
  pub here : slice_get row p ≡ Some (record { seen = seen_by a; tag = tag; key = key_of seed (lineage a) })
  pub line : naming tag ≡ lineage a

-- what is found out by asking
abbrev pub found_of : {L : Type 0} → Result (Option (Asked L)) AskRefusal → Result (SymbolAnswer L) AskRefusal
found_of (Ok None) = Ok Stays
found_of (Ok (Some asked.Same)) = Ok Same
found_of (Ok (Some (asked.New b))) = Ok (New b)
found_of (Err e) = Err e

-- The symbol itself replaces it, or the successor of the old answer or of the new one; or this is its fault.
abbrev pub IsReplaced : {L : Type 0} → Result (List (S.Symbol ℤ)) Fault → LevelSymbol → Option Kept → Result (SymbolAnswer L) AskRefusal → Type 0
IsReplaced r a old (Ok Stays) = r ≡ Ok (plain a ∷ [])
IsReplaced r a old (Ok Same) = IsSomeAnd old (λ o. r ≡ Ok (string_of o.successor))
IsReplaced r a old (Ok (New b)) = r ≡ Ok (string_of b.successor)
IsReplaced r a old (Err (refusals.Fault k)) = r ≡ Err (fault_of k)
IsReplaced r a old (Err refusals.Memory) = Unit {0}

-- one for a new answer
abbrev pub found_news : {L : Type 0} → Result (SymbolAnswer L) AskRefusal → ℕ
found_news (Ok (New a)) = 1
found_news (Ok Same) = 0
found_news (Ok Stays) = 0
found_news (Err e) = 0

-- It is told that there is no question exactly where there is none, and else as many entries were read as the question's trace has; no more for lack of memory.
abbrev pub IsAsked : {L : Type 0} → Option Question → ℕ → ℕ → Result (SymbolAnswer L) AskRefusal → Type 0
IsAsked None old new (Ok Stays) = new ≡ old
IsAsked None old new (Ok Same) = ⊥
IsAsked None old new (Ok (New b)) = ⊥
IsAsked None old new (Err e) = ⊥
IsAsked (Some q) old new (Ok Stays) = ⊥
IsAsked (Some q) old new (Ok Same) = new ≡ old + length q.trace
IsAsked (Some q) old new (Ok (New b)) = new ≡ old + length q.trace
IsAsked (Some q) old new (Err (refusals.Fault k)) = new ≡ old + length q.trace
IsAsked (Some q) old new (Err refusals.Memory) = (old ≤ new) × (new ≤ old + length q.trace)

-- only a new answer changes what is kept
abbrev pub KeepsFound : {L : Type 0} → Store → Store → Option Kept → Result (SymbolAnswer L) AskRefusal → Type 0
KeepsFound before after old (Ok (New b)) = IsNew before after old b
KeepsFound before after old (Ok Same) = StaysAsKept before after
KeepsFound before after old (Ok Stays) = after ≡ before
KeepsFound before after old (Err e) = StaysAsKept before after

-- the old answer is this one, where the store holds this, or the new one is
abbrev pub IsRecalled : {L : Type 0} → (ℕ → List ℕ) → ByDefinition → Store → Option Kept → Result (SymbolAnswer L) AskRefusal → Type 0
IsRecalled naming d s old (Ok Same) = IsSomeAnd old (λ a. IsAnswer naming d (answer_in s a))
IsRecalled naming d s old (Ok (New b)) = IsAnswer naming d (answer_in s b)
IsRecalled naming d s old (Ok Stays) = Unit {0}
IsRecalled naming d s old (Err e) = Unit {0}

-- What asking answers, by the definitions.
use Rattle.std.specs.Prelude.{◌≡◌, ℕ, ℤ, List, length, Option, Some, None, Result, Ok, Err, slice_get, option_map, IfOk}
use Rattle.std.specs.Borrow.{Bor}
use Rattle.std.specs.Option.{IsSomeAnd}
use Rattle.lsys_syntax.specs.Strings as S
use Rattle.lsys_spec.specs.Draws.{key_of}
use Rattle.lsys_spec.specs.Systems.{System}
use Rattle.lsys_spec.specs.Bodies.{group}
use Rattle.lsys_spec.specs.Levels.{ModuleValue}
use Rattle.lsys_spec.specs.Levels as L
use Rattle.lsys_spec.specs.Choice.{Choice, Fault}
use Rattle.lsys_spec.specs.Meaning.{asked, successor}
use Rattle.lsys_spec.specs.Questions.{Question, question}
use Rattle.lsys_level.specs.Spots.{Spotted, Module}
use Rattle.lsys_rewrite.specs.Faults.{fault_of}
use Rattle.lsys_walks.specs.Stores.{Store, StaysWithRoom, AreFresh, AreLive, HoldsTrace, OtherTracesStay}
use Rattle.lsys_walks.specs.Noted.{Noted}
use Rattle.lsys_walks.specs.declared.entry.Entry.{Entry}
use Rattle.lsys_walks.specs.declared.store.TraceRuns.{TraceRuns}
use Rattle.lsys_match.specs.declared.asked.Asked.{Asked}
use Rattle.lsys_match.specs.declared.asked.Asked.TheVariants.{Same, New}
use Rattle.lsys_match.specs.declared.refusal.AskRefusal.{AskRefusal}
use Rattle.lsys_match.specs.declared.refusal.AskRefusal.TheVariants as refusals
use Rattle.lsys_match.specs.Kept.{Kept}
use Rattle.lsys_match.specs.TagQuestions.{IsSamePosed, Posed, TagAnswer, question_by}
use Rattle.lsys_match.specs.Stored.{runs_of, entries_in, values_in, posed_in, trace_in, question_in, answer_in, HasParams}
use Rattle.lsys_match.specs.Answered.{IsSoundAnswer, place_chosen}

-- 1. by the definitions

-- a module's question, which rule of its group is chosen, and its successor
pub record ByDefinition : Type 0 where
  pub question : Question
  pub choice : Choice
  pub successor : Result (List (S.Symbol ℤ)) Fault

-- of the module m with lineage l at place p of the level x, which is level t
abbrev pub by_definition : System → ℕ → List L.LevelSymbol → ℕ → List ℕ → ModuleValue → ByDefinition
by_definition s t x p l m =
    let bs = group s t m.name (length m.params) in
    record { question = question s t bs x p l m; choice = (asked s t bs x p l m).answer; successor = successor s t x p l m }

-- By this naming of the tags the module m stands at place p, with this tag, and with the key that its lineage has by the seed.
pub record IsNamedAt (naming : ℕ → List ℕ) (seed : ℕ) (row : List Spotted) (p tag : ℕ) (m : ModuleValue) : Type 0 where
  pub here : slice_get row p ≡ Some (record { seen = Module m; tag = tag; key = key_of seed (naming tag) })

-- an answer told by tags is this one
pub record IsAnswer (naming : ℕ → List ℕ) (d : ByDefinition) (a : TagAnswer) : Type 0 where
  pub question : question_by naming d.question.level a.question ≡ d.question
  pub chosen : a.chosen ≡ place_chosen d.choice
  pub successor : Ok a.successor ≡ d.successor

-- the old answer is this one, where the store holds this, or the new one is; or the fault is this
abbrev pub IsAnswered : {L : Type 0} → (ℕ → List ℕ) → ByDefinition → Store → Option Kept → Result (Asked L) AskRefusal → Type 0
IsAnswered naming d s old (Ok Same) = IsSomeAnd old (λ a. IsAnswer naming d (answer_in s a))
IsAnswered naming d s old (Ok (New a)) = IsAnswer naming d (answer_in s a)
IsAnswered naming d s old (Err (refusals.Fault k)) = Err (fault_of k) ≡ d.successor
IsAnswered naming d s old (Err refusals.Memory) = Unit {0}

-- what asking answers; nothing where there is no question
abbrev pub asked_if_any : {L : Type 0} → Result (Option (Asked L)) AskRefusal → Option (Result (Asked L) AskRefusal)
asked_if_any (Ok None) = None
asked_if_any (Ok (Some a)) = Some (Ok a)
asked_if_any (Err e) = Some (Err e)

-- 2. by tags

-- An answer that was made with this store: its runs are live there, its parameters are those of its module and its trace, and some system's answer it is.
pub record IsMade (s : Store) (a : Kept) : Type 0 where
  pub live : AreLive s (runs_of a)
  pub params : HasParams s a
  pub sound : IsSoundAnswer (answer_in s a)

abbrev pub IsMadeIfAny : Store → Option Kept → Type 0
IsMadeIfAny s None = Unit {0}
IsMadeIfAny s (Some a) = IsMade s a

-- the answer that is lent, where one is
abbrev pub kept_lent : Option (Bor Kept) → Option Kept
kept_lent old = option_map (λ a. a.now) old

-- the trace of the old answer, where its question is this one but for the trace
abbrev pub IsTraceFor : Store → Option Kept → Posed → Option (List Noted) → Type 0
IsTraceFor s None d None = Unit {0}
IsTraceFor s None d (Some was) = ⊥
IsTraceFor s (Some a) d None = IsSamePosed (posed_in s a) d → ⊥
IsTraceFor s (Some a) d (Some was) = (trace_in s a ≡ was) × IsSamePosed (posed_in s a) d

-- A new answer was made with the new store, and answers another question than the old one.
pub record IsNew (before after : Store) (old : Option Kept) (a : Kept) : Type 0 where
  pub made : IsMade after a
  pub other : (o : Kept) → old ≡ Some o → question_in before o ≡ question_in after a → ⊥
  pub fresh : AreFresh before (runs_of a) (entries_in after a) (values_in after a)
  pub others : OtherTracesStay before after (runs_of a)

-- This trace is kept with these parameters: its runs have them, and weren't live before, and all other runs stay.
pub record IsTracePlaced (before after : Store) (runs : TraceRuns) (entries : List Entry) (values : List ℤ) : Type 0 where
  pub placed : HoldsTrace after runs entries values
  pub fresh : AreFresh before runs entries values
  pub others : OtherTracesStay before after runs

-- this trace is kept with these parameters, but for lack of memory
abbrev pub KeepsTrace : {E : Type 0} → Store → Store → List Entry → List ℤ → Result TraceRuns E
    → Type 0
KeepsTrace before after entries values r =
    IfOk r (λ runs. IsTracePlaced before after runs entries values)

-- This answer is kept: its runs are live, and weren't before, and all other runs stay.
pub record IsKept (before after : Store) (meant : TagAnswer) (a : Kept) : Type 0 where
  pub answer : answer_in after a ≡ meant
  pub live : AreLive after (runs_of a)
  pub params : HasParams after a
  pub fresh : AreFresh before (runs_of a) (entries_in after a) (values_in after a)
  pub others : OtherTracesStay before after (runs_of a)

pub record StaysAsKept (before after : Store) : Type 0 where
  pub traces : StaysWithRoom before.traces after.traces
  pub values : StaysWithRoom before.values after.values

-- only a new answer changes what is kept
abbrev pub KeepsStore : {L : Type 0} → Store → Store → Option Kept → Result (Asked L) AskRefusal → Type 0
KeepsStore before after old (Ok (New a)) = IsNew before after old a
KeepsStore before after old (Ok Same) = StaysAsKept before after
KeepsStore before after old (Err e) = StaysAsKept before after

-- one for a new answer
abbrev pub news : {L : Type 0} → Result (Asked L) AskRefusal → ℕ
news (Ok (New a)) = 1
news (Ok Same) = 0
news (Err e) = 0

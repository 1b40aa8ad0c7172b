-- What is read and chosen for a question, beside an old trace.
use Rattle.std.specs.Prelude.{◌≡◌, ℕ, ℤ, List, length, Option, Some, None, Result, Ok, Err, option_map}
use Rattle.lsys_spec.specs.Bodies.{Body}
use Rattle.lsys_spec.specs.Levels.{ModuleValue}
use Rattle.lsys_spec.specs.Walks.{Told}
use Rattle.lsys_spec.specs.Choice as choice
use Rattle.lsys_spec.specs.Meaning.{successor_by}
use Rattle.lsys_module.specs.Views.{string_of}
use Rattle.lsys_module.specs.declared.symbol.Symbol.{Symbol}
use Rattle.lsys_rewrite.specs.Faults.{fault_of}
use Rattle.lsys_rewrite.specs.declared.refusal.FaultKind.{FaultKind}
use Rattle.lsys_walks.specs.Noted.{Noted}
use Rattle.lsys_walks.specs.Views.{arities, decoded, module_named}
use Rattle.lsys_match.specs.declared.choice.Choice.{Choice}
use Rattle.lsys_match.specs.declared.refusal.AskRefusal.{AskRefusal}
use Rattle.lsys_match.specs.declared.refusal.AskRefusal.TheVariants.{Fault, Memory}
use Rattle.lsys_match.specs.declared.told.OldTrace.{OldTrace}
use Rattle.lsys_match.specs.declared.told.Told.{Told as CodeTold}
use Rattle.lsys_match.specs.declared.told.Told.TheVariants.{Same, Other}
use Rattle.lsys_match.specs.declared.told.Reply.{Reply}
use Rattle.lsys_match.specs.declared.posed.Posed.{Posed as CodePosed}
use Rattle.lsys_match.specs.Groups.{rules_of}
use Rattle.lsys_match.specs.Sites.{Site}
use Rattle.lsys_match.specs.Asking.{posed_by, told_for}
use Rattle.lsys_match.specs.Choices.{choice_by}
use Rattle.lsys_match.specs.Tries.{entries_by}
use Rattle.lsys_match.specs.Constants.{symbols_by}
use Rattle.lsys_match.specs.TagQuestions.{TagAnswer}
use Rattle.lsys_match.specs.Answered.{CountsEntries, IsAnswerTo, trace_told}

-- the choice, where these are the values of the chosen rule's formals
abbrev pub choice_at : Option ℕ → List ℤ → choice.Choice
choice_at None values = choice.NoRule
choice_at (Some g) values = choice.Chosen g values

abbrev pub choice_or : Result (Option ℕ) FaultKind → List ℤ → choice.Choice
choice_or (Ok g) values = choice_at g values
choice_or (Err k) values = choice.Failed (fault_of k)

-- the place, or the fault, of a choice
abbrev pub IsChosenPlace : Choice → Result (Option ℕ) FaultKind → Type 0
IsChosenPlace c r = (values : List ℤ) → choice_by c values ≡ choice_or r values

-- the successor where this is chosen, or its fault; lack of memory says nothing
abbrev pub IsSuccessor : List Body → ModuleValue → Option ℕ → List ℤ → Result (List Symbol) AskRefusal → Type 0
IsSuccessor bs m chosen values (Ok symbols) = successor_by bs m (choice_at chosen values) ≡ Ok (string_of symbols)
IsSuccessor bs m chosen values (Err (Fault k)) = successor_by bs m (choice_at chosen values) ≡ Err (fault_of k)
IsSuccessor bs m chosen values (Err Memory) = Unit {0}

-- the successor of what is posed, where this is chosen
abbrev pub IsSuccessorOf : CodePosed → Option ℕ → List ℤ → Result (List Symbol) AskRefusal → Type 0
IsSuccessorOf q chosen values r =
    let own = module_named q.name q.params.now in IsSuccessor (rules_of q.group) own chosen values r

-- it is this, where these symbols are kept beside the chosen rule
abbrev pub IsSuccessorKept : CodePosed → Option ℕ → List ℤ → Result (List Symbol) AskRefusal → Type 0
IsSuccessorKept q chosen values (Ok kept) = IsSuccessorOf q chosen values (Ok (symbols_by q.group chosen kept))
IsSuccessorKept q chosen values (Err e) = IsSuccessorOf q chosen values (Err e)

-- these symbols, or the refusal
abbrev pub replaced_by : List Symbol → Result Unit AskRefusal → Result (List Symbol) AskRefusal
replaced_by symbols (Ok _) = Ok symbols
replaced_by symbols (Err e) = Err e

-- what was read, by a trace with its parameters
abbrev pub noted_by : OldTrace → List Noted
noted_by t = decoded t.entries.now t.values.now

abbrev pub old_trace : Option OldTrace → Option (List Noted)
old_trace o = option_map (λ t. noted_by t) o

-- it is the old trace, where there is one
abbrev pub IsOldTrace : Option (List Noted) → List Noted → Type 0
IsOldTrace None now = Unit {0}
IsOldTrace (Some was) now = now ≡ was

-- its parameters are as many as its entries have
abbrev pub HasFittingParams : Option OldTrace → Type 0
HasFittingParams None = Unit {0}
HasFittingParams (Some t) = arities t.entries.now ≡ length t.values.now

abbrev pub reply_answer : CodePosed → Reply → TagAnswer
reply_answer q r = record { question = record { posed = posed_by q; trace = r.trace }; chosen = r.chosen; successor = string_of (symbols_by q.group r.chosen r.symbols) }

-- the reply to what is posed, where this was read and chosen, or why there is no successor
abbrev pub IsReplyOf : CodePosed → List Noted → Option ℕ → List ℤ → Result Reply AskRefusal → Type 0
IsReplyOf q read chosen values (Ok r) = (r.trace ≡ read) × (r.chosen ≡ chosen) × IsSuccessorKept q chosen values (Ok r.symbols)
IsReplyOf q read chosen values (Err e) = IsSuccessorOf q chosen values (Err e)

-- the old trace was read; or another one, and this is the answer; or the fault
abbrev pub IsTelling : ((ℕ → List ℕ) → Told choice.Choice) → CodePosed → Option (List Noted) → Result CodeTold AskRefusal → Type 0
IsTelling told q old (Ok Same) = (was : List Noted) × (old ≡ Some was) × ((naming : ℕ → List ℕ) → entries_by naming was ≡ trace_told (told naming))
IsTelling told q old (Ok (Other r)) = (old ≡ Some r.trace → ⊥) × IsAnswerTo told (reply_answer q r)
IsTelling told q old (Err (Fault k)) = (naming : ℕ → List ℕ) → successor_by (posed_by q).bodies (posed_by q).own (told naming).answer ≡ Err (fault_of k)
IsTelling told q old (Err Memory) = Unit {0}

-- this is told of what is posed at a site
abbrev pub IsTellingOf : CodePosed → Site → Option OldTrace → Result CodeTold AskRefusal → Type 0
IsTellingOf q site old r =
    IsTelling (λ naming. told_for naming site (posed_by q)) q (old_trace old) r

-- this is told of what is posed, wherever its module stands
abbrev pub IsTellingAnywhere : CodePosed → Option OldTrace → Result CodeTold AskRefusal → Type 0
IsTellingAnywhere q old r = (site : Site) → site.own ≡ (posed_by q).own → IsTellingOf q site old r

-- by every naming of the tags so many entries were read as are told
abbrev pub CountsTold : CodePosed → Site → ℕ → ℕ → Result CodeTold AskRefusal → Type 0
CountsTold q site before after r =
    (naming : ℕ → List ℕ)
    → CountsEntries (length (trace_told (told_for naming site (posed_by q)))) before after r

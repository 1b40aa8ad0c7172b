-- Answers beside the store with which they were made.
use Rattle.std.specs.Prelude.{◌≡◌, ◌+◌, ℤ, List, [], Option, Some, None, length, map, take, drop}
use Rattle.lsys_spec.specs.Levels.{ModuleValue}
use Rattle.lsys_module.specs.Views.{string_of}
use Rattle.lsys_region.specs.Pool.{list_of}
use Rattle.lsys_walks.specs.declared.entry.Entry.{Entry}
use Rattle.lsys_walks.specs.declared.store.TraceRuns.{TraceRuns}
use Rattle.lsys_walks.specs.Noted.{Noted}
use Rattle.lsys_walks.specs.Stores.{Store}
use Rattle.lsys_walks.specs.Views.{arities, decoded, module_named}
use Rattle.lsys_match.specs.Groups.{meant}
use Rattle.lsys_match.specs.Kept.{Kept}
use Rattle.lsys_match.specs.TagQuestions.{Posed, TagQuestion, TagAnswer}

-- the runs that an answer holds
abbrev pub runs_of : Kept → TraceRuns
runs_of a = record { entries = a.entries; values = a.values }

-- the list of a run that is live
abbrev pub listed : {T : Type 0} → Option (List T) → List T
listed None = []
listed (Some list) = list

abbrev pub entries_in : Store → Kept → List Entry
entries_in s a = listed (list_of s.traces a.entries)

-- the parameters of the module, and after them those of the modules that were read
abbrev pub values_in : Store → Kept → List ℤ
values_in s a = listed (list_of s.values a.values)

-- they are as many as the module and the entries have
abbrev pub HasParams : Store → Kept → Type 0
HasParams s a = a.arity + arities (entries_in s a) ≡ length (values_in s a)

abbrev pub own_module_in : Store → Kept → ModuleValue
own_module_in s a = module_named a.name (take a.arity (values_in s a))

abbrev pub trace_in : Store → Kept → List Noted
trace_in s a = decoded (entries_in s a) (drop a.arity (values_in s a))

-- the question that it answers but for the trace
abbrev pub posed_in : Store → Kept → Posed
posed_in s a = record { tag = a.tag; own = own_module_in s a; bodies = map meant a.bodies; key = a.key }

-- the question that it answers
abbrev pub question_in : Store → Kept → TagQuestion
question_in s a = record { posed = posed_in s a; trace = trace_in s a }

abbrev pub answer_in : Store → Kept → TagAnswer
answer_in s a = record { question = question_in s a; chosen = a.chosen; successor = string_of a.successor }

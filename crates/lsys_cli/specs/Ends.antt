-- How a run ends: what its status says of the script, of what the source gave, of what was written and of the counters.
use Rattle.std.specs.Prelude.{◌≡◌, ◌≢◌, ◌⊎◌, ◌+◌, ◌<◌, ◌≤◌, ℕ, Bool, true, false, Some, None, List, length, take}
use Rattle.std.specs.declared.option.Option.{Option}
use Rattle.std.specs.Io.KnownBytes.{Appends, Consumes}
use Rattle.lsys_io.specs.Writes.{AppendsFront}
use Rattle.lsys_syntax.specs.Limits.{most_script_bytes}
use Rattle.lsys_spec.specs.Refusals.{Reply}
use Rattle.lsys_spec.specs.Output.{output_text, any_refusal, any_memory, any_end, none, whole_lines}
use Rattle.lsys_spec.specs.Costs.{Cost, Visits, Within}
use Rattle.lsys_history.specs.Costs.{desk_cost}
use Rattle.lsys_history.specs.Desks.{desk_out}
use Rattle.lsys_session.specs.Answers.{Counters}
use Rattle.lsys_cli.specs.declared.status.Status.{Status}
use Rattle.lsys_cli.specs.declared.status.Status.TheVariants.{Done, Refused, Usage, ReadFault, WriteFault, Memory, TooLong}

-- the replies of a desk to a script, of which the lines in M are refused as out of memory
abbrev pub replies : ℕ → List ℕ → (ℕ → Bool) → List Reply
replies limit script M = desk_out limit script M

-- the bytes before the script's 16,777,217th
abbrev pub script_front : List ℕ → List ℕ
script_front script = take most_script_bytes script

-- A heeded `quit` stands among the whole lines of some bytes.
abbrev pub heeds_quit : ℕ → List ℕ → (ℕ → Bool) → Bool
heeds_quit limit bytes M = any_end (replies limit (whole_lines bytes) M)

-- The script is within its length; what stands after the line of a heeded `quit` doesn't count.
abbrev pub IsScriptWithin : ℕ → List ℕ → (ℕ → Bool) → Type 0
IsScriptWithin limit script M = (length script ≤ most_script_bytes) ⊎ (heeds_quit limit (script_front script) M ≡ true)

-- what is seen of a run: what was written, where the sink tells it, and how far the two counters are
pub record RunView : Type 0 where
  pub written : Option (List ℕ)
  pub counters : Counters

abbrev pub seen : {K : Type 0} → (K → Option (List ℕ)) → K → ℕ → ℕ → RunView
seen written sink asked visited = record {
  written = written sink;
  counters = record { asked = asked; visited = visited };
}

-- The counters rose within this cost: by so many questions and so many entries that were read.
pub record Worked (limit : ℕ) (cost : Cost) (old new : Counters) : Type 0 where
  pub asked : ℕ
  pub visited : ℕ
  pub asked_rose : new.asked ≡ old.asked + asked
  pub visited_rose : new.visited ≡ old.visited + visited
  pub within : Within limit cost asked visited

-- The script's output was written, no line being refused as out of memory; and whether some reply is a refusal.
pub record WroteOutput (visits : Visits) (limit : ℕ) (is_refused : Bool) (old new : RunView) (script : List ℕ) : Type 0 where
  pub written : Appends old.written new.written (output_text (replies limit script none))
  pub refusals : any_refusal (replies limit script none) ≡ is_refused
  pub within : IsScriptWithin limit script none
  pub worked : Worked limit (desk_cost visits limit script none) old.counters new.counters

-- The script's output was written, and some lines were refused as out of memory.
pub record WroteLacking (visits : Visits) (limit : ℕ) (old new : RunView) (script : List ℕ) : Type 0 where
  pub lacks : ℕ → Bool
  pub written : Appends old.written new.written (output_text (replies limit script lacks))
  pub memories : any_memory (replies limit script lacks) ≡ true
  pub within : IsScriptWithin limit script lacks
  pub worked : Worked limit (desk_cost visits limit script lacks) old.counters new.counters

-- The replies to the whole lines of some bytes were written, and none of these lines is a heeded `quit`.
pub record WroteLines (visits : Visits) (limit : ℕ) (old new : RunView) (bytes : List ℕ) : Type 0 where
  pub lacks : ℕ → Bool
  pub written : Appends old.written new.written (output_text (replies limit (whole_lines bytes) lacks))
  pub no_quit : heeds_quit limit bytes lacks ≡ false
  pub worked : Worked limit (desk_cost visits limit (whole_lines bytes) lacks) old.counters new.counters

-- A front of the script's output was written. Nothing is said of the counters.
pub record WroteFront (limit : ℕ) (written_old written_new : Option (List ℕ)) (script : List ℕ) : Type 0 where
  pub lacks : ℕ → Bool
  pub written : AppendsFront written_old written_new (output_text (replies limit script lacks))

-- These bytes of the script were given, within its length, and the replies to their whole lines were written.
pub record WroteGiven (visits : Visits) (limit : ℕ) (left : Option (List ℕ)) (old new : RunView) (script : List ℕ) : Type 0 where
  pub given : List ℕ
  pub taken : Consumes (Some script) left given
  pub within : length given ≤ most_script_bytes
  pub lines : WroteLines visits limit old new given

-- The script has more bytes than it may, and the replies to the whole lines before were written.
pub record WroteWithin (visits : Visits) (limit : ℕ) (old new : RunView) (script : List ℕ) : Type 0 where
  pub past : most_script_bytes < length script
  pub lines : WroteLines visits limit old new (script_front script)

-- where the script is told
abbrev pub OfScript : Option (List ℕ) → (List ℕ → Type 0) → Type 0
OfScript None P = Unit {0}
OfScript (Some script) P = P script

-- What the status of a run says of its script, of what is left of it, of the bytes written and of the counters.
pub record Ends (visits : Visits) (limit : ℕ) (script left : Option (List ℕ)) (old new : RunView) (status : Status) : Type 0 where
  pub done : status ≡ Done → OfScript script (WroteOutput visits limit false old new)
  pub refused : status ≡ Refused → OfScript script (WroteOutput visits limit true old new)
  pub memory : status ≡ Memory → OfScript script (WroteLacking visits limit old new)
  pub read_fault : status ≡ ReadFault → OfScript script (WroteGiven visits limit left old new)
  pub write_fault : status ≡ WriteFault → OfScript script (WroteFront limit old.written new.written)
  pub too_long : status ≡ TooLong → OfScript script (WroteWithin visits limit old new)
  pub no_usage : status ≢ Usage

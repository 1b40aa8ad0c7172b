-- How a run ends, told of the parameters that it is lent: of the source by what it has left (`S.left`), of the sink by what it was
-- given (`K.written`), and of the counters of the questions that are asked and of the entries that are read for them.
use Rattle.std.specs.Prelude.{◌≡◌, ◌⊎◌, ℕ, true, false, Option, Some, Result, List}
use Rattle.std.specs.declared.string.String.{String}
use Rattle.lsys_io.specs.Calls.{HasRisen}
use Rattle.lsys_syntax.specs.Calls.{Lent}
use Rattle.lsys_io.specs.declared.Failed.{Failed}
use Rattle.lsys_io.specs.declared.Sink.{Ghosts as SinkOf}
use Rattle.lsys_io.specs.declared.Source.{Ghosts as SourceOf}
use Rattle.lsys_io.specs.declared.lines.LineRead.{LineRead}
use Rattle.lsys_spec.specs.Systems.{System}
use Rattle.lsys_spec.specs.Output.{any_refusal, none}
use Rattle.lsys_spec.specs.Samples.{sample}
use Rattle.lsys_spec.specs.Costs.{Visits}
use Rattle.lsys_cli.specs.Words.{options_by, texts}
use Rattle.lsys_cli.specs.declared.options.Options.{Options}
use Rattle.lsys_session.specs.Calls.{counters}
use Rattle.lsys_session.specs.declared.outcome.Outcome.{Outcome}
use Rattle.lsys_cli.specs.Views.{Bench, desk_on}
use Rattle.lsys_cli.specs.Ends.{Ends, IsScriptWithin, RunView, WroteFront, WroteGiven, WroteLacking, WroteOutput, WroteWithin, replies, seen}
use Rattle.lsys_cli.specs.Programs.{IsComplete, OnScript, Untouched, UntouchedSink, most_visits, script_run}
use Rattle.lsys_cli.specs.Runs.{AnswersRead, CountsRead}
use Rattle.lsys_cli.specs.declared.status.Status.{Status}
use Rattle.lsys_cli.specs.declared.status.Status.TheVariants.{Done, Refused, Memory, ReadFault, WriteFault, TooLong}

-- 1. what is seen of a run: what was written and how far its counters are, before and after

abbrev pub seen_before : {K : Type 0} → (K → Option (List ℕ)) → Lent K → Lent ℕ → Lent ℕ → RunView
seen_before written sink asked visited = seen written sink.entry.now asked.entry.now visited.entry.now

abbrev pub seen_after : {K : Type 0} → (K → Option (List ℕ)) → Lent K → Lent ℕ → Lent ℕ → RunView
seen_after written sink asked visited = seen written sink.exit.now asked.exit.now visited.exit.now

-- nothing was written, and no question asked
abbrev pub TouchesNoSink : {K : Type 0} → Lent K → Lent ℕ → Lent ℕ → Type 0
TouchesNoSink sink asked visited = UntouchedSink sink.entry.now sink.exit.now asked.entry.now asked.exit.now visited.entry.now visited.exit.now

-- nothing was read or written, and no question asked
abbrev pub TouchesNothing : {S K : Type 0} → Lent S → Lent K → Lent ℕ → Lent ℕ → Type 0
TouchesNothing source sink asked visited =
    Untouched source.entry.now source.exit.now sink.entry.now sink.exit.now asked.entry.now asked.exit.now visited.entry.now visited.exit.now

-- 2. what each status of the program says, by the words of its command line. Where the words are outside of the grammar, or the
-- source or the sink doesn't tell its bytes, nothing is said.

-- The script was read to its end or to a heeded `quit`, its output was written, and no line was refused.
abbrev pub IfDone : {A S K : Type 0} → List (String A) → SourceOf S → Lent S → SinkOf K → Lent K → Lent ℕ → Lent ℕ → Status → Type 0
IfDone words S source K sink asked visited status =
    status ≡ Done → OnScript (options_by (texts words)) (S.left source.entry.now)
    (λ limit. WroteOutput most_visits limit false (seen_before K.written sink asked visited) (seen_after K.written sink asked visited))

-- Likewise, and some line was refused.
abbrev pub IfRefused : {A S K : Type 0} → List (String A) → SourceOf S → Lent S → SinkOf K → Lent K → Lent ℕ → Lent ℕ → Status → Type 0
IfRefused words S source K sink asked visited status =
    status ≡ Refused → OnScript (options_by (texts words)) (S.left source.entry.now)
    (λ limit. WroteOutput most_visits limit true (seen_before K.written sink asked visited) (seen_after K.written sink asked visited))

-- There was no memory to begin; or the script's output was written, and some lines were refused as out of memory.
abbrev pub IfMemory : {A S K : Type 0} → List (String A) → SourceOf S → Lent S → SinkOf K → Lent K → Lent ℕ → Lent ℕ → Status → Type 0
IfMemory words S source K sink asked visited status =
    status ≡ Memory → TouchesNothing source sink asked visited
    ⊎ OnScript (options_by (texts words)) (S.left source.entry.now)
    (λ limit. WroteLacking most_visits limit (seen_before K.written sink asked visited) (seen_after K.written sink asked visited))

-- The source failed: the replies to the whole lines that it gave were written.
abbrev pub IfReadFault : {A S K : Type 0} → List (String A) → SourceOf S → Lent S → SinkOf K → Lent K → Lent ℕ → Lent ℕ → Status → Type 0
IfReadFault words S source K sink asked visited status =
    status ≡ ReadFault → OnScript (options_by (texts words)) (S.left source.entry.now)
    (λ limit. WroteGiven most_visits limit (S.left source.exit.now) (seen_before K.written sink asked visited) (seen_after K.written sink asked visited))

-- The sink failed: a front of the script's output was written.
abbrev pub IfWriteFault : {A S K : Type 0} → List (String A) → SourceOf S → Lent S → SinkOf K → Lent K → Status → Type 0
IfWriteFault words S source K sink status =
    status ≡ WriteFault → OnScript (options_by (texts words)) (S.left source.entry.now) (λ limit. WroteFront limit (K.written sink.entry.now) (K.written sink.exit.now))

-- The script has more bytes than it may: the replies to the whole lines before were written.
abbrev pub IfTooLong : {A S K : Type 0} → List (String A) → SourceOf S → Lent S → SinkOf K → Lent K → Lent ℕ → Lent ℕ → Status → Type 0
IfTooLong words S source K sink asked visited status =
    status ≡ TooLong → OnScript (options_by (texts words)) (S.left source.entry.now)
    (λ limit. WroteWithin most_visits limit (seen_before K.written sink asked visited) (seen_after K.written sink asked visited))

-- Where neither end failed, the script is within its length and nothing in its output is a refusal, the run is done, or out of
-- memory was said.
abbrev pub IfWell : {A S K : Type 0} → List (String A) → SourceOf S → Lent S → SinkOf K → Lent K → Status → Type 0
IfWell words S source K sink status =
    (HasRisen S.faults source → ⊥) → (HasRisen K.faults sink → ⊥)
    → OnScript (options_by (texts words)) (S.left source.entry.now) (λ limit script. IsScriptWithin limit script none
    → any_refusal (replies limit script none) ≡ false
    → IsComplete status limit (K.written sink.entry.now) (K.written sink.exit.now) script)

-- 3. runs over a script

-- what the source has left was run, or there was no memory to begin
abbrev pub Runs : {S K : Type 0} → Visits → ℕ → SourceOf S → Lent S → SinkOf K → Lent K → Lent ℕ → Lent ℕ → Status → Type 0
Runs visits limit S source K sink asked visited status =
    ((status ≡ Memory) × TouchesNothing source sink asked visited)
    ⊎ Ends visits limit (S.left source.entry.now) (S.left source.exit.now) (seen_before K.written sink asked visited) (seen_after K.written sink asked visited) status

-- likewise the script that the options name
abbrev pub RunsBy : {S K : Type 0} → Visits → Options → SourceOf S → Lent S → SinkOf K → Lent K → Lent ℕ → Lent ℕ → Status → Type 0
RunsBy visits options S source K sink asked visited status =
    ((status ≡ Memory) × TouchesNothing source sink asked visited)
    ⊎ Ends visits options.limit (script_run options (S.left source.entry.now)) (S.left source.exit.now)
    (seen_before K.written sink asked visited) (seen_after K.written sink asked visited) status

-- likewise a sample, whatever is left of what isn't read
abbrev pub RunsSample : {K : Type 0} → Visits → ℕ → ℕ → SinkOf K → Lent K → Lent ℕ → Lent ℕ → Status → Type 0
RunsSample visits limit number K sink asked visited status =
    ((status ≡ Memory) × TouchesNoSink sink asked visited)
    ⊎ ((left : Option (List ℕ)) → Ends visits limit (Some (sample number)) left (seen_before K.written sink asked visited) (seen_after K.written sink asked visited) status)

-- what the source has left was run at a desk; its derivation is told by its limit
abbrev pub RunsAt : {D S K : Type 0} → Visits → (D → ℕ) → Lent (Bench D) → SourceOf S → Lent S → SinkOf K → Lent K → Lent ℕ → Lent ℕ → Status → Type 0
RunsAt visits limit_of desk S source K sink asked visited status =
    Ends visits (limit_of desk.entry.now.derivation) (S.left source.entry.now) (S.left source.exit.now) (seen_before K.written sink asked visited) (seen_after K.written sink asked visited) status

-- 4. one line

-- what was read is answered
abbrev pub Heeds : {D K : Type 0} → LineRead → List ℕ → SinkOf K → Lent K → Lent (List ℕ) → (D → ℕ) → (D → System) → Lent (Bench D) → Result Outcome Failed → Type 0
Heeds read line K sink out limit_of system_of desk result =
    AnswersRead K.written K.faults sink.entry.now sink.exit.now out.exit.now read (limit_of desk.entry.now.derivation)
    (desk_on system_of desk.entry.now) (desk_on system_of desk.exit.now) line result

-- the counters rise by what it needs
abbrev pub CountsIt : {D : Type 0} → LineRead → List ℕ → Visits → (D → ℕ) → (D → System) → Lent (Bench D) → Lent ℕ → Lent ℕ → Result Outcome Failed → Type 0
CountsIt read line visits limit_of system_of desk asked visited result =
    CountsRead visits read (limit_of desk.entry.now.derivation) (desk_on system_of desk.entry.now) (desk_on system_of desk.exit.now) line
    (counters asked.entry.now visited.entry.now) (counters asked.exit.now visited.exit.now) result

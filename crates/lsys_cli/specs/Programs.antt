-- What is said of a run by the words of its command line.
use Rattle.std.specs.Prelude.{◌≡◌, ◌⊎◌, ℕ, Bool, true, Some, None, List}
use Rattle.std.specs.declared.option.Option.{Option}
use Rattle.std.specs.Io.KnownBytes.{Appends}
use Rattle.lsys_spec.specs.Output.{output_text, any_memory, whole_lines}
use Rattle.lsys_spec.specs.Samples.{sample}
use Rattle.lsys_spec.specs.Costs.{Visits}
use Rattle.lsys_spec.specs.LevelLaws.{candidate_visits}
use Rattle.lsys_cli.specs.Words.{options_by}
use Rattle.lsys_cli.specs.declared.options.Options.{Options}
use Rattle.lsys_cli.specs.Ends.{OfScript, replies, script_front}
use Rattle.lsys_cli.specs.declared.status.Status.{Status}
use Rattle.lsys_cli.specs.declared.status.Status.TheVariants.{Done, Memory, TooLong}

-- the most entries that the program reads for an edit: those of the candidates' traces
abbrev pub most_visits : Visits
most_visits = candidate_visits

-- nothing was written, and no question asked
abbrev pub UntouchedSink : {K : Type 0} → K → K → ℕ → ℕ → ℕ → ℕ → Type 0
UntouchedSink sink_old sink_new asked_old asked_new visited_old visited_new = (sink_new ≡ sink_old) × (asked_new ≡ asked_old) × (visited_new ≡ visited_old)

-- nothing was read or written, and no question asked
abbrev pub Untouched : {S K : Type 0} → S → S → K → K → ℕ → ℕ → ℕ → ℕ → Type 0
Untouched source_old source_new sink_old sink_new asked_old asked_new visited_old visited_new =
    (source_new ≡ source_old) × UntouchedSink sink_old sink_new asked_old asked_new visited_old visited_new

-- the script that is run: a sample, or what the source has left, where it tells it
abbrev pub script_run : Options → Option (List ℕ) → Option (List ℕ)
script_run o left = elim (o.sample) [ None ↦ left | Some n ↦ Some (sample n) ]

-- of the limit that the words name and of the script, where the words are in the grammar and the script is told
abbrev pub OnScript : Option Options → Option (List ℕ) → (ℕ → List ℕ → Type 0) → Type 0
OnScript None left P = Unit {0}
OnScript (Some o) left P = OfScript (script_run o left) (P o.limit)

-- where the words name a sample
abbrev pub OfSample : Option ℕ → Type 0 → Type 0
OfSample None P = Unit {0}
OfSample (Some n) P = P

abbrev pub OnSample : Option Options → Type 0 → Type 0
OnSample None P = Unit {0}
OnSample (Some o) P = OfSample o.sample P

-- the words name no sample, or are outside of the grammar
abbrev pub NamesNoSample : List (List ℕ) → Type 0
NamesNoSample words = OnSample (options_by words) ⊥

-- The replies to the whole lines of some bytes were written, and one of them is `refused memory`.
pub record LacksLines (limit : ℕ) (written_old written_new : Option (List ℕ)) (bytes : List ℕ) : Type 0 where
  pub lacks : ℕ → Bool
  pub written : Appends written_old written_new (output_text (replies limit (whole_lines bytes) lacks))
  pub memories : any_memory (replies limit (whole_lines bytes) lacks) ≡ true

-- The run is done, or out of memory was said: by the status, or by a reply, maybe to the `quit` after which the script is too long.
abbrev pub IsComplete : Status → ℕ → Option (List ℕ) → Option (List ℕ) → List ℕ → Type 0
IsComplete status limit written_old written_new script =
    (status ≡ Done) ⊎ ((status ≡ Memory) ⊎ ((status ≡ TooLong) × LacksLines limit written_old written_new (script_front script)))

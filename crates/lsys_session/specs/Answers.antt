-- What a session answers a line, and how its counters move.
use Rattle.std.specs.Prelude.{◌≡◌, ℕ, ◌+◌, ◌*◌, Bool, true, false, not, ◌&&◌, Option, Some, None, Result, Ok, Err, IfOk, List, [], codes}
use Rattle.lsys_io.specs.Writes.{WasPut}
use Rattle.lsys_io.specs.declared.Failed.{Failed}
use Rattle.lsys_syntax.specs.Commands.{Command}
use Rattle.lsys_spec.specs.Systems.{System}
use Rattle.lsys_spec.specs.Edits as edits
use Rattle.lsys_spec.specs.Levels.{LevelSymbol}
use Rattle.lsys_spec.specs.Questions.{questions, need, least_visits}
use Rattle.lsys_spec.specs.Refusals.{Reply, refused, is_long, is_passed_over}
use Rattle.lsys_spec.specs.Replies.{bare_reply, bare_spelled, is_query}
use Rattle.lsys_spec.specs.Output.{memory_or}
use Rattle.lsys_match.specs.Derivations.{AreMeant, Rises, most_read}
use Rattle.lsys_session.specs.declared.outcome.Outcome.{Outcome}
use Rattle.lsys_session.specs.declared.outcome.Outcome.TheVariants as outcomes

-- 1. replies to lines without their LF and CR

abbrev pub line_reply : ℕ → System → List ℕ → Reply
line_reply limit s line = elim (is_long line) [ true ↦ refused s (codes "syntax long") | false ↦ bare_reply limit s line ]

-- lack of memory may stand in place of the reply, but not of that to a line which is too long or passed over
abbrev pub may_lack : List ℕ → Bool
may_lack line = not (is_long line) && not (is_passed_over line)

-- the reply, where memory may be wanting
abbrev pub line_reply_or_memory : ℕ → System → List ℕ → Bool → Reply
line_reply_or_memory limit s line lacks = memory_or (lacks && may_lack line) s (line_reply limit s line)

-- the command that a line spells; one that is too long or passed over spells none
abbrev pub line_spelled : List ℕ → Option Command
line_spelled line = elim (is_long line) [ true ↦ None | false ↦ bare_spelled line ]

-- 2. what became of them

abbrev pub refuses : Outcome → Bool
refuses outcomes.Refused = true
refuses outcomes.Memory = true
refuses o = false

abbrev pub lacks_memory : Outcome → Bool
lacks_memory outcomes.Memory = true
lacks_memory o = false

abbrev pub ends_session : Outcome → Bool
ends_session outcomes.Quit = true
ends_session o = false

-- whether the line spells no command, an edit or a query, as far as the outcome tells
abbrev pub FitsOutcome : Option Command → Outcome → Type 0
FitsOutcome spelled outcomes.Skipped = spelled ≡ None
FitsOutcome spelled outcomes.Accepted = (c : Command) × (spelled ≡ Some c) × (is_query c ≡ false)
FitsOutcome spelled outcomes.Printed = (c : Command) × (spelled ≡ Some c) × (is_query c ≡ true)
FitsOutcome spelled o = Unit {0}

-- the outcome is that of this reply to a line that spells this
pub record BecameAsSpelled (spelled : Option Command) (reply : Reply) (o : Outcome) : Type 0 where
  pub refusal : reply.is_refusal ≡ refuses o
  pub memory : reply.is_memory ≡ lacks_memory o
  pub end : reply.ends ≡ ends_session o
  pub spells : FitsOutcome spelled o

-- The definitions' reply to the line, or `refused memory`, was put whole, and the session goes on from its system; or the
-- sink failed, and a front of the reply was written.
pub record WasAnswered {K : Type 0} (written : K → Option (List ℕ)) (faults : K → ℕ) (sink_old sink_new : K) (held : List ℕ) (limit : ℕ) (old new : System) (line : List ℕ) (result : Result Outcome Failed)
    : Type 0 where
  pub lacks : Bool
  pub reply : Reply
  pub is : reply ≡ line_reply_or_memory limit old line lacks
  pub put : WasPut written faults sink_old sink_new [] held reply.text result
  pub empty : held ≡ []
  pub next : IfOk result (λ o. new ≡ reply.next)
  pub became : IfOk result (BecameAsSpelled (line_spelled line) reply)

-- 3. counters

-- how many questions were asked, and how many entries were read
pub record Counters : Type 0 where
  pub asked : ℕ
  pub visited : ℕ

-- the need of the two systems was asked, and at least the entries of the new questions' traces were read
pub record Needed (visits : System → System → List (List LevelSymbol) → List (List LevelSymbol) → ℕ) (limit : ℕ) (old new : System) (before after : Counters) : Type 0 where
  pub levels : List (List LevelSymbol)
  pub next_levels : List (List LevelSymbol)
  pub meant : AreMeant old new limit levels next_levels
  pub asked : after.asked ≡ before.asked + need (questions old levels) (questions new next_levels)
  pub visited : Rises (least_visits (questions old levels) (questions new next_levels)) (visits old new levels next_levels) before.visited after.visited

-- at most as many questions were asked as the limit has symbols, and at most 1,025 entries were read for each
pub record Few (limit : ℕ) (before after : Counters) : Type 0 where
  pub asked : Rises 0 limit before.asked after.asked
  pub visited : Rises 0 (most_read * limit) before.visited after.visited

abbrev pub is_unrefused : Option edits.Refusal → Bool
is_unrefused None = true
is_unrefused (Some r) = false

abbrev pub leads_on : System → Option Command → Bool
leads_on s None = false
leads_on s (Some c) = not (is_query c) && is_unrefused (edits.refusal s c)

-- The line spells an edit that isn't refused by itself: only the levels that it leads to can be.
abbrev pub is_derived : System → List ℕ → Bool
is_derived s line = leads_on s (line_spelled line)

-- what counters do at a refusal: they rise somewhat where levels were derived for it, else they stay
abbrev pub CountsRefused : ℕ → Bool → Counters → Counters → Type 0
CountsRefused limit true before after = Few limit before after
CountsRefused limit false before after = after ≡ before

-- Counters rise by what an accepted edit needs, and somewhat where its levels are refused or memory is wanting; else they
-- stay. `derived` tells whether a refusal is that of levels. Where the sink failed, nothing is said.
abbrev pub WasCounted : (System → System → List (List LevelSymbol) → List (List LevelSymbol) → ℕ) → ℕ → Bool → System → System → Counters → Counters → Result Outcome Failed → Type 0
WasCounted visits limit derived old new before after (Ok outcomes.Accepted) = Needed visits limit old new before after
WasCounted visits limit derived old new before after (Ok outcomes.Memory) = Few limit before after
WasCounted visits limit derived old new before after (Ok outcomes.Refused) = CountsRefused limit derived before after
WasCounted visits limit derived old new before after (Ok o) = after ≡ before
WasCounted visits limit derived old new before after (Err e) = Unit {0}

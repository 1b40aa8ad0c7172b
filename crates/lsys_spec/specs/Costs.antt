-- What a script may ask and read: sums over its lines.
use Rattle.std.specs.Prelude.{ℕ, Bool, true, false, Option, Some, None, Result, Ok, Err, List, [], ◌∷◌, ◌+◌, ◌*◌, ◌≤◌, ◌&&◌}
use Rattle.lsys_syntax.specs.Lines.{lines_of}
use Rattle.lsys_syntax.specs.Commands.{Command}
use Rattle.lsys_spec.specs.Systems.{System, opening}
use Rattle.lsys_spec.specs.Edits.{Refusal, refusal, changed}
use Rattle.lsys_spec.specs.Levels.{LevelSymbol}
use Rattle.lsys_spec.specs.Meaning.{LevelRefusal, meaning, most_entries}
use Rattle.lsys_spec.specs.Questions.{questions, need, least_visits}
use Rattle.lsys_spec.specs.Refusals.{Reply}
use Rattle.lsys_spec.specs.Replies.{is_query, spelled_command}
use Rattle.lsys_spec.specs.Output.{may_lack_memory, reply_or_memory}

-- Of accepted edits: the questions that have to be asked, and the least and the most entries that are read for them.
-- And how many edits are refused for their levels, or lines for lack of memory.
pub record Cost : Type 0 where
  pub need : ℕ
  pub least : ℕ
  pub most : ℕ
  pub refusals : ℕ

abbrev pub no_cost : Cost
no_cost = record { need = 0; least = 0; most = 0; refusals = 0 }

abbrev pub one_refusal : Cost
one_refusal = record { need = 0; least = 0; most = 0; refusals = 1 }

infixl 20 ◌and◌
abbrev pub ◌and◌ : Cost → Cost → Cost
a and b = record {
  need = a.need + b.need;
  least = a.least + b.least;
  most = a.most + b.most;
  refusals = a.refusals + b.refusals;
}

-- The most entries that an edit reads, from a system with these levels to one with those. Each way to keep levels names
-- its own.
abbrev pub Visits : Type 0
Visits = System → System → List (List LevelSymbol) → List (List LevelSymbol) → ℕ

-- the levels of a system, or why it has none
abbrev pub Meant : Type 0
Meant = Result (List (List LevelSymbol)) LevelRefusal

-- 1. one line

abbrev pub changed_unless_refused : System → Command → Option Refusal → Option System
changed_unless_refused s c None = Some (changed s c)
changed_unless_refused s c (Some r) = None

abbrev pub edit_by : System → Option Command → Option System
edit_by s None = None
edit_by s (Some c) = elim (is_query c) [ true ↦ None | false ↦ changed_unless_refused s c (refusal s c) ]

-- the system whose levels a line asks for: what an edit makes of this one, where it isn't refused by itself
abbrev pub edited_system : System → List ℕ → Option System
edited_system s line = edit_by s (spelled_command line)

-- of an edit from one system to another, that have these levels or none (In a session the old system has levels.)
abbrev pub edit_cost : Visits → System → System → Meant → Meant → Cost
edit_cost visits old new (Err e) r = no_cost
edit_cost visits old new (Ok xs) (Err e) = one_refusal
edit_cost visits old new (Ok xs) (Ok ys) = record {
  need = need (questions old xs) (questions new ys);
  least = least_visits (questions old xs) (questions new ys);
  most = visits old new xs ys;
  refusals = 0;
}

abbrev pub cost_to : Visits → ℕ → System → Option System → Cost
cost_to visits limit s None = no_cost
cost_to visits limit s (Some next) = edit_cost visits s next (meaning s limit) (meaning next limit)

-- of a line that isn't refused for lack of memory
abbrev pub line_cost : Visits → ℕ → System → List ℕ → Cost
line_cost visits limit s line = cost_to visits limit s (edited_system s line)

-- of a line that may be refused for lack of memory
abbrev pub cost_or_memory : (System → List ℕ → Cost) → Bool → System → List ℕ → Cost
cost_or_memory cost lacks s line =
    elim (lacks && may_lack_memory line) [ true ↦ one_refusal | false ↦ cost s line ]

-- 2. a script

-- of lines that are numbered from n on, up to the one whose reply ends the session
abbrev pub costs_from : (System → List ℕ → Reply) → (System → List ℕ → Cost)
    → (ℕ → Bool) → ℕ → System → List (List ℕ) → Cost
costs_from answer cost M n s [] = no_cost
costs_from answer cost M n s (line ∷ lines) =
    let r = reply_or_memory answer (M n) s line in
    cost_or_memory cost (M n) s line
    and elim r.ends [ true ↦ no_cost | false ↦ costs_from answer cost M (n + 1) r.next lines ]

abbrev pub script_cost : (System → List ℕ → Reply) → (System → List ℕ → Cost)
    → List ℕ → (ℕ → Bool) → Cost
script_cost answer cost script M = costs_from answer cost M 1 opening (lines_of script)

-- 3. what counters may have risen by

-- One counted the questions that were asked, one the entries that were read. A refusal may have taken as many questions
-- as the limit has symbols, and 1,025 entries for each.
pub record Within (limit : ℕ) (c : Cost) (asked visited : ℕ) : Type 0 where
  pub asked_least : c.need ≤ asked
  pub asked_most : asked ≤ c.need + limit * c.refusals
  pub visited_least : c.least ≤ visited
  pub visited_most : visited ≤ c.most + (most_entries + 1) * limit * c.refusals

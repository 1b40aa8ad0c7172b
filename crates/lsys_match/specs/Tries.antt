-- What trying one rule reads and answers.
use Rattle.std.specs.Prelude.{◌≡◌, ◌≤◌, ℕ, ℤ, ◌+◌, ◌++◌, List, length, take, map, Result, IfOk, OnErr}
use Rattle.lsys_spec.specs.Bodies.{Body}
use Rattle.lsys_spec.specs.Walks.{Told, Found, Entry}
use Rattle.lsys_spec.specs.Choice as choice
use Rattle.lsys_spec.specs.Choice.{Tried, outcome, outcome_of}
use Rattle.lsys_spec.specs.Values.{judged}
use Rattle.lsys_spec.specs.Meaning.{most_entries}
use Rattle.lsys_rewrite.specs.Faults.{fault_of}
use Rattle.lsys_walks.specs.Noted.{Noted, entry_by}
use Rattle.lsys_walks.specs.declared.walked.Walked.{Walked}
use Rattle.lsys_walks.specs.declared.walked.Walked.TheVariants as walked
use Rattle.lsys_walks.specs.Walked.{ReadsFront}
use Rattle.lsys_walks.specs.Readings.{Read}
use Rattle.lsys_bodies.specs.declared.body.Body.{Body as CodeBody}
use Rattle.lsys_match.specs.Groups.{meant}
use Rattle.lsys_match.specs.Sites.{Site, rule_told}
use Rattle.lsys_match.specs.declared.outcome.RuleOutcome.{RuleOutcome}
use Rattle.lsys_match.specs.declared.outcome.RuleOutcome.TheVariants as code

-- the outcome, where these are the values of the rule's formals
abbrev pub outcome_by : RuleOutcome → List ℤ → choice.Outcome
outcome_by code.No values = choice.No
outcome_by code.Yes values = choice.Yes values
outcome_by (code.Fails k) values = choice.Fails (fault_of k)

-- what was told is read after what was read before, up to the first entry that is too many
abbrev pub ReadsTold : {A : Type 0} → Told A → List Entry → List Entry → Type 0
ReadsTold t old new = new ≡ take (most_entries + 1) (old ++ t.entries)

-- after a fault no rule is tried; else all of it was read
abbrev pub MayGoOn : choice.Outcome → Told Found → List Entry → List Entry → Type 0
MayGoOn (choice.Fails k) t old new = Unit {0}
MayGoOn o t old new = (new ≡ old ++ t.entries) × (length new ≤ most_entries)

-- this is the outcome of the rule, after the entries that were read for others
pub record IsTried (t : Told Found) (d : Tried) (b : Body) (old new : List Entry) (o : choice.Outcome) : Type 0 where
  pub answer : outcome most_entries d b t ≡ o
  pub read : ReadsTold t old new
  pub all : MayGoOn o t old new

abbrev pub entries_by : (ℕ → List ℕ) → List Noted → List Entry
entries_by naming ns = map (entry_by naming) ns

-- before the rule at this place is tried
abbrev pub tried_so_far : ℕ → List Noted → Tried
tried_so_far place old = record { place = place; read = length old }

-- the outcome of a rule whose contexts match, where these are the values of its formals
abbrev pub judged_by : Body → List ℤ → choice.Outcome
judged_by b values = outcome_of (judged b.condition values) values

-- the outcome of a rule whose walks ended so, where these are the values of its formals
abbrev pub decided_by : Walked → Body → List ℤ → choice.Outcome
decided_by walked.Found b values = judged_by b values
decided_by walked.Missed b values = choice.No
decided_by walked.TooFar b values = choice.Fails choice.TooFar

-- the rule at a place of its group is tried
abbrev pub Tries : {E : Type 0} → Site → ℕ → Body → List Noted → List Noted → List ℤ → Result RuleOutcome E → Type 0
Tries s place b old new values r =
    (naming : ℕ → List ℕ) → let d = tried_so_far place old in
    IfOk r (λ o. IsTried (rule_told naming s d b) d b (entries_by naming old) (entries_by naming new) (outcome_by o values))

-- the rule is tried, from one reading to the next
abbrev pub TriesRule : {E : Type 0} → Site → ℕ → CodeBody → Read → Read → List ℤ
    → Result RuleOutcome E → Type 0
TriesRule s place b old new values r = Tries s place (meant b) old.read new.read values r

-- before memory was wanting a front of it was read
abbrev pub TriesFront : {E : Type 0} → Site → ℕ → Body → List Noted → List Noted → Result RuleOutcome E → Type 0
TriesFront s place b old new r =
    (naming : ℕ → List ℕ) → let d = tried_so_far place old in
    OnErr r (ReadsFront (rule_told naming s d b) (entries_by naming old) (entries_by naming new))

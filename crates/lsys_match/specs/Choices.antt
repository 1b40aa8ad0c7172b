-- Which rule of a group is chosen, and what is read for it.
use Rattle.std.specs.Prelude.{◌≡◌, ℕ, ℤ, ◌+◌, ◌++◌, ◌∷◌, [], List, take, Result, Ok, Err, IfOk, OnErr, Option, Some, None}
use Rattle.lsys_spec.specs.Walks.{Told, Entry}
use Rattle.lsys_spec.specs.Choice as choice
use Rattle.lsys_spec.specs.Choice.{found_with, none_tried, within_total}
use Rattle.lsys_spec.specs.Meaning.{most_entries}
use Rattle.lsys_rewrite.specs.Faults.{fault_of}
use Rattle.lsys_walks.specs.Noted.{Noted}
use Rattle.lsys_bodies.specs.declared.body.Body.{Body as CodeBody}
use Rattle.lsys_rewrite.specs.declared.refusal.FaultKind.{FaultKind}
use Rattle.lsys_match.specs.Groups.{meant, rules_of}
use Rattle.lsys_match.specs.Sites.{Site, all_told, choice_told, first_told}
use Rattle.lsys_match.specs.Tries.{entries_by, outcome_by}
use Rattle.lsys_match.specs.declared.outcome.RuleOutcome.{RuleOutcome}
use Rattle.lsys_match.specs.declared.found.Applying.{Applying as CodeApplying}
use Rattle.lsys_match.specs.declared.choice.Choice.{Choice}
use Rattle.lsys_match.specs.declared.choice.Choice.TheVariants as code

-- the choice, where these are the values of the chosen rule's formals
abbrev pub choice_by : Choice → List ℤ → choice.Choice
choice_by code.NoRule values = choice.NoRule
choice_by (code.Chosen place) values = choice.Chosen place values
choice_by (code.Failed k) values = choice.Failed (fault_of k)

-- this is the answer, and the entries were read up to the first that is too many
pub record IsTold {A : Type 0} (t : Told A) (read : List Entry) (a : A) : Type 0 where
  pub answer : t.answer ≡ a
  pub read_is : read ≡ take (most_entries + 1) t.entries

-- by every naming of the tags
abbrev pub Chooses : {E : Type 0} → ((ℕ → List ℕ) → Told choice.Choice) → List Noted → List ℤ → Result Choice E → Type 0
Chooses told read values r = (naming : ℕ → List ℕ) → IfOk r (λ c. IsTold (told naming) (entries_by naming read) (choice_by c values))

-- all begins with these
abbrev pub IsFrontOf : List Entry → List Entry → Type 0
IsFrontOf all front = (rest : List Entry) × (all ≡ front ++ rest)

-- before memory was wanting a front of it was read
abbrev pub ChoosesFront : {E : Type 0} → ((ℕ → List ℕ) → Told choice.Choice) → List Noted → Result Choice E → Type 0
ChoosesFront told read r = (naming : ℕ → List ℕ) → OnErr r (IsFrontOf (told naming).entries (entries_by naming read))

-- a rule that applies
abbrev pub applying_of : CodeApplying → choice.Applying
applying_of a = record { place = a.place; values = a.values.items; weight = a.weight }

-- what was found, or the fault
abbrev pub found_or_fault : List choice.Applying → Option FaultKind → Result (List choice.Applying) choice.Fault
found_or_fault found None = Ok found
found_or_fault found (Some k) = Err (fault_of k)

-- a weight, or the fault
abbrev pub weight_by : Result ℕ FaultKind → Result ℕ choice.Fault
weight_by (Ok n) = Ok n
weight_by (Err k) = Err (fault_of k)

abbrev pub Finds : {E : Type 0} → ((ℕ → List ℕ) → Told (Result (List choice.Applying) choice.Fault)) → List Noted → List choice.Applying → Result (Option FaultKind) E → Type 0
Finds told read found r = (naming : ℕ → List ℕ) → IfOk r (λ k. IsTold (told naming) (entries_by naming read) (found_or_fault found k))

abbrev pub FindsFront : {E : Type 0} → ((ℕ → List ℕ) → Told (Result (List choice.Applying) choice.Fault)) → List Noted → Result (Option FaultKind) E → Type 0
FindsFront told read r = (naming : ℕ → List ℕ) → OnErr r (IsFrontOf (told naming).entries (entries_by naming read))

abbrev pub applying : ℕ → List ℤ → ℕ → choice.Applying
applying place values weight = record { place = place; values = values; weight = weight }

-- what was found before, and this rule where it applies, or the fault
abbrev pub ConsidersRule : {E : Type 0} → List choice.Applying → ℕ → CodeBody → RuleOutcome → List ℤ
    → List choice.Applying → Result (Option FaultKind) E → Type 0
ConsidersRule old place b outcome values new r =
    IfOk r (λ k. found_with old place (meant b) (outcome_by outcome values) ≡ found_or_fault new k)

-- one more was found, where the weights don't sum to too much then
abbrev pub AddsWithinTotal : {E : Type 0} → List choice.Applying → choice.Applying
    → List choice.Applying → Result (Option FaultKind) E → Type 0
AddsWithinTotal old a new r = IfOk r (λ k. within_total (old ++ a ∷ []) ≡ found_or_fault new k)

-- the first rule of a group that applies is chosen
abbrev pub ChoosesFirst : {E : Type 0} → Site → List CodeBody → List Noted → List ℤ
    → Result Choice E → Type 0
ChoosesFirst s bs read values r =
    Chooses (λ naming. first_told naming s none_tried (rules_of bs)) read values r

abbrev pub ChoosesFirstFront : {E : Type 0} → Site → List CodeBody → List Noted
    → Result Choice E → Type 0
ChoosesFirstFront s bs read r =
    ChoosesFront (λ naming. first_told naming s none_tried (rules_of bs)) read r

-- all rules of a group that apply are found
abbrev pub FindsAll : {E : Type 0} → Site → List CodeBody → List Noted → List choice.Applying
    → Result (Option FaultKind) E → Type 0
FindsAll s bs read found r =
    Finds (λ naming. all_told naming s none_tried (Ok []) (rules_of bs)) read found r

abbrev pub FindsAllFront : {E : Type 0} → Site → List CodeBody → List Noted
    → Result (Option FaultKind) E → Type 0
FindsAllFront s bs read r =
    FindsFront (λ naming. all_told naming s none_tried (Ok []) (rules_of bs)) read r

-- a rule of a group is chosen, which has this key where it has weights
abbrev pub ChoosesByKey : {E : Type 0} → Site → Option ℕ → List CodeBody → List Noted → List ℤ
    → Result Choice E → Type 0
ChoosesByKey s key bs read values r =
    Chooses (λ naming. choice_told naming s key (rules_of bs)) read values r

abbrev pub ChoosesFrontByKey : {E : Type 0} → Site → Option ℕ → List CodeBody → List Noted
    → Result Choice E → Type 0
ChoosesFrontByKey s key bs read r =
    ChoosesFront (λ naming. choice_told naming s key (rules_of bs)) read r

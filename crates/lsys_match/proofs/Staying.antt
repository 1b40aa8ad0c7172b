-- Answers that stay.
use Rattle.std.proofs.Common.{◌≡◌, ℕ, ℤ, ◌+◌, List, length, map, take, drop, Option, Some, None, refl, sym, subst}
use Rattle.std.specs.Prelude.{IsSome}
use Rattle.lsys_module.specs.Views.{string_of}
use Rattle.lsys_region.specs.Pool.{Pool, list_at, list_of, IsFresh, IsLiveRun, OthersStay}
use Rattle.lsys_walks.specs.declared.entry.Entry.{Entry}
use Rattle.lsys_walks.specs.Stores.{Store, OtherTracesStay}
use Rattle.lsys_walks.specs.Views.{arities, decoded, module_named}
use Rattle.lsys_match.specs.Answered.{IsSoundAnswer}
use Rattle.lsys_match.specs.Asks.{IsMade, IsNew, StaysAsKept}
use Rattle.lsys_match.specs.Groups.{meant}
use Rattle.lsys_match.specs.Kept.{Kept}
use Rattle.lsys_match.specs.KeptAnswers.{HoldOwnRuns, StaysMade}
use Rattle.lsys_match.specs.Stored.{listed, runs_of}
use Rattle.lsys_match.specs.TagQuestions.{TagAnswer}

-- an answer by what its runs have
abbrev answer_with : Kept → Option (List Entry) → Option (List ℤ) → TagAnswer
answer_with a es vs = record {
  question = record {
    posed = record { tag = a.tag; own = module_named a.name (take a.arity (listed vs)); bodies = map meant a.bodies; key = a.key };
    trace = decoded (listed es) (drop a.arity (listed vs));
  };
  chosen = a.chosen;
  successor = string_of a.successor;
}

abbrev MadeWith : Kept → Option (List Entry) → Option (List ℤ) → Type 0
MadeWith a es vs = IsSome es × IsSome vs × (a.arity + arities (listed es) ≡ length (listed vs)) × IsSoundAnswer (answer_with a es vs)

pub stays_made : (before after : Store) (a : Kept) → list_of after.traces a.entries ≡ list_of before.traces a.entries → list_of after.values a.values ≡ list_of before.values a.values → IsMade before a → StaysMade before after a
stays_made before after a e v h =
    let k : MadeWith a (list_of before.traces a.entries) (list_of before.values a.values) = (h.live.0, h.live.1, h.params, h.sound) in
    let m : MadeWith a (list_of after.traces a.entries) (list_of after.values a.values) = subst (λ es. MadeWith a es (list_of after.values a.values)) (sym e) (subst (λ vs. MadeWith a (list_of before.traces a.entries) vs) (sym v) k) in
    record {
      made = record { live = (m.0, m.1); params = m.2; sound = m.3 };
      answer = λ i. answer_with a (e i) (v i);
    }

-- the lists of two pools

module _ {T : Type 0} (old new : Pool T) where
  pub same_slots : new.slots ≡ old.slots → (r : Option ℕ) → list_of new r ≡ list_of old r
  same_slots e None = refl
  same_slots e (Some n) = λ i. list_at (record { slots = e i; size = 0; spare = 0 }) n

  pub other_list : (run other : Option ℕ) → OthersStay old new run → ((n : ℕ) → run ≡ Some n → other ≡ Some n → ⊥) → list_of new other ≡ list_of old other
  other_list run None h apart = refl
  other_list run (Some n) h apart = h (Some n) (λ e. apart n (sym e) refl)

pub fresh_apart : {T : Type 0} (pool : Pool T) (run other : Option ℕ) (list : List T) → IsFresh pool run list → IsLiveRun pool other → (n : ℕ) → run ≡ Some n → other ≡ Some n → ⊥
fresh_apart {T} pool None other list f l n e i = cc e
fresh_apart {T} pool (Some m) None list f l n e i = cc i
fresh_apart {T} pool (Some m) (Some k) list f l n e i =
    let one : Some m ≡ Some k = cc in
    let none : list_of pool (Some k) ≡ None = subst (λ r. list_of pool r ≡ None) one f.1 in
    let live : IsSome {T = List T} None = subst IsSome none l in cc live

pub own_runs : (before after : Store) (old : Option Kept) (a b : Kept) → IsNew before after old b → IsMade before a → HoldOwnRuns b a
own_runs before after old a b h m = record {
  entries = fresh_apart before.traces b.entries a.entries _ h.fresh.0 m.live.0;
  values = fresh_apart before.values b.values a.values _ h.fresh.1 m.live.1;
}

pub stays_released : (before after : Store) (a b : Kept) → OtherTracesStay before after (runs_of b) → HoldOwnRuns b a → IsMade before a → StaysMade before after a
stays_released before after a b h o m =
    stays_made before after a (other_list before.traces after.traces b.entries a.entries h.0 o.entries) (other_list before.values after.values b.values a.values h.1 o.values) m

pub stays_new : (before after : Store) (old : Option Kept) (a b : Kept) → IsNew before after old b → IsMade before a → StaysMade before after a
stays_new before after old a b h m = stays_released before after a b h.others (own_runs before after old a b h m) m

pub stays_kept : (before after : Store) (a : Kept) → StaysAsKept before after → IsMade before a → StaysMade before after a
stays_kept before after a h m = stays_made before after a (same_slots before.traces after.traces h.traces.runs a.entries) (same_slots before.values after.values h.values.runs a.values) m

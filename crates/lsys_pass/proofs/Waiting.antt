-- A pass that waits: nothing was kept of a step, and the store has at most more room.
use Rattle.std.proofs.Common.{◌≡◌, ◌⊎◌, ℕ, Option, Some, None, Ok, Err, Result, sym, ap, ◌∙◌, subst, inl, inr}
use Rattle.lsys_spec.specs.Systems.{System}
use Rattle.lsys_rewrite.specs.declared.refusal.FaultKind.{FaultKind}
use Rattle.lsys_walks.specs.Stores.{Store}
use Rattle.lsys_match.specs.declared.asked.Asked.{Asked}
use Rattle.lsys_match.specs.declared.asked.Asked.TheVariants.{Same, New}
use Rattle.lsys_match.specs.declared.refusal.AskRefusal.{AskRefusal}
use Rattle.lsys_match.specs.Kept.{Kept}
use Rattle.lsys_match.specs.KeptAnswers.{StaysMade}
use Rattle.lsys_match.specs.Asks.{IsMade, KeepsStore}
use Rattle.lsys_match.proofs.Staying.{stays_new, stays_kept, stays_released, own_runs}
use Rattle.lsys_reads.specs.Relations.{Relations, pairs_have, SettledStay}
use Rattle.lsys_forest.specs.Rows.{level_spots}
use Rattle.lsys_reads.specs.Levels.{AnsweredAt, answer_at}
use Rattle.lsys_reads.specs.Meant.{level_to}
use Rattle.lsys_pass.specs.Stages.{Stage, was, fault_in, HasFault, OutcomeBy, IsPending, IsSettled, IsAtLevel}
use Rattle.lsys_pass.specs.Steps.{ReleasesNew}
use Rattle.lsys_pass.proofs.Keepers.{NoneComes, none_kept, none_back}
use Rattle.lsys_pass.proofs.Stores.{AllMade, AllStay, answered_stays, rest_stays, read_on, read_back}

-- the answers of nodes stay, whatever came of the one that was asked for
pub stays_refused : {L : Type 0} (old mid new : Store) (o : Option Kept) (r : Result (Asked L) AskRefusal) → KeepsStore old mid o r → ReleasesNew mid new r → (a : Kept) → IsMade old a → StaysMade old new a
stays_refused old mid new o (Ok Same) k e a m = subst (λ z. StaysMade old z a) (sym e) (stays_kept old mid a k m)
stays_refused old mid new o (Err f) k e a m = subst (λ z. StaysMade old z a) (sym e) (stays_kept old mid a k m)
stays_refused old mid new o (Ok (New b)) k e a m =
    let first = stays_new old mid o a b k m in
    let then = stays_released mid new a b e.1 (own_runs old mid o a b k m) first.made in
    record { made = then.made; answer = then.answer ∙ first.answer }

pub none_refused : {L : Type 0} (old mid new : Store) (o : Option Kept) (r : Result (Asked L) AskRefusal) → KeepsStore old mid o r → ReleasesNew mid new r → NoneComes old new
none_refused old mid new o (Ok Same) k e = subst (NoneComes old) (sym e) (none_kept old mid k)
none_refused old mid new o (Err f) k e = subst (NoneComes old) (sym e) (none_kept old mid k)
none_refused old mid new o (Ok (New b)) k e = none_back old mid new b k.others e.0 e.1

outcome_by : (q : Option FaultKind) (A A' : Type 0) (F : FaultKind → Type 0) → (A → A') → OutcomeBy q A F → OutcomeBy q A' F
outcome_by None A A' F f a = f a
outcome_by (Some k) A A' F f a = a

module _ (s : Stage) (t : ℕ) (st : Store) (rd : Relations) (made : AllMade s.now s.store) (stays : (a : Kept) → IsMade s.store a → StaysMade s.store st a) (settled : SettledStay s.reads rd) (quiet : rd.pending ≡ s.reads.pending)
    (h : IsAtLevel s t) where
  abbrev s' : Stage
  s' = record s { store = st; reads = rd }

  stay_now : AllStay s.now s.store st
  stay_now k a e = stays a (made k a e)

  right : (v : System) (u p k : ℕ) → AnsweredAt v u s.now s.root s.store p k → AnsweredAt v u s.now s.root st p k
  right v u p k = answered_stays s.store st v u (level_spots s.now s.root u) p (answer_at s.now k) (stay_now k)

  here_at : (p k : ℕ) → IsPending s t p k ⊎ IsSettled s t p k → IsPending s' t p k ⊎ IsSettled s' t p k
  here_at p k (inl a) = inl (record { pending = a.pending; candidate = a.candidate; same = a.same; faultless = a.faultless })
  here_at p k (inr a) = inr (record {
    done = a.done;
    outcome =
        outcome_by (fault_in k s.faults) (AnsweredAt s.next t s.now s.root s.store p k) (AnsweredAt s.next t s.now s.root st p k) (HasFault s.next t (level_to s.next s.limit t) p)
        (right s.next t p k) a.outcome;
  })

  pub level_waits : IsAtLevel (record s { store = st; reads = rd }) t
  level_waits = record {
    rest = rest_stays s.system s.limit (was s) s.root s.store st s.reads rd s.seats (λ k a e. stays a (h.rest.made k a e)) settled h.rest;
    tree = h.tree;
    answers = record {
      above = λ u p k less e. right s.next u p k (h.answers.above u p k less e);
      here = λ p k e. here_at p k (h.answers.here p k e);
      noted = h.answers.noted;
      in_order = h.answers.in_order;
      apart = h.answers.apart;
    };
    lists = record {
      read = λ known reader seen. (
        λ q. let r = (h.lists.read known reader seen).0 (ap (λ ps. pairs_have ps reader seen) (sym quiet) ∙ q) in (r.0, read_on s.store st s.now stay_now reader seen r.1),
        λ q. ap (λ ps. pairs_have ps reader seen) quiet ∙ (h.lists.read known reader seen).1 (q.0, read_back s.store st s.now stay_now reader seen q.1),
      );
      unread = λ not. quiet ∙ h.lists.unread not;
      renewed_are = h.lists.renewed_are;
      renewed_done = h.lists.renewed_done;
      dropped_are = h.lists.dropped_are;
      dropped_done = h.lists.dropped_done;
      kept = h.lists.kept;
      dropped_apart = h.lists.dropped_apart;
      dropped_at = h.lists.dropped_at;
      dropped_had = h.lists.dropped_had;
      lost = h.lists.lost;
      fresh = h.lists.fresh;
    };
    news = record { apart = h.news.apart; needed = h.news.needed; all = h.news.all; born = h.news.born };
    seats = record { seated = h.seats.seated; moved_are = h.seats.moved_are; room = h.seats.room };
  }

-- A pass whose seats were marked and cleared again, or of whose last level it was told whether it is open.
use Rattle.std.proofs.Common.{◌≡◌, ◌+◌, ◌<◌, ◌≤◌, ℕ, zero, suc, Bool, false, List, [], ◌∷◌, length, take, drop, ◌-◌, refl, sym, ap, ◌∙◌, subst, inl, inr, arith}
use Rattle.lsys_match.specs.Kept.{Kept}
use Rattle.lsys_reads.specs.declared.seat.Seat.{Seat}
use Rattle.lsys_reads.specs.Seats.{is_marked, SameSeats, KeepsSeats}
use Rattle.lsys_front.specs.Repairs.{Repair, rest}
use Rattle.lsys_front.specs.Fronts.{Differences, IsLevelFront}
use Rattle.lsys_front.specs.Turned.{AreTurnedBy}
use Rattle.lsys_forest.specs.Groves.{Grove}
use Rattle.lsys_forest.specs.Nodes.{Nodes}
use Rattle.lsys_pass.specs.declared.sizes.Size.{Size}
use Rattle.lsys_pass.specs.declared.state.PassState.TheVariants.{Failed}
use Rattle.lsys_pass.specs.Sizes.{symbols_at, opens_at, with_open, HaveSizesTo}
use Rattle.lsys_pass.specs.Stages.{IsAtLevel}
use Rattle.lsys_pass.specs.Advances.{KeepsRest}
use Rattle.lsys_pass.specs.Passes.{PassView, stage_of, now_in, repair_of, IsPass}
use Rattle.lsys_pass.specs.Fresh.{WasAsked}
use Rattle.lsys_pass.proofs.Finishing.{rest_made}
use Rattle.lsys_pass.proofs.Failing.{still_failed}

-- 1. seats that tell what they told

turned_same : {A : Type 0} (o : Nodes A) (f : Grove A) (t : ℕ) (seats seats' : List Seat) (turned : List ℕ) → SameSeats seats seats' → AreTurnedBy o f t seats turned → AreTurnedBy o f t seats' turned
turned_same o f t seats seats' turned same h = record {
  sound = h.sound;
  seated = λ p k e. same k ∙ h.seated p k e;
  there = h.there;
  same = λ k i n. h.same k i n ∙ sym (same k);
}

front_same : (r : Repair) (seats seats' : List Seat) (d : Differences) → SameSeats seats seats' → IsLevelFront r seats d → IsLevelFront r seats' d
front_same r seats seats' d same h = record {
  differs = h.differs;
  gone_once = h.gone_once;
  turned = turned_same (rest r) r.forest r.level seats seats' _ same h.turned;
  turned_are = h.turned_are;
  bare_are = h.bare_are;
  bare = h.bare;
}

module _ (v : PassView) (seats : List Seat) (same : SameSeats v.seats seats) (keeps : KeepsSeats v.seats seats) where
  abbrev marked : PassView
  marked = record v { seats = seats }

  run : KeepsRest (stage_of v) (stage_of marked)
  run = record { system = refl; limit = refl; root = refl; was = refl; store = refl; reads = refl; listed = refl; renewed = refl; born = refl; same_seats = same }

  at_marked : (t : ℕ) → IsAtLevel (stage_of v) t → IsAtLevel (stage_of marked) t
  at_marked t h = record {
    rest = rest_made (stage_of v) (stage_of marked) run h.rest;
    tree = h.tree;
    answers = record {
      above = h.answers.above;
      here = λ p k e. elim (h.answers.here p k e) [
        | inl o ↦ inl (record { pending = o.pending; candidate = o.candidate; same = o.same; faultless = o.faultless })
        | inr d ↦ inr (record { done = d.done; outcome = d.outcome })
      ];
      noted = h.answers.noted;
      in_order = h.answers.in_order;
      apart = h.answers.apart;
    };
    lists = record {
      read = h.lists.read;
      unread = h.lists.unread;
      renewed_are = h.lists.renewed_are;
      renewed_done = h.lists.renewed_done;
      dropped_are = h.lists.dropped_are;
      dropped_done = h.lists.dropped_done;
      kept = h.lists.kept;
      dropped_apart = h.lists.dropped_apart;
      dropped_at = h.lists.dropped_at;
      dropped_had = h.lists.dropped_had;
      lost = h.lists.lost;
      fresh = h.lists.fresh;
    };
    news = record { apart = h.news.apart; needed = h.news.needed; all = h.news.all; born = h.news.born };
    seats = record {
      seated = λ u p k l e. elim (h.seats.seated u p k l e) [ inl i ↦ inl i | inr f ↦ inr (same k ∙ f) ];
      moved_are = h.seats.moved_are;
      room = λ k i. keeps k (h.seats.room k i);
    };
  }

  pub was_marked : (t : ℕ) → ((k : ℕ) → is_marked seats k ≡ false) → WasAsked v t → WasAsked marked t
  was_marked t clear a = record {
    pass = record {
      stored = a.pass.stored;
      few = a.pass.few;
      unmarked = clear;
      counted = a.pass.counted;
      sized = a.pass.sized;
      made_sized = a.pass.made_sized;
      holds = at_marked t a.pass.holds;
      front = record {
        front = front_same (repair_of v t) v.seats seats v.front same a.pass.front.front;
        within = a.pass.front.within;
        before = a.pass.front.before;
        here = a.pass.front.here;
        room = λ k n e. keeps k (a.pass.front.room k n e);
      };
      room = λ k n e. keeps k (a.pass.room k n e);
    };
    asked = record { at = at_marked t a.asked.at; pending = a.asked.pending; faults = a.asked.faults };
  }

  pub failed_marked : v.state ≡ Failed → IsPass v → ((k : ℕ) → is_marked seats k ≡ false) → IsPass marked
  failed_marked state h clear = still_failed v marked h (record {
    was_failed = state;
    failed = state;
    stored = h.stored;
    few = h.few;
    unmarked = clear;
    answers = refl;
    sizes = refl;
    run = run;
    seats = keeps;
  })

-- what is after some of a list, as a slice of it
take_all : (n : ℕ) (xs : List ℕ) → length xs ≤ n → take n xs ≡ xs
take_all zero [] l = refl
take_all (suc n) [] l = refl
take_all zero (x ∷ xs) l = absurd (omega (arith, l))
take_all (suc n) (x ∷ xs) l = ap (λ (ys : List ℕ). x ∷ ys) (take_all n xs (omega (arith, l)))

drop_long : (n : ℕ) (xs : List ℕ) → length (drop n xs) ≤ length xs - n
drop_long zero xs = omega arith
drop_long (suc n) [] = omega arith
drop_long (suc n) (x ∷ xs) = let h = drop_long n xs in omega (arith, h)

pub slice_rest : (n : ℕ) (xs : List ℕ) → take (length xs - n) (drop n xs) ≡ drop n xs
slice_rest n xs = take_all (length xs - n) (drop n xs) (drop_long n xs)

-- 2. sizes

open_long : (xs : List Size) (b : Bool) → length (with_open xs b) ≡ length xs
open_long [] b = refl
open_long (x ∷ []) b = refl
open_long (x ∷ y ∷ xs) b = ap suc (open_long (y ∷ xs) b)

open_symbols : (xs : List Size) (b : Bool) (t : ℕ) → symbols_at (with_open xs b) t ≡ symbols_at xs t
open_symbols [] b t = refl
open_symbols (x ∷ []) b zero = refl
open_symbols (x ∷ []) b (suc t) = refl
open_symbols (x ∷ y ∷ xs) b zero = refl
open_symbols (x ∷ y ∷ xs) b (suc t) = open_symbols (y ∷ xs) b t

open_before : (xs : List Size) (b : Bool) (t : ℕ) → t + 1 < length xs → opens_at (with_open xs b) t ≡ opens_at xs t
open_before [] b t l = absurd (omega (arith, l))
open_before (x ∷ []) b t l = absurd (omega (arith, l))
open_before (x ∷ y ∷ xs) b zero l = refl
open_before (x ∷ y ∷ xs) b (suc t) l = open_before (y ∷ xs) b t (omega (arith, l))

open_sizes : (m : Nodes Kept) (root : ℕ) (xs : List Size) (b : Bool) (t : ℕ) → HaveSizesTo m root xs t → HaveSizesTo m root (with_open xs b) t
open_sizes m root xs b t h = record {
  count = open_long xs b ∙ h.count;
  symbols = λ u l. open_symbols xs b u ∙ h.symbols u l;
  closed = λ u l e. h.closed u l (sym (open_before xs b u (let c = h.count in omega (arith, c, l))) ∙ e);
}

pub was_told : (v : PassView) (b : Bool) (t : ℕ) → WasAsked v t → WasAsked (record v { made = with_open v.made b }) t
was_told v b t a = record {
  pass = record {
    stored = a.pass.stored;
    few = a.pass.few;
    unmarked = a.pass.unmarked;
    counted = a.pass.counted;
    sized = a.pass.sized;
    made_sized = open_sizes (now_in v) v.forest.root v.made b t a.pass.made_sized;
    holds = a.pass.holds;
    front = record { front = a.pass.front.front; within = a.pass.front.within; before = a.pass.front.before; here = a.pass.front.here; room = a.pass.front.room };
    room = a.pass.room;
  };
  asked = record { at = a.asked.at; pending = a.asked.pending; faults = a.asked.faults };
}

pub was_told_as : (v : PassView) (zs ms : List Size) (b : Bool) (t : ℕ) → zs ≡ v.sizes → ms ≡ with_open v.made b → WasAsked v t → WasAsked (record v { sizes = zs; made = ms }) t
was_told_as v zs ms b t f e a =
    subst (λ (ys : List Size). WasAsked (record v { sizes = ys; made = ms }) t) (sym f) (subst (λ (xs : List Size). WasAsked (record v { made = xs }) t) (sym e) (was_told v b t a))

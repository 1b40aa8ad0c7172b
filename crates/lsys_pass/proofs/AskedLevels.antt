-- Levels of which all nodes that have a question are asked.
use Rattle.std.proofs.Common.{◌≡◌, ◌<◌, ◌≤◌, ◌+◌, ◌^◌, ℕ, List, [], ◌∷◌, ◌++◌, length, Option, Some, None, refl, sym, ap, ◌∙◌, subst, inl, inr, arith}
use Rattle.std.specs.Prelude.{◌↔◌, MatchOption}
use Rattle.std.proofs.lemmas.List.{append-nil}
use Rattle.lsys_spec.specs.Rows.{In, AreApart}
use Rattle.lsys_spec.specs.Systems.{System}
use Rattle.lsys_level.specs.Spots.{spots_at}
use Rattle.lsys_forest.specs.Groves.{Grove, now_of, changes_in}
use Rattle.lsys_forest.specs.Rows.{index_in, level_nodes, complete_levels, level_of_node, place_of_node}
use Rattle.lsys_forest.proofs.RowLemmas.{In_append, In_left, In_right, level_apart}
use Rattle.lsys_forest.proofs.SoundLemmas.{some_of}
use Rattle.lsys_forest.proofs.WalkLemmas.{get_In}
use Rattle.lsys_reads.proofs.LevelLemmas.{get_index}
use Rattle.lsys_reads.specs.Levels.{answer_at}
use Rattle.lsys_children.proofs.Listed.{nodes_on, Listing, list_begins, list_goes_on, list_ends, spot_is}
use Rattle.lsys_front.specs.Questioned.{AreSome}
use Rattle.lsys_front.specs.Candidates.{AsksOn}
use Rattle.lsys_front.specs.Asks.{IsIdle, MayBeAsked}
use Rattle.lsys_front.proofs.Losing.{loses_none}
use Rattle.lsys_pass.specs.declared.state.PassState.TheVariants.{Failed}
use Rattle.lsys_pass.specs.Passes.{PassView, stage_of, IsPass}
use Rattle.lsys_pass.specs.Passes as P
use Rattle.lsys_pass.specs.Fresh.{row_of, Goes, HasFound, IsReadyToAsk}
use Rattle.lsys_pass.specs.Others.{IsOthers}
use Rattle.lsys_pass.specs.AskedLevels.{AreThose, AddsIf, added, left_out, ListsAsked}
use Rattle.lsys_pass.proofs.Stepping.{some_in}
use Rattle.lsys_pass.proofs.Askings.{sound_now, is_complete, answer_was_on, lost_row, may_row}
use Rattle.lsys_pass.proofs.Unanswered.{after, after_failed, LosesAt, goes}
use Rattle.lsys_pass.proofs.Pendings.{is_to_ask, found_at}

-- 1. some of a row, in order

pub some_apart : (js ks : List ℕ) → AreSome js ks → AreApart ks → AreApart js
some_apart [] ks h apart = tt
some_apart (j ∷ js) [] h apart = absurd h
some_apart (j ∷ js) (k ∷ ks) (inl h) apart = (λ i. apart.0 (subst (λ n. In n ks) h.0 (some_in js ks h.1 j i)), some_apart js ks h.1 apart.1)
some_apart (j ∷ js) (k ∷ ks) (inr h) apart = some_apart (j ∷ js) ks h apart.1

some_longer : (js ks : List ℕ) (x : ℕ) → AreSome js ks → AreSome js (ks ++ x ∷ [])
some_longer [] ks x h = tt
some_longer (j ∷ js) [] x h = absurd h
some_longer (j ∷ js) (k ∷ ks) x (inl h) = inl (h.0, some_longer js ks x h.1)
some_longer (j ∷ js) (k ∷ ks) x (inr h) = inr (some_longer (j ∷ js) ks x h)

some_own : (ks : List ℕ) (x : ℕ) → AreSome (x ∷ []) (ks ++ x ∷ [])
some_own [] x = inl (refl, tt)
some_own (k ∷ ks) x = inr (some_own ks x)

some_more : (js ks : List ℕ) (x : ℕ) → AreSome js ks → AreSome (js ++ x ∷ []) (ks ++ x ∷ [])
some_more [] ks x h = some_own ks x
some_more (j ∷ js) [] x h = absurd h
some_more (j ∷ js) (k ∷ ks) x (inl h) = inl (h.0, some_more js ks x h.1)
some_more (j ∷ js) (k ∷ ks) x (inr h) = inr (some_more (j ∷ js) ks x h)

-- 2. those of a kind, of a row that grows

those_next : (kind : ℕ → Type 0) (row : List ℕ) (x : ℕ) (js ks : List ℕ) → AreThose kind row js → AddsIf kind x js ks → AreThose kind (row ++ x ∷ []) ks
those_next kind row x js ks t (added a e) = subst (AreThose kind (row ++ x ∷ [])) (sym e) (record {
  are = λ k. (
    λ i. elim (In_append js (x ∷ []) k i) [
      | inl j ↦ (let u = (t.are k).0 j in (In_left k row (x ∷ []) u.0, u.1))
      | inr j ↦ (In_right k row (x ∷ []) j, elim j [ inl same ↦ subst kind (sym same) a | inr n ↦ absurd n ])
    ],
    λ u. elim (In_append row (x ∷ []) k u.0) [
      | inl j ↦ In_left k js (x ∷ []) ((t.are k).1 (j, u.1))
      | inr j ↦ In_right k js (x ∷ []) j
    ],
  );
  some = some_more js row x t.some;
})
those_next kind row x js ks t (left_out n e) = subst (AreThose kind (row ++ x ∷ [])) (sym e) (record {
  are = λ k. (
    λ i. (let u = (t.are k).0 i in (In_left k row (x ∷ []) u.0, u.1)),
    λ u. elim (In_append row (x ∷ []) k u.0) [
      | inl j ↦ (t.are k).1 (j, u.1)
      | inr j ↦ absurd (elim j [ inl same ↦ n (subst kind same u.1) | inr m ↦ m ])
    ],
  );
  some = some_longer js row x t.some;
})

-- 3. a level, from the left

module _ {A : Type 0} where
  -- of the nodes before a spot those with a question were added
  pub record AreAskedTo (f : Grove A) (s : System) (t : ℕ) (at : Option ℕ) (asked : List ℕ) : Type 0 where
    pub passed : List ℕ
    pub listing : Listing f t passed at
    pub those : AreThose (AsksOn s t (now_of f)) passed asked

  module _ (f : Grove A) (s : System) (t : ℕ) where
    pub asked_begins : (o : Option ℕ) (asked : List ℕ) → t < length (complete_levels f) → asked ≡ []
        → MatchOption o (length (spots_at (complete_levels f) t) ≡ 0) (λ k. (level_of_node f k ≡ t) × (place_of_node f k ≡ 0) × (0 < length (spots_at (complete_levels f) t)))
        → AreAskedTo f s t o asked
    asked_begins o asked complete none first = record {
      passed = [];
      listing = list_begins f t complete o first;
      those = subst (AreThose (AsksOn s t (now_of f)) []) (sym none) (record { are = λ k. (λ i. absurd i, λ u. u.0); some = tt });
    }

    module _ (k : ℕ) (asked : List ℕ) (complete : t < length (complete_levels f)) (a : AreAskedTo f s t (Some k) asked) where
      pub asked_spot : place_of_node f k < length (spots_at (complete_levels f) (level_of_node f k))
      asked_spot = spot_is f t k a.passed complete a.listing

      pub asked_on_row : In k (nodes_on f t)
      asked_on_row =
          let on : level_nodes (now_of f) f.root (level_of_node f k) ≡ nodes_on f t = ap (λ u. nodes_on f u) a.listing.next.0 in
          let same : index_in k (nodes_on f t) ≡ place_of_node f k = ap (index_in k) (sym on) in
          get_In (nodes_on f t) (index_in k (nodes_on f t)) k (get_index k (nodes_on f t) (subst (λ p. p < length (nodes_on f t)) (sym same) a.listing.next.2))

      pub asked_goes_on : (o : Option ℕ) (more : List ℕ) → AddsIf (AsksOn s t (now_of f)) k asked more
          → MatchOption o (place_of_node f k + 1 ≡ length (spots_at (complete_levels f) (level_of_node f k)))
          (λ n. (level_of_node f n ≡ level_of_node f k) × (place_of_node f n ≡ place_of_node f k + 1) × (place_of_node f n < length (spots_at (complete_levels f) (level_of_node f k))))
          → AreAskedTo f s t o more
      asked_goes_on o more adds next = record {
        passed = a.passed ++ k ∷ [];
        listing = list_goes_on f t k a.passed o complete a.listing next;
        those = those_next (AsksOn s t (now_of f)) a.passed k asked more a.those adds;
      }

    pub asked_ends : (asked : List ℕ) → AreAskedTo f s t None asked → ListsAsked s t f asked
    asked_ends asked a = subst (λ (row : List ℕ). AreThose (AsksOn s t (now_of f)) row asked) (list_ends f t a.passed a.listing) a.those

-- 4. a level that had no questions

module _ (v : PassView) (t : ℕ) (h : IsPass v) (beside readers : List ℕ) (f : HasFound v t beside readers) (last : v.system.depth ≤ t) where
  all_others : IsOthers v t (row_of v t)
  all_others = record { all = λ m. refl; unlike = λ less k. absurd (omega (arith, less, last)) }

  none_idle : (k : ℕ) → In k (v.front.changes.changed ++ row_of v t) → IsIdle v.next t (P.now_in v) k → ⊥
  none_idle k i idle =
      let on = lost_row v t h beside readers f (row_of v t) all_others k i in
      let a = some_of (answer_at (P.now_in v) k) idle.keeps in
      let below = (answer_was_on v t h beside readers f k a.0 on (sym (f.made.answers k on) ∙ a.1)).below in
      omega (arith, below, last)

  none_lost : LosesAt v t (row_of v t) v.forest v.front.bare v.dropped
  none_lost = record {
    loses = record {
      lost = [];
      bare_is = sym (append-nil v.front.bare);
      dropped_is = sym (append-nil v.dropped);
      apart = tt;
      are = λ k. (λ i. absurd i, λ u. none_idle k u.0 u.1);
      here = λ k i. absurd i;
      others = λ k n. refl;
    };
    only = loses_none v.forest;
    sound = h.stored.sound;
  }

  module _ (pending : List ℕ) where
    ready : ListsAsked v.next t v.forest pending → t < v.next.depth → t < 2 ^ 32 → IsReadyToAsk (after v v.forest v.front v.dropped v.seats pending) t
    ready are below small =
        is_to_ask v t h beside readers f (row_of v t) all_others v.forest v.front.bare v.dropped none_lost pending these
        (some_apart pending (row_of v t) are.some (level_apart v.forest.root (changes_in v.forest) (P.now_in v) (sound_now v t h beside readers f) t))
        are.some v.seats (λ k. refl) (λ k i. i) below small
      where
        these : (k : ℕ) → In k pending ↔ (AsksOn v.next t (P.now_in v) k × MayBeAsked v.front beside readers (row_of v t) k)
        these k = (
          λ i. (let u = (are.are k).0 i in (u.1, inl u.0)),
          λ u. (are.are k).1 (may_row v t h beside readers f (row_of v t) all_others k u.1, u.0),
        )

    goes_there : Goes (stage_of v) (stage_of (after v v.forest v.front v.dropped v.seats pending)) t
    goes_there = goes v t h beside readers f (row_of v t) all_others v.forest v.front.bare v.dropped none_lost v.seats (λ k. refl) (λ k i. i) pending

-- the same, as calls tell it: of a view of the pass, and of another one that is it

module _ (v w : PassView) (t : ℕ) (is : v ≡ w) (h : IsPass v) (beside readers : List ℕ) (f : HasFound w t beside readers) (last : w.system.depth ≤ t) where
  last_here : v.system.depth ≤ t
  last_here = subst (λ (z : PassView). z.system.depth ≤ t) (sym is) last

  pub whole_complete : t < 2 ^ 32 → t < length (complete_levels v.forest)
  whole_complete small = is_complete v t h beside readers (found_at v w t beside readers is f) small

  pub whole_ready : (s : System) (asked pending : List ℕ) → s ≡ v.next → pending ≡ asked → ListsAsked s t v.forest asked → t < w.next.depth → t < 2 ^ 32
      → IsReadyToAsk (after v v.forest v.front v.dropped v.seats pending) t
  whole_ready s asked pending same filled are below small =
      ready v t h beside readers (found_at v w t beside readers is f) last_here pending
      (subst (ListsAsked v.next t v.forest) (sym filled) (subst (λ (z : System). ListsAsked z t v.forest asked) same are))
      (subst (λ (z : PassView). t < z.next.depth) (sym is) below) small

  pub whole_goes : (pending : List ℕ) → Goes (stage_of w) (stage_of (after v v.forest v.front v.dropped v.seats pending)) t
  whole_goes pending =
      subst (λ (z : PassView). Goes (stage_of z) (stage_of (after v v.forest v.front v.dropped v.seats pending)) t) is
      (goes_there v t h beside readers (found_at v w t beside readers is f) last_here pending)

-- no new answer, and nothing but who is pending is another
pub pending_failed : (v : PassView) (pending : List ℕ) → IsPass v → v.state ≡ Failed → IsPass (after v v.forest v.front v.dropped v.seats pending)
pending_failed v pending h state = after_failed v v.forest v.front v.dropped v.seats pending h state h.stored.sound (loses_none v.forest) h.unmarked (λ k. refl) (λ k i. i)

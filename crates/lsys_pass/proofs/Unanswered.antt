-- A level on which nodes lost the answers that they have no question for.
use Rattle.std.proofs.Common.{◌≡◌, ◌⊎◌, ◌<◌, ◌≤◌, ◌+◌, ◌^◌, ℕ, false, List, ◌++◌, Option, Some, None, refl, sym, ap, ◌∙◌, subst, inl, inr, arith}
use Rattle.std.specs.Prelude.{IsSome, option_map, slice_get}
use Rattle.std.specs.Option.{option_and_then}
use Rattle.std.proofs.Math.Path.{fun_ext}
use Rattle.std.proofs.lemmas.List.{take_all, drop_all}
use Rattle.std.proofs.lemmas.Option.{none-some, same_Some}
use Rattle.lsys_spec.specs.Rows.{In, AreApart}
use Rattle.lsys_spec.specs.Draws.{number_base}
use Rattle.lsys_level.specs.Spots.{Spotted}
use Rattle.lsys_laws.specs.Nodes.{Kins, AreOnce, Extends}
use Rattle.lsys_match.specs.Kept.{Kept}
use Rattle.lsys_forest.specs.Nodes.{Node, Nodes, with_answer}
use Rattle.lsys_forest.specs.Answers.{answer_of}
use Rattle.lsys_forest.specs.Groves.{Grove, AreSound, IsRooted, now_of, rest_of, changes_in}
use Rattle.lsys_forest.specs.Rows.{kids_in, spot_in, level_nodes, level_spots}
use Rattle.lsys_forest.proofs.RowLemmas.{In_append, In_left, In_right, apart_append, level_depth}
use Rattle.lsys_forest.proofs.SoundLemmas.{AreSound-now}
use Rattle.lsys_reads.specs.Lineages.{kin_of, kins}
use Rattle.lsys_reads.specs.Levels.{AnsweredAt, HaveLevels, answer_at}
use Rattle.lsys_reads.specs.Meant.{levels_meant, meant_to}
use Rattle.lsys_reads.specs.declared.seat.Seat.{Seat}
use Rattle.lsys_reads.specs.Neighbours.{neighbours_on}
use Rattle.lsys_reads.specs.Seats.{is_marked, SameSeats, KeepsSeats}
use Rattle.lsys_forest.specs.Pairs.{seen_at}
use Rattle.lsys_front.specs.Repairs.{SteppingSpots, were}
use Rattle.lsys_front.specs.Candidates.{AsksOn}
use Rattle.lsys_front.proofs.Spots.{is_in}
use Rattle.lsys_front.specs.Fronts.{Differences, IsLevelFront}
use Rattle.lsys_front.specs.Losses.{LosesOnly}
use Rattle.lsys_front.specs.Asks.{Loses}
use Rattle.lsys_pass.specs.declared.state.PassState.TheVariants.{Failed}
use Rattle.lsys_pass.specs.Stages.{Stage, HasTree}
use Rattle.lsys_pass.specs.Advances.{KeepsRest, StaysAbove}
use Rattle.lsys_pass.specs.Passes.{PassView, stage_of, repair_of, AllHaveSeats, HasFront, IsPass}
use Rattle.lsys_pass.specs.Passes as P
use Rattle.lsys_pass.specs.Fresh.{row_of, Goes, HasListsBefore, HasFound}
use Rattle.lsys_pass.specs.Others.{IsOthers}
use Rattle.lsys_pass.proofs.Alike.{AreAlike, IsFrom, nodes_alike, spots_alike, have_alike, neighbours_alike}
use Rattle.lsys_pass.proofs.Askings.{sound_now, answer_was_on, lost_row, must_lose}
use Rattle.lsys_pass.proofs.Failing.{stored_less, still_failed}
use Rattle.lsys_pass.proofs.Fronting.{KeepsNodes, front_loses}

-- 1. nodes that keep no answer

kids_bare : (o : Option (Node Kept)) → kids_in (option_map (with_answer None) o) ≡ kids_in o
kids_bare None = refl
kids_bare (Some n) = refl

spot_bare : (k : ℕ) (o : Option (Node Kept)) → spot_in k (option_map (with_answer None) o) ≡ spot_in k o
spot_bare k None = refl
spot_bare k (Some n) = refl

kin_bare : (o : Option (Node Kept)) → option_map kin_of (option_map (with_answer None) o) ≡ option_map kin_of o
kin_bare None = refl
kin_bare (Some n) = refl

bare_answer : (o : Option (Node Kept)) → option_and_then answer_of (option_map (with_answer None) o) ≡ None
bare_answer None = refl
bare_answer (Some n) = refl

none_kept : (o : Option Kept) → o ≡ None → IsSome o → ⊥
none_kept None e h = cc
none_kept (Some a) e h = none-some a (sym e)

-- what was there before an answer was lost
before_bare : (m : Nodes Kept) (k : ℕ) (n : Node Kept) → option_map (with_answer None) (m k) ≡ Some n → IsFrom m k n
before_bare m k n e = by (m k) refl e
  where
    by : (o : Option (Node Kept)) → m k ≡ o → option_map (with_answer None) o ≡ Some n → IsFrom m k n
    by None is e = absurd (none-some n e)
    by (Some x) is e =
        let same : with_answer None x ≡ n = same_Some (with_answer None x) n e in
        record { node = x; is = is; kids = ap (λ (y : Node Kept). y.kids) (sym same); depth = ap (λ (y : Node Kept). y.depth) (sym same); count = ap (λ (y : Node Kept). y.count) (sym same) }

-- 2. the forest, where some of the level lost their answers

-- a pass with another forest, with what is told of its level, with other seats, and with these pending
abbrev pub after : PassView → Grove Kept → Differences → List ℕ → List Seat → List ℕ → PassView
after v g d dropped seats pending = record v { forest = g; front = d; dropped = dropped; seats = seats; pending = pending }

-- it failed before, and it has no new answers
pub after_failed : (v : PassView) (g : Grove Kept) (d : Differences) (dropped : List ℕ) (seats : List Seat) (pending : List ℕ) → IsPass v → v.state ≡ Failed → AreSound g.root (changes_in g) (now_of g) → LosesOnly v.forest g
    → ((k : ℕ) → is_marked seats k ≡ false) → SameSeats v.seats seats → KeepsSeats v.seats seats → IsPass (after v g d dropped seats pending)
after_failed v g d dropped seats pending h state sound only clear same keeps = still_failed v (after v g d dropped seats pending) h (record {
  was_failed = state;
  failed = state;
  stored = stored_less v.forest g v.store sound only h.stored;
  few = (let a = h.few in let b = only.live in omega (arith, a, b));
  unmarked = clear;
  answers = refl;
  sizes = refl;
  run = record {
    system = refl;
    limit = refl;
    root = only.root;
    was = only.rest;
    store = refl;
    reads = refl;
    listed = refl;
    renewed = refl;
    born = refl;
    same_seats = same;
  };
  seats = keeps;
})

-- what became of the forest, and of two lists
pub record LosesAt (v : PassView) (t : ℕ) (others : List ℕ) (g : Grove Kept) (bare dropped : List ℕ) : Type 0 where
  pub loses : Loses v.next t (P.now_in v) (now_of g) (v.front.changes.changed ++ others) v.front.bare bare v.dropped dropped
  pub only : LosesOnly v.forest g
  pub sound : AreSound g.root (changes_in g) (now_of g)

module _ (v : PassView) (t : ℕ) (h : IsPass v) (beside readers : List ℕ) (f : HasFound v t beside readers) (others : List ℕ) (o : IsOthers v t others)
    (g : Grove Kept) (bare dropped : List ℕ) (l : LosesAt v t others g bare dropped) where
  abbrev pub lost : List ℕ
  lost = l.loses.lost

  pub lost_on : (k : ℕ) → In k lost → In k (row_of v t)
  lost_on k i = lost_row v t h beside readers f others o k ((l.loses.are k).0 i).0

  lost_had : (k : ℕ) → In k lost → answer_at (P.now_in v) k ≡ None → ⊥
  lost_had k i e = none_kept (answer_at (P.now_in v) k) e ((l.loses.are k).0 i).1.keeps

  pub answer_lost : (k : ℕ) → In k lost → answer_at (now_of g) k ≡ None
  answer_lost k i = ap (option_and_then answer_of) (l.loses.here k i) ∙ bare_answer (P.now_in v k)

  pub answer_kept : (k : ℕ) → (In k lost → ⊥) → answer_at (now_of g) k ≡ answer_at (P.now_in v) k
  answer_kept k n = ap (option_and_then answer_of) (l.loses.others k n)

  pub answer_back : (k : ℕ) (a : Kept) → answer_at (now_of g) k ≡ Some a → answer_at (P.now_in v) k ≡ Some a
  answer_back k a e = elim (is_in k lost) [
    | inl i ↦ absurd (none-some a (sym (answer_lost k i) ∙ e))
    | inr n ↦ sym (answer_kept k n) ∙ e
  ]

  pub alike : AreAlike (P.now_in v) (now_of g)
  alike = record {
    kids = fun_ext (λ k. elim (is_in k lost) [ inl i ↦ ap kids_in (l.loses.here k i) ∙ kids_bare (P.now_in v k) | inr n ↦ ap kids_in (l.loses.others k n) ]);
    spots = fun_ext (λ k. elim (is_in k lost) [ inl i ↦ ap (spot_in k) (l.loses.here k i) ∙ spot_bare k (P.now_in v k) | inr n ↦ ap (spot_in k) (l.loses.others k n) ]);
    kins = fun_ext (λ k. elim (is_in k lost) [ inl i ↦ ap (option_map kin_of) (l.loses.here k i) ∙ kin_bare (P.now_in v k) | inr n ↦ ap (option_map kin_of) (l.loses.others k n) ]);
  }

  node_from : (k : ℕ) (n : Node Kept) → now_of g k ≡ Some n → IsFrom (P.now_in v) k n
  node_from k n e = elim (is_in k lost) [
    | inl i ↦ before_bare (P.now_in v) k n (sym (l.loses.here k i) ∙ e)
    | inr out ↦ record { node = n; is = sym (l.loses.others k out) ∙ e; kids = refl; depth = refl; count = refl }
  ]

  pub nodes_same : (u : ℕ) → level_nodes (now_of g) g.root u ≡ row_of v u
  nodes_same u = ap (λ r. level_nodes (now_of g) r u) l.only.root ∙ nodes_alike (P.now_in v) (now_of g) v.forest.root alike u

  spots_same : (u : ℕ) → level_spots (now_of g) g.root u ≡ level_spots (P.now_in v) v.forest.root u
  spots_same u = ap (λ r. level_spots (now_of g) r u) l.only.root ∙ spots_alike (P.now_in v) (now_of g) v.forest.root alike u

  pub sound_after : IsRooted g.root (changes_in g) (now_of g)
  sound_after = AreSound-now g.root (changes_in g) (now_of g) l.sound

  pub seen_same : (k : ℕ) → seen_at (now_of g) k ≡ seen_at (P.now_in v) k
  seen_same k = ap (λ (x : ℕ → Spotted). (x k).seen) alike.spots

  were_same : (u : ℕ) → level_nodes (rest_of g) g.root u ≡ level_nodes (P.rest_in v) v.forest.root u
  were_same u = ap (λ (m : Nodes Kept). level_nodes m g.root u) l.only.rest ∙ ap (λ r. level_nodes (P.rest_in v) r u) l.only.root

  was_same : (k : ℕ) → answer_at (rest_of g) k ≡ answer_at (P.rest_in v) k
  was_same k = ap (λ (m : Nodes Kept). answer_at m k) l.only.rest

  -- what holds of the last rest
  at_rest : (Q : Nodes Kept → ℕ → Type 0) → Q (P.rest_in v) v.forest.root → Q (rest_of g) g.root
  at_rest Q x = subst (λ (m : Nodes Kept). Q m g.root) (sym l.only.rest) (subst (Q (P.rest_in v)) (sym l.only.root) x)

  pub spots_now : SteppingSpots (record (repair_of v t) { forest = g })
  spots_now = record {
    sound = l.sound;
    old_spelled = f.made.spots.old_spelled;
    new_spelled = f.made.spots.new_spelled;
    old_is = f.made.spots.old_is;
    new_is = f.made.spots.new_is;
    old_levels = at_rest (λ m r. HaveLevels m r v.system.seed (levels_meant v.system v.limit)) f.made.spots.old_levels;
    new_levels =
        have_alike (P.now_in v) (now_of g) g.root v.next.seed (meant_to v.next v.limit t) alike
        (subst (λ r. HaveLevels (P.now_in v) r v.next.seed (meant_to v.next v.limit t)) (sym l.only.root) f.made.spots.new_levels);
    once = at_rest (λ m r. AreOnce (kins m) r) f.made.spots.once;
    once_now = subst (λ (x : Kins). AreOnce x g.root) (sym alike.kins) (subst (AreOnce (kins (P.now_in v))) (sym l.only.root) f.made.spots.once_now);
    stay = subst (λ (x : Kins). Extends (kins (rest_of g)) x) (sym alike.kins) (at_rest (λ m r. Extends (kins m) (kins (P.now_in v))) f.made.spots.stay);
    answered = λ p k less e. at_rest (λ m r. AnsweredAt v.system t m r v.store p k) (f.made.spots.answered p k less (ap (λ (xs : List ℕ). slice_get xs p) (sym (were_same t)) ∙ e));
  }

  -- 3. questions and answers on the level

  pub asks_back : (k : ℕ) → AsksOn v.next t (now_of g) k → AsksOn v.next t (P.now_in v) k
  asks_back k a = record { own = a.own; is = sym (seen_same k) ∙ a.is; rules = a.rules }

  pub asks_on : (k : ℕ) → AsksOn v.next t (P.now_in v) k → AsksOn v.next t (now_of g) k
  asks_on k a = record { own = a.own; is = seen_same k ∙ a.is; rules = a.rules }

  -- one with a question keeps the answer that it had
  pub asked_kept : (k : ℕ) → In k (row_of v t) → AsksOn v.next t (now_of g) k → answer_at (now_of g) k ≡ answer_at (rest_of g) k
  asked_kept k on a = elim (is_in k lost) [
    | inl i ↦ absurd (((l.loses.are k).0 i).1.unasked (asks_back k a))
    | inr n ↦ answer_kept k n ∙ f.made.answers k on ∙ sym (was_same k)
  ]

  -- and one without a question none
  pub unasked_bare : (k : ℕ) → In k (row_of v t) → (AsksOn v.next t (now_of g) k → ⊥) → answer_at (now_of g) k ≡ None
  unasked_bare k on none = by (answer_at (P.now_in v) k) refl
    where
      by : (x : Option Kept) → answer_at (P.now_in v) k ≡ x → answer_at (now_of g) k ≡ None
      by None e = elim (is_in k lost) [ inl i ↦ answer_lost k i | inr n ↦ answer_kept k n ∙ e ]
      by (Some a) e =
          let free : AsksOn v.next t (P.now_in v) k → ⊥ = λ q. none (asks_on k q) in
          answer_lost k ((l.loses.are k).1 (must_lose v t h beside readers f others o k a on free e, record { keeps = subst IsSome (sym e) refl; unasked = free }))

  -- 4. the tree

  pub tree : t < v.next.depth → t < 2 ^ 32 → HasTree (now_of g) (rest_of g) g.root v.next v.limit t
  tree below small = record {
    spelled = spots_now.new_spelled;
    below = below;
    small = small;
    is = spots_now.new_is;
    levels = spots_now.new_levels;
    counts = λ k n e. (let x = node_from k n e in subst (λ c. c < number_base) (sym x.count) (f.made.counts k x.node x.is));
    once = spots_now.once_now;
    stay = spots_now.stay;
    kids = λ k n p e w d. (let x = node_from k n e in x.kids ∙ f.made.deeper.kids k x.node p x.is (sym (was_node k) ∙ w) (sym x.depth ∙ d));
    new_kids = λ k n e w d. (let x = node_from k n e in x.kids ∙ f.made.deeper.new_kids k x.node x.is (sym (was_node k) ∙ w) (sym x.depth ∙ d));
    deeper = λ k n w less. (let e = f.made.deeper.deeper k n (sym (was_node k) ∙ w) less in l.loses.others k (not_deeper k n e less) ∙ e);
    none_deeper = λ k n e w. (let x = node_from k n e in let d = f.made.deeper.none_deeper k x.node x.is (sym (was_node k) ∙ w) in let s = x.depth in omega (arith, d, s));
  }
    where
      was_node : (k : ℕ) → rest_of g k ≡ P.rest_in v k
      was_node k = ap (λ (m : Nodes Kept). m k) l.only.rest

      not_deeper : (k : ℕ) (n : Node Kept) → P.now_in v k ≡ Some n → t + 1 < n.depth → In k lost → ⊥
      not_deeper k n e less i =
          let d = level_depth v.forest.root (changes_in v.forest) (P.now_in v) (sound_now v t h beside readers f) t k (lost_on k i) in
          let same = ap (λ (x : Node Kept). x.depth) (same_Some d.0 n (sym d.1 ∙ e)) in
          let deep = d.2 in
          omega (arith, same, deep, less)

  -- 5. the lists

  -- no node that lost its answer here is of a level above
  not_above : (k u : ℕ) → u < t → In k (row_of v u) → In k lost → ⊥
  not_above k u less on i =
      let a = level_depth v.forest.root (changes_in v.forest) (P.now_in v) (sound_now v t h beside readers f) u k on in
      let b = level_depth v.forest.root (changes_in v.forest) (P.now_in v) (sound_now v t h beside readers f) t k (lost_on k i) in
      let same = ap (λ (x : Node Kept). x.depth) (same_Some a.0 b.0 (sym a.1 ∙ b.1)) in
      let one = a.2 in
      let two = b.2 in
      omega (arith, same, one, two, less)

  pub in_dropped : (k : ℕ) → In k dropped → In k v.dropped ⊎ In k lost
  in_dropped k i = In_append v.dropped lost k (subst (In k) l.loses.dropped_is i)

  pub dropped_more : (k : ℕ) → In k v.dropped → In k dropped
  dropped_more k i = subst (In k) (sym l.loses.dropped_is) (In_left k v.dropped lost i)

  dropped_too : (k : ℕ) → In k lost → In k dropped
  dropped_too k i = subst (In k) (sym l.loses.dropped_is) (In_right k v.dropped lost i)

  in_bare : (k : ℕ) → In k bare → In k v.front.bare ⊎ In k lost
  in_bare k i = In_append v.front.bare lost k (subst (In k) l.loses.bare_is i)

  -- what is dropped and on the level had no answer before
  pub dropped_before : (k u : ℕ) → In k v.dropped → u < t + 1 → In k (row_of v u) → answer_at (P.now_in v) k ≡ None
  dropped_before k u i less on = f.lists.dropped_none k u i less on

  -- those that are dropped stood on the level or above it
  pub dropped_at : (k : ℕ) → In k dropped → (u : ℕ) × (u ≤ t) × In k (level_nodes (rest_of g) g.root u)
  dropped_at k i = elim (in_dropped k i) [
    | inl d ↦ (let w = f.dropped k d in let less = w.1 in (w.0, omega (arith, less), subst (In k) (sym (were_same w.0)) w.2))
    | inr j ↦ (t, omega arith, subst (In k) (sym (were_same t)) (lost_was k j))
  ]
    where
      lost_was : (k : ℕ) → In k lost → In k (were (repair_of v t))
      lost_was k j = by (answer_at (P.now_in v) k) refl
        where
          by : (x : Option Kept) → answer_at (P.now_in v) k ≡ x → In k (were (repair_of v t))
          by None e = absurd (lost_had k j e)
          by (Some a) e = (answer_was_on v t h beside readers f k a (lost_on k j) (sym (f.made.answers k (lost_on k j)) ∙ e)).on

  module _ (seats : List Seat) (same : SameSeats v.seats seats) (keeps : KeepsSeats v.seats seats) (pending : List ℕ) where
    -- the pass then
    abbrev pub stage : Stage
    stage = stage_of (after v g (record v.front { bare = bare }) dropped seats pending)

    pub lists : HasListsBefore stage (t + 1)
    lists = record {
      fresh = λ k a e. elim (f.lists.fresh k a (answer_back k a e)) [ inl i ↦ inl i | inr w ↦ inr (was_same k ∙ w) ];
      dropped_apart = subst AreApart (sym l.loses.dropped_is)
          (apart_append v.dropped lost f.lists.dropped_apart l.loses.apart (λ k i j. lost_had k j (dropped_before k t i (omega arith) (lost_on k j))));
      dropped_had = λ k i e. elim (in_dropped k i) [
        | inl d ↦ f.lists.dropped_had k d (sym (was_same k) ∙ e)
        | inr j ↦ lost_had k j (f.made.answers k (lost_on k j) ∙ sym (was_same k) ∙ e)
      ];
      dropped_none = λ k u i less on. elim (is_in k lost) [
        | inl j ↦ answer_lost k j
        | inr n ↦ answer_kept k n ∙ elim (in_dropped k i) [
          | inl d ↦ dropped_before k u d less (subst (In k) (nodes_same u) on)
          | inr j ↦ absurd (n j)
        ]
      ];
      lost = λ k u a less e on. elim (f.lists.lost k u a less (sym (was_same k) ∙ e) (subst (In k) (were_same u) on)) [
        | inl d ↦ inl (dropped_more k d)
        | inr i ↦ inr (subst (In k) (sym (nodes_same u)) i)
      ];
      seated = λ u p k less e. elim (f.lists.seated u p k less (ap (λ (xs : List ℕ). slice_get xs p) (sym (nodes_same u)) ∙ e)) [
        | inl m ↦ inl m
        | inr s ↦ inr (same k ∙ s ∙ sym (ap (λ (xs : List ℕ). neighbours_on (now_of g) xs p) (nodes_same u) ∙ neighbours_alike (P.now_in v) (now_of g) alike (row_of v u) p))
      ];
      moved_are = λ k i. (let w = f.lists.moved_are k i in (w.0, w.1, subst (In k) (sym (nodes_same w.0)) w.2));
      room = λ k i. keeps k (f.lists.room k i);
    }

    pub run : KeepsRest (stage_of v) stage
    run = record {
      system = refl;
      limit = refl;
      root = l.only.root;
      was = l.only.rest;
      store = refl;
      reads = refl;
      listed = refl;
      renewed = refl;
      born = refl;
      same_seats = same;
    }

    above : StaysAbove (stage_of v) stage t
    above = record {
      nodes = λ u less. nodes_same u;
      spots = λ u less. spots_same u;
      names = λ k n e. ap (λ (x : Kins). x k) alike.kins ∙ e;
      kept = λ u k less on. answer_kept k (λ i. not_above k u less on i);
      same = answer_back;
      gone = λ k a e. elim (is_in k lost) [ inl i ↦ inl (dropped_too k i) | inr n ↦ inr (answer_kept k n ∙ e) ];
    }

    pub goes : Goes (stage_of v) stage t
    goes = record { next = refl; run = run; above = above; more = dropped_more }

  -- 6. what is told of the level

  front_now : IsLevelFront (record (repair_of v t) { forest = g }) v.seats (record v.front { bare = bare })
  front_now = front_loses (repair_of v t) g v.store keeps_nodes v.seats v.front bare f.front bare_within bare_all
    where
      keeps_nodes : KeepsNodes (repair_of v t) g
      keeps_nodes = record {
        sound = sound_after;
        root = l.only.root;
        rest = l.only.rest;
        nodes = nodes_same t;
        spots = spots_same t;
        seen = seen_same;
      }

      bare_within : (k : ℕ) → In k bare → In k (row_of v t)
      bare_within k i = elim (in_bare k i) [ inl b ↦ f.front.bare_are k b | inr j ↦ lost_on k j ]

      bare_all : (k : ℕ) (a : Kept) → In k (row_of v t) → answer_at (P.rest_in v) k ≡ Some a → answer_at (now_of g) k ≡ None → In k bare
      bare_all k a on was none = subst (In k) (sym l.loses.bare_is) (elim (is_in k lost) [
        | inl i ↦ In_right k v.front.bare lost i
        | inr n ↦ In_left k v.front.bare lost (f.front.bare k a on was (sym (answer_kept k n) ∙ none))
      ])

  module _ (seats : List Seat) (same : SameSeats v.seats seats) (keeps : KeepsSeats v.seats seats) (pending : List ℕ) where
    pub told : HasFront (after v g (record v.front { bare = bare }) dropped seats pending) t
    told = record {
      front = record {
        differs = front_now.differs;
        gone_once = front_now.gone_once;
        turned = record {
          sound = front_now.turned.sound;
          seated = λ p k e. same k ∙ front_now.turned.seated p k e;
          there = front_now.turned.there;
          same = λ k i away. front_now.turned.same k i away ∙ sym (same k);
        };
        turned_are = front_now.turned_are;
        bare_are = front_now.bare_are;
        bare = front_now.bare;
      };
      within = (let e = f.first in omega (arith, e));
      before = λ k i. (
          let w = f.made.renewed_are k (subst (In k) (take_all v.first_renewed v.renewed (let e = f.first in omega (arith, e))) i) in
          (w.0, w.1, subst (In k) (sym (nodes_same w.0)) w.2)
          );
      here = λ k i. absurd (subst (In k) (drop_all v.first_renewed v.renewed (let e = f.first in omega (arith, e))) i);
      room = λ k n e. (let x = node_from k n e in keeps k (f.made.room k x.node x.is));
    }

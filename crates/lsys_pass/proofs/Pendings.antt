-- The nodes that are pending on a level where some lost their answers.
use Rattle.std.proofs.Common.{◌≡◌, ◌⊎◌, ◌↔◌, ◌<◌, ◌^◌, ◌++◌, ℕ, List, length, Some, refl, sym, ap, ◌∙◌, subst, inl, inr, arith}
use Rattle.std.specs.Prelude.{slice_get}
use Rattle.std.proofs.lemmas.Bool.{cases_lt}
use Rattle.lsys_spec.specs.Rows.{In, AreApart}
use Rattle.lsys_spec.specs.Systems.{System}
use Rattle.lsys_match.specs.Kept.{Kept}
use Rattle.lsys_forest.specs.Groves.{Grove, AreSound, IsLive, IsRooted, now_of, changes_in}
use Rattle.lsys_forest.specs.Rows.{complete_levels}
use Rattle.lsys_forest.proofs.WalkLemmas.{get_In}
use Rattle.lsys_reads.specs.Meant.{IsCandidate}
use Rattle.lsys_reads.specs.declared.seat.Seat.{Seat}
use Rattle.lsys_reads.specs.Seats.{HasSeat, SameSeats, KeepsSeats}
use Rattle.lsys_reads.proofs.LevelLemmas.{place_in}
use Rattle.lsys_front.specs.Repairs.{Repair, are}
use Rattle.lsys_front.specs.Candidates.{AsksOn, AsksNow, IsCandidateNode}
use Rattle.lsys_front.specs.Questioned.{AreInOrder, AreSome}
use Rattle.lsys_front.proofs.Nodes.{candidates_are}
use Rattle.lsys_front.specs.Fronts.{Differences}
use Rattle.lsys_front.specs.Losses.{LosesOnly}
use Rattle.lsys_front.specs.Asks.{Loses, MayBeAsked, StandTogether}
use Rattle.lsys_front.specs.Asks as F
use Rattle.lsys_front.proofs.LevelAsks.{asks_level}
use Rattle.lsys_front.proofs.PendingNodes.{pending_found, pending_all, pending_some}
use Rattle.lsys_front.proofs.Rooms.{complete_now}
use Rattle.lsys_front.proofs.Standing.{at_level, live_at, spot_at}
use Rattle.lsys_pass.specs.Advances.{AreToAsk}
use Rattle.lsys_pass.specs.Passes.{PassView, stage_of, repair_of, IsPass}
use Rattle.lsys_pass.specs.Passes as P
use Rattle.lsys_pass.specs.Fresh.{row_of, Goes, HasFound, IsReadyToAsk}
use Rattle.lsys_pass.specs.Others.{IsOthers}
use Rattle.lsys_pass.proofs.Askings.{row_lives, is_complete, may_row, lost_row, row_seats, stepping_nodes}
use Rattle.lsys_pass.proofs.Unanswered.{after, LosesAt, nodes_same, spots_now, sound_after, asks_back, asks_on, asked_kept, unasked_bare, tree, in_dropped, dropped_before, dropped_at, stage, lists, goes, told}

module _ (v : PassView) (t : ℕ) (h : IsPass v) (beside readers : List ℕ) (f : HasFound v t beside readers) (others : List ℕ) (o : IsOthers v t others)
    (g : Grove Kept) (bare dropped : List ℕ) (l : LosesAt v t others g bare dropped) where
  abbrev r : Repair
  r = repair_of v t

  abbrev r' : Repair
  r' = record (repair_of v t) { forest = g }

  on_now : (k : ℕ) → In k (row_of v t) → In k (are r')
  on_now k i = subst (In k) (sym (nodes_same v t h beside readers f others o g bare dropped l t)) i

  on_before : (k : ℕ) → In k (are r') → In k (row_of v t)
  on_before k i = subst (In k) (nodes_same v t h beside readers f others o g bare dropped l t) i

  -- 1. what is asked for

  pub together : t < 2 ^ 32 → StandTogether g (MayBeAsked v.front beside readers others)
  together small = record {
    level = t;
    lives = λ k m. live_at g t k sound (on k m);
    spots = λ k m. spot_at g t k sound complete (on k m);
    levels = λ k m. at_level g t k sound (on k m);
  }
    where
      sound : IsRooted g.root (changes_in g) (now_of g)
      sound = sound_after v t h beside readers f others o g bare dropped l

      complete : t < length (complete_levels g)
      complete = complete_now r' (spots_now v t h beside readers f others o g bare dropped l) small

      on : (k : ℕ) → MayBeAsked v.front beside readers others k → In k (are r')
      on k m = on_now k (may_row v t h beside readers f others o k m)

  pub seats_there : (k : ℕ) → MayBeAsked v.front beside readers others k → HasSeat v.seats k
  seats_there k m = row_seats v t h beside readers f k (may_row v t h beside readers f others o k m)

  -- 2. the candidates are pending

  module _ (pending : List ℕ) (these : (k : ℕ) → In k pending ↔ (AsksOn v.next t (now_of g) k × MayBeAsked v.front beside readers others k)) where
    by_questions : (k : ℕ) → In k pending ↔ (AsksNow r k × MayBeAsked v.front beside readers others k)
    by_questions k = (
      λ i. (let u = (these k).0 i in (asks_back v t h beside readers f others o g bare dropped l k u.0, u.1)),
      λ u. (these k).1 (asks_on v t h beside readers f others o g bare dropped l k u.0, u.1),
    )

    by_candidates : (k : ℕ) → In k pending ↔ (In k (are r) × IsCandidateNode r k)
    by_candidates k = elim (cases_lt t v.system.depth) [
      | inl below ↦ pending_found r v.seats v.reads v.front.changes others v.front.turned beside readers pending (stepping_nodes v t h beside readers f others o below) f.found by_questions k
      | inr last ↦ pending_all r pending last (λ j. (
        λ i. (let u = (by_questions j).0 i in (may_row v t h beside readers f others o j u.1, u.0)),
        λ u. (by_questions j).1 (u.1, inl (subst (In j) (sym (o.all last)) u.0)),
      )) k
    ]

    -- candidates are told without nodes, so they are the same before and after
    pending_now : (k : ℕ) → In k pending ↔ (In k (are r') × IsCandidateNode r' k)
    pending_now k = (
      λ i. (let u = (by_candidates k).0 i in
          let p = place_in k (row_of v t) u.0 in
          (on_now k u.0, (here p.0 p.1).0 ((candidates_are r f.made.spots p.0 k p.1).1 u.1))),
      λ u. (let i = on_before k u.0 in
          let p = place_in k (row_of v t) i in
          (by_candidates k).1 (i, (candidates_are r f.made.spots p.0 k p.1).0 ((here p.0 p.1).1 u.1))),
    )
      where
        here : (p : ℕ) → slice_get (row_of v t) p ≡ Some k → IsCandidate v.system v.next v.limit t p ↔ IsCandidateNode r' k
        here p there = candidates_are r' (spots_now v t h beside readers f others o g bare dropped l) p k (ap (λ (xs : List ℕ). slice_get xs p) (nodes_same v t h beside readers f others o g bare dropped l t) ∙ there)

    each : (p k : ℕ) → slice_get (are r') p ≡ Some k → F.IsToAsk r' pending p k ⊎ F.IsUnasked r' pending p k
    each p k e =
        asks_level r' pending (spots_now v t h beside readers f others o g bare dropped l)
        (λ j i a. asked_kept v t h beside readers f others o g bare dropped l j (on_before j i) a)
        (λ j i n. unasked_bare v t h beside readers f others o g bare dropped l j (on_before j i) n) pending_now p k e

    -- none of those is dropped
    undropped : (k : ℕ) → In k dropped → In k pending → ⊥
    undropped k d i =
        let u = (these k).0 i in
        let on = may_row v t h beside readers f others o k u.1 in
        elim (in_dropped v t h beside readers f others o g bare dropped l k d) [
          | inl e ↦ f.lists.dropped_had k e (sym (f.made.answers k on) ∙ dropped_before v t h beside readers f others o g bare dropped l k t e (omega arith) on)
          | inr j ↦ ((l.loses.are k).0 j).1.unasked (asks_back v t h beside readers f others o g bare dropped l k u.0)
        ]

    -- in order they are some of the level
    in_row : AreInOrder g pending → AreSome pending (are r')
    in_row order = pending_some g t pending (sound_after v t h beside readers f others o g bare dropped l) order (λ k i. ((pending_now k).0 i).0)

    module _ (once : AreApart pending) (some : AreSome pending (are r')) (seats : List Seat) (same : SameSeats v.seats seats) (keeps : KeepsSeats v.seats seats) where
      ask : AreToAsk (stage v t h beside readers f others o g bare dropped l seats same keeps pending) t
      ask = record {
        each = λ p k e. elim (each p k e) [
          | inl a ↦ inl (a.among, a.candidate, a.same)
          | inr u ↦ inr (u.done, u.answered, u.unneeded)
        ];
        all = λ p k e x. (pending_now k).1 (get_In (are r') p k e, (candidates_are r' (spots_now v t h beside readers f others o g bare dropped l) p k e).0 x);
        in_order = some;
        apart = once;
        faults = f.made.faults;
        undropped = undropped;
      }

      pub is_to_ask : t < v.next.depth → t < 2 ^ 32 → IsReadyToAsk (after v g (record v.front { bare = bare }) dropped seats pending) t
      is_to_ask below small = record {
        lists = lists v t h beside readers f others o g bare dropped l seats same keeps pending;
        advances = record {
          tree = tree v t h beside readers f others o g bare dropped l below small;
          ask = ask;
          dropped_at = dropped_at v t h beside readers f others o g bare dropped l;
        };
        front = told v t h beside readers f others o g bare dropped l seats same keeps pending;
      }

-- 3. the same, as calls tell it

-- A view of the pass, and another one that is it; others that were found, and these nodes, which are they; this system, which is made;
-- and what became of the forest, of what is told of the level, and of those that are dropped.
pub record IsLost (v w : PassView) (t : ℕ) (beside readers others : List ℕ) (s : System) (nodes : List ℕ) (g : Grove Kept) (d : Differences) (dropped : List ℕ) : Type 0 where
  pub is : v ≡ w
  pub found : HasFound w t beside readers
  pub others_are : IsOthers w t others
  pub nodes_are : nodes ≡ others
  pub system : s ≡ v.next
  pub loses : Loses s t (P.now_in v) (now_of g) (v.front.changes.changed ++ nodes) v.front.bare d.bare v.dropped dropped
  pub only : LosesOnly v.forest g
  pub sound : AreSound g.root (changes_in g) (now_of g)
  pub changes : d.changes ≡ v.front.changes
  pub turned : d.turned ≡ v.front.turned

-- at the pass itself
pub found_at : (v w : PassView) (t : ℕ) (beside readers : List ℕ) → v ≡ w → HasFound w t beside readers → HasFound v t beside readers
found_at v w t beside readers e f = subst (λ (z : PassView). HasFound z t beside readers) (sym e) f

pub others_at : (v w : PassView) (t : ℕ) (others nodes : List ℕ) → v ≡ w → nodes ≡ others → IsOthers w t others → IsOthers v t nodes
others_at v w t others nodes e same o = subst (IsOthers v t) (sym same) (subst (λ (z : PassView). IsOthers z t others) (sym e) o)

pub complete_at : (v w : PassView) (t : ℕ) (beside readers : List ℕ) → v ≡ w → IsPass v → HasFound w t beside readers → t < 2 ^ 32 → t < length (complete_levels w.forest)
complete_at v w t beside readers e h f small = subst (λ (z : PassView). t < length (complete_levels z.forest)) e (is_complete v t h beside readers (found_at v w t beside readers e f) small)

pub lives_at : (v w : PassView) (t : ℕ) (beside readers others nodes : List ℕ) → v ≡ w → nodes ≡ others → IsPass v → HasFound w t beside readers → IsOthers w t others
    → (k : ℕ) → In k (v.front.changes.changed ++ nodes) → IsLive v.forest k
lives_at v w t beside readers others nodes e same h f o k i = row_lives v t h k (lost_row v t h beside readers (found_at v w t beside readers e f) nodes (others_at v w t others nodes e same o) k i)

module _ (v w : PassView) (t : ℕ) (h : IsPass v) (beside readers others : List ℕ) (s : System) (nodes : List ℕ) (g : Grove Kept) (d : Differences) (dropped : List ℕ)
    (x : IsLost v w t beside readers others s nodes g d dropped) where
  f : HasFound v t beside readers
  f = found_at v w t beside readers x.is x.found

  o : IsOthers v t others
  o = others_at v w t others others x.is refl x.others_are

  l : LosesAt v t others g d.bare dropped
  l = record {
    loses =
        subst (λ (y : System). Loses y t (P.now_in v) (now_of g) (v.front.changes.changed ++ others) v.front.bare d.bare v.dropped dropped) x.system
        (subst (λ (ns : List ℕ). Loses s t (P.now_in v) (now_of g) (v.front.changes.changed ++ ns) v.front.bare d.bare v.dropped dropped) x.nodes_are x.loses);
    only = x.only;
    sound = x.sound;
  }

  -- what is told of the level is as it was, but for those that lost their answers
  but_bare : d ≡ record v.front { bare = d.bare }
  but_bare = λ i. record { changes = x.changes i; turned = x.turned i; bare = d.bare }

  module _ (these : List ℕ) (same_nodes : these ≡ others) where
    may_same : (k : ℕ) → MayBeAsked d beside readers these k → MayBeAsked v.front beside readers others k
    may_same k m = subst (λ (y : Differences). MayBeAsked y beside readers others k) but_bare (subst (λ (ns : List ℕ). MayBeAsked d beside readers ns k) same_nodes m)

    may_too : (k : ℕ) → MayBeAsked v.front beside readers others k → MayBeAsked d beside readers these k
    may_too k m = subst (λ (ns : List ℕ). MayBeAsked d beside readers ns k) (sym same_nodes) (subst (λ (y : Differences). MayBeAsked y beside readers others k) (sym but_bare) m)

    pub together_at : t < 2 ^ 32 → StandTogether g (MayBeAsked d beside readers these)
    together_at small =
        let a = together v t h beside readers f others o g d.bare dropped l small in
        record { level = a.level; lives = λ k m. a.lives k (may_same k m); spots = λ k m. a.spots k (may_same k m); levels = λ k m. a.levels k (may_same k m) }

    pub seats_at : (k : ℕ) → MayBeAsked d beside readers these k → HasSeat v.seats k
    seats_at k m = seats_there v t h beside readers f others o g d.bare dropped l k (may_same k m)

    module _ (seats : List Seat) (same : SameSeats v.seats seats) (keeps : KeepsSeats v.seats seats) (pending : List ℕ) where
      pub rows_at : (u : ℕ) → row_of (after v g d dropped seats pending) u ≡ row_of w u
      rows_at u = nodes_same v t h beside readers f others o g d.bare dropped l u ∙ ap (λ (z : PassView). row_of z u) x.is

      pub goes_at : Goes (stage_of w) (stage_of (after v g d dropped seats pending)) t
      goes_at = subst (λ (z : PassView). Goes (stage_of z) (stage_of (after v g d dropped seats pending)) t) x.is (goes v t h beside readers f others o g d.bare dropped l seats same keeps pending)

      pub asked_at : (asked : List ℕ) → pending ≡ asked → ((k : ℕ) → In k asked ↔ (AsksOn s t (now_of g) k × MayBeAsked d beside readers these k)) → AreApart asked → AreInOrder g asked
          → t < w.next.depth → t < 2 ^ 32 → IsReadyToAsk (after v g d dropped seats pending) t
      asked_at asked filled are once order below small =
          subst (λ (ps : List ℕ). IsReadyToAsk (after v g d dropped seats ps) t) (sym filled)
          (subst (λ (y : Differences). IsReadyToAsk (after v g y dropped seats asked) t) (sym but_bare)
          (is_to_ask v t h beside readers f others o g d.bare dropped l asked these_are once (in_row v t h beside readers f others o g d.bare dropped l asked these_are order) seats same keeps (subst (λ (z : PassView). t < z.next.depth) (sym x.is) below) small))
        where
          these_are : (k : ℕ) → In k asked ↔ (AsksOn v.next t (now_of g) k × MayBeAsked v.front beside readers others k)
          these_are k = (
            λ i. (let u = (are k).0 i in (subst (λ (y : System). AsksOn y t (now_of g) k) x.system u.0, may_same k u.1)),
            λ u. (are k).1 (subst (λ (y : System). AsksOn y t (now_of g) k) (sym x.system) u.0, may_too k u.1),
          )

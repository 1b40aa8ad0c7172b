-- A level whose nodes that turned were found.
use Rattle.std.proofs.Common.{◌≡◌, ◌⊎◌, ◌+◌, ◌<◌, ◌≤◌, ◌^◌, ℕ, true, false, List, [], ◌++◌, length, slice_get, Option, Some, None, Ok, Err, refl, sym, ap, ◌∙◌, subst, inl, inr, arith}
use Rattle.std.specs.Prelude.{Result, IfOk, OnOk, is_some, option_map}
use Rattle.std.proofs.lemmas.Bool.{cases_lt}
use Rattle.std.proofs.lemmas.Option.{same_Some}
use Rattle.lsys_spec.specs.Rows.{In, AreApart}
use Rattle.lsys_laws.specs.Nodes.{Kin}
use Rattle.lsys_match.specs.Kept.{Kept}
use Rattle.lsys_forest.specs.Nodes.{Nodes}
use Rattle.lsys_forest.specs.Groves.{IsLive, changes_in}
use Rattle.lsys_forest.specs.Rows.{level_nodes}
use Rattle.lsys_forest.proofs.RowLemmas.{In_append, In_left, In_right, apart_append, level_depth}
use Rattle.lsys_forest.proofs.SoundLemmas.{some_of}
use Rattle.lsys_reads.specs.Lineages.{kin_of, kins}
use Rattle.lsys_reads.specs.Levels.{answer_at}
use Rattle.lsys_reads.specs.declared.seat.Seat.{Seat}
use Rattle.lsys_reads.specs.Neighbours.{neighbours_on}
use Rattle.lsys_reads.specs.Seats.{neighbours_at, HasSeat, SameSeats, KeepsSeats}
use Rattle.lsys_reads.proofs.LevelLemmas.{got_in}
use Rattle.lsys_front.proofs.TurnedLemmas.{told_in}
use Rattle.lsys_front.specs.Repairs.{are}
use Rattle.lsys_front.specs.Found.{AreOnLevels, HasSeatsForFound, IsFound}
use Rattle.lsys_front.proofs.Spots.{is_in, sound_old, sound_new}
use Rattle.lsys_front.specs.Fronts.{Differences, IsLevelFront}
use Rattle.lsys_front.specs.Ends.{answered_in}
use Rattle.lsys_front.proofs.Rooms.{was_live, is_live, seat_room, on_levels}
use Rattle.lsys_front.proofs.RowsBelow.{answered_are, answered_apart}
use Rattle.lsys_front.proofs.FoundFronts.{found_front}
use Rattle.lsys_pass.specs.declared.state.PassState.TheVariants.{Failed}
use Rattle.lsys_pass.specs.declared.work.Work.{Work}
use Rattle.lsys_pass.specs.Stages.{Rests}
use Rattle.lsys_pass.specs.Passes.{PassView, stage_of, repair_of, now_in, rest_in, HoldsAt, IsPass}
use Rattle.lsys_pass.specs.Fresh.{Goes, HasListsBefore, AreDroppedBefore, IsMadeTo, WasLookedAt, WasJustMade, HasFound}
use Rattle.lsys_pass.proofs.Finishing.{rest_seats}

-- 1. depths

-- the node lives, on a level so deep
abbrev IsDeep : Nodes Kept → ℕ → ℕ → Type 0
IsDeep m k u = (y : Kin) × (kins m k ≡ Some y) × (y.depth ≡ u + 1)

one_depth : (m : Nodes Kept) (k u w : ℕ) → IsDeep m k u → IsDeep m k w → u ≡ w
one_depth m k u w a b =
    let same : a.0.depth ≡ b.0.depth = ap (λ (y : Kin). y.depth) (same_Some a.0 b.0 (sym a.1 ∙ b.1)) in
    let one = a.2 in
    let two = b.2 in
    omega (arith, same, one, two)

module _ (v : PassView) (t : ℕ) (h : IsPass v) (failed : v.state ≡ Failed) (x : WasJustMade v t) where
  rests : Rests (stage_of v)
  rests = subst (HoldsAt (stage_of v)) failed h.holds

  -- 2. what is asked for to find nodes

  has_seat : (k : ℕ) → IsLive v.forest k → HasSeat v.seats k
  has_seat k live = let n = some_of (now_in v k) live in x.made.room k n.0 n.1

  pub room_there : HasSeatsForFound v.forest v.reads v.front.changes v.seats
  room_there = seat_room (repair_of v t) v.seats v.reads v.front.changes x.made.spots x.differs x.looks.looked_are (rests.read refl) has_seat

  pub levels_there : t < 2 ^ 32 → AreOnLevels v.forest v.front.changes
  levels_there small = on_levels (repair_of v t) v.front.changes small x.made.spots x.differs x.looks.looked_are

  pub gone_lives : (k : ℕ) → In k v.front.changes.gone → IsLive v.forest k
  gone_lives k i = was_live (repair_of v t) x.made.spots k ((x.differs.gone k).0 i).0

  -- 3. nodes that were dropped

  deep_now : (k u : ℕ) → In k (level_nodes (now_in v) v.forest.root u) → IsDeep (now_in v) k u
  deep_now k u i =
      let d = level_depth v.forest.root (changes_in v.forest) (now_in v) (sound_new (repair_of v t) x.made.spots) u k i in
      (kin_of d.0, ap (option_map kin_of) d.1, d.2)

  deep_was : (k u : ℕ) → In k (level_nodes (rest_in v) v.forest.root u) → IsDeep (now_in v) k u
  deep_was k u i =
      let d = level_depth v.forest.root [] (rest_in v) (sound_old (repair_of v t) x.made.spots) u k i in
      (kin_of d.0, x.made.spots.stay k (kin_of d.0) (ap (option_map kin_of) d.1), d.2)

  -- those that are gone and keep an answer
  abbrev more : List ℕ
  more = answered_in (now_in v) v.front.changes.gone

  gone_deep : (k : ℕ) → In k v.front.changes.gone → IsDeep (now_in v) k t
  gone_deep k i = deep_was k t ((x.differs.gone k).0 i).0

  more_gone : (k : ℕ) → In k more → In k v.front.changes.gone
  more_gone k i = ((answered_are (now_in v) v.front.changes.gone k).0 i).0

  more_had : (k : ℕ) → In k more → answer_at (rest_in v) k ≡ None → ⊥
  more_had k i none =
      let kept : is_some (answer_at (now_in v) k) ≡ true = ((answered_are (now_in v) v.front.changes.gone k).0 i).1 in
      let lost : is_some (answer_at (now_in v) k) ≡ false = ap (λ (o : Option Kept). is_some o) (x.gone_keep k (more_gone k i) ∙ none) in
      cc

  more_lost : (k : ℕ) (a : Kept) → In k v.front.changes.gone → answer_at (rest_in v) k ≡ Some a → In k more
  more_lost k a i e = (answered_are (now_in v) v.front.changes.gone k).1 (i, ap (λ (o : Option Kept). is_some o) (x.gone_keep k i ∙ e))

  -- one that was dropped before stood higher up
  not_dropped : (k u : ℕ) → t ≤ u → In k v.dropped → IsDeep (now_in v) k u → ⊥
  not_dropped k u l i d =
      let w = x.dropped k i in
      let less = w.1 in
      let same = one_depth (now_in v) k w.0 u (deep_was k w.0 w.2) d in
      omega (arith, l, less, same)

  dropped_apart : AreApart (v.dropped ++ more)
  dropped_apart =
      apart_append v.dropped more x.lists.dropped_apart (answered_apart (now_in v) v.front.changes.gone x.gone_once)
      (λ k i j. not_dropped k t (omega arith) i (gone_deep k (more_gone k j)))

  dropped_had : (k : ℕ) → In k (v.dropped ++ more) → answer_at (rest_in v) k ≡ None → ⊥
  dropped_had k i none = elim (In_append v.dropped more k i) [
    | inl old ↦ x.lists.dropped_had k old none
    | inr new ↦ more_had k new none
  ]

  dropped_none : (k u : ℕ) → In k (v.dropped ++ more) → u < t + 1 → In k (level_nodes (now_in v) v.forest.root u) → answer_at (now_in v) k ≡ None
  dropped_none k u i l on = elim (In_append v.dropped more k i) [
    | inl old ↦ elim (cases_lt u t) [
      | inl less ↦ x.lists.dropped_none k u old less on
      | inr ge ↦ absurd (not_dropped k u ge old (deep_now k u on))
    ]
    | inr new ↦
        let g = more_gone k new in
        let same : u ≡ t = one_depth (now_in v) k u t (deep_now k u on) (gone_deep k g) in
        absurd (((x.differs.gone k).0 g).1 (subst (λ w. In k (level_nodes (now_in v) v.forest.root w)) same on))
  ]

  lost_here : (k : ℕ) (a : Kept) → answer_at (rest_in v) k ≡ Some a → In k (level_nodes (rest_in v) v.forest.root t) → In k (v.dropped ++ more) ⊎ In k (level_nodes (now_in v) v.forest.root t)
  lost_here k a e on = elim (is_in k (level_nodes (now_in v) v.forest.root t)) [
    | inl i ↦ inr i
    | inr away ↦ inl (In_right k v.dropped more (more_lost k a ((x.differs.gone k).1 (on, away)) e))
  ]

  lost : (k u : ℕ) (a : Kept) → u < t + 1 → answer_at (rest_in v) k ≡ Some a → In k (level_nodes (rest_in v) v.forest.root u) → In k (v.dropped ++ more) ⊎ In k (level_nodes (now_in v) v.forest.root u)
  lost k u a l e on = elim (cases_lt u t) [
    | inl less ↦ elim (x.lists.lost k u a less e on) [ inl i ↦ inl (In_left k v.dropped more i) | inr i ↦ inr i ]
    | inr ge ↦
        let same : u ≡ t = omega (arith, l, ge) in
        subst (λ w. In k (v.dropped ++ more) ⊎ In k (level_nodes (now_in v) v.forest.root w)) (sym same) (lost_here k a e (subst (λ w. In k (level_nodes (rest_in v) v.forest.root w)) same on))
  ]

  -- 4. nodes that moved

  module _ (seats' : List Seat) (turned beside readers : List ℕ) (same : SameSeats v.seats seats') (keeps : KeepsSeats v.seats seats') (f : IsFound v.forest v.seats v.reads v.front.changes turned beside readers) where
    found : IsFound v.forest seats' v.reads v.front.changes turned beside readers
    found = record {
      turned_are = λ k. (
        λ i. let w = (f.turned_are k).0 i in (record { looked_at = w.0.looked_at; turned = λ e. w.0.turned (e ∙ same k) }, w.1),
        λ w. (f.turned_are k).1 (record { looked_at = w.0.looked_at; turned = λ e. w.0.turned (e ∙ sym (same k)) }, w.1),
      );
      beside_are = f.beside_are;
      readers_are = f.readers_are;
      turned_once = f.turned_once;
      beside_once = f.beside_once;
      readers_once = f.readers_once;
    }

    looks : WasLookedAt (record v { seats = seats' }) t
    looks = record {
      looked = λ k i j. elim (x.looks.looked k i j) [ inl l ↦ inl l | inr e ↦ inr (e ∙ sym (same k)) ];
      looked_are = x.looks.looked_are;
    }

    -- what differs, with those that turned
    abbrev differs : Differences
    differs = record { changes = v.front.changes; turned = turned; bare = v.front.bare }

    bare_front : IsLevelFront (repair_of v t) seats' (record { changes = v.front.changes; turned = turned; bare = [] })
    bare_front =
        found_front (repair_of v t) seats' v.reads v.front.changes turned beside readers x.made.spots x.differs x.gone_once
        (λ p k e. same k ∙ rests.seated t p k e) looks.looked x.looks.looked_are x.made.answers found

    front : IsLevelFront (repair_of v t) seats' differs
    front = subst (λ (b : List ℕ). IsLevelFront (repair_of v t) seats' (record { changes = v.front.changes; turned = turned; bare = b })) (sym x.bare) bare_front

    abbrev moves : List ℕ
    moves = v.front.changes.came ++ turned

    seated_here : (p k : ℕ) → slice_get (level_nodes (now_in v) v.forest.root t) p ≡ Some k
        → In k moves ⊎ (neighbours_at seats' k ≡ neighbours_on (now_in v) (level_nodes (now_in v) v.forest.root t) p)
    seated_here p k e = elim (is_in k moves) [
      | inl i ↦ inl i
      | inr away ↦
          let on = got_in (level_nodes (now_in v) v.forest.root t) p k e in
          let there = front.turned.same k on away in
          inr (sym there ∙ told_in v.forest (sound_new (repair_of v t) x.made.spots) t p k e)
    ]

    seated : (u p k : ℕ) → u < t + 1 → slice_get (level_nodes (now_in v) v.forest.root u) p ≡ Some k
        → In k (v.moved ++ moves) ⊎ (neighbours_at seats' k ≡ neighbours_on (now_in v) (level_nodes (now_in v) v.forest.root u) p)
    seated u p k l e = elim (cases_lt u t) [
      | inl less ↦ elim (x.lists.seated u p k less e) [ inl i ↦ inl (In_left k v.moved moves i) | inr n ↦ inr (same k ∙ n) ]
      | inr ge ↦
          let is : u ≡ t = omega (arith, l, ge) in
          let here = seated_here p k (ap (λ w. slice_get (level_nodes (now_in v) v.forest.root w) p) (sym is) ∙ e) in
          elim here [
            | inl i ↦ inl (In_right k v.moved moves i)
            | inr n ↦ inr (n ∙ ap (λ w. neighbours_on (now_in v) (level_nodes (now_in v) v.forest.root w) p) (sym is))
          ]
    ]

    moves_are : (k : ℕ) → In k moves → In k (are (repair_of v t))
    moves_are k i = elim (In_append v.front.changes.came turned k i) [
      | inl c ↦ ((x.differs.came k).0 c).0
      | inr c ↦ front.turned_are k c
    ]

    moved_are : (k : ℕ) → In k (v.moved ++ moves) → (u : ℕ) × (u < t + 1) × In k (level_nodes (now_in v) v.forest.root u)
    moved_are k i = elim (In_append v.moved moves k i) [
      | inl old ↦ let w = x.lists.moved_are k old in (w.0, (let l = w.1 in omega (arith, l)), w.2)
      | inr new ↦ (t, omega arith, moves_are k new)
    ]

    room : (k : ℕ) → In k (v.moved ++ moves) → HasSeat seats' k
    room k i = elim (In_append v.moved moves k i) [
      | inl old ↦ keeps k (x.lists.room k old)
      | inr new ↦ keeps k (has_seat k (is_live (repair_of v t) x.made.spots k (moves_are k new)))
    ]

    -- 5. all together

    abbrev after : PassView
    after = record v { seats = seats'; dropped = v.dropped ++ more; moved = v.moved ++ moves; front = differs; first_renewed = length v.renewed }

    lists : HasListsBefore (stage_of after) (t + 1)
    lists = record {
      fresh = x.lists.fresh;
      dropped_apart = dropped_apart;
      dropped_had = dropped_had;
      dropped_none = dropped_none;
      lost = lost;
      seated = seated;
      moved_are = moved_are;
      room = room;
    }

    dropped_before : AreDroppedBefore (stage_of after) (t + 1)
    dropped_before k i = elim (In_append v.dropped more k i) [
      | inl old ↦ let w = x.dropped k old in (w.0, (let l = w.1 in omega (arith, l)), w.2)
      | inr new ↦ (t, omega arith, ((x.differs.gone k).0 (more_gone k new)).0)
    ]

    made : IsMadeTo after t
    made = record {
      spots = x.made.spots;
      within = x.made.within;
      deeper = x.made.deeper;
      counts = x.made.counts;
      answers = x.made.answers;
      renewed_are = x.made.renewed_are;
      faults = x.made.faults;
      pending = x.made.pending;
      room = λ k n e. keeps k (x.made.room k n e);
    }

    has_found : HasFound after t beside readers
    has_found = record {
      rest = rest_seats v.system v.limit (rest_in v) v.forest.root v.store v.reads v.seats seats' same rests;
      made = made;
      lists = lists;
      dropped = dropped_before;
      looks = record { looked = looks.looked; looked_are = looks.looked_are };
      front = front;
      found = found;
      first = refl;
    }

-- 6. as it is told

-- a pass with other seats, and other lists that it works on
abbrev pub with_work : PassView → List Seat → Work → PassView
with_work v seats work = record v {
  seats = seats;
  pending = work.pending;
  faults = work.faults.items;
  renewed = work.renewed.items;
  born = work.born;
  first_renewed = work.first_renewed;
  dropped = work.dropped.items;
  moved = work.moved.items;
  front = work.front;
}

-- the lists that stay, whether memory was wanted or not
pub record KeepsLists (v : PassView) (work : Work) : Type 0 where
  pub pending : work.pending ≡ v.pending
  pub faults : work.faults.items ≡ v.faults
  pub renewed : work.renewed.items ≡ v.renewed
  pub born : work.born ≡ v.born
  pub changes : work.front.changes ≡ v.front.changes
  pub bare : work.front.bare ≡ v.front.bare

-- and what becomes of the others
pub record Turns (v : PassView) (work : Work) : Type 0 where
  pub dropped : work.dropped.items ≡ v.dropped ++ answered_in (now_in v) v.front.changes.gone
  pub moved : work.moved.items ≡ v.moved ++ (v.front.changes.came ++ work.front.turned)
  pub first : work.first_renewed ≡ length v.renewed

module _ (v w : PassView) (seats : List Seat) (work : Work) (view : v ≡ w) (l : KeepsLists v work) (same : SameSeats v.seats seats) (e : Turns v work) where
  -- after all nodes were found
  told : record v {
    seats = seats;
    dropped = v.dropped ++ answered_in (now_in v) v.front.changes.gone;
    moved = v.moved ++ (v.front.changes.came ++ work.front.turned);
    front = record { changes = v.front.changes; turned = work.front.turned; bare = v.front.bare };
    first_renewed = length v.renewed;
  } ≡ with_work v seats work
  told = λ i. record v {
    seats = seats;
    pending = sym l.pending i;
    faults = sym l.faults i;
    renewed = sym l.renewed i;
    born = sym l.born i;
    first_renewed = sym e.first i;
    dropped = sym e.dropped i;
    moved = sym e.moved i;
    front = record { changes = sym l.changes i; turned = work.front.turned; bare = sym l.bare i };
  }

  pub turned_found : (beside readers : List ℕ) → IsPass v → v.state ≡ Failed → KeepsSeats v.seats seats
      → IsFound v.forest v.seats v.reads v.front.changes work.front.turned beside readers
      → (t : ℕ) → WasJustMade w t → HasFound (with_work v seats work) t beside readers
  turned_found beside readers h failed keeps f t fresh =
      let x : WasJustMade v t = subst (λ (z : PassView). WasJustMade z t) (sym view) fresh in
      subst (λ (z : PassView). HasFound z t beside readers) told (has_found v t h failed x seats work.front.turned beside readers same keeps f)

  -- only seats and lists change
  pub turned_goes : (t : ℕ) → Goes (stage_of w) (stage_of (with_work v seats work)) t
  turned_goes t =
      subst (λ (z : PassView). Goes (stage_of z) (stage_of (with_work v seats work)) t) view (record {
        next = refl;
        run = record {
          system = refl;
          limit = refl;
          root = refl;
          was = refl;
          store = refl;
          reads = refl;
          listed = refl;
          renewed = l.renewed;
          born = l.born;
          same_seats = same;
        };
        above = record {
          nodes = λ u l. refl;
          spots = λ u l. refl;
          names = λ k n s. s;
          kept = λ u k l i. refl;
          same = λ k a s. s;
          gone = λ k a s. inr s;
        };
        more = λ k i. subst (In k) (sym e.dropped) (In_left k v.dropped (answered_in (now_in v) v.front.changes.gone) i);
      })

-- all that is said of a value that came
pub if_all : {X E : Type 0} (o : Result X E) (A : Type 0) (P Q : X → Type 0) → OnOk o A → IfOk o P → (A → (y : X) → P y → Q y) → IfOk o Q
if_all (Ok y) A P Q a p g = g a y p
if_all (Err e) A P Q a p g = p

pub on_all : {X E : Type 0} (o : Result X E) (A B C D : Type 0) → OnOk o A → OnOk o B → OnOk o C → (A → B → C → D) → OnOk o D
on_all (Ok y) A B C D a b c g = g a b c
on_all (Err e) A B C D a b c g = a

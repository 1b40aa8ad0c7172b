-- The first level of another system, made from a pass at rest.
use Rattle.std.proofs.Common.{◌≡◌, ◌+◌, ◌<◌, ◌≤◌, ◌^◌, ◌++◌, ◌∷◌, [], ℕ, ℤ, List, Option, Some, Ok, map, length, refl, sym, ap, ◌∙◌, subst, inl, inr, arith}
use Rattle.std.specs.Prelude.{IsSome}
use Rattle.std.proofs.lemmas.List.{length-map}
use Rattle.lsys_spec.specs.Rows.{In, AreApart}
use Rattle.lsys_syntax.specs.Commands.{Numbering}
use Rattle.lsys_syntax.specs.Strings as S
use Rattle.lsys_spec.specs.Systems.{System, WellSpelled}
use Rattle.lsys_spec.specs.Cuts.{cut}
use Rattle.lsys_spec.specs.Meaning.{children, meaning_to}
use Rattle.lsys_laws.specs.Nodes.{AreOnce}
use Rattle.lsys_match.specs.Kept.{Kept}
use Rattle.lsys_forest.specs.Nodes.{Nodes}
use Rattle.lsys_forest.specs.Changes.{Change, undone}
use Rattle.lsys_forest.specs.Answers.{AnswerKeeper, IsHeld}
use Rattle.lsys_reads.specs.Names.{run_in, holds}
use Rattle.lsys_forest.specs.Groves.{Grove, AreSound, IsRooted, IsLive, now_of, rest_of, changes_in, live_nodes, kept_in}
use Rattle.lsys_forest.specs.Rows.{kids_in, level_nodes}
use Rattle.lsys_forest.proofs.SoundLemmas.{AreSound-now}
use Rattle.lsys_reads.specs.Lineages.{kins}
use Rattle.lsys_reads.specs.Levels.{HaveLevels, answer_at}
use Rattle.lsys_reads.specs.Meant.{meant_to}
use Rattle.lsys_reads.specs.declared.seat.Seat.{Seat}
use Rattle.lsys_reads.specs.Seats.{HasSeat, SameSeats, SameMarks, KeepsSeats}
use Rattle.lsys_front.specs.Repairs.{SteppingSpots}
use Rattle.lsys_children.specs.Matches.{nodes_without}
use Rattle.lsys_children.specs.declared.need.Need.{Need}
use Rattle.lsys_children.specs.Children.{ToldNodes, HasRoomFor, SpendsNeed}
use Rattle.lsys_children.specs.Nexts.{Successors, HasWanted, node_symbol, wanted_count}
use Rattle.lsys_children.specs.Renewals.{AreSmall, AreAllUnder, AreRenewals, KeepsDeeper}
use Rattle.lsys_children.proofs.Finishing.{answers_stay}
use Rattle.lsys_children.proofs.Firsts.{name_root}
use Rattle.lsys_children.specs.Needs.{number_told, wanted_symbols, need_for}
use Rattle.lsys_children.specs.Made.{TellsAllOf}
use Rattle.lsys_front.specs.Fronts.{Differences, nothing, IsFirst, IsToldFirst}
use Rattle.lsys_front.proofs.Differing.{first_differs, first_gone_each}
use Rattle.lsys_pass.specs.declared.sizes.Size.{Size}
use Rattle.lsys_pass.specs.declared.state.PassState.TheVariants.{Rest, Failed}
use Rattle.lsys_pass.specs.Rests.{IsResting}
use Rattle.lsys_pass.specs.Advances.{KeepsRest}
use Rattle.lsys_pass.specs.Passes.{PassView, stage_of, now_in, HoldsAt, IsStill, repair_of, IsPass}
use Rattle.lsys_pass.specs.Passes as P
use Rattle.lsys_pass.specs.Fresh.{Goes, HasListsBefore, IsMadeTo, WasJustMade, Origin, at_first}
use Rattle.lsys_pass.specs.Beginnings.{MakesFirst, WasStill}
use Rattle.lsys_pass.proofs.Failing.{still_failed}
use Rattle.lsys_pass.proofs.Making.{first_is, first_have, first_deeper}

-- 1. the children of the root

-- what they are made of: the numbering, the seed and the axiom of a system, and the nodes with their root
pub record Source : Type 0 where
  pub numbering : Numbering
  pub seed : ℕ
  pub wanted : List (S.Symbol ℤ)
  pub old : Nodes Kept
  pub root : ℕ

-- room for what they take, as other nodes tell it that are the same
pub room_same : (g : Numbering) (zs : List (S.Symbol ℤ)) (m m' : Nodes Kept) (root root' : ℕ) (f : Grove Kept) (told : ToldNodes) (need : Need) → m' ≡ m → root' ≡ root → need ≡ need_for g m (kids_in (m root)) zs
    → HasRoomFor f told need → HasRoomFor f told (need_for g m' (kids_in (m' root')) zs)
room_same g zs m m' root root' f told need same top is h =
    subst (λ (n : Need). HasRoomFor f told n) (is ∙ (λ i. need_for g (sym same i) (kids_in (sym same i (sym top i))) zs)) h

-- of the nodes that came to live there were few enough
pub few_live : (g : Numbering) (zs : List (S.Symbol ℤ)) (m m' : Nodes Kept) (root root' : ℕ) (old new : Grove Kept) (need : Need) → m' ≡ m → root' ≡ root → need ≡ need_for g m (kids_in (m root)) zs
    → SpendsNeed old new (need_for g m' (kids_in (m' root')) zs) → live_nodes old + need.nodes < 2 ^ 32 → live_nodes new < 2 ^ 32
few_live g zs m m' root root' old new need same top is h few =
    let nodes : need.nodes ≡ (need_for g m' (kids_in (m' root')) zs).nodes = ap (λ (n : Need). n.nodes) (is ∙ (λ i. need_for g (sym same i) (kids_in (sym same i (sym top i))) zs)) in
    let live = h.live in
    omega (arith, nodes, live, few)

-- they were made, and it was told what differs, after what was told before
pub record IsMadeOf (x : Source) (limit : ℕ) (m : Nodes Kept) (before told : ToldNodes) : Type 0 where
  pub children : AreRenewals x.numbering x.seed x.old m x.root 0 (λ k. x.wanted) (x.root ∷ [])
  pub tells : TellsAllOf x.old m (x.root ∷ []) before told
  pub gone : told.gone ≡ before.gone ++ nodes_without x.old (map number_told (wanted_symbols x.numbering x.wanted)) (kids_in (x.old x.root))
  pub within : wanted_count x.numbering x.wanted ≤ limit

-- the axiom of a system
abbrev pub axiom_of : System → Nodes Kept → ℕ → Source
axiom_of s o root = record { numbering = s.numbering; seed = s.seed; wanted = s.axiom_string; old = o; root = root }

pub makes_first : (s : System) (limit : ℕ) (o m : Nodes Kept) (root : ℕ) (x : Source) (before told : ToldNodes) (room : ℕ) → x ≡ axiom_of s o root → before ≡ record nothing { room = room } → IsMadeOf x limit m before told → WellSpelled s
    → MakesFirst s limit o m root told
makes_first s limit o m root x before told room e f h spelled =
    let y = subst (λ (z : Source). IsMadeOf z limit m before told) e h in
    let t = subst (λ (b : ToldNodes). TellsAllOf o m (root ∷ []) b told) f y.tells in
    record {
      spelled = spelled;
      children = y.children;
      tells = record { touched = t.touched; changed = t.changed; added = t.added };
      gone = y.gone ∙ ap (λ (b : ToldNodes). b.gone ++ nodes_without o (map number_told (wanted_symbols s.numbering s.axiom_string)) (kids_in (o root))) f;
      within = y.within;
    }

-- 2. the last rest

module _ (v : PassView) (h : WasStill v) where
  pub still : IsStill (record (stage_of v) { next = v.system })
  still = h.pass.holds

  pub was_now : P.rest_in v ≡ now_in v
  was_now = ap (λ (cs : List (Change Kept)). undone cs (now_in v)) still.changes

  rests_now : IsResting v.listed v.system v.limit (now_in v) v.forest.root v.store v.reads v.seats
  rests_now = subst (λ (m : Nodes Kept). IsResting v.listed v.system v.limit m v.forest.root v.store v.reads v.seats) was_now still.rest

  sound_rest : IsRooted v.forest.root [] (now_in v)
  sound_rest = subst (λ (cs : List (Change Kept)). IsRooted v.forest.root cs (now_in v)) still.changes (AreSound-now v.forest.root (changes_in v.forest) (now_in v) h.pass.stored.sound)

  pub was_once : AreOnce (kins (now_in v)) v.forest.root
  was_once = rests_now.once

  pub was_small : AreSmall (now_in v)
  was_small = rests_now.counts

  pub was_under : AreAllUnder (now_in v) v.forest.root v.forest.root
  was_under k n e other under =
      let b = sound_rest.held k n e other in
      let same : now_in v v.forest.root ≡ Some b.parent = ap (now_in v) (sym under) ∙ b.is in
      subst (λ o. In k (kids_in o)) (sym same) (elim b.linked [ inl i ↦ i | inr never ↦ absurd never ])

-- 3. the pass that failed

-- of a forest that changed, what is kept of it
pub record KeepsForest (old new : Grove Kept) : Type 0 where
  pub sound : AreSound new.root (changes_in new) (now_of new)
  pub rest : rest_of new ≡ rest_of old
  pub root : new.root ≡ old.root
  pub kept : kept_in new ≡ kept_in old
  pub few : live_nodes new < 2 ^ 32

-- and of seats
pub record KeepsAllSeats (old new : List Seat) : Type 0 where
  pub same : SameSeats old new
  pub marks : SameMarks old new
  pub keeps : KeepsSeats old new

module _ (v : PassView) (f : Grove Kept) (seats : List Seat) (sizes made : List Size) (d : Differences) (b : KeepsForest v.forest f) (s : KeepsAllSeats v.seats seats) where
  abbrev v' : PassView
  v' = record v { forest = f; seats = seats; sizes = sizes; made = made; front = d }

  run : KeepsRest (stage_of v) (stage_of v')
  run = record {
    system = refl;
    limit = refl;
    root = b.root;
    was = b.rest;
    store = refl;
    reads = refl;
    listed = refl;
    renewed = refl;
    born = refl;
    same_seats = s.same;
  }

  pub failed_still : IsPass v → v.state ≡ Failed → sizes ≡ v.sizes → IsPass v'
  failed_still h state same = still_failed v v' h (record {
    was_failed = state;
    failed = state;
    stored = record {
      sound = b.sound;
      made = λ k a e. h.stored.made k a (ap (λ (q : AnswerKeeper → Option Kept). q k) (sym b.kept) ∙ e);
      once = λ i j a c r e g held other. h.stored.once i j a c r (ap (λ (q : AnswerKeeper → Option Kept). q i) (sym b.kept) ∙ e) (ap (λ (q : AnswerKeeper → Option Kept). q j) (sym b.kept) ∙ g) held other;
      freed = λ r not. h.stored.freed r (subst (λ (q : AnswerKeeper → Option Kept). IsHeld run_in holds q r → ⊥) b.kept not);
    };
    few = b.few;
    unmarked = λ k. s.marks k ∙ h.unmarked k;
    answers = refl;
    sizes = same;
    run = run;
    seats = s.keeps;
  })

  -- 4. the first level

  module _ (told : ToldNodes) (x : MakesFirst v.next v.limit (now_in v) (now_in v') v.forest.root told) where
    same_now : (k : ℕ) → answer_at (now_in v') k ≡ answer_at (now_in v) k
    same_now k = answers_stay v.next.numbering v.next.seed (now_in v) (now_in v') v.forest.root 0 (λ i. v.next.axiom_string) (v.forest.root ∷ []) x.children k

    goes : Goes (stage_of v) (stage_of v') 0
    goes = record {
      next = refl;
      run = run;
      above = record {
        nodes = λ u less. absurd (omega (arith, less));
        spots = λ u less. absurd (omega (arith, less));
        names = x.children.stay;
        kept = λ u k less i. absurd (omega (arith, less));
        same = λ k a e. sym (same_now k) ∙ e;
        gone = λ k a e. inr (same_now k ∙ e);
      };
      more = λ k i. i;
    }

    -- the last rest stays, as another view of the pass tells it
    pub first_goes : (w : PassView) → v ≡ w → Goes (stage_of w) (stage_of v') 0
    first_goes w e = subst (λ (z : PassView). Goes (stage_of z) (stage_of v') 0) e goes

  module _ (h : WasStill v) (told : ToldNodes) (x : MakesFirst v.next v.limit (now_in v) (now_in v') v.forest.root told) (seated : (k : ℕ) → IsLive f k → HasSeat seats k)
      (changes : IsToldFirst told d.changes) (looked : d.changes.looked ≡ level_nodes (now_in v') f.root 0) (bare : d.bare ≡ []) where
    abbrev o : Nodes Kept
    o = P.rest_in v'

    -- what replaces the root
    abbrev by : Successors
    by = λ k. v.next.axiom_string

    -- the same, as the new forest tells the last rest
    y : MakesFirst v.next v.limit o (now_in v') f.root told
    y =
        subst (λ (m : Nodes Kept). MakesFirst v.next v.limit m (now_in v') f.root told) (sym (b.rest ∙ was_now v h))
        (subst (λ r. MakesFirst v.next v.limit (now_in v) (now_in v') r told) (sym b.root) x)

    rests : IsResting v.listed v.system v.limit o f.root v.store v.reads v.seats
    rests =
        subst (λ r. IsResting v.listed v.system v.limit o r v.store v.reads v.seats) (sym b.root)
        (subst (λ (m : Nodes Kept). IsResting v.listed v.system v.limit m v.forest.root v.store v.reads v.seats) (sym b.rest) (still v h).rest)

    wanted : HasWanted v.next.numbering v.next.seed (now_in v') f.root v.next.axiom_string
    wanted = y.children.wanted f.root (inl refl)

    long : length (level_nodes (now_in v') f.root 0) ≡ wanted_count v.next.numbering v.next.axiom_string
    long =
        sym (length-map (level_nodes (now_in v') f.root 0) (node_symbol (now_in v'))) ∙ ap length wanted.symbols
        ∙ ap (λ l. length (cut (children v.next.numbering l v.next.axiom_string))) (name_root (now_in v') f.root y.children.once)

    within : length (level_nodes (now_in v') f.root 0) ≤ v.limit
    within = let e = long in let w = y.within in omega (arith, e, w)

    new_is : meaning_to v.next v.limit 0 ≡ Ok (meant_to v.next v.limit 0)
    new_is = first_is o (now_in v') f.root v.next v.limit by y.spelled y.children wanted within

    new_levels : HaveLevels (now_in v') f.root v.next.seed (meant_to v.next v.limit 0)
    new_levels = first_have o (now_in v') f.root v.next v.limit by y.spelled y.children wanted within

    deeper : KeepsDeeper o (now_in v') (0 + 1)
    deeper = first_deeper o (now_in v') f.root v.next v.limit by y.spelled y.children wanted within

    answers_same : (k : ℕ) → answer_at (now_in v') k ≡ answer_at o k
    answers_same k = answers_stay v.next.numbering v.next.seed o (now_in v') f.root 0 by (f.root ∷ []) y.children k

    spots : SteppingSpots (repair_of v' 0)
    spots = record {
      sound = b.sound;
      old_spelled = rests.spelled;
      new_spelled = y.spelled;
      old_is = rests.is;
      new_is = new_is;
      old_levels = rests.levels;
      new_levels = new_levels;
      once = rests.once;
      once_now = y.children.once;
      stay = y.children.stay;
      answered = λ p k less e. rests.answered 0 p k less e;
    }

    is_first : IsFirst (repair_of v' 0) by told
    is_first = record { level = refl; «axiom» = refl; renewals = y.children; tells = y.tells; gone = y.gone }

    none_renewed : (k : ℕ) → In k v.renewed → ⊥
    none_renewed k i = subst (In k) (still v h).renewed i

    none_dropped : (k : ℕ) → In k v.dropped → ⊥
    none_dropped k i = subst (In k) (still v h).dropped i

    none_moved : (k : ℕ) → In k v.moved → ⊥
    none_moved k i = subst (In k) (still v h).moved i

    made_first : IsMadeTo v' 0
    made_first = record {
      spots = spots;
      within = omega arith;
      deeper = deeper;
      counts = y.children.small;
      answers = λ k i. answers_same k;
      renewed_are = λ k i. absurd (none_renewed k i);
      faults = (still v h).faults;
      pending = (still v h).pending;
      room = λ k n e. seated k (subst IsSome (sym e) refl);
    }

    none_before : HasListsBefore (stage_of v') 0
    none_before = record {
      fresh = λ k a e. inr (sym (answers_same k) ∙ e);
      dropped_apart = subst AreApart (sym (still v h).dropped) tt;
      dropped_had = λ k i none. none_dropped k i;
      dropped_none = λ k u i less j. absurd (none_dropped k i);
      lost = λ k u a less e i. absurd (omega (arith, less));
      seated = λ u p k less e. absurd (omega (arith, less));
      moved_are = λ k i. absurd (none_moved k i);
      room = λ k i. absurd (none_moved k i);
    }

    pub first_fresh : WasJustMade v' 0
    first_fresh = record {
      made = made_first;
      lists = none_before;
      dropped = λ k i. absurd (none_dropped k i);
      differs = first_differs (repair_of v' 0) by told d.changes spots is_first changes;
      gone_once = first_gone_each (repair_of v' 0) by told d.changes spots is_first changes;
      gone_keep = λ k i. answers_same k;
      bare = bare;
      looks = record { looked = λ k i w. inl (subst (In k) (sym looked) i); looked_are = λ k i. subst (In k) looked i };
    }

-- 5. from rest

-- where the pass at a first level came from
pub first_origin : (v w : PassView) → WasStill v → Goes (stage_of v) (stage_of w) 0 → Origin w 0
first_origin v w h g = at_first (record v { state = Rest; next = v.system }) refl h.pass.holds h.rest (record {
  next = refl;
  run = record {
    system = g.run.system;
    limit = g.run.limit;
    root = g.run.root;
    was = g.run.was;
    store = g.run.store;
    reads = g.run.reads;
    listed = g.run.listed;
    renewed = g.run.renewed;
    born = g.run.born;
    same_seats = g.run.same_seats;
  };
  above = record {
    nodes = g.above.nodes;
    spots = g.above.spots;
    names = g.above.names;
    kept = g.above.kept;
    same = g.above.same;
    gone = g.above.gone;
  };
  more = g.more;
})

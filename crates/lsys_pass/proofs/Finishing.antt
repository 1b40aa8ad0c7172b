-- From one level to the next.
use Rattle.std.proofs.Common.{◌≡◌, ◌⊎◌, ◌↔◌, ◌<◌, ◌≤◌, ℕ, suc, Bool, true, false, List, [], ◌∷◌, map, Option, Some, None, refl, sym, ap, ◌∙◌, subst, inl, inr, arith, slice_get}
use Rattle.std.specs.Prelude.{count_by, is_none, option_map}
use Rattle.std.proofs.lemmas.Bool.{cases_lt}
use Rattle.std.proofs.lemmas.Option.{none-some, same_Some}
use Rattle.lsys_spec.specs.Rows.{In, AreApart}
use Rattle.lsys_spec.specs.Systems.{System}
use Rattle.lsys_spec.specs.Levels as L
use Rattle.lsys_rewrite.specs.declared.refusal.FaultKind.{FaultKind}
use Rattle.lsys_pass.specs.declared.fault.Faulted.{Faulted}
use Rattle.lsys_level.specs.Spots.{Spotted, with_lineage, named, level_by}
use Rattle.lsys_laws.proofs.KeptLineages.{stays}
use Rattle.lsys_walks.specs.Stores.{Store}
use Rattle.lsys_match.specs.Kept.{Kept}
use Rattle.lsys_reads.specs.Relations.{Relations, is_pending}
use Rattle.lsys_forest.specs.Nodes.{Node, Nodes}
use Rattle.lsys_forest.specs.Groves.{IsRooted, Reached}
use Rattle.lsys_forest.specs.Rows.{level_nodes, level_spots, spot_in}
use Rattle.lsys_forest.proofs.RowLemmas.{level_depth}
use Rattle.lsys_forest.proofs.WalkLemmas.{get_In}
use Rattle.lsys_reads.specs.declared.seat.Seat.{Seat}
use Rattle.lsys_reads.specs.Seats.{SameSeats}
use Rattle.lsys_reads.specs.Lineages.{kin_of, kins, names}
use Rattle.lsys_reads.specs.Levels.{AnsweredAt, AnsweredIn, level_of, answer_at, HasRead}
use Rattle.lsys_reads.specs.Meant.{level_to, IsNeeded}
use Rattle.lsys_pass.specs.Rests.{IsResting}
use Rattle.lsys_pass.specs.Stages.{Stage, was, Rests, fault_in, AreNoted, HasFault, OutcomeBy, IsNeededAt, HaveNewRead, HasSeats, IsAtLevel, IsDone}
use Rattle.lsys_pass.specs.Advances.{IsAskedTo, KeepsRest, Makes, Advances, HasLastLevel}
use Rattle.lsys_pass.proofs.Stepping.{some_in}

-- 1. a level that was asked

no_outcome : (o : Option FaultKind) (A : Type 0) (F : FaultKind → Type 0) → o ≡ None → OutcomeBy o A F → A
no_outcome None A F e h = h
no_outcome (Some k) A F e h = absurd (none-some k (sym e))

pub none_noted : (fs : List Faulted) (ks : List ℕ) (y : List L.LevelSymbol) → fs ≡ [] → AreNoted fs ks y
none_noted fs ks y e i f h = absurd (none-some f (ap (λ (l : List Faulted). slice_get l i) (sym e) ∙ h))

pub no_fault : (s : Stage) (k : ℕ) → s.faults ≡ [] → fault_in k s.faults ≡ None
no_fault s k e = ap (fault_in k) e

none_pending : (s : Stage) (k : ℕ) → s.pending ≡ [] → In k s.pending → ⊥
none_pending s k e i = subst (In k) e i

module _ (s : Stage) (t : ℕ) (h : IsAskedTo s t) where
  -- all questions up to it are answered
  pub all_answered : (u p k : ℕ) → u ≤ t → slice_get (level_nodes s.now s.root u) p ≡ Some k → AnsweredAt s.next u s.now s.root s.store p k
  all_answered u p k l e = elim (cases_lt u t) [
    | inl less ↦ h.at.answers.above u p k less e
    | inr ge ↦
        let same : t ≡ u = omega (arith, ge, l) in
        subst (λ w. AnsweredAt s.next w s.now s.root s.store p k) same (elim (h.at.answers.here p k (ap (λ w. slice_get (level_nodes s.now s.root w) p) same ∙ e)) [
          | inl open_now ↦ absurd (none_pending s k h.pending open_now.pending)
          | inr done ↦
              no_outcome (fault_in k s.faults) (AnsweredAt s.next t s.now s.root s.store p k) (HasFault s.next t (level_to s.next s.limit t) p) (no_fault s k h.faults) done.outcome
        ])
  ]

  -- exactly those whose question the old system didn't answer have new answers
  pub all_news : (u p k : ℕ) → u ≤ t → slice_get (level_nodes s.now s.root u) p ≡ Some k → In k s.renewed ↔ IsNeededAt s u p
  all_news u p k l e = (
    λ i. h.at.news.needed u p k l e i,
    λ n. elim (h.at.news.all u p k l e n) [
      | inl i ↦ i
      | inr (inl i) ↦ absurd (none_pending s k h.pending i)
      | inr (inr f) ↦ absurd (f (no_fault s k h.faults))
    ],
  )

-- 2. the next level is made

pub rest_seats : {listed : Bool} (s : System) (limit : ℕ) (m : Nodes Kept) (root : ℕ) (store : Store) (reads : Relations) (seats seats' : List Seat) → SameSeats seats seats' → IsResting listed s limit m root store reads seats → IsResting listed s limit m root store reads seats'
rest_seats s limit m root store reads seats seats' same h = record {
  spelled = h.spelled;
  is = h.is;
  levels = h.levels;
  ends = h.ends;
  counts = h.counts;
  once = h.once;
  reached = h.reached;
  answered = h.answered;
  others = h.others;
  made = h.made;
  read = h.read;
  seated = λ t p k e. same k ∙ h.seated t p k e;
}

pub rest_made : (s s' : Stage) → KeepsRest s s' → Rests s → Rests s'
rest_made s s' run h =
    subst (λ r. IsResting true s'.system s'.limit (was s') s'.root s'.store r s'.seats) (sym run.reads)
    (subst (λ st. IsResting true s'.system s'.limit (was s') s'.root st s.reads s'.seats) (sym run.store)
    (subst (λ r. IsResting true s'.system s'.limit (was s') r s.store s.reads s'.seats) (sym run.root)
    (subst (λ (m : Nodes Kept). IsResting true s'.system s'.limit m s.root s.store s.reads s'.seats) (sym run.was)
    (subst (λ n. IsResting true s'.system n (was s) s.root s.store s.reads s'.seats) (sym run.limit)
    (subst (λ (y : System). IsResting true y s.limit (was s) s.root s.store s.reads s'.seats) (sym run.system)
    (rest_seats s.system s.limit (was s) s.root s.store s.reads s.seats s'.seats run.same_seats h))))))

tag_is : (k : ℕ) (o : Option (Node Kept)) → (spot_in k o).tag ≡ k
tag_is k None = refl
tag_is k (Some n) = refl

renamed : (m : Nodes Kept) (f g : ℕ → List ℕ) (ks : List ℕ) → ((k : ℕ) → In k ks → f k ≡ g k) → level_by f (map (λ k. spot_in k (m k)) ks) ≡ level_by g (map (λ k. spot_in k (m k)) ks)
renamed m f g [] h = refl
renamed m f g (k ∷ ks) h =
    let one : named f (spot_in k (m k)) ≡ named g (spot_in k (m k)) = ap (λ l. with_lineage l (spot_in k (m k)).seen) (ap f (tag_is k (m k)) ∙ h k (inl refl) ∙ ap g (sym (tag_is k (m k)))) in
    ap (λ a. a ∷ level_by f (map (λ k. spot_in k (m k)) ks)) one ∙ ap (λ (l : List L.LevelSymbol). named g (spot_in k (m k)) ∷ l) (renamed m f g ks (λ j i. h j (inr i)))

module _ (s s' : Stage) (t : ℕ) (h : IsAskedTo s t) (sound : IsRooted s.root s.changes s.now) (sound' : IsRooted s'.root s'.changes s'.now) (x : Makes s s' (suc t)) where
  within : (u : ℕ) → u ≤ t → u < suc t
  within u l = omega (arith, l)

  there : (u p k : ℕ) → u ≤ t → slice_get (level_nodes s'.now s'.root u) p ≡ Some k → slice_get (level_nodes s.now s.root u) p ≡ Some k
  there u p k l e = ap (λ (ks : List ℕ). slice_get ks p) (sym (x.above.nodes u (within u l))) ∙ e

  on_new : (u k : ℕ) → u ≤ t → In k (level_nodes s.now s.root u) → In k (level_nodes s'.now s'.root u)
  on_new u k l = subst (In k) (sym (x.above.nodes u (within u l)))

  -- no node stands on two levels
  apart_levels : (u w k : ℕ) → In k (level_nodes s'.now s'.root u) → In k (level_nodes s'.now s'.root w) → u ≡ w
  apart_levels u w k i j =
      let d = level_depth s'.root s'.changes s'.now sound' u k i in
      let e = level_depth s'.root s'.changes s'.now sound' w k j in
      let f = ap (λ (n : Node Kept). n.depth) (same_Some d.0 e.0 (sym d.1 ∙ e.1)) in
      omega (arith, f, d.2, e.2)

  is_renewed : (k : ℕ) → In k s'.renewed → In k s.renewed
  is_renewed k = subst (In k) x.run.renewed

  renewed_level : (k : ℕ) → In k s'.renewed → (u : ℕ) × (u ≤ t) × In k (level_nodes s.now s.root u)
  renewed_level k i = h.at.lists.renewed_are k (is_renewed k i)

  not_renewed : (k : ℕ) → In k s'.renewed → In k (level_nodes s'.now s'.root (suc t)) → ⊥
  not_renewed k i j =
      let w = renewed_level k i in
      let e = apart_levels w.0 (suc t) k (on_new w.0 k w.1 w.2) j in
      let l = w.1 in omega (arith, e, l)

  rest : Rests s'
  rest = rest_made s s' x.run h.at.rest

  answered : (u p k : ℕ) → u ≤ t → slice_get (level_nodes s'.now s'.root u) p ≡ Some k → AnsweredAt s'.next u s'.now s'.root s'.store p k
  answered u p k l e =
      let old = there u p k l e in
      subst (λ st. AnsweredIn s'.next u (level_spots s'.now s'.root u) st p (answer_at s'.now k)) (sym x.run.store)
      (subst (λ (o : Option Kept). AnsweredIn s'.next u (level_spots s'.now s'.root u) s.store p o) (sym (x.above.kept u k (within u l) (get_In (level_nodes s.now s.root u) p k old)))
      (subst (λ (row : List Spotted). AnsweredIn s'.next u row s.store p (answer_at s.now k)) (sym (x.above.spots u (within u l)))
      (subst (λ (y : System). AnsweredIn y u (level_spots s.now s.root u) s.store p (answer_at s.now k)) (sym x.next) (all_answered s t h u p k l old))))

  level_kept : (u : ℕ) → u ≤ t → level_of s'.now s'.root u ≡ level_of s.now s.root u
  level_kept u l =
      ap (level_by (names s'.now)) (x.above.spots u (within u l))
      ∙ renamed s.now (names s'.now) (names s.now) (level_nodes s.now s.root u) (λ k i. (
      let d = level_depth s.root s.changes s.now sound u k i in
      stays (kins s.now) (kins s'.now) s.root k (kin_of d.0) h.at.tree.once x.above.names (ap (option_map kin_of) d.1)
      ))

  needed_as : (u p : ℕ) → u ≤ t → IsNeededAt s u p → IsNeededAt s' u p
  needed_as u p l n =
      subst (λ (y : List L.LevelSymbol). IsNeeded s'.system s'.next s'.limit u y p) (sym (level_kept u l))
      (subst (λ m. IsNeeded s'.system s'.next m u (level_of s.now s.root u) p) (sym x.run.limit)
      (subst (λ (y : System). IsNeeded s'.system y s.limit u (level_of s.now s.root u) p) (sym x.next) (subst (λ (y : System). IsNeeded y s.next s.limit u (level_of s.now s.root u) p) (sym x.run.system) n)))

  needed_was : (u p : ℕ) → u ≤ t → IsNeededAt s' u p → IsNeededAt s u p
  needed_was u p l n =
      subst (λ (y : System). IsNeeded y s.next s.limit u (level_of s.now s.root u) p) x.run.system (subst (λ (y : System). IsNeeded s'.system y s.limit u (level_of s.now s.root u) p) x.next
      (subst (λ m. IsNeeded s'.system s'.next m u (level_of s.now s.root u) p) x.run.limit (subst (λ (y : List L.LevelSymbol). IsNeeded s'.system s'.next s'.limit u y p) (level_kept u l) n)))

  -- a reader that was renewed reads what it read
  same_answer : (k : ℕ) → In k s'.renewed → answer_at s'.now k ≡ answer_at s.now k
  same_answer k i = let w = renewed_level k i in x.above.kept w.0 k (within w.0 w.1) w.2

  read : s'.listed ≡ true → HaveNewRead s'
  read known reader seen = (
    λ e.
        let r = (h.at.lists.read (sym x.run.listed ∙ known) reader seen).0 (ap (λ (z : Relations). is_pending z reader seen) (sym x.run.reads) ∙ e) in
        let i = subst (In reader) (sym x.run.renewed) r.0 in
        (i, subst (λ st. HasRead s'.now st reader seen) (sym x.run.store) (record { answer = r.1.answer; kept = same_answer reader i ∙ r.1.kept; among = r.1.among })),
    λ q.
        let w = subst (λ st. HasRead s'.now st reader seen) x.run.store q.1 in
        ap (λ (z : Relations). is_pending z reader seen) x.run.reads
        ∙ (h.at.lists.read (sym x.run.listed ∙ known) reader seen).1 (is_renewed reader q.0, record { answer = w.answer; kept = sym (same_answer reader q.0) ∙ w.kept; among = w.among }),
  )

  unread : s'.listed ≡ false → s'.reads.pending ≡ []
  unread not = ap (λ (r : Relations). r.pending) x.run.reads ∙ h.at.lists.unread (sym x.run.listed ∙ not)

  was_answer : (k : ℕ) → answer_at (was s') k ≡ answer_at (was s) k
  was_answer k = ap (λ (m : Nodes Kept). answer_at m k) x.run.was

  was_level : (u : ℕ) → level_nodes (was s') s'.root u ≡ level_nodes (was s) s.root u
  was_level u = ap (λ (m : Nodes Kept). level_nodes m s'.root u) x.run.was ∙ ap (λ r. level_nodes (was s) r u) x.run.root

  kept_on : (k : ℕ) (b : Kept) → answer_at (was s') k ≡ Some b → In k s'.renewed ⊎ In k s'.dropped ⊎ (answer_at s'.now k ≡ Some b)
  kept_on k b e = elim (h.at.lists.kept k b (sym (was_answer k) ∙ e)) [
    | inl i ↦ inl (subst (In k) (sym x.run.renewed) i)
    | inr (inl i) ↦ inr (inl (x.drops.more k i))
    | inr (inr f) ↦ inr (x.above.gone k b f)
  ]

  lost_on : (k u : ℕ) (b : Kept) → u ≤ suc t → answer_at (was s') k ≡ Some b → In k (level_nodes (was s') s'.root u) → In k s'.dropped ⊎ In k (level_nodes s'.now s'.root u)
  lost_on k u b l e i = elim (cases_lt t u) [
    | inl last ↦
        let same : suc t ≡ u = omega (arith, last, l) in
        subst (λ w. In k s'.dropped ⊎ In k (level_nodes s'.now s'.root w)) same (x.drops.lost k b e (subst (λ w. In k (level_nodes (was s') s'.root w)) (sym same) i))
    | inr old ↦ elim (h.at.lists.lost k u b old (sym (was_answer k) ∙ e) (subst (In k) (was_level u) i)) [ inl j ↦ inl (x.drops.more k j) | inr j ↦ inr (on_new u k old j) ]
  ]

  needed_on : (u p k : ℕ) → u ≤ suc t → slice_get (level_nodes s'.now s'.root u) p ≡ Some k → In k s'.renewed → IsNeededAt s' u p
  needed_on u p k l e i = elim (cases_lt t u) [
    | inl last ↦
        let same : u ≡ suc t = omega (arith, last, l) in
        absurd (not_renewed k i (subst (λ w. In k (level_nodes s'.now s'.root w)) same (get_In (level_nodes s'.now s'.root u) p k e)))
    | inr old ↦ needed_as u p old ((all_news s t h u p k old (there u p k old e)).0 (is_renewed k i))
  ]

  all_on : Advances s' (suc t) → (u p k : ℕ) → u ≤ suc t → slice_get (level_nodes s'.now s'.root u) p ≡ Some k → IsNeededAt s' u p → In k s'.renewed ⊎ In k s'.pending ⊎ (fault_in k s'.faults ≡ None → ⊥)
  all_on a u p k l e n = elim (cases_lt t u) [
    | inl last ↦
        let same : u ≡ suc t = omega (arith, last, l) in
        elim (a.ask.each p k (ap (λ w. slice_get (level_nodes s'.now s'.root w) p) (sym same) ∙ e)) [
          | inl r ↦ inr (inl r.0)
          | inr r ↦ absurd (r.2 (subst (λ w. IsNeededAt s' w p) same n))
        ]
    | inr old ↦ inl (subst (In k) (sym x.run.renewed) ((all_news s t h u p k old (there u p k old e)).1 (needed_was u p old n)))
  ]

  -- the pass is at that level
  pub starts : Advances s' (suc t) → IsAtLevel s' (suc t)
  starts a = record {
    rest = rest;
    tree = a.tree;
    answers = record {
      above = λ u p k l e. answered u p k (omega (arith, l)) e;
      here = λ p k e. elim (a.ask.each p k e) [
        | inl r ↦ inl (record { pending = r.0; candidate = r.1; same = r.2; faultless = no_fault s' k a.ask.faults })
        | inr r ↦ inr (record { done = r.0; outcome = subst (λ o. OutcomeBy o (AnsweredAt s'.next (suc t) s'.now s'.root s'.store p k) (HasFault s'.next (suc t) (level_to s'.next s'.limit (suc t)) p)) (sym (no_fault s' k a.ask.faults)) r.1 })
      ];
      noted = none_noted s'.faults (level_nodes s'.now s'.root (suc t)) (level_of s'.now s'.root (suc t)) a.ask.faults;
      in_order = a.ask.in_order;
      apart = a.ask.apart;
    };
    lists = record {
      read = read;
      unread = unread;
      renewed_are = λ k i. let w = renewed_level k i in (w.0, (let l = w.1 in omega (arith, l)), on_new w.0 k w.1 w.2);
      renewed_done = λ k i j. not_renewed k i (some_in s'.pending (level_nodes s'.now s'.root (suc t)) a.ask.in_order k j);
      dropped_are = λ k u i l j. x.drops.none k u i l j;
      dropped_done = a.ask.undropped;
      kept = kept_on;
      dropped_apart = x.drops.apart;
      dropped_at = a.dropped_at;
      dropped_had = x.drops.had;
      lost = lost_on;
      fresh = λ k b e. elim (h.at.lists.fresh k b (x.above.same k b e)) [ inl i ↦ inl (subst (In k) (sym x.run.renewed) i) | inr f ↦ inr (was_answer k ∙ f) ];
    };
    news = record {
      apart = subst AreApart (sym x.run.renewed) h.at.news.apart;
      needed = needed_on;
      all = all_on a;
      born = x.run.born ∙ h.at.news.born ∙ ap (λ (m : Nodes Kept). count_by (λ k. is_none (answer_at m k)) s.renewed) (sym x.run.was) ∙ ap (count_by (λ k. is_none (answer_at (was s') k))) (sym x.run.renewed);
    };
    seats = x.seats;
  }

  done_kept : HasLastLevel s' (suc t) → (k : ℕ) (b : Kept) → In k s'.renewed ⊎ In k s'.dropped ⊎ (answer_at s'.now k ≡ Some b) → In k s'.renewed ⊎ In k s'.dropped ⊎ (Reached s'.now s'.root k × (answer_at s'.now k ≡ Some b))
  done_kept d k b (inl i) = inl i
  done_kept d k b (inr (inl i)) = inr (inl i)
  done_kept d k b (inr (inr e)) = elim (d.reached k b e) [ inl r ↦ inr (inr (r, e)) | inr i ↦ inr (inl i) ]

  -- all levels are there
  pub ends : HasLastLevel s' (suc t) → IsDone s'
  ends d = record {
    rest = rest;
    spelled = d.spelled;
    is = d.is;
    levels = d.levels;
    small = d.small;
    counts = d.counts;
    ends = d.none_below;
    once = d.once;
    stay = d.stay;
    answered = λ u p k l e. answered u p k (let f = d.depth in omega (arith, l, f)) e;
    last = λ k i. d.last k (subst (λ w. In k (level_nodes s'.now s'.root w)) d.depth i);
    read = read;
    unread = unread;
    renewed_are = λ k i. let w = renewed_level k i in (w.0, (let l = w.1 in let f = d.depth in omega (arith, l, f)), on_new w.0 k w.1 w.2);
    renewed_apart = subst AreApart (sym x.run.renewed) h.at.news.apart;
    news = λ u p k l e.
        let f = d.depth in
        let old : u ≤ t = omega (arith, l, f) in
        let n = all_news s t h u p k old (there u p k old e) in
        (λ i. needed_as u p old (n.0 (is_renewed k i)), λ i. subst (In k) (sym x.run.renewed) (n.1 (needed_was u p old i)));
    born = x.run.born ∙ h.at.news.born ∙ ap (λ (m : Nodes Kept). count_by (λ k. is_none (answer_at m k)) s.renewed) (sym x.run.was) ∙ ap (count_by (λ k. is_none (answer_at (was s') k))) (sym x.run.renewed);
    dropped_apart = x.drops.apart;
    dropped_had = x.drops.had;
    dropped_are = d.dropped_none;
    kept = λ k b e. done_kept d k b (kept_on k b e);
    fresh = λ k b e. elim (h.at.lists.fresh k b (x.above.same k b e)) [ inl i ↦ inl (subst (In k) (sym x.run.renewed) i) | inr f ↦ inr (was_answer k ∙ f) ];
    seats = subst (HasSeats s') (sym d.depth) x.seats;
  }

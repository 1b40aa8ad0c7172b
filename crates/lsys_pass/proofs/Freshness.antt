-- A level that was made below one of which all was asked.
use Rattle.std.proofs.Common.{◌≡◌, ◌⊎◌, ◌+◌, ◌<◌, ◌≤◌, ℕ, suc, true, List, [], ◌++◌, length, slice_get, Option, Some, None, Ok, refl, sym, ap, ◌∙◌, subst, inl, inr, arith, sum_by}
use Rattle.std.specs.Prelude.{◌-◌, IsSome, option_map}
use Rattle.std.specs.Option.{option_and_then}
use Rattle.std.proofs.lemmas.Bool.{cases_lt}
use Rattle.std.proofs.lemmas.Option.{none-some, same_Some}
use Rattle.lsys_spec.specs.Rows.{In}
use Rattle.lsys_spec.specs.Levels.{level_balanced}
use Rattle.lsys_spec.specs.Meaning.{meaning_to}
use Rattle.lsys_laws.specs.Nodes.{Kin, AreOnce, Extends}
use Rattle.lsys_laws.proofs.UpTo.{level_count}
use Rattle.lsys_level.specs.Spots.{Spotted, level_by}
use Rattle.lsys_match.specs.Kept.{Kept}
use Rattle.lsys_forest.specs.Nodes.{Node, Nodes}
use Rattle.lsys_forest.specs.Answers.{answer_of}
use Rattle.lsys_forest.specs.Groves.{Grove, IsLive, IsRooted, now_of, rest_of, changes_in}
use Rattle.lsys_forest.specs.Rows.{kids_in, kids_below, level_nodes, level_spots, AreBalancedTo}
use Rattle.lsys_forest.proofs.RowLemmas.{In_append, level_depth}
use Rattle.lsys_forest.proofs.SoundLemmas.{some_of}
use Rattle.lsys_forest.proofs.ViewLemmas.{are_told}
use Rattle.lsys_children.specs.Children.{ToldNodes, KeepsChildren}
use Rattle.lsys_reads.specs.Lineages.{kin_of, kins}
use Rattle.lsys_reads.specs.Levels.{HaveLevels, AnsweredAt, answer_at}
use Rattle.lsys_reads.specs.Meant.{levels_meant, meant_to}
use Rattle.lsys_reads.specs.declared.seat.Seat.{Seat}
use Rattle.lsys_reads.specs.Neighbours.{neighbours_in}
use Rattle.lsys_reads.specs.Seats.{neighbours_at, HasSeat, SameSeats, KeepsSeats}
use Rattle.lsys_reads.specs.Standings.{AreSeated}
use Rattle.lsys_reads.specs.Looks.{AddsBelow}
use Rattle.lsys_front.specs.Turned.{IsSameLevel}
use Rattle.lsys_front.proofs.TurnedLemmas.{same_on}
use Rattle.lsys_front.specs.Repairs.{Repair, SteppingSpots, were, are}
use Rattle.lsys_front.specs.Found.{Differs}
use Rattle.lsys_front.proofs.Spots.{is_in, sound_old, sound_new}
use Rattle.lsys_children.specs.Nexts.{AreLevels, HaveWanted, wanted_count}
use Rattle.lsys_children.specs.Answers.{kept_successors, AreAnswered}
use Rattle.lsys_children.specs.Renewals.{AreRenewals, KeepsDeeper}
use Rattle.lsys_children.proofs.Above.{upper_levels}
use Rattle.lsys_children.proofs.Finishing.{answered_level, answers_above}
use Rattle.lsys_children.proofs.Lengths.{kids_count, below_count}
use Rattle.lsys_children.proofs.Renewing.{keeps_upper, parent_stays}
use Rattle.lsys_children.proofs.Walks.{level_walked}
use Rattle.lsys_children.specs.declared.parent.Parent.{Parent}
use Rattle.lsys_children.specs.Parents.{nodes_in}
use Rattle.lsys_front.specs.Fronts.{Differences, IsLevelFront, MakesNext, IsToldNext, next_of, StandOn, LooksBelow}
use Rattle.lsys_front.proofs.Differing.{kept_families, gone_each, next_differs}
use Rattle.lsys_front.proofs.NextLooks.{next_sound, next_were, touched_are, next_looks}
use Rattle.lsys_front.proofs.Rooms.{was_live}
use Rattle.lsys_pass.specs.declared.sizes.Size.{Size}
use Rattle.lsys_pass.specs.declared.state.PassState.TheVariants.{Level}
use Rattle.lsys_pass.specs.Sizes.{total_of}
use Rattle.lsys_pass.specs.Rests.{IsResting}
use Rattle.lsys_pass.specs.Stages.{IsAtLevel}
use Rattle.lsys_pass.specs.Advances.{KeepsRest, symbols_wanted}
use Rattle.lsys_pass.specs.Passes.{PassView, stage_of, now_in, rest_in, repair_of}
use Rattle.lsys_pass.specs.Made.{KeepsAnswers, MakesBelow}
use Rattle.lsys_pass.specs.Fresh.{WasAsked, row_of, wanted_on_level, AreNextParents, Goes, HasListsBefore, AreDroppedBefore, IsMadeTo, WasLookedAt, WasJustMade}
use Rattle.lsys_pass.proofs.Asking.{balanced_now}
use Rattle.lsys_pass.proofs.Before.{no_more}
use Rattle.lsys_pass.proofs.Limits.{total_is, are_answered}
use Rattle.lsys_pass.proofs.Making.{deeper_of, nodes_above, spots_above, answers_on, stays_on, deeper_next, next_is, next_have}
use Rattle.lsys_pass.proofs.NextLengths.{same_sum}
use Rattle.lsys_pass.proofs.Repairing.{stepping}

live_of : (o : Option (Node Kept)) (x : Kin) → option_map kin_of o ≡ Some x → IsSome o
live_of None x e = absurd (none-some x e)
live_of (Some n) x e = refl

-- 1. the forest

module _ (v : PassView) (t : ℕ) (a : WasAsked v t) (h : Grove Kept) (ps : List Parent) (told : ToldNodes) (found : AreNextParents v t ps) (keeps : KeepsAnswers v.forest h) (below : MakesBelow v.next.numbering v.forest h ps told) where
  -- the pass at the level
  abbrev at : PassView
  at = record v { state = Level t }

  abbrev r : Repair
  r = repair_of v t

  abbrev root : ℕ
  root = v.forest.root

  abbrev done : List ℕ
  done = nodes_in ps

  abbrev turned : List ℕ
  turned = v.front.changes.came ++ v.front.turned

  at_level : IsAtLevel (stage_of v) t
  at_level = a.asked.at

  rests : IsResting true v.system v.limit (rest_in v) root v.store v.reads v.seats
  rests = at_level.rest

  spots : SteppingSpots r
  spots = stepping at t a.pass refl

  front : IsLevelFront r v.seats v.front
  front = a.pass.front.front

  ready : AreAnswered v.next v.limit t (now_in v) root v.store
  ready = are_answered at t a.pass refl a.asked

  sound : IsRooted root (changes_in v.forest) (now_in v)
  sound = sound_new r spots

  pub made_next : MakesNext r h (wanted_on_level v t) ps told
  made_next = record {
    root = keeps.root;
    rest = keeps.rest;
    sound = keeps.sound;
    renewals = below.renewals v.next.seed (t + 1) (wanted_on_level v t) found.parents found.wants;
    parents = found.there;
    apart = found.parents.apart;
    wants = found.wants;
    tells = below.tells;
    gone = below.gone;
  }

  renewals : AreRenewals v.next.numbering v.next.seed (now_in v) (now_of h) root (t + 1) (wanted_on_level v t) done
  renewals = made_next.renewals

  sound_made : IsRooted h.root (changes_in h) (now_of h)
  sound_made = next_sound r h (wanted_on_level v t) ps told spots made_next

  -- the levels up to level t stay
  rows : (u : ℕ) → u ≤ t → level_nodes (now_of h) h.root u ≡ level_nodes (now_in v) root u
  rows u l = ap (λ x. level_nodes (now_of h) x u) keeps.root ∙ nodes_above (now_in v) (now_of h) (rest_in v) root v.next v.limit t v.store (wanted_on_level v t) done at_level.tree ready renewals u l

  row_spots : (u : ℕ) → u ≤ t → level_spots (now_of h) h.root u ≡ level_spots (now_in v) root u
  row_spots u l = ap (λ x. level_spots (now_of h) x u) keeps.root ∙ spots_above (now_in v) (now_of h) (rest_in v) root v.next v.limit t v.store (wanted_on_level v t) done at_level.tree ready renewals u l

  same_level : (u : ℕ) → u ≤ t → IsSameLevel v.forest h u
  same_level u l = record { root = keeps.root; nodes = rows u l; spots = row_spots u l }

  -- and all answers
  pub same_answers : (k : ℕ) → answer_at (now_of h) k ≡ answer_at (now_in v) k
  same_answers k = answers_on (now_in v) (now_of h) (rest_in v) root v.next v.limit t v.store (wanted_on_level v t) done at_level.tree ready renewals k

  stay : Extends (kins (rest_in v)) (kins (now_of h))
  stay = stays_on (now_in v) (now_of h) (rest_in v) root v.next v.limit t v.store (wanted_on_level v t) done at_level.tree ready renewals

  pub gone_lives : (k : ℕ) → In k v.front.changes.gone → IsLive h k
  gone_lives k i =
      let n = some_of (now_in v k) (was_live r spots k ((front.differs.gone k).0 i).0) in
      live_of (now_of h k) (kin_of n.0) (renewals.stay k (kin_of n.0) (ap (option_map kin_of) n.1))

  balanced : AreBalancedTo h t
  balanced u l = ap (λ (row : List Spotted). level_balanced 0 (level_by (λ tag. []) row)) (row_spots u l) ∙ balanced_now at t a.pass refl u l

  on_row : (k : ℕ) → In k (are r) → In k (level_nodes (now_of h) h.root t)
  on_row k = subst (In k) (sym (rows t (omega arith)))

  pub stands_on : StandOn h t (told.touched ++ turned)
  stands_on = record {
    sound = sound_made;
    complete = are_told h t at_level.tree.small balanced;
    among = λ q i. elim (In_append told.touched turned q i) [
      | inl j ↦ on_row q (touched_are r h (wanted_on_level v t) ps told spots made_next q j)
      | inr j ↦ elim (In_append v.front.changes.came v.front.turned q j) [
        | inl c ↦ on_row q ((front.differs.came q).0 c).0
        | inr c ↦ on_row q (front.turned_are q c)
      ]
    ];
  }

  -- 2. the next level

  wanted : HaveWanted v.next.numbering v.next.seed (now_of h) (kept_successors (now_in v)) None (level_nodes (now_of h) root t)
  wanted = level_walked root (changes_in v.forest) v.next.numbering v.next.seed (now_in v) (now_of h) t (wanted_on_level v t) done sound renewals found.others (kept_successors (now_in v)) (λ k. refl)

  kids_are : (k : ℕ) → In k (row_of v t) → length (kids_in (now_of h k)) ≡ wanted_count v.next.numbering (wanted_on_level v t k)
  kids_are k i = elim (is_in k done) [
    | inl j ↦ kids_count v.next.numbering v.next.seed (now_of h) k (wanted_on_level v t k) (renewals.wanted k j)
    | inr out ↦ elim (found.others k i) [
      | inl j ↦ absurd (out j)
      | inr w ↦
          let d = level_depth root (changes_in v.forest) (now_in v) sound t k i in
          let same = parent_stays v.next.numbering v.next.seed (now_in v) (now_of h) root (t + 1) (wanted_on_level v t) done k d.0 renewals d.1 d.2 out in
          ap (λ (o : Option (Node Kept)). length (kids_in o)) (same ∙ sym d.1) ∙ kids_count v.next.numbering v.next.seed (now_in v) k (wanted_on_level v t k) w
    ]
  ]

  long_at_root : length (level_nodes (now_of h) root (t + 1)) ≡ symbols_wanted (stage_of v) t
  long_at_root =
      let step : t + 1 ≡ suc t = omega arith in
      let above = nodes_above (now_in v) (now_of h) (rest_in v) root v.next v.limit t v.store (wanted_on_level v t) done at_level.tree ready renewals t (omega arith) in
      ap (λ u. length (level_nodes (now_of h) root u)) step
      ∙ ap (λ (ks : List ℕ). length (kids_below (now_of h) ks)) above
      ∙ below_count (now_of h) (row_of v t)
      ∙ same_sum (λ k. length (kids_in (now_of h k))) (λ k. wanted_count v.next.numbering (wanted_on_level v t k)) (row_of v t) kids_are

  -- it has as many symbols as were counted
  pub long : length (level_nodes (now_of h) h.root (t + 1)) ≡ symbols_wanted (stage_of v) t
  long = ap (λ x. length (level_nodes (now_of h) x (t + 1))) keeps.root ∙ long_at_root

  -- what is of the last rest, and of the root, is so here
  moved : (P : Nodes Kept → ℕ → Type 0) → P (rest_in v) root → P (rest_of h) h.root
  moved P p = subst (λ (o : Nodes Kept). P o h.root) (sym keeps.rest) (subst (P (rest_in v)) (sym keeps.root) p)

  rooted : (P : ℕ → Type 0) → P root → P h.root
  rooted P p = subst P (sym keeps.root) p

  was_answer : (k : ℕ) → answer_at (rest_of h) k ≡ answer_at (rest_in v) k
  was_answer k = ap (λ (o : Nodes Kept). answer_at o k) keeps.rest

  was_level : (u : ℕ) → level_nodes (rest_of h) h.root u ≡ level_nodes (rest_in v) root u
  was_level u = ap (λ (o : Nodes Kept). level_nodes o h.root u) keeps.rest ∙ ap (λ x. level_nodes (rest_in v) x u) keeps.root

  deeper : KeepsDeeper (rest_in v) (now_in v) (t + 1)
  deeper = deeper_of (now_in v) (rest_in v) root v.next v.limit t at_level.tree

  -- what is deeper than level t keeps its answers
  deep_answer : (k : ℕ) (p : Node Kept) → rest_in v k ≡ Some p → t + 1 < p.depth → answer_at (now_of h) k ≡ answer_at (rest_in v) k
  deep_answer k p e l = same_answers k ∙ ap (option_and_then answer_of) (deeper.deeper k p e l ∙ sym e)

  next_answer : (k : ℕ) → In k (level_nodes (now_of h) h.root (t + 1)) → answer_at (now_of h) k ≡ answer_at (rest_in v) k
  next_answer k i = by (rest_in v k) refl
    where
      d : (n : Node Kept) × (now_of h k ≡ Some n) × (n.depth ≡ t + 1 + 1)
      d = level_depth h.root (changes_in h) (now_of h) sound_made (t + 1) k i

      depth_by : (n : Node Kept) → kins (now_of h) k ≡ Some (kin_of n) → n.depth ≡ d.0.depth
      depth_by n e = ap (λ (z : Kin). z.depth) (same_Some (kin_of n) (kin_of d.0) (sym e ∙ ap (option_map kin_of) d.1))

      new : (o : Option (Node Kept)) → now_in v k ≡ o → rest_in v k ≡ None → answer_at (now_of h) k ≡ answer_at (rest_in v) k
      new None f e = same_answers k ∙ ap (option_and_then answer_of) (f ∙ sym e)
      new (Some y) f e =
          let less = deeper.none_deeper k y f e in
          let deep = depth_by y (renewals.stay k (kin_of y) (ap (option_map kin_of) f)) in
          let at = d.2 in absurd (omega (arith, less, deep, at))

      by : (o : Option (Node Kept)) → rest_in v k ≡ o → answer_at (now_of h) k ≡ answer_at (rest_in v) k
      by None e = new (now_in v k) refl e
      by (Some p) e =
          let deep = depth_by p (stay k (kin_of p) (ap (option_map kin_of) e)) in
          let at = d.2 in
          deep_answer k p e (omega (arith, deep, at))

  -- those that were on the next level keep theirs
  left_answer : (k : ℕ) → In k (level_nodes (rest_of h) h.root (t + 1)) → answer_at (now_of h) k ≡ answer_at (rest_in v) k
  left_answer k i =
      let d = level_depth root [] (rest_in v) (sound_old r spots) (t + 1) k (subst (In k) (was_level (t + 1)) i) in
      let at = d.2 in
      deep_answer k d.0 d.1 (omega (arith, at))

  -- 3. it is the system's

  module _ (few : total_of v.made + symbols_wanted (stage_of v) t ≤ v.limit) where
    within : sum_by length (meant_to v.next v.limit t) + length (level_nodes (now_of h) root (t + 1)) ≤ v.limit
    within = let total = total_is at t a.pass refl a.asked in let size = long_at_root in omega (arith, few, total, size)

    is : meaning_to v.next v.limit (t + 1) ≡ Ok (meant_to v.next v.limit (t + 1))
    is = next_is (now_in v) (now_of h) (rest_in v) root v.next v.limit t v.store (wanted_on_level v t) done at_level.tree ready renewals wanted within

    have : HaveLevels (now_of h) h.root v.next.seed (meant_to v.next v.limit (t + 1))
    have = rooted (λ x. HaveLevels (now_of h) x v.next.seed (meant_to v.next v.limit (t + 1))) (next_have (now_in v) (now_of h) (rest_in v) root v.next v.limit t v.store (wanted_on_level v t) done at_level.tree ready renewals wanted within)

    once : AreOnce (kins (now_of h)) h.root
    once = rooted (AreOnce (kins (now_of h))) renewals.once

    next_spots : SteppingSpots (next_of r h)
    next_spots = record {
      sound = keeps.sound;
      old_spelled = spots.old_spelled;
      new_spelled = spots.new_spelled;
      old_is = spots.old_is;
      new_is = is;
      old_levels = moved (λ o x. HaveLevels o x v.system.seed (levels_meant v.system v.limit)) spots.old_levels;
      new_levels = have;
      once = moved (λ o x. AreOnce (kins o) x) spots.once;
      once_now = once;
      stay = subst (λ (o : Nodes Kept). Extends (kins o) (kins (now_of h))) (sym keeps.rest) stay;
      answered = moved (λ o x. (p k : ℕ) → t + 1 < v.system.depth → slice_get (level_nodes o x (t + 1)) p ≡ Some k → AnsweredAt v.system (t + 1) o x v.store p k) (λ p k l e. rests.answered (t + 1) p k l e);
    }

    levels : AreLevels v.next v.limit (t + 1) (now_of h) h.root
    levels = record { spelled = spots.new_spelled; is = is; levels = have; once = once; changes = changes_in h; sound = sound_made }

    answered : AreAnswered v.next v.limit t (now_of h) h.root v.store
    answered = rooted (λ x. AreAnswered v.next v.limit t (now_of h) x v.store) (record {
      levels = record {
        spelled = spots.new_spelled;
        is = at_level.tree.is;
        levels = (let count = level_count v.next v.limit t (meant_to v.next v.limit t) at_level.tree.spelled at_level.tree.is in
            upper_levels root (changes_in v.forest) (now_in v) (now_of h) sound t (keeps_upper v.next.numbering v.next.seed (now_in v) (now_of h) root (t + 1) (wanted_on_level v t) done renewals) at_level.tree.once renewals.stay v.next.seed (meant_to v.next v.limit t) (omega (arith, count)) at_level.tree.levels);
        once = renewals.once;
        changes = changes_in h;
        sound = subst (λ x. IsRooted x (changes_in h) (now_of h)) keeps.root sound_made;
      };
      answered = λ p k e. answers_above v.next v.limit t (now_in v) (now_of h) root v.store (wanted_on_level v t) done ready renewals t p k (omega arith)
          (ready.answered p k (ap (λ (ks : List ℕ). slice_get ks p) (sym (nodes_above (now_in v) (now_of h) (rest_in v) root v.next v.limit t v.store (wanted_on_level v t) done at_level.tree ready renewals t (omega arith))) ∙ e));
    })

    -- 4. who is looked at

    families : (q : ℕ) → In q (level_nodes (now_of h) h.root t) → In q (told.touched ++ v.front.changes.came) ⊎ (In q (were r) × KeepsChildren (rest_in v) (now_of h) q)
    families = kept_families r v.seats v.front h (wanted_on_level v t) ps told spots deeper front made_next

    were_seated : AreSeated (rest_in v) (were (next_of r h)) v.seats
    were_seated = subst (λ (ks : List ℕ). AreSeated (rest_in v) ks v.seats) (sym (next_were r h (wanted_on_level v t) ps told spots made_next)) (rests.seated (t + 1))

    -- past the levels of the last rest there are no nodes
    none_were : v.system.depth ≤ t → level_nodes (rest_of h) h.root (t + 1) ≡ []
    none_were l =
        let count = level_count v.system v.limit v.system.depth (levels_meant v.system v.limit) rests.spelled rests.is in
        let past : length (levels_meant v.system v.limit) + (t + 1 - length (levels_meant v.system v.limit)) ≡ t + 1 = omega (arith, count, l) in
        was_level (t + 1) ∙ ap (level_nodes (rest_in v) root) (sym past) ∙ no_more (rest_in v) root (length (levels_meant v.system v.limit)) (t + 1 - length (levels_meant v.system v.limit)) rests.ends

    looked_enough : (looked : List ℕ) → (t < v.system.depth → LooksBelow h (told.touched ++ v.front.changes.came) turned looked)
        → (k : ℕ) → In k (level_nodes (now_of h) h.root (t + 1)) → In k (level_nodes (rest_of h) h.root (t + 1)) → In k looked ⊎ (neighbours_in h k ≡ neighbours_at v.seats k)
    looked_enough looked looks k i j = elim (cases_lt t v.system.depth) [
      | inl l ↦
          next_looks r v.seats v.front h (wanted_on_level v t) (kept_successors (now_of h)) ps told looked spots l front made_next levels
          (answered_level v.next v.limit t (now_of h) h.root v.store answered).replaced families (looks l) were_seated k i j
      | inr l ↦ absurd (subst (In k) (none_were l) j)
    ]

    -- 5. the pass

    module _ (seats : List Seat) (made : List Size) (d : Differences) (same : SameSeats v.seats seats) (kept : KeepsSeats v.seats seats) (room : (k : ℕ) → IsLive h k → HasSeat seats k) (bare : d.bare ≡ [])
        (tells : IsToldNext h v.front told d.changes) (looks : t < v.system.depth → LooksBelow h (told.touched ++ v.front.changes.came) turned d.changes.looked) (adds : AddsBelow h t [] d.changes.looked) (deep : t < v.next.depth) where
      abbrev after : PassView
      after = record v { forest = h; seats = seats; made = made; front = d }

      differs : Differs (next_of r h) d.changes
      differs = next_differs r v.seats v.front h (wanted_on_level v t) ps told spots deeper front made_next d.changes tells

      is_made : IsMadeTo after (t + 1)
      is_made = record {
        spots = next_spots;
        within = omega (arith, deep);
        deeper = subst (λ (o : Nodes Kept). KeepsDeeper o (now_of h) (t + 1 + 1)) (sym keeps.rest) (deeper_next (now_in v) (now_of h) (rest_in v) root v.next v.limit t v.store (wanted_on_level v t) done at_level.tree ready renewals);
        counts = renewals.small;
        answers = λ k i. next_answer k i ∙ sym (was_answer k);
        renewed_are = λ k i. let x = at_level.lists.renewed_are k i in (x.0, (let l = x.1 in omega (arith, l)), subst (In k) (sym (rows x.0 x.1)) x.2);
        faults = a.asked.faults;
        pending = a.asked.pending;
        room = λ k n e. room k (subst IsSome (sym e) refl);
      }

      lists : HasListsBefore (stage_of after) (t + 1)
      lists = record {
        fresh = λ k b e. elim (at_level.lists.fresh k b (sym (same_answers k) ∙ e)) [ inl i ↦ inl i | inr f ↦ inr (was_answer k ∙ f) ];
        dropped_apart = at_level.lists.dropped_apart;
        dropped_had = λ k i e. at_level.lists.dropped_had k i (sym (was_answer k) ∙ e);
        dropped_none = λ k u i l j. let le : u ≤ t = omega (arith, l) in same_answers k ∙ at_level.lists.dropped_are k u i le (subst (In k) (rows u le) j);
        lost = λ k u b l e i.
            let le : u ≤ t = omega (arith, l) in
            elim (at_level.lists.lost k u b le (sym (was_answer k) ∙ e) (subst (In k) (was_level u) i)) [ inl j ↦ inl j | inr j ↦ inr (subst (In k) (sym (rows u le)) j) ];
        seated = λ u p k l e.
            let le : u ≤ t = omega (arith, l) in
            elim (at_level.seats.seated u p k le (ap (λ (ks : List ℕ). slice_get ks p) (sym (rows u le)) ∙ e)) [
              | inl i ↦ inl i
              | inr s ↦ inr (same k ∙ s ∙ sym (same_on v.forest h u p (same_level u le)))
            ];
        moved_are = λ k i. let x = at_level.seats.moved_are k i in (x.0, (let l = x.1 in omega (arith, l)), subst (In k) (sym (rows x.0 x.1)) x.2);
        room = λ k i. kept k (at_level.seats.room k i);
      }

      dropped : AreDroppedBefore (stage_of after) (t + 1)
      dropped k i = let x = at_level.lists.dropped_at k i in (x.0, (let l = x.1 in omega (arith, l)), subst (In k) (sym (was_level x.0)) x.2)

      looked : WasLookedAt after (t + 1)
      looked = record {
        looked = λ k i j. elim (looked_enough d.changes.looked looks k i j) [ inl l ↦ inl l | inr e ↦ inr (e ∙ sym (same k)) ];
        looked_are = λ k i. elim (adds k i) [ inl none ↦ absurd none | inr on ↦ on ];
      }

      pub is_fresh : WasJustMade after (t + 1)
      is_fresh = record {
        made = is_made;
        lists = lists;
        dropped = dropped;
        differs = differs;
        gone_once = gone_each r v.seats v.front h (wanted_on_level v t) ps told spots deeper front made_next d.changes tells;
        gone_keep = λ k i. left_answer k ((differs.gone k).0 i).0 ∙ sym (was_answer k);
        bare = bare;
        looks = looked;
      }

      run : KeepsRest (stage_of v) (stage_of after)
      run = record { system = refl; limit = refl; root = keeps.root; was = keeps.rest; store = refl; reads = refl; listed = refl; renewed = refl; born = refl; same_seats = same }

      pub goes_below : Goes (stage_of v) (stage_of after) (t + 1)
      goes_below = record {
        next = refl;
        run = run;
        above = record {
          nodes = λ u l. rows u (omega (arith, l));
          spots = λ u l. row_spots u (omega (arith, l));
          names = renewals.stay;
          kept = λ u k l i. same_answers k;
          same = λ k b e. sym (same_answers k) ∙ e;
          gone = λ k b e. inr (same_answers k ∙ e);
        };
        more = λ k i. i;
      }

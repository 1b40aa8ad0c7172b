-- A level that becomes the last one.
use Rattle.std.proofs.Common.{◌≡◌, ◌⊎◌, ◌+◌, ◌-◌, ◌<◌, ◌≤◌, ◌^◌, ℕ, zero, suc, List, [], ◌∷◌, ◌++◌, length, map, Option, Some, None, Ok, refl, sym, ap, ◌∙◌, subst, inl, inr, arith, slice_get}
use Rattle.std.specs.Prelude.{option_map}
use Rattle.std.specs.Option.{option_and_then}
use Rattle.std.proofs.Math.Path.{fun_ext}
use Rattle.std.proofs.lemmas.Bool.{cases_lt}
use Rattle.std.proofs.lemmas.Option.{none-some, same_Some}
use Rattle.lsys_spec.specs.Rows.{In, AreApart, first_in}
use Rattle.lsys_spec.specs.Meaning.{meaning, meaning_to}
use Rattle.lsys_spec.specs.Standings.{mate_at}
use Rattle.lsys_laws.specs.Nodes.{Kins, AreOnce}
use Rattle.lsys_laws.specs.Seams.{node_before}
use Rattle.lsys_laws.proofs.UpTo.{level_count}
use Rattle.lsys_level.specs.Spots.{Spotted, named}
use Rattle.lsys_match.specs.Kept.{Kept}
use Rattle.lsys_forest.specs.Nodes.{Node, Nodes}
use Rattle.lsys_forest.specs.Groves.{Grove, IsRooted, ReachedIn, Reached, now_of, rest_of, changes_in}
use Rattle.lsys_forest.specs.Rows.{kids_below, level_nodes, level_spots}
use Rattle.lsys_forest.proofs.RowLemmas.{In_append, In_left, In_right, apart_append, level_depth, level_apart}
use Rattle.lsys_forest.proofs.SoundLemmas.{AreSound-now, AreSound-then}
use Rattle.lsys_reads.specs.Lineages.{kins}
use Rattle.lsys_reads.specs.Levels.{HaveLevels, answer_at}
use Rattle.lsys_reads.specs.Meant.{levels_meant, meant_to}
use Rattle.lsys_reads.specs.Neighbours.{Neighbours, neighbours_on}
use Rattle.lsys_reads.specs.Seats.{neighbours_at}
use Rattle.lsys_children.proofs.Renewing.{in_cases}
use Rattle.lsys_front.specs.Repairs.{Repair, are}
use Rattle.lsys_front.specs.Repairs as R
use Rattle.lsys_front.specs.Found.{LevelChanges}
use Rattle.lsys_front.specs.Ends.{ended_node, AreEnded, is_answered, answered_in, rows_from}
use Rattle.lsys_front.specs.LastLevels.{IsLevelEnded, IsAfterAll, IsLastLevel, HadAnswerAfter, HasAllAfter, all_below}
use Rattle.lsys_front.proofs.RowsBelow.{filter_in, in_filter, filter_apart, answered, is_answered_by}
use Rattle.lsys_front.proofs.LastLevels.{is_ended, is_bare, has_after}
use Rattle.lsys_pass.specs.Lasts.{dropped_at_end}
use Rattle.lsys_pass.specs.Stages.{Stage, Rests}
use Rattle.lsys_pass.specs.Advances.{KeepsRest, HasLastLevel}
use Rattle.lsys_pass.specs.Passes.{PassView, stage_of, now_in, rest_in, repair_of, IsPass}
use Rattle.lsys_pass.specs.Fresh.{row_of, Goes, HasListsBefore, HasFound, IsLast}
use Rattle.lsys_pass.proofs.Before.{reached_on, no_more, count_is, is_below, placed, answer_lives}
use Rattle.lsys_pass.proofs.Closing.{on_reached}

-- 1. the level ends

-- By this forest the level of the repair is the last one, and these are the nodes that it drops: those of the level that kept an
-- answer, and those after it that had one.
pub record EndsBy (r : Repair) (f : Grove Kept) (more : List ℕ) : Type 0 where
  pub ended : IsLevelEnded r (now_of f)
  pub root : f.root ≡ r.forest.root
  pub rest : rest_of f ≡ R.rest r
  pub lived : (k : ℕ) (n : Node Kept) → now_of f k ≡ Some n → (p : Node Kept) × (R.now r k ≡ Some p)
  pub apart : AreApart more
  pub dropped : (k : ℕ) → In k more
      → (In k (are r) × (a : Kept) × (answer_at (R.now r) k ≡ Some a))
      ⊎ (HadAnswerAfter r k × (Reached (now_of f) (R.root r) k → ⊥))
  pub here : (k : ℕ) (a : Kept) → In k (are r) → answer_at (R.now r) k ≡ Some a → In k more
  pub after : (k : ℕ) → HadAnswerAfter r k → In k more

was_some : (o : Option (Node Kept)) (n : Node Kept) → option_map ended_node o ≡ Some n → (p : Node Kept) × (o ≡ Some p)
was_some None n e = absurd (none-some n e)
was_some (Some p) n e = (p, refl)

-- the nodes of the level lost what they had
module _ (r : Repair) (c : LevelChanges) (f : Grove Kept) (l : IsLastLevel r c) (e : AreEnded (R.now r) (now_of f) (are r)) where
  abbrev m : Nodes Kept
  m = now_of f

  sound : IsRooted (R.root r) (changes_in r.forest) (R.now r)
  sound = AreSound-now (R.root r) (changes_in r.forest) (R.now r) l.spots.sound

  ends : IsLevelEnded r m
  ends = is_ended r m l.spots e

  all : HasAllAfter r c m
  all = has_after r c m l e

  abbrev rows : List ℕ
  rows = rows_from m (r.old.depth - r.level) (all_below r c)

  reached_here : (k : ℕ) → In k (are r) → Reached m (R.root r) k
  reached_here k i = on_reached m (R.root r) r.level k (subst (In k) (sym (ends.nodes r.level (omega arith))) i)

  pub ends_by : f.root ≡ r.forest.root → rest_of f ≡ R.rest r → EndsBy r f (answered_in (R.now r) (are r) ++ answered_in m rows)
  ends_by root rest = record {
    ended = ends;
    root = root;
    rest = rest;
    lived = λ k n is. elim (in_cases k (are r)) [
      | inl i ↦ was_some (R.now r k) n (sym (e.here k i) ∙ is)
      | inr out ↦ (n, sym (e.others k out) ∙ is)
    ];
    apart =
        apart_append (answered_in (R.now r) (are r)) (answered_in m rows)
        (filter_apart (is_answered (R.now r)) (are r) (level_apart (R.root r) (changes_in r.forest) (R.now r) sound r.level)) (all.answers_once (r.old.depth - r.level))
        (λ k i j. all.unreached (r.old.depth - r.level) k (filter_in (is_answered m) rows k j).0 (reached_here k (filter_in (is_answered (R.now r)) (are r) k i).0));
    dropped = λ k i. elim (In_append (answered_in (R.now r) (are r)) (answered_in m rows) k i) [
      | inl a ↦ let q = filter_in (is_answered (R.now r)) (are r) k a in let a = answered (R.now r) k q.1 in inl (q.0, a.0, a.1)
      | inr b ↦ inr ((all.answers k).0 b, all.unreached (r.old.depth - r.level) k (filter_in (is_answered m) rows k b).0)
    ];
    here = λ k a i is. In_left k (answered_in (R.now r) (are r)) (answered_in m rows) (in_filter (is_answered (R.now r)) (are r) k i (is_answered_by (R.now r) k a is));
    after = λ k h. In_right k (answered_in (R.now r) (are r)) (answered_in m rows) ((all.answers k).1 h);
  }

  -- as the forest tells it
  pub dropped_are : (levels : ℕ) → levels ≡ r.old.depth - r.level → dropped_at_end (R.now r) m (are r) c.gone levels ≡ answered_in (R.now r) (are r) ++ answered_in m rows
  dropped_are levels same =
      ap (λ n. dropped_at_end (R.now r) m (are r) c.gone n) same
      ∙ ap (λ (ks : List ℕ). answered_in (R.now r) (are r) ++ answered_in m (rows_from m (r.old.depth - r.level) (kids_below (R.now r) (are r) ++ ks))) all.gone

-- or they had nothing
pub ends_bare : (r : Repair) → (s : R.SteppingSpots r) → IsAfterAll r → EndsBy r r.forest []
ends_bare r s b =
    let e : IsLevelEnded r (R.now r) = is_bare r s b in
    record {
      ended = e;
      root = refl;
      rest = refl;
      lived = λ k n is. (n, is);
      apart = tt;
      dropped = λ k none. absurd none;
      here = λ k a i is. absurd (none-some a (sym (e.no_answers k i) ∙ is));
      after = λ k h. absurd (let one = h.after in let two = h.within in let three = b.depth in omega (arith, one, two, three));
    }

-- 2. a pass at that level

-- the neighbours as the nodes and what is seen of them tell them
abbrev neighbours_by : List ℕ → List Spotted → ℕ → Neighbours
neighbours_by xs row p = record {
  left = node_before xs p;
  right = slice_get xs (p + 1);
  mate = option_and_then first_in (mate_at (map (named (λ k. k ∷ [])) row) p (slice_get (map (named (λ k. k ∷ [])) row) p));
}

module _ (v : PassView) (t : ℕ) (beside readers : List ℕ) (h : IsPass v) (found : HasFound v t beside readers) where
  rests : Rests (stage_of v)
  rests = found.rest

  sound_now : IsRooted v.forest.root (changes_in v.forest) (now_in v)
  sound_now = AreSound-now v.forest.root (changes_in v.forest) (now_in v) found.made.spots.sound

  pub sound_was : IsRooted v.forest.root [] (rest_in v)
  sound_was = AreSound-then v.forest.root (changes_in v.forest) (now_in v) found.made.spots.sound

  pub is_last_level : IsLastLevel (repair_of v t) v.front.changes
  is_last_level = record { spots = found.made.spots; deeper = found.made.deeper; differs = found.front.differs; gone_once = found.front.gone_once }

  -- the last rest had no answers from this level on
  pub is_after : v.system.depth ≤ t → IsAfterAll (repair_of v t)
  is_after l = record {
    deeper = found.made.deeper;
    depth = l;
    ends = ap (level_nodes (rest_in v) v.forest.root) (sym (count_is v.system v.limit (rest_in v) v.forest.root v.store v.reads v.seats rests)) ∙ rests.ends;
    last = λ k i. rests.others k (inr i);
    same = λ k i. inr (found.made.answers k i);
  }

  -- no node is on two levels
  one_now : (u w k : ℕ) → In k (row_of v u) → In k (row_of v w) → u ≡ w
  one_now u w k i j =
      let p = level_depth v.forest.root (changes_in v.forest) (now_in v) sound_now u k i in
      let q = level_depth v.forest.root (changes_in v.forest) (now_in v) sound_now w k j in
      let same : p.0.depth ≡ q.0.depth = ap (λ (n : Node Kept). n.depth) (same_Some p.0 q.0 (sym p.1 ∙ q.1)) in
      let d = p.2 in
      let e = q.2 in
      omega (arith, same, d, e)

  one_was : (u w k : ℕ) → In k (level_nodes (rest_in v) v.forest.root u) → In k (level_nodes (rest_in v) v.forest.root w) → u ≡ w
  one_was u w k i j =
      let p = level_depth v.forest.root [] (rest_in v) sound_was u k i in
      let q = level_depth v.forest.root [] (rest_in v) sound_was w k j in
      let same : p.0.depth ≡ q.0.depth = ap (λ (n : Node Kept). n.depth) (same_Some p.0 q.0 (sym p.1 ∙ q.1)) in
      let d = p.2 in
      let e = q.2 in
      omega (arith, same, d, e)

  module _ (f : Grove Kept) (more ds : List ℕ) (x : EndsBy (repair_of v t) f more) (lists : ds ≡ v.dropped ++ more) where
    abbrev v' : PassView
    v' = record v { forest = f; dropped = ds }

    abbrev s' : Stage
    s' = stage_of v'

    level_is : (u : ℕ) → u ≤ t → row_of v' u ≡ row_of v u
    level_is u l = ap (λ r. level_nodes (now_of f) r u) x.root ∙ x.ended.nodes u l

    spots_are : (u : ℕ) → u ≤ t → level_spots (now_of f) f.root u ≡ level_spots (now_in v) v.forest.root u
    spots_are u l = ap (λ r. level_spots (now_of f) r u) x.root ∙ x.ended.spots u l

    was_level : (u : ℕ) → level_nodes (rest_of f) f.root u ≡ level_nodes (rest_in v) v.forest.root u
    was_level u = ap (λ r. level_nodes (rest_of f) r u) x.root ∙ ap (λ (o : Nodes Kept). level_nodes o v.forest.root u) x.rest

    was_same : (k : ℕ) → answer_at (rest_of f) k ≡ answer_at (rest_in v) k
    was_same k = ap (λ (o : Nodes Kept). answer_at o k) x.rest

    -- an answer that is still kept is none of the level
    still : (k : ℕ) (a : Kept) → answer_at (now_of f) k ≡ Some a → (In k (row_of v t) → ⊥) × (answer_at (now_in v) k ≡ Some a)
    still k a e = elim (in_cases k (row_of v t)) [
      | inl i ↦ absurd (none-some a (sym (x.ended.no_answers k i) ∙ e))
      | inr out ↦ (out, sym (x.ended.answers k out) ∙ e)
    ]

    was_in : (k : ℕ) → In k v.dropped → In k ds
    was_in k i = subst (In k) (sym lists) (In_left k v.dropped more i)

    more_in : (k : ℕ) → In k more → In k ds
    more_in k i = subst (In k) (sym lists) (In_right k v.dropped more i)

    each_in : (k : ℕ) → In k ds → In k v.dropped ⊎ In k more
    each_in k i = In_append v.dropped more k (subst (In k) lists i)

    reached_on_level : (u k : ℕ) → u ≤ t → In k (row_of v u) → Reached (now_of f) f.root k
    reached_on_level u k l i = on_reached (now_of f) f.root u k (subst (In k) (sym (level_is u l)) i)

    -- 3. what is kept of the levels

    dropped_two : (k : ℕ) → In k v.dropped → In k more → ⊥
    dropped_two k i j = elim (x.dropped k j) [
      | inl q ↦ none-some q.1 (sym (found.lists.dropped_none k t i (omega arith) q.0) ∙ q.2)
      | inr q ↦ (
          let d = found.dropped k i in
          let same : d.0 ≡ q.0.level = one_was d.0 q.0.level k d.2 q.0.there in
          let one = d.1 in
          let two = q.0.after in
          absurd (omega (arith, same, one, two))
          )
    ]

    dropped_had : (k : ℕ) → In k ds → answer_at (rest_of f) k ≡ None → ⊥
    dropped_had k i none = elim (each_in k i) [
      | inl j ↦ found.lists.dropped_had k j (sym (was_same k) ∙ none)
      | inr j ↦ elim (x.dropped k j) [
        | inl q ↦ none-some q.1 (sym none ∙ was_same k ∙ sym (found.made.answers k q.0) ∙ q.2)
        | inr q ↦ none-some q.0.answer (sym none ∙ was_same k ∙ q.0.kept)
      ]
    ]

    dropped_none : (k u : ℕ) → In k ds → u < t + 1 → In k (row_of v' u) → answer_at (now_of f) k ≡ None
    dropped_none k u i l on =
        let le : u ≤ t = omega (arith, l) in
        let old : In k (row_of v u) = subst (In k) (level_is u le) on in
        elim (in_cases k (row_of v t)) [
          | inl here ↦ x.ended.no_answers k here
          | inr out ↦ x.ended.answers k out
              ∙ elim (each_in k i) [
                | inl j ↦ found.lists.dropped_none k u j l old
                | inr j ↦ elim (x.dropped k j) [
                  | inl q ↦ absurd (out q.0)
                  | inr q ↦ absurd (q.1 (subst (λ r. Reached (now_of f) r k) x.root (reached_on_level u k le old)))
                ]
              ]
        ]

    lost : (k u : ℕ) (a : Kept) → u < t + 1 → answer_at (rest_of f) k ≡ Some a → In k (level_nodes (rest_of f) f.root u) → In k ds ⊎ In k (row_of v' u)
    lost k u a l e i = elim (found.lists.lost k u a l (sym (was_same k) ∙ e) (subst (In k) (was_level u) i)) [
      | inl j ↦ inl (was_in k j)
      | inr j ↦ inr (subst (In k) (sym (level_is u (omega (arith, l)))) j)
    ]

    beside_same : (u p : ℕ) → u ≤ t → neighbours_on (now_of f) (row_of v' u) p ≡ neighbours_on (now_in v) (row_of v u) p
    beside_same u p l = ap (λ (xs : List ℕ). neighbours_by xs (level_spots (now_of f) f.root u) p) (level_is u l) ∙ ap (λ (row : List Spotted). neighbours_by (row_of v u) row p) (spots_are u l)

    seated : (u p k : ℕ) → u < t + 1 → slice_get (row_of v' u) p ≡ Some k → In k v.moved ⊎ (neighbours_at v.seats k ≡ neighbours_on (now_of f) (row_of v' u) p)
    seated u p k l e =
        let le : u ≤ t = omega (arith, l) in
        elim (found.lists.seated u p k l (ap (λ (xs : List ℕ). slice_get xs p) (sym (level_is u le)) ∙ e)) [
          | inl i ↦ inl i
          | inr same ↦ inr (same ∙ sym (beside_same u p le))
        ]

    pub has_lists : HasListsBefore s' (t + 1)
    has_lists = record {
      fresh = λ k a e. elim (found.lists.fresh k a (still k a e).1) [ inl i ↦ inl i | inr g ↦ inr (was_same k ∙ g) ];
      dropped_apart = subst AreApart (sym lists) (apart_append v.dropped more found.lists.dropped_apart x.apart dropped_two);
      dropped_had = dropped_had;
      dropped_none = dropped_none;
      lost = lost;
      seated = seated;
      moved_are = λ k i. let w = found.lists.moved_are k i in (w.0, w.1, subst (In k) (sym (level_is w.0 (let l = w.1 in omega (arith, l)))) w.2);
      room = found.lists.room;
    }

    -- 4. the levels before it stay

    keeps_rest : KeepsRest (stage_of v) s'
    keeps_rest = record {
      system = refl;
      limit = refl;
      root = x.root;
      was = x.rest;
      store = refl;
      reads = refl;
      listed = refl;
      renewed = refl;
      born = refl;
      same_seats = λ k. refl;
    }

    pub goes : Goes (stage_of v) s' t
    goes = record {
      next = refl;
      run = keeps_rest;
      above = record {
        nodes = λ u l. level_is u (omega (arith, l));
        spots = λ u l. spots_are u (omega (arith, l));
        names = λ k n e. x.ended.kin k ∙ e;
        kept = λ u k l i. x.ended.answers k (λ j. (let same = one_now u t k i j in absurd (omega (arith, same, l))));
        same = λ k a e. (still k a e).1;
        gone = λ k a e. elim (in_cases k (row_of v t)) [
          | inl i ↦ inl (more_in k (x.here k a i e))
          | inr out ↦ inr (x.ended.answers k out ∙ e)
        ];
      };
      more = was_in;
    }

    pub rows_stay : (u : ℕ) → u ≤ t → row_of v' u ≡ row_of v u
    rows_stay = level_is

    -- 5. it is the last level

    reached : (k : ℕ) (a : Kept) → answer_at (now_of f) k ≡ Some a → Reached (now_of f) f.root k ⊎ In k ds
    reached k a e = elim (found.lists.fresh k a (still k a e).1) [
      | inl i ↦ (let w = found.made.renewed_are k i in inl (reached_on_level w.0 k (let l = w.1 in omega (arith, l)) w.2))
      | inr g ↦ (
          let n = answer_lives (rest_in v) k a g in
          let p = placed v.system v.limit (rest_in v) v.forest.root v.store v.reads v.seats rests k n.0 a n.1 g in
          by g p.level p.on
          )
    ]
      where
        by : answer_at (rest_in v) k ≡ Some a → (w : ℕ) → In k (level_nodes (rest_in v) v.forest.root w) → Reached (now_of f) f.root k ⊎ In k ds
        by g w on = elim (cases_lt t w) [
          | inl far ↦ inr (more_in k (x.after k (record {
            level = w;
            after = far;
            within = let l = is_below v.system v.limit (rest_in v) v.forest.root v.store v.reads v.seats rests w k a on g in omega (arith, l);
            there = on;
            answer = a;
            kept = g;
          })))
          | inr near ↦ elim (found.lists.lost k w a (omega (arith, near)) g on) [
            | inl i ↦ inr (was_in k i)
            | inr i ↦ inl (reached_on_level w k near i)
          ]
        ]

    module _ (depth : v.next.depth ≡ t) (small : t < 2 ^ 32) where
      is_meant : meaning v.next v.limit ≡ Ok (levels_meant v.next v.limit)
      is_meant = subst (λ d. meaning_to v.next v.limit d ≡ Ok (meant_to v.next v.limit d)) (sym depth) found.made.spots.new_is

      count : length (levels_meant v.next v.limit) ≡ t + 1
      count = let c = level_count v.next v.limit v.next.depth (levels_meant v.next v.limit) found.made.spots.new_spelled is_meant in omega (arith, c, depth)

      none_below : level_nodes (now_of f) f.root (length (levels_meant v.next v.limit)) ≡ []
      none_below = ap (level_nodes (now_of f) f.root) count ∙ ap (λ r. level_nodes (now_of f) r (t + 1)) x.root ∙ x.ended.none_below

      -- a node that is reached is the root, or on a level that there is
      dropped_reached : (k d : ℕ) → In k ds → ReachedIn (now_of f) f.root d k → answer_at (now_of f) k ≡ None
      dropped_reached k zero i at = absurd (dropped_had k i (was_same k ∙ rests.others k (inl (at ∙ x.root))))
      dropped_reached k (suc d) i at =
          let on : In k (row_of v' d) = reached_on (now_of f) f.root d k at in
          elim (cases_lt t d) [
            | inl far ↦ (
                let past = no_more (now_of f) f.root (length (levels_meant v.next v.limit)) (d - length (levels_meant v.next v.limit)) none_below in
                let same : length (levels_meant v.next v.limit) + (d - length (levels_meant v.next v.limit)) ≡ d = (let c = count in omega (arith, c, far)) in
                absurd (subst (In k) (sym (ap (level_nodes (now_of f) f.root) same) ∙ past) on)
                )
            | inr near ↦ dropped_none k d i (omega (arith, near)) on
          ]

      ends_at : HasLastLevel s' t
      ends_at = record {
        depth = depth;
        spelled = found.made.spots.new_spelled;
        is = is_meant;
        levels =
            subst (λ r. HaveLevels (now_of f) r v.next.seed (levels_meant v.next v.limit)) (sym x.root)
            (subst (λ d. HaveLevels (now_of f) v.forest.root v.next.seed (meant_to v.next v.limit d)) (sym depth) x.ended.levels);
        small = omega (arith, depth, small);
        counts = x.ended.small found.made.counts;
        none_below = none_below;
        once =
            subst (AreOnce (kins (now_of f))) (sym x.root)
            (subst (λ (ks : Kins). AreOnce ks v.forest.root) (sym (fun_ext x.ended.kin)) found.made.spots.once_now);
        stay = λ k n e. x.ended.kin k ∙ found.made.spots.stay k n (ap (λ (o : Nodes Kept). kins o k) (sym x.rest) ∙ e);
        last = λ k i. x.ended.no_answers k (subst (In k) (level_is t (omega arith)) i);
        reached = reached;
        dropped_none = λ k i at. dropped_reached k at.0 i at.1;
      }

      pub is_last : IsLast v' t
      is_last = record {
        lists = has_lists;
        ends = ends_at;
        room = λ k n e. let p = x.lived k n e in found.made.room k p.0 p.1;
      }

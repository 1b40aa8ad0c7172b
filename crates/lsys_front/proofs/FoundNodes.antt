-- The nodes that are found are the candidates.
use Rattle.std.proofs.Common.{false, ◌≡◌, ◌⊎◌, ◌↔◌, ◌+◌, ◌-◌, ℕ, zero, suc, List, ◌++◌, Option, Some, None, refl, sym, ap, ◌∙◌, subst, inl, inr, arith}
use Rattle.std.specs.Prelude.{slice_get}
use Rattle.std.proofs.lemmas.Bool.{cases_eq}
use Rattle.std.proofs.lemmas.Option.{none-some, same_Some}
use Rattle.lsys_spec.specs.Rows.{In}
use Rattle.lsys_spec.specs.Levels.{ModuleValue}
use Rattle.lsys_level.specs.Spots.{Module, named}
use Rattle.lsys_reads.specs.Relations.{Relations}
use Rattle.lsys_laws.specs.Seams.{node_before}
use Rattle.lsys_forest.specs.Groves.{changes_in}
use Rattle.lsys_forest.specs.Rows.{depth_in, index_in, spot_in, level_nodes, level_of_node}
use Rattle.lsys_forest.proofs.RowLemmas.{level_depth, In_append, In_left, In_right}
use Rattle.lsys_reads.specs.Lineages.{names}
use Rattle.lsys_reads.specs.Levels.{HasRead, tags_read}
use Rattle.lsys_laws.specs.Groups.{has_same_rules}
use Rattle.lsys_reads.specs.declared.seat.Seat.{Seat}
use Rattle.lsys_reads.specs.Neighbours.{Neighbours, neighbours_on, neighbours_in}
use Rattle.lsys_reads.specs.Seats.{neighbours_at}
use Rattle.lsys_forest.specs.Pairs.{seen_at}
use Rattle.lsys_reads.proofs.LevelLemmas.{got_in, place_in, get_index, index_less, symbol_at}
use Rattle.lsys_front.specs.Found.{LevelChanges}
use Rattle.lsys_front.specs.Finds.{IsTurned, IsBeside}
use Rattle.lsys_front.specs.Found.{IsOther, IsFound, IsAmong, SteppingNodes}
use Rattle.lsys_front.specs.Repairs.{Repair, now, rest, root, were, are}
use Rattle.lsys_front.specs.Candidates.{IsUndisturbed, MayDiffer, was_last, moved, read_moved, other_rules, AsksNow, IsCandidateNode}
use Rattle.lsys_front.proofs.Gathering.{not_both}
use Rattle.lsys_front.proofs.Spots.{is_in, sound_new, name, new_is_level}
use Rattle.lsys_front.proofs.Nodes.{was_asked, has_asked}

-- 1. whether two answers on neighbours are the same

same_or_not : (a b : Option ℕ) → (a ≡ b) ⊎ (a ≡ b → ⊥)
same_or_not None None = inl refl
same_or_not None (Some y) = inr (λ e. none-some y e)
same_or_not (Some x) None = inr (λ e. none-some x (sym e))
same_or_not (Some x) (Some y) = elim (cases_eq x y) [ inl e ↦ inl (ap Some e) | inr ne ↦ inr (λ e. ne (same_Some x y e)) ]

pub same_neighbours : (a b : Neighbours) → (a ≡ b) ⊎ (a ≡ b → ⊥)
same_neighbours a b = elim (same_or_not a.left b.left) [
  | inr n ↦ inr (λ e. n (ap (λ x. x.left) e))
  | inl l ↦ elim (same_or_not a.right b.right) [
    | inr n ↦ inr (λ e. n (ap (λ x. x.right) e))
    | inl r ↦ elim (same_or_not a.mate b.mate) [
      | inr n ↦ inr (λ e. n (ap (λ x. x.mate) e))
      | inl m ↦ inl (λ i. record { left = l i; right = r i; mate = m i })
    ]
  ]
]

before_is : (xs : List ℕ) (q j : ℕ) → node_before xs q ≡ Some j → (p : ℕ) × (q ≡ p + 1) × (slice_get xs p ≡ Some j)
before_is xs zero j h = absurd (none-some j h)
before_is xs (suc p) j h = (p, omega arith, h)

is_before : (xs : List ℕ) (q j : ℕ) → slice_get xs q ≡ Some j → node_before xs (q + 1) ≡ Some j
is_before xs q j h = let n : q + 1 ≡ suc q = omega arith in ap (node_before xs) n ∙ h

module _ (r : Repair) (seats : List Seat) (reads : Relations) (c : LevelChanges) (others : List ℕ) (s : SteppingNodes r seats reads c others) where
  -- 2. neighbours now

  at_level : (k : ℕ) → In k (are r) → level_of_node r.forest k ≡ r.level
  at_level k h =
      let d = level_depth (root r) (changes_in r.forest) (now r) (sound_new r s.spots) r.level k h in
      ap (λ o. depth_in o - 1) d.1 ∙ omega (arith, d.2)

  place_is : (k p : ℕ) → slice_get (are r) p ≡ Some k → index_in k (are r) ≡ p
  place_is k p h =
      (new_is_level r s.spots).apart (index_in k (are r)) p (named (name r s.spots) (spot_in k (now r k))) (named (name r s.spots) (spot_in k (now r k)))
      (symbol_at (name r s.spots) (now r) (are r) (index_in k (are r)) k (get_index k (are r) (index_less k (are r) p h))) (symbol_at (name r s.spots) (now r) (are r) p k h) refl

  neighbours_are : (k p : ℕ) → slice_get (are r) p ≡ Some k → neighbours_in r.forest k ≡ neighbours_on (now r) (are r) p
  neighbours_are k p h =
      let level : level_nodes (now r) (root r) (level_of_node r.forest k) ≡ are r = ap (λ t. level_nodes (now r) (root r) t) (at_level k (got_in (are r) p k h)) in
      ap (λ xs. neighbours_on (now r) xs (index_in k xs)) level ∙ ap (neighbours_on (now r) (are r)) (place_is k p h)

  -- of a node that stands still
  still_seated : (k : ℕ) → IsUndisturbed r k → neighbours_in r.forest k ≡ neighbours_at seats k
  still_seated k t = neighbours_are k t.new_place t.is_there ∙ t.same.neighbours ∙ sym (s.seated t.old_place k t.was_there)

  -- 3. what was found does not stand still

  turned_moved : (k : ℕ) → IsTurned r.forest seats c.looked k → IsUndisturbed r k → ⊥
  turned_moved k t still = t.turned (still_seated k still)

  changed_moved : (j k : ℕ) → In j c.changed → IsUndisturbed r k → (neighbours_in r.forest j).left ≡ Some k → ⊥
  changed_moved j k h t e =
      let ch = (s.differs.changed j).0 h in
      let q = place_in j (are r) ch.0 in
      let b = before_is (are r) q.0 k (sym (ap (λ n. n.left) (neighbours_are j q.0 q.1)) ∙ e) in
      let place : b.0 ≡ t.new_place = sym (place_is k b.0 b.2) ∙ place_is k t.new_place t.is_there in
      let right : slice_get (are r) (t.new_place + 1) ≡ Some j = ap (slice_get (are r)) (ap (λ n. n + 1) (sym place) ∙ sym b.1) ∙ q.1 in
      ch.2 (t.same.right j (sym (ap (λ n. n.right) t.same.neighbours) ∙ right))

  changed_moves : (j k : ℕ) → In j c.changed → IsUndisturbed r k → (neighbours_in r.forest j).right ≡ Some k → ⊥
  changed_moves j k h t e =
      let ch = (s.differs.changed j).0 h in
      let q = place_in j (are r) ch.0 in
      let b : slice_get (are r) (q.0 + 1) ≡ Some k = sym (ap (λ n. n.right) (neighbours_are j q.0 q.1)) ∙ e in
      let place : q.0 + 1 ≡ t.new_place = sym (place_is k (q.0 + 1) b) ∙ place_is k t.new_place t.is_there in
      let left : node_before (are r) t.new_place ≡ Some j = ap (node_before (are r)) (sym place) ∙ is_before (are r) q.0 j q.1 in
      ch.2 (t.same.left j (sym (ap (λ n. n.left) t.same.neighbours) ∙ left))

  beside_moved : (k : ℕ) → IsBeside r.forest c.changed k → IsUndisturbed r k → ⊥
  beside_moved k b t = elim b.near [
    | inl e ↦ ((s.differs.changed b.node).0 b.among).2 (subst (λ k. seen_at (now r) k ≡ seen_at (rest r) k) e t.same.symbol)
    | inr o ↦ elim o [
      | inl l ↦ changed_moved b.node k b.among t l
      | inr i ↦ changed_moves b.node k b.among t i
    ]
  ]

  gone_moved : (k : ℕ) → In k c.gone → IsUndisturbed r k → ⊥
  gone_moved k h t = ((s.differs.gone k).0 h).1 (got_in (are r) t.new_place k t.is_there)

  came_moved : (k : ℕ) → In k c.came → IsUndisturbed r k → ⊥
  came_moved k h t = ((s.differs.came k).0 h).1 (got_in (were r) t.old_place k t.was_there)

  beside_there : (k : ℕ) → IsBeside r.forest c.changed k → In k (are r)
  beside_there k b =
      let ch = (s.differs.changed b.node).0 b.among in
      let q = place_in b.node (are r) ch.0 in
      elim b.near [
        | inl e ↦ subst (λ k. In k (are r)) (sym e) ch.0
        | inr o ↦ elim o [
          | inl l ↦ (let p = before_is (are r) q.0 k (sym (ap (λ n. n.left) (neighbours_are b.node q.0 q.1)) ∙ l) in got_in (are r) p.0 k p.2)
          | inr i ↦ got_in (are r) (q.0 + 1) k (sym (ap (λ n. n.right) (neighbours_are b.node q.0 q.1)) ∙ i)
        ]
      ]

  module _ (turned beside readers : List ℕ) (f : IsFound r.forest seats reads c turned beside readers) where
    -- 4. one that does not stand still, and was there, is gone or found

    symbol_kept : (k : ℕ) → In k (are r) → In k (were r) → (In k c.changed → ⊥) → (seen_at (now r) k ≡ seen_at (rest r) k → ⊥) → ⊥
    symbol_kept k h i n ne = n ((s.differs.changed k).1 (h, i, ne))

    not_other : (k : ℕ) → In k (are r) → In k (were r) → IsOther c k → ⊥
    not_other k h i o = elim o [ inl g ↦ ((s.differs.gone k).0 g).1 h | inr g ↦ ((s.differs.came k).0 g).1 i ]

    was_there : (k : ℕ) → In k (are r) → (In k c.came → ⊥) → In k (were r)
    was_there k h n = elim (is_in k (were r)) [ inl i ↦ i | inr m ↦ absurd (n ((s.differs.came k).1 (h, m))) ]

    no_turn : (k : ℕ) → In k (are r) → In k (were r) → (In k turned → ⊥) → neighbours_in r.forest k ≡ neighbours_at seats k
    no_turn k h i n = elim (s.looked k h i) [
      | inr e ↦ e
      | inl l ↦ elim (same_neighbours (neighbours_in r.forest k) (neighbours_at seats k)) [
        | inl e ↦ e
        | inr ne ↦ absurd (n ((f.turned_are k).1 (record { looked_at = l; turned = ne }, not_other k h i)))
      ]
    ]

    not_beside : (k : ℕ) → In k (are r) → In k (were r) → (In k turned → ⊥) → (In k beside → ⊥) → IsBeside r.forest c.changed k → ⊥
    not_beside k h i n m b = m ((f.beside_are k).1 (b, λ o. elim o [ inl p ↦ not_other k h i p | inr q ↦ n q ]))

    module _ (k : ℕ) (h : In k (are r)) (i : In k (were r)) (n : In k turned → ⊥) (m : In k beside → ⊥) where
      left_kept : (q p : ℕ) → slice_get (are r) q ≡ Some k → neighbours_on (now r) (are r) q ≡ neighbours_on (rest r) (were r) p → (left : Option ℕ) → node_before (were r) p ≡ left
          → (((j : ℕ) → node_before (were r) p ≡ Some j → seen_at (now r) j ≡ seen_at (rest r) j) → ⊥) → ⊥
      left_kept q p here same None l go = go (λ j e. absurd (none-some j (sym l ∙ e)))
      left_kept q p here same (Some x) l go =
          let old = before_is (were r) p x l in
          let new = before_is (are r) q x (ap (λ n. n.left) same ∙ l) in
          symbol_kept x (got_in (are r) new.0 x new.2) (got_in (were r) old.0 x old.2)
          (λ ch. not_beside k h i n m (record { node = x; among = ch; near = inr (inr (ap (λ n. n.right) (neighbours_are x new.0 new.2) ∙ ap (slice_get (are r)) (sym new.1) ∙ here)) }))
          (λ e. go (λ j e'. subst (λ j. seen_at (now r) j ≡ seen_at (rest r) j) (same_Some x j (sym l ∙ e')) e))

      right_kept : (q p : ℕ) → slice_get (are r) q ≡ Some k → neighbours_on (now r) (are r) q ≡ neighbours_on (rest r) (were r) p → (right : Option ℕ) → slice_get (were r) (p + 1) ≡ right
          → (((j : ℕ) → slice_get (were r) (p + 1) ≡ Some j → seen_at (now r) j ≡ seen_at (rest r) j) → ⊥) → ⊥
      right_kept q p here same None l go = go (λ j e. absurd (none-some j (sym l ∙ e)))
      right_kept q p here same (Some x) l go =
          let new : slice_get (are r) (q + 1) ≡ Some x = ap (λ n. n.right) same ∙ l in
          symbol_kept x (got_in (are r) (q + 1) x new) (got_in (were r) (p + 1) x l)
          (λ ch. not_beside k h i n m (record { node = x; among = ch; near = inr (inl (ap (λ n. n.left) (neighbours_are x (q + 1) new) ∙ is_before (are r) q k here)) }))
          (λ e. go (λ j e'. subst (λ j. seen_at (now r) j ≡ seen_at (rest r) j) (same_Some x j (sym l ∙ e')) e))

      -- so it stands still
      stands : (IsUndisturbed r k → ⊥) → ⊥
      stands ne =
          let q = place_in k (are r) h in
          let p = place_in k (were r) i in
          let same : neighbours_on (now r) (are r) q.0 ≡ neighbours_on (rest r) (were r) p.0 = sym (neighbours_are k q.0 q.1) ∙ no_turn k h i n ∙ s.seated p.0 k p.1 in
          symbol_kept k h i (λ ch. not_beside k h i n m (record { node = k; among = ch; near = inl refl })) (λ symbol.
          left_kept q.0 p.0 q.1 same (node_before (were r) p.0) refl (λ keeps. right_kept q.0 p.0 q.1 same (slice_get (were r) (p.0 + 1)) refl (λ keeps'. ne (record {
            old_place = p.0;
            new_place = q.0;
            was_there = p.1;
            is_there = q.1;
            same = record { symbol = symbol; neighbours = same; left = keeps; right = keeps' };
          }))))

    moved_found : (k : ℕ) → In k (were r) → (IsUndisturbed r k → ⊥) → In k turned ⊎ (In k beside ⊎ In k c.gone)
    moved_found k i ne = elim (is_in k (are r)) [
      | inr n ↦ inr (inr ((s.differs.gone k).1 (i, n)))
      | inl h ↦ elim (is_in k turned) [
        | inl t ↦ inl t
        | inr n ↦ elim (is_in k beside) [ inl b ↦ inr (inl b) | inr m ↦ absurd (stands k h i n m ne) ]
      ]
    ]

    -- 5. readers

    read_were : (k j : ℕ) → In k (were r) → HasRead (rest r) r.store k j → In j (were r)
    read_were k j i read =
        let p = place_in k (were r) i in
        let v = has_asked r s.spots s.below p.0 k read.answer p.1 read.kept in
        let asked = was_asked r s.spots s.below p.0 k v.0 p.1 v.1 v.2 in
        let same : asked.0 ≡ read.answer = same_Some asked.0 read.answer (sym asked.1 ∙ read.kept) in
        asked.2.among j (subst (λ a. In j (tags_read r.store a)) (sym same) read.among)

    found_were : (j : ℕ) → In j (turned ++ (beside ++ c.gone)) → In j (were r) × (IsUndisturbed r j → ⊥)
    found_were j h = elim (In_append turned (beside ++ c.gone) j h) [
      | inl t ↦ (let u = (f.turned_are j).0 t in (was_there j (s.looked_are j u.0.looked_at) (λ e. u.1 (inr e)), turned_moved j u.0))
      | inr o ↦ elim (In_append beside c.gone j o) [
        | inl b ↦ (let u = (f.beside_are j).0 b in (was_there j (beside_there j u.0) (λ e. u.1 (inl (inr e))), beside_moved j u.0))
        | inr g ↦ (((s.differs.gone j).0 g).0, gone_moved j g)
      ]
    ]

    among_found : (j : ℕ) → In j turned ⊎ (In j beside ⊎ In j c.gone) → In j (turned ++ (beside ++ c.gone))
    among_found j o = elim o [
      | inl t ↦ In_left j turned (beside ++ c.gone) t
      | inr q ↦ elim q [
        | inl b ↦ In_right j turned (beside ++ c.gone) (In_left j beside c.gone b)
        | inr g ↦ In_right j turned (beside ++ c.gone) (In_right j beside c.gone g)
      ]
    ]

    reader_found : (k j : ℕ) → In k (are r) → In k (were r) → HasRead (rest r) r.store k j → (IsUndisturbed r j → ⊥) → IsAmong c turned beside readers k
    reader_found k j h i read ne = elim (is_in k turned) [
      | inl t ↦ inr (inl t)
      | inr n ↦ elim (is_in k beside) [
        | inl b ↦ inr (inr (inl b))
        | inr m ↦ inr (inr (inr ((f.readers_are k).1 (
          record { node = j; among = among_found j (moved_found j (read_were k j i read) ne); read = (s.read k j).1 read },
          λ o. elim o [ inl p ↦ not_other k h i p | inr q ↦ elim q [ inl t ↦ n t | inr b ↦ m b ] ],
        ))))
      ]
    ]

    -- 6. the candidates

    among_of : (k : ℕ) (v : ModuleValue) → In k (are r) → seen_at (now r) k ≡ Module v → In k (were r) → MayDiffer r k v → In k others ⊎ IsAmong c turned beside readers k
    among_of k v h seen i (was_last le) = absurd (omega (arith, le, s.below))
    among_of k v h seen i (moved n) = elim (moved_found k i n) [
      | inl t ↦ inr (inr (inl t))
      | inr o ↦ elim o [ inl b ↦ inr (inr (inr (inl b))) | inr g ↦ absurd (((s.differs.gone k).0 g).1 h) ]
    ]
    among_of k v h seen i (read_moved j read n) = inr (reader_found k j h i read n)
    among_of k v h seen i (other_rules e) = elim (s.rules k v h seen) [ inl o ↦ inl o | inr same ↦ absurd (not_both (has_same_rules r.old r.new r.level (names (now r) k) v) same e) ]

    differs_of : (k : ℕ) (v : ModuleValue) → IsAmong c turned beside readers k → MayDiffer r k v
    differs_of k v a = elim a [
      | inl g ↦ moved (came_moved k g)
      | inr o ↦ elim o [
        | inl t ↦ moved (turned_moved k ((f.turned_are k).0 t).0)
        | inr q ↦ elim q [
          | inl b ↦ moved (beside_moved k ((f.beside_are k).0 b).0)
          | inr u ↦ (let t = ((f.readers_are k).0 u).0 in read_moved t.node ((s.read k t.node).0 t.read) (found_were t.node t.among).1)
        ]
      ]
    ]

    one_value : (v w : ModuleValue) → Module v ≡ Module w → v ≡ w
    one_value v w e = cc

    other_differs : (k : ℕ) (v : ModuleValue) → seen_at (now r) k ≡ Module v → In k others → MayDiffer r k v
    other_differs k v seen o =
        let h = (s.others_are k o).1 in
        other_rules (subst (λ v. has_same_rules r.old r.new r.level (names (now r) k) v ≡ false) (one_value h.own v (sym h.is ∙ seen)) h.rules)

    pub asked_are : (k : ℕ) → In k (are r) → IsCandidateNode r k ↔ (AsksNow r k × (In k others ⊎ IsAmong c turned beside readers k))
    asked_are k h = (
      λ a. (
        a.asks,
        elim (is_in k (were r)) [
          | inr n ↦ inr (inl ((s.differs.came k).1 (h, n)))
          | inl i ↦ among_of k a.asks.own h a.asks.is i a.differs
        ],
      ),
      λ a. record { asks = a.0; differs = elim a.1 [ inl o ↦ other_differs k a.0.own a.0.is o | inr u ↦ differs_of k a.0.own u ] },
    )

    pub there_are : (k : ℕ) → IsAmong c turned beside readers k → In k (are r)
    there_are k a = elim a [
      | inl g ↦ ((s.differs.came k).0 g).0
      | inr o ↦ elim o [
        | inl t ↦ s.looked_are k ((f.turned_are k).0 t).0.looked_at
        | inr q ↦ elim q [
          | inl b ↦ beside_there k ((f.beside_are k).0 b).0
          | inr u ↦ reader_there k u
        ]
      ]
    ]
      where
        reader_there : (k : ℕ) → In k readers → In k (are r)
        reader_there k u =
            let t = (f.readers_are k).0 u in
            let i = s.readers k t.0.node ((s.read k t.0.node).0 t.0.read) (found_were t.0.node t.0.among).0 in
            elim (is_in k (are r)) [ inl h ↦ h | inr n ↦ absurd (t.1 (inl (inl ((s.differs.gone k).1 (i, n))))) ]

pub found_asked : (r : Repair) (seats : List Seat) (reads : Relations) (c : LevelChanges) (others turned beside readers : List ℕ) → SteppingNodes r seats reads c others → IsFound r.forest seats reads c turned beside readers
    → (k : ℕ) → In k (are r) → IsCandidateNode r k ↔ (AsksNow r k × (In k others ⊎ IsAmong c turned beside readers k))
found_asked r seats reads c others turned beside readers s f = asked_are r seats reads c others s turned beside readers f

pub found_there : (r : Repair) (seats : List Seat) (reads : Relations) (c : LevelChanges) (others turned beside readers : List ℕ) → SteppingNodes r seats reads c others → IsFound r.forest seats reads c turned beside readers
    → (k : ℕ) → IsAmong c turned beside readers k → In k (are r)
found_there r seats reads c others turned beside readers s f = there_are r seats reads c others s turned beside readers f

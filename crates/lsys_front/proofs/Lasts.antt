-- A level that ends, and what was after it at the last rest.
use Rattle.std.proofs.Common.{◌≡◌, ◌⊎◌, ◌↔◌, ◌+◌, ◌-◌, ◌<◌, ◌≤◌, ℕ, zero, suc, List, [], ◌∷◌, ◌++◌, Option, Some, None, refl, sym, ap, ◌∙◌, subst, arith, inl, inr}
use Rattle.std.specs.Prelude.{IsSome, option_map}
use Rattle.std.specs.Option.{option_and_then}
use Rattle.std.proofs.lemmas.Bool.{cases_lt}
use Rattle.std.proofs.lemmas.Option.{none-some, same_Some}
use Rattle.lsys_spec.specs.Rows.{In, AreApart, flat}
use Rattle.lsys_spec.specs.Draws.{number_base}
use Rattle.lsys_laws.specs.Nodes.{Kin, Extends}
use Rattle.lsys_forest.specs.Nodes.{Node, Nodes}
use Rattle.lsys_forest.specs.Changes.{Change}
use Rattle.lsys_forest.specs.Answers.{answer_of}
use Rattle.lsys_forest.specs.Groves.{IsRooted, ReachedIn, Reached}
use Rattle.lsys_forest.specs.Rows.{kids_in, kids_below, spot_in, level_nodes, level_spots}
use Rattle.lsys_forest.proofs.LinkLemmas.{flat_same}
use Rattle.lsys_forest.proofs.RowLemmas as rows
use Rattle.lsys_reads.specs.Lineages.{kin_of, kins}
use Rattle.lsys_children.specs.Renewals.{AreSmall, KeepsUpper, KeepsDeeper}
use Rattle.lsys_children.proofs.Above.{upper_nodes, upper_spots}
use Rattle.lsys_children.proofs.Depths.{on_level}
use Rattle.lsys_children.proofs.Renewing.{in_cases}
use Rattle.lsys_front.specs.Ends.{ended_node, AreEnded, is_answered, answered_in, row_below, rows_from, AreDeep}
use Rattle.lsys_front.proofs.Rows.{in_flat}
use Rattle.lsys_front.proofs.RowsBelow.{filter_in, in_filter, filter_apart, SameIn, row_level, rows_row, row_rows, below_apart, deep_rows, rows_apart, AgreeFrom, row_same, rows_same, answered, is_answered_by}

next_is : (u : ℕ) → u + 1 ≡ suc u
next_is u = omega arith

flat_none : (f : ℕ → List ℕ) (xs : List ℕ) → ((k : ℕ) → In k xs → f k ≡ []) → flat f xs ≡ []
flat_none f [] h = refl
flat_none f (x ∷ xs) h = ap (λ (l : List ℕ). l ++ flat f xs) (h x (inl refl)) ∙ flat_none f xs (λ k i. h k (inr i))

module _ {A : Type 0} where
  -- 1. nodes without children and answers

  spot_stays : (k : ℕ) (o : Option (Node A)) → spot_in k (option_map ended_node o) ≡ spot_in k o
  spot_stays k None = refl
  spot_stays k (Some n) = refl

  kin_stays : (o : Option (Node A)) → option_map (λ (n : Node A). kin_of n) (option_map ended_node o) ≡ option_map (λ (n : Node A). kin_of n) o
  kin_stays None = refl
  kin_stays (Some n) = refl

  no_kids : (o : Option (Node A)) → kids_in (option_map ended_node o) ≡ []
  no_kids None = refl
  no_kids (Some n) = refl

  no_answer : (o : Option (Node A)) → option_and_then answer_of (option_map ended_node o) ≡ None
  no_answer None = refl
  no_answer (Some n) = refl

  pub none_after : (m : Nodes A) (root u : ℕ) → ((k : ℕ) → In k (level_nodes m root u) → kids_in (m k) ≡ []) → level_nodes m root (u + 1) ≡ []
  none_after m root u h = ap (level_nodes m root) (next_is u) ∙ flat_none (λ k. kids_in (m k)) (level_nodes m root u) h

  later_none : (m : Nodes A) (root d t : ℕ) → level_nodes m root (d + 1) ≡ [] → level_nodes m root (suc (d + t)) ≡ []
  later_none m root d zero e = let n : suc (d + 0) ≡ d + 1 = omega arith in ap (level_nodes m root) n ∙ e
  later_none m root d (suc t) e =
      let n : d + suc t ≡ suc (d + t) = omega arith in
      ap (λ s. kids_below m (level_nodes m root s)) n ∙ ap (kids_below m) (later_none m root d t e)

  -- after a level without nodes there are none
  none_later : (m : Nodes A) (root d v : ℕ) → d < v → level_nodes m root (d + 1) ≡ [] → level_nodes m root v ≡ []
  none_later m root d v l e = let n : v ≡ suc (d + (v - (d + 1))) = omega (arith, l) in ap (level_nodes m root) n ∙ later_none m root d (v - (d + 1)) e

  -- a node that is reached by steps is on the level of their number
  reached_level : (m : Nodes A) (root d k : ℕ) → ReachedIn m root (suc d) k → In k (level_nodes m root d)
  reached_level m root zero k h = subst (λ x. In k (kids_in x)) (sym h.3 ∙ ap m h.2) h.4
  reached_level m root (suc d) k h = in_flat (λ q. kids_in (m q)) (level_nodes m root d) h.0 k (reached_level m root d h.0 h.2) (subst (λ x. In k (kids_in x)) (sym h.3) h.4)

  module _ (root : ℕ) (changes : List (Change A)) (old new : Nodes A) (sound : IsRooted root changes old) (u : ℕ) (e : AreEnded old new (level_nodes old root u)) where
    -- a node that is less deep is not of the level
    less_deep : (k : ℕ) (n : Node A) → old k ≡ Some n → n.depth < u + 1 → In k (level_nodes old root u) → ⊥
    less_deep k n is l i =
        let p = rows.level_depth root changes old sound u k i in
        let same : n.depth ≡ p.0.depth = ap (λ (y : Node A). y.depth) (same_Some n p.0 (sym is ∙ p.1)) in
        let d : p.0.depth ≡ u + 1 = p.2 in
        absurd (omega (arith, l, same, d))

    spot_kept : (k : ℕ) → spot_in k (new k) ≡ spot_in k (old k)
    spot_kept k = elim (in_cases k (level_nodes old root u)) [
      | inl i ↦ ap (spot_in k) (e.here k i) ∙ spot_stays k (old k)
      | inr out ↦ ap (spot_in k) (e.others k out)
    ]

    pub ended_upper : KeepsUpper old new (u + 1)
    ended_upper = record {
      spots = λ k n is l. spot_kept k;
      lists = λ k n is l. ap (λ x. kids_in x) (e.others k (less_deep k n is l));
    }

    pub ended_kins : (k : ℕ) → kins new k ≡ kins old k
    ended_kins k = elim (in_cases k (level_nodes old root u)) [
      | inl i ↦ ap (option_map (λ (n : Node A). kin_of n)) (e.here k i) ∙ kin_stays (old k)
      | inr out ↦ ap (option_map (λ (n : Node A). kin_of n)) (e.others k out)
    ]

    pub ended_stay : Extends (kins old) (kins new)
    ended_stay k n is = ended_kins k ∙ is

    pub ended_nodes : (v : ℕ) → v ≤ u → level_nodes new root v ≡ level_nodes old root v
    ended_nodes v l = upper_nodes root changes old new sound u ended_upper v l

    pub ended_spots : (v : ℕ) → v ≤ u → level_spots new root v ≡ level_spots old root v
    ended_spots v l = upper_spots root changes old new sound u ended_upper v l

    pub ended_after : level_nodes new root (u + 1) ≡ []
    ended_after = none_after new root u (λ k i. (
        let j : In k (level_nodes old root u) = subst (In k) (ended_nodes u (omega arith)) i in
        ap (λ x. kids_in x) (e.here k j) ∙ no_kids (old k)
        ))

    pub ended_answers : (k : ℕ) → In k (level_nodes old root u) → option_and_then answer_of (new k) ≡ None
    ended_answers k i = ap (option_and_then answer_of) (e.here k i) ∙ no_answer (old k)

    small_ended : (o : Option (Node A)) → ((n : Node A) → o ≡ Some n → n.count < number_base) → (n : Node A) → option_map ended_node o ≡ Some n → n.count < number_base
    small_ended None h n is = absurd (none-some n is)
    small_ended (Some p) h n is =
        let c : p.count ≡ n.count = ap (λ (y : Node A). y.count) (same_Some (ended_node p) n is) in
        let l = h p refl in
        omega (arith, c, l)

    pub ended_small : AreSmall old → AreSmall new
    ended_small small k n is = elim (in_cases k (level_nodes old root u)) [
      | inl i ↦ small_ended (old k) (λ p f. small k p f) n (sym (e.here k i) ∙ is)
      | inr out ↦ small k n (sym (e.others k out) ∙ is)
    ]

  -- 2. what was after the level

  -- the node was on one of the levels after this one, so many of them, and kept an answer
  pub record HadOne (o : Nodes A) (root u n k : ℕ) : Type 0 where
    pub level : ℕ
    pub after : u < level
    pub within : level ≤ u + n
    pub there : In k (level_nodes o root level)
    pub answer : A
    pub kept : option_and_then answer_of (o k) ≡ Some answer

  module _ (root : ℕ) (changes : List (Change A)) (o m : Nodes A) (quiet : IsRooted root [] o) (sound : IsRooted root changes m)
      (stay : Extends (kins o) (kins m)) (u : ℕ) (deep : KeepsDeeper o m (u + 1)) where
    same_kin : (k : ℕ) (p n : Node A) → o k ≡ Some p → m k ≡ Some n → kin_of n ≡ kin_of p
    same_kin k p n was is = same_Some (kin_of n) (kin_of p) (sym (ap (option_map (λ (y : Node A). kin_of y)) is) ∙ stay k (kin_of p) (ap (option_map (λ (y : Node A). kin_of y)) was))

    same_depth : (k : ℕ) (p n : Node A) → o k ≡ Some p → m k ≡ Some n → n.depth ≡ p.depth
    same_depth k p n was is = ap (λ (z : Kin). z.depth) (same_kin k p n was is)

    lives_on : (k : ℕ) (p : Node A) → o k ≡ Some p → (n : Node A) × (m k ≡ Some n)
    lives_on k p was = go (m k) refl
      where
        go : (x : Option (Node A)) → m k ≡ x → (n : Node A) × (m k ≡ Some n)
        go (Some n) e = (n, e)
        go None e = absurd (none-some (kin_of p) (sym (ap (option_map (λ (y : Node A). kin_of y)) e) ∙ stay k (kin_of p) (ap (option_map (λ (y : Node A). kin_of y)) was)))

    -- a node that was on the level has the children that it had
    kids_stay : (k : ℕ) → In k (level_nodes o root u) → kids_in (m k) ≡ kids_in (o k)
    kids_stay k i =
        let p = rows.level_depth root [] o quiet u k i in
        let n = lives_on k p.0 p.1 in
        let d : p.0.depth ≡ u + 1 = p.2 in
        ap (λ x. kids_in x) n.1 ∙ deep.kids k n.0 p.0 n.1 p.1 (same_depth k p.0 n.0 p.1 n.1 ∙ d) ∙ sym (ap (λ x. kids_in x) p.1)

    -- a node of the level was on it, or has no children
    was_or_bare : (k : ℕ) → In k (level_nodes m root u) → In k (level_nodes o root u) ⊎ ((o k ≡ None) × (kids_in (m k) ≡ []))
    was_or_bare k i = go (o k) refl
      where
        go : (x : Option (Node A)) → o k ≡ x → In k (level_nodes o root u) ⊎ ((o k ≡ None) × (kids_in (m k) ≡ []))
        go (Some p) was =
            let n = rows.level_depth root changes m sound u k i in
            let d : n.0.depth ≡ u + 1 = n.2 in
            inl (on_level root o quiet u k p was (sym (same_depth k p n.0 was n.1) ∙ d))
        go None was =
            let n = rows.level_depth root changes m sound u k i in
            inr (was, ap (λ x. kids_in x) n.1 ∙ deep.new_kids k n.0 n.1 was n.2)

    module _ (gone : List ℕ) (gone_are : (k : ℕ) → In k gone ↔ (In k (level_nodes o root u) × (In k (level_nodes m root u) → ⊥))) (once : AreApart gone) where
      -- the children of the nodes of the level, and of those that are gone
      abbrev below : List ℕ
      below = kids_below m (level_nodes m root u) ++ kids_below m gone

      below_is : below ≡ kids_below m (level_nodes m root u ++ gone)
      below_is = sym (rows.flat_append (λ k. kids_in (m k)) (level_nodes m root u) gone)

      there : (k : ℕ) → In k below → In k (level_nodes o root (suc u))
      there k h = elim (rows.In_append (kids_below m (level_nodes m root u)) (kids_below m gone) k h) [
        | inl a ↦ (
            let s = rows.flat_In (λ q. kids_in (m q)) (level_nodes m root u) k a in
            elim (was_or_bare s.0 s.1) [
              | inl w ↦ up s.0 w s.2
              | inr b ↦ absurd (subst (In k) b.1 s.2)
            ]
            )
        | inr b ↦ (let s = rows.flat_In (λ q. kids_in (m q)) gone k b in up s.0 ((gone_are s.0).0 s.1).0 s.2)
      ]
        where
          up : (p : ℕ) → In p (level_nodes o root u) → In k (kids_in (m p)) → In k (level_nodes o root (suc u))
          up p i j = in_flat (λ q. kids_in (o q)) (level_nodes o root u) p k i (subst (In k) (kids_stay p i) j)

      back : (k : ℕ) → In k (level_nodes o root (suc u)) → In k below
      back k h =
          let s = rows.flat_In (λ q. kids_in (o q)) (level_nodes o root u) k h in
          let j : In k (kids_in (m s.0)) = subst (In k) (sym (kids_stay s.0 s.1)) s.2 in
          elim (in_cases s.0 (level_nodes m root u)) [
            | inl i ↦ rows.In_left k (kids_below m (level_nodes m root u)) (kids_below m gone) (in_flat (λ q. kids_in (m q)) (level_nodes m root u) s.0 k i j)
            | inr out ↦ rows.In_right k (kids_below m (level_nodes m root u)) (kids_below m gone) (in_flat (λ q. kids_in (m q)) gone s.0 k ((gone_are s.0).1 (s.1, out)) j)
          ]

      below_level : SameIn below (level_nodes o root (suc u))
      below_level k = (there k, back k)

      below_once : AreApart below
      below_once =
          subst AreApart (sym below_is) (below_apart root changes m sound (level_nodes m root u ++ gone)
          (rows.apart_append (level_nodes m root u) gone (rows.level_apart root changes m sound u) once (λ k i j. ((gone_are k).0 j).1 i)))

      below_deep : AreDeep o (u + 2) below
      below_deep k i =
          let p = rows.level_depth root [] o quiet (suc u) k (there k i) in
          let d : p.0.depth ≡ suc u + 1 = p.2 in
          (p.0, p.1, omega (arith, d))

      module _ (new : Nodes A) (e : AreEnded m new (level_nodes m root u)) where
        agree : AgreeFrom o new (u + 2)
        agree k p was l =
            let is : m k ≡ Some p = deep.deeper k p was (omega (arith, l)) in
            e.others k (λ i. (
            let n = rows.level_depth root changes m sound u k i in
            let same : n.0.depth ≡ p.depth = ap (λ (y : Node A). y.depth) (same_Some n.0 p (sym n.1 ∙ is)) in
            let d : n.0.depth ≡ u + 1 = n.2 in
            absurd (omega (arith, l, same, d))
            )) ∙ is ∙ sym was

        pub rows_below : (n k : ℕ) → In k (row_below new n below) ↔ In k (level_nodes o root (u + 1 + n))
        rows_below n k =
            let r = row_level o root n (suc u) below below_level k in
            let same = row_same root [] o new quiet (u + 2) agree n (u + 2) below (omega arith) below_deep in
            let level : suc u + n ≡ u + 1 + n = omega arith in
            subst (λ xs. In k xs ↔ In k (level_nodes o root (u + 1 + n))) (sym same) (subst (λ t. In k (row_below o n below) ↔ In k (level_nodes o root t)) level r)

        -- what is below is as at the last rest
        rows_are : (n : ℕ) → rows_from new n below ≡ rows_from o n below
        rows_are n = rows_same root [] o new quiet (u + 2) agree n (u + 2) below (omega arith) below_deep

        was_same : (k t : ℕ) → u < t → In k (level_nodes o root t) → new k ≡ o k
        was_same k t l i =
            let p = rows.level_depth root [] o quiet t k i in
            let d : p.0.depth ≡ t + 1 = p.2 in
            agree k p.0 p.1 (omega (arith, d, l))

        -- a node of the rows is deep
        is_deep : (n k : ℕ) → In k (rows_from new n below) → (p : Node A) × (o k ≡ Some p) × (u + 2 ≤ p.depth)
        is_deep n k i = deep_rows root [] o quiet n (u + 2) below below_deep k (subst (In k) (rows_are n) i)

        -- and no node of a level now
        not_on_level : (n k v : ℕ) → In k (rows_from new n below) → In k (level_nodes new root v) → ⊥
        not_on_level n k v i h = elim (cases_lt u v) [
          | inl l ↦ subst (In k) (none_later new root u v l (ended_after root changes m new sound u e)) h
          | inr l ↦ (
              let p = is_deep n k i in
              let d : u + 2 ≤ p.0.depth = p.2 in
              let is : m k ≡ Some p.0 = deep.deeper k p.0 p.1 (omega (arith, d)) in
              let q = rows.level_depth root changes m sound v k (subst (In k) (ended_nodes root changes m new sound u e v l) h) in
              let same : q.0.depth ≡ p.0.depth = ap (λ (y : Node A). y.depth) (same_Some q.0 p.0 (sym q.1 ∙ is)) in
              let at : q.0.depth ≡ v + 1 = q.2 in
              absurd (omega (arith, d, same, at, l))
              )
        ]

        pub not_reached : (n k : ℕ) → In k (rows_from new n below) → Reached new root k → ⊥
        not_reached n k i h = by h.0 h.1
          where
            by : (d : ℕ) → ReachedIn new root d k → ⊥
            by zero at =
                let p = is_deep n k i in
                let d : u + 2 ≤ p.0.depth = p.2 in
                let top : p.0.depth ≡ quiet.root_lives.0.depth = ap (λ (y : Node A). y.depth) (same_Some p.0 quiet.root_lives.0 (sym p.1 ∙ ap o at ∙ quiet.root_lives.1)) in
                let z = quiet.root_lives.2 in
                absurd (omega (arith, d, top, z))
            by (suc d) at = not_on_level n k d i (reached_level new root d k at)

        pub answers_once : (n : ℕ) → AreApart (answered_in new (rows_from new n below))
        answers_once n = filter_apart (is_answered new) (rows_from new n below) (subst AreApart (sym (rows_are n)) (rows_apart root [] o quiet n (u + 2) below below_deep below_once))

        pub below_lives : (k : ℕ) → In k below → IsSome (new k)
        below_lives k i = let p = below_deep k i in let same = was_same k (suc u) (omega arith) (there k i) in subst IsSome (sym (same ∙ p.1)) refl

        pub gone_kids : kids_below new gone ≡ kids_below m gone
        gone_kids = flat_same (λ k. kids_in (new k)) (λ k. kids_in (m k)) gone (λ k i. ap (λ x. kids_in x) (e.others k ((gone_are k).0 i).1))

        pub had_one : (n k : ℕ) → In k (answered_in new (rows_from new n below)) → HadOne o root u n k
        had_one n k h =
            let f = filter_in (is_answered new) (rows_from new n below) k h in
            let r = rows_row new n below k f.0 in
            let at = (rows_below r.0 k).0 r.2 in
            let same = was_same k (u + 1 + r.0) (omega arith) at in
            let a = answered new k f.1 in
            record {
              level = u + 1 + r.0;
              after = omega arith;
              within = let l = r.1 in omega (arith, l);
              there = at;
              answer = a.0;
              kept = sym (ap (option_and_then answer_of) same) ∙ a.1;
            }

        pub had_it : (n k : ℕ) → HadOne o root u n k → In k (answered_in new (rows_from new n below))
        had_it n k h =
            let i : ℕ = h.level - (u + 1) in
            let level : h.level ≡ u + 1 + i = omega (arith, h.after) in
            let at : In k (row_below new i below) = (rows_below i k).1 (subst (λ t. In k (level_nodes o root t)) level h.there) in
            in_filter (is_answered new) (rows_from new n below) k (row_rows new n below k i (omega (arith, h.within, h.after)) at)
            (is_answered_by new k h.answer (ap (option_and_then answer_of) (was_same k h.level h.after h.there) ∙ h.kept))

    -- 3. nothing was after the level

    bare_kids : (d : ℕ) → d ≤ u → level_nodes o root (d + 1) ≡ [] → (k : ℕ) → In k (level_nodes m root u) → kids_in (m k) ≡ []
    bare_kids d l e k i = elim (was_or_bare k i) [
      | inl w ↦ kids_stay k w ∙ no_members (kids_in (o k)) (λ j h. (subst (In j) (none_later o root d (suc u) (omega (arith, l)) e) (in_flat (λ q. kids_in (o q)) (level_nodes o root u) k j w h)))
      | inr b ↦ b.1
    ]
      where
        no_members : (xs : List ℕ) → ((j : ℕ) → In j xs → ⊥) → xs ≡ []
        no_members [] h = refl
        no_members (x ∷ xs) h = absurd (h x (inl refl))

    pub bare_after : (d : ℕ) → d ≤ u → level_nodes o root (d + 1) ≡ [] → level_nodes m root (u + 1) ≡ []
    bare_after d l e = none_after m root u (bare_kids d l e)

    pub bare_answers : (d : ℕ) → d ≤ u → level_nodes o root (d + 1) ≡ [] → ((k : ℕ) → In k (level_nodes o root d) → option_and_then answer_of (o k) ≡ None)
        → (k : ℕ) → In k (level_nodes m root u) → option_and_then answer_of (o k) ≡ None
    bare_answers d l e none k i = elim (was_or_bare k i) [
      | inl w ↦ elim (less_or_same d u l) [
        | inl s ↦ absurd (subst (In k) (none_later o root d u s e) w)
        | inr s ↦ none k (subst (λ t. In k (level_nodes o root t)) (sym s) w)
      ]
      | inr b ↦ ap (option_and_then answer_of) b.0
    ]
      where
        less_or_same : (d u : ℕ) → d ≤ u → (d < u) ⊎ (d ≡ u)
        less_or_same d u l = elim (cases_lt d u) [ inl s ↦ inl s | inr out ↦ inr (omega (arith, l, out)) ]

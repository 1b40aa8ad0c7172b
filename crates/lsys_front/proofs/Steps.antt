-- The children of some parents were made: how the level below them differs from that of the last rest.
use Rattle.std.proofs.Common.{◌≡◌, ◌⊎◌, ◌+◌, ◌<◌, ℕ, Bool, true, false, not, List, [], ◌∷◌, ◌++◌, Option, Some, None, map, refl, sym, ap, ◌∙◌, subst, arith, inl, inr}
use Rattle.std.specs.Prelude.{option_map}
use Rattle.std.proofs.lemmas.Option.{none-some, same_Some}
use Rattle.lsys_spec.specs.Rows.{In, AreApart, flat}
use Rattle.lsys_syntax.specs.Commands.{Numbering}
use Rattle.lsys_spec.specs.Draws.{number_base}
use Rattle.lsys_spec.specs.Levels as L
use Rattle.lsys_laws.specs.Nodes.{Kin, Extends, kin_parent}
use Rattle.lsys_laws.proofs.KeptLineages.{apart, child}
use Rattle.lsys_forest.specs.Nodes.{Node, Nodes, with_kids}
use Rattle.lsys_forest.specs.Changes.{Change}
use Rattle.lsys_forest.specs.Groves.{IsRooted}
use Rattle.lsys_forest.specs.Rows.{kids_in, kids_below, spot_in}
use Rattle.lsys_forest.proofs.RowLemmas as rows
use Rattle.lsys_children.specs.declared.number.Number.{Number}
use Rattle.lsys_children.specs.declared.child.Child.{Child}
use Rattle.lsys_children.specs.Matches.{has_number, node_number, number_of, nodes_without}
use Rattle.lsys_children.specs.Children.{born, renewed, seen_in_node, kind_in_node, IsNewNode, HasTurned, KeepsChildren}
use Rattle.lsys_reads.specs.Lineages.{kin_of, kins, names}
use Rattle.lsys_forest.specs.Pairs.{seen_at}
use Rattle.lsys_children.specs.Nexts.{Successors, node_symbol}
use Rattle.lsys_children.specs.Renewals.{Renewal, stayed, relisted, turned, came, AreRenewals, KeepsDeeper}
use Rattle.lsys_children.proofs.Nexts.{lineage_at}
use Rattle.lsys_children.proofs.Renewing.{in_cases, parent_stays}
use Rattle.lsys_children.specs.Made.{IsChildOfAny}
use Rattle.lsys_children.specs.Needs.{number_told, wanted_symbols}
use Rattle.lsys_front.proofs.Numbers.{own_number, told_below, lineages_told, has_told, told_has}
use Rattle.lsys_front.proofs.Rows.{flat_owned, where_in, in_where, where_apart, not_other_list, not_other_kind}

-- Of the nodes of a level, which were these and are those, some had their children made. What lies deeper was as at the last rest.
pub record IsStep {A : Type 0} (g : Numbering) (seed : ℕ) (o m n : Nodes A) (root depth : ℕ) (by : Successors) (ps us vs : List ℕ) : Type 0 where
  pub before : List (Change A)
  pub after : List (Change A)
  pub rested : IsRooted root [] o
  pub sound : IsRooted root before m
  pub sound_now : IsRooted root after n
  pub stay : Extends (kins o) (kins m)
  pub deeper : KeepsDeeper o m depth
  pub renewals : AreRenewals g seed m n root depth by ps
  pub were : (p : ℕ) → In p us → (x : Node A) × (o p ≡ Some x) × (x.depth ≡ depth)
  pub are : (p : ℕ) → In p vs → (x : Node A) × (m p ≡ Some x) × (x.depth ≡ depth)
  pub all : (k : ℕ) (x : Node A) → o k ≡ Some x → x.depth ≡ depth + 1 → IsChildOfAny o us k
  pub among : (p : ℕ) → In p ps → In p vs

-- the children of a parent that are wanted no more
abbrev pub lost_at : {A : Type 0} → Numbering → Nodes A → Successors → ℕ → List ℕ
lost_at g m by p = nodes_without m (map number_told (wanted_symbols g (by p))) (kids_in (m p))

-- a node that lived lives, where it was
alive : {A : Type 0} (old new : Nodes A) (k : ℕ) (x : Node A) → Extends (kins old) (kins new) → old k ≡ Some x → (y : Node A) × (new k ≡ Some y) × (kin_of x ≡ kin_of y)
alive {A} old new k x stay e = go (new k) refl (stay k (kin_of x) (ap (option_map (λ (z : Node A). kin_of z)) e))
  where
    go : (q : Option (Node A)) → new k ≡ q → option_map (λ (z : Node A). kin_of z) q ≡ Some (kin_of x) → (y : Node A) × (new k ≡ Some y) × (kin_of x ≡ kin_of y)
    go None f s = absurd (none-some (kin_of x) s)
    go (Some y) f s = (y, f, sym (same_Some (kin_of y) (kin_of x) s))

module _ {A : Type 0} {g : Numbering} {seed : ℕ} {o m n : Nodes A} {root depth : ℕ} {by : Successors} {ps us vs : List ℕ} (h : IsStep g seed o m n root depth by ps us vs) where
  -- 1. a child of a node of the level

  record Below (q : Nodes A) (p k : ℕ) : Type 0 where
    node : Node A
    is : q k ≡ Some node
    parent_is : node.parent ≡ p
    deep : node.depth ≡ depth + 1

  below : (changes : List (Change A)) (q : Nodes A) (p k : ℕ) (x : Node A) → IsRooted root changes q → q p ≡ Some x → x.depth ≡ depth → In k (kids_in (q p)) → Below q p k
  below changes q p k x sound e d i =
      let c = rows.child root changes q sound p k i in
      let above = ap (λ (y : Node A). y.depth) (same_Some x c.above (sym e ∙ c.above_is)) in
      record { node = c.node; is = c.is; parent_is = c.parent_is; deep = omega (arith, c.depth, above, d) }

  below_rest : (p k : ℕ) → In p us → In k (kids_in (o p)) → Below o p k
  below_rest p k i l = let x = h.were p i in below [] o p k x.0 h.rested x.1 x.2 l

  below_mid : (p k : ℕ) → In p vs → In k (kids_in (m p)) → Below m p k
  below_mid p k i l = let x = h.are p i in below h.before m p k x.0 h.sound x.1 x.2 l

  below_now : (p k : ℕ) → In p vs → In k (kids_in (n p)) → Below n p k
  below_now p k i l =
      let x = h.are p i in
      let y = alive m n p x.0 h.renewals.stay x.1 in
      below h.after n p k y.0 h.sound_now y.1 (sym (ap (λ (z : Kin). z.depth) y.2) ∙ x.2) l

  one_parent : (q : Nodes A) (p r k : ℕ) → Below q p k → Below q r k → p ≡ r
  one_parent q p r k a b = sym a.parent_is ∙ ap (λ (y : Node A). y.parent) (same_Some a.node b.node (sym a.is ∙ b.is)) ∙ b.parent_is

  there_mid : (p k : ℕ) → (b : Below o p k) → m k ≡ Some b.node
  there_mid p k b = let d = b.deep in h.deeper.deeper k b.node b.is (omega (arith, d))

  to_mid : (p k : ℕ) → Below o p k → Below m p k
  to_mid p k b = record { node = b.node; is = there_mid p k b; parent_is = b.parent_is; deep = b.deep }

  to_now : (p k : ℕ) → Below m p k → Below n p k
  to_now p k b =
      let y = alive m n k b.node h.renewals.stay b.is in
      record { node = y.0; is = y.1; parent_is = sym (ap (λ (z : Kin). z.parent) y.2) ∙ b.parent_is; deep = sym (ap (λ (z : Kin). z.depth) y.2) ∙ b.deep }

  -- a node below the level was there at the last rest, as it was before its parent's turn
  as_rested : (k : ℕ) (x : Node A) → m k ≡ Some x → x.depth ≡ depth + 1 → o k ≡ Some x
  as_rested k x e d = go (o k) refl
    where
      go : (q : Option (Node A)) → o k ≡ q → o k ≡ Some x
      go None f = absurd (let l = h.deeper.none_deeper k x e f in omega (arith, l, d))
      go (Some y) f =
          let a = alive o m k y h.stay f in
          let deep : y.depth ≡ x.depth = ap (λ (z : Kin). z.depth) a.2 ∙ ap (λ (z : Node A). z.depth) (same_Some a.0 x (sym a.1 ∙ e)) in
          f ∙ (sym (h.deeper.deeper k y f (omega (arith, deep, d))) ∙ e)

  was_below : (k : ℕ) (x : Node A) → m k ≡ Some x → x.depth ≡ depth + 1 → IsChildOfAny o us k
  was_below k x e d = h.all k x (as_rested k x e d) d

  -- 2. a node of the level

  -- a parent that had no turn stays
  parent_still : (p : ℕ) (x : Node A) → m p ≡ Some x → x.depth ≡ depth → (In p ps → ⊥) → n p ≡ m p
  parent_still p x e d none = parent_stays g seed m n root depth by ps p x h.renewals e d none ∙ sym e

  -- one that was there had the children of the last rest
  same_kids : (p : ℕ) (x y : Node A) → o p ≡ Some x → m p ≡ Some y → y.depth ≡ depth → kids_in (m p) ≡ kids_in (o p)
  same_kids p x y e f d = ap (λ (q : Option (Node A)). kids_in q) f ∙ h.deeper.kids p y x f e d ∙ sym (ap (λ (q : Option (Node A)). kids_in q) e)

  kids_rested : (p : ℕ) → In p us → In p vs → kids_in (m p) ≡ kids_in (o p)
  kids_rested p i j = let x = h.were p i in let y = h.are p j in same_kids p x.0 y.0 x.1 y.1 y.2

  -- one that is gone has them
  kids_gone : (p : ℕ) → In p us → (In p vs → ⊥) → kids_in (n p) ≡ kids_in (o p)
  kids_gone p i out =
      let x = h.were p i in
      let y = alive o m p x.0 h.stay x.1 in
      let deep : y.0.depth ≡ depth = sym (ap (λ (z : Kin). z.depth) y.2) ∙ x.2 in
      ap (λ (q : Option (Node A)). kids_in q) (parent_still p y.0 y.1 deep (λ j. out (h.among p j))) ∙ same_kids p x.0 y.0 x.1 y.1 deep

  -- 3. what became of a child

  data Fate (p k : ℕ) : Type 0 where
    same : n k ≡ m k → Fate p k
    other : (x : Node A) (w : Child) → In p ps → m k ≡ Some x → x.depth ≡ depth + 1 → n k ≡ Some (renewed w x) → Fate p k
    fresh : In p ps → m k ≡ None → Fate p k

  fate : (p k : ℕ) → Below n p k → Fate p k
  fate p k b = go (h.renewals.each k)
    where
      go : Renewal m n depth ps k → Fate p k
      go (stayed e) = same e
      go (relisted x ls i e d f) = let own = ap (λ (y : Node A). y.depth) (same_Some b.node (with_kids ls x) (sym b.is ∙ f)) in let deep = b.deep in absurd (omega (arith, own, d, deep))
      go (turned x w i e d f) = other x w (subst (λ j. In j ps) (sym (ap (λ (y : Node A). y.parent) (same_Some b.node (renewed w x) (sym b.is ∙ f))) ∙ b.parent_is) i) e d f
      go (came q w i e f) = fresh (subst (λ j. In j ps) (sym (ap (λ (y : Node A). y.parent) (same_Some b.node (born q (depth + 1) w) (sym b.is ∙ f))) ∙ b.parent_is) i) e

  -- 4. those that came

  pub came_forth : (k : ℕ) → IsChildOfAny n ps k × IsNewNode m k → IsChildOfAny n vs k × (IsChildOfAny o us k → ⊥)
  came_forth k c = ((c.0.0, h.among c.0.0 c.0.1, c.0.2), λ u. (let b = to_mid u.0 k (below_rest u.0 k u.1 u.2) in none-some b.node (sym c.1 ∙ b.is)))

  pub came_back : (k : ℕ) → IsChildOfAny n vs k × (IsChildOfAny o us k → ⊥) → IsChildOfAny n ps k × IsNewNode m k
  came_back k c = go (fate c.0.0 k b)
    where
      b : Below n c.0.0 k
      b = below_now c.0.0 k c.0.1 c.0.2

      go : Fate c.0.0 k → IsChildOfAny n ps k × IsNewNode m k
      go (same e) = absurd (c.1 (was_below k b.node (sym e ∙ b.is) b.deep))
      go (other x w j e d f) = absurd (c.1 (was_below k x e d))
      go (fresh j e) = ((c.0.0, j, c.0.2), e)

  -- 5. those that changed

  seen_of : (q : Nodes A) (k : ℕ) (x : Node A) → q k ≡ Some x → seen_at q k ≡ x.seen
  seen_of q k x e = ap (λ (z : Option (Node A)). (spot_in k z).seen) e

  pub changed_forth : (k : ℕ) → IsChildOfAny n ps k × HasTurned m n k → IsChildOfAny n vs k × IsChildOfAny o us k × (seen_at n k ≡ seen_at o k → ⊥)
  changed_forth k c = ((c.0.0, h.among c.0.0 c.0.1, c.0.2), was_below k t.node t.was deep, λ e. t.other (told e))
    where
      t : HasTurned m n k
      t = c.1

      b : Below n c.0.0 k
      b = below_now c.0.0 k (h.among c.0.0 c.0.1) c.0.2

      deep : t.node.depth ≡ depth + 1
      deep =
          let a = alive m n k t.node h.renewals.stay t.was in
          ap (λ (z : Kin). z.depth) a.2 ∙ ap (λ (z : Node A). z.depth) (same_Some a.0 b.node (sym a.1 ∙ b.is)) ∙ b.deep

      told : seen_at n k ≡ seen_at o k → option_map seen_in_node (n k) ≡ Some t.node.seen
      told e = ap (option_map seen_in_node) b.is ∙ ap Some (sym (seen_of n k b.node b.is) ∙ e ∙ seen_of o k t.node (as_rested k t.node t.was deep))

  pub changed_back : (k : ℕ) → IsChildOfAny n vs k × IsChildOfAny o us k × (seen_at n k ≡ seen_at o k → ⊥) → IsChildOfAny n ps k × HasTurned m n k
  changed_back k c = go (fate c.0.0 k b)
    where
      b : Below n c.0.0 k
      b = below_now c.0.0 k c.0.1 c.0.2

      u : Below o c.1.0 k
      u = below_rest c.1.0 k c.1.1 c.1.2

      go : Fate c.0.0 k → IsChildOfAny n ps k × HasTurned m n k
      go (same e) = absurd (c.2 (ap (λ (z : Option (Node A)). (spot_in k z).seen) (e ∙ there_mid c.1.0 k u ∙ sym u.is)))
      go (other x w j e d f) = (
        (c.0.0, j, c.0.2),
        record {
          node = x;
          was = e;
          other = λ s. c.2 (seen_of n k b.node b.is ∙ same_Some b.node.seen x.seen (sym (ap (option_map seen_in_node) b.is) ∙ s) ∙ sym (seen_of o k x (as_rested k x e d)));
        },
      )
      go (fresh j e) = absurd (none-some u.node (sym e ∙ there_mid c.1.0 k u))

  -- 6. those that are gone

  few : (k : ℕ) (x : Node A) → m k ≡ Some x → x.count < number_base
  few k x e = go (h.renewals.each k)
    where
      go : Renewal m n depth ps k → x.count < number_base
      go (stayed f) = h.renewals.small k x (f ∙ e)
      go (relisted y ls i was d f) = let same = ap (λ (z : Node A). z.count) (same_Some x y (sym e ∙ was)) in let l = h.renewals.small k (with_kids ls y) f in omega (arith, same, l)
      go (turned y w i was d f) = let same = ap (λ (z : Node A). z.count) (same_Some x y (sym e ∙ was)) in let l = h.renewals.small k (renewed w y) f in omega (arith, same, l)
      go (came q w i was f) = absurd (none-some x (sym was ∙ e))

  names_below : (ks : List ℕ) → map (names n) ks ≡ map L.lineage (map (node_symbol n) ks)
  names_below [] = refl
  names_below (k ∷ ks) = λ i. sym (lineage_at n k) i ∷ names_below ks i

  -- the children of a parent have the lineages that are wanted
  wanted_names : (p : ℕ) → In p ps → map (names n) (kids_in (n p)) ≡ map (told_below (names n p)) (wanted_symbols g (by p))
  wanted_names p i = names_below (kids_in (n p)) ∙ ap (map L.lineage) (h.renewals.wanted p i).symbols ∙ lineages_told g (names n p) (by p)

  name_below : (p k : ℕ) → (b : Below n p k) → names n k ≡ names n p ++ (kin_of b.node).number ∷ []
  name_below p k b =
      child (kins n) root k (kin_of b.node) h.renewals.once (ap (option_map (λ (z : Node A). kin_of z)) b.is) under
      ∙ ap (λ q. names n q ++ (kin_of b.node).number ∷ []) b.parent_is
    where
      under : k ≡ root → ⊥
      under e =
          let r = h.sound_now.root_lives in
          let top = ap (λ (z : Node A). z.depth) (same_Some b.node r.0 (sym b.is ∙ ap n e ∙ r.1)) in
          let d = b.deep in let zero = r.2 in omega (arith, top, d, zero)

  -- by the number that it had
  name_mid : (p k : ℕ) → Below m p k → names n k ≡ names n p ++ own_number (number_of m k) ∷ []
  name_mid p k b =
      let v = to_now p k b in
      let own : own_number (number_of m k) ≡ (kin_of b.node).number = ap (λ (q : Option (Node A)). own_number (node_number q)) b.is in
      let kin : kin_of v.node ≡ kin_of b.node =
      same_Some (kin_of v.node) (kin_of b.node) (sym (ap (option_map (λ (z : Node A). kin_of z)) v.is) ∙ h.renewals.stay k (kin_of b.node) (ap (option_map (λ (z : Node A). kin_of z)) b.is)) in
      name_below p k v ∙ ap (λ j. names n p ++ j ∷ []) (ap (λ (z : Kin). z.number) kin ∙ sym own)

  -- an old child is a child exactly if its number is wanted
  stays_child : (p k : ℕ) → In p ps → Below m p k → has_number (map number_told (wanted_symbols g (by p))) (number_of m k) ≡ true → In k (kids_in (n p))
  stays_child p k i b t =
      let j = told_has (names n) (names n p) (kids_in (n p)) (wanted_symbols g (by p)) (number_of m k) (wanted_names p i) t in
      let u = below_now p j.0 (h.among p i) j.1 in
      let v = to_now p k b in
      let one : j.0 ≡ k =
      apart (kins n) root j.0 k (kin_of u.node) (kin_of v.node) h.renewals.once (ap (option_map (λ (z : Node A). kin_of z)) u.is) (ap (option_map (λ (z : Node A). kin_of z)) v.is)
      (u.deep ∙ sym v.deep) (j.2 ∙ sym (name_mid p k b)) in
      subst (λ q. In q (kids_in (n p))) one j.1

  child_wanted : (p k : ℕ) → In p ps → Below m p k → In k (kids_in (n p)) → has_number (map number_told (wanted_symbols g (by p))) (number_of m k) ≡ true
  child_wanted p k i b l = has_told (names n) (names n p) (kids_in (n p)) (wanted_symbols g (by p)) k (number_of m k) (wanted_names p i) l (name_mid p k b) small
    where
      small : (number_of m k).count < number_base
      small = let same = ap (λ (q : Option (Node A)). (node_number q).count) b.is in let f = few k b.node b.is in omega (arith, same, f)

  -- no child of the parent is wanted with this number
  abbrev is_lost : ℕ → Number → Bool
  is_lost p q = not (has_number (map number_told (wanted_symbols g (by p))) q)

  pub lost_forth : (p k : ℕ) → In p ps → In k (lost_at g m by p) → IsChildOfAny o us k × (IsChildOfAny n vs k → ⊥)
  lost_forth p k i l = (was_below k b.node b.is b.deep, away)
    where
      w : In k (kids_in (m p)) × (is_lost p (number_of m k) ≡ true)
      w = where_in (is_lost p) m (kids_in (m p)) k l

      b : Below m p k
      b = below_mid p k (h.among p i) w.0

      away : IsChildOfAny n vs k → ⊥
      away v =
          let same : v.0 ≡ p = one_parent n v.0 p k (below_now v.0 k v.1 v.2) (to_now p k b) in
          let has = child_wanted p k i b (subst (λ j. In k (kids_in (n j))) same v.2) in
          let f : false ≡ true = sym (ap not has) ∙ w.1 in cc

  pub left_forth : (p k : ℕ) → In p us → (In p vs → ⊥) → In k (kids_in (n p)) → IsChildOfAny o us k × (IsChildOfAny n vs k → ⊥)
  left_forth p k i out l = ((p, i, there), λ v. out (subst (λ j. In j vs) (same v) v.1))
    where
      there : In k (kids_in (o p))
      there = subst (In k) (kids_gone p i out) l

      same : (v : IsChildOfAny n vs k) → v.0 ≡ p
      same v = one_parent n v.0 p k (below_now v.0 k v.1 v.2) (to_now p k (to_mid p k (below_rest p k i there)))

  pub gone_back : (k : ℕ) → IsChildOfAny o us k × (IsChildOfAny n vs k → ⊥)
      → ((p : ℕ) × In p ps × In k (lost_at g m by p)) ⊎ ((p : ℕ) × (In p us × (In p vs → ⊥)) × In k (kids_in (n p)))
  gone_back k c = elim (in_cases p vs) [
    | inr out ↦ inr (p, (i, out), subst (In k) (sym (kids_gone p i out)) c.0.2)
    | inl j ↦ elim (in_cases p ps) [
      | inr none ↦ absurd (c.1 (p, j, subst (In k) (sym (ap (λ (q : Option (Node A)). kids_in q) (still j none) ∙ kids_rested p i j)) c.0.2))
      | inl l ↦ inl (p, l, lost j l)
    ]
  ]
    where
      p : ℕ
      p = c.0.0

      i : In p us
      i = c.0.1

      still : In p vs → (In p ps → ⊥) → n p ≡ m p
      still j none = let x = h.are p j in parent_still p x.0 x.1 x.2 none

      lost : In p vs → In p ps → In k (lost_at g m by p)
      lost j l = go (has_number (map number_told (wanted_symbols g (by p))) (number_of m k)) refl
        where
          go : (b : Bool) → has_number (map number_told (wanted_symbols g (by p))) (number_of m k) ≡ b → In k (lost_at g m by p)
          go true e = absurd (c.1 (p, j, stays_child p k l (to_mid p k (below_rest p k i c.0.2)) e))
          go false e = in_where (is_lost p) m (kids_in (m p)) k (subst (In k) (sym (kids_rested p i j)) c.0.2) (ap not e)

  -- 7. each once

  abbrev parent_now : ℕ → ℕ
  parent_now k = kin_parent (kins n k)

  owner_mid : (p k : ℕ) → In k (kids_in (m p)) → parent_now k ≡ p
  owner_mid p k l =
      let c = rows.child root h.before m h.sound p k l in
      let y = alive m n k c.node h.renewals.stay c.is in
      ap (λ (q : Option (Node A)). kin_parent (option_map (λ (z : Node A). kin_of z) q)) y.1 ∙ sym (ap (λ (z : Kin). z.parent) y.2) ∙ c.parent_is

  owner_now : (p k : ℕ) → In k (kids_in (n p)) → parent_now k ≡ p
  owner_now p k l =
      let c = rows.child root h.after n h.sound_now p k l in
      ap (λ (q : Option (Node A)). kin_parent (option_map (λ (z : Node A). kin_of z) q)) c.is ∙ c.parent_is

  pub lost_apart : (p : ℕ) → AreApart (lost_at g m by p)
  lost_apart p = where_apart (is_lost p) m (kids_in (m p)) (rows.kids_apart root h.before m h.sound p)

  owner_lost : (p k : ℕ) → In k (lost_at g m by p) → parent_now k ≡ p
  owner_lost p k l = owner_mid p k (where_in (is_lost p) m (kids_in (m p)) k l).0

  pub gone_apart : (lefts : List ℕ) → AreApart ps → AreApart lefts → ((p : ℕ) → In p lefts → In p vs → ⊥) → AreApart (flat (lost_at g m by) ps ++ kids_below n lefts)
  gone_apart lefts a b out =
      rows.apart_append (flat (lost_at g m by) ps) (kids_below n lefts) (flat_owned (lost_at g m by) parent_now ps a lost_apart owner_lost)
      (flat_owned (λ p. kids_in (n p)) parent_now lefts b (rows.kids_apart root h.after n h.sound_now) owner_now) (λ k i l. (
      let u = rows.flat_In (lost_at g m by) ps k i in
      let v = rows.flat_In (λ p. kids_in (n p)) lefts k l in
      let one : u.0 ≡ v.0 = sym (owner_lost u.0 k u.2) ∙ owner_now v.0 k v.2 in
      out v.0 v.1 (subst (λ j. In j vs) one (h.among u.0 u.1))
      ))

  -- 8. families

  keeps_still : (q : ℕ) → In q vs → (In q ps → ⊥) → KeepsChildren m n q
  keeps_still q i none = record {
    list = (let x = h.are q i in ap (λ (z : Option (Node A)). kids_in z) (parent_still q x.0 x.1 x.2 none));
    kinds = λ k l x e. kept k x e (fate q k (to_now q k (below_mid q k i l)));
  }
    where
      kept : (k : ℕ) (x : Node A) → m k ≡ Some x → Fate q k → option_map kind_in_node (n k) ≡ Some (kind_in_node x)
      kept k x e (same f) = ap (option_map kind_in_node) (f ∙ e)
      kept k x e (other y w j was d f) = absurd (none j)
      kept k x e (fresh j was) = absurd (none j)

  keeps_rested : (q : ℕ) → In q us → In q vs → KeepsChildren m n q → KeepsChildren o n q
  keeps_rested q i j c = record {
    list = c.list ∙ kids_rested q i j;
    kinds = λ k l x e. c.kinds k (subst (In k) (sym (kids_rested q i j)) l) x (mid k x l e);
  }
    where
      mid : (k : ℕ) (x : Node A) → In k (kids_in (o q)) → o k ≡ Some x → m k ≡ Some x
      mid k x l e =
          let b = below_rest q k i l in
          let d = ap (λ (z : Node A). z.depth) (same_Some x b.node (sym e ∙ b.is)) in
          let deep = b.deep in h.deeper.deeper k x e (omega (arith, d, deep))

  keeps_sure : (q : ℕ) → ((KeepsChildren m n q → ⊥) → ⊥) → KeepsChildren m n q
  keeps_sure q sure = record {
    list = not_other_list (kids_in (n q)) (kids_in (m q)) (λ ne. sure (λ c. ne c.list));
    kinds = λ k l x e. not_other_kind (option_map kind_in_node (n k)) (kind_in_node x) (λ ne. sure (λ c. ne (c.kinds k l x e)));
  }

  -- a node of the level was told, or came, or keeps the children that it had
  pub families_kept : (touched fresh_ones : List ℕ) → ((q : ℕ) → In q ps × (KeepsChildren m n q → ⊥) → In q touched) → ((q : ℕ) → In q vs → (In q us → ⊥) → In q fresh_ones)
      → (q : ℕ) → In q vs → In q (touched ++ fresh_ones) ⊎ (In q us × KeepsChildren o n q)
  families_kept touched fresh_ones told came_told q i = elim (in_cases q us) [
    | inr out ↦ inl (rows.In_right q touched fresh_ones (came_told q i out))
    | inl j ↦ elim (in_cases q ps) [
      | inr none ↦ inr (j, keeps_rested q j i (keeps_still q i none))
      | inl l ↦ elim (in_cases q touched) [
        | inl t ↦ inl (rows.In_left q touched fresh_ones t)
        | inr away ↦ inr (j, keeps_rested q j i (keeps_sure q (λ ne. away (told q (l, ne)))))
      ]
    ]
  ]

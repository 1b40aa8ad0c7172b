-- What is told of one parent more.
use Rattle.std.proofs.Common.{◌≡◌, ◌≢◌, ◌⊎◌, ◌↔◌, ◌+◌, ℕ, Bool, List, [], ◌∷◌, Option, Some, None, refl, sym, ap, ◌∙◌, subst, arith, inl, inr, cond}
use Rattle.std.specs.Prelude.{IsSome, option_map}
use Rattle.std.proofs.lemmas.Option.{none-some, same_Some}
use Rattle.lsys_spec.specs.Rows.{In}
use Rattle.lsys_syntax.specs.Commands.{Numbering}
use Rattle.lsys_laws.specs.Nodes.{Kin}
use Rattle.lsys_forest.specs.Nodes.{Node, Nodes}
use Rattle.lsys_forest.specs.Changes.{Change}
use Rattle.lsys_forest.specs.Groves.{IsRooted}
use Rattle.lsys_forest.specs.Rows.{kids_in}
use Rattle.lsys_forest.proofs.RowLemmas as rows
use Rattle.lsys_children.specs.declared.number.Number.{Number}
use Rattle.lsys_children.specs.declared.child.Child.{Child}
use Rattle.lsys_children.specs.Matches.{node_number, nodes_where}
use Rattle.lsys_children.specs.Children.{ToldNodes, TellsIf, TellsAll, IsNewNode, HasTurned, KeepsSymbol, KeepsChildren, AreRenewed, TellsOf, seen_in_node, kind_in_node}
use Rattle.lsys_reads.specs.Lineages.{kin_of}
use Rattle.lsys_children.specs.Nexts.{Successors}
use Rattle.lsys_children.specs.Renewals.{AreRenewals}
use Rattle.lsys_children.proofs.Renewing.{in_cases, kin_from}
use Rattle.lsys_children.specs.Made.{IsChildOfAny, TellsAllOf}

-- 1. lists

one_told : (P Q : ℕ → Type 0) → ((k : ℕ) → P k → Q k → ⊥) → (j : ℕ) (ks before between after : List ℕ) → TellsIf P Q j before between → (k : ℕ) → In k after ↔ (In k between ⊎ (In k ks × P k))
    → In k after ↔ (In k before ⊎ (In k (j ∷ ks) × P k))
one_told P Q apart j ks before between after t k more = (forth, back)
  where
    first : In k between → In k before ⊎ (In k (j ∷ ks) × P k)
    first i = elim t [
      | inl told ↦ elim (rows.In_append before (j ∷ []) k (subst (In k) told.1 i)) [
        | inl l ↦ inl l
        | inr r ↦ elim r [ inl e ↦ inr (inl e, subst P (sym e) told.0) | inr n ↦ absurd n ]
      ]
      | inr kept ↦ inl (subst (In k) kept.1 i)
    ]

    kept_first : In k before → In k between
    kept_first i = elim t [
      | inl told ↦ subst (In k) (sym told.1) (rows.In_left k before (j ∷ []) i)
      | inr kept ↦ subst (In k) (sym kept.1) i
    ]

    told_first : k ≡ j → P k → In k between
    told_first e p = elim t [
      | inl told ↦ subst (In k) (sym told.1) (rows.In_right k before (j ∷ []) (inl e))
      | inr kept ↦ absurd (apart j (subst P e p) kept.0)
    ]

    forth : In k after → In k before ⊎ (In k (j ∷ ks) × P k)
    forth i = elim (more.0 i) [ inl l ↦ first l | inr r ↦ inr (inr r.0, r.1) ]

    back : In k before ⊎ (In k (j ∷ ks) × P k) → In k after
    back (inl i) = more.1 (inl (kept_first i))
    back (inr r) = elim r.0 [ inl e ↦ more.1 (inl (told_first e r.1)) | inr l ↦ more.1 (inr (l, r.1)) ]

pub tells_in : (P Q : ℕ → Type 0) → ((k : ℕ) → P k → Q k → ⊥) → (ks before after : List ℕ) → TellsAll P Q ks before after → (k : ℕ) → In k after ↔ (In k before ⊎ (In k ks × P k))
tells_in P Q apart [] before after t k = (λ i. inl (subst (In k) t i), λ s. elim s [ inl i ↦ subst (In k) (sym t) i | inr n ↦ absurd n.0 ])
tells_in P Q apart (j ∷ ks) before after t k = one_told P Q apart j ks before t.0 after t.1 k (tells_in P Q apart ks t.0 after t.2 k)

pub where_same : {A : Type 0} (test : Number → Bool) (old new : Nodes A) (ks : List ℕ) → ((k : ℕ) → In k ks → new k ≡ old k) → nodes_where test new ks ≡ nodes_where test old ks
where_same test old new [] h = refl
where_same test old new (k ∷ ks) h =
    λ i. cond (test (node_number (h k (inl refl) i))) (k ∷ where_same test old new ks (λ j l. h j (inr l)) i) (where_same test old new ks (λ j l. h j (inr l)) i)

module _ {A : Type 0} where
  none_of : (o : Option (Node A)) → ((y : Node A) → o ≡ Some y → ⊥) → o ≡ None
  none_of None h = refl
  none_of (Some y) h = absurd (h y refl)

  turned_first : (o o' n : Nodes A) (k : ℕ) → o k ≡ o' k → HasTurned o n k → HasTurned o' n k
  turned_first o o' n k e h = record { node = h.node; was = sym e ∙ h.was; other = h.other }

  turned_second : (o n n' : Nodes A) (k : ℕ) → n k ≡ n' k → HasTurned o n k → HasTurned o n' k
  turned_second o n n' k e h = record { node = h.node; was = h.was; other = λ x. h.other (ap (λ (y : Option (Node A)). option_map seen_in_node y) e ∙ x) }

  pub none_told : (m : Nodes A) (t : ToldNodes) → TellsAllOf m m [] t t
  none_told m t = record {
    touched = λ k. (λ i. inl i, λ s. elim s [ inl i ↦ i | inr n ↦ absurd n.0 ]);
    changed = λ k. (λ i. inl i, λ s. elim s [ inl i ↦ i | inr n ↦ absurd n.0.1 ]);
    added = λ k. (λ i. inl i, λ s. elim s [ inl i ↦ i | inr n ↦ absurd n.0.1 ]);
  }

  -- 2. a step

  module _ (g : Numbering) (seed : ℕ) (old mid new : Nodes A) (root depth : ℕ) (by : Successors) (done : List ℕ) (changes changes' : List (Change A)) (p : ℕ) (n : Node A) (ws : List Child)
      (h : AreRenewals g seed old mid root depth by done) (sound : IsRooted root changes old) (sound_mid : IsRooted root changes' mid)
      (was : old p ≡ Some n) (is : mid p ≡ Some n) (deep : n.depth ≡ depth) (fresh : In p done → ⊥)
      (kids_same : (k : ℕ) → In k n.kids → mid k ≡ old k)
      (r : AreRenewed mid new p n ws (kids_in (new p))) (small : (k : ℕ) → In k (kids_in (new p)) → (mid k ≡ None) ⊎ In k n.kids) where
    abbrev ks : List ℕ
    ks = kids_in (new p)

    stays : (j : ℕ) (x : Node A) → mid j ≡ Some x → j ≢ p → (In j n.kids → ⊥) → new j ≡ mid j
    stays j x e ne out = elim (in_cases j ks) [
      | inl i ↦ elim (small j i) [ inl v ↦ absurd (none-some x (sym v ∙ e)) | inr l ↦ absurd (out l) ]
      | inr o ↦ r.others j ne o
    ]

    kid : (j : ℕ) → In j n.kids → rows.IsChild mid p j
    kid j i = rows.child root changes' mid sound_mid p j (subst (λ (o : Option (Node A)). In j (kids_in o)) (sym is) i)

    kid_depth : (j : ℕ) (x : Node A) → mid j ≡ Some x → In j n.kids → x.depth ≡ depth + 1
    kid_depth j x e i =
        let c = kid j i in
        let own = ap (λ (y : Node A). y.depth) (same_Some x c.node (sym e ∙ c.is)) in
        let above = ap (λ (y : Node A). y.depth) (same_Some n c.above (sym is ∙ c.above_is)) in
        omega (arith, own, above, c.depth, deep)

    kid_parent : (j : ℕ) (x : Node A) → mid j ≡ Some x → In j n.kids → x.parent ≡ p
    kid_parent j x e i = let c = kid j i in ap (λ (y : Node A). y.parent) (same_Some x c.node (sym e ∙ c.is)) ∙ c.parent_is

    stays_under : (q j : ℕ) (x : Node A) → q ≢ p → mid j ≡ Some x → x.parent ≡ q → x.depth ≡ depth + 1 → new j ≡ mid j
    stays_under q j x ne e parent below = stays j x e other (λ i. ne (sym parent ∙ kid_parent j x e i))
      where
        other : j ≢ p
        other f = let own = ap (λ (y : Node A). y.depth) (same_Some x n (sym e ∙ ap mid f ∙ is)) in absurd (omega (arith, own, below, deep))

    alive : (j : ℕ) (y : Node A) → old j ≡ Some y → (x : Node A) × (mid j ≡ Some x) × (kin_of y ≡ kin_of x)
    alive j y e = kin_from (mid j) (kin_of y) (h.stay j (kin_of y) (ap (option_map (λ (z : Node A). kin_of z)) e))

    other_parent : (q : ℕ) → In q done → q ≢ p
    other_parent q i f = fresh (subst (λ j. In j done) f i)

    -- a parent whose children were made stays
    self_now : (q : ℕ) → In q done → (x : Node A) × (mid q ≡ Some x) × (x.depth ≡ depth)
    self_now q i = let y = h.parents q i in let x = alive q y.0 y.1 in (x.0, x.1, sym (ap (λ (z : Kin). z.depth) x.2) ∙ y.2)

    self_stays : (q : ℕ) → In q done → new q ≡ mid q
    self_stays q i = let x = self_now q i in stays q x.0 x.1 (other_parent q i) (λ l. absurd (let d = kid_depth q x.0 x.1 l in omega (arith, x.2, d)))

    -- and so do its children, those that it had and those that it has
    had_stays : (q j : ℕ) → In q done → In j (kids_in (old q)) → new j ≡ mid j
    had_stays q j i l =
        let c = rows.child root changes old sound q j l in
        let y = h.parents q i in
        let x = alive j c.node c.is in
        let above = ap (λ (z : Node A). z.depth) (same_Some y.0 c.above (sym y.1 ∙ c.above_is)) in
        let same = ap (λ (z : Kin). z.depth) x.2 in
        let below : x.0.depth ≡ depth + 1 = omega (arith, above, same, c.depth, y.2) in
        stays_under q j x.0 (other_parent q i) x.1 (sym (ap (λ (z : Kin). z.parent) x.2) ∙ c.parent_is) below

    has_stays : (q j : ℕ) → In q done → In j (kids_in (mid q)) → new j ≡ mid j
    has_stays q j i l =
        let c = rows.child root changes' mid sound_mid q j l in
        let x = self_now q i in
        let above = ap (λ (z : Node A). z.depth) (same_Some x.0 c.above (sym x.1 ∙ c.above_is)) in
        let below : c.node.depth ≡ depth + 1 = omega (arith, above, c.depth, x.2) in
        stays_under q j c.node (other_parent q i) c.is c.parent_is below

    -- a child that was made is the one that was there at the start, or was not there then either
    made_same : (k : ℕ) → In k ks → mid k ≡ old k
    made_same k i = elim (small k i) [
      | inl v ↦ v ∙ sym (none_of (old k) (λ y e. let x = alive k y e in none-some x.0 (sym v ∙ x.1)))
      | inr l ↦ kids_same k l
    ]

    keeps_mid : KeepsChildren old new p → KeepsChildren mid new p
    keeps_mid c = record {
      list = c.list ∙ ap (λ (o : Option (Node A)). kids_in o) (was ∙ sym is);
      kinds = λ k i x e. c.kinds k (subst (λ (o : Option (Node A)). In k (kids_in o)) (is ∙ sym was) i) x (sym (kids_same k (subst (λ (o : Option (Node A)). In k (kids_in o)) is i)) ∙ e);
    }

    keeps_old : KeepsChildren mid new p → KeepsChildren old new p
    keeps_old c = record {
      list = c.list ∙ ap (λ (o : Option (Node A)). kids_in o) (is ∙ sym was);
      kinds = λ k i x e. c.kinds k (subst (λ (o : Option (Node A)). In k (kids_in o)) (was ∙ sym is) i) x (kids_same k (subst (λ (o : Option (Node A)). In k (kids_in o)) was i) ∙ e);
    }

    keeps_on : (q : ℕ) → In q done → KeepsChildren old mid q → KeepsChildren old new q
    keeps_on q i c = record {
      list = ap (λ (o : Option (Node A)). kids_in o) (self_stays q i) ∙ c.list;
      kinds = λ k l x e. ap (λ (o : Option (Node A)). option_map kind_in_node o) (had_stays q k i l) ∙ c.kinds k l x e;
    }

    keeps_back : (q : ℕ) → In q done → KeepsChildren old new q → KeepsChildren old mid q
    keeps_back q i c = record {
      list = ap (λ (o : Option (Node A)). kids_in o) (sym (self_stays q i)) ∙ c.list;
      kinds = λ k l x e. ap (λ (o : Option (Node A)). option_map kind_in_node o) (sym (had_stays q k i l)) ∙ c.kinds k l x e;
    }

    module _ (before t after : ToldNodes) (so_far : TellsAllOf old mid done before t) (told : TellsOf mid new p n ws ks t after) where
      touched_kept : (k : ℕ) → In k t.touched → In k after.touched
      touched_kept k i = elim told.touched [
        | inl one ↦ subst (In k) (sym one.1) (rows.In_left k t.touched (p ∷ []) i)
        | inr one ↦ subst (In k) (sym one.1) i
      ]

      touched_was : (k : ℕ) → In k t.touched → In k before.touched ⊎ (In k (p ∷ done) × (KeepsChildren old new k → ⊥))
      touched_was k i = elim ((so_far.touched k).0 i) [ inl b ↦ inl b | inr d ↦ inr (inr d.0, λ c. d.1 (keeps_back k d.0 c)) ]

      touched_forth : (k : ℕ) → In k after.touched → In k before.touched ⊎ (In k (p ∷ done) × (KeepsChildren old new k → ⊥))
      touched_forth k i = elim told.touched [
        | inl one ↦ elim (rows.In_append t.touched (p ∷ []) k (subst (In k) one.1 i)) [
          | inl l ↦ touched_was k l
          | inr l ↦ elim l [ inl e ↦ inr (inl e, subst (λ j. KeepsChildren old new j → ⊥) (sym e) (λ c. one.0 (keeps_mid c))) | inr none ↦ absurd none ]
        ]
        | inr one ↦ touched_was k (subst (In k) one.1 i)
      ]

      touched_here : (k : ℕ) → k ≡ p → (KeepsChildren old new k → ⊥) → In k after.touched
      touched_here k e turns = elim told.touched [
        | inl one ↦ subst (In k) (sym one.1) (rows.In_right k t.touched (p ∷ []) (inl e))
        | inr one ↦ absurd (turns (subst (KeepsChildren old new) (sym e) (keeps_old one.0)))
      ]

      touched_back : (k : ℕ) → In k before.touched ⊎ (In k (p ∷ done) × (KeepsChildren old new k → ⊥)) → In k after.touched
      touched_back k (inl b) = touched_kept k ((so_far.touched k).1 (inl b))
      touched_back k (inr d) = elim d.0 [
        | inl e ↦ touched_here k e d.1
        | inr i ↦ touched_kept k ((so_far.touched k).1 (inr (i, λ c. d.1 (keeps_on k i c))))
      ]

      below : (P R S : ℕ → Type 0) → ((k : ℕ) → In k ks → R k ↔ S k) → ((q k : ℕ) → In q done → In k (kids_in (mid q)) → P k ↔ S k) → (b m a : List ℕ)
          → ((k : ℕ) → In k m ↔ (In k b ⊎ (IsChildOfAny mid done k × P k))) → ((k : ℕ) → In k a ↔ (In k m ⊎ (In k ks × R k))) → (k : ℕ) → In k a ↔ (In k b ⊎ (IsChildOfAny new (p ∷ done) k × S k))
      below P R S one rest b m a first step k = (forth, back)
        where
          forth : In k a → In k b ⊎ (IsChildOfAny new (p ∷ done) k × S k)
          forth i = elim ((step k).0 i) [
            | inl l ↦ elim ((first k).0 l) [
              | inl u ↦ inl u
              | inr u ↦ inr ((u.0.0, inr u.0.1, subst (λ (o : Option (Node A)). In k (kids_in o)) (sym (self_stays u.0.0 u.0.1)) u.0.2), (rest u.0.0 k u.0.1 u.0.2).0 u.1)
            ]
            | inr l ↦ inr ((p, inl refl, l.0), (one k l.0).0 l.1)
          ]

          here : (q : ℕ) → q ≡ p → In k (kids_in (new q)) → S k → In k a
          here q e l s = let l' = subst (λ j. In k (kids_in (new j))) e l in (step k).1 (inr (l', (one k l').1 s))

          there : (q : ℕ) → In q done → In k (kids_in (new q)) → S k → In k a
          there q i l s = let l' = subst (λ (o : Option (Node A)). In k (kids_in o)) (self_stays q i) l in (step k).1 (inl ((first k).1 (inr ((q, i, l'), (rest q k i l').1 s))))

          back : In k b ⊎ (IsChildOfAny new (p ∷ done) k × S k) → In k a
          back (inl u) = (step k).1 (inl ((first k).1 (inl u)))
          back (inr u) = elim u.0.1 [ inl e ↦ here u.0.0 e u.0.2 u.1 | inr i ↦ there u.0.0 i u.0.2 u.1 ]

      pub told_more : TellsAllOf old new (p ∷ done) before after
      told_more = record {
        touched = λ k. (touched_forth k, touched_back k);
        changed =
            below (HasTurned old mid) (HasTurned mid new) (HasTurned old new) (λ k i. (turned_first mid old new k (made_same k i), turned_first old mid new k (sym (made_same k i))))
            (λ q k i l. (turned_second old mid new k (sym (has_stays q k i l)), turned_second old new mid k (has_stays q k i l))) before.changed t.changed after.changed so_far.changed
            (tells_in (HasTurned mid new) (KeepsSymbol mid new) (λ k u v. u.other (v u.node u.was)) ks t.changed after.changed told.changed);
        added =
            below (IsNewNode old) (IsNewNode mid) (IsNewNode old) (λ k i. (λ e. sym (made_same k i) ∙ e, λ e. made_same k i ∙ e)) (λ q k i l. (λ e. e, λ e. e)) before.added t.added after.added so_far.added
            (tells_in (IsNewNode mid) (λ k. IsSome (mid k)) (λ k u v. none_lives (mid k) u v) ks t.added after.added told.added);
      }
        where
          none_lives : (o : Option (Node A)) → o ≡ None → IsSome o → ⊥
          none_lives o e s = absurd (grind (arith, subst IsSome e s))

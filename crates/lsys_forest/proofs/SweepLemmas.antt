-- A commit leaves exactly the nodes that are reached.
use Rattle.std.proofs.Common.{◌≡◌, ◌≢◌, ◌⊎◌, ◌+◌, ℕ, zero, suc, List, [], ◌∷◌, ◌++◌, Some, None, refl, sym, ap, ◌∙◌, arith, inl, inr, subst}
use Rattle.std.specs.Prelude.{IsSome}
use Rattle.lsys_forest.specs.declared.node.Footing.{Footing}
use Rattle.lsys_forest.specs.Slots.{footing_at}
use Rattle.lsys_forest.proofs.WalkLemmas.{get_In}
use Rattle.std.proofs.lemmas.Bool.{cases_eq}
use Rattle.std.proofs.lemmas.Option.{none-some, same_Some}
use Rattle.lsys_spec.specs.Rows.{In}
use Rattle.lsys_forest.specs.Nodes.{Node, Nodes, with_node}
use Rattle.lsys_forest.specs.Changes.{OldKids, Change}
use Rattle.lsys_forest.specs.Stocks.{looked}
use Rattle.lsys_forest.specs.Groves.{ReachedIn, Reached, Named, IsRooted}
use Rattle.lsys_forest.specs.Sweeps.{IsFast, IsSwept}
use Rattle.lsys_forest.proofs.StockLemmas.{put_same, put_other}
use Rattle.lsys_forest.proofs.SoundLemmas.{Named_more, Named_last}
use Rattle.lsys_forest.specs.Ranks.{AreRanked}

later_left : (k y : ℕ) (left : List ℕ) → y ≢ k → In y (k ∷ left) → In y left
later_left k y left ne h = elim h [
  | inl e ↦ absurd (ne e)
  | inr later ↦ later
]

module _ {A : Type 0} where
  -- a node that is left stands as it stood
  kept : (first : Nodes A) (root : ℕ) (m : Nodes A) (changes : List (Change A)) (left : List ℕ) → IsSwept first root m changes left → (k : ℕ) (n : Node A) → m k ≡ Some n → first k ≡ Some n
  kept first root m changes left swept k n is = elim (swept.same k) [
    | inl same ↦ sym same ∙ is
    | inr gone ↦ absurd (none-some n (sym gone.0 ∙ is))
  ]

  -- a node that is reached is left
  stays : (first : Nodes A) (root : ℕ) (m : Nodes A) (changes : List (Change A)) (left : List ℕ) → IsSwept first root m changes left → (k : ℕ) → Reached first root k → m k ≡ first k
  stays first root m changes left swept k reached = elim (swept.same k) [
    | inl same ↦ same
    | inr gone ↦ absurd (gone.1 reached)
  ]

  -- a node that is not fast is not reached
  unreached : (first : Nodes A) (root : ℕ) (before : List (Change A)) → IsRooted root before first → (m : Nodes A) (changes : List (Change A)) (left : List ℕ) → IsSwept first root m changes left → (k : ℕ) (n : Node A) → k ≢ root → m k ≡ Some n → (IsFast m k n → ⊥) → Reached first root k → ⊥
  unreached first root before sound m changes left swept k n other is apart r = by r.0 r.1
    where
      by : (d : ℕ) → ReachedIn first root d k → ⊥
      by zero h = other h
      by (suc d) h =
          let p = h.0 in
          let under = (sound.own p h.1 h.3).under k h.4 in
          let same : under.node ≡ n = same_Some under.node n (sym under.is ∙ kept first root m changes left swept k n is) in
          let parent_is : n.parent ≡ p = ap (λ (o : Node A). o.parent) (sym same) ∙ under.parent_is in
          apart (record {
            parent = h.1;
            is = ap m parent_is ∙ stays first root m changes left swept p (d, h.2) ∙ h.3;
            among = h.4;
          })

  -- a loose node was removed, and its children noted
  pub IsSwept-removes : (first : Nodes A) (root : ℕ) (before : List (Change A)) → IsRooted root before first → (m m' : Nodes A) (changes changes' : List (Change A)) (k : ℕ) (n : Node A) (left : List ℕ) → k ≢ root → m k ≡ Some n → (IsFast m k n → ⊥) → m' ≡ with_node m k None → changes' ≡ changes ++ record { node = k; before = OldKids n.kids } ∷ [] → IsSwept first root m changes (k ∷ left) → IsSwept first root m' changes' left
  IsSwept-removes first root before sound m m' changes changes' k n left other is apart removed noted swept =
      let c : Change A = record { node = k; before = OldKids n.kids } in
      let after = with_node m k None in
      let done : IsSwept first root after (changes ++ c ∷ []) left = record {
        same = λ y. elim (cases_eq y k) [
          | inl e ↦ inr (put_same m k y None e, subst (λ (x : ℕ). Reached first root x → ⊥) (sym e) (unreached first root before sound m changes (k ∷ left) swept k n other is apart))
          | inr ne ↦ elim (swept.same y) [
            | inl same ↦ inl (put_other m k y None ne ∙ same)
            | inr gone ↦ inr (put_other m k y None ne ∙ gone.0, gone.1)
          ]
        ];
        cover = λ y o there differs. elim (cases_eq y k) [
          | inl e ↦ absurd (none-some o (sym (put_same m k y None e) ∙ there))
          | inr ne ↦ elim (swept.cover y o (sym (put_other m k y None ne) ∙ there) differs) [
            | inl linked ↦ elim (cases_eq o.parent k) [
              | inl here ↦ inr (inr (Named_last changes c y (subst (λ (q : Node A). In y q.kids) (same_Some linked.parent n (sym linked.is ∙ ap m here ∙ is)) linked.among)))
              | inr away ↦ inl (record { parent = linked.parent; is = put_other m k o.parent None away ∙ linked.is; among = linked.among })
            ]
            | inr waits ↦ elim waits [
              | inl among ↦ inr (inl (later_left k y left ne among))
              | inr named ↦ inr (inr (Named_more changes c y named))
            ]
          ]
        ];
        kids = λ p y o there among. elim (cases_eq p k) [
          | inl e ↦ absurd (none-some o (sym (put_same m k p None e) ∙ there))
          | inr ne ↦
              let was : m p ≡ Some o = sym (put_other m k p None ne) ∙ there in
              elim (cases_eq y k) [
                | inl e ↦
                    let under = (sound.own p o (kept first root m changes (k ∷ left) swept p o was)).under y among in
                    let same : under.node ≡ n = same_Some under.node n (sym under.is ∙ ap first e ∙ kept first root m changes (k ∷ left) swept k n is) in
                    let parent_is : n.parent ≡ p = ap (λ (u : Node A). u.parent) (sym same) ∙ under.parent_is in
                    absurd (apart (record { parent = o; is = ap m parent_is ∙ was; among = subst (λ z. In z o.kids) e among }))
                | inr far ↦ subst IsSome (sym (put_other m k y None far)) (swept.kids p y o was among)
              ]
        ];
      } in
      subst (λ (cs : List (Change A)). IsSwept first root m' cs left) (sym noted) (subst (λ (x : Nodes A). IsSwept first root x (changes ++ c ∷ []) left) (sym removed) done)

  -- nothing was to be done
  pub IsSwept-spares : (first : Nodes A) (root : ℕ) (m : Nodes A) (changes : List (Change A)) (k : ℕ) (left : List ℕ) → ((n : Node A) → k ≢ root → m k ≡ Some n → IsFast m k n) → IsSwept first root m changes (k ∷ left) → IsSwept first root m changes left
  IsSwept-spares first root m changes k left fast swept = record {
    same = swept.same;
    cover = λ y n is other. elim (swept.cover y n is other) [
      | inl linked ↦ inl linked
      | inr waits ↦ elim waits [
        | inl among ↦ elim among [
          | inl e ↦ inl (subst (λ z. IsFast m z n) (sym e) (fast n (λ h. other (e ∙ h)) (ap m (sym e) ∙ is)))
          | inr later ↦ inr (inl later)
        ]
        | inr named ↦ inr (inr named)
      ]
    ];
    kids = swept.kids;
  }

  -- at the start
  pub IsSwept-start : (first : Nodes A) (root : ℕ) (changes : List (Change A)) → IsRooted root changes first → IsSwept first root first changes []
  IsSwept-start first root changes sound = record {
    same = λ k. inl refl;
    cover = λ k n is other. let h = sound.held k n is other in elim h.linked [
      | inl among ↦ inl (record { parent = h.parent; is = h.is; among = among })
      | inr named ↦ inr (inr named)
    ];
    kids = λ p k n is among. let u = (sound.own p n is).under k among in subst IsSome (sym u.is) refl;
  }

  Named_cases : (changes : List (Change A)) (c : Change A) (x : ℕ) → Named (changes ++ c ∷ []) x → In x (looked c) ⊎ Named changes x
  Named_cases [] c x (inl here) = inl here
  Named_cases [] c x (inr none) = absurd none
  Named_cases (first ∷ changes) c x (inl here) = inr (inl here)
  Named_cases (first ∷ changes) c x (inr later) = elim (Named_cases changes c x later) [ inl h ↦ inl h | inr h ↦ inr (inr h) ]

  -- the last change is taken up
  pub IsSwept-pop : (first : Nodes A) (root : ℕ) (m : Nodes A) (changes : List (Change A)) (c : Change A) → IsSwept first root m (changes ++ c ∷ []) [] → IsSwept first root m changes (looked c)
  IsSwept-pop first root m changes c swept = record {
    same = swept.same;
    cover = λ k n is other. elim (swept.cover k n is other) [
      | inl linked ↦ inl linked
      | inr waits ↦ elim waits [
        | inl among ↦ absurd among
        | inr named ↦ inr (Named_cases changes c k named)
      ]
    ];
    kids = swept.kids;
  }

  -- a loose node was removed: it is no child of a node that is left
  pub removed_ranked : (first : Nodes A) (root : ℕ) (before : List (Change A)) → IsRooted root before first → (m m' : Nodes A) (changes : List (Change A)) (footings footings' : List Footing) (k : ℕ) (n : Node A) (left : List ℕ) → m k ≡ Some n → (IsFast m k n → ⊥) → m' ≡ with_node m k None → ((j : ℕ) → j ≢ k → footing_at footings' j ≡ footing_at footings j) → IsSwept first root m changes left → AreRanked m footings → AreRanked m' footings'
  removed_ranked first root before sound m m' changes footings footings' k n left is apart removed same swept ranked = λ p o i y there here.
      let found = sym (ap (λ (f : Nodes A). f p) removed) ∙ there in
      elim (cases_eq p k) [
        | inl e ↦ absurd (none-some o (sym (put_same m k p None e) ∙ found))
        | inr ne ↦
            let was : m p ≡ Some o = sym (put_other m k p None ne) ∙ found in
            elim (cases_eq y k) [
              | inl e ↦
                  let among = get_In o.kids i y here in
                  let under = (sound.own p o (kept first root m changes left swept p o was)).under y among in
                  let one : under.node ≡ n = same_Some under.node n (sym under.is ∙ ap first e ∙ kept first root m changes left swept k n is) in
                  let parent_is : n.parent ≡ p = ap (λ (u : Node A). u.parent) (sym one) ∙ under.parent_is in
                  absurd (apart (record { parent = o; is = ap m parent_is ∙ was; among = subst (λ z. In z o.kids) e among }))
              | inr far ↦ ap (λ (f : Footing). f.rank) (same y far) ∙ ranked p o i y was here
            ]
      ]

  linked_at_end : (first : Nodes A) (root : ℕ) (m : Nodes A) → IsSwept first root m [] [] → (k : ℕ) (n : Node A) → m k ≡ Some n → k ≢ root → IsFast m k n
  linked_at_end first root m swept k n is other = elim (swept.cover k n is other) [
    | inl linked ↦ linked
    | inr waits ↦ elim waits [ inl among ↦ absurd among | inr named ↦ absurd named ]
  ]

  -- the parent of a node that is left, one level above
  record IsBelow (m : Nodes A) (k : ℕ) (n : Node A) : Type 0 where
    pub parent : Node A
    pub is : m n.parent ≡ Some parent
    pub among : In k parent.kids
    pub depth : n.depth ≡ parent.depth + 1

  below : (first : Nodes A) (root : ℕ) (changes : List (Change A)) → IsRooted root changes first → (m : Nodes A) → IsSwept first root m [] [] → (k : ℕ) (n : Node A) → m k ≡ Some n → k ≢ root → IsBelow m k n
  below first root changes sound m swept k n is other =
      let linked = linked_at_end first root m swept k n is other in
      let h = sound.held k n (kept first root m [] [] swept k n is) other in
      let same : h.parent ≡ linked.parent = same_Some h.parent linked.parent (sym h.is ∙ kept first root m [] [] swept n.parent linked.parent linked.is) in
      record {
        parent = linked.parent;
        is = linked.is;
        among = linked.among;
        depth = h.depth ∙ ap (λ (o : Node A). o.depth + 1) same;
      }

  up : (first : Nodes A) (root : ℕ) (m : Nodes A) → IsSwept first root m [] [] → (k : ℕ) (n : Node A) → IsBelow m k n → Reached first root n.parent → Reached first root k
  up first root m swept k n b r = (suc r.0, (n.parent, b.parent, r.1, kept first root m [] [] swept n.parent b.parent b.is, b.among))

  -- each node that is left at the end is reached
  pub all_reached : (first : Nodes A) (root : ℕ) (changes : List (Change A)) → IsRooted root changes first → (m : Nodes A) → IsSwept first root m [] [] → (d k : ℕ) (n : Node A) → m k ≡ Some n → n.depth ≡ d → Reached first root k
  all_reached first root changes sound m swept zero k n is depth = elim (cases_eq k root) [
    | inl e ↦ (0, e)
    | inr ne ↦ let b = below first root changes sound m swept k n is ne in absurd (omega (arith, depth, b.depth))
  ]
  all_reached first root changes sound m swept (suc d) k n is depth = elim (cases_eq k root) [
    | inl e ↦ (0, e)
    | inr ne ↦
        let b = below first root changes sound m swept k n is ne in
        up first root m swept k n b (all_reached first root changes sound m swept d n.parent b.parent b.is (omega (arith, depth, b.depth)))
  ]

  pub reached_stays : (first : Nodes A) (root : ℕ) (m : Nodes A) → IsSwept first root m [] [] → (k : ℕ) → Reached first root k → m k ≡ first k
  reached_stays first root m swept = stays first root m [] [] swept

  pub left_stood : (first : Nodes A) (root : ℕ) (m : Nodes A) → IsSwept first root m [] [] → (k : ℕ) (n : Node A) → m k ≡ Some n → first k ≡ Some n
  left_stood first root m swept = kept first root m [] [] swept

  -- a forest is sound after a commit
  pub IsSound-swept : (first : Nodes A) (root : ℕ) (changes : List (Change A)) → IsRooted root changes first → (m : Nodes A) → IsSwept first root m [] [] → IsRooted root [] m
  IsSound-swept first root changes sound m swept = record {
    few = λ k n is. sound.few k n (kept first root m [] [] swept k n is);
    root_lives = (sound.root_lives.0, stays first root m [] [] swept root (0, refl) ∙ sound.root_lives.1, sound.root_lives.2);
    held = λ x n is other. let b = below first root changes sound m swept x n is other in record { parent = b.parent; is = b.is; depth = b.depth; linked = inl b.among };
    own = λ p n is.
        let was = kept first root m [] [] swept p n is in
        let r = all_reached first root changes sound m swept n.depth p n is refl in
        let are = sound.own p n was in
        let same : (x : ℕ) → In x n.kids → m x ≡ first x = λ x among. stays first root m [] [] swept x (suc r.0, (p, n, r.1, was, among)) in
        record {
          under = λ x among.
              let u = are.under x among in
              record { node = u.node; is = same x among ∙ u.is; parent_is = u.parent_is; other = u.other };
          apart = are.apart;
        };
  }

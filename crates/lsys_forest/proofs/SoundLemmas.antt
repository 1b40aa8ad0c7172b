-- Changes of one node keep a forest sound, and its last rest.
use Rattle.std.proofs.Common.{◌≡◌, ◌≢◌, ◌⊎◌, ◌+◌, ℕ, List, [], ◌∷◌, ◌++◌, Option, Some, None, refl, sym, ap, ◌∙◌, arith, inl, inr, subst, append_assoc}
use Rattle.std.specs.Prelude.{IsSome, option_map}
use Rattle.std.proofs.Math.Path.{fun_ext}
use Rattle.std.proofs.lemmas.Bool.{cases_eq}
use Rattle.std.proofs.lemmas.List.{append-nil}
use Rattle.std.proofs.lemmas.Option.{none-some, same_Some}
use Rattle.lsys_spec.specs.Rows.{In}
use Rattle.lsys_level.specs.Spots.{Seen}
use Rattle.lsys_forest.specs.Nodes.{Node, Nodes, with_node, change, with_seen, with_key, with_kids, with_answer}
use Rattle.lsys_forest.specs.Changes.{OldSeen, OldKey, OldKids, OldAnswer, Change, undo, undone}
use Rattle.lsys_forest.specs.Stocks.{looked}
use Rattle.lsys_forest.specs.Groves.{HasFew, IsUnder, AreKids, Named, HangsOnParent, IsRooted, AreSound}
use Rattle.lsys_forest.proofs.StockLemmas.{put_same, put_other}

pub some_of : {X : Type 0} (o : Option X) → IsSome o → (x : X) × (o ≡ Some x)
some_of (Some x) h = (x, refl)
some_of None h = absurd (grind (arith, h))

tails_same : {X : Type 0} (x y : X) (xs ys : List X) → x ∷ xs ≡ y ∷ ys → xs ≡ ys
tails_same x y xs ys e = cc

heads_same : {X : Type 0} (x y : X) (xs ys : List X) → x ∷ xs ≡ y ∷ ys → x ≡ y
heads_same x y xs ys e = cc

never_empty : {X : Type 0} (x : X) (xs : List X) → [] ≡ x ∷ xs → ⊥
never_empty x xs e = cc

-- how a list that ends with one is split: after it, or before it
both_empty : {X : Type 0} (xs ys : List X) → [] ≡ xs ++ ys → (xs ≡ []) × (ys ≡ [])
both_empty [] ys e = (refl, sym e)
both_empty (x ∷ xs) ys e = absurd (never_empty x (xs ++ ys) e)

split_push : {X : Type 0} (xs ys cs : List X) (c : X) → cs ++ c ∷ [] ≡ xs ++ ys → ((ys ≡ []) × (xs ≡ cs ++ c ∷ [])) ⊎ ((zs : List X) × (ys ≡ zs ++ c ∷ []) × (cs ≡ xs ++ zs))
split_push [] ys cs c e = inr (cs, sym e, refl)
split_push {X = X} (x ∷ xs) ys [] c e =
    let none = both_empty xs ys (tails_same c x [] (xs ++ ys) e) in
    inl (none.1, ap (λ (l : List X). x ∷ l) none.0 ∙ ap (λ (z : X). z ∷ []) (sym (heads_same c x [] (xs ++ ys) e)))
split_push {X = X} (x ∷ xs) ys (d ∷ cs) c e =
    let same = heads_same d x (cs ++ c ∷ []) (xs ++ ys) e in
    elim (split_push xs ys cs c (tails_same d x (cs ++ c ∷ []) (xs ++ ys) e)) [
      | inl r ↦ inl (r.0, ap (λ (l : List X). x ∷ l) r.1 ∙ ap (λ (z : X). z ∷ (cs ++ c ∷ [])) (sym same))
      | inr r ↦ inr (r.0, r.1, ap (λ (l : List X). d ∷ l) r.2 ∙ ap (λ (z : X). z ∷ (xs ++ r.0)) same)
    ]

module _ {A : Type 0} where
  -- 1. the last rest

  -- a second write at the same node of what stood there undoes the first
  pub put_back : (m : Nodes A) (k : ℕ) (v w : Option (Node A)) → m k ≡ v → with_node (with_node m k w) k v ≡ m
  put_back m k v w was = fun_ext (λ j. elim (cases_eq j k) [
    | inl e ↦ put_same (with_node m k w) k j v e ∙ sym was ∙ ap m (sym e)
    | inr ne ↦ put_other (with_node m k w) k j v ne ∙ put_other m k j w ne
  ])

  pub change_back : (g : Node A → Node A) (m : Nodes A) (k : ℕ) (n n' : Node A) → m k ≡ Some n → g n' ≡ n → change g (with_node m k (Some n')) k ≡ m
  change_back g m k n n' is back =
      ap (λ (v : Option (Node A)). with_node (with_node m k (Some n')) k (option_map g v)) (put_same m k k (Some n') refl)
      ∙ put_back m k (Some (g n')) (Some n') (is ∙ ap Some (sym back))

  pub undone_last : (changes : List (Change A)) (c : Change A) (m : Nodes A) → undone (changes ++ c ∷ []) m ≡ undone changes (undo c m)
  undone_last [] c m = refl
  undone_last (first ∷ changes) c m = ap (undo first) (undone_last changes c m)

  -- a change whose note undoes it leaves the forest of the last rest
  pub rest_kept : (changes later : List (Change A)) (c : Change A) (old new : Nodes A) → later ≡ changes ++ c ∷ [] → undo c new ≡ old → undone later new ≡ undone changes old
  rest_kept changes later c old new pushed back = ap (λ (cs : List (Change A)). undone cs new) pushed ∙ undone_last changes c new ∙ ap (undone changes) back

  -- 2. what a commit looks at

  pub Named_more : (changes : List (Change A)) (c : Change A) (x : ℕ) → Named changes x → Named (changes ++ c ∷ []) x
  Named_more [] c x named = absurd named
  Named_more (first ∷ changes) c x (inl here) = inl here
  Named_more (first ∷ changes) c x (inr later) = inr (Named_more changes c x later)

  pub Named_last : (changes : List (Change A)) (c : Change A) (x : ℕ) → In x (looked c) → Named (changes ++ c ∷ []) x
  Named_last [] c x named = inl named
  Named_last (first ∷ changes) c x named = inr (Named_last changes c x named)

  -- the second node may stand for the first, where a commit looks at the children that it lost
  pub record Replaces (c : Change A) (old new : Node A) : Type 0 where
    pub parent : new.parent ≡ old.parent
    pub depth : new.depth ≡ old.depth
    pub kids : (x : ℕ) → In x old.kids → In x new.kids ⊎ In x (looked c)

  record Then (m : Nodes A) (c : Change A) (x : ℕ) (new : Node A) : Type 0 where
    pub node : Node A
    pub is : m x ≡ Some node
    pub replaces : Replaces c node new

  record After (m : Nodes A) (c : Change A) (x : ℕ) (old : Node A) : Type 0 where
    pub node : Node A
    pub is : m x ≡ Some node
    pub replaces : Replaces c old node

  itself : (c : Change A) (n : Node A) → Replaces c n n
  itself c n = record { parent = refl; depth = refl; kids = λ x h. inl h }

  before : (m : Nodes A) (c : Change A) (k : ℕ) (old new : Node A) → m k ≡ Some old → Replaces c old new → (x : ℕ) (n : Node A) → with_node m k (Some new) x ≡ Some n → Then m c x n
  before m c k old new is replaces x n found = elim (cases_eq x k) [
    | inl e ↦ record { node = old; is = ap m e ∙ is; replaces = subst (Replaces c old) (same_Some new n (sym (put_same m k x (Some new) e) ∙ found)) replaces }
    | inr ne ↦ record { node = n; is = sym (put_other m k x (Some new) ne) ∙ found; replaces = itself c n }
  ]

  after : (m : Nodes A) (c : Change A) (k : ℕ) (old new : Node A) → m k ≡ Some old → Replaces c old new → (x : ℕ) (n : Node A) → m x ≡ Some n → After (with_node m k (Some new)) c x n
  after m c k old new is replaces x n found = elim (cases_eq x k) [
    | inl e ↦ record { node = new; is = put_same m k x (Some new) e; replaces = subst (λ o. Replaces c o new) (same_Some old n (sym is ∙ sym (ap m e) ∙ found)) replaces }
    | inr ne ↦ record { node = n; is = put_other m k x (Some new) ne ∙ found; replaces = itself c n }
  ]

  under_after : (m : Nodes A) (root : ℕ) (c : Change A) (k : ℕ) (old new : Node A) → m k ≡ Some old → Replaces c old new → (p x : ℕ) → IsUnder m root p x → IsUnder (with_node m k (Some new)) root p x
  under_after m root c k old new is replaces p x under =
      let a = after m c k old new is replaces x under.node under.is in
      record { node = a.node; is = a.is; parent_is = a.replaces.parent ∙ under.parent_is; other = under.other }

  kids_after : (m : Nodes A) (root : ℕ) (c : Change A) (k : ℕ) (old new : Node A) → m k ≡ Some old → Replaces c old new → (p : ℕ) (kids : List ℕ) → AreKids m root p kids → AreKids (with_node m k (Some new)) root p kids
  kids_after m root c k old new is replaces p kids are = record {
    under = λ x h. under_after m root c k old new is replaces p x (are.under x h);
    apart = are.apart;
  }

  linked_after : (changes : List (Change A)) (c : Change A) (old new : Node A) (x : ℕ) → Replaces c old new → In x old.kids ⊎ Named changes x → In x new.kids ⊎ Named (changes ++ c ∷ []) x
  linked_after changes c old new x replaces (inl kid) = elim (replaces.kids x kid) [ inl h ↦ inl h | inr h ↦ inr (Named_last changes c x h) ]
  linked_after changes c old new x replaces (inr named) = inr (Named_more changes c x named)

  pub IsSound-put : (root : ℕ) (changes : List (Change A)) (c : Change A) (m : Nodes A) (k : ℕ) (old new : Node A) → m k ≡ Some old → Replaces c old new → AreKids m root k new.kids → HasFew new.seen → IsRooted root changes m → IsRooted root (changes ++ c ∷ []) (with_node m k (Some new))
  IsSound-put root changes c m k old new is replaces kids few sound = record {
    few = λ x n found. elim (cases_eq x k) [
      | inl e ↦ subst (λ (o : Node A). HasFew o.seen) (same_Some new n (sym (put_same m k x (Some new) e) ∙ found)) few
      | inr ne ↦ sound.few x n (sym (put_other m k x (Some new) ne) ∙ found)
    ];
    root_lives =
        let a = after m c k old new is replaces root sound.root_lives.0 sound.root_lives.1 in
        (a.node, a.is, a.replaces.depth ∙ sound.root_lives.2);
    held = λ x n found other.
        let b = before m c k old new is replaces x n found in
        let h = sound.held x b.node b.is other in
        let a = after m c k old new is replaces b.node.parent h.parent h.is in
        record {
          parent = a.node;
          is = ap (with_node m k (Some new)) b.replaces.parent ∙ a.is;
          depth = b.replaces.depth ∙ h.depth ∙ ap (λ d. d + 1) (sym a.replaces.depth);
          linked = linked_after changes c h.parent a.node x a.replaces h.linked;
        };
    own = λ p n found. kids_after m root c k old new is replaces p n.kids (elim (cases_eq p k) [
      | inl e ↦ subst (λ q. AreKids m root q n.kids) (sym e) (subst (λ (o : Node A). AreKids m root k o.kids) (same_Some new n (sym (put_same m k p (Some new) e) ∙ found)) kids)
      | inr ne ↦ sound.own p n (sym (put_other m k p (Some new) ne) ∙ found)
    ]);
  }

  -- a new node, which the commit looks at
  pub IsSound-add : (root : ℕ) (changes : List (Change A)) (c : Change A) (m : Nodes A) (k : ℕ) (new parent : Node A) → m k ≡ None → m new.parent ≡ Some parent → new.depth ≡ parent.depth + 1 → new.kids ≡ [] → HasFew new.seen → In k (looked c) → IsRooted root changes m → IsRooted root (changes ++ c ∷ []) (with_node m k (Some new))
  IsSound-add root changes c m k new parent vacant is depth none few named sound = record {
    few = λ x n found. elim (cases_eq x k) [
      | inl e ↦ subst (λ (o : Node A). HasFew o.seen) (same_Some new n (sym (put_same m k x (Some new) e) ∙ found)) few
      | inr ne ↦ sound.few x n (sym (put_other m k x (Some new) ne) ∙ found)
    ];
    root_lives = (sound.root_lives.0, kept root sound.root_lives.0 sound.root_lives.1, sound.root_lives.2);
    held = λ x n found other. elim (cases_eq x k) [
      | inl e ↦
          let same = same_Some new n (sym (put_same m k x (Some new) e) ∙ found) in
          subst (HangsOnParent (with_node m k (Some new)) (changes ++ c ∷ []) x) same (record {
            parent = parent;
            is = kept new.parent parent is;
            depth = depth;
            linked = inr (Named_last changes c x (subst (λ y. In y (looked c)) (sym e) named));
          })
      | inr ne ↦
          let h = sound.held x n (sym (put_other m k x (Some new) ne) ∙ found) other in
          record {
            parent = h.parent;
            is = kept n.parent h.parent h.is;
            depth = h.depth;
            linked = linked_after changes c h.parent h.parent x (itself c h.parent) h.linked;
          }
    ];
    own = λ p n found. elim (cases_eq p k) [
      | inl e ↦ subst (AreKids (with_node m k (Some new)) root p) (sym (ap (λ (o : Node A). o.kids) (sym (same_Some new n (sym (put_same m k p (Some new) e) ∙ found))) ∙ none)) (record { under = λ x h. absurd h; apart = tt })
      | inr ne ↦
          let are = sound.own p n (sym (put_other m k p (Some new) ne) ∙ found) in
          record {
            under = λ x h. let u = are.under x h in record { node = u.node; is = kept x u.node u.is; parent_is = u.parent_is; other = u.other };
            apart = are.apart;
          }
    ];
  }
    where
      differ : (x : ℕ) (n : Node A) → m x ≡ Some n → x ≢ k
      differ x n lives e = none-some n (sym (ap m e ∙ vacant) ∙ lives)

      kept : (x : ℕ) (n : Node A) → m x ≡ Some n → with_node m k (Some new) x ≡ Some n
      kept x n found = put_other m k x (Some new) (differ x n found) ∙ found

  -- 3. the calls

  -- the change says what the node was
  unfoldable pub IsSet : (root : ℕ) (changes : List (Change A)) (c : Change A) (m : Nodes A) (k : ℕ) (old new : Node A) → Type 0
  IsSet root changes c m k old new = (m k ≡ Some old) × Replaces c old new × AreKids m root k new.kids × (undo c (with_node m k (Some new)) ≡ m) × HasFew new.seen

  pub set_seen : (root : ℕ) (changes : List (Change A)) (m : Nodes A) (k : ℕ) (old : Node A) (x : Seen) → HasFew x → IsRooted root changes m → m k ≡ Some old → IsSet root changes (record { node = k; before = OldSeen old.seen }) m k old (with_seen x old)
  unfolding IsSet
  set_seen root changes m k old x few sound is = (is, record { parent = refl; depth = refl; kids = λ y h. inl h }, sound.own k old is, change_back (with_seen old.seen) m k old (with_seen x old) is refl, few)

  pub set_key : (root : ℕ) (changes : List (Change A)) (m : Nodes A) (k : ℕ) (old : Node A) (x : ℕ) → IsRooted root changes m → m k ≡ Some old → IsSet root changes (record { node = k; before = OldKey old.key }) m k old (with_key x old)
  unfolding IsSet
  set_key root changes m k old x sound is = (is, record { parent = refl; depth = refl; kids = λ y h. inl h }, sound.own k old is, change_back (with_key old.key) m k old (with_key x old) is refl, sound.few k old is)

  pub set_answer : (root : ℕ) (changes : List (Change A)) (m : Nodes A) (k : ℕ) (old : Node A) (x : Option A) → IsRooted root changes m → m k ≡ Some old → IsSet root changes (record { node = k; before = OldAnswer old.answer }) m k old (with_answer x old)
  unfolding IsSet
  set_answer root changes m k old x sound is = (is, record { parent = refl; depth = refl; kids = λ y h. inl h }, sound.own k old is, change_back (with_answer old.answer) m k old (with_answer x old) is refl, sound.few k old is)

  pub set_kids : (root : ℕ) (changes : List (Change A)) (m : Nodes A) (k : ℕ) (old : Node A) (x : List ℕ) → AreKids m root k x → IsRooted root changes m → m k ≡ Some old → IsSet root changes (record { node = k; before = OldKids old.kids }) m k old (with_kids x old)
  unfolding IsSet
  set_kids root changes m k old x kids sound is = (is, record { parent = refl; depth = refl; kids = λ y h. inr h }, kids, change_back (with_kids old.kids) m k old (with_kids x old) is refl, sound.few k old is)

  pub set_sound : (root : ℕ) (changes : List (Change A)) (c : Change A) (m : Nodes A) (k : ℕ) (old new : Node A) → IsSet root changes c m k old new → IsRooted root changes m → IsRooted root (changes ++ c ∷ []) (with_node m k (Some new))
  unfolding IsSet
  set_sound root changes c m k old new set sound = IsSound-put root changes c m k old new set.0 set.1 set.2 set.4 sound

  pub set_rest : (root : ℕ) (changes later : List (Change A)) (c : Change A) (m : Nodes A) (k : ℕ) (old new : Node A) → IsSet root changes c m k old new → later ≡ changes ++ c ∷ [] → undone later (with_node m k (Some new)) ≡ undone changes m
  unfolding IsSet
  set_rest root changes later c m k old new set pushed = rest_kept changes later c m (with_node m k (Some new)) pushed set.3

  pub set_back : (root : ℕ) (changes : List (Change A)) (c : Change A) (m : Nodes A) (k : ℕ) (old new : Node A) → IsSet root changes c m k old new → undo c (with_node m k (Some new)) ≡ m
  unfolding IsSet
  set_back root changes c m k old new set = set.3

  -- 4. before each of the changes

  pub AreSound-push : (root : ℕ) (changes later : List (Change A)) (c : Change A) (old new : Nodes A) → later ≡ changes ++ c ∷ [] → undo c new ≡ old → IsRooted root later new → AreSound root changes old → AreSound root later new
  AreSound-push root changes later c old new pushed back sound were = λ earlier rest whole. elim (split_push earlier rest changes c (sym pushed ∙ whole)) [
    | inl r ↦ subst (λ cs. IsRooted root earlier (undone cs new)) (sym r.0) (subst (λ cs. IsRooted root cs new) (pushed ∙ sym r.1) sound)
    | inr r ↦ subst (IsRooted root earlier) (sym (ap (λ cs. undone cs new) r.1 ∙ undone_last r.0 c new ∙ ap (undone r.0) back)) (were earlier r.0 r.2)
  ]

  pub AreSound-pop : (root : ℕ) (earlier : List (Change A)) (c : Change A) (m : Nodes A) → AreSound root (earlier ++ c ∷ []) m → AreSound root earlier (undo c m)
  AreSound-pop root earlier c m sound = λ first rest whole.
      subst (IsRooted root first) (undone_last rest c m) (sound first (rest ++ c ∷ []) (ap (λ cs. cs ++ c ∷ []) whole ∙ append_assoc first rest (c ∷ [])))

  pub AreSound-rest : (root : ℕ) (m : Nodes A) → IsRooted root [] m → AreSound root [] m
  AreSound-rest root m sound = λ earlier later whole.
      let none = both_empty earlier later whole in
      subst (λ cs. IsRooted root cs (undone later m)) (sym none.0) (subst (λ cs. IsRooted root [] (undone cs m)) (sym none.1) sound)

  pub AreSound-now : (root : ℕ) (changes : List (Change A)) (m : Nodes A) → AreSound root changes m → IsRooted root changes m
  AreSound-now root changes m sound = sound changes [] (sym (append-nil changes))

  pub AreSound-then : (root : ℕ) (changes : List (Change A)) (m : Nodes A) → AreSound root changes m → IsRooted root [] (undone changes m)
  AreSound-then root changes m sound = sound [] changes refl

-- The calls keep the ranks.
use Rattle.std.specs.Prelude.{IsSome, option_map}
use Rattle.std.proofs.Common.{◌≡◌, ◌≢◌, ℕ, zero, suc, List, [], ◌∷◌, slice_get, Option, Some, None, refl, sym, ap, ◌∙◌, inl, inr, subst}
use Rattle.std.proofs.lemmas.Bool.{cases_eq}
use Rattle.std.proofs.lemmas.Option.{none-some, same_Some}
use Rattle.lsys_spec.specs.Rows.{In, AreApart}
use Rattle.lsys_forest.specs.Slots.{footing_at, rank_at}
use Rattle.lsys_forest.specs.declared.node.Footing.{Footing}
use Rattle.lsys_forest.specs.Nodes.{Node, Nodes, with_node, root_node, with_seen, with_key, with_kids, with_answer}
use Rattle.lsys_forest.specs.Changes.{KeepsKids, Missing, OldSeen, OldKey, OldKids, OldAnswer, Change, Previous, undo, undo_before}
use Rattle.lsys_forest.specs.Stocks.{Stock, nodes_of, changes_of, Undoes, KeepsFootings, Journals}
use Rattle.lsys_forest.specs.Groves.{IsRooted, AreSound}
use Rattle.lsys_forest.specs.Rows.{kids_in}
use Rattle.lsys_forest.specs.Ranks.{AreRanked}
use Rattle.lsys_forest.proofs.StockLemmas.{put_same, put_other}
use Rattle.lsys_forest.proofs.SoundLemmas.{AreSound-pop, AreSound-now}
use Rattle.lsys_forest.proofs.RowLemmas.{child}
use Rattle.lsys_forest.proofs.WalkLemmas.{get_In}

-- 1. lists

-- no number stands at two places
pub one_place : (xs : List ℕ) (i j k : ℕ) → AreApart xs → slice_get xs i ≡ Some k → slice_get xs j ≡ Some k → i ≡ j
one_place [] i j k apart a b = absurd (none-some k a)
one_place (x ∷ xs) zero zero k apart a b = refl
one_place (x ∷ xs) zero (suc j) k apart a b = absurd (apart.0 (subst (λ y. In y xs) (sym (same_Some x k a)) (get_In xs j k b)))
one_place (x ∷ xs) (suc i) zero k apart a b = absurd (apart.0 (subst (λ y. In y xs) (sym (same_Some x k b)) (get_In xs i k a)))
one_place (x ∷ xs) (suc i) (suc j) k apart a b = ap suc (one_place xs i j k apart.1 a b)

module _ {A : Type 0} where
  -- 2. the children of one node have got their ranks

  -- where the nodes hang together, only the ranks of those that live count
  pub agree_ranked : (root : ℕ) (changes : List (Change A)) (m : Nodes A) (footings footings' : List Footing) → IsRooted root changes m → ((j : ℕ) → IsSome (m j) → footing_at footings' j ≡ footing_at footings j) → AreRanked m footings → AreRanked m footings'
  agree_ranked root changes m footings footings' sound same ranked = λ p n i k is here.
      let u = (sound.own p n is).under k (get_In n.kids i k here) in
      ap (λ (f : Footing). f.rank) (same k (subst IsSome (sym u.is) refl)) ∙ ranked p n i k is here

  pub reranked : (root : ℕ) (changes : List (Change A)) (before m : Nodes A) (node : ℕ) (at at' : List Footing) → IsRooted root changes m → ((j : ℕ) → j ≢ node → m j ≡ before j) → ((i k : ℕ) → slice_get (kids_in (m node)) i ≡ Some k → rank_at at' k ≡ i) → ((k : ℕ) → (In k (kids_in (m node)) → ⊥) → rank_at at' k ≡ rank_at at k) → AreRanked before at → AreRanked m at'
  reranked root changes before m node at at' sound other stands others ranked = λ p n i k is here. elim (cases_eq p node) [
    | inl e ↦ stands i k (ap (λ (o : Option (Node A)). slice_get (kids_in o) i) (sym (ap m e) ∙ is) ∙ here)
    | inr ne ↦
        others k (λ among. (
        let u = (sound.own p n is).under k (get_In n.kids i k here) in
        let c = child root changes m sound node k among in
        let same = same_Some u.node c.node (sym u.is ∙ c.is) in
        ne (sym u.parent_is ∙ ap (λ (o : Node A). o.parent) same ∙ c.parent_is)
        ))
        ∙ ranked p n i k (sym (other p ne) ∙ is) here
  ]

  -- 3. the last change was undone, if there was one

  pub undo_other : (c : Change A) (m : Nodes A) (j : ℕ) → j ≢ c.node → undo c m j ≡ m j
  undo_other c m j ne = go c.before
    where
      go : (b : Previous A) → undo_before b c.node m j ≡ m j
      go Missing = put_other m c.node j None ne
      go (OldSeen x) = put_other m c.node j (option_map (with_seen x) (m c.node)) ne
      go (OldKey x) = put_other m c.node j (option_map (with_key x) (m c.node)) ne
      go (OldKids x) = put_other m c.node j (option_map (with_kids x) (m c.node)) ne
      go (OldAnswer x) = put_other m c.node j (option_map (with_answer x) (m c.node)) ne

  -- a change that was not one of children leaves each node that lives then with its own
  pub undone_kids : (c : Change A) (m : Nodes A) → KeepsKids c.before → (p : ℕ) (n : Node A) → undo c m p ≡ Some n → (o : Node A) × (m p ≡ Some o) × (n.kids ≡ o.kids)
  undone_kids c m keeps p n found = elim (cases_eq p c.node) [
    | inl e ↦ was c.before keeps e found
    | inr ne ↦ (n, sym (undo_other c m p ne) ∙ found, refl)
  ]
    where
      mapped : (f : Node A → Node A) → ((o : Node A) → (f o).kids ≡ o.kids) → p ≡ c.node → option_map f (m c.node) ≡ Some n → (o : Node A) × (m p ≡ Some o) × (n.kids ≡ o.kids)
      mapped f same e is = go (m c.node) refl is
        where
          go : (o : Option (Node A)) → m c.node ≡ o → option_map f o ≡ Some n → (o : Node A) × (m p ≡ Some o) × (n.kids ≡ o.kids)
          go None here is = absurd (none-some n is)
          go (Some o) here is = (o, ap m e ∙ here, ap (λ (x : Node A). x.kids) (sym (same_Some (f o) n is)) ∙ same o)

      was : (b : Previous A) → KeepsKids b → p ≡ c.node → undo_before b c.node m p ≡ Some n → (o : Node A) × (m p ≡ Some o) × (n.kids ≡ o.kids)
      was Missing keeps e found = absurd (none-some n (sym (put_same m c.node p None e) ∙ found))
      was (OldSeen x) keeps e found = mapped (with_seen x) (λ o. refl) e (sym (put_same m c.node p (option_map (with_seen x) (m c.node)) e) ∙ found)
      was (OldKey x) keeps e found = mapped (with_key x) (λ o. refl) e (sym (put_same m c.node p (option_map (with_key x) (m c.node)) e) ∙ found)
      was (OldKids x) keeps e found = absurd keeps
      was (OldAnswer x) keeps e found = mapped (with_answer x) (λ o. refl) e (sym (put_same m c.node p (option_map (with_answer x) (m c.node)) e) ∙ found)

  pub undone_ranked : (c : Change A) (m : Nodes A) (footings : List Footing) → KeepsKids c.before → AreRanked m footings → AreRanked (undo c m) footings
  undone_ranked c m footings keeps ranked = λ p n i k found here.
      let o = undone_kids c m keeps p n found in
      ranked p o.0 i k o.1 (ap (λ (l : List ℕ). slice_get l i) (sym o.2) ∙ here)

  pub undone_sound : (root : ℕ) (old new : Stock A) (c : Change A) → Undoes old new c → AreSound root (changes_of old) (nodes_of old) → AreSound root (changes_of new) (nodes_of new)
  undone_sound root old new c undoes sound =
      let t = undoes.takes in
      subst (λ (f : Nodes A). AreSound root (changes_of new) f) (sym undoes.nodes) (subst (λ (cs : List (Change A)). AreSound root cs (undo c (nodes_of old))) (sym t.are)
      (AreSound-pop root t.earlier c (nodes_of old) (subst (λ (cs : List (Change A)). AreSound root cs (nodes_of old)) t.were sound)))

  -- a change that was not one of children
  pub still_ranked : (root : ℕ) (old new : Stock A) (c : Change A) → Undoes old new c → KeepsKids c.before → KeepsFootings (nodes_of new) old new → AreSound root (changes_of old) (nodes_of old) → AreRanked (nodes_of old) old.footings → AreRanked (nodes_of new) new.footings
  still_ranked root old new c undoes keeps kept sound ranked =
      agree_ranked root (changes_of new) (nodes_of new) old.footings new.footings (AreSound-now root (changes_of new) (nodes_of new) (undone_sound root old new c undoes sound)) kept
      (subst (λ (f : Nodes A). AreRanked f old.footings) (sym undoes.nodes) (undone_ranked c (nodes_of old) old.footings keeps ranked))

  -- a change of children, whose ranks are set then
  pub reset_ranked : (root : ℕ) (old new : Stock A) (footings : List Footing) (node : ℕ) (c : Change A) → Undoes old new c → c.node ≡ node → KeepsFootings (nodes_of new) old new → AreSound root (changes_of old) (nodes_of old) → AreRanked (nodes_of old) old.footings → ((before : Nodes A) → ((j : ℕ) → j ≢ node → nodes_of new j ≡ before j) → AreRanked before new.footings → AreRanked (nodes_of new) footings) → AreRanked (nodes_of new) footings
  reset_ranked root old new footings node c undoes here kept sound ranked sets =
      let now = AreSound-now root (changes_of new) (nodes_of new) (undone_sound root old new c undoes sound) in
      sets (with_node (nodes_of new) node None) (λ j ne. sym (put_other (nodes_of new) node j None ne)) (λ p n i k found there. elim (cases_eq p node) [
        | inl e ↦ absurd (none-some n (sym (put_same (nodes_of new) node p None e) ∙ found))
        | inr ne ↦
            let is = sym (put_other (nodes_of new) node p None ne) ∙ found in
            let u = (now.own p n is).under k (get_In n.kids i k there) in
            let was = sym (ap (λ (f : Nodes A). f p) undoes.nodes ∙ undo_other c (nodes_of old) p (λ e. ne (e ∙ here))) ∙ is in
            ap (λ (f : Footing). f.rank) (kept k (subst IsSome (sym u.is) refl)) ∙ ranked p n i k was there
      ])

  -- 4. the ranks of a forest

  pub ranked_root : (m : Nodes A) (footings : List Footing) → m ≡ with_node (λ k. None) 0 (Some (root_node 0)) → AreRanked m footings
  ranked_root m footings is = λ p n i k found here. elim (cases_eq p 0) [
    | inl e ↦
        let same = same_Some (root_node 0) n (sym (ap (λ (f : Nodes A). f p) is ∙ put_same (λ j. None) 0 p (Some (root_node 0)) e) ∙ found) in
        absurd (none-some k (ap (λ (o : Node A). slice_get o.kids i) same ∙ here))
    | inr ne ↦ absurd (none-some n (sym (ap (λ (f : Nodes A). f p) is ∙ put_other (λ j. None) 0 p (Some (root_node 0)) ne) ∙ found))
  ]

  -- one node became this one, with the children that it had
  pub set_ranked : (root : ℕ) (old new : Stock A) (node : ℕ) (was now : Node A) (before : Previous A) (params kids : ℕ) → IsRooted root (changes_of old) (nodes_of old) → nodes_of old node ≡ Some was → now.kids ≡ was.kids → Journals old new node (Some now) before 0 params kids → AreRanked (nodes_of old) old.footings → AreRanked (nodes_of new) new.footings
  set_ranked root old new node was now before params kids sound is same j ranked = λ p n i k found here.
      let there = sym (ap (λ (f : Nodes A). f p) j.nodes) ∙ found in
      elim (cases_eq p node) [
        | inl e ↦
            let f = same_Some now n (sym (put_same (nodes_of old) node p (Some now) e) ∙ there) in
            kept p was i k (ap (nodes_of old) e ∙ is) (ap (λ (l : List ℕ). slice_get l i) (sym same ∙ ap (λ (o : Node A). o.kids) f) ∙ here)
        | inr ne ↦ kept p n i k (sym (put_other (nodes_of old) node p (Some now) ne) ∙ there) here
      ]
    where
      kept : AreRanked (nodes_of old) new.footings
      kept = agree_ranked root (changes_of old) (nodes_of old) old.footings new.footings sound j.footings ranked

  -- a node was added
  pub add_ranked : (root : ℕ) (old new : Stock A) (node : ℕ) (now : Node A) (params kids : ℕ) → IsRooted root (changes_of old) (nodes_of old) → now.kids ≡ [] → Journals old new node (Some now) Missing 1 params kids → AreRanked (nodes_of old) old.footings → AreRanked (nodes_of new) new.footings
  add_ranked root old new node now params kids sound none j ranked = λ p n i k found here.
      let there = sym (ap (λ (f : Nodes A). f p) j.nodes) ∙ found in
      elim (cases_eq p node) [
        | inl e ↦
            let f = same_Some now n (sym (put_same (nodes_of old) node p (Some now) e) ∙ there) in
            absurd (none-some k (ap (λ (x : List ℕ). slice_get x i) (sym none ∙ ap (λ (o : Node A). o.kids) f) ∙ here))
        | inr ne ↦ agree_ranked root (changes_of old) (nodes_of old) old.footings new.footings sound j.footings ranked p n i k (sym (put_other (nodes_of old) node p (Some now) ne) ∙ there) here
      ]

  -- the children of a node were set, and their ranks then
  pub kids_ranked : (root : ℕ) (old new : Stock A) (footings : List Footing) (node : ℕ) (now : Node A) (before : Previous A) (params kids : ℕ) → IsRooted root (changes_of old) (nodes_of old) → Journals old new node (Some now) before 0 params kids → AreRanked (nodes_of old) old.footings → ((before : Nodes A) → ((j : ℕ) → j ≢ node → nodes_of new j ≡ before j) → AreRanked before new.footings → AreRanked (nodes_of new) footings) → AreRanked (nodes_of new) footings
  kids_ranked root old new footings node now before params kids sound j ranked sets =
      sets (nodes_of old) (λ k ne. ap (λ (f : Nodes A). f k) j.nodes ∙ put_other (nodes_of old) node k (Some now) ne) (agree_ranked root (changes_of old) (nodes_of old) old.footings new.footings sound j.footings ranked)

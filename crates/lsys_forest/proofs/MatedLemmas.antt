-- The mates of levels are found, and stay where the levels do.
use Rattle.std.proofs.Common.{◌≡◌, ◌≢◌, ◌⊎◌, ◌+◌, ◌-◌, ◌<◌, ◌≤◌, ℕ, List, [], ◌∷◌, ◌++◌, Option, Some, None, refl, sym, ap, ◌∙◌, arith, inl, inr, subst, append_assoc}
use Rattle.std.specs.Prelude.{IsSome}
use Rattle.std.proofs.lemmas.Bool.{cases_eq}
use Rattle.std.proofs.lemmas.List.{append-nil}
use Rattle.std.proofs.lemmas.Option.{same_Some}
use Rattle.lsys_spec.specs.Rows.{In, AreApart, first_in}
use Rattle.lsys_forest.specs.declared.node.Footing.{Footing}
use Rattle.lsys_forest.specs.declared.walk.Way.{Way}
use Rattle.lsys_forest.specs.Slots.{footing_at, link_at, footing_mate}
use Rattle.lsys_forest.specs.Nodes.{Node, Nodes}
use Rattle.lsys_forest.specs.Changes.{Missing, Change, Previous}
use Rattle.lsys_forest.specs.Stocks.{Stock, nodes_of, changes_of, Journals}
use Rattle.lsys_forest.specs.Groves.{IsRooted}
use Rattle.lsys_forest.specs.Ranks.{AreLinked}
use Rattle.lsys_forest.specs.Rows.{oriented, kids_in, depth_in, level_nodes, spot_in}
use Rattle.lsys_forest.specs.Pairs.{AreSameSort, AreMatedIn, IsPairing, Pairs, seen_at, AreMated}
use Rattle.lsys_forest.proofs.StockLemmas.{put_same, put_other}
use Rattle.lsys_forest.proofs.SoundLemmas.{some_of}
use Rattle.lsys_forest.proofs.RowLemmas.{In_left, In_right, apart_parts, oriented_In_back, level_apart, level_depth}
use Rattle.lsys_forest.proofs.WalkLemmas.{no_first, first_split, level_live}
use Rattle.lsys_forest.proofs.LinkLemmas.{levels_live, levels_above}
use Rattle.lsys_forest.proofs.BranchLemmas.{opens_same, end_same, same_sort}
use Rattle.lsys_forest.proofs.PairLemmas.{pairing_start, pairing_on, pairing_done, open_in}

module _ {A : Type 0} where
  -- 1. a level is walked along

  -- What is kept true while the nodes of level t are passed from the left to the right.
  pub record IsMating (m : Nodes A) (root t : ℕ) (footings : List Footing) (opener at : Option ℕ) : Type 0 where
    pub passed : List ℕ
    pub ahead : List ℕ
    pub whole : level_nodes m root t ≡ passed ++ ahead
    pub at_is : at ≡ first_in ahead
    pub pairing : IsPairing (seen_at m) passed footings opener

  pub mating_start : (m : Nodes A) (root t : ℕ) (footings : List Footing) (first : ℕ) → first_in (level_nodes m root t) ≡ Some first → IsMating m root t footings None (Some first)
  mating_start m root t footings first is = record {
    passed = [];
    ahead = level_nodes m root t;
    whole = refl;
    at_is = sym is;
    pairing = pairing_start (seen_at m) footings;
  }

  -- the node that is passed next
  pub record IsPassing (m : Nodes A) (root t : ℕ) (footings : List Footing) (opener : Option ℕ) (node : ℕ) : Type 0 where
    pub passed : List ℕ
    pub rest : List ℕ
    pub whole : level_nodes m root t ≡ passed ++ node ∷ rest
    pub among : In node (level_nodes m root t)
    pub apart : AreApart (passed ++ node ∷ [])
    pub inside : (k : ℕ) → In k passed → In k (level_nodes m root t)
    pub pairing : IsPairing (seen_at m) passed footings opener

  pub mating_next : (root : ℕ) (changes : List (Change A)) (m : Nodes A) (t : ℕ) (footings : List Footing) (opener at : Option ℕ) (node : ℕ) → IsRooted root changes m → IsMating m root t footings opener at → at ≡ Some node → IsPassing m root t footings opener node
  mating_next root changes m t footings opener at node sound is e =
      let s = first_split is.ahead node (sym is.at_is ∙ e) in
      let whole = is.whole ∙ ap (λ (l : List ℕ). is.passed ++ l) s.1 in
      record {
        passed = is.passed;
        rest = s.0;
        whole = whole;
        among = subst (In node) (sym whole) (In_right node is.passed (node ∷ s.0) (inl refl));
        apart = (apart_parts (is.passed ++ node ∷ []) s.0 (subst AreApart (whole ∙ sym (append_assoc is.passed (node ∷ []) s.0)) (level_apart root changes m sound t))).0;
        inside = λ k h. subst (In k) (sym whole) (In_left k is.passed (node ∷ s.0) h);
        pairing = is.pairing;
      }

  -- the open bracket lives, and is not this node
  pub mating_open : (root : ℕ) (changes : List (Change A)) (m : Nodes A) (t : ℕ) (footings : List Footing) (opener : Option ℕ) (node : ℕ) → IsRooted root changes m → IsPassing m root t footings opener node → (k : ℕ) → opener ≡ Some k → IsSome (m k) × (In k (node ∷ []) → ⊥)
  mating_open root changes m t footings opener node sound is k e =
      let among = open_in (seen_at m) is.passed footings opener k is.pairing e in
      (level_live root changes m sound t k (is.inside k among), (apart_parts is.passed (node ∷ []) is.apart).2 k among)

  pub mating_on : (m : Nodes A) (root t : ℕ) (footings footings' : List Footing) (opener opener' next : Option ℕ) (node : ℕ) → (is : IsPassing m root t footings opener node) → Pairs (seen_at m node) footings footings' opener node opener' → next ≡ first_in is.rest → IsMating m root t footings' opener' next
  mating_on m root t footings footings' opener opener' next node is e then = record {
    passed = is.passed ++ node ∷ [];
    ahead = is.rest;
    whole = is.whole ∙ sym (append_assoc is.passed (node ∷ []) is.rest);
    at_is = then;
    pairing = pairing_on (seen_at m) is.passed node footings footings' opener opener' is.apart e is.pairing;
  }

  -- the levels before it keep their mates
  pub mating_above : (root : ℕ) (changes : List (Change A)) (m : Nodes A) (t : ℕ) (footings footings' : List Footing) (opener opener' : Option ℕ) (node : ℕ) → IsRooted root changes m → (is : IsPassing m root t footings opener node) → Pairs (seen_at m node) footings footings' opener node opener' → AreMated m root footings t → AreMated m root footings' t
  mating_above root changes m t footings footings' opener opener' node sound is e are = λ u less k mate way b a whole opens end.
      let there : In k (level_nodes m root u) = oriented_In_back way k (level_nodes m root u) (subst (In k) (sym whole) (In_right k b (k ∷ a) (inl refl))) in
      let d = level_depth root changes m sound u k there in
      let lower : In k (level_nodes m root t) → ⊥ = λ h. (let f = level_depth root changes m sound t k h in deeper (same_Some d.0 f.0 (sym d.1 ∙ f.1)) less d.2 f.2) in
      ap (λ (f : Footing). f.mate) (e.others k (λ bracket same. lower (subst (λ i. In i (level_nodes m root t)) (sym same) is.among)) (λ ends f. lower (is.inside k (open_in (seen_at m) is.passed footings opener k is.pairing f))))
      ∙ are u less k mate way b a whole opens end
    where
      deeper : {x y : Node A} {u : ℕ} → x ≡ y → u < t → x.depth ≡ u + 1 → y.depth ≡ t + 1 → ⊥
      deeper {x = x} {y = y} {u = u} same less one two = let depth : x.depth ≡ y.depth = ap (λ (o : Node A). o.depth) same in omega (arith, less, depth, one, two)

  pub mating_end : (m : Nodes A) (root t : ℕ) (footings : List Footing) (opener : Option ℕ) → IsMating m root t footings opener None → AreMatedIn (seen_at m) (level_nodes m root t) footings
  mating_end m root t footings opener is =
      let all : level_nodes m root t ≡ is.passed = is.whole ∙ ap (λ (l : List ℕ). is.passed ++ l) (no_first is.ahead (sym is.at_is)) ∙ append-nil is.passed in
      subst (λ (l : List ℕ). AreMatedIn (seen_at m) l footings) (sym all) (pairing_done (seen_at m) is.passed footings opener is.pairing)

  -- one level more has its mates
  pub mating_more : (m : Nodes A) (root mated mated' : ℕ) (footings : List Footing) → mated' ≡ mated + 1 → AreMatedIn (seen_at m) (level_nodes m root mated) footings → AreMated m root footings mated → AreMated m root footings mated'
  mating_more m root mated mated' footings more last are = λ u less. elim (cases_eq u mated) [
    | inl e ↦ subst (λ i. AreMatedIn (seen_at m) (level_nodes m root i) footings) (sym e) last
    | inr ne ↦ are u (omega (arith, less, more, ne))
  ]

  -- where all links stay
  pub same_linked : (m : Nodes A) (root : ℕ) (footings footings' : List Footing) (linked : ℕ) → ((way : Way) (k : ℕ) → link_at way footings' k ≡ link_at way footings k) → AreLinked m root footings linked → AreLinked m root footings' linked
  same_linked m root footings footings' linked same are = λ t k way before after less whole. same way k ∙ are t k way before after less whole

  -- where all mates stay
  pub same_mated : (m : Nodes A) (root : ℕ) (footings footings' : List Footing) (mated : ℕ) → ((k : ℕ) → footing_mate footings' k ≡ footing_mate footings k) → AreMated m root footings mated → AreMated m root footings' mated
  same_mated m root footings footings' mated same are = λ t less k mate way before after whole opens end. same k ∙ are t less k mate way before after whole opens end

  -- 2. mates that stay

  mated_on : (root : ℕ) (changes : List (Change A)) (m m' : Nodes A) (footings footings' : List Footing) (mated mated' : ℕ) → IsRooted root changes m' → mated' ≤ mated → ((t : ℕ) → t < mated' → level_nodes m' root t ≡ level_nodes m root t) → ((t k : ℕ) → t < mated' → In k (level_nodes m' root t) → AreSameSort (seen_at m k) (seen_at m' k)) → ((k : ℕ) → IsSome (m' k) → footing_mate footings' k ≡ footing_mate footings k) → AreMated m root footings mated → AreMated m' root footings' mated'
  mated_on root changes m m' footings footings' mated mated' sound fewer same sorts stay are = λ t less k mate way before after whole opens end.
      let among : (j : ℕ) → In j (k ∷ after) → In j (level_nodes m' root t) = λ j h. oriented_In_back way j (level_nodes m' root t) (subst (In j) (sym whole) (In_right j before (k ∷ after) h)) in
      stay k (level_live root changes m' sound t k (among k (inl refl)))
      ∙ are t (omega (arith, less, fewer)) k mate way before after (ap (oriented way) (sym (same t less)) ∙ whole)
      (opens_same way (seen_at m k) (seen_at m' k) (sorts t k less (among k (inl refl))) opens)
      (end_same way (seen_at m) (seen_at m') 0 after (λ j h. sorts t j less (among j (inr h))) ∙ end)

  seen_is : (m : Nodes A) (k : ℕ) (n : Node A) → m k ≡ Some n → seen_at m k ≡ n.seen
  seen_is m k n is = ap (λ (o : Option (Node A)). (spot_in k o).seen) is

  -- one node became this one, with the children that it had, and with a symbol of the same sort if it is on one of these levels
  pub set_mated : (root : ℕ) (changes : List (Change A)) (old new : Stock A) (node mated mated' : ℕ) (was now : Node A) (before : Previous A) (params kids : ℕ) → IsRooted root changes (nodes_of new) → nodes_of old node ≡ Some was → now.kids ≡ was.kids → AreSameSort was.seen now.seen ⊎ (mated' ≤ now.depth - 1) → Journals old new node (Some now) before 0 params kids → mated' ≤ mated → AreMated (nodes_of old) root old.footings mated → AreMated (nodes_of new) root new.footings mated'
  set_mated root changes old new node mated mated' was now before params kids sound is same sort j fewer are =
      mated_on root changes (nodes_of old) (nodes_of new) old.footings new.footings mated mated' sound fewer (λ t less. levels_live root changes (nodes_of old) (nodes_of new) sound (λ k lives. kept k) t) sorts (λ k lives. ap (λ (f : Footing). f.mate) (j.footings k (lived k lives))) are
    where
      here : (k : ℕ) → k ≡ node → nodes_of new k ≡ Some now
      here k e = ap (λ (f : Nodes A). f k) j.nodes ∙ put_same (nodes_of old) node k (Some now) e

      other : (k : ℕ) → k ≢ node → nodes_of new k ≡ nodes_of old k
      other k ne = ap (λ (f : Nodes A). f k) j.nodes ∙ put_other (nodes_of old) node k (Some now) ne

      kept : (k : ℕ) → kids_in (nodes_of new k) ≡ kids_in (nodes_of old k)
      kept k = elim (cases_eq k node) [
        | inl e ↦ ap kids_in (here k e) ∙ same ∙ ap kids_in (sym is) ∙ ap (λ i. kids_in (nodes_of old i)) (sym e)
        | inr ne ↦ ap kids_in (other k ne)
      ]

      lived : (k : ℕ) → IsSome (nodes_of new k) → IsSome (nodes_of old k)
      lived k lives = elim (cases_eq k node) [
        | inl e ↦ subst IsSome (sym (ap (nodes_of old) e ∙ is)) refl
        | inr ne ↦ subst IsSome (other k ne) lives
      ]

      there : (t k : ℕ) → t < mated' → In k (level_nodes (nodes_of new) root t) → k ≡ node → AreSameSort was.seen now.seen
      there t k less h e = elim sort [
        | inl same ↦ same
        | inr high ↦
            let d = level_depth root changes (nodes_of new) sound t k h in
            let depth : d.0.depth ≡ now.depth = ap (λ (o : Node A). o.depth) (same_Some d.0 now (sym d.1 ∙ here k e)) in
            absurd (omega (arith, less, high, depth, d.2))
      ]

      sorts : (t k : ℕ) → t < mated' → In k (level_nodes (nodes_of new) root t) → AreSameSort (seen_at (nodes_of old) k) (seen_at (nodes_of new) k)
      sorts t k less h = elim (cases_eq k node) [
        | inl e ↦
            subst (λ s. AreSameSort s (seen_at (nodes_of new) k)) (sym (seen_is (nodes_of old) k was (ap (nodes_of old) e ∙ is)))
            (subst (AreSameSort was.seen) (sym (seen_is (nodes_of new) k now (here k e))) (there t k less h e))
        | inr ne ↦ same_sort (seen_at (nodes_of old) k) (seen_at (nodes_of new) k) (sym (ap (λ (o : Option (Node A)). (spot_in k o).seen) (other k ne)))
      ]

  -- a node was added: it has no children, and is no child yet
  pub add_mated : (root : ℕ) (old new : Stock A) (node mated : ℕ) (now : Node A) (params kids : ℕ) → IsRooted root (changes_of old) (nodes_of old) → nodes_of old node ≡ None → now.kids ≡ [] → Journals old new node (Some now) Missing 1 params kids → AreMated (nodes_of old) root old.footings mated → AreMated (nodes_of new) root new.footings mated
  add_mated root old new node mated now params kids sound vacant none j are = λ t less k mate way before after whole opens end.
      let same : level_nodes (nodes_of new) root t ≡ level_nodes (nodes_of old) root t = sym (levels_live root (changes_of old) (nodes_of new) (nodes_of old) sound (λ i lives. sym (kept i)) t) in
      let there : oriented way (level_nodes (nodes_of old) root t) ≡ before ++ k ∷ after = ap (oriented way) (sym same) ∙ whole in
      let among : (i : ℕ) → In i (k ∷ after) → In i (level_nodes (nodes_of old) root t) = λ i h. oriented_In_back way i (level_nodes (nodes_of old) root t) (subst (In i) (sym there) (In_right i before (k ∷ after) h)) in
      let sort : (i : ℕ) → In i (k ∷ after) → AreSameSort (seen_at (nodes_of old) i) (seen_at (nodes_of new) i) = λ i h. stays i (level_live root (changes_of old) (nodes_of old) sound t i (among i h)) in
      ap (λ (f : Footing). f.mate) (j.footings k (level_live root (changes_of old) (nodes_of old) sound t k (among k (inl refl))))
      ∙ are t less k mate way before after there (opens_same way (seen_at (nodes_of old) k) (seen_at (nodes_of new) k) (sort k (inl refl)) opens) (end_same way (seen_at (nodes_of old)) (seen_at (nodes_of new)) 0 after (λ i h. sort i (inr h)) ∙ end)
    where
      kept : (k : ℕ) → kids_in (nodes_of new k) ≡ kids_in (nodes_of old k)
      kept k = ap (λ (f : Nodes A). kids_in (f k)) j.nodes ∙ elim (cases_eq k node) [
        | inl e ↦ ap kids_in (put_same (nodes_of old) node k (Some now) e) ∙ none ∙ ap kids_in (sym vacant) ∙ ap (λ i. kids_in (nodes_of old i)) (sym e)
        | inr ne ↦ ap kids_in (put_other (nodes_of old) node k (Some now) ne)
      ]

      stays : (i : ℕ) → IsSome (nodes_of old i) → AreSameSort (seen_at (nodes_of old) i) (seen_at (nodes_of new) i)
      stays i lives = elim (cases_eq i node) [
        | inl e ↦ absurd (let gone : nodes_of old i ≡ None = ap (nodes_of old) e ∙ vacant in grind (arith, lives, gone))
        | inr ne ↦ same_sort (seen_at (nodes_of old) i) (seen_at (nodes_of new) i) (sym (ap (λ (o : Option (Node A)). (spot_in i o).seen) (ap (λ (f : Nodes A). f i) j.nodes ∙ put_other (nodes_of old) node i (Some now) ne)))
      ]

  -- the children of a node were set, and their ranks then
  pub kids_mated : (root : ℕ) (changes : List (Change A)) (old new : Stock A) (footings : List Footing) (node mated mated' : ℕ) (was now : Node A) (before : Previous A) (params kids : ℕ) → IsRooted root changes (nodes_of new) → nodes_of old node ≡ Some was → now.seen ≡ was.seen → Journals old new node (Some now) before 0 params kids → ((k : ℕ) → footing_mate footings k ≡ footing_mate new.footings k) → mated' ≤ mated → mated' ≤ depth_in (nodes_of new node) → AreMated (nodes_of old) root old.footings mated → AreMated (nodes_of new) root footings mated'
  kids_mated root changes old new footings node mated mated' was now before params kids sound is same j mates fewer high are =
      mated_on root changes (nodes_of old) (nodes_of new) old.footings footings mated mated' sound fewer (λ t less. levels_above root changes (nodes_of old) (nodes_of new) node sound kept t (omega (arith, less, high))) (λ t k less h. sorts k) (λ k lives. mates k ∙ ap (λ (f : Footing). f.mate) (j.footings k (lived k lives))) are
    where
      here : (k : ℕ) → k ≡ node → nodes_of new k ≡ Some now
      here k e = ap (λ (f : Nodes A). f k) j.nodes ∙ put_same (nodes_of old) node k (Some now) e

      other : (k : ℕ) → k ≢ node → nodes_of new k ≡ nodes_of old k
      other k ne = ap (λ (f : Nodes A). f k) j.nodes ∙ put_other (nodes_of old) node k (Some now) ne

      kept : (k : ℕ) → k ≢ node → kids_in (nodes_of new k) ≡ kids_in (nodes_of old k)
      kept k ne = ap kids_in (other k ne)

      lived : (k : ℕ) → IsSome (nodes_of new k) → IsSome (nodes_of old k)
      lived k lives = elim (cases_eq k node) [
        | inl e ↦ subst IsSome (sym (ap (nodes_of old) e ∙ is)) refl
        | inr ne ↦ subst IsSome (other k ne) lives
      ]

      sorts : (k : ℕ) → AreSameSort (seen_at (nodes_of old) k) (seen_at (nodes_of new) k)
      sorts k = same_sort (seen_at (nodes_of old) k) (seen_at (nodes_of new) k) (elim (cases_eq k node) [
        | inl e ↦ seen_is (nodes_of old) k was (ap (nodes_of old) e ∙ is) ∙ sym same ∙ sym (seen_is (nodes_of new) k now (here k e))
        | inr ne ↦ sym (ap (λ (o : Option (Node A)). (spot_in k o).seen) (other k ne))
      ])

  -- the nodes that are not reached were removed
  pub swept_mated : (root : ℕ) (m m' : Nodes A) (footings footings' : List Footing) (mated : ℕ) → IsRooted root [] m' → ((k : ℕ) (n : Node A) → m' k ≡ Some n → m k ≡ Some n) → ((k : ℕ) → IsSome (m' k) → footing_at footings' k ≡ footing_at footings k) → AreMated m root footings mated → AreMated m' root footings' mated
  swept_mated root m m' footings footings' mated sound stood kept are =
      mated_on root [] m m' footings footings' mated mated sound (omega arith) (λ t less. levels_live root [] m m' sound same t) (λ t k less h. sorts k (level_live root [] m' sound t k h)) (λ k lives. ap (λ (f : Footing). f.mate) (kept k lives)) are
    where
      same : (k : ℕ) → IsSome (m' k) → kids_in (m' k) ≡ kids_in (m k)
      same k lives = let s = some_of (m' k) lives in ap kids_in (s.1 ∙ sym (stood k s.0 s.1))

      sorts : (k : ℕ) → IsSome (m' k) → AreSameSort (seen_at m k) (seen_at m' k)
      sorts k lives = let s = some_of (m' k) lives in same_sort (seen_at m k) (seen_at m' k) (ap (λ (o : Option (Node A)). (spot_in k o).seen) (stood k s.0 s.1 ∙ sym s.1))

-- The links of levels stay where the levels do.
use Rattle.std.proofs.Common.{◌≡◌, ◌≢◌, ◌+◌, ◌<◌, ◌≤◌, ℕ, zero, suc, List, [], ◌∷◌, ◌++◌, length, Option, Some, None, refl, sym, ap, ◌∙◌, arith, inl, inr, subst, append_assoc}
use Rattle.std.specs.Prelude.{IsSome}
use Rattle.std.proofs.lemmas.Bool.{cases_eq}
use Rattle.std.proofs.lemmas.List.{append-nil}
use Rattle.std.proofs.lemmas.Option.{same_Some}
use Rattle.lsys_spec.specs.Rows.{In, AreApart, first_in, mirrored, flat}
use Rattle.lsys_forest.specs.declared.node.Footing.{Footing}
use Rattle.lsys_forest.specs.declared.walk.Way.{Way}
use Rattle.lsys_forest.specs.declared.walk.Way.TheVariants.{Left, Right}
use Rattle.lsys_forest.specs.Slots.{footing_at, link_in, link_at, rank_at}
use Rattle.lsys_forest.specs.Nodes.{Node, Nodes}
use Rattle.lsys_forest.specs.Changes.{KeepsKids, Missing, Change, Previous}
use Rattle.lsys_forest.specs.Stocks.{Stock, nodes_of, changes_of, Journals, Undoes, KeepsFootings}
use Rattle.lsys_forest.specs.Groves.{IsRooted, AreSound}
use Rattle.lsys_forest.specs.Ranks.{AreRanked, AreChained, LinksRow, AreLinked}
use Rattle.lsys_forest.specs.Rows.{oriented, kids_in, kids_below, depth_in, level_nodes}
use Rattle.lsys_forest.proofs.StockLemmas.{put_same, put_other}
use Rattle.lsys_forest.proofs.SoundLemmas.{some_of, AreSound-now}
use Rattle.lsys_forest.proofs.RowLemmas.{In_left, In_right, apart_parts, oriented_In_back, flat_append, level_apart, level_depth}
use Rattle.lsys_forest.proofs.WalkLemmas.{no_first, first_split, level_live, long_around}
use Rattle.lsys_forest.proofs.ChainLemmas.{last_among}
use Rattle.lsys_forest.proofs.RankLemmas.{undo_other, undone_kids, undone_sound}

pub flat_same : (f g : ℕ → List ℕ) (xs : List ℕ) → ((k : ℕ) → In k xs → f k ≡ g k) → flat f xs ≡ flat g xs
flat_same f g [] same = refl
flat_same f g (x ∷ xs) same = ap (λ (l : List ℕ). l ++ flat f xs) (same x (inl refl)) ∙ ap (λ (l : List ℕ). g x ++ l) (flat_same f g xs (λ k h. same k (inr h)))

none_chained : (footings : List Footing) → AreChained [] footings
none_chained footings = λ k way b a e. absurd (empty way k b a e)
  where
    empty : (way : Way) (k : ℕ) (b a : List ℕ) → oriented way [] ≡ b ++ k ∷ a → ⊥
    empty Left k b a e = let size = ap length e in omega (arith, size, long_around b k a)
    empty Right k b a e = let size = ap length e in omega (arith, size, long_around b k a)

module _ {A : Type 0} where
  -- 1. levels that stay

  -- where the nodes above them have the children that they had
  levels_same : (m m' : Nodes A) (root most : ℕ) → (0 < most → kids_in (m' root) ≡ kids_in (m root)) → ((t k : ℕ) → suc t < most → In k (level_nodes m' root t) → kids_in (m' k) ≡ kids_in (m k)) → (t : ℕ) → t < most → level_nodes m' root t ≡ level_nodes m root t
  levels_same m m' root most top same zero less = top less
  levels_same m m' root most top same (suc t) less =
      flat_same (λ k. kids_in (m' k)) (λ k. kids_in (m k)) (level_nodes m' root t) (λ k h. same t k less h)
      ∙ ap (kids_below m) (levels_same m m' root most top same t (omega (arith, less)))

  -- all, where each node that lives has the children that it had
  pub levels_live : (root : ℕ) (changes : List (Change A)) (m m' : Nodes A) → IsRooted root changes m' → ((k : ℕ) → IsSome (m' k) → kids_in (m' k) ≡ kids_in (m k)) → (t : ℕ) → level_nodes m' root t ≡ level_nodes m root t
  levels_live root changes m m' sound same t =
      levels_same m m' root (suc t) (λ some. same root (subst IsSome (sym sound.root_lives.1) refl)) (λ u k less h. same k (level_live root changes m' sound u k h)) t (omega arith)

  -- those above a node that got other children
  pub levels_above : (root : ℕ) (changes : List (Change A)) (m m' : Nodes A) (node : ℕ) → IsRooted root changes m' → ((k : ℕ) → k ≢ node → kids_in (m' k) ≡ kids_in (m k)) → (t : ℕ) → t < depth_in (m' node) → level_nodes m' root t ≡ level_nodes m root t
  levels_above root changes m m' node sound same = levels_same m m' root (depth_in (m' node)) top below
    where
      deep : (k d : ℕ) (n : Node A) → m' k ≡ Some n → n.depth ≡ d → d ≢ depth_in (m' node) → k ≢ node
      deep k d n is depth differs same = differs (sym depth ∙ ap depth_in (sym is) ∙ ap (λ j. depth_in (m' j)) same)

      top : 0 < depth_in (m' node) → kids_in (m' root) ≡ kids_in (m root)
      top some = same root (deep root 0 sound.root_lives.0 sound.root_lives.1 sound.root_lives.2 (λ e. omega (arith, some, e)))

      below : (t k : ℕ) → suc t < depth_in (m' node) → In k (level_nodes m' root t) → kids_in (m' k) ≡ kids_in (m k)
      below t k less h = let d = level_depth root changes m' sound t k h in same k (deep k (t + 1) d.0 d.1 d.2 (λ e. omega (arith, less, e)))

  -- 2. links that stay

  pub linked_on : (root : ℕ) (changes : List (Change A)) (m m' : Nodes A) (footings footings' : List Footing) (linked linked' : ℕ) → IsRooted root changes m' → linked' ≤ linked → ((t : ℕ) → t < linked' → level_nodes m' root t ≡ level_nodes m root t) → ((way : Way) (k : ℕ) → IsSome (m' k) → link_at way footings' k ≡ link_at way footings k) → AreLinked m root footings linked → AreLinked m' root footings' linked'
  linked_on root changes m m' footings footings' linked linked' sound fewer same stay are = λ t k way before after less whole.
      let among : In k (level_nodes m' root t) = oriented_In_back way k (level_nodes m' root t) (subst (In k) (sym whole) (In_right k before (k ∷ after) (inl refl))) in
      stay way k (level_live root changes m' sound t k among)
      ∙ are t k way before after (omega (arith, less, fewer)) (ap (oriented way) (sym (same t less)) ∙ whole)

  -- one node became this one, with the children that it had
  pub set_linked : (root : ℕ) (changes : List (Change A)) (old new : Stock A) (node linked : ℕ) (was now : Node A) (before : Previous A) (params kids : ℕ) → IsRooted root changes (nodes_of new) → nodes_of old node ≡ Some was → now.kids ≡ was.kids → Journals old new node (Some now) before 0 params kids → AreLinked (nodes_of old) root old.footings linked → AreLinked (nodes_of new) root new.footings linked
  set_linked root changes old new node linked was now before params kids sound is same j are =
      linked_on root changes (nodes_of old) (nodes_of new) old.footings new.footings linked linked sound (omega arith) (λ t less. levels_live root changes (nodes_of old) (nodes_of new) sound (λ k lives. kept k) t) (λ way k lives. ap (link_in way) (j.footings k (lived k lives))) are
    where
      kept : (k : ℕ) → kids_in (nodes_of new k) ≡ kids_in (nodes_of old k)
      kept k = ap (λ (f : Nodes A). kids_in (f k)) j.nodes ∙ elim (cases_eq k node) [
        | inl e ↦ ap kids_in (put_same (nodes_of old) node k (Some now) e) ∙ same ∙ ap kids_in (sym is) ∙ ap (λ i. kids_in (nodes_of old i)) (sym e)
        | inr ne ↦ ap kids_in (put_other (nodes_of old) node k (Some now) ne)
      ]

      lived : (k : ℕ) → IsSome (nodes_of new k) → IsSome (nodes_of old k)
      lived k lives = elim (cases_eq k node) [
        | inl e ↦ subst IsSome (sym (ap (nodes_of old) e ∙ is)) refl
        | inr ne ↦ subst IsSome (ap (λ (f : Nodes A). f k) j.nodes ∙ put_other (nodes_of old) node k (Some now) ne) lives
      ]

  -- a node was added: it has no children, and is no child yet
  pub add_linked : (root : ℕ) (old new : Stock A) (node linked : ℕ) (now : Node A) (params kids : ℕ) → IsRooted root (changes_of old) (nodes_of old) → nodes_of old node ≡ None → now.kids ≡ [] → Journals old new node (Some now) Missing 1 params kids → AreLinked (nodes_of old) root old.footings linked → AreLinked (nodes_of new) root new.footings linked
  add_linked root old new node linked now params kids sound vacant none j are = λ t k way before after less whole.
      let same : level_nodes (nodes_of new) root t ≡ level_nodes (nodes_of old) root t = sym (levels_live root (changes_of old) (nodes_of new) (nodes_of old) sound (λ i lives. sym (kept i)) t) in
      let there : oriented way (level_nodes (nodes_of old) root t) ≡ before ++ k ∷ after = ap (oriented way) (sym same) ∙ whole in
      let among : In k (level_nodes (nodes_of old) root t) = oriented_In_back way k (level_nodes (nodes_of old) root t) (subst (In k) (sym there) (In_right k before (k ∷ after) (inl refl))) in
      ap (link_in way) (j.footings k (level_live root (changes_of old) (nodes_of old) sound t k among)) ∙ are t k way before after less there
    where
      kept : (k : ℕ) → kids_in (nodes_of new k) ≡ kids_in (nodes_of old k)
      kept k = ap (λ (f : Nodes A). kids_in (f k)) j.nodes ∙ elim (cases_eq k node) [
        | inl e ↦ ap kids_in (put_same (nodes_of old) node k (Some now) e) ∙ none ∙ ap kids_in (sym vacant) ∙ ap (λ i. kids_in (nodes_of old i)) (sym e)
        | inr ne ↦ ap kids_in (put_other (nodes_of old) node k (Some now) ne)
      ]

  -- the children of a node were set, and their ranks then
  pub kids_linked : (root : ℕ) (changes : List (Change A)) (old new : Stock A) (footings : List Footing) (node linked linked' : ℕ) (was now : Node A) (before : Previous A) (params kids : ℕ) → IsRooted root changes (nodes_of new) → nodes_of old node ≡ Some was → Journals old new node (Some now) before 0 params kids → ((way : Way) (k : ℕ) → link_at way footings k ≡ link_at way new.footings k) → linked' ≤ linked → linked' ≤ depth_in (nodes_of new node) → AreLinked (nodes_of old) root old.footings linked → AreLinked (nodes_of new) root footings linked'
  kids_linked root changes old new footings node linked linked' was now before params kids sound is j links fewer high are =
      linked_on root changes (nodes_of old) (nodes_of new) old.footings footings linked linked' sound fewer (λ t less. levels_above root changes (nodes_of old) (nodes_of new) node sound kept t (omega (arith, less, high))) (λ way k lives. links way k ∙ ap (link_in way) (j.footings k (lived k lives))) are
    where
      kept : (k : ℕ) → k ≢ node → kids_in (nodes_of new k) ≡ kids_in (nodes_of old k)
      kept k ne = ap (λ (f : Nodes A). kids_in (f k)) j.nodes ∙ ap kids_in (put_other (nodes_of old) node k (Some now) ne)

      lived : (k : ℕ) → IsSome (nodes_of new k) → IsSome (nodes_of old k)
      lived k lives = elim (cases_eq k node) [
        | inl e ↦ subst IsSome (sym (ap (nodes_of old) e ∙ is)) refl
        | inr ne ↦ subst IsSome (ap (λ (f : Nodes A). f k) j.nodes ∙ put_other (nodes_of old) node k (Some now) ne) lives
      ]

  -- a change that was not one of children was undone
  pub still_linked : (root : ℕ) (old new : Stock A) (linked : ℕ) (c : Change A) → Undoes old new c → KeepsKids c.before → KeepsFootings (nodes_of new) old new → AreSound root (changes_of old) (nodes_of old) → AreLinked (nodes_of old) root old.footings linked → AreLinked (nodes_of new) root new.footings linked
  still_linked root old new linked c undoes keeps kept sound are =
      let now = AreSound-now root (changes_of new) (nodes_of new) (undone_sound root old new c undoes sound) in
      linked_on root (changes_of new) (nodes_of old) (nodes_of new) old.footings new.footings linked linked now (omega arith) (λ t less. levels_live root (changes_of new) (nodes_of old) (nodes_of new) now same t) (λ way k lives. ap (link_in way) (kept k lives)) are
    where
      same : (k : ℕ) → IsSome (nodes_of new k) → kids_in (nodes_of new k) ≡ kids_in (nodes_of old k)
      same k lives =
          let s = some_of (nodes_of new k) lives in
          let o = undone_kids c (nodes_of old) keeps k s.0 (sym (ap (λ (f : Nodes A). f k) undoes.nodes) ∙ s.1) in
          ap kids_in s.1 ∙ o.2 ∙ ap kids_in (sym o.1)

  -- a change of children was undone, and their ranks set then
  pub reset_linked : (root : ℕ) (old new : Stock A) (footings : List Footing) (node linked linked' : ℕ) (c : Change A) → Undoes old new c → c.node ≡ node → KeepsFootings (nodes_of new) old new → AreSound root (changes_of old) (nodes_of old) → ((way : Way) (k : ℕ) → link_at way footings k ≡ link_at way new.footings k) → linked' ≤ linked → linked' ≤ depth_in (nodes_of new node) → AreLinked (nodes_of old) root old.footings linked → AreLinked (nodes_of new) root footings linked'
  reset_linked root old new footings node linked linked' c undoes here kept sound links fewer high are =
      let now = AreSound-now root (changes_of new) (nodes_of new) (undone_sound root old new c undoes sound) in
      linked_on root (changes_of new) (nodes_of old) (nodes_of new) old.footings footings linked linked' now fewer (λ t less. levels_above root (changes_of new) (nodes_of old) (nodes_of new) node now same t (omega (arith, less, high))) (λ way k lives. links way k ∙ ap (link_in way) (kept k lives)) are
    where
      same : (k : ℕ) → k ≢ node → kids_in (nodes_of new k) ≡ kids_in (nodes_of old k)
      same k ne = ap kids_in (ap (λ (f : Nodes A). f k) undoes.nodes ∙ undo_other c (nodes_of old) k (λ e. ne (e ∙ here)))

  -- the nodes that are not reached were removed
  pub swept_linked : (root : ℕ) (m m' : Nodes A) (footings footings' : List Footing) (linked : ℕ) → IsRooted root [] m' → ((k : ℕ) (n : Node A) → m' k ≡ Some n → m k ≡ Some n) → ((k : ℕ) → IsSome (m' k) → footing_at footings' k ≡ footing_at footings k) → AreLinked m root footings linked → AreLinked m' root footings' linked
  swept_linked root m m' footings footings' linked sound stood kept are =
      linked_on root [] m m' footings footings' linked linked sound (omega arith) (λ t less. levels_live root [] m m' sound same t) (λ way k lives. ap (link_in way) (kept k lives)) are
    where
      same : (k : ℕ) → IsSome (m' k) → kids_in (m' k) ≡ kids_in (m k)
      same k lives = let s = some_of (m' k) lives in ap kids_in (s.1 ∙ sym (stood k s.0 s.1))

  -- 3. a level is linked

  -- where all ranks stay
  pub same_ranked : (m : Nodes A) (footings footings' : List Footing) → ((k : ℕ) → rank_at footings' k ≡ rank_at footings k) → AreRanked m footings → AreRanked m footings'
  same_ranked m footings footings' same ranked = λ p n i k is stands. same k ∙ ranked p n i k is stands

  below_more : (m : Nodes A) (passed : List ℕ) (above : ℕ) → kids_below m (passed ++ above ∷ []) ≡ kids_below m passed ++ kids_in (m above)
  below_more m passed above =
      flat_append (λ k. kids_in (m k)) passed (above ∷ []) ∙ ap (λ (l : List ℕ). kids_below m passed ++ l) (append-nil (kids_in (m above)))

  -- What is kept true while the children of the nodes of level t are linked from the left to the right.
  pub record IsLinking (m : Nodes A) (root t : ℕ) (footings : List Footing) (before at : Option ℕ) : Type 0 where
    pub passed : List ℕ
    pub ahead : List ℕ
    pub whole : level_nodes m root t ≡ passed ++ ahead
    pub at_is : at ≡ first_in ahead
    pub before_is : before ≡ first_in (mirrored (kids_below m passed))
    pub chained : AreChained (kids_below m passed) footings

  pub linking_start : (m : Nodes A) (root t : ℕ) (footings : List Footing) (first : ℕ) → first_in (level_nodes m root t) ≡ Some first → IsLinking m root t footings None (Some first)
  linking_start m root t footings first is = record {
    passed = [];
    ahead = level_nodes m root t;
    whole = refl;
    at_is = sym is;
    before_is = refl;
    chained = none_chained footings;
  }

  -- the node whose children are linked next
  pub record IsNext (m : Nodes A) (root t : ℕ) (footings : List Footing) (before : Option ℕ) (above : ℕ) : Type 0 where
    pub passed : List ℕ
    pub rest : List ℕ
    pub whole : level_nodes m root t ≡ passed ++ above ∷ rest
    pub among : In above (level_nodes m root t)
    pub before_is : before ≡ first_in (mirrored (kids_below m passed))
    pub chained : AreChained (kids_below m passed) footings
    pub apart : AreApart (kids_below m passed ++ kids_in (m above))
    pub inside : (k : ℕ) → In k (kids_below m passed ++ kids_in (m above)) → In k (level_nodes m root (suc t))

  pub linking_next : (root : ℕ) (changes : List (Change A)) (m : Nodes A) (t : ℕ) (footings : List Footing) (before at : Option ℕ) (above : ℕ) → IsRooted root changes m → IsLinking m root t footings before at → at ≡ Some above → IsNext m root t footings before above
  linking_next root changes m t footings before at above sound is e =
      let s = first_split is.ahead above (sym is.at_is ∙ e) in
      let whole = is.whole ∙ ap (λ (l : List ℕ). is.passed ++ l) s.1 in
      let below : level_nodes m root (suc t) ≡ (kids_below m is.passed ++ kids_in (m above)) ++ kids_below m s.0 =
      ap (kids_below m) whole ∙ flat_append (λ k. kids_in (m k)) is.passed (above ∷ s.0) ∙ sym (append_assoc (kids_below m is.passed) (kids_in (m above)) (kids_below m s.0)) in
      record {
        passed = is.passed;
        rest = s.0;
        whole = whole;
        among = subst (In above) (sym whole) (In_right above is.passed (above ∷ s.0) (inl refl));
        before_is = is.before_is;
        chained = is.chained;
        apart = (apart_parts (kids_below m is.passed ++ kids_in (m above)) (kids_below m s.0) (subst AreApart below (level_apart root changes m sound (suc t)))).0;
        inside = λ k h. subst (In k) (sym below) (In_left k (kids_below m is.passed ++ kids_in (m above)) (kids_below m s.0) h);
      }

  -- the last node before them lives, and is none of them
  pub linking_before : (root : ℕ) (changes : List (Change A)) (m : Nodes A) (t : ℕ) (footings : List Footing) (before : Option ℕ) (above : ℕ) → IsRooted root changes m → (is : IsNext m root t footings before above) → (k : ℕ) → before ≡ Some k → IsSome (m k) × (In k (kids_in (m above)) → ⊥)
  linking_before root changes m t footings before above sound is k e =
      let among = last_among (kids_below m is.passed) k (sym is.before_is ∙ e) in (
        level_live root changes m sound (suc t) k (is.inside k (In_left k (kids_below m is.passed) (kids_in (m above)) among)),
        (apart_parts (kids_below m is.passed) (kids_in (m above)) is.apart).2 k among,
      )

  -- the levels that are linked stay so
  pub linking_above : (root : ℕ) (changes : List (Change A)) (m : Nodes A) (t linked : ℕ) (footings footings' : List Footing) (before last : Option ℕ) (above : ℕ) → IsRooted root changes m → linked ≡ t + 1 → (is : IsNext m root t footings before above) → LinksRow footings footings' before (kids_in (m above)) last → AreLinked m root footings linked → AreLinked m root footings' linked
  linking_above root changes m t linked footings footings' before last above sound more is e are = λ u k way b a less whole.
      let there : In k (level_nodes m root u) = oriented_In_back way k (level_nodes m root u) (subst (In k) (sym whole) (In_right k b (k ∷ a) (inl refl))) in
      let d = level_depth root changes m sound u k there in
      let lower : In k (level_nodes m root (suc t)) → ⊥ = λ h. (let f = level_depth root changes m sound (suc t) k h in deeper (same_Some d.0 f.0 (sym d.1 ∙ f.1)) less d.2 f.2) in
      ap (link_in way) (e.others k (λ h. lower (is.inside k (In_right k (kids_below m is.passed) (kids_in (m above)) h))) (λ f. lower (is.inside k (In_left k (kids_below m is.passed) (kids_in (m above)) (last_among (kids_below m is.passed) k (sym is.before_is ∙ f))))))
      ∙ are u k way b a less whole
    where
      deeper : {x y : Node A} {u : ℕ} → x ≡ y → u < linked → x.depth ≡ u + 1 → y.depth ≡ suc t + 1 → ⊥
      deeper {x = x} {y = y} {u = u} same less one two = let depth : x.depth ≡ y.depth = ap (λ (o : Node A). o.depth) same in omega (arith, less, more, depth, one, two)

  pub linking_on : (m : Nodes A) (root t : ℕ) (footings footings' : List Footing) (before last next : Option ℕ) (above : ℕ) → (is : IsNext m root t footings before above) → LinksRow footings footings' before (kids_in (m above)) last → next ≡ first_in is.rest → IsLinking m root t footings' last next
  linking_on m root t footings footings' before last next above is e then = record {
    passed = is.passed ++ above ∷ [];
    ahead = is.rest;
    whole = is.whole ∙ sym (append_assoc is.passed (above ∷ []) is.rest);
    at_is = then;
    before_is = e.last_is (kids_below m is.passed) is.before_is ∙ ap (λ (l : List ℕ). first_in (mirrored l)) (sym (below_more m is.passed above));
    chained = subst (λ (l : List ℕ). AreChained l footings') (sym (below_more m is.passed above)) (e.chained (kids_below m is.passed) is.before_is is.apart is.chained);
  }

  -- one level more is linked
  pub linking_more : (m : Nodes A) (root linked linked' : ℕ) (footings : List Footing) → linked' ≡ linked + 1 → AreChained (level_nodes m root linked) footings → AreLinked m root footings linked → AreLinked m root footings linked'
  linking_more m root linked linked' footings more chained are = λ u k way b a less whole. elim (cases_eq u linked) [
    | inl e ↦ chained k way b a (ap (λ i. oriented way (level_nodes m root i)) (sym e) ∙ whole)
    | inr ne ↦ are u k way b a (omega (arith, less, more, ne)) whole
  ]

  pub linking_end : (m : Nodes A) (root t linked : ℕ) (footings : List Footing) (before : Option ℕ) → linked ≡ suc t → IsLinking m root t footings before None → AreChained (level_nodes m root linked) footings
  linking_end m root t linked footings before more is =
      let all : level_nodes m root t ≡ is.passed = is.whole ∙ ap (λ (l : List ℕ). is.passed ++ l) (no_first is.ahead (sym is.at_is)) ∙ append-nil is.passed in
      subst (λ (l : List ℕ). AreChained l footings) (sym (ap (level_nodes m root) more ∙ ap (kids_below m) all)) is.chained

  -- the first level is linked
  pub linking_first : (root : ℕ) (changes : List (Change A)) (m : Nodes A) (footings footings' : List Footing) (last : Option ℕ) (linked : ℕ) → IsRooted root changes m → linked ≡ 1 → LinksRow footings footings' None (kids_in (m root)) last → AreLinked m root footings' linked
  linking_first root changes m footings footings' last linked sound one e =
      linking_more m root 0 linked footings' one (e.chained [] refl (level_apart root changes m sound 0) (none_chained footings)) (λ u k way b a less whole. absurd (omega (arith, less)))

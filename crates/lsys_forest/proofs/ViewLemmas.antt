-- The complete levels of a forest, as a view tells them.
use Rattle.std.proofs.Common.{◌≡◌, ◌⊎◌, ◌+◌, ◌<◌, ◌≤◌, ◌^◌, ℕ, zero, suc, Bool, true, false, List, [], ◌∷◌, ◌++◌, length, slice_get, Option, Some, None, refl, sym, ap, ap₂, ◌∙◌, arith, inl, inr, subst, append_assoc}
use Rattle.std.specs.Prelude.{option_map, cond, MatchOption}
use Rattle.std.proofs.lemmas.List.{length-map, length_push}
use Rattle.std.proofs.lemmas.Option.{none-some, same_Some, slice_get-map, slice_get_within}
use Rattle.lsys_spec.specs.Levels.{level_balanced, AreMates}
use Rattle.lsys_spec.specs.Levels as L
use Rattle.std.proofs.Common.{ℤ}
use Rattle.lsys_spec.specs.Rows.{In, AreApart, first_in, mirrored}
use Rattle.lsys_forest.specs.declared.node.NodeKind.{NodeKind}
use Rattle.lsys_forest.specs.declared.node.NodeKind.TheVariants as kinds
use Rattle.lsys_forest.specs.declared.walk.Way.{Way}
use Rattle.lsys_forest.specs.Mates.{IsBracketThat, IsMateThat, seen_level, mate_way}
use Rattle.lsys_level.specs.Spots.{Seen, Push, Pop, Spotted, IsBracket, IsBracketAt, IsMate, spots_at, spotted_at, level_by, IsSpot}
use Rattle.lsys_level.specs.Tags.{HasOwnTags}
use Rattle.lsys_forest.specs.declared.walk.Way.TheVariants.{Left, Right}
use Rattle.lsys_forest.specs.Nodes.{Nodes, Node, seen_as}
use Rattle.lsys_forest.specs.Changes.{Change}
use Rattle.lsys_forest.specs.Groves.{Grove, now_of, changes_in, IsRooted}
use Rattle.lsys_forest.specs.Rows.{index_in, oriented, complete_from, depth_in, spot_in, level_nodes, level_spots, complete_levels, level_of_node, place_of_node, AreBalancedTo, IsSpotAt}
use Rattle.lsys_forest.proofs.RowLemmas.{get_split, In_right, In_split, index_of, index_within, level_depth, level_apart}
use Rattle.lsys_forest.proofs.WalkLemmas.{long_around, mirrored_around, mirrored_push}

-- 1. which levels are told

-- the level is told as it is, and balanced
pub record IsTold (levels : ℕ → List Spotted) (t : ℕ) (told : List Spotted) : Type 0 where
  pub is : told ≡ levels t
  pub balanced : level_balanced 0 (level_by (λ tag. []) (levels t)) ≡ true

complete_at : (levels : ℕ → List Spotted) (most n t : ℕ) → t < length (complete_from levels most n) → IsTold levels (n + t) (spots_at (complete_from levels most n) t)
complete_at levels zero n t h = absurd (omega (arith, h))
complete_at levels (suc most) n t h = go (level_balanced 0 (level_by (λ tag. []) (levels n))) refl t h (λ u l. complete_at levels most (suc n) u l)
  where
    list : Bool → List (List Spotted)
    list b = cond b (levels n ∷ complete_from levels most (suc n)) []

    go : (b : Bool) → level_balanced 0 (level_by (λ tag. []) (levels n)) ≡ b → (t : ℕ) → t < length (list (level_balanced 0 (level_by (λ tag. []) (levels n)))) → ((u : ℕ) → u < length (complete_from levels most (suc n)) → IsTold levels (suc n + u) (spots_at (complete_from levels most (suc n)) u)) → IsTold levels (n + t) (spots_at (list (level_balanced 0 (level_by (λ tag. []) (levels n)))) t)
    go true e zero h rec =
        let same : n + 0 ≡ n = omega arith in
        subst (λ b. IsTold levels (n + 0) (spots_at (list b) 0)) (sym e) (subst (λ i. IsTold levels i (levels n)) (sym same) (record { is = refl; balanced = e }))
    go true e (suc t) h rec =
        let within : t < length (complete_from levels most (suc n)) = let l = ap (λ b. length (list b)) e in omega (arith, h, l) in
        let same : n + suc t ≡ suc n + t = omega arith in
        subst (λ b. IsTold levels (n + suc t) (spots_at (list b) (suc t))) (sym e) (subst (λ i. IsTold levels i (spots_at (complete_from levels most (suc n)) t)) (sym same) (rec t within))
    go false e t h rec = let l = ap (λ b. length (list b)) e in absurd (omega (arith, h, l))

told_by : (levels : ℕ → List Spotted) (most t : ℕ) → t < length (complete_from levels most 0) → IsTold levels t (spots_at (complete_from levels most 0) t)
told_by levels most t h =
    let same : 0 + t ≡ t = omega arith in
    subst (λ u. IsTold levels u (spots_at (complete_from levels most 0) t)) same (complete_at levels most 0 t h)

balanced_told : (levels : ℕ → List Spotted) (most n t : ℕ) → ((u : ℕ) → u ≤ t → level_balanced 0 (level_by (λ tag. []) (levels (n + u))) ≡ true) → t < most → t < length (complete_from levels most n)
balanced_told levels zero n t all h = absurd (omega (arith, h))
balanced_told levels (suc most) n zero all h =
    let same : n + 0 ≡ n = omega arith in
    let e = ap (λ i. level_balanced 0 (level_by (λ tag. []) (levels i))) (sym same) ∙ all 0 (omega arith) in
    subst (λ b. 0 < length (cond b (levels n ∷ complete_from levels most (suc n)) [])) (sym e) (omega arith)
balanced_told levels (suc most) n (suc t) all h =
    let same : n + 0 ≡ n = omega arith in
    let e = ap (λ i. level_balanced 0 (level_by (λ tag. []) (levels i))) (sym same) ∙ all 0 (omega arith) in
    let r = balanced_told levels most (suc n) t (λ u within. (
    let next : suc n + u ≡ n + suc u = omega arith in
    ap (λ i. level_balanced 0 (level_by (λ tag. []) (levels i))) next ∙ all (suc u) (omega (arith, within))
    )) (omega (arith, h)) in
    subst (λ b. suc t < length (cond b (levels n ∷ complete_from levels most (suc n)) [])) (sym e) (omega (arith, r))

spot_told : (levels : List (List Spotted)) (t p : ℕ) → IsSpot levels t p → t < length levels
spot_told [] t p h = absurd (omega (arith, h))
spot_told (x ∷ levels) zero p h = omega arith
spot_told (x ∷ levels) (suc t) p h = omega (arith, spot_told levels t p h)

last_split : (xs : List ℕ) → (xs ≡ []) ⊎ ((ys : List ℕ) × (y : ℕ) × (xs ≡ ys ++ y ∷ []))
last_split [] = inl refl
last_split (x ∷ xs) = elim (last_split xs) [
  | inl e ↦ inr ([], x, ap (λ (l : List ℕ). x ∷ l) e)
  | inr s ↦ inr (x ∷ s.0, s.1, ap (λ (l : List ℕ). x ∷ l) s.2)
]

-- the way to the left goes through what stands before, from the last on
pub left_way : (L : List ℕ) (before : List ℕ) (k : ℕ) (after : List ℕ) → L ≡ before ++ k ∷ after → oriented Left L ≡ mirrored after ++ k ∷ mirrored before
left_way L before k after whole = ap mirrored whole ∙ mirrored_around before k after

get_around : (before : List ℕ) (k : ℕ) (after : List ℕ) → slice_get (before ++ k ∷ after) (length before) ≡ Some k
get_around [] k after = refl
get_around (x ∷ before) k after = get_around before k after

push_pop : Push ≡ Pop → ⊥
push_pop e = cc

module _ {A : Type 0} where
  pub told : (f : Grove A) (t : ℕ) → t < length (complete_levels f) → IsTold (level_spots (now_of f) f.root) t (spots_at (complete_levels f) t)
  unfolding complete_levels
  told f t h = told_by (level_spots (now_of f) f.root) (2 ^ 32) t h

  -- the node of a spot stands on its level
  pub record IsNodeAt (f : Grove A) (k : ℕ) : Type 0 where
    pub before : List ℕ
    pub after : List ℕ
    pub level : level_nodes (now_of f) f.root (level_of_node f k) ≡ before ++ k ∷ after
    pub place : place_of_node f k ≡ length before
    pub node : Node A
    pub is : now_of f k ≡ Some node
    pub depth : node.depth ≡ level_of_node f k + 1
    pub told_is : IsTold (level_spots (now_of f) f.root) (level_of_node f k) (spots_at (complete_levels f) (level_of_node f k))

  pub node_at : (f : Grove A) (changes : List (Change A)) (k : ℕ) → IsRooted f.root changes (now_of f) → IsSpot (complete_levels f) (level_of_node f k) (place_of_node f k) → IsNodeAt f k
  node_at f changes k sound spot =
      let t = level_of_node f k in
      let within = spot_told (complete_levels f) t (place_of_node f k) spot in
      let tells = told f t within in
      let L = level_nodes (now_of f) f.root t in
      let long : length (spots_at (complete_levels f) t) ≡ length L = ap length tells.is ∙ length-map L (λ i. spot_in i (now_of f i)) in
      let among = index_within k L (subst (λ n. place_of_node f k < n) long spot) in
      let s = In_split k L among in
      let d = level_depth f.root changes (now_of f) sound t k among in
      record {
        before = s.0;
        after = s.1;
        level = s.2;
        place = ap (index_in k) s.2 ∙ index_of k s.0 s.1 (subst AreApart s.2 (level_apart f.root changes (now_of f) sound t));
        node = d.0;
        is = d.1;
        depth = d.2;
        told_is = tells;
      }

  -- a node of a told level is where its spot says
  pub record IsSpotOf (f : Grove A) (t k : ℕ) (before : List ℕ) : Type 0 where
    pub level : level_of_node f k ≡ t
    pub place : place_of_node f k ≡ length before

  pub spot_of : (f : Grove A) (changes : List (Change A)) → IsRooted f.root changes (now_of f) → (t k : ℕ) (before after : List ℕ) → level_nodes (now_of f) f.root t ≡ before ++ k ∷ after → IsSpotOf f t k before
  spot_of f changes sound t k before after whole =
      let d = level_depth f.root changes (now_of f) sound t k (subst (In k) (sym whole) (In_right k before (k ∷ after) (inl refl))) in
      let depth : depth_in (now_of f k) ≡ t + 1 = ap depth_in d.1 ∙ d.2 in
      let level : level_of_node f k ≡ t = omega (arith, depth) in
      record {
        level = level;
        place = ap (λ u. index_in k (level_nodes (now_of f) f.root u)) level ∙ ap (index_in k) whole ∙ index_of k before after (subst AreApart whole (level_apart f.root changes (now_of f) sound t));
      }

  long_level : (f : Grove A) (t : ℕ) → IsTold (level_spots (now_of f) f.root) t (spots_at (complete_levels f) t) → length (spots_at (complete_levels f) t) ≡ length (level_nodes (now_of f) f.root t)
  long_level f t tells = ap length tells.is ∙ length-map (level_nodes (now_of f) f.root t) (λ i. spot_in i (now_of f i))

  -- the levels are those of the nodes and the root
  pub levels_by : (old new : Grove A) → now_of new ≡ now_of old → new.root ≡ old.root → complete_levels new ≡ complete_levels old
  unfolding complete_levels
  levels_by old new now root = ap₂ (λ (m : Nodes A) r. complete_from (level_spots m r) (2 ^ 32) 0) now root

  -- 2. the law of spots

  pub told_is : (f : Grove A) (t : ℕ) → t < length (complete_levels f) → spots_at (complete_levels f) t ≡ level_spots (now_of f) f.root t
  told_is f t h = (told f t h).is

  pub are_told : (f : Grove A) (t : ℕ) → t < 2 ^ 32 → AreBalancedTo f t → t < length (complete_levels f)
  unfolding complete_levels
  are_told f t within all = balanced_told (level_spots (now_of f) f.root) (2 ^ 32) 0 t (λ u h. (let same : 0 + u ≡ u = omega arith in ap (λ i. level_balanced 0 (level_by (λ tag. []) (level_spots (now_of f) f.root i))) same ∙ all u h)) within

  pub is_spot : (f : Grove A) (t k : ℕ) (before after : List ℕ) → IsRooted f.root (changes_in f) (now_of f) → t < length (complete_levels f) → level_nodes (now_of f) f.root t ≡ before ++ k ∷ after → IsSpotAt f t (length before) k
  is_spot f t k before after sound h whole =
      let s = spot_of f (changes_in f) sound t k before after whole in
      let size = ap length whole in
      record { level_is = s.level; place_is = s.place; spot = omega (arith, long_level f t (told f t h), size, long_around before k after) }

  -- 3. the calls

  pub right_match : (f : Grove A) (changes : List (Change A)) (k : ℕ) (result : Option ℕ) → IsRooted f.root changes (now_of f) → (at : IsNodeAt f k) → result ≡ first_in at.after → MatchOption result (place_of_node f k + 1 ≡ length (spots_at (complete_levels f) (level_of_node f k))) (λ s. (level_of_node f s ≡ level_of_node f k) × (place_of_node f s ≡ place_of_node f k + 1) × (place_of_node f s < length (spots_at (complete_levels f) (level_of_node f k))))
  right_match f changes k result sound at is = go at.after at.level is
    where
      t : ℕ
      t = level_of_node f k

      Goal : Option ℕ → Type 0
      Goal o = MatchOption o (place_of_node f k + 1 ≡ length (spots_at (complete_levels f) t)) (λ s. (level_of_node f s ≡ t) × (place_of_node f s ≡ place_of_node f k + 1) × (place_of_node f s < length (spots_at (complete_levels f) t)))

      go : (after : List ℕ) → level_nodes (now_of f) f.root t ≡ at.before ++ k ∷ after → result ≡ first_in after → Goal result
      go [] whole e =
          let size = ap length whole in
          subst Goal (sym e) (omega (arith, at.place, long_level f t at.told_is, size, long_around at.before k []))
      go (y ∷ after) whole e =
          let again : level_nodes (now_of f) f.root t ≡ (at.before ++ k ∷ []) ++ y ∷ after = whole ∙ sym (append_assoc at.before (k ∷ []) (y ∷ after)) in
          let s = spot_of f changes sound t y (at.before ++ k ∷ []) after again in
          let size = ap length again in
          subst Goal (sym e) (s.level, omega (arith, s.place, at.place, length_push at.before k), omega (arith, s.place, long_level f t at.told_is, size, long_around (at.before ++ k ∷ []) y after))

  pub left_match : (f : Grove A) (changes : List (Change A)) (k : ℕ) (result : Option ℕ) → IsRooted f.root changes (now_of f) → (at : IsNodeAt f k) → result ≡ first_in (mirrored at.before) → MatchOption result (place_of_node f k ≡ 0) (λ s. (level_of_node f s ≡ level_of_node f k) × (place_of_node f s + 1 ≡ place_of_node f k))
  left_match f changes k result sound at is = elim (last_split at.before) [
    | inl none ↦ (
        let gone : result ≡ None = is ∙ ap (λ (l : List ℕ). first_in (mirrored l)) none in
        let size = ap length none in
        subst Goal (sym gone) (omega (arith, at.place, size))
        )
    | inr s ↦ (
        let some : result ≡ Some s.1 = is ∙ ap (λ (l : List ℕ). first_in (mirrored l)) s.2 ∙ ap first_in (mirrored_push s.0 s.1) in
        let whole : level_nodes (now_of f) f.root t ≡ s.0 ++ s.1 ∷ (k ∷ at.after) = at.level ∙ ap (λ (l : List ℕ). l ++ k ∷ at.after) s.2 ∙ append_assoc s.0 (s.1 ∷ []) (k ∷ at.after) in
        let o = spot_of f changes sound t s.1 s.0 (k ∷ at.after) whole in
        let size = ap length s.2 in
        subst Goal (sym some) (o.level, omega (arith, o.place, at.place, size, length_push s.0 s.1))
        )
  ]
    where
      t : ℕ
      t = level_of_node f k

      Goal : Option ℕ → Type 0
      Goal o = MatchOption o (place_of_node f k ≡ 0) (λ s. (level_of_node f s ≡ t) × (place_of_node f s + 1 ≡ place_of_node f k))

  pub first_match : (f : Grove A) (changes : List (Change A)) (t : ℕ) (result : Option ℕ) → IsRooted f.root changes (now_of f) → t < length (complete_levels f) → result ≡ first_in (level_nodes (now_of f) f.root t) → MatchOption result (length (spots_at (complete_levels f) t) ≡ 0) (λ s. (level_of_node f s ≡ t) × (place_of_node f s ≡ 0) × (0 < length (spots_at (complete_levels f) t)))
  first_match f changes t result sound within is = go (level_nodes (now_of f) f.root t) refl is
    where
      Goal : Option ℕ → Type 0
      Goal o = MatchOption o (length (spots_at (complete_levels f) t) ≡ 0) (λ s. (level_of_node f s ≡ t) × (place_of_node f s ≡ 0) × (0 < length (spots_at (complete_levels f) t)))

      long : length (spots_at (complete_levels f) t) ≡ length (level_nodes (now_of f) f.root t)
      long = long_level f t (told f t within)

      go : (L : List ℕ) → level_nodes (now_of f) f.root t ≡ L → result ≡ first_in L → Goal result
      go [] whole e = let size = ap length whole in subst Goal (sym e) (omega (arith, long, size))
      go (x ∷ L) whole e =
          let o = spot_of f changes sound t x [] L whole in
          let size = ap length whole in
          subst Goal (sym e) (o.level, o.place, omega (arith, long, size))

  -- what stands at a spot
  pub spotted_is : (f : Grove A) (k : ℕ) → (at : IsNodeAt f k) → spotted_at (complete_levels f) (level_of_node f k) (place_of_node f k) ≡ Some (spot_in k (Some at.node))
  spotted_is f k at =
      let L = level_nodes (now_of f) f.root (level_of_node f k) in
      ap (λ (x : List Spotted). slice_get x (place_of_node f k)) at.told_is.is
      ∙ slice_get-map (λ i. spot_in i (now_of f i)) L (place_of_node f k)
      ∙ ap (option_map (λ i. spot_in i (now_of f i))) (ap (slice_get L) at.place ∙ ap (λ (l : List ℕ). slice_get l (length at.before)) at.level ∙ get_around at.before k at.after)
      ∙ ap (λ (o : Option (Node A)). Some (spot_in k o)) at.is

  -- no tag stands twice
  pub own_tags : (f : Grove A) (changes : List (Change A)) → IsRooted f.root changes (now_of f) → HasOwnTags (complete_levels f)
  own_tags f changes sound = record {
    apart = λ t u p q a b here there same.
        let x = seen_at t p a here in
        let y = seen_at u q b there in
        let tags : x.0 ≡ y.0 = sym x.4 ∙ same ∙ y.4 in
        let s = spot_of f changes sound t x.0 x.1 x.2 x.3.0 in
        let r = spot_of f changes sound u y.0 y.1 y.2 y.3.0 in
        (sym s.level ∙ ap (level_of_node f) tags ∙ r.level, x.3.1 ∙ sym s.place ∙ ap (place_of_node f) tags ∙ r.place ∙ sym y.3.1);
  }
    where
      tag_is : (k : ℕ) (o : Option (Node A)) → (spot_in k o).tag ≡ k
      tag_is k None = refl
      tag_is k (Some n) = refl

      seen_at : (t p : ℕ) (a : Spotted) → spotted_at (complete_levels f) t p ≡ Some a → (k : ℕ) × (before : List ℕ) × (after : List ℕ) × ((level_nodes (now_of f) f.root t ≡ before ++ k ∷ after) × (p ≡ length before)) × (a.tag ≡ k)
      seen_at t p a e =
          let tells = told f t (spot_told (complete_levels f) t p (slice_get_within (spots_at (complete_levels f) t) p a e)) in
          let L = level_nodes (now_of f) f.root t in
          go (slice_get L p) refl (sym (slice_get-map (λ i. spot_in i (now_of f i)) L p) ∙ ap (λ (x : List Spotted). slice_get x p) (sym tells.is) ∙ e)
        where
          go : (o : Option ℕ) → slice_get (level_nodes (now_of f) f.root t) p ≡ o → option_map (λ i. spot_in i (now_of f i)) o ≡ Some a → (k : ℕ) × (before : List ℕ) × (after : List ℕ) × ((level_nodes (now_of f) f.root t ≡ before ++ k ∷ after) × (p ≡ length before)) × (a.tag ≡ k)
          go None here g = absurd (none-some a g)
          go (Some k) here g =
              let s = get_split (level_nodes (now_of f) f.root t) p k here in
              (k, s.before, s.after, (s.whole, sym s.long), ap (λ (x : Spotted). x.tag) (sym (same_Some (spot_in k (now_of f k)) a g)) ∙ tag_is k (now_of f k))

  -- the way of a bracket's mate
  pub bracket_way : (f : Grove A) (k : ℕ) → (at : IsNodeAt f k) → (kind : NodeKind) (params : List ℤ) → at.node.seen ≡ seen_as kind params → IsBracketAt (spots_at (complete_levels f) (level_of_node f k)) (place_of_node f k) → IsBracketThat (mate_way kind) (Some at.node)
  bracket_way f k at kinds.Push params seen b = seen
  bracket_way f k at kinds.Pop params seen b = seen
  bracket_way f k at (kinds.Module name) params seen b =
      let same : b.bracket ≡ spot_in k (Some at.node) = same_Some b.bracket (spot_in k (Some at.node)) (sym b.is ∙ spotted_is f k at) in
      absurd (subst IsBracket (ap (λ (s : Spotted). s.seen) same ∙ seen) b.kind)

  -- where a node is of another kind than a module, a bracket stands
  pub bracket_there : (f : Grove A) (k : ℕ) → (at : IsNodeAt f k) → (kind : NodeKind) (params : List ℤ) → at.node.seen ≡ seen_as kind params → ((name : List ℕ) → kind ≡ kinds.Module name → ⊥) → IsBracketAt (spots_at (complete_levels f) (level_of_node f k)) (place_of_node f k)
  bracket_there f k at kinds.Push params seen other = record { bracket = spot_in k (Some at.node); is = spotted_is f k at; kind = subst IsBracket (sym seen) tt }
  bracket_there f k at kinds.Pop params seen other = record { bracket = spot_in k (Some at.node); is = spotted_is f k at; kind = subst IsBracket (sym seen) tt }
  bracket_there f k at (kinds.Module name) params seen other = absurd (other name refl)

  pub no_bracket : (f : Grove A) (k : ℕ) → (at : IsNodeAt f k) → (kind : NodeKind) (params : List ℤ) → at.node.seen ≡ seen_as kind params → (name : List ℕ) → kind ≡ kinds.Module name → IsBracketAt (spots_at (complete_levels f) (level_of_node f k)) (place_of_node f k) → ⊥
  no_bracket f k at kind params seen name is b =
      let same : b.bracket ≡ spot_in k (Some at.node) = same_Some b.bracket (spot_in k (Some at.node)) (sym b.is ∙ spotted_is f k at) in
      subst IsBracket (ap (λ (s : Spotted). s.seen) same ∙ seen ∙ ap (λ (x : NodeKind). seen_as x params) is) b.kind

  pub mate_level : (f : Grove A) (changes : List (Change A)) (way : Way) (k mate : ℕ) → IsRooted f.root changes (now_of f) → IsMateThat way (now_of f) (level_nodes (now_of f) f.root (level_of_node f k)) k mate → level_of_node f mate ≡ level_of_node f k
  mate_level f changes way k mate sound mates = (spot_of f changes sound (level_of_node f k) mate mates.before mates.after mates.whole).level

  seen_there : (f : Grove A) (k : ℕ) → (at : IsNodeAt f k) → (seen : Seen) → option_map (λ (s : Spotted). s.seen) (slice_get (spots_at (complete_levels f) (level_of_node f k)) (place_of_node f k)) ≡ Some seen → at.node.seen ≡ seen
  seen_there f k at seen e = same_Some at.node.seen seen (sym (ap (option_map (λ (s : Spotted). s.seen)) (spotted_is f k at)) ∙ e)

  pub mate_told : (f : Grove A) (changes : List (Change A)) (way : Way) (k mate : ℕ) → IsRooted f.root changes (now_of f) → (at : IsNodeAt f k) → IsBracketThat way (Some at.node) → IsMateThat way (now_of f) (level_nodes (now_of f) f.root (level_of_node f k)) k mate → IsMate (spots_at (complete_levels f) (level_of_node f k)) (place_of_node f k) (place_of_node f mate)
  mate_told f changes way k mate sound at bracket mates =
      let s = spot_of f changes sound t mate mates.before mates.after mates.whole in
      let size = ap length mates.whole in
      record {
        within = omega (arith, s.place, long_level f t at.told_is, size, long_around mates.before mate mates.after);
        opens = λ e. ends way (λ w. mates.ends w) bracket (seen_there f k at Push e);
        closes = λ e. begins way (λ w. mates.begins w) bracket (seen_there f k at Pop e);
      }
    where
      t : ℕ
      t = level_of_node f k

      level : List ℕ
      level = level_nodes (now_of f) f.root t

      place : place_of_node f mate ≡ index_in mate level
      place = ap (λ u. index_in mate (level_nodes (now_of f) f.root u)) (mate_level f changes way k mate sound mates)

      told_as : (naming : ℕ → List ℕ) → level_by naming (spots_at (complete_levels f) t) ≡ seen_level naming (now_of f) level
      told_as naming = ap (level_by naming) at.told_is.is

      ends : (w : Way) → (w ≡ Right → (index_in k level < index_in mate level) × ((naming : ℕ → List ℕ) → AreMates (seen_level naming (now_of f) level) (index_in k level) (index_in mate level))) → IsBracketThat w (Some at.node) → at.node.seen ≡ Push → (place_of_node f k < place_of_node f mate) × ((naming : ℕ → List ℕ) → AreMates (level_by naming (spots_at (complete_levels f) t)) (place_of_node f k) (place_of_node f mate))
      ends Left m b e = absurd (push_pop (sym e ∙ b))
      ends Right m b e =
          let r = m refl in
          (subst (λ q. place_of_node f k < q) (sym place) r.0, λ naming. subst (λ q. AreMates (level_by naming (spots_at (complete_levels f) t)) (place_of_node f k) q) (sym place) (subst (λ (x : List L.LevelSymbol). AreMates x (place_of_node f k) (index_in mate level)) (sym (told_as naming)) (r.1 naming)))

      begins : (w : Way) → (w ≡ Left → (index_in mate level < index_in k level) × ((naming : ℕ → List ℕ) → AreMates (seen_level naming (now_of f) level) (index_in mate level) (index_in k level))) → IsBracketThat w (Some at.node) → at.node.seen ≡ Pop → (place_of_node f mate < place_of_node f k) × ((naming : ℕ → List ℕ) → AreMates (level_by naming (spots_at (complete_levels f) t)) (place_of_node f mate) (place_of_node f k))
      begins Right m b e = absurd (push_pop (sym b ∙ e))
      begins Left m b e =
          let r = m refl in
          (subst (λ q. q < place_of_node f k) (sym place) r.0, λ naming. subst (λ q. AreMates (level_by naming (spots_at (complete_levels f) t)) q (place_of_node f k)) (sym place) (subst (λ (x : List L.LevelSymbol). AreMates x (index_in mate level) (place_of_node f k)) (sym (told_as naming)) (r.1 naming)))

-- The first levels of a forest, and where their symbols stand.
use Rattle.std.proofs.Common.{◌≡◌, ◌+◌, ◌<◌, ℕ, zero, suc, Bool, true, false, List, [], ◌∷◌, length, take, cond, slice_get, Option, Some, None, refl, sym, ap, ◌∙◌, subst, arith}
use Rattle.std.specs.Prelude.{nat_lt, option_map, MatchOption}
use Rattle.std.proofs.lemmas.Bool.Decides.{nat_tests}
use Rattle.std.proofs.lemmas.List.{length-map, get_or-take}
use Rattle.std.proofs.lemmas.Option.{none-some, same_Some, slice_get-map, slice_get_within}
use Rattle.lsys_level.specs.Spots.{Spotted, IsSpot, IsBracketAt, IsMate, spots_at, spotted_at}
use Rattle.lsys_level.specs.Tags.{HasOwnTags}
use Rattle.lsys_match.specs.Kept.{Kept}
use Rattle.lsys_forest.specs.Nodes.{Node}
use Rattle.lsys_forest.specs.Groves.{Grove, IsRooted, now_of, changes_in}
use Rattle.lsys_forest.specs.Rows.{spot_in, level_nodes, complete_levels, level_of_node, place_of_node, IsAtSpot}
use Rattle.lsys_forest.proofs.RowLemmas.{get_split}
use Rattle.lsys_forest.proofs.SoundLemmas.{AreSound-now}
use Rattle.lsys_forest.proofs.ViewLemmas.{node_at, spot_of, told_is, spotted_is, own_tags}
use Rattle.lsys_reads.proofs.LevelLemmas.{get_index, index_less}
use Rattle.lsys_pass.specs.Passes.{PassView, now_in, IsPass}
use Rattle.lsys_pass.specs.Views.{tags_on, tag_place, level_in, place_among}

-- 1. a tag, and where it stands

pub found : (tag : ℕ) (xs : List Spotted) → tag_place tag xs < length xs → (a : Spotted) × (slice_get xs (tag_place tag xs) ≡ Some a) × (a.tag ≡ tag)
found tag xs h =
    let long = length-map xs (λ (x : Spotted). x.tag) in
    by (slice_get xs (tag_place tag xs)) refl (sym (slice_get-map (λ (x : Spotted). x.tag) xs (tag_place tag xs)) ∙ get_index tag (tags_on xs) (omega (arith, h, long)))
  where
    by : (o : Option Spotted) → slice_get xs (tag_place tag xs) ≡ o → option_map (λ (x : Spotted). x.tag) o ≡ Some tag → (a : Spotted) × (slice_get xs (tag_place tag xs) ≡ Some a) × (a.tag ≡ tag)
    by None e g = absurd (none-some tag g)
    by (Some a) e g = (a, e, same_Some a.tag tag g)

stands_in : (xs : List Spotted) (p : ℕ) (a : Spotted) → slice_get xs p ≡ Some a → tag_place a.tag xs < length xs
stands_in xs p a e =
    let long = length-map xs (λ (x : Spotted). x.tag) in
    let less = index_less a.tag (tags_on xs) p (slice_get-map (λ (x : Spotted). x.tag) xs p ∙ ap (option_map (λ (x : Spotted). x.tag)) e) in
    omega (arith, long, less)

stands_among : (levels : List (List Spotted)) (t p : ℕ) (a : Spotted) → spotted_at levels t p ≡ Some a → IsSpot levels (level_in a.tag levels) (place_among a.tag levels)
stands_among [] t p a e = absurd (none-some a e)
stands_among (x ∷ levels) t p a e = by (λ u g. stands_among levels u p a g) (nat_lt (tag_place a.tag x) (length x)) refl
  where
    at : Bool → ℕ
    at b = cond b 0 (suc (level_in a.tag levels))

    Goal : ℕ → Type 0
    Goal u = tag_place a.tag (spots_at (x ∷ levels) u) < length (spots_at (x ∷ levels) u)

    After : Type 0
    After = IsSpot levels (level_in a.tag levels) (place_among a.tag levels)

    later : ((u : ℕ) → spotted_at levels u p ≡ Some a → After) → (u : ℕ) → nat_lt (tag_place a.tag x) (length x) ≡ false → spotted_at (x ∷ levels) u p ≡ Some a → After
    later rec zero f g = absurd (let l = stands_in x p a g in grind (arith, nat_tests, f, l))
    later rec (suc u) f g = rec u g

    by : ((u : ℕ) → spotted_at levels u p ≡ Some a → After) → (b : Bool) → nat_lt (tag_place a.tag x) (length x) ≡ b → Goal (at (nat_lt (tag_place a.tag x) (length x)))
    by rec true f = subst (λ b. Goal (at b)) (sym f) (grind (arith, nat_tests, f))
    by rec false f = subst (λ b. Goal (at b)) (sym f) (later rec t f e)

-- where no tag stands twice, each stands where it is found
found_at : (levels : List (List Spotted)) (t p : ℕ) (a : Spotted) → HasOwnTags levels → spotted_at levels t p ≡ Some a → (level_in a.tag levels ≡ t) × (place_among a.tag levels ≡ p)
found_at levels t p a own e =
    let f = found a.tag (spots_at levels (level_in a.tag levels)) (stands_among levels t p a e) in
    own.apart (level_in a.tag levels) t (place_among a.tag levels) p f.0 a f.1 e f.2

pub spot_told : (levels : List (List Spotted)) (t p : ℕ) → IsSpot levels t p → t < length levels
spot_told [] t p h = absurd (omega (arith, h))
spot_told (x ∷ levels) zero p h = omega arith
spot_told (x ∷ levels) (suc t) p h = let r = spot_told levels t p h in omega (arith, r)

taken : (n : ℕ) (xs : List (List Spotted)) (t : ℕ) → t < length (take n xs) → (t < n) × (t < length xs)
taken zero xs t h = absurd (omega (arith, h))
taken (suc n) [] t h = absurd (omega (arith, h))
taken (suc n) (x ∷ xs) zero h = (omega arith, omega arith)
taken (suc n) (x ∷ xs) (suc t) h = let r = taken n xs t (omega (arith, h)) in (let a = r.0 in omega (arith, a), let b = r.1 in omega (arith, b))

-- 2. the first levels of a forest

-- these are so many levels of it, and its nodes hang together
pub record Shows (f : Grove Kept) (n : ℕ) (levels : List (List Spotted)) : Type 0 where
  pub sound : IsRooted f.root (changes_in f) (now_of f)
  pub are : levels ≡ take n (complete_levels f)

pub shows : (v : PassView) (n : ℕ) (f : Grove Kept) → IsPass v → f ≡ v.forest → Shows f n (take n (complete_levels f))
shows v n f h same = record {
  sound =
      subst (λ (g : Grove Kept). IsRooted g.root (changes_in g) (now_of g)) (sym same)
      (AreSound-now v.forest.root (changes_in v.forest) (now_in v) h.stored.sound);
  are = refl;
}

module _ (f : Grove Kept) (n : ℕ) (levels : List (List Spotted)) (h : Shows f n levels) where
  abbrev all : List (List Spotted)
  all = complete_levels f

  pub below : (t : ℕ) → t < length levels → (t < n) × (t < length all)
  below t l = let e = ap (length {A = List Spotted}) h.are in taken n all t (omega (arith, l, e))

  pub row_is : (t : ℕ) → t < n → spots_at levels t ≡ spots_at all t
  row_is t l = ap (λ (xs : List (List Spotted)). spots_at xs t) h.are ∙ get_or-take n all t [] l

  pub there : (t p : ℕ) (a : Spotted) → spotted_at levels t p ≡ Some a → spotted_at all t p ≡ Some a
  there t p a e = ap (λ (xs : List Spotted). slice_get xs p) (sym (row_is t (below t (spot_told levels t p (slice_get_within (spots_at levels t) p a e))).0)) ∙ e

  pub own : HasOwnTags levels
  own = let o = own_tags f (changes_in f) h.sound in record { apart = λ t u p q a b i j same. o.apart t u p q a b (there t p a i) (there u q b j) same }

  -- node k stands there in both
  pub record IsHere (k : ℕ) : Type 0 where
    pub level : level_of_node f k ≡ level_in k levels
    pub place : place_of_node f k ≡ place_among k levels
    pub within : level_of_node f k < n
    pub at_spot : IsAtSpot f k

  -- a node of the level, at its place
  pub node_there : (t p : ℕ) (a : Spotted) → t < length all → spotted_at all t p ≡ Some a → slice_get (level_nodes (now_of f) f.root t) p ≡ Some a.tag
  node_there t p a l e = by (slice_get row p) refl (sym (slice_get-map (λ i. spot_in i (now_of f i)) row p) ∙ ap (λ (x : List Spotted). slice_get x p) (sym (told_is f t l)) ∙ e)
    where
      row : List ℕ
      row = level_nodes (now_of f) f.root t

      tag_is : (k : ℕ) (o : Option (Node Kept)) → (spot_in k o).tag ≡ k
      tag_is k None = refl
      tag_is k (Some m) = refl

      by : (o : Option ℕ) → slice_get (level_nodes (now_of f) f.root t) p ≡ o → option_map (λ i. spot_in i (now_of f i)) o ≡ Some a → slice_get (level_nodes (now_of f) f.root t) p ≡ Some a.tag
      by None i g = absurd (none-some a g)
      by (Some k) i g = i ∙ ap Some (sym (tag_is k (now_of f k)) ∙ ap (λ (x : Spotted). x.tag) (same_Some (spot_in k (now_of f k)) a g))

  pub here : (k : ℕ) → IsSpot levels (level_in k levels) (place_among k levels) → IsHere k
  here k spot =
      let t = level_in k levels in
      let p = place_among k levels in
      let b = below t (spot_told levels t p spot) in
      let a = found k (spots_at levels t) spot in
      let mine = node_there t p a.0 b.1 (there t p a.0 a.1) ∙ ap Some a.2 in
      let s = get_split (level_nodes (now_of f) f.root t) p k mine in
      let o = spot_of f (changes_in f) h.sound t k s.before s.after s.whole in
      let place : place_of_node f k ≡ p = o.place ∙ s.long in
      record {
        level = o.level;
        place = place;
        within = subst (λ u. u < n) (sym o.level) b.0;
        at_spot = subst (λ u. IsSpot all u (place_of_node f k)) (sym o.level) (subst (IsSpot all t) (sym place) (subst (λ (x : List Spotted). p < length x) (row_is t b.0) spot));
      }

  pub found_here : (k : ℕ) → IsAtSpot f k → level_of_node f k < n → (level_in k levels ≡ level_of_node f k) × (place_among k levels ≡ place_of_node f k)
  found_here k spot l =
      let at = node_at f (changes_in f) k h.sound spot in
      found_at levels (level_of_node f k) (place_of_node f k) (spot_in k (Some at.node)) own
      (ap (λ (x : List Spotted). slice_get x (place_of_node f k)) (row_is (level_of_node f k) l) ∙ spotted_is f k at)

  -- 3. the calls

  pub first_told : (t : ℕ) (r : Option ℕ) → t < length levels
      → MatchOption r (length (spots_at all t) ≡ 0) (λ s. (level_of_node f s ≡ t) × (place_of_node f s ≡ 0) × (0 < length (spots_at all t)))
      → MatchOption r (length (spots_at levels t) ≡ 0) (λ s. (level_in s levels ≡ t) × (place_among s levels ≡ 0) × (0 < length (spots_at levels t)))
  first_told t r l e = by r e
    where
      row : spots_at levels t ≡ spots_at all t
      row = row_is t (below t l).0

      by : (r : Option ℕ) → MatchOption r (length (spots_at all t) ≡ 0) (λ s. (level_of_node f s ≡ t) × (place_of_node f s ≡ 0) × (0 < length (spots_at all t)))
          → MatchOption r (length (spots_at levels t) ≡ 0) (λ s. (level_in s levels ≡ t) × (place_among s levels ≡ 0) × (0 < length (spots_at levels t)))
      by None e = ap length row ∙ e
      by (Some s) e =
          let spot : IsAtSpot f s = subst (λ u. IsSpot all u (place_of_node f s)) (sym e.0) (subst (IsSpot all t) (sym e.1) e.2) in
          let g = found_here s spot (subst (λ u. u < n) (sym e.0) (below t l).0) in
          (g.0 ∙ e.0, g.1 ∙ e.1, subst (λ (x : List Spotted). 0 < length x) (sym row) e.2)

  module _ (k : ℕ) (spot : IsSpot levels (level_in k levels) (place_among k levels)) where
    at : IsHere k
    at = here k spot

    row_here : spots_at levels (level_in k levels) ≡ spots_at all (level_of_node f k)
    row_here = ap (spots_at levels) (sym at.level) ∙ row_is (level_of_node f k) at.within

    pub spotted_here : spotted_at all (level_of_node f k) (place_of_node f k) ≡ spotted_at levels (level_in k levels) (place_among k levels)
    spotted_here = ap (λ (x : List Spotted). slice_get x (place_of_node f k)) (sym row_here) ∙ ap (slice_get (spots_at levels (level_in k levels))) at.place

    -- another node of its level
    beside : (s : ℕ) → level_of_node f s ≡ level_of_node f k → place_of_node f s < length (spots_at all (level_of_node f k)) → (level_in s levels ≡ level_in k levels) × (place_among s levels ≡ place_of_node f s)
    beside s e l =
        let g = found_here s (subst (λ u. IsSpot all u (place_of_node f s)) (sym e) l) (subst (λ u. u < n) (sym e) at.within) in
        (g.0 ∙ e ∙ at.level, g.1)

    pub left_told : (r : Option ℕ) → MatchOption r (place_of_node f k ≡ 0) (λ s. (level_of_node f s ≡ level_of_node f k) × (place_of_node f s + 1 ≡ place_of_node f k))
        → MatchOption r (place_among k levels ≡ 0) (λ s. (level_in s levels ≡ level_in k levels) × (place_among s levels + 1 ≡ place_among k levels))
    left_told None e = sym at.place ∙ e
    left_told (Some s) e =
        let b = at.at_spot in
        let c = e.1 in
        let g = beside s e.0 (omega (arith, b, c)) in
        (g.0, ap (λ p. p + 1) g.1 ∙ e.1 ∙ at.place)

    pub right_told : (r : Option ℕ) → MatchOption r (place_of_node f k + 1 ≡ length (spots_at all (level_of_node f k))) (λ s. (level_of_node f s ≡ level_of_node f k) × (place_of_node f s ≡ place_of_node f k + 1) × (place_of_node f s < length (spots_at all (level_of_node f k))))
        → MatchOption r (place_among k levels + 1 ≡ length (spots_at levels (level_in k levels))) (λ s. (level_in s levels ≡ level_in k levels) × (place_among s levels ≡ place_among k levels + 1) × (place_among s levels < length (spots_at levels (level_in k levels))))
    right_told None e = ap (λ p. p + 1) (sym at.place) ∙ e ∙ ap length (sym row_here)
    right_told (Some s) e =
        let g = beside s e.0 e.2 in
        (g.0, g.1 ∙ e.1 ∙ ap (λ p. p + 1) at.place, subst (λ p. p < length (spots_at levels (level_in k levels))) (sym g.1) (subst (λ (x : List Spotted). place_of_node f s < length x) (sym row_here) e.2))

    pub bracket_there : IsBracketAt (spots_at levels (level_in k levels)) (place_among k levels) → IsBracketAt (spots_at all (level_of_node f k)) (place_of_node f k)
    bracket_there b = subst (IsBracketAt (spots_at all (level_of_node f k))) (sym at.place) (subst (λ (x : List Spotted). IsBracketAt x (place_among k levels)) row_here b)

    module _ (s : ℕ) (level : level_of_node f s ≡ level_of_node f k) (mate : IsMate (spots_at all (level_of_node f k)) (place_of_node f k) (place_of_node f s)) where
      pub mate_level : level_in s levels ≡ level_in k levels
      mate_level = (beside s level mate.within).0

      pub mate_told : IsMate (spots_at levels (level_in k levels)) (place_among k levels) (place_among s levels)
      mate_told =
          subst (IsMate (spots_at levels (level_in k levels)) (place_among k levels)) (sym (beside s level mate.within).1)
          (subst (λ p. IsMate (spots_at levels (level_in k levels)) p (place_of_node f s)) at.place
          (subst (λ (x : List Spotted). IsMate x (place_of_node f k) (place_of_node f s)) (sym row_here) mate))

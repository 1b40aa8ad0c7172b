-- The levels of a derivation are those of its forest, with the keys by its seed.
use Rattle.std.proofs.Common.{◌≡◌, ◌+◌, ◌<◌, ℕ, zero, suc, List, [], ◌∷◌, length, map, take, cond, slice_get, Option, Some, None, refl, sym, ap, ◌∙◌, subst, arith}
use Rattle.std.specs.Prelude.{is_some, nat_lt, option_map, sum_by, MatchOption}
use Rattle.std.proofs.lemmas.List.{length-map}
use Rattle.std.proofs.lemmas.List.Sums.{sum_by-cons}
use Rattle.std.proofs.lemmas.Option.{none-some, same_Some, slice_get-map}
use Rattle.lsys_spec.specs.Draws.{key_of}
use Rattle.lsys_spec.specs.Systems.{System}
use Rattle.lsys_spec.specs.Levels.{AreMates}
use Rattle.lsys_level.specs.Spots.{Spotted, IsSpot, IsBracket, IsBracketAt, IsMate, named, level_by, spots_at, spotted_at}
use Rattle.lsys_level.specs.Tags.{HasOwnTags}
use Rattle.lsys_match.specs.Kept.{Kept}
use Rattle.lsys_forest.specs.Nodes.{Nodes}
use Rattle.lsys_forest.specs.Groves.{Grove, IsRooted, IsLive, now_of, changes_in}
use Rattle.lsys_forest.specs.Rows.{index_in, complete_levels, level_of_node, place_of_node, IsAtSpot}
use Rattle.lsys_forest.proofs.ViewLemmas.{node_at}
use Rattle.lsys_reads.specs.Lineages.{names}
use Rattle.lsys_pass.specs.Passes.{PassView, IsPass}
use Rattle.lsys_pass.specs.Views.{ForestView, tags_on, tag_place, level_in, place_among, keyed_by, levels_for, view_of}
use Rattle.lsys_pass.proofs.Viewing as bare
use Rattle.lsys_pass.proofs.Viewing.{Shows, found, shows, below, here, own, spotted_here}

-- 1. levels with other keys

abbrev pub all_keyed : ℕ → Nodes Kept → List (List Spotted) → List (List Spotted)
all_keyed seed m levels = map (map (keyed_by seed m)) levels

module _ (seed : ℕ) (m : Nodes Kept) where
  abbrev keyed : Spotted → Spotted
  keyed = keyed_by seed m

  tags_are : (xs : List Spotted) → tags_on (map keyed xs) ≡ tags_on xs
  tags_are [] = refl
  tags_are (x ∷ xs) = ap (λ ts. x.tag ∷ ts) (tags_are xs)

  place_is : (tag : ℕ) (xs : List Spotted) → tag_place tag (map keyed xs) ≡ tag_place tag xs
  place_is tag xs = ap (index_in tag) (tags_are xs)

  pub level_is : (tag : ℕ) (levels : List (List Spotted)) → level_in tag (all_keyed seed m levels) ≡ level_in tag levels
  level_is tag [] = refl
  level_is tag (x ∷ levels) =
      let place = place_is tag x in
      let long = length-map x keyed in
      let rest = level_is tag levels in
      λ i. cond (nat_lt (place i) (long i)) 0 (suc (rest i))

  pub row_keyed : (levels : List (List Spotted)) (t : ℕ) → spots_at (all_keyed seed m levels) t ≡ map keyed (spots_at levels t)
  row_keyed [] t = refl
  row_keyed (x ∷ levels) zero = refl
  row_keyed (x ∷ levels) (suc t) = row_keyed levels t

  pub long_is : (levels : List (List Spotted)) (t : ℕ) → length (spots_at (all_keyed seed m levels) t) ≡ length
      (spots_at levels t)
  long_is levels t = ap (length {A = Spotted}) (row_keyed levels t) ∙ length-map (spots_at levels t) keyed

  pub among_is : (tag : ℕ) (levels : List (List Spotted)) → place_among tag (all_keyed seed m levels) ≡ place_among tag levels
  among_is tag levels =
      ap (λ t. tag_place tag (spots_at (all_keyed seed m levels) t)) (level_is tag levels)
      ∙ ap (tag_place tag) (row_keyed levels (level_in tag levels))
      ∙ place_is tag (spots_at levels (level_in tag levels))

  pub spotted_keyed : (levels : List (List Spotted)) (t p : ℕ) → spotted_at (all_keyed seed m levels) t p ≡ option_map keyed
      (spotted_at levels t p)
  spotted_keyed levels t p = ap (λ (xs : List Spotted). slice_get xs p) (row_keyed levels t) ∙ slice_get-map keyed
      (spots_at levels t) p

  -- the levels by their names are the same
  pub named_keyed : (naming : ℕ → List ℕ) (xs : List Spotted) → level_by naming (map keyed xs) ≡ level_by naming xs
  named_keyed naming [] = refl
  named_keyed naming (x ∷ xs) =
      let rest = named_keyed naming xs in
      λ i. named naming x ∷ rest i

  pub sums_keyed : (levels : List (List Spotted)) → sum_by length (all_keyed seed m levels) ≡ sum_by length levels
  sums_keyed [] = refl
  sums_keyed (x ∷ levels) =
      let rest = sums_keyed levels in
      let long = length-map x keyed in
      let a = sum_by-cons (length {A = Spotted}) (map keyed x) (all_keyed seed m levels) in
      let b = sum_by-cons (length {A = Spotted}) x levels in
      omega (arith, rest, long, a, b)

  -- a symbol of the keyed levels is one of the others
  pub unkeyed : (levels : List (List Spotted)) (t p : ℕ) (a : Spotted) → spotted_at (all_keyed seed m levels) t p ≡ Some a
      → (b : Spotted) × (spotted_at levels t p ≡ Some b) × (keyed b ≡ a)
  unkeyed levels t p a e = by (spotted_at levels t p) refl (sym (spotted_keyed levels t p) ∙ e)
    where
      by : (o : Option Spotted) → spotted_at levels t p ≡ o → option_map keyed o ≡ Some a → (b : Spotted)
          × (spotted_at levels t p ≡ Some b) × (keyed b ≡ a)
      by None i g = absurd (none-some a g)
      by (Some b) i g = (b, i, same_Some (keyed b) a g)

  pub own_keyed : (levels : List (List Spotted)) → HasOwnTags levels → HasOwnTags (all_keyed seed m levels)
  own_keyed levels own = record {
    apart = λ t u p q a b i j same.
        let x = unkeyed levels t p a i in
        let y = unkeyed levels u q b j in
        own.apart t u p q x.0 y.0 x.1 y.1 (ap (λ (s : Spotted). s.tag) x.2 ∙ same ∙ sym (ap (λ (s : Spotted). s.tag) y.2));
  }

  -- 2. what is answered of them

  spot_back : (levels : List (List Spotted)) (k : ℕ) → IsSpot (all_keyed seed m levels) (level_in k (all_keyed seed m levels))
      (place_among k (all_keyed seed m levels)) → IsSpot levels (level_in k levels) (place_among k levels)
  spot_back levels k h =
      subst (λ n. place_among k levels < n) (ap (λ t. length (spots_at (all_keyed seed m levels) t)) (level_is k levels)
      ∙ long_is levels (level_in k levels))
      (subst (λ p. p < length (spots_at (all_keyed seed m levels) (level_in k (all_keyed seed m levels))))
      (among_is k levels) h)

  first_keyed : (levels : List (List Spotted)) (t : ℕ) (r : Option ℕ) → MatchOption r (length (spots_at levels t) ≡ 0)
      (λ s. (level_in s levels ≡ t) × (place_among s levels ≡ 0) × (0 < length (spots_at levels t)))
      → MatchOption r (length (spots_at (all_keyed seed m levels) t) ≡ 0)
      (λ s. (level_in s (all_keyed seed m levels) ≡ t) × (place_among s (all_keyed seed m levels) ≡ 0)
      × (0 < length (spots_at (all_keyed seed m levels) t)))
  first_keyed levels t None e = long_is levels t ∙ e
  first_keyed levels t (Some s) e = (
    level_is s levels ∙ e.0,
    among_is s levels ∙ e.1,
    subst (λ n. 0 < n)
        (sym (long_is levels t)) e.2,
  )

  left_keyed : (levels : List (List Spotted)) (k : ℕ) (r : Option ℕ) → MatchOption r (place_among k levels ≡ 0)
      (λ s. (level_in s levels ≡ level_in k levels) × (place_among s levels + 1 ≡ place_among k levels))
      → MatchOption r (place_among k (all_keyed seed m levels) ≡ 0)
      (λ s. (level_in s (all_keyed seed m levels) ≡ level_in k (all_keyed seed m levels))
      × (place_among s (all_keyed seed m levels) + 1 ≡ place_among k (all_keyed seed m levels)))
  left_keyed levels k None e = among_is k levels ∙ e
  left_keyed levels k (Some s) e = (
    level_is s levels ∙ e.0 ∙ sym (level_is k levels),
    ap (λ p. p + 1) (among_is s levels) ∙ e.1
        ∙ sym (among_is k levels),
  )

  long_here : (levels : List (List Spotted)) (k : ℕ) → length
      (spots_at (all_keyed seed m levels) (level_in k (all_keyed seed m levels))) ≡ length (spots_at levels (level_in k levels))
  long_here levels k = ap (λ t. length (spots_at (all_keyed seed m levels) t)) (level_is k levels) ∙ long_is levels
      (level_in k levels)

  right_keyed : (levels : List (List Spotted)) (k : ℕ) (r : Option ℕ)
      → MatchOption r (place_among k levels + 1 ≡ length (spots_at levels (level_in k levels)))
      (λ s. (level_in s levels ≡ level_in k levels) × (place_among s levels ≡ place_among k levels + 1)
      × (place_among s levels < length (spots_at levels (level_in k levels))))
      → MatchOption r (place_among k (all_keyed seed m levels) + 1 ≡ length
      (spots_at (all_keyed seed m levels) (level_in k (all_keyed seed m levels))))
      (λ s. (level_in s (all_keyed seed m levels) ≡ level_in k (all_keyed seed m levels))
      × (place_among s (all_keyed seed m levels) ≡ place_among k (all_keyed seed m levels) + 1)
      × (place_among s (all_keyed seed m levels) < length
      (spots_at (all_keyed seed m levels) (level_in k (all_keyed seed m levels)))))
  right_keyed levels k None e = ap (λ p. p + 1) (among_is k levels) ∙ e ∙ sym (long_here levels k)
  right_keyed levels k (Some s) e =
      let long = long_here levels k in
      let place = among_is s levels in
      let less = e.2 in (
        level_is s levels ∙ e.0 ∙ sym (level_is k levels),
        among_is s levels ∙ e.1 ∙ ap (λ p. p + 1)
            (sym (among_is k levels)),
        omega (arith, long, place, less),
      )

  seen_keyed : (o : Option Spotted) → option_map (λ (s : Spotted). s.seen) (option_map keyed o) ≡ option_map
      (λ (s : Spotted). s.seen) o
  seen_keyed None = refl
  seen_keyed (Some s) = refl

  row_here : (levels : List (List Spotted)) (k : ℕ) → spots_at (all_keyed seed m levels)
      (level_in k (all_keyed seed m levels)) ≡ map keyed (spots_at levels (level_in k levels))
  row_here levels k = ap (spots_at (all_keyed seed m levels)) (level_is k levels) ∙ row_keyed levels (level_in k levels)

  bracket_back : (xs : List Spotted) (p : ℕ) → IsBracketAt (map keyed xs) p → IsBracketAt xs p
  bracket_back xs p b = by (slice_get xs p) refl (sym (slice_get-map keyed xs p) ∙ b.is)
    where
      by : (o : Option Spotted) → slice_get xs p ≡ o → option_map keyed o ≡ Some b.bracket → IsBracketAt xs p
      by None e g = absurd (none-some b.bracket g)
      by (Some a) e g = record {
        bracket = a;
        is = e;
        kind = subst IsBracket
            (sym (ap (λ (s : Spotted). s.seen) (same_Some (keyed a) b.bracket g))) b.kind;
      }

  mate_keyed : (xs : List Spotted) (p q : ℕ) → IsMate xs p q → IsMate (map keyed xs) p q
  mate_keyed xs p q h = record {
    within = subst (λ n. q < n) (sym (length-map xs keyed)) h.within;
    opens = λ e. (let o = h.opens (sym (seen_at xs p) ∙ e) in
        (o.0, λ naming. subst (λ y. AreMates y p q) (sym (named_keyed naming xs)) (o.1 naming)));
    closes = λ e. (let o = h.closes (sym (seen_at xs p) ∙ e) in
        (o.0, λ naming. subst (λ y. AreMates y q p) (sym (named_keyed naming xs)) (o.1 naming)));
  }
    where
      seen_at : (xs : List Spotted) (p : ℕ) → option_map (λ (s : Spotted). s.seen) (slice_get (map keyed xs) p) ≡ option_map
          (λ (s : Spotted). s.seen) (slice_get xs p)
      seen_at xs p = ap (option_map (λ (s : Spotted). s.seen)) (slice_get-map keyed xs p) ∙ seen_keyed (slice_get xs p)

  here_keyed : (levels : List (List Spotted)) (k : ℕ) → spotted_at (all_keyed seed m levels)
      (level_in k (all_keyed seed m levels)) (place_among k (all_keyed seed m levels)) ≡ option_map keyed
      (spotted_at levels (level_in k levels) (place_among k levels))
  here_keyed levels k =
      ap (λ (xs : List Spotted). slice_get xs (place_among k (all_keyed seed m levels))) (row_here levels k)
      ∙ slice_get-map keyed (spots_at levels (level_in k levels)) (place_among k (all_keyed seed m levels))
      ∙ ap (λ p. option_map keyed (spotted_at levels (level_in k levels) p)) (among_is k levels)

-- 3. the first levels of a forest

-- these are so many levels of it, with the keys by a seed, and its nodes hang together
pub record Tells (f : Grove Kept) (n seed : ℕ) (levels : List (List Spotted)) : Type 0 where
  pub sound : IsRooted f.root (changes_in f) (now_of f)
  pub are : levels ≡ all_keyed seed (now_of f) (take n (complete_levels f))

pub tells : (s : System) (v : PassView) (w : ForestView) (f : Grove Kept) → IsPass v → view_of s v ≡ w → f ≡ v.forest → Tells f
    (s.depth + 1) s.seed w.levels
tells s v w f h e same = record {
  sound = (shows v (s.depth + 1) f h same).sound;
  are = ap (λ (w : ForestView). w.levels) (sym e) ∙ ap (λ (g : Grove Kept). levels_for s g) (sym same);
}

module _ (f : Grove Kept) (n seed : ℕ) (levels : List (List Spotted)) (h : Tells f n seed levels) where
  abbrev m : Nodes Kept
  m = now_of f

  abbrev plain : List (List Spotted)
  plain = take n (complete_levels f)

  sight : Shows f n plain
  sight = record { sound = h.sound; are = refl }

  long : length levels ≡ length plain
  long = ap (length {A = List Spotted}) h.are ∙ length-map plain (map (keyed_by seed m))

  pub level_told : (t : ℕ) → t < length levels → t < length (complete_levels f)
  level_told t l = (below f n plain sight t (subst (λ k. t < k) long l)).1

  pub own_told : HasOwnTags levels
  own_told = subst HasOwnTags (sym h.are) (own_keyed seed m plain (own f n plain sight))

  pub first_told : (t : ℕ) (r : Option ℕ) → t < length levels
      → MatchOption r (length (spots_at (complete_levels f) t) ≡ 0)
      (λ s. (level_of_node f s ≡ t) × (place_of_node f s ≡ 0) × (0 < length (spots_at (complete_levels f) t)))
      → MatchOption r (length (spots_at levels t) ≡ 0)
      (λ s. (level_in s levels ≡ t) × (place_among s levels ≡ 0) × (0 < length (spots_at levels t)))
  first_told t r l e =
      subst (λ (xs : List (List Spotted)). MatchOption r (length (spots_at xs t) ≡ 0)
      (λ s. (level_in s xs ≡ t) × (place_among s xs ≡ 0) × (0 < length (spots_at xs t)))) (sym h.are)
      (first_keyed seed m plain t r (bare.first_told f n plain sight t r (subst (λ k. t < k) long l) e))

  module _ (k : ℕ) (spot : IsSpot levels (level_in k levels) (place_among k levels)) where
    plain_spot : IsSpot plain (level_in k plain) (place_among k plain)
    plain_spot = spot_back seed m plain k (subst (λ (xs : List (List Spotted)). IsSpot xs (level_in k xs) (place_among k xs))
        h.are spot)

    pub at_spot : IsAtSpot f k
    at_spot = (here f n plain sight k plain_spot).at_spot

    -- its node lives
    pub live_here : IsLive f k
    live_here = ap is_some (node_at f (changes_in f) k h.sound at_spot).is

    pub left_told : (r : Option ℕ) → MatchOption r (place_of_node f k ≡ 0)
        (λ s. (level_of_node f s ≡ level_of_node f k) × (place_of_node f s + 1 ≡ place_of_node f k))
        → MatchOption r (place_among k levels ≡ 0) (λ s. (level_in s levels ≡ level_in k levels)
        × (place_among s levels + 1 ≡ place_among k levels))
    left_told r e =
        subst (λ (xs : List (List Spotted)). MatchOption r (place_among k xs ≡ 0)
        (λ s. (level_in s xs ≡ level_in k xs) × (place_among s xs + 1 ≡ place_among k xs))) (sym h.are)
        (left_keyed seed m plain k r (bare.left_told f n plain sight k plain_spot r e))

    pub right_told : (r : Option ℕ) → MatchOption r (place_of_node f k + 1 ≡ length
        (spots_at (complete_levels f) (level_of_node f k)))
        (λ s. (level_of_node f s ≡ level_of_node f k) × (place_of_node f s ≡ place_of_node f k + 1)
        × (place_of_node f s < length (spots_at (complete_levels f) (level_of_node f k))))
        → MatchOption r (place_among k levels + 1 ≡ length (spots_at levels (level_in k levels)))
        (λ s. (level_in s levels ≡ level_in k levels) × (place_among s levels ≡ place_among k levels + 1)
        × (place_among s levels < length (spots_at levels (level_in k levels))))
    right_told r e =
        subst (λ (xs : List (List Spotted)). MatchOption r (place_among k xs + 1 ≡ length (spots_at xs (level_in k xs)))
        (λ s. (level_in s xs ≡ level_in k xs) × (place_among s xs ≡ place_among k xs + 1)
        × (place_among s xs < length (spots_at xs (level_in k xs))))) (sym h.are)
        (right_keyed seed m plain k r (bare.right_told f n plain sight k plain_spot r e))

    pub bracket_there : IsBracketAt (spots_at levels (level_in k levels)) (place_among k levels) → IsBracketAt
        (spots_at (complete_levels f) (level_of_node f k)) (place_of_node f k)
    bracket_there b =
        bare.bracket_there f n plain sight k plain_spot
        (bracket_back seed m (spots_at plain (level_in k plain)) (place_among k plain)
        (subst (λ (x : List Spotted). IsBracketAt x (place_among k plain)) (row_here seed m plain k)
        (subst (IsBracketAt (spots_at (all_keyed seed m plain) (level_in k (all_keyed seed m plain)))) (among_is seed m k plain)
        (subst (λ (xs : List (List Spotted)). IsBracketAt (spots_at xs (level_in k xs)) (place_among k xs)) h.are b))))

    module _ (s : ℕ) (level : level_of_node f s ≡ level_of_node f k)
        (mate : IsMate (spots_at (complete_levels f) (level_of_node f k)) (place_of_node f k) (place_of_node f s)) where
      pub mate_level : level_in s levels ≡ level_in k levels
      mate_level =
          subst (λ (xs : List (List Spotted)). level_in s xs ≡ level_in k xs) (sym h.are)
          (level_is seed m s plain ∙ bare.mate_level f n plain sight k plain_spot s level mate ∙ sym (level_is seed m k plain))

      pub mate_told : IsMate (spots_at levels (level_in k levels)) (place_among k levels) (place_among s levels)
      mate_told =
          subst (λ (xs : List (List Spotted)). IsMate (spots_at xs (level_in k xs)) (place_among k xs) (place_among s xs))
          (sym h.are)
          (subst (IsMate (spots_at (all_keyed seed m plain) (level_in k (all_keyed seed m plain)))
          (place_among k (all_keyed seed m plain))) (sym (among_is seed m s plain))
          (subst (λ p. IsMate (spots_at (all_keyed seed m plain) (level_in k (all_keyed seed m plain))) p (place_among s plain))
          (sym (among_is seed m k plain))
          (subst (λ (x : List Spotted). IsMate x (place_among k plain) (place_among s plain)) (sym (row_here seed m plain k))
          (mate_keyed seed m (spots_at plain (level_in k plain)) (place_among k plain) (place_among s plain)
          (bare.mate_told f n plain sight k plain_spot s level mate)))))

    -- the symbol but for its key is that of the forest
    pub same_here : {A : Type 0} (g : Spotted → A) → ((x : Spotted) → g (keyed_by seed m x) ≡ g x)
        → option_map g (spotted_at levels (level_in k levels) (place_among k levels)) ≡ option_map g
        (spotted_at (complete_levels f) (level_of_node f k) (place_of_node f k))
    same_here {A = A} g alike =
        ap (option_map g) (ap (λ (xs : List (List Spotted)). spotted_at xs (level_in k xs) (place_among k xs)) h.are
        ∙ here_keyed seed m plain k)
        ∙ through (spotted_at plain (level_in k plain) (place_among k plain))
        ∙ ap (option_map g) (sym (spotted_here f n plain sight k plain_spot))
      where
        through : (o : Option Spotted) → option_map g (option_map (keyed_by seed m) o) ≡ option_map g o
        through None = refl
        through (Some x) = ap Some (alike x)

    -- it stands in the forest as in its first levels
    pub seen_plain : spotted_at (complete_levels f) (level_of_node f k) (place_of_node f k) ≡ spotted_at plain
        (level_in k plain) (place_among k plain)
    seen_plain = spotted_here f n plain sight k plain_spot

    -- its node is that of its tag
    pub found_plain : (a : Spotted) × (spotted_at plain (level_in k plain) (place_among k plain) ≡ Some a) × (a.tag ≡ k)
    found_plain = found k (spots_at plain (level_in k plain)) plain_spot

    -- and its key is that of its node's lineage
    pub key_here : option_map (λ (s : Spotted). s.key) (spotted_at levels (level_in k levels) (place_among k levels)) ≡ Some
        (key_of seed (names m k))
    key_here =
        let a = found_plain in
        ap (option_map (λ (s : Spotted). s.key)) (ap
        (λ (xs : List (List Spotted)). spotted_at xs (level_in k xs) (place_among k xs)) h.are ∙ here_keyed seed m plain k ∙ ap
        (option_map (keyed_by seed m)) a.1)
        ∙ ap (λ j. Some (key_of seed (names m j))) a.2

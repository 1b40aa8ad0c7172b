-- The levels of a system as a view tells them.
use Rattle.std.proofs.Common.{◌≡◌, ℕ, zero, suc, ◌+◌, ◌<◌, ◌≤◌, ◌^◌, Bool, true, false, cond, Some, Ok, Err, List, [], ◌∷◌, ◌++◌, length, refl, sym, ap, ◌∙◌, subst, arith, lit<}
use Rattle.std.specs.Prelude.{slice_get, slice_index_or, sum_by, nat_lt}
use Rattle.std.proofs.lemmas.Bool.Decides.{nat_tests}
use Rattle.std.proofs.lemmas.List.{length-map, length_push}
use Rattle.std.proofs.lemmas.List.Sums.{sum_by-cons}
use Rattle.lsys_spec.specs.Systems.{System, WellSpelled}
use Rattle.lsys_spec.specs.Levels.{LevelSymbol, level_balanced}
use Rattle.lsys_spec.specs.Meaning.{first_level, OverLimit, next_level, within_limit, last_level, meaning_to, meaning}
use Rattle.lsys_spec.specs.Replies.{level_at, or_empty}
use Rattle.lsys_spec.proofs.LevelInduction.{ok_parts}
use Rattle.lsys_spec.proofs.Offspring.{has_balance, grown}
use Rattle.lsys_level.specs.Spots as spots
use Rattle.lsys_level.specs.Spots.{Seen, Push, Pop, Module, Spotted, with_lineage, level_by}
use Rattle.lsys_level.specs.Tags.{HasOwnTags, ShowsLevels, IsNamed}
use Rattle.lsys_level.proofs.Lineages.{is_named}

-- 1. how many there are

-- they number n + 1, and their lengths sum to at most the limit
pub record Counted (limit n : ℕ) (xs : List (List LevelSymbol)) : Type 0 where
  pub levels : length xs ≡ suc n
  pub symbols : sum_by length xs ≤ limit

ok_within : (limit t : ℕ) (xs ys : List (List LevelSymbol)) → within_limit limit t xs ≡ Ok ys → (xs ≡ ys) × (sum_by length ys ≤ limit)
ok_within limit t xs ys h = by (nat_lt limit (sum_by length xs)) refl h
  where
    by : (b : Bool) → nat_lt limit (sum_by length xs) ≡ b → cond b (Err (OverLimit t)) (Ok xs) ≡ Ok ys → (xs ≡ ys) × (sum_by length ys ≤ limit)
    by true e h = cc
    by false e h =
        let same : xs ≡ ys = cc in
        let few : sum_by length xs ≤ limit = grind (arith, nat_tests, e) in (same, subst (λ (zs : List (List LevelSymbol)). sum_by length zs ≤ limit) same few)

counted_to : (s : System) (limit n : ℕ) (xs : List (List LevelSymbol)) → meaning_to s limit n ≡ Ok xs → Counted limit n xs
counted_to s limit zero xs h =
    let w = ok_within limit 0 (first_level s ∷ []) xs h in record { levels = ap (length {A = List LevelSymbol}) (sym w.0); symbols = w.1 }
counted_to s limit (suc n) xs h =
    let before = ok_parts (meaning_to s limit n) _ xs h in
    let here = ok_parts (next_level s n (last_level before.0)) _ xs before.2 in
    let w = ok_within limit (suc n) (before.0 ++ here.0 ∷ []) xs here.2 in
    let r : Counted limit n before.0 = counted_to s limit n before.0 before.1 in
    let long : length (before.0 ++ here.0 ∷ []) ≡ suc (suc n) = length_push before.0 here.0 ∙ ap (λ n. n + 1) r.levels ∙ omega arith in
    record { levels = ap (length {A = List LevelSymbol}) (sym w.0) ∙ long; symbols = w.1 }

pub counted : (s : System) (limit : ℕ) (xs : List (List LevelSymbol)) → meaning s limit ≡ Ok xs → Counted limit s.depth xs
counted s limit xs h = counted_to s limit s.depth xs h

level_short : (xs : List (List LevelSymbol)) (t : ℕ) → length (slice_index_or xs t []) ≤ sum_by length xs
level_short [] t = omega arith
level_short (x ∷ xs) zero = omega (arith, sum_by-cons (length {A = LevelSymbol}) x xs)
level_short (x ∷ xs) (suc t) = omega (arith, sum_by-cons (length {A = LevelSymbol}) x xs, level_short xs t)

-- 2. one of them

last_is : (xs : List (List LevelSymbol)) (n : ℕ) → length xs ≡ suc n → last_level xs ≡ slice_index_or xs n []
last_is [] n e = absurd (omega (arith, e))
last_is (x ∷ []) zero e = refl
last_is (x ∷ []) (suc n) e = absurd (omega (arith, e))
last_is (x ∷ y ∷ xs) zero e = absurd (omega (arith, e))
last_is (x ∷ y ∷ xs) (suc n) e = last_is (y ∷ xs) n (omega (arith, e))

numbered_is : (xs : List (List LevelSymbol)) (t : ℕ) → or_empty (slice_get xs t) ≡ slice_index_or xs t []
numbered_is [] t = refl
numbered_is (x ∷ xs) zero = refl
numbered_is (x ∷ xs) (suc t) = numbered_is xs t

there : (xs : List (List LevelSymbol)) (t : ℕ) → t < length xs → slice_get xs t ≡ Some (slice_index_or xs t [])
there [] t h = absurd (omega (arith, h))
there (x ∷ xs) zero h = refl
there (x ∷ xs) (suc t) h = there xs t (omega (arith, h))

pub level_is : (s : System) (limit : ℕ) (xs : List (List LevelSymbol)) (t : ℕ) → meaning s limit ≡ Ok xs → level_at (Some t) xs ≡ slice_index_or xs t []
level_is s limit xs t h = numbered_is xs t

pub last_level_is : (s : System) (limit : ℕ) (xs : List (List LevelSymbol)) → meaning s limit ≡ Ok xs → last_level xs ≡ slice_index_or xs s.depth []
last_level_is s limit xs h = last_is xs s.depth (counted s limit xs h).levels

-- 3. as a view tells it

balanced_seen : (a b : List ℕ) (e : Seen) (n : ℕ) (u v : List LevelSymbol) → ((n : ℕ) → level_balanced n u ≡ level_balanced n v) → level_balanced n (with_lineage a e ∷ u) ≡ level_balanced n (with_lineage b e ∷ v)
balanced_seen a b Push n u v h = h (suc n)
balanced_seen a b Pop zero u v h = refl
balanced_seen a b Pop (suc n) u v h = h n
balanced_seen a b (Module m) n u v h = h n

balanced_by : (f g : ℕ → List ℕ) (n : ℕ) (x : List Spotted) → level_balanced n (level_by f x) ≡ level_balanced n (level_by g x)
balanced_by f g n [] = refl
balanced_by f g n (a ∷ x) = balanced_seen (f a.tag) (g a.tag) a.seen n (level_by f x) (level_by g x) (λ n. balanced_by f g n x)

module _ (s : System) (limit : ℕ) (xs : List (List LevelSymbol)) (levels : List (List Spotted)) (h : meaning s limit ≡ Ok xs) (same : length levels ≡ length xs) (tags : HasOwnTags levels) (shows : ShowsLevels xs levels) where
  pub number_below : (t : ℕ) → t ≤ s.depth → t < length levels
  number_below t b = omega (arith, b, same, (counted s limit xs h).levels)

  -- one naming makes the lists the levels that are meant
  pub names : IsNamed xs levels
  names = is_named xs levels tags shows

  pub last_few : limit ≤ 1000000 → length (spots.spots_at levels s.depth) < 2 ^ 32
  last_few few =
      let long : length (spots.spots_at levels s.depth) ≡ length (slice_index_or xs s.depth []) =
      sym (length-map (spots.spots_at levels s.depth) (spots.named names.naming)) ∙ ap (length {A = LevelSymbol}) (names.level s.depth) in
      let bound : 1000000 < 2 ^ 32 = lit< tt in
      omega (arith, few, long, bound, level_short xs s.depth, (counted s limit xs h).symbols)

  pub last_balanced : WellSpelled s → level_balanced 0 (level_by (λ tag. []) (spots.spots_at levels s.depth)) ≡ true
  last_balanced w =
      let x = slice_index_or xs s.depth [] in
      let at : slice_get xs s.depth ≡ Some x = there xs s.depth (omega (arith, (counted s limit xs h).levels)) in
      balanced_by (λ tag. []) names.naming 0 (spots.spots_at levels s.depth)
      ∙ ap (level_balanced 0) (names.level s.depth)
      ∙ (grown s (has_balance s w) limit xs h s.depth x at).is_balanced

-- Places are all within the bound exactly where the least and the greatest of their coordinates are.
use Rattle.std.proofs.Common.{◌≡◌, ◌&&◌, ◌||◌, not, ℕ, ◌≤◌, ◌<◌, Bool, true, false, cond, nat_lt, Option, Some, None, List, [], ◌∷◌, ◌++◌, map, refl, ap, sym, ◌∙◌, arith, subst}
use Rattle.std.specs.Prelude.{ℤ, pos, negsuc, neg_ℤ, ◌≤ℤ◌, ◌↔◌, unsigned_abs, fold, Contains}
use Rattle.std.specs.List.{list_all}
use Rattle.std.specs.Int.{int_min, int_max}
use Rattle.std.specs.Option.{option_or}
use Rattle.std.proofs.lemmas.Bool.Decides.{nat_tests}
use Rattle.std.proofs.lemmas.Int.{ints, int_min_is, int_max_is}
use Rattle.lsys_syntax.specs.Limits.{greatest_coordinate}
use Rattle.lsys_syntax.specs.Strings.{balanced}
use Rattle.lsys_syntax.specs.Strings as S
use Rattle.lsys_spec.proofs.Tests.{both, and_true as all_true}
use Rattle.lsys_spec.specs.Systems.{Each}
use Rattle.lsys_spec.specs.Lattices.{Lattice, square, hexagonal, cubic, Vector, frames}
use Rattle.lsys_spec.specs.Pictures.{is_far, modules_to}
use Rattle.lsys_lattice.specs.Extents.{Extents, least, greatest, extents}
use Rattle.lsys_lattice.specs.Effects.{Stand, Walker, walker, walked, stepped, place_reached, place_from, reach, places_reached}
use Rattle.lsys_lattice.specs.Free.{first_far, goes_far}
use Rattle.lsys_lattice.proofs.Freely.{reached_near}
use Rattle.lsys_lattice.proofs.Moving.{told_anywhere, reached_from}
use Rattle.lsys_lattice.specs.Motions.{extents_or_none, motion, AreSeen}
use Rattle.lsys_lattice.specs.Far.{coordinates, stays_near, IsInPlane, modules_past}
use Rattle.lsys_lattice.proofs.Joining.{seen_there}
use Rattle.lsys_lattice.proofs.Planes.{all_reached_in_plane}

-- 1. numbers

abbrev small : ℕ → ℤ → Bool
small b x = not (nat_lt b (unsigned_abs x))

small_is : (b : ℕ) (x : ℤ) → small b x ≡ true → (neg_ℤ (pos b) ≤ℤ x) × (x ≤ℤ pos b)
small_is b (pos n) h = let e : n ≤ b = grind (arith, nat_tests) in (omega (arith, ints, e), omega (arith, ints, e))
small_is b (negsuc n) h = let e : n < b = grind (arith, nat_tests) in (omega (arith, ints, e), omega (arith, ints, e))

is_small : (b : ℕ) (x : ℤ) → neg_ℤ (pos b) ≤ℤ x → x ≤ℤ pos b → small b x ≡ true
is_small b (pos n) h k = let e : n ≤ b = omega (arith, ints, h, k) in grind (arith, nat_tests)
is_small b (negsuc n) h k = let e : n < b = omega (arith, ints, h, k) in grind (arith, nat_tests)

same_bool : (a b : Bool) → (a ≡ true → b ≡ true) → (b ≡ true → a ≡ true) → a ≡ b
same_bool true b f g = sym (f refl)
same_bool false true f g = g refl
same_bool false false f g = refl

one_more : (b : ℕ) (lo hi x : ℤ) → lo ≤ℤ hi → (small b (int_min lo x) && small b (int_max hi x)) ≡ ((small b lo && small b hi) && small b x)
one_more b lo hi x o =
    same_bool _ _
    (λ h.
    let low = small_is b (int_min lo x) (both (small b (int_min lo x)) _ h).0 in
    let high = small_is b (int_max hi x) (both (small b (int_min lo x)) _ h).1 in
    let l0 : neg_ℤ (pos b) ≤ℤ int_min lo x = low.0 in
    let h1 : int_max hi x ≤ℤ pos b = high.1 in
    let m = int_min_is lo x in
    let n = int_max_is hi x in
    all_true (small b lo && small b hi) (small b x)
    (all_true (small b lo) (small b hi)
    (is_small b lo (omega (arith, ints, m, n, l0, h1, o)) (omega (arith, ints, m, n, l0, h1, o)))
    (is_small b hi (omega (arith, ints, m, n, l0, h1, o)) (omega (arith, ints, m, n, l0, h1, o))))
    (is_small b x (omega (arith, ints, m, n, l0, h1, o)) (omega (arith, ints, m, n, l0, h1, o))))
    (λ h.
    let ends : (small b lo && small b hi) ≡ true = (both (small b lo && small b hi) _ h).0 in
    let low = small_is b lo (both (small b lo) _ ends).0 in
    let high = small_is b hi (both (small b lo) _ ends).1 in
    let mid = small_is b x (both (small b lo && small b hi) _ h).1 in
    let a : neg_ℤ (pos b) ≤ℤ lo = low.0 in
    let c : lo ≤ℤ pos b = low.1 in
    let d : neg_ℤ (pos b) ≤ℤ hi = high.0 in
    let e : hi ≤ℤ pos b = high.1 in
    let f : neg_ℤ (pos b) ≤ℤ x = mid.0 in
    let g : x ≤ℤ pos b = mid.1 in
    let m = int_min_is lo x in
    let n = int_max_is hi x in
    all_true (small b (int_min lo x)) (small b (int_max hi x))
    (is_small b (int_min lo x) (omega (arith, ints, m, a, f)) (omega (arith, ints, m, c, g)))
    (is_small b (int_max hi x) (omega (arith, ints, n, d, f)) (omega (arith, ints, n, e, g))))

and_assoc : (a b c : Bool) → ((a && b) && c) ≡ (a && (b && c))
and_assoc true b c = refl
and_assoc false b c = refl

range : (b : ℕ) (lo hi : ℤ) (xs : List ℤ) → lo ≤ℤ hi → (small b (fold int_min lo xs) && small b (fold int_max hi xs)) ≡ ((small b lo && small b hi) && list_all (small b) xs)
range b lo hi [] o = sym (and_true (small b lo && small b hi))
  where
    and_true : (a : Bool) → (a && true) ≡ a
    and_true true = refl
    and_true false = refl
range b lo hi (x ∷ xs) o =
    range b (int_min lo x) (int_max hi x) xs (omega (arith, ints, int_min_is lo x, int_max_is hi x, o))
    ∙ ap (λ a. a && list_all (small b) xs) (one_more b lo hi x o)
    ∙ and_assoc (small b lo && small b hi) (small b x) (list_all (small b) xs)

twice : (a c : Bool) → ((a && a) && c) ≡ (a && c)
twice true c = refl
twice false c = refl

all_small : (b : ℕ) (p : Vector → ℤ) (v : Vector) (vs : List Vector) → (small b (least p v vs) && small b (greatest p v vs)) ≡ list_all (small b) (map p (v ∷ vs))
all_small b p v vs = range b (p v) (p v) (map p vs) (omega (arith, ints)) ∙ twice (small b (p v)) (list_all (small b) (map p vs))

-- 2. places

abbrev limit : ℕ
limit = greatest_coordinate

not_or : (a b c : Bool) → not (a || (b || c)) ≡ (not a && (not b && not c))
not_or true b c = refl
not_or false true c = refl
not_or false false c = refl

side_by_side : (a b c d e f : Bool) → ((a && (b && c)) && (d && (e && f))) ≡ ((a && d) && ((b && e) && (c && f)))
side_by_side false b c d e f = refl
side_by_side true false c true e f = refl
side_by_side true false c false e f = refl
side_by_side true true false false e f = refl
side_by_side true true false true false f = refl
side_by_side true true false true true f = refl
side_by_side true true true d e f = refl

near : (v : Vector) → not (is_far v) ≡ (small limit v.x && (small limit v.y && small limit v.z))
near v = not_or (nat_lt limit (unsigned_abs v.x)) (nat_lt limit (unsigned_abs v.y)) (nat_lt limit (unsigned_abs v.z))

all_near : (vs : List Vector) → list_all (λ v. not (is_far v)) vs
    ≡ (list_all (small limit) (map (λ v. v.x) vs) && (list_all (small limit) (map (λ v. v.y) vs) && list_all (small limit) (map (λ v. v.z) vs)))
all_near [] = refl
all_near (v ∷ vs) =
    ap (λ a. a && list_all (λ v. not (is_far v)) vs) (near v)
    ∙ ap (λ a. (small limit v.x && (small limit v.y && small limit v.z)) && a) (all_near vs)
    ∙ side_by_side (small limit v.x) (small limit v.y) (small limit v.z)
    (list_all (small limit) (map (λ v. v.x) vs)) (list_all (small limit) (map (λ v. v.y) vs)) (list_all (small limit) (map (λ v. v.z) vs))

three : (a a' b b' c c' : Bool) → a ≡ a' → b ≡ b' → c ≡ c' → (a && (b && c)) ≡ (a' && (b' && c'))
three a a' b b' c c' e f g = cc

corners : (low high : Vector) (x y z : Bool) → (small limit low.x && small limit high.x) ≡ x → (small limit low.y && small limit high.y) ≡ y → (small limit low.z && small limit high.z) ≡ z
    → (not (is_far low) && not (is_far high)) ≡ (x && (y && z))
corners low high x y z e f g =
    ap (λ a. a && not (is_far high)) (near low)
    ∙ ap (λ a. (small limit low.x && (small limit low.y && small limit low.z)) && a) (near high)
    ∙ side_by_side (small limit low.x) (small limit low.y) (small limit low.z) (small limit high.x) (small limit high.y) (small limit high.z)
    ∙ three _ _ _ _ _ _ e f g

no_heights : (vs : List Vector) → Each (IsInPlane hexagonal) vs → list_all (small limit) (map (λ v. v.z) vs) ≡ true
no_heights [] h = refl
no_heights (v ∷ vs) h = ap (λ (z : ℤ). small limit z && list_all (small limit) (map (λ v. v.z) vs)) h.0 ∙ no_heights vs h.1

near_all : (l : Lattice) (vs : List Vector) → Each (IsInPlane l) vs → stays_near l (extents_or_none l vs) ≡ list_all (λ v. not (is_far v)) vs
near_all l [] h = refl
near_all square (v ∷ vs) h =
    corners (extents square v vs).low (extents square v vs).high _ _ _ (all_small limit (λ w. w.x) v vs) (all_small limit (λ w. w.y) v vs) (all_small limit (λ w. w.z) v vs) ∙ sym (all_near (v ∷ vs))
near_all hexagonal (v ∷ vs) h =
    corners (coordinates hexagonal (extents hexagonal v vs).low) (coordinates hexagonal (extents hexagonal v vs).high) _ _ _ (all_small limit (λ w. w.x) v vs) (all_small limit (λ w. w.y) v vs) (sym (no_heights (v ∷ vs) h)) ∙ sym (all_near (v ∷ vs))
near_all cubic (v ∷ vs) h =
    corners (extents cubic v vs).low (extents cubic v vs).high _ _ _ (all_small limit (λ w. w.x) v vs) (all_small limit (λ w. w.y) v vs) (all_small limit (λ w. w.z) v vs) ∙ sym (all_near (v ∷ vs))

-- 3. parts

pub none_far : (l : Lattice) (from : Stand) (below : List Stand) (n : ℕ) (xs : List (S.Symbol ℤ)) (seen : Option Extents) → Contains (frames l) from.frame → IsInPlane l from.place → balanced 0 xs ≡ true
    → AreSeen l from (motion l xs).reached seen → (first_far l n (walker from below) xs ≡ None) ↔ (stays_near l seen ≡ true)
none_far l from below n xs seen k p b h =
    let there : places_reached l xs (walker from []) ≡ map (place_from l from) (reach l xs) = told_anywhere place_reached reached_from l from [] xs k b in
    let also : places_reached l xs (walker from below) ≡ map (place_from l from) (reach l xs) = told_anywhere place_reached reached_from l from below xs k b in
    let same : stays_near l seen ≡ list_all (λ v. not (is_far v)) (places_reached l xs (walker from below)) =
    ap (stays_near l) (seen_there l from (reach l xs) seen h ∙ ap (extents_or_none l) (sym there))
    ∙ near_all l (places_reached l xs (walker from [])) (all_reached_in_plane l xs from [] (k, p) tt)
    ∙ ap (list_all (λ v. not (is_far v))) (there ∙ sym also) in
    subst (λ (a : Bool). (first_far l n (walker from below) xs ≡ None) ↔ (a ≡ true)) (sym same) (reached_near l n (walker from below) xs)

or_first : (b : Bool) (m : ℕ) (x y z : Option ℕ) → x ≡ option_or y z → cond b (Some m) x ≡ option_or (cond b (Some m) y) z
or_first true m x y z e = refl
or_first false m x y z e = e

pub first_part : (l : Lattice) (w : Walker) (n : ℕ) (xs ys : List (S.Symbol ℤ)) → first_far l n w (xs ++ ys) ≡ option_or (first_far l n w xs) (first_far l (modules_past n xs) (walked l xs w) ys)
first_part l w n [] ys = refl
first_part l w n (x ∷ xs) ys = or_first (goes_far l x w) (modules_to n x) _ _ _ (first_part l (stepped l x w) (modules_to n x) xs ys)

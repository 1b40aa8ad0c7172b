-- What is seen from a place within reach, and is within reach, is not far away.
use Rattle.std.proofs.Common.{◌≡◌, ◌≤◌, ◌<◌, ◌+◌, ◌^◌, ◌&&◌, ℕ, zero, suc, Bool, true, refl, ap, sym, ◌∙◌, nat_lt, subst, arith}
use Rattle.std.specs.Prelude.{ℤ, pos, negsuc, ◌+ℤ◌, ◌*ℤ◌, neg_ℤ, unsigned_abs, Contains}
use Rattle.std.specs.List.{list_any, list_all}
use Rattle.std.proofs.lemmas.Int.{ints}
use Rattle.std.proofs.lemmas.Bool.Decides.{nat_tests}
use Rattle.std.proofs.lemmas.List.Folds.{Any-from_list_any}
use Rattle.lsys_syntax.specs.Limits.{greatest_coordinate}
use Rattle.lsys_spec.specs.Lattices.{Lattice, square, hexagonal, cubic, Vector, Frame, frames, first_frame, IsWithin}
use Rattle.lsys_spec.proofs.Frames.{frame_eq, frame_decides}
use Rattle.lsys_spec.proofs.Tests.{both}
use Rattle.lsys_lattice.specs.Rotations.{carried, frame_within}
use Rattle.lsys_lattice.specs.Effects.{Stand, stand_from}
use Rattle.lsys_lattice.proofs.Carrying.{carried-start, carried-followed}
use Rattle.lsys_lattice.proofs.Ring.{times_neg}
use Rattle.lsys_lattice.proofs.Rows.{of_frame}
use Rattle.lsys_motion.specs.Pieces.{IsNear}
use Rattle.lsys_motion.specs.Keepers.{HasSmallPlace}

-- 1. a frame makes no coordinate more than three times as large

abbrev is_unit : ℤ → Bool
is_unit z = nat_lt (unsigned_abs z) 2

abbrev unit_vector : Vector → Bool
unit_vector v = is_unit v.x && (is_unit v.y && is_unit v.z)

abbrev unit_frame : Frame → Bool
unit_frame f = unit_vector f.heading && (unit_vector f.left && unit_vector f.up)

minus_one : (n : ℤ) → n *ℤ negsuc 0 ≡ neg_ℤ n
minus_one n = let e : negsuc 0 ≡ neg_ℤ (pos 1) = refl in rw (e, times_neg n (pos 1)) (omega (arith, ints))

times_unit : (n e : ℤ) → is_unit e ≡ true → unsigned_abs (n *ℤ e) ≤ unsigned_abs n
times_unit n (pos zero) h = omega (arith, ints)
times_unit n (pos (suc zero)) h = omega (arith, ints)
times_unit n (pos (suc (suc m))) h = let k : suc (suc m) < 2 = grind (arith, nat_tests) in absurd (omega (arith, k))
times_unit n (negsuc zero) h = rw (minus_one n) (omega (arith, ints))
times_unit n (negsuc (suc m)) h = let k : suc (suc m) < 2 = grind (arith, nat_tests) in absurd (omega (arith, k))

sum_small : (a b c n : ℤ) (p q r : ℕ) → unsigned_abs a ≤ p → unsigned_abs b ≤ q → unsigned_abs c ≤ r → unsigned_abs (a +ℤ b +ℤ c) ≤ p + q + r
sum_small a b c n p q r h k m = omega (arith, ints)

at_small : (a b c h k n : ℤ) (m : ℕ) → unsigned_abs a ≤ m → unsigned_abs b ≤ m → unsigned_abs c ≤ m → is_unit h ≡ true → is_unit k ≡ true → is_unit n ≡ true
    → unsigned_abs (a *ℤ h +ℤ b *ℤ k +ℤ c *ℤ n) ≤ m + m + m
at_small a b c h k n m p q r u v w =
    let x = times_unit a h u in
    let y = times_unit b k v in
    let z = times_unit c n w in
    let x' : unsigned_abs (a *ℤ h) ≤ m = omega (arith, x, p) in
    let y' : unsigned_abs (b *ℤ k) ≤ m = omega (arith, y, q) in
    let z' : unsigned_abs (c *ℤ n) ≤ m = omega (arith, z, r) in
    sum_small (a *ℤ h) (b *ℤ k) (c *ℤ n) (pos 0) m m m x' y' z'

neg_small : (z : ℤ) (m : ℕ) → unsigned_abs z ≤ m → unsigned_abs (neg_ℤ z) ≤ m
neg_small z m h = omega (arith, ints)

record Units (h k n : ℤ) : Type 0 where
  heading : is_unit h ≡ true
  left : is_unit k ≡ true
  up : is_unit n ≡ true

record AreUnits (f : Frame) : Type 0 where
  x : Units f.heading.x f.left.x f.up.x
  y : Units f.heading.y f.left.y f.up.y
  z : Units f.heading.z f.left.z f.up.z

are_units : (f : Frame) → unit_frame f ≡ true → AreUnits f
are_units f h =
    let a = both (unit_vector f.heading) _ h in
    let b = both (unit_vector f.left) _ a.1 in
    let hx = both (is_unit f.heading.x) _ a.0 in
    let hy = both (is_unit f.heading.y) _ hx.1 in
    let lx = both (is_unit f.left.x) _ b.0 in
    let ly = both (is_unit f.left.y) _ lx.1 in
    let ux = both (is_unit f.up.x) _ b.1 in
    let uy = both (is_unit f.up.y) _ ux.1 in
    record {
      x = record { heading = hx.0; left = lx.0; up = ux.0 };
      y = record { heading = hy.0; left = ly.0; up = uy.0 };
      z = record { heading = hy.1; left = ly.1; up = uy.1 };
    }

row : (a b c h k n : ℤ) (m : ℕ) → unsigned_abs a ≤ m → unsigned_abs b ≤ m → unsigned_abs c ≤ m → Units h k n → unsigned_abs (a *ℤ h +ℤ b *ℤ k +ℤ c *ℤ n) ≤ m + m + m
row a b c h k n m p q r u = at_small a b c h k n m p q r u.heading u.left u.up

carried_small : (l : Lattice) (f : Frame) (v : Vector) (m : ℕ) → AreUnits f → IsWithin m v → IsWithin (m + m + m) (carried l f v)
carried_small square f v m u h =
    let n = neg_small v.x m h.x in
    record { x = row v.y (neg_ℤ v.x) v.z _ _ _ m h.y n h.z u.x; y = row v.y (neg_ℤ v.x) v.z _ _ _ m h.y n h.z u.y; z = row v.y (neg_ℤ v.x) v.z _ _ _ m h.y n h.z u.z }
carried_small hexagonal f v m u h =
    record { x = row v.x v.y v.z _ _ _ m h.x h.y h.z u.x; y = row v.x v.y v.z _ _ _ m h.x h.y h.z u.y; z = row v.x v.y v.z _ _ _ m h.x h.y h.z u.z }
carried_small cubic f v m u h =
    let n = neg_small v.x m h.x in
    record { x = row v.y (neg_ℤ v.x) v.z _ _ _ m h.y n h.z u.x; y = row v.y (neg_ℤ v.x) v.z _ _ _ m h.y n h.z u.y; z = row v.y (neg_ℤ v.x) v.z _ _ _ m h.y n h.z u.z }

-- 2. each frame is turned back by some frame

abbrev turns_back : Lattice → Frame → Frame → Bool
turns_back l f g = unit_frame g && frame_eq (frame_within l g f) (first_frame l)

all_back : (l : Lattice) → list_all (λ f. list_any (turns_back l f) (frames l)) (frames l) ≡ true
all_back square = refl
all_back hexagonal = refl
all_back cubic = refl

record IsTurnedBack (l : Lattice) (f : Frame) : Type 0 where
  by : Frame
  units : AreUnits by
  back : frame_within l by f ≡ first_frame l

turned_back : (l : Lattice) (f : Frame) → Contains (frames l) f → IsTurnedBack l f
turned_back l f k =
    let found = Any-from_list_any (turns_back l f) (frames l) (of_frame (λ f. list_any (turns_back l f) (frames l)) (frames l) f (all_back l) k) in
    let told = both (unit_frame found.1) _ found.4 in
    record { by = found.1; units = are_units found.1 told.0; back = (frame_decides (frame_within l found.1 f) (first_frame l)).0 told.1 }

carried_back : (l : Lattice) (f : Frame) (v : Vector) (m : ℕ) → Contains (frames l) f → IsWithin m (carried l f v) → IsWithin (m + m + m) v
carried_back l f v m k h =
    let b = turned_back l f k in
    let e : carried l b.by (carried l f v) ≡ v = sym (carried-followed l b.by f v) ∙ ap (λ g. carried l g v) b.back ∙ carried-start l v in
    subst (λ w. IsWithin (m + m + m) w) e (carried_small l b.by (carried l f v) m b.units h)

-- 3. from one place within reach to another

difference : (a b : ℤ) → unsigned_abs a ≤ greatest_coordinate → unsigned_abs (a +ℤ b) ≤ greatest_coordinate → unsigned_abs b ≤ 2000000000
difference a b h k = omega (arith, ints)

at_most : (v : Vector) → IsWithin (2000000000 + 2000000000 + 2000000000) v → IsWithin (2 ^ 40) v
at_most v h = let x = h.x in let y = h.y in let z = h.z in record { x = omega (arith, x); y = omega (arith, y); z = omega (arith, z) }

pub small_there : (l : Lattice) (from h : Stand) → Contains (frames l) from.frame → IsNear from → IsNear (stand_from l from h) → HasSmallPlace h
small_there l from h k a b =
    let c = carried l from.frame h.place in
    at_most h.place (carried_back l from.frame h.place 2000000000 k (record {
      x = difference from.place.x c.x a.x b.x;
      y = difference from.place.y c.y a.y b.y;
      z = difference from.place.z c.z a.z b.z;
    }))

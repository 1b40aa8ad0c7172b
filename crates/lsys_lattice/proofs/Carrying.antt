-- The laws of carrying and following.
use Rattle.std.proofs.Common.{◌≡◌, refl, ap, sym, ◌∙◌, arith}
use Rattle.std.specs.Prelude.{ℤ, pos, negsuc, ◌+ℤ◌, ◌*ℤ◌, neg_ℤ}
use Rattle.std.proofs.lemmas.Int.{ints}
use Rattle.lsys_spec.specs.Lattices.{Lattice, square, hexagonal, cubic, Vector, opposite, Frame, first_frame}
use Rattle.lsys_spec.proofs.Turns.{same_vector, same_frame}
use Rattle.lsys_lattice.specs.Rotations.{plus, scaled, combined, carried, frame_within}
use Rattle.lsys_lattice.proofs.Ring.{times_sum, sum_times, neg_times, times_neg, times_times}

-- 1. sums, multiples and opposites of what is combined

-- one coordinate
abbrev at : ℤ → ℤ → ℤ → ℤ → ℤ → ℤ → ℤ
at a l u h k n = a *ℤ h +ℤ l *ℤ k +ℤ u *ℤ n

at-plus : (a b l m u w h k n : ℤ) → at (a +ℤ b) (l +ℤ m) (u +ℤ w) h k n ≡ at a l u h k n +ℤ at b m w h k n
at-plus a b l m u w h k n = rw (sum_times a b h, sum_times l m k, sum_times u w n) (omega (arith, ints))

at-scaled : (c a l u h k n : ℤ) → at (c *ℤ a) (c *ℤ l) (c *ℤ u) h k n ≡ c *ℤ at a l u h k n
at-scaled c a l u h k n =
    rw (times_times c a h, times_times c l k, times_times c u n)
    (sym (times_sum c (a *ℤ h +ℤ l *ℤ k) (u *ℤ n) ∙ ap (λ (x : ℤ). x +ℤ c *ℤ (u *ℤ n)) (times_sum c (a *ℤ h) (l *ℤ k))))

at-neg : (a l u h k n : ℤ) → at (neg_ℤ a) (neg_ℤ l) (neg_ℤ u) h k n ≡ neg_ℤ (at a l u h k n)
at-neg a l u h k n = rw (neg_times a h, neg_times l k, neg_times u n) (omega (arith, ints))

pub combined-plus : (f : Frame) (a b l m u w : ℤ) → combined f (a +ℤ b) (l +ℤ m) (u +ℤ w) ≡ plus (combined f a l u) (combined f b m w)
combined-plus f a b l m u w =
    same_vector _ _ _ _ _ _
    (at-plus a b l m u w f.heading.x f.left.x f.up.x) (at-plus a b l m u w f.heading.y f.left.y f.up.y) (at-plus a b l m u w f.heading.z f.left.z f.up.z)

pub combined-scaled : (f : Frame) (c a l u : ℤ) → combined f (c *ℤ a) (c *ℤ l) (c *ℤ u) ≡ scaled c (combined f a l u)
combined-scaled f c a l u =
    same_vector _ _ _ _ _ _
    (at-scaled c a l u f.heading.x f.left.x f.up.x) (at-scaled c a l u f.heading.y f.left.y f.up.y) (at-scaled c a l u f.heading.z f.left.z f.up.z)

pub combined-opposite : (f : Frame) (a l u : ℤ) → combined f (neg_ℤ a) (neg_ℤ l) (neg_ℤ u) ≡ opposite (combined f a l u)
combined-opposite f a l u =
    same_vector _ _ _ _ _ _
    (at-neg a l u f.heading.x f.left.x f.up.x) (at-neg a l u f.heading.y f.left.y f.up.y) (at-neg a l u f.heading.z f.left.z f.up.z)

-- 2. the same of what is carried

neg-plus : (a b : ℤ) → neg_ℤ (a +ℤ b) ≡ neg_ℤ a +ℤ neg_ℤ b
neg-plus a b = omega (arith, ints)

pub carried-plus : (l : Lattice) (f : Frame) (v w : Vector) → carried l f (plus v w) ≡ plus (carried l f v) (carried l f w)
carried-plus square f v w = ap (λ (x : ℤ). combined f (v.y +ℤ w.y) x (v.z +ℤ w.z)) (neg-plus v.x w.x) ∙ combined-plus f v.y w.y (neg_ℤ v.x) (neg_ℤ w.x) v.z w.z
carried-plus hexagonal f v w = combined-plus f v.x w.x v.y w.y v.z w.z
carried-plus cubic f v w = ap (λ (x : ℤ). combined f (v.y +ℤ w.y) x (v.z +ℤ w.z)) (neg-plus v.x w.x) ∙ combined-plus f v.y w.y (neg_ℤ v.x) (neg_ℤ w.x) v.z w.z

pub carried-scaled : (l : Lattice) (f : Frame) (n : ℤ) (v : Vector) → carried l f (scaled n v) ≡ scaled n (carried l f v)
carried-scaled square f n v = ap (λ (x : ℤ). combined f (n *ℤ v.y) x (n *ℤ v.z)) (sym (times_neg n v.x)) ∙ combined-scaled f n v.y (neg_ℤ v.x) v.z
carried-scaled hexagonal f n v = combined-scaled f n v.x v.y v.z
carried-scaled cubic f n v = ap (λ (x : ℤ). combined f (n *ℤ v.y) x (n *ℤ v.z)) (sym (times_neg n v.x)) ∙ combined-scaled f n v.y (neg_ℤ v.x) v.z

pub carried-opposite : (l : Lattice) (f : Frame) (v : Vector) → carried l f (opposite v) ≡ opposite (carried l f v)
carried-opposite square f v = combined-opposite f v.y (neg_ℤ v.x) v.z
carried-opposite hexagonal f v = combined-opposite f v.x v.y v.z
carried-opposite cubic f v = combined-opposite f v.y (neg_ℤ v.x) v.z

-- 3. the first frame

ahead_alone : (h k n : ℤ) → at (pos 1) (pos 0) (pos 0) h k n ≡ h
ahead_alone h k n = omega (arith, ints)

left_alone : (h k n : ℤ) → at (pos 0) (pos 1) (pos 0) h k n ≡ k
left_alone h k n = omega (arith, ints)

up_alone : (h k n : ℤ) → at (pos 0) (pos 0) (pos 1) h k n ≡ n
up_alone h k n = omega (arith, ints)

combined-ahead : (f : Frame) → combined f (pos 1) (pos 0) (pos 0) ≡ f.heading
combined-ahead f = same_vector _ _ _ _ _ _ (ahead_alone f.heading.x f.left.x f.up.x) (ahead_alone f.heading.y f.left.y f.up.y) (ahead_alone f.heading.z f.left.z f.up.z)

combined-left : (f : Frame) → combined f (pos 0) (pos 1) (pos 0) ≡ f.left
combined-left f = same_vector _ _ _ _ _ _ (left_alone f.heading.x f.left.x f.up.x) (left_alone f.heading.y f.left.y f.up.y) (left_alone f.heading.z f.left.z f.up.z)

combined-up : (f : Frame) → combined f (pos 0) (pos 0) (pos 1) ≡ f.up
combined-up f = same_vector _ _ _ _ _ _ (up_alone f.heading.x f.left.x f.up.x) (up_alone f.heading.y f.left.y f.up.y) (up_alone f.heading.z f.left.z f.up.z)

pub carried-heading : (l : Lattice) (f : Frame) → carried l f (first_frame l).heading ≡ f.heading
carried-heading square f = combined-ahead f
carried-heading hexagonal f = combined-ahead f
carried-heading cubic f = combined-ahead f

carried-left : (l : Lattice) (f : Frame) → carried l f (first_frame l).left ≡ f.left
carried-left square f = combined-left f
carried-left hexagonal f = combined-left f
carried-left cubic f = combined-left f

carried-up : (l : Lattice) (f : Frame) → carried l f (first_frame l).up ≡ f.up
carried-up square f = combined-up f
carried-up hexagonal f = combined-up f
carried-up cubic f = combined-up f

pub followed-start : (l : Lattice) (f : Frame) → frame_within l f (first_frame l) ≡ f
followed-start l f = same_frame _ _ _ _ _ _ (carried-heading l f) (carried-left l f) (carried-up l f)

first_x : (x y z : ℤ) → at y (neg_ℤ x) z (pos 0) (negsuc 0) (pos 0) ≡ x
first_x x y z = let e : negsuc 0 ≡ neg_ℤ (pos 1) = refl in rw (e, times_neg (neg_ℤ x) (pos 1)) (omega (arith, ints))

first_y : (x y z : ℤ) → at y (neg_ℤ x) z (pos 1) (pos 0) (pos 0) ≡ y
first_y x y z = omega (arith, ints)

first_z : (x y z : ℤ) → at y (neg_ℤ x) z (pos 0) (pos 0) (pos 1) ≡ z
first_z x y z = omega (arith, ints)

pub carried-start : (l : Lattice) (v : Vector) → carried l (first_frame l) v ≡ v
carried-start square v = same_vector _ _ _ _ _ _ (first_x v.x v.y v.z) (first_y v.x v.y v.z) (first_z v.x v.y v.z)
carried-start hexagonal v = same_vector _ _ _ _ _ _ (ahead_first v.x v.y v.z) (left_first v.x v.y v.z) (up_first v.x v.y v.z)
  where
    ahead_first : (x y z : ℤ) → at x y z (pos 1) (pos 0) (pos 0) ≡ x
    ahead_first x y z = omega (arith, ints)

    left_first : (x y z : ℤ) → at x y z (pos 0) (pos 1) (pos 0) ≡ y
    left_first x y z = omega (arith, ints)

    up_first : (x y z : ℤ) → at x y z (pos 0) (pos 0) (pos 1) ≡ z
    up_first x y z = omega (arith, ints)
carried-start cubic v = same_vector _ _ _ _ _ _ (first_x v.x v.y v.z) (first_y v.x v.y v.z) (first_z v.x v.y v.z)

-- 4. one after the other

carried-combined : (l : Lattice) (f g : Frame) (a b c : ℤ) → carried l f (combined g a b c) ≡ combined (frame_within l f g) a b c
carried-combined l f g a b c =
    carried-plus l f (plus (scaled a g.heading) (scaled b g.left)) (scaled c g.up)
    ∙ ap (λ (v : Vector). plus v (carried l f (scaled c g.up))) (carried-plus l f (scaled a g.heading) (scaled b g.left))
    ∙ ap (λ (v : Vector). plus (plus v (carried l f (scaled b g.left))) (carried l f (scaled c g.up))) (carried-scaled l f a g.heading)
    ∙ ap (λ (v : Vector). plus (plus (scaled a (carried l f g.heading)) v) (carried l f (scaled c g.up))) (carried-scaled l f b g.left)
    ∙ ap (λ (v : Vector). plus (plus (scaled a (carried l f g.heading)) (scaled b (carried l f g.left))) v) (carried-scaled l f c g.up)

pub carried-followed : (l : Lattice) (f g : Frame) (v : Vector) → carried l (frame_within l f g) v ≡ carried l f (carried l g v)
carried-followed square f g v = sym (carried-combined square f g v.y (neg_ℤ v.x) v.z)
carried-followed hexagonal f g v = sym (carried-combined hexagonal f g v.x v.y v.z)
carried-followed cubic f g v = sym (carried-combined cubic f g v.y (neg_ℤ v.x) v.z)

pub followed-followed : (l : Lattice) (f g h : Frame) → frame_within l (frame_within l f g) h ≡ frame_within l f (frame_within l g h)
followed-followed l f g h = same_frame _ _ _ _ _ _ (carried-followed l f g h.heading) (carried-followed l f g h.left) (carried-followed l f g h.up)

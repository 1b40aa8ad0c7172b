-- A turn of what follows is what follows the turn; and no frame is left by following.
use Rattle.std.proofs.Common.{◌≡◌, ◌&&◌, Bool, true, List, refl, ap, sym, ◌∙◌, subst, arith}
use Rattle.std.specs.Prelude.{ℤ, pos, ◌+ℤ◌, ◌*ℤ◌, neg_ℤ, Contains}
use Rattle.std.specs.List.{list_all}
use Rattle.std.specs.Ordering.{int_eq}
use Rattle.std.proofs.lemmas.Int.{ints}
use Rattle.std.proofs.lemmas.Bool.Decides.{Decides-int_eq}
use Rattle.std.proofs.lemmas.List.Sums.{AllPass-from_list_all}
use Rattle.std.proofs.Math.IntN.{neg_ℤ-neg_ℤ}
use Rattle.lsys_spec.specs.Lattices.{Lattice, square, hexagonal, cubic, Vector, vector, Frame, frame, frames, Turn, turn_left, turn_right, pitch_down, pitch_up, roll_left, roll_right, turn_round, quarter_left, quarter_right, sixth_left, sixth_right, all_turned, turned}
use Rattle.lsys_spec.proofs.Turns.{same_vector, same_frame}
use Rattle.lsys_spec.proofs.Frames.{vector_eq, vector_decides, is_among, among}
use Rattle.lsys_spec.proofs.Tests.{both}
use Rattle.lsys_lattice.specs.Rotations.{carried, frame_within}
use Rattle.lsys_lattice.proofs.Ring.{times_sum, sum_times, neg_times, times_neg}
use Rattle.lsys_lattice.proofs.Carrying.{carried-opposite}

tells : (test : Frame → Bool) (fs : List Frame) (f : Frame) → list_all test fs ≡ true → Contains fs f → test f ≡ true
tells test fs f all found = subst (λ g. test g ≡ true) found.2 (AllPass-from_list_all test fs all found.0 f found.1)

-- 1. the frames of the flat lattices, by the two coordinates of the heading

abbrev is_flat : (Vector → Vector) → Frame → Bool
is_flat turn f = vector_eq f.left (turn f.heading) && (int_eq f.heading.z (pos 0) && vector_eq f.up (vector (pos 0) (pos 0) (pos 1)))

abbrev flat : (Vector → Vector) → ℤ → ℤ → Frame
flat turn p q = frame (vector p q (pos 0)) (turn (vector p q (pos 0))) (vector (pos 0) (pos 0) (pos 1))

flat_is : (turn : Vector → Vector) (f : Frame) → is_flat turn f ≡ true → flat turn f.heading.x f.heading.y ≡ f
flat_is turn f h =
    let a = both (vector_eq f.left (turn f.heading)) _ h in
    let b = both (int_eq f.heading.z (pos 0)) _ a.1 in
    let l = (vector_decides f.left (turn f.heading)).0 a.0 in
    let z = (Decides-int_eq f.heading.z (pos 0)).0 b.0 in
    let u = (vector_decides f.up (vector (pos 0) (pos 0) (pos 1))).0 b.1 in
    let head : vector f.heading.x f.heading.y (pos 0) ≡ f.heading = same_vector _ _ _ _ _ _ refl refl (sym z) in
    same_frame _ _ _ _ _ _ head (ap turn head ∙ sym l) (sym u)

square_flat : list_all (is_flat quarter_left) (frames square) ≡ true
square_flat = refl

hexagonal_flat : list_all (is_flat sixth_left) (frames hexagonal) ≡ true
hexagonal_flat = refl

-- 2. a turn of what is carried

square_left-at : (p q : ℤ) (v : Vector) → quarter_left (carried square (flat quarter_left p q) v) ≡ carried square (flat quarter_left p q) (quarter_left v)
square_left-at p q v = same_vector _ _ _ _ _ _ (cx v.x v.y v.z) (cy v.x v.y v.z) (cz v.x v.y v.z)
  where
    cx : (x y z : ℤ) → neg_ℤ (y *ℤ q +ℤ neg_ℤ x *ℤ p +ℤ z *ℤ pos 0) ≡ x *ℤ p +ℤ neg_ℤ (neg_ℤ y) *ℤ neg_ℤ q +ℤ z *ℤ pos 0
    cx x y z = rw (neg_ℤ-neg_ℤ y, neg_times x p, times_neg y q) (omega (arith, ints))

    cy : (x y z : ℤ) → y *ℤ p +ℤ neg_ℤ x *ℤ neg_ℤ q +ℤ z *ℤ pos 0 ≡ x *ℤ q +ℤ neg_ℤ (neg_ℤ y) *ℤ p +ℤ z *ℤ pos 0
    cy x y z = rw (neg_ℤ-neg_ℤ y, neg_times x (neg_ℤ q), times_neg x q) (omega (arith, ints))

    cz : (x y z : ℤ) → y *ℤ pos 0 +ℤ neg_ℤ x *ℤ pos 0 +ℤ z *ℤ pos 1 ≡ x *ℤ pos 0 +ℤ neg_ℤ (neg_ℤ y) *ℤ pos 0 +ℤ z *ℤ pos 1
    cz x y z = omega (arith, ints)

hexagonal_left-at : (p q : ℤ) (v : Vector) → sixth_left (carried hexagonal (flat sixth_left p q) v) ≡ carried hexagonal (flat sixth_left p q) (sixth_left v)
hexagonal_left-at p q v = same_vector _ _ _ _ _ _ (hx v.x v.y v.z) (hy v.x v.y v.z) (hz v.x v.y v.z)
  where
    hx : (x y z : ℤ) → neg_ℤ (x *ℤ q +ℤ y *ℤ (p +ℤ q) +ℤ z *ℤ pos 0) ≡ neg_ℤ y *ℤ p +ℤ (x +ℤ y) *ℤ neg_ℤ q +ℤ z *ℤ pos 0
    hx x y z = rw (times_sum y p q, neg_times y p, times_neg (x +ℤ y) q, sum_times x y q) (omega (arith, ints))

    hy : (x y z : ℤ) → (x *ℤ p +ℤ y *ℤ neg_ℤ q +ℤ z *ℤ pos 0) +ℤ (x *ℤ q +ℤ y *ℤ (p +ℤ q) +ℤ z *ℤ pos 0) ≡ neg_ℤ y *ℤ q +ℤ (x +ℤ y) *ℤ (p +ℤ q) +ℤ z *ℤ pos 0
    hy x y z = rw (times_neg y q, neg_times y q, sum_times x y (p +ℤ q), times_sum x p q, times_sum y p q) (omega (arith, ints))

    hz : (x y z : ℤ) → x *ℤ pos 0 +ℤ y *ℤ pos 0 +ℤ z *ℤ pos 1 ≡ neg_ℤ y *ℤ pos 0 +ℤ (x +ℤ y) *ℤ pos 0 +ℤ z *ℤ pos 1
    hz x y z = omega (arith, ints)

square_left : (f : Frame) → Contains (frames square) f → (v : Vector) → quarter_left (carried square f v) ≡ carried square f (quarter_left v)
square_left f h v =
    subst (λ (g : Frame). quarter_left (carried square g v) ≡ carried square g (quarter_left v)) (flat_is quarter_left f (tells (is_flat quarter_left) (frames square) f square_flat h))
    (square_left-at f.heading.x f.heading.y v)

hexagonal_left : (f : Frame) → Contains (frames hexagonal) f → (v : Vector) → sixth_left (carried hexagonal f v) ≡ carried hexagonal f (sixth_left v)
hexagonal_left f h v =
    subst (λ (g : Frame). sixth_left (carried hexagonal g v) ≡ carried hexagonal g (sixth_left v)) (flat_is sixth_left f (tells (is_flat sixth_left) (frames hexagonal) f hexagonal_flat h))
    (hexagonal_left-at f.heading.x f.heading.y v)

-- a turn and one back
square_back : (v : Vector) → quarter_right (quarter_left v) ≡ v
square_back v = same_vector _ _ _ _ _ _ refl (neg_ℤ-neg_ℤ v.y) refl

square_forth : (v : Vector) → quarter_left (quarter_right v) ≡ v
square_forth v = same_vector _ _ _ _ _ _ (neg_ℤ-neg_ℤ v.x) refl refl

hexagonal_back : (v : Vector) → sixth_right (sixth_left v) ≡ v
hexagonal_back v = same_vector _ _ _ _ _ _ (omega (arith, ints)) (omega (arith, ints)) refl

hexagonal_forth : (v : Vector) → sixth_left (sixth_right v) ≡ v
hexagonal_forth v = same_vector _ _ _ _ _ _ (omega (arith, ints)) (omega (arith, ints)) refl

-- what the turn does, so does the turn back
turned_back : (left right carry : Vector → Vector) → ((v : Vector) → right (left v) ≡ v) → ((v : Vector) → left (right v) ≡ v)
    → ((v : Vector) → left (carry v) ≡ carry (left v)) → (v : Vector) → right (carry v) ≡ carry (right v)
turned_back left right carry b f h v =
    ap (λ (w : Vector). right (carry w)) (sym (f v)) ∙ ap right (sym (h (right v))) ∙ b (carry (right v))

-- 3. the law of turns

turned_each : (turn carry : Vector → Vector) → ((v : Vector) → turn (carry v) ≡ carry (turn v)) → (g : Frame)
    → all_turned turn (frame (carry g.heading) (carry g.left) (carry g.up)) ≡ frame (carry (turn g.heading)) (carry (turn g.left)) (carry (turn g.up))
turned_each turn carry h g = same_frame _ _ _ _ _ _ (h g.heading) (h g.left) (h g.up)

pub turned-followed : (l : Lattice) (k : Turn) (f g : Frame) → Contains (frames l) f → turned l k (frame_within l f g) ≡ frame_within l f (turned l k g)
turned-followed square turn_left f g h = turned_each quarter_left (carried square f) (square_left f h) g
turned-followed square turn_right f g h = turned_each quarter_right (carried square f) (turned_back quarter_left quarter_right (carried square f) square_back square_forth (square_left f h)) g
turned-followed square turn_round f g h =
    turned_each (λ v. quarter_left (quarter_left v)) (carried square f) (λ v. ap quarter_left (square_left f h v) ∙ square_left f h (quarter_left v)) g
turned-followed square pitch_down f g h = refl
turned-followed square pitch_up f g h = refl
turned-followed square roll_left f g h = refl
turned-followed square roll_right f g h = refl
turned-followed hexagonal turn_left f g h = turned_each sixth_left (carried hexagonal f) (hexagonal_left f h) g
turned-followed hexagonal turn_right f g h = turned_each sixth_right (carried hexagonal f) (turned_back sixth_left sixth_right (carried hexagonal f) hexagonal_back hexagonal_forth (hexagonal_left f h)) g
turned-followed hexagonal turn_round f g h =
    turned_each (λ v. sixth_left (sixth_left (sixth_left v))) (carried hexagonal f)
    (λ v. ap (λ (w : Vector). sixth_left (sixth_left w)) (hexagonal_left f h v) ∙ ap sixth_left (hexagonal_left f h (sixth_left v)) ∙ hexagonal_left f h (sixth_left (sixth_left v))) g
turned-followed hexagonal pitch_down f g h = refl
turned-followed hexagonal pitch_up f g h = refl
turned-followed hexagonal roll_left f g h = refl
turned-followed hexagonal roll_right f g h = refl
turned-followed cubic turn_left f g h = same_frame _ _ _ _ _ _ refl (sym (carried-opposite cubic f g.heading)) refl
turned-followed cubic turn_right f g h = same_frame _ _ _ _ _ _ (sym (carried-opposite cubic f g.left)) refl refl
turned-followed cubic pitch_down f g h = same_frame _ _ _ _ _ _ (sym (carried-opposite cubic f g.up)) refl refl
turned-followed cubic pitch_up f g h = same_frame _ _ _ _ _ _ refl refl (sym (carried-opposite cubic f g.heading))
turned-followed cubic roll_left f g h = same_frame _ _ _ _ _ _ refl (sym (carried-opposite cubic f g.up)) refl
turned-followed cubic roll_right f g h = same_frame _ _ _ _ _ _ refl refl (sym (carried-opposite cubic f g.left))
turned-followed cubic turn_round f g h = same_frame _ _ _ _ _ _ (sym (carried-opposite cubic f g.heading)) (sym (carried-opposite cubic f g.left)) refl

-- 4. what follows a frame in a frame is a frame

all_followed : (l : Lattice) → list_all (λ f. list_all (λ g. is_among (frames l) (frame_within l f g)) (frames l)) (frames l) ≡ true
all_followed square = refl
all_followed hexagonal = refl
all_followed cubic = refl

pub followed-known : (l : Lattice) (f g : Frame) → Contains (frames l) f → Contains (frames l) g → Contains (frames l) (frame_within l f g)
followed-known l f g h k =
    among (frames l) (frame_within l f g)
    (tells (λ g. is_among (frames l) (frame_within l f g)) (frames l) g (tells (λ f. list_all (λ g. is_among (frames l) (frame_within l f g)) (frames l)) (frames l) f (all_followed l) h) k)

-- A frame takes each measure to one of the three, or to the opposite of one: so it takes extents to extents.
use Rattle.std.proofs.Common.{◌≡◌, ◌&&◌, ◌||◌, Bool, true, false, List, [], ◌∷◌, map, refl, ap, sym, ◌∙◌, arith, subst}
use Rattle.std.specs.Prelude.{ℤ, pos, negsuc, neg_ℤ, ◌+ℤ◌, ◌*ℤ◌, ◌≤ℤ◌, fold, Contains}
use Rattle.std.specs.List.{list_all}
use Rattle.std.specs.Ordering.{int_eq}
use Rattle.std.specs.Int.{int_min, int_max}
use Rattle.std.proofs.lemmas.Bool.Decides.{Decides-int_eq}
use Rattle.std.proofs.lemmas.List.Sums.{AllPass-from_list_all}
use Rattle.std.proofs.lemmas.Int.{ints, int_min_is, int_max_is}
use Rattle.lsys_spec.specs.Lattices.{Lattice, square, hexagonal, cubic, Vector, Frame, frames}
use Rattle.lsys_spec.proofs.Tests.{both}
use Rattle.lsys_lattice.specs.Rotations.{carried}
use Rattle.lsys_lattice.specs.Extents.{Extents, least, greatest, extents, AreCarried}
use Rattle.lsys_lattice.proofs.Ranges.{least_same, greatest_same, least_opposite, greatest_opposite}
use Rattle.lsys_lattice.proofs.Ring.{times_sum}
use Rattle.lsys_lattice.proofs.Joining.{same_reach}
use Rattle.lsys_lattice.specs.Motions.{measured_along, carried_extents}

-- 1. one measure

ordered : (a b : ℤ) (xs : List ℤ) → a ≤ℤ b → fold int_min a xs ≤ℤ fold int_max b xs
ordered a b [] h = h
ordered a b (x ∷ xs) h = ordered (int_min a x) (int_max b x) xs (omega (arith, ints, int_min_is a x, int_max_is b x, h))

in_order : (q : Vector → ℤ) (v : Vector) (vs : List Vector) → least q v vs ≤ℤ greatest q v vs
in_order q v vs = ordered (q v) (q v) (map q vs) (omega (arith, ints))

abbrev Spans : (Vector → ℤ) → (Vector → Vector) → Vector → List Vector → ℤ → ℤ → Type 0
Spans p g v vs a b = (int_min a b ≡ least p (g v) (map g vs)) × (int_max a b ≡ greatest p (g v) (map g vs))

least_first : (a b : ℤ) → a ≤ℤ b → int_min a b ≡ a
least_first a b h = omega (arith, ints, int_min_is a b, h)

greatest_last : (a b : ℤ) → a ≤ℤ b → int_max a b ≡ b
greatest_last a b h = omega (arith, ints, int_max_is a b, h)

least_back : (a b : ℤ) → a ≤ℤ b → int_min (neg_ℤ a) (neg_ℤ b) ≡ neg_ℤ b
least_back a b h = omega (arith, ints, int_min_is (neg_ℤ a) (neg_ℤ b), h)

greatest_back : (a b : ℤ) → a ≤ℤ b → int_max (neg_ℤ a) (neg_ℤ b) ≡ neg_ℤ a
greatest_back a b h = omega (arith, ints, int_max_is (neg_ℤ a) (neg_ℤ b), h)

ap_two : (f : ℤ → ℤ → ℤ) (a a' b b' : ℤ) → a ≡ a' → b ≡ b' → f a b ≡ f a' b'
ap_two f a a' b b' h k = cc

spans_same : (p : Vector → ℤ) (g : Vector → Vector) (v : Vector) (vs : List Vector) (q : Vector → ℤ) (a b : ℤ) → a ≡ least q v vs → b ≡ greatest q v vs → ((w : Vector) → p (g w) ≡ q w) → Spans p g v vs a b
spans_same p g v vs q a b d e h = (
  ap_two int_min a (least q v vs) b (greatest q v vs) d e ∙ least_first _ _ (in_order q v vs) ∙ sym (least_same g p q h v vs),
  ap_two int_max a (least q v vs) b (greatest q v vs) d e ∙ greatest_last _ _ (in_order q v vs) ∙ sym (greatest_same g p q h v vs),
)

spans_back : (p : Vector → ℤ) (g : Vector → Vector) (v : Vector) (vs : List Vector) (q : Vector → ℤ) (a b : ℤ) → a ≡ neg_ℤ (least q v vs) → b ≡ neg_ℤ (greatest q v vs) → ((w : Vector) → p (g w) ≡ neg_ℤ (q w)) → Spans p g v vs a b
spans_back p g v vs q a b d e h = (
  ap_two int_min a (neg_ℤ (least q v vs)) b (neg_ℤ (greatest q v vs)) d e ∙ least_back _ _ (in_order q v vs) ∙ sym (least_opposite g p q h v vs),
  ap_two int_max a (neg_ℤ (least q v vs)) b (neg_ℤ (greatest q v vs)) d e ∙ greatest_back _ _ (in_order q v vs) ∙ sym (greatest_opposite g p q h v vs),
)

either : (A : Type 0) (b c : Bool) → (b || c) ≡ true → (b ≡ true → A) → (c ≡ true → A) → A
either A true c h f g = f refl
either A false c h f g = g h

pub equal : (a b : ℤ) → int_eq a b ≡ true → a ≡ b
equal a b h = (Decides-int_eq a b).0 h

-- 2. the square and the cubic lattice

abbrev is_triple : ℤ → ℤ → ℤ → ℤ → ℤ → ℤ → Bool
is_triple a b c p q r = int_eq a p && (int_eq b q && int_eq c r)

abbrev is_row : ℤ → ℤ → ℤ → Bool
is_row a b c =
    is_triple a b c (pos 1) (pos 0) (pos 0) || (is_triple a b c (negsuc 0) (pos 0) (pos 0) || (is_triple a b c (pos 0) (pos 1) (pos 0)
    || (is_triple a b c (pos 0) (negsuc 0) (pos 0) || (is_triple a b c (pos 0) (pos 0) (pos 1) || is_triple a b c (pos 0) (pos 0) (negsuc 0)))))

abbrev row : ℤ → ℤ → ℤ → ℤ → ℤ → ℤ → ℤ
row a b c x y z = (y *ℤ a +ℤ neg_ℤ x *ℤ b) +ℤ z *ℤ c

row_is : (a b c p q r : ℤ) → is_triple a b c p q r ≡ true → (x y z : ℤ) → row a b c x y z ≡ row p q r x y z
row_is a b c p q r h x y z =
    let one = both (int_eq a p) _ h in
    let two = both (int_eq b q) _ one.1 in
    let e : a ≡ p = equal a p one.0 in
    let f : b ≡ q = equal b q two.0 in
    let g : c ≡ r = equal c r two.1 in
    ap (λ (k : ℤ). (y *ℤ k +ℤ neg_ℤ x *ℤ b) +ℤ z *ℤ c) e ∙ ap (λ (k : ℤ). (y *ℤ p +ℤ neg_ℤ x *ℤ k) +ℤ z *ℤ c) f ∙ ap (λ (k : ℤ). (y *ℤ p +ℤ neg_ℤ x *ℤ q) +ℤ z *ℤ k) g

row_spans : (a b c : ℤ) → is_row a b c ≡ true → (p : Vector → ℤ) (g : Vector → Vector) → ((w : Vector) → p (g w) ≡ row a b c w.x w.y w.z) → (v : Vector) (vs : List Vector)
    → Spans p g v vs (row a b c (least (λ w. w.x) v vs) (least (λ w. w.y) v vs) (least (λ w. w.z) v vs)) (row a b c (greatest (λ w. w.x) v vs) (greatest (λ w. w.y) v vs) (greatest (λ w. w.z) v vs))
row_spans a b c t p g k v vs =
    let goal : Type 0 = Spans p g v vs (row a b c (least (λ w. w.x) v vs) (least (λ w. w.y) v vs) (least (λ w. w.z) v vs)) (row a b c (greatest (λ w. w.x) v vs) (greatest (λ w. w.y) v vs) (greatest (λ w. w.z) v vs)) in
    either goal _ _ t
    (λ h. let e : (x y z : ℤ) → row a b c x y z ≡ y = λ x y z. row_is a b c (pos 1) (pos 0) (pos 0) h x y z ∙ omega (arith, ints) in spans_same p g v vs (λ w. w.y) _ _ (e _ _ _) (e _ _ _) (λ w. k w ∙ e w.x w.y w.z))
    (λ t. either goal _ _ t
    (λ h. let e : (x y z : ℤ) → row a b c x y z ≡ neg_ℤ y = λ x y z. row_is a b c (negsuc 0) (pos 0) (pos 0) h x y z ∙ omega (arith, ints) in spans_back p g v vs (λ w. w.y) _ _ (e _ _ _) (e _ _ _) (λ w. k w ∙ e w.x w.y w.z))
    (λ t. either goal _ _ t
    (λ h. let e : (x y z : ℤ) → row a b c x y z ≡ neg_ℤ x = λ x y z. row_is a b c (pos 0) (pos 1) (pos 0) h x y z ∙ omega (arith, ints) in spans_back p g v vs (λ w. w.x) _ _ (e _ _ _) (e _ _ _) (λ w. k w ∙ e w.x w.y w.z))
    (λ t. either goal _ _ t
    (λ h. let e : (x y z : ℤ) → row a b c x y z ≡ x = λ x y z. row_is a b c (pos 0) (negsuc 0) (pos 0) h x y z ∙ omega (arith, ints) in spans_same p g v vs (λ w. w.x) _ _ (e _ _ _) (e _ _ _) (λ w. k w ∙ e w.x w.y w.z))
    (λ t. either goal _ _ t
    (λ h. let e : (x y z : ℤ) → row a b c x y z ≡ z = λ x y z. row_is a b c (pos 0) (pos 0) (pos 1) h x y z ∙ omega (arith, ints) in spans_same p g v vs (λ w. w.z) _ _ (e _ _ _) (e _ _ _) (λ w. k w ∙ e w.x w.y w.z))
    (λ h. let e : (x y z : ℤ) → row a b c x y z ≡ neg_ℤ z = λ x y z. row_is a b c (pos 0) (pos 0) (negsuc 0) h x y z ∙ omega (arith, ints) in spans_back p g v vs (λ w. w.z) _ _ (e _ _ _) (e _ _ _) (λ w. k w ∙ e w.x w.y w.z))))))

abbrev has_rows : Frame → Bool
has_rows f = is_row f.heading.x f.left.x f.up.x && (is_row f.heading.y f.left.y f.up.y && is_row f.heading.z f.left.z f.up.z)

square_rows : list_all has_rows (frames square) ≡ true
square_rows = refl

cubic_rows : list_all has_rows (frames cubic) ≡ true
cubic_rows = refl

pub of_frame : (test : Frame → Bool) (fs : List Frame) (f : Frame) → list_all test fs ≡ true → Contains fs f → test f ≡ true
of_frame test fs f all k = subst (λ g. test g ≡ true) k.2 (AllPass-from_list_all test fs all k.0 f k.1)

-- 3. the hexagonal lattice

abbrev is_pair : ℤ → ℤ → ℤ → ℤ → Bool
is_pair a b p q = int_eq a p && int_eq b q

abbrev is_sixth : ℤ → ℤ → Bool
is_sixth a b =
    is_pair a b (pos 1) (pos 0) || (is_pair a b (negsuc 0) (pos 0) || (is_pair a b (pos 0) (pos 1)
    || (is_pair a b (pos 0) (negsuc 0) || (is_pair a b (pos 1) (pos 1) || is_pair a b (negsuc 0) (negsuc 0)))))

abbrev slope : ℤ → ℤ → ℤ → ℤ → ℤ
slope a b x y = x *ℤ a +ℤ y *ℤ b

slope_is : (a b p q : ℤ) → is_pair a b p q ≡ true → (x y : ℤ) → slope a b x y ≡ slope p q x y
slope_is a b p q h x y =
    let one = both (int_eq a p) _ h in
    ap (λ (k : ℤ). x *ℤ k +ℤ y *ℤ b) (equal a p one.0) ∙ ap (λ (k : ℤ). x *ℤ p +ℤ y *ℤ k) (equal b q one.1)

along_is : (a b p q : ℤ) → is_pair a b p q ≡ true → (m : Vector) → measured_along a b m ≡ measured_along p q m
along_is a b p q h m =
    let one = both (int_eq a p) _ h in
    ap (λ (k : ℤ). measured_along k b m) (equal a p one.0) ∙ ap (λ (k : ℤ). measured_along p k m) (equal b q one.1)

abbrev low_of : Vector → List Vector → Vector
low_of v vs = (extents hexagonal v vs).low

abbrev high_of : Vector → List Vector → Vector
high_of v vs = (extents hexagonal v vs).high

sixth_spans : (a b : ℤ) → is_sixth a b ≡ true → (p : Vector → ℤ) (g : Vector → Vector) → ((w : Vector) → p (g w) ≡ slope a b w.x w.y) → (v : Vector) (vs : List Vector)
    → Spans p g v vs (measured_along a b (low_of v vs)) (measured_along a b (high_of v vs))
sixth_spans a b t p g k v vs =
    let goal : Type 0 = Spans p g v vs (measured_along a b (low_of v vs)) (measured_along a b (high_of v vs)) in
    either goal _ _ t
    (λ h. let e : (m : Vector) → measured_along a b m ≡ m.x = λ m. along_is a b (pos 1) (pos 0) h m ∙ omega (arith, ints) in spans_same p g v vs (λ w. w.x) _ _ (e _) (e _) (λ w. k w ∙ slope_is a b (pos 1) (pos 0) h w.x w.y ∙ omega (arith, ints)))
    (λ t. either goal _ _ t
    (λ h. let e : (m : Vector) → measured_along a b m ≡ neg_ℤ m.x = λ m. along_is a b (negsuc 0) (pos 0) h m ∙ omega (arith, ints) in spans_back p g v vs (λ w. w.x) _ _ (e _) (e _) (λ w. k w ∙ slope_is a b (negsuc 0) (pos 0) h w.x w.y ∙ omega (arith, ints)))
    (λ t. either goal _ _ t
    (λ h. let e : (m : Vector) → measured_along a b m ≡ m.y = λ m. along_is a b (pos 0) (pos 1) h m ∙ omega (arith, ints) in spans_same p g v vs (λ w. w.y) _ _ (e _) (e _) (λ w. k w ∙ slope_is a b (pos 0) (pos 1) h w.x w.y ∙ omega (arith, ints)))
    (λ t. either goal _ _ t
    (λ h. let e : (m : Vector) → measured_along a b m ≡ neg_ℤ m.y = λ m. along_is a b (pos 0) (negsuc 0) h m ∙ omega (arith, ints) in spans_back p g v vs (λ w. w.y) _ _ (e _) (e _) (λ w. k w ∙ slope_is a b (pos 0) (negsuc 0) h w.x w.y ∙ omega (arith, ints)))
    (λ t. either goal _ _ t
    (λ h. let e : (m : Vector) → measured_along a b m ≡ m.z = λ m. along_is a b (pos 1) (pos 1) h m ∙ omega (arith, ints) in spans_same p g v vs (λ w. w.x +ℤ w.y) _ _ (e _) (e _) (λ w. k w ∙ slope_is a b (pos 1) (pos 1) h w.x w.y ∙ omega (arith, ints)))
    (λ h. let e : (m : Vector) → measured_along a b m ≡ neg_ℤ m.z = λ m. along_is a b (negsuc 0) (negsuc 0) h m ∙ omega (arith, ints) in spans_back p g v vs (λ w. w.x +ℤ w.y) _ _ (e _) (e _) (λ w. k w ∙ slope_is a b (negsuc 0) (negsuc 0) h w.x w.y ∙ omega (arith, ints)))))))

abbrev has_sixths : Frame → Bool
has_sixths f =
    is_sixth f.heading.x f.left.x && (is_sixth f.heading.y f.left.y && (is_sixth (f.heading.x +ℤ f.heading.y) (f.left.x +ℤ f.left.y)
    && (int_eq f.up.x (pos 0) && int_eq f.up.y (pos 0))))

hexagonal_sixths : list_all has_sixths (frames hexagonal) ≡ true
hexagonal_sixths = refl

flat_row : (a b u x y z : ℤ) → u ≡ pos 0 → (x *ℤ a +ℤ y *ℤ b) +ℤ z *ℤ u ≡ slope a b x y
flat_row a b u x y z h = ap (λ (k : ℤ). (x *ℤ a +ℤ y *ℤ b) +ℤ z *ℤ k) h ∙ nothing (x *ℤ a +ℤ y *ℤ b) z
  where
    nothing : (s z : ℤ) → s +ℤ z *ℤ pos 0 ≡ s
    nothing s z = omega (arith, ints)

sum_of_rows : (a b c d x y : ℤ) → slope a b x y +ℤ slope c d x y ≡ slope (a +ℤ c) (b +ℤ d) x y
sum_of_rows a b c d x y =
    four (x *ℤ a) (y *ℤ b) (x *ℤ c) (y *ℤ d) ∙ ap (λ (k : ℤ). k +ℤ (y *ℤ b +ℤ y *ℤ d)) (sym (times_sum x a c)) ∙ ap (λ (k : ℤ). x *ℤ (a +ℤ c) +ℤ k) (sym (times_sum y b d))
  where
    four : (p q r s : ℤ) → (p +ℤ q) +ℤ (r +ℤ s) ≡ (p +ℤ r) +ℤ (q +ℤ s)
    four p q r s = omega (arith, ints)

-- 4. extents

pub extents_carried : (l : Lattice) (f : Frame) → Contains (frames l) f → (v : Vector) (vs : List Vector) → carried_extents l f (extents l v vs) ≡ extents l (carried l f v) (map (carried l f) vs)
extents_carried square f k v vs =
    let all = both (is_row f.heading.x f.left.x f.up.x) _ (of_frame has_rows (frames square) f square_rows k) in
    let more = both (is_row f.heading.y f.left.y f.up.y) _ all.1 in
    let x = row_spans _ _ _ all.0 (λ w. w.x) (carried square f) (λ w. refl) v vs in
    let y = row_spans _ _ _ more.0 (λ w. w.y) (carried square f) (λ w. refl) v vs in
    let z = row_spans _ _ _ more.1 (λ w. w.z) (carried square f) (λ w. refl) v vs in
    same_reach _ _ _ _ _ _ _ _ _ _ _ _ x.0 y.0 z.0 x.1 y.1 z.1
extents_carried cubic f k v vs =
    let all = both (is_row f.heading.x f.left.x f.up.x) _ (of_frame has_rows (frames cubic) f cubic_rows k) in
    let more = both (is_row f.heading.y f.left.y f.up.y) _ all.1 in
    let x = row_spans _ _ _ all.0 (λ w. w.x) (carried cubic f) (λ w. refl) v vs in
    let y = row_spans _ _ _ more.0 (λ w. w.y) (carried cubic f) (λ w. refl) v vs in
    let z = row_spans _ _ _ more.1 (λ w. w.z) (carried cubic f) (λ w. refl) v vs in
    same_reach _ _ _ _ _ _ _ _ _ _ _ _ x.0 y.0 z.0 x.1 y.1 z.1
extents_carried hexagonal f k v vs =
    let g : Vector → Vector = carried hexagonal f in
    let one = both (is_sixth f.heading.x f.left.x) _ (of_frame has_sixths (frames hexagonal) f hexagonal_sixths k) in
    let two = both (is_sixth f.heading.y f.left.y) _ one.1 in
    let three = both (is_sixth (f.heading.x +ℤ f.heading.y) (f.left.x +ℤ f.left.y)) _ two.1 in
    let ups = both (int_eq f.up.x (pos 0)) _ three.1 in
    let ux : f.up.x ≡ pos 0 = equal _ _ ups.0 in
    let uy : f.up.y ≡ pos 0 = equal _ _ ups.1 in
    let at_x : (w : Vector) → (g w).x ≡ slope f.heading.x f.left.x w.x w.y = λ w. flat_row f.heading.x f.left.x f.up.x w.x w.y w.z ux in
    let at_y : (w : Vector) → (g w).y ≡ slope f.heading.y f.left.y w.x w.y = λ w. flat_row f.heading.y f.left.y f.up.y w.x w.y w.z uy in
    let at_z : (w : Vector) → (g w).x +ℤ (g w).y ≡ slope (f.heading.x +ℤ f.heading.y) (f.left.x +ℤ f.left.y) w.x w.y =
    λ w. ap_two (λ a b. a +ℤ b) _ _ _ _ (at_x w) (at_y w) ∙ sum_of_rows f.heading.x f.left.x f.heading.y f.left.y w.x w.y in
    let x = sixth_spans _ _ one.0 (λ w. w.x) g at_x v vs in
    let y = sixth_spans _ _ two.0 (λ w. w.y) g at_y v vs in
    let z = sixth_spans _ _ three.0 (λ w. w.x +ℤ w.y) g at_z v vs in
    same_reach _ _ _ _ _ _ _ _ _ _ _ _ x.0 y.0 z.0 x.1 y.1 z.1

pub are_carried : (l : Lattice) (f : Frame) → Contains (frames l) f → (e : Extents) → AreCarried l f e (carried_extents l f e)
are_carried l f k e v vs h = ap (carried_extents l f) h ∙ extents_carried l f k v vs

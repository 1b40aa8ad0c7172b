-- The extents of places that were carried by a frame of the cubic lattice: each new measure is one old one, or its opposite.
use Rattle.std.proofs.Common.{◌≡◌, ◌⊎◌, ◌&&◌, ◌||◌, Bool, true, false, List, map, inl, inr, refl, sym, ap, ◌∙◌, subst, arith}
use Rattle.std.specs.Prelude.{ℤ, pos, negsuc, ◌+ℤ◌, ◌*ℤ◌, neg_ℤ, Contains}
use Rattle.std.specs.List.{list_all}
use Rattle.std.specs.Ordering.{int_eq}
use Rattle.std.proofs.lemmas.Int.{ints}
use Rattle.std.proofs.lemmas.Bool.Decides.{Decides-int_eq}
use Rattle.std.proofs.lemmas.List.Sums.{AllPass-from_list_all}
use Rattle.lsys_spec.specs.Lattices.{Vector, vector, cubic, Frame, frames, IsUpright}
use Rattle.lsys_spec.proofs.Tests.{both}
use Rattle.lsys_lattice.specs.Rotations.{carried, measures, plus}
use Rattle.lsys_lattice.specs.Extents.{Extents, least, greatest, extents}
use Rattle.lsys_lattice.proofs.Ranges.{least_same, greatest_same, least_opposite, greatest_opposite}
use Rattle.lsys_lattice.specs.Wide.{least_by, greatest_by}
use Rattle.lsys_lattice.proofs.Reach.{reach, same_reach}

-- 1. one axis: of three factors one is 1 or -1, and the others are 0

abbrev are : ℤ → ℤ → ℤ → ℤ → ℤ → ℤ → Bool
are a b c p q r = int_eq a p && (int_eq b q && int_eq c r)

abbrev pub is_axis : ℤ → ℤ → ℤ → Bool
is_axis a b c =
    are a b c (pos 1) (pos 0) (pos 0) || (are a b c (negsuc 0) (pos 0) (pos 0) || (are a b c (pos 0) (pos 1) (pos 0) || (are a b c (pos 0) (negsuc 0) (pos 0)
    || (are a b c (pos 0) (pos 0) (pos 1) || are a b c (pos 0) (pos 0) (negsuc 0)))))

abbrev Are : ℤ → ℤ → ℤ → ℤ → ℤ → ℤ → Type 0
Are a b c p q r = (a ≡ p) × (b ≡ q) × (c ≡ r)

abbrev pub IsAxis : ℤ → ℤ → ℤ → Type 0
IsAxis a b c =
    Are a b c (pos 1) (pos 0) (pos 0) ⊎ (Are a b c (negsuc 0) (pos 0) (pos 0) ⊎ (Are a b c (pos 0) (pos 1) (pos 0) ⊎ (Are a b c (pos 0) (negsuc 0) (pos 0)
    ⊎ (Are a b c (pos 0) (pos 0) (pos 1) ⊎ Are a b c (pos 0) (pos 0) (negsuc 0)))))

told : (a b c p q r : ℤ) → are a b c p q r ≡ true → Are a b c p q r
told a b c p q r h =
    let e = both (int_eq a p) _ h in
    let f = both (int_eq b q) _ e.1 in ((Decides-int_eq a p).0 e.0, (Decides-int_eq b q).0 f.0, (Decides-int_eq c r).0 f.1)

either : (P Q : Type 0) (a b : Bool) → (a ≡ true → P) → (b ≡ true → Q) → a || b ≡ true → P ⊎ Q
either P Q true b f g h = inl (f refl)
either P Q false b f g h = inr (g h)

axis_of : (a b c : ℤ) → is_axis a b c ≡ true → IsAxis a b c
axis_of a b c =
    either _ _ (are a b c (pos 1) (pos 0) (pos 0)) _ (told a b c _ _ _) (either _ _ (are a b c (negsuc 0) (pos 0) (pos 0)) _ (told a b c _ _ _)
    (either _ _ (are a b c (pos 0) (pos 1) (pos 0)) _ (told a b c _ _ _) (either _ _ (are a b c (pos 0) (negsuc 0) (pos 0)) _ (told a b c _ _ _)
    (either _ _ (are a b c (pos 0) (pos 0) (pos 1)) _ (told a b c _ _ _) (told a b c _ _ _)))))

abbrev mx : Vector → ℤ
mx w = w.x

abbrev my : Vector → ℤ
my w = w.y

abbrev mz : Vector → ℤ
mz w = w.z

abbrev combination : ℤ → ℤ → ℤ → Vector → ℤ
combination a b c w = w.y *ℤ a +ℤ neg_ℤ w.x *ℤ b +ℤ w.z *ℤ c

-- the least and the greatest of the measure, by those of the three old ones
abbrev pub low_of : ℤ → ℤ → ℤ → Vector → Vector → ℤ
low_of a b c low high = least_by a low.y high.y +ℤ least_by b (neg_ℤ high.x) (neg_ℤ low.x) +ℤ least_by c low.z high.z

abbrev pub high_of : ℤ → ℤ → ℤ → Vector → Vector → ℤ
high_of a b c low high = greatest_by a low.y high.y +ℤ greatest_by b (neg_ℤ high.x) (neg_ℤ low.x) +ℤ greatest_by c low.z high.z

abbrev lows : Vector → List Vector → Vector
lows v vs = vector (least mx v vs) (least my v vs) (least mz v vs)

abbrev highs : Vector → List Vector → Vector
highs v vs = vector (greatest mx v vs) (greatest my v vs) (greatest mz v vs)

module _ (g : Vector → Vector) (p : Vector → ℤ) (v : Vector) (vs : List Vector) where
  abbrev Low : ℤ → ℤ → ℤ → Type 0
  Low a b c = ((w : Vector) → p (g w) ≡ combination a b c w) → least p (g v) (map g vs) ≡ low_of a b c (lows v vs) (highs v vs)

  abbrev High : ℤ → ℤ → ℤ → Type 0
  High a b c = ((w : Vector) → p (g w) ≡ combination a b c w) → greatest p (g v) (map g vs) ≡ high_of a b c (lows v vs) (highs v vs)

  ahead_low : Low (pos 1) (pos 0) (pos 0)
  ahead_low h = least_same g p my (λ w. h w ∙ omega (arith, ints)) v vs ∙ omega (arith, ints)

  after_low : Low (negsuc 0) (pos 0) (pos 0)
  after_low h = least_opposite g p my (λ w. h w ∙ omega (arith, ints)) v vs ∙ omega (arith, ints)

  left_low : Low (pos 0) (pos 1) (pos 0)
  left_low h = least_opposite g p mx (λ w. h w ∙ omega (arith, ints)) v vs ∙ omega (arith, ints)

  right_low : Low (pos 0) (negsuc 0) (pos 0)
  right_low h = least_same g p mx (λ w. h w ∙ omega (arith, ints)) v vs ∙ omega (arith, ints)

  up_low : Low (pos 0) (pos 0) (pos 1)
  up_low h = least_same g p mz (λ w. h w ∙ omega (arith, ints)) v vs ∙ omega (arith, ints)

  down_low : Low (pos 0) (pos 0) (negsuc 0)
  down_low h = least_opposite g p mz (λ w. h w ∙ omega (arith, ints)) v vs ∙ omega (arith, ints)

  ahead_high : High (pos 1) (pos 0) (pos 0)
  ahead_high h = greatest_same g p my (λ w. h w ∙ omega (arith, ints)) v vs ∙ omega (arith, ints)

  after_high : High (negsuc 0) (pos 0) (pos 0)
  after_high h = greatest_opposite g p my (λ w. h w ∙ omega (arith, ints)) v vs ∙ omega (arith, ints)

  left_high : High (pos 0) (pos 1) (pos 0)
  left_high h = greatest_opposite g p mx (λ w. h w ∙ omega (arith, ints)) v vs ∙ omega (arith, ints)

  right_high : High (pos 0) (negsuc 0) (pos 0)
  right_high h = greatest_same g p mx (λ w. h w ∙ omega (arith, ints)) v vs ∙ omega (arith, ints)

  up_high : High (pos 0) (pos 0) (pos 1)
  up_high h = greatest_same g p mz (λ w. h w ∙ omega (arith, ints)) v vs ∙ omega (arith, ints)

  down_high : High (pos 0) (pos 0) (negsuc 0)
  down_high h = greatest_opposite g p mz (λ w. h w ∙ omega (arith, ints)) v vs ∙ omega (arith, ints)

  at : (P : ℤ → ℤ → ℤ → Type 0) (a b c a' b' c' : ℤ) → Are a b c a' b' c' → P a' b' c' → P a b c
  at P a b c a' b' c' e h = rw (e.0, e.1, e.2) h

  low_there : (a b c : ℤ) → IsAxis a b c → Low a b c
  low_there a b c (inl e) = at Low a b c _ _ _ e ahead_low
  low_there a b c (inr (inl e)) = at Low a b c _ _ _ e after_low
  low_there a b c (inr (inr (inl e))) = at Low a b c _ _ _ e left_low
  low_there a b c (inr (inr (inr (inl e)))) = at Low a b c _ _ _ e right_low
  low_there a b c (inr (inr (inr (inr (inl e))))) = at Low a b c _ _ _ e up_low
  low_there a b c (inr (inr (inr (inr (inr e))))) = at Low a b c _ _ _ e down_low

  high_there : (a b c : ℤ) → IsAxis a b c → High a b c
  high_there a b c (inl e) = at High a b c _ _ _ e ahead_high
  high_there a b c (inr (inl e)) = at High a b c _ _ _ e after_high
  high_there a b c (inr (inr (inl e))) = at High a b c _ _ _ e left_high
  high_there a b c (inr (inr (inr (inl e)))) = at High a b c _ _ _ e right_high
  high_there a b c (inr (inr (inr (inr (inl e))))) = at High a b c _ _ _ e up_high
  high_there a b c (inr (inr (inr (inr (inr e))))) = at High a b c _ _ _ e down_high

-- 2. the frames

abbrev has_axes : Frame → Bool
has_axes f = is_axis f.heading.x f.left.x f.up.x && (is_axis f.heading.y f.left.y f.up.y && is_axis f.heading.z f.left.z f.up.z)

all_axes : list_all has_axes (frames cubic) ≡ true
all_axes = refl

axes : (f : Frame) → Contains (frames cubic) f → has_axes f ≡ true
axes f found = subst (λ g. has_axes g ≡ true) found.2 (AllPass-from_list_all has_axes (frames cubic) all_axes found.0 f found.1)

abbrev pub cubic_reach : Frame → Extents → Extents
cubic_reach f e =
    reach (vector (low_of f.heading.x f.left.x f.up.x e.low e.high) (low_of f.heading.y f.left.y f.up.y e.low e.high) (low_of f.heading.z f.left.z f.up.z e.low e.high))
    (vector (high_of f.heading.x f.left.x f.up.x e.low e.high) (high_of f.heading.y f.left.y f.up.y e.low e.high) (high_of f.heading.z f.left.z f.up.z e.low e.high))

pub cubic-carried : (f : Frame) → Contains (frames cubic) f → (v : Vector) (vs : List Vector) → cubic_reach f (extents cubic v vs) ≡ extents cubic (carried cubic f v) (map (carried cubic f) vs)
cubic-carried f found v vs =
    let t = both (is_axis f.heading.x f.left.x f.up.x) _ (axes f found) in
    let u = both (is_axis f.heading.y f.left.y f.up.y) _ t.1 in
    let x = axis_of f.heading.x f.left.x f.up.x t.0 in
    let y = axis_of f.heading.y f.left.y f.up.y u.0 in
    let z = axis_of f.heading.z f.left.z f.up.z u.1 in
    let g : Vector → Vector = carried cubic f in
    same_reach _ _ _ _ _ _ _ _ _ _ _ _
    (sym (low_there g mx v vs _ _ _ x (λ w. refl))) (sym (low_there g my v vs _ _ _ y (λ w. refl))) (sym (low_there g mz v vs _ _ _ z (λ w. refl)))
    (sym (high_there g mx v vs _ _ _ x (λ w. refl))) (sym (high_there g my v vs _ _ _ y (λ w. refl))) (sym (high_there g mz v vs _ _ _ z (λ w. refl)))

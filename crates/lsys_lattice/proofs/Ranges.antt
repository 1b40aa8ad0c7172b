-- The least and the greatest of what is measured of places that were carried.
use Rattle.std.proofs.Common.{◌≡◌, List, [], ◌∷◌, map, refl, ap, sym, ◌∙◌, arith}
use Rattle.std.specs.Prelude.{ℤ, neg_ℤ, fold}
use Rattle.std.specs.Int.{int_min, int_max}
use Rattle.std.proofs.lemmas.Int.{ints, int_min_is, int_max_is}
use Rattle.lsys_spec.specs.Lattices.{Vector}
use Rattle.lsys_lattice.specs.Extents.{least, greatest}

-- 1. where a measure of what is carried is one of what was there

measured : (g : Vector → Vector) (p q : Vector → ℤ) → ((w : Vector) → p (g w) ≡ q w) → (vs : List Vector) → map p (map g vs) ≡ map q vs
measured g p q h [] = refl
measured g p q h (v ∷ vs) = ap (λ (x : ℤ). x ∷ map p (map g vs)) (h v) ∙ ap (λ xs. q v ∷ xs) (measured g p q h vs)

folded : (f : ℤ → ℤ → ℤ) (a b : ℤ) (xs ys : List ℤ) → a ≡ b → xs ≡ ys → fold f a xs ≡ fold f b ys
folded f a b xs ys e h = cc

pub least_same : (g : Vector → Vector) (p q : Vector → ℤ) → ((w : Vector) → p (g w) ≡ q w) → (v : Vector) (vs : List Vector) → least p (g v) (map g vs) ≡ least q v vs
least_same g p q h v vs = folded int_min _ _ _ _ (h v) (measured g p q h vs)

pub greatest_same : (g : Vector → Vector) (p q : Vector → ℤ) → ((w : Vector) → p (g w) ≡ q w) → (v : Vector) (vs : List Vector) → greatest p (g v) (map g vs) ≡ greatest q v vs
greatest_same g p q h v vs = folded int_max _ _ _ _ (h v) (measured g p q h vs)

-- 2. where it is one with the other sign

least_of_two : (a b : ℤ) → int_min (neg_ℤ a) (neg_ℤ b) ≡ neg_ℤ (int_max a b)
least_of_two a b = omega (arith, ints, int_min_is (neg_ℤ a) (neg_ℤ b), int_max_is a b)

greatest_of_two : (a b : ℤ) → int_max (neg_ℤ a) (neg_ℤ b) ≡ neg_ℤ (int_min a b)
greatest_of_two a b = omega (arith, ints, int_max_is (neg_ℤ a) (neg_ℤ b), int_min_is a b)

least_back : (a : ℤ) (xs : List ℤ) → fold int_min (neg_ℤ a) (map neg_ℤ xs) ≡ neg_ℤ (fold int_max a xs)
least_back a [] = refl
least_back a (x ∷ xs) = ap (λ (b : ℤ). fold int_min b (map neg_ℤ xs)) (least_of_two a x) ∙ least_back (int_max a x) xs

greatest_back : (a : ℤ) (xs : List ℤ) → fold int_max (neg_ℤ a) (map neg_ℤ xs) ≡ neg_ℤ (fold int_min a xs)
greatest_back a [] = refl
greatest_back a (x ∷ xs) = ap (λ (b : ℤ). fold int_max b (map neg_ℤ xs)) (greatest_of_two a x) ∙ greatest_back (int_min a x) xs

backwards : (q : Vector → ℤ) (vs : List Vector) → map (λ w. neg_ℤ (q w)) vs ≡ map neg_ℤ (map q vs)
backwards q [] = refl
backwards q (v ∷ vs) = ap (λ xs. neg_ℤ (q v) ∷ xs) (backwards q vs)

pub least_opposite : (g : Vector → Vector) (p q : Vector → ℤ) → ((w : Vector) → p (g w) ≡ neg_ℤ (q w)) → (v : Vector) (vs : List Vector) → least p (g v) (map g vs) ≡ neg_ℤ (greatest q v vs)
least_opposite g p q h v vs = least_same g p (λ w. neg_ℤ (q w)) h v vs ∙ ap (fold int_min (neg_ℤ (q v))) (backwards q vs) ∙ least_back (q v) (map q vs)

pub greatest_opposite : (g : Vector → Vector) (p q : Vector → ℤ) → ((w : Vector) → p (g w) ≡ neg_ℤ (q w)) → (v : Vector) (vs : List Vector) → greatest p (g v) (map g vs) ≡ neg_ℤ (least q v vs)
greatest_opposite g p q h v vs = greatest_same g p (λ w. neg_ℤ (q w)) h v vs ∙ ap (fold int_max (neg_ℤ (q v))) (backwards q vs) ∙ greatest_back (q v) (map q vs)

-- Laws of sums and of products of matrices.
use Rattle.std.proofs.Common.{◌≡◌, ℕ, zero, suc, ◌+◌, ◌*◌, ◌<◌, ◌≤◌, Bool, true, false, ◌⊎◌, inl, inr, nat_lt, refl, sym, ◌∙◌, arith}
use Rattle.std.specs.Prelude.{min}
use Rattle.std.proofs.lemmas.Bool.Decides.{nat_tests}
use Rattle.std.proofs.Math.Nat.{mul-le-mul_left, mul-le-mul_right}
use Rattle.lsys_growth.specs.Sums.{sum_to, row_by, product}

pub sum_same : (k : ℕ) (f g : ℕ → ℕ) → ((i : ℕ) → i < k → f i ≡ g i) → sum_to k f ≡ sum_to k g
sum_same zero f g h = refl
sum_same (suc k) f g h =
    let rest : sum_to k f ≡ sum_to k g = sum_same k f g (λ i b. h i (omega arith)) in
    let last : f k ≡ g k = h k (omega arith) in
    omega arith

pub sum_zero : (k : ℕ) → sum_to k (λ i. 0) ≡ 0
sum_zero zero = refl
sum_zero (suc k) = let e = sum_zero k in omega (arith, e)

pub sum_plus : (k : ℕ) (f g : ℕ → ℕ) → sum_to k (λ i. f i + g i) ≡ sum_to k f + sum_to k g
sum_plus zero f g = refl
sum_plus (suc k) f g = let e = sum_plus k f g in omega (arith, e)

pub sum_times : (k c : ℕ) (f : ℕ → ℕ) → sum_to k (λ i. c * f i) ≡ c * sum_to k f
sum_times zero c f = omega arith
sum_times (suc k) c f = let e = sum_times k c f in omega (arith, e)

pub sum_by_times : (k c : ℕ) (f : ℕ → ℕ) → sum_to k (λ i. f i * c) ≡ sum_to k f * c
sum_by_times zero c f = omega arith
sum_by_times (suc k) c f = let e = sum_by_times k c f in omega (arith, e)

-- the order of two sums
pub sum_turned : (k m : ℕ) (f : ℕ → ℕ → ℕ) → sum_to k (λ i. sum_to m (λ j. f i j)) ≡ sum_to m (λ j. sum_to k (λ i. f i j))
sum_turned zero m f = sym (sum_zero m)
sum_turned (suc k) m f =
    let e = sum_turned k m f in
    let p = sum_plus m (λ j. sum_to k (λ i. f i j)) (λ j. f k j) in
    omega (arith, e, p)

-- a row by two matrices, one after the other, is the row by their product
pub row_by_product : (k : ℕ) (v : ℕ → ℕ) (a b : ℕ → ℕ → ℕ) (j : ℕ) → row_by k (row_by k v a) b j ≡ row_by k v (product k a b) j
row_by_product k v a b j =
    sum_same k _ _ (λ l h. sym (sum_by_times k (b l j) (λ m. v m * a m l)))
    ∙ sum_turned k k (λ l m. v m * a m l * b l j)
    ∙ sum_same k _ _ (λ m h. sum_same k (λ l. v m * a m l * b l j) (λ l. v m * (a m l * b l j)) (λ l g. omega arith) ∙ sum_times k (v m) (λ l. a m l * b l j))

-- sums and products that stop

le_or_above : (c x : ℕ) → (c ≤ x) ⊎ (x < c)
le_or_above c x = by (nat_lt x c) refl
  where
    by : (b : Bool) → nat_lt x c ≡ b → (c ≤ x) ⊎ (x < c)
    by true e = inr (grind (arith, nat_tests))
    by false e = inl (grind (arith, nat_tests))

-- a sum only rises
pub sum_rises : (k i : ℕ) (f : ℕ → ℕ) → i ≤ k → sum_to i f ≤ sum_to k f
sum_rises zero i f h = let e : i ≡ 0 = omega arith in rw e (omega arith)
sum_rises (suc k) i f h = by (le_or_above i k) (λ l. sum_rises k i f l)
  where
    by : (i ≤ k) ⊎ (k < i) → (i ≤ k → sum_to i f ≤ sum_to k f) → sum_to i f ≤ sum_to (suc k) f
    by (inl l) rest = let e = rest l in omega (arith, e)
    by (inr l) rest = let e : i ≡ suc k = omega arith in rw e (omega arith)

-- the first number is past the bound
past : (c x y : ℕ) → c ≤ x → min (x * y) c ≡ min (c * min y c) c
past c x zero h = let e : min 0 c ≡ 0 = omega arith in rw e (omega arith)
past c x (suc y) h =
    let p : c * suc y ≤ x * suc y = mul-le-mul_right (suc y) h in
    let a : c ≤ c * suc y = omega arith in
    let b : c ≤ c * min (suc y) c = past_two c (suc y) (omega arith) in
    omega (arith, p, a, b)
  where
    past_two : (c y : ℕ) → 1 ≤ y → c ≤ c * min y c
    past_two zero y h = omega arith
    past_two (suc c) y h =
        let m : 1 ≤ min y (suc c) = omega arith in
        let p : suc c * 1 ≤ suc c * min y (suc c) = mul-le-mul_left (suc c) m in
        omega (arith, p)

turned : (c x y : ℕ) → c ≤ y → min (x * y) c ≡ min (min x c * c) c
turned c x y h =
    let p = past c y x h in
    let e : x * y ≡ y * x = omega arith in
    let f : min x c * c ≡ c * min x c = omega arith in
    rw (e, f) p

pub stops_sum : (c x y : ℕ) → min (x + y) c ≡ min (min x c + min y c) c
stops_sum c x y = omega arith

pub stops_product : (c x y : ℕ) → min (x * y) c ≡ min (min x c * min y c) c
stops_product c x y = by (le_or_above c x) (le_or_above c y)
  where
    by : (c ≤ x) ⊎ (x < c) → (c ≤ y) ⊎ (y < c) → min (x * y) c ≡ min (min x c * min y c) c
    by (inr a) (inr b) =
        let e : min x c ≡ x = omega arith in
        let f : min y c ≡ y = omega arith in
        rw (e, f) refl
    by (inl a) t =
        let e : min x c ≡ c = omega arith in rw e (past c x y a)
    by t (inl b) =
        let f : min y c ≡ c = omega arith in rw f (turned c x y b)

-- Laws of runs: they are put together, and where the matrices come round again, whole turns are powers.
use Rattle.std.proofs.Common.{◌≡◌, ℕ, zero, suc, ◌+◌, ◌*◌, ◌<◌, refl, ap, sym, subst, ◌∙◌, arith}
use Rattle.lsys_growth.specs.Sums.{row_by, product, row_after, repeated, steps_product}
use Rattle.lsys_growth.proofs.Sums.{sum_same, row_by_product}

row_same : (k : ℕ) (v w : ℕ → ℕ) (a b : ℕ → ℕ → ℕ) (j : ℕ) → ((i : ℕ) → i < k → v i ≡ w i) → ((i : ℕ) → i < k → a i j ≡ b i j) → row_by k v a j ≡ row_by k w b j
row_same k v w a b j h g = sum_same k (λ i. v i * a i j) (λ i. w i * b i j) (λ i l. let e = h i l in let f = g i l in cc)

-- the same row, and the same matrices
pub run_same : (k : ℕ) (a b : ℕ → ℕ → ℕ → ℕ) (t u m : ℕ) (v w : ℕ → ℕ) → ((i : ℕ) → i < k → v i ≡ w i) → ((l i j : ℕ) → l < m → a (t + l) i j ≡ b (u + l) i j)
    → (j : ℕ) → j < k → row_after k a t m v j ≡ row_after k b u m w j
run_same k a b t u zero v w h g j l = h j l
run_same k a b t u (suc m) v w h g j l =
    row_same k (row_after k a t m v) (row_after k b u m w) (a (t + m)) (b (u + m)) j
    (λ i n. run_same k a b t u m v w h (λ p x y q. g p x y (omega arith)) i n)
    (λ i n. g m i j (omega arith))

pub run_more : (k : ℕ) (a : ℕ → ℕ → ℕ → ℕ) (t m p : ℕ) (v : ℕ → ℕ) (j : ℕ) → row_after k a t (m + p) v j ≡ row_after k a (t + m) p (row_after k a t m v) j
run_more k a t m zero v j = let e : m + 0 ≡ m = omega arith in rw e refl
run_more k a t m (suc p) v j =
    let e : m + suc p ≡ suc (m + p) = omega arith in
    let f : t + (m + p) ≡ t + m + p = omega arith in
    rw (e, f) (row_same k (row_after k a t (m + p) v) (row_after k a (t + m) p (row_after k a t m v)) (a (t + m + p)) (a (t + m + p)) j (λ i n. run_more k a t m p v i) (λ i n. refl))

-- the matrix of a run: the same for each row
pub record StandsFor (k : ℕ) (a : ℕ → ℕ → ℕ → ℕ) (t m : ℕ) (b : ℕ → ℕ → ℕ) : Type 0 where
  pub is : (v : ℕ → ℕ) (j : ℕ) → row_by k v b j ≡ row_after k a t m v j

pub stands_one : (k : ℕ) (a : ℕ → ℕ → ℕ → ℕ) (t : ℕ) → StandsFor k a t 1 (a t)
stands_one k a t = record { is = λ v j. let e : t + 0 ≡ t = omega arith in rw e refl }

pub stands_product : (k : ℕ) (a : ℕ → ℕ → ℕ → ℕ) (t m p : ℕ) (b c : ℕ → ℕ → ℕ) → StandsFor k a t m b → StandsFor k a (t + m) p c → StandsFor k a t (m + p) (product k b c)
stands_product k a t m p b c f g = record {
  is = λ v j.
      sym (row_by_product k v b c j) ∙ g.is (row_by k v b) j
      ∙ ap (λ (w : ℕ → ℕ). row_after k a (t + m) p w j) (λ i l. f.is v l i)
      ∙ sym (run_more k a t m p v j);
}

pub steps_stand : (k : ℕ) (a : ℕ → ℕ → ℕ → ℕ) (m : ℕ) → StandsFor k a 0 (suc m) (steps_product k a m)
steps_stand k a zero = stands_one k a 0
steps_stand k a (suc m) =
    let e : suc m + 1 ≡ suc (suc m) = omega arith in
    let f : suc m ≡ 0 + suc m = omega arith in
    subst (λ n. StandsFor k a 0 n (steps_product k a (suc m))) e
    (stands_product k a 0 (suc m) 1 (steps_product k a m) (a (suc m)) (steps_stand k a m) (subst (λ n. StandsFor k a n 1 (a (suc m))) f (stands_one k a (suc m))))

-- whole turns

comes_round : (a : ℕ → ℕ → ℕ → ℕ) (n : ℕ) → ((t i j : ℕ) → a (t + n) i j ≡ a t i j) → (q p x y : ℕ) → a (0 + n * q + p) x y ≡ a (0 + p) x y
comes_round a n h zero p x y = let e : 0 + n * 0 + p ≡ 0 + p = omega arith in rw e refl
comes_round a n h (suc q) p x y =
    let e : 0 + n * suc q + p ≡ 0 + n * q + p + n = omega arith in
    rw e (h (0 + n * q + p) x y ∙ comes_round a n h q p x y)

pub run_turns : (k : ℕ) (a : ℕ → ℕ → ℕ → ℕ) (n : ℕ) (b : ℕ → ℕ → ℕ) → ((t i j : ℕ) → a (t + n) i j ≡ a t i j) → StandsFor k a 0 n b
    → (q : ℕ) (v : ℕ → ℕ) (j : ℕ) → j < k → row_after k a 0 (n * q) v j ≡ repeated k b q v j
run_turns k a n b h f zero v j l = let e : n * 0 ≡ 0 = omega arith in rw e refl
run_turns k a n b h f (suc q) v j l =
    let e : n * suc q ≡ n * q + n = omega arith in
    rw e (run_more k a 0 (n * q) n v j
    ∙ run_same k a a (0 + n * q) 0 n (row_after k a 0 (n * q) v) (repeated k b q v) (λ i m. run_turns k a n b h f q v i m) (λ p x y m. comes_round a n h q p x y) j l
    ∙ sym (f.is (repeated k b q v) j))

-- the row after whole turns, and then after the steps that are left
pub run_whole : (k : ℕ) (a : ℕ → ℕ → ℕ → ℕ) (n : ℕ) (b : ℕ → ℕ → ℕ) → ((t i j : ℕ) → a (t + n) i j ≡ a t i j) → StandsFor k a 0 n b
    → (q r : ℕ) (v : ℕ → ℕ) (j : ℕ) → j < k → row_after k a 0 (n * q + r) v j ≡ row_after k a 0 r (repeated k b q v) j
run_whole k a n b h f q r v j l =
    run_more k a 0 (n * q) r v j
    ∙ run_same k a a (0 + n * q) 0 r (row_after k a 0 (n * q) v) (repeated k b q v) (λ i m. run_turns k a n b h f q v i m) (λ p x y m. comes_round a n h q p x y) j l

-- squaring
pub repeated_double : (k : ℕ) (b : ℕ → ℕ → ℕ) (m : ℕ) (v : ℕ → ℕ) (j : ℕ) → repeated k b (m + m) v j ≡ repeated k (product k b b) m v j
repeated_double k b zero v j = refl
repeated_double k b (suc m) v j =
    let e : suc m + suc m ≡ suc (suc (m + m)) = omega arith in
    rw e (row_by_product k (repeated k b (m + m) v) b b j
    ∙ row_same k (repeated k b (m + m) v) (repeated k (product k b b) m v) (product k b b) (product k b b) j (λ i l. repeated_double k b m v i) (λ i l. refl))

pub repeated_first : (k : ℕ) (b : ℕ → ℕ → ℕ) (m : ℕ) (v : ℕ → ℕ) (j : ℕ) → repeated k b (suc m) v j ≡ repeated k b m (row_by k v b) j
repeated_first k b zero v j = refl
repeated_first k b (suc m) v j = row_same k (repeated k b (suc m) v) (repeated k b m (row_by k v b)) b b j (λ i l. repeated_first k b m v i) (λ i l. refl)

-- Sums over the places below a number, and products of square matrices.
use Rattle.std.specs.Prelude.{ℕ, zero, suc, ◌+◌, ◌*◌}

-- f 0 + .. + f (k - 1)
abbrev pub sum_to : ℕ → (ℕ → ℕ) → ℕ
sum_to zero f = 0
sum_to (suc k) f = sum_to k f + f k

-- a row of k numbers times column j of a matrix
abbrev pub row_by : ℕ → (ℕ → ℕ) → (ℕ → ℕ → ℕ) → ℕ → ℕ
row_by k v a j = sum_to k (λ i. v i * a i j)

-- the product of two matrices of k rows and k columns
abbrev pub product : ℕ → (ℕ → ℕ → ℕ) → (ℕ → ℕ → ℕ) → ℕ → ℕ → ℕ
product k a b i j = row_by k (a i) b j

-- the row after m steps from step t on, where each step has its matrix
abbrev pub row_after : ℕ → (ℕ → ℕ → ℕ → ℕ) → ℕ → ℕ → (ℕ → ℕ) → ℕ → ℕ
row_after k a t zero v = v
row_after k a t (suc m) v = row_by k (row_after k a t m v) (a (t + m))

-- the row after m times the same matrix
abbrev pub repeated : ℕ → (ℕ → ℕ → ℕ) → ℕ → (ℕ → ℕ) → ℕ → ℕ
repeated k a m v = row_after k (λ t. a) 0 m v

-- the product of the matrices of the steps 0 to m
abbrev pub steps_product : ℕ → (ℕ → ℕ → ℕ → ℕ) → ℕ → ℕ → ℕ → ℕ
steps_product k a zero = a 0
steps_product k a (suc m) = product k (steps_product k a m) (a (suc m))

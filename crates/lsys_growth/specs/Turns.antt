-- Whole turns of matrices that come round again.
use Rattle.std.specs.Prelude.{◌≡◌, ◌<◌, ◌+◌, ◌*◌, ℕ}
use Rattle.lsys_growth.specs.Sums.{row_by, row_after, repeated}

-- where the matrices come round again after n steps, whole
-- turns are powers of the matrix of one turn
abbrev pub WholeTurnsArePowers : Type 0
WholeTurnsArePowers =
    (k n : ℕ) (a : ℕ → ℕ → ℕ → ℕ) (b : ℕ → ℕ → ℕ)
    → ((t i j : ℕ) → a (t + n) i j ≡ a t i j)
    → ((v : ℕ → ℕ) (j : ℕ) → row_by k v b j ≡ row_after k a 0 n v j)
    → (q : ℕ) (v : ℕ → ℕ) (j : ℕ) → j < k → row_after k a 0 (n * q) v j ≡ repeated k b q v j

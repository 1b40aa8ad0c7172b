-- The matrices and rows of the code, whose entries stop at 2^128, as those of the definitions.
use Rattle.std.specs.Prelude.{◌≡◌, ◌<◌, ◌+◌, ◌*◌, ℕ, Option, None, List, length, get_or}
use Rattle.lsys_growth.specs.Capped.{capped, value_of}
use Rattle.lsys_growth.specs.Sums.{sum_to, row_by, repeated}

-- a matrix of so many rows and columns, row by row
pub record Square : Type 0 where
  pub size : ℕ
  pub entries : List (Option ℕ)

abbrev pub place : List (Option ℕ) → ℕ → ℕ
place row i = value_of (get_or row i None)

abbrev pub entry : Square → ℕ → ℕ → ℕ
entry m i j = place m.entries (i * m.size + j)

-- the row tells these k numbers, as far as they go
pub record IsRow (k : ℕ) (v : ℕ → ℕ) (row : List (Option ℕ)) : Type 0 where
  pub len : length row ≡ k
  pub places : (i : ℕ) → i < k → place row i ≡ capped (v i)

pub record IsMatrix (k : ℕ) (a : ℕ → ℕ → ℕ) (m : Square) : Type 0 where
  pub size : m.size ≡ k
  pub entries : (i j : ℕ) → i < k → j < k → entry m i j ≡ capped (a i j)

-- the places of a row that a sum of its products needs: where it is 0, so is the product
pub record AreNeeded (row : List (Option ℕ)) (places : List ℕ) : Type 0 where
  pub within : (k : ℕ) → k < length places → get_or places k 0 < length row
  pub sums : (f : ℕ → ℕ) → ((i : ℕ) → place row i ≡ 0 → f i ≡ 0) → sum_to (length places) (λ k. f (get_or places k 0)) ≡ sum_to (length row) f

-- the row times the matrix stands after the old entries
pub record AddsRow (row : List (Option ℕ)) (m : Square) (old new : List (Option ℕ)) : Type 0 where
  pub len : length new ≡ length old + m.size
  pub before : (i : ℕ) → i < length old → place new i ≡ place old i
  pub cells : (j : ℕ) → j < m.size → place new (length old + j) ≡ capped (row_by m.size (place row) (entry m) j)

-- the row times the matrix
pub record IsRowTimes (row : List (Option ℕ)) (m : Square) (r : List (Option ℕ)) : Type 0 where
  pub len : length r ≡ m.size
  pub cells : (j : ℕ) → j < m.size → place r j ≡ capped (row_by m.size (place row) (entry m) j)

-- the product, each entry stopped at 2^128
pub record IsProduct (a b m : Square) : Type 0 where
  pub size : m.size ≡ a.size
  pub cells : (i j : ℕ) → i < a.size → j < a.size → entry m i j ≡ capped (row_by a.size (entry a i) (entry b) j)

-- the row after so many times the matrix, whatever numbers the two tell
abbrev pub IsRowAfter : List (Option ℕ) → Square → ℕ → List (Option ℕ) → Type 0
IsRowAfter first m times r = (k : ℕ) (v : ℕ → ℕ) (b : ℕ → ℕ → ℕ) → IsRow k v first → IsMatrix k b m → IsRow k (repeated k b times v) r

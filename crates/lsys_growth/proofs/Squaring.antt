-- A power by squaring, step by step.
use Rattle.std.proofs.Common.{◌≡◌, ℕ, zero, suc, ◌+◌, ◌*◌, ◌<◌, ◌≤◌, ◌/◌, ◌%◌, ◌^◌, List, length, refl, ap, sym, ◌∙◌, arith}
use Rattle.std.specs.Prelude.{Option}
use native.Mathlib.Numerals.{unary_clauses}
use Rattle.lsys_growth.specs.Capped.{capped}
use Rattle.lsys_growth.specs.Sums.{row_by, product, repeated}
use Rattle.lsys_growth.specs.Matrices.{Square, entry, IsRow, IsMatrix, IsRowTimes, IsProduct}
use Rattle.lsys_growth.proofs.Stopping.{row_capped, capped_twice, capped_times, sum_capped}
use Rattle.lsys_growth.proofs.Powers.{repeated_double, repeated_first}

-- on the way: the row, by the power so often as is left, is the first row by the first matrix so often as was asked
pub record Reached (k : ℕ) (times rest : ℕ) (v : ℕ → ℕ) (b : ℕ → ℕ → ℕ) (row : List (Option ℕ)) (power : Square) : Type 0 where
  pub v' : ℕ → ℕ
  pub b' : ℕ → ℕ → ℕ
  pub row_is : IsRow k v' row
  pub power_is : IsMatrix k b' power
  pub same : (j : ℕ) → j < k → repeated k b' rest v' j ≡ repeated k b times v j

pub times_row : (k : ℕ) (v : ℕ → ℕ) (a : ℕ → ℕ → ℕ) (row r : List (Option ℕ)) (m : Square) → IsRow k v row → IsMatrix k a m → IsRowTimes row m r → IsRow k (row_by k v a) r
times_row k v a row r m h g t = record {
  len = t.len ∙ g.size;
  places = λ j b. t.cells j (let e = g.size in omega arith) ∙ row_capped k v a row m j h g b;
}

pub times_matrix : (k : ℕ) (c d : ℕ → ℕ → ℕ) (a b m : Square) → IsMatrix k c a → IsMatrix k d b → IsProduct a b m → IsMatrix k (product k c d) m
times_matrix k c d a b m h g p = record {
  size = p.size ∙ h.size;
  entries = λ i j u v. p.cells i j (let e = h.size in omega arith) (let e = h.size in omega arith) ∙ both i j u v;
}
  where
    once : (x y : ℕ) → x ≡ capped y → capped x ≡ capped y
    once x y e = ap capped e ∙ capped_twice y

    both : (i j : ℕ) → i < k → j < k → capped (row_by a.size (entry a i) (entry b) j) ≡ capped (row_by k (c i) d j)
    both i j u v =
        ap (λ (s : ℕ). capped (row_by s (entry a i) (entry b) j)) h.size
        ∙ sum_capped k (λ l. entry a i l * entry b l j) (λ l. c i l * d l j) (λ l w. capped_times (entry a i l) (entry b l j) (c i l) (d l j) (once (entry a i l) (c i l) (h.entries i l u w)) (once (entry b l j) (d l j) (g.entries l j w v)))

-- an odd rest: the row is taken times the power once
pub odd_row : (k times rest half : ℕ) (v : ℕ → ℕ) (b : ℕ → ℕ → ℕ) (row r : List (Option ℕ)) (power : Square) → rest ≡ suc (half + half)
    → Reached k times rest v b row power → IsRowTimes row power r → Reached k times (half + half) v b r power
odd_row k times rest half v b row r power e h t = record {
  v' = row_by k h.v' h.b';
  b' = h.b';
  row_is = times_row k h.v' h.b' row r power h.row_is h.power_is t;
  power_is = h.power_is;
  same = λ j l. sym (repeated_first k h.b' (half + half) h.v' j) ∙ ap (λ (n : ℕ). repeated k h.b' n h.v' j) (sym e) ∙ h.same j l;
}

pub even_row : (k times rest half : ℕ) (v : ℕ → ℕ) (b : ℕ → ℕ → ℕ) (row : List (Option ℕ)) (power : Square) → rest ≡ half + half
    → Reached k times rest v b row power → Reached k times (half + half) v b row power
even_row k times rest half v b row power e h = record {
  v' = h.v';
  b' = h.b';
  row_is = h.row_is;
  power_is = h.power_is;
  same = λ j l. ap (λ (n : ℕ). repeated k h.b' n h.v' j) (sym e) ∙ h.same j l;
}

pub squared : (k times half : ℕ) (v : ℕ → ℕ) (b : ℕ → ℕ → ℕ) (row : List (Option ℕ)) (power p : Square)
    → Reached k times (half + half) v b row power → IsProduct power power p → Reached k times half v b row p
squared k times half v b row power p h t = record {
  v' = h.v';
  b' = product k h.b' h.b';
  row_is = h.row_is;
  power_is = times_matrix k h.b' h.b' power power p h.power_is h.power_is t;
  same = λ j l. sym (repeated_double k h.b' half h.v' j) ∙ h.same j l;
}

pub none_left : (k times half : ℕ) (v : ℕ → ℕ) (b : ℕ → ℕ → ℕ) (row : List (Option ℕ)) (power : Square) → half ≡ 0
    → Reached k times (half + half) v b row power → Reached k times half v b row power
none_left k times half v b row power e h =
    record { v' = h.v'; b' = h.b'; row_is = h.row_is; power_is = h.power_is; same = λ j l. ap (λ (n : ℕ). repeated k h.b' n h.v' j) (let d : half ≡ half + half = omega arith in d) ∙ h.same j l }

-- nothing is left
pub reached : (k times : ℕ) (v : ℕ → ℕ) (b : ℕ → ℕ → ℕ) (row : List (Option ℕ)) (power : Square) → Reached k times 0 v b row power → IsRow k (repeated k b times v) row
reached k times v b row power h = record { len = h.row_is.len; places = λ j l. h.row_is.places j l ∙ ap capped (h.same j l) }

pub starts : (k times : ℕ) (v : ℕ → ℕ) (b : ℕ → ℕ → ℕ) (row : List (Option ℕ)) (power : Square) → IsRow k v row → IsMatrix k b power → Reached k times times v b row power
starts k times v b row power h g = record { v' = v; b' = b; row_is = h; power_is = g; same = λ j l. refl }

-- at most two products more, and half the rest
pub fewer : (rest p q bound : ℕ) → 0 < rest → q ≤ p + 2 → (j : ℕ) × (rest < 2 ^ j) × (p + 2 * j ≤ bound) → (j : ℕ) × (rest / 2 < 2 ^ j) × (q + 2 * j ≤ bound)
fewer rest p q bound h e f = by f.0 f.1 f.2
  where
    by : (j : ℕ) → rest < 2 ^ j → p + 2 * j ≤ bound → (j : ℕ) × (rest / 2 < 2 ^ j) × (q + 2 * j ≤ bound)
    by zero l m = absurd (let o : 2 ^ 0 ≡ 1 = refl in omega arith)
    by (suc j) l m = (j, (let o : 2 ^ suc j ≡ 2 ^ j * 2 = simp unary_clauses in omega arith), omega arith)

-- the row after the odd one of the rest was taken, where half of it is left of the square
pub record Halved (first : List (Option ℕ)) (matrix : Square) (times rest : ℕ) (row : List (Option ℕ)) (power : Square) : Type 0 where
  pub size : length row ≡ power.size
  pub reached : (k : ℕ) (v : ℕ → ℕ) (b : ℕ → ℕ → ℕ) → IsRow k v first → IsMatrix k b matrix → Reached k times (rest / 2 + rest / 2) v b row power

pub halved_odd : (first : List (Option ℕ)) (matrix : Square) (times rest : ℕ) (row r : List (Option ℕ)) (power : Square) → rest % 2 ≡ 1 → IsRowTimes row power r
    → ((k : ℕ) (v : ℕ → ℕ) (b : ℕ → ℕ → ℕ) → IsRow k v first → IsMatrix k b matrix → Reached k times rest v b row power) → Halved first matrix times rest r power
halved_odd first matrix times rest row r power o t h = record {
  size = t.len;
  reached = λ k v b f m. odd_row k times rest (rest / 2) v b row r power (omega arith) (h k v b f m) t;
}

pub halved_even : (first : List (Option ℕ)) (matrix : Square) (times rest : ℕ) (row : List (Option ℕ)) (power : Square) → (rest % 2 ≡ 1 → ⊥) → length row ≡ power.size
    → ((k : ℕ) (v : ℕ → ℕ) (b : ℕ → ℕ → ℕ) → IsRow k v first → IsMatrix k b matrix → Reached k times rest v b row power) → Halved first matrix times rest row power
halved_even first matrix times rest row power o s h = record {
  size = s;
  reached = λ k v b f m. even_row k times rest (rest / 2) v b row power (omega arith) (h k v b f m);
}

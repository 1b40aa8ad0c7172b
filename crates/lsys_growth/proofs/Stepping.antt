-- Turns and single steps.
use Rattle.std.proofs.Common.{◌≡◌, ℕ, zero, suc, ◌+◌, ◌-◌, ◌*◌, ◌<◌, ◌≤◌, ◌/◌, ◌%◌, List, Option, length, refl, ap, sym, ◌∙◌, subst, arith}
use Rattle.std.proofs.Math.Nat.{div-add-mod, mod-lt}
use Rattle.lsys_syntax.specs.Strings.{ModuleName}
use Rattle.lsys_spec.specs.Systems.{System}
use Rattle.lsys_growth.specs.Capped.{capped}
use Rattle.lsys_growth.specs.Sums.{row_after, repeated, product, steps_product}
use Rattle.lsys_growth.specs.Matrices.{Square, IsRow, IsMatrix, IsRowTimes, IsProduct}
use Rattle.lsys_growth.proofs.Sums.{row_by_product}
use Rattle.lsys_growth.proofs.Powers.{StandsFor, steps_stand, run_whole}
use Rattle.lsys_growth.proofs.Squaring.{times_row, times_matrix}
use Rattle.lsys_growth.specs.Counts.{step_matrix, first_counts, counts_after}
use Rattle.lsys_growth.proofs.ToldLevels.{steps_again}
use Rattle.lsys_growth.specs.Steps.{turn_matrix, AfterTurns, AfterSteps, FewProductsForTurns, FewProductsForLevel}

-- a matrix after those of the steps before step l
abbrev with_before : ℕ → (ℕ → ℕ → ℕ → ℕ) → ℕ → (ℕ → ℕ → ℕ) → ℕ → ℕ → ℕ
with_before k a zero b = b
with_before k a (suc l) b = product k (steps_product k a l) b

-- the matrix of the steps from step l on, up to the last
pub record IsRest (k : ℕ) (a : ℕ → ℕ → ℕ → ℕ) (last l : ℕ) (m : Square) : Type 0 where
  pub b : ℕ → ℕ → ℕ
  pub is : IsMatrix k b m
  pub whole : (i j : ℕ) → with_before k a l b i j ≡ steps_product k a last i j

-- one more step in front
pub step_before : (k : ℕ) (a : ℕ → ℕ → ℕ → ℕ) (last l : ℕ) (turn step m : Square) → 0 < l → IsRest k a last l turn → IsMatrix k (a (l - 1)) step → IsProduct step turn m → IsRest k a last (l - 1) m
step_before k a last zero turn step m some r s p = absurd (omega arith)
step_before k a last (suc l) turn step m some r s p =
    let e : suc l - 1 ≡ l = omega arith in
    subst (λ (n : ℕ). IsRest k a last n m) (sym e)
    (record { b = product k (a l) r.b; is = times_matrix k (a l) r.b step turn m (subst (λ (n : ℕ). IsMatrix k (a n) step) e s) r.is p; whole = λ i j. in_front l i j ∙ r.whole i j })
  where
    in_front : (l i j : ℕ) → with_before k a l (product k (a l) r.b) i j ≡ product k (steps_product k a l) r.b i j
    in_front zero i j = refl
    in_front (suc l) i j = sym (row_by_product k (steps_product k a l i) (a (suc l)) r.b j)

-- one more single step
pub next_run : (k : ℕ) (a : ℕ → ℕ → ℕ → ℕ) (l : ℕ) (v : ℕ → ℕ) (row r : List (Option ℕ)) (step : Square) → IsRow k (row_after k a 0 l v) row → IsMatrix k (a l) step → IsRowTimes row step r → IsRow k (row_after k a 0 (l + 1) v) r
next_run k a l v row r step h s p =
    let e : l + 1 ≡ suc l = omega arith in
    let f : l ≡ 0 + l = omega arith in
    subst (λ (n : ℕ). IsRow k (row_after k a 0 n v) r) (sym e)
    (times_row k (row_after k a 0 l v) (a (0 + l)) row r step h (subst (λ (n : ℕ). IsMatrix k (a n) step) f s) p)

-- the row of a level: after whole turns, and then after the steps that are left
pub level_row : (s : System) (ns : List ModuleName) (level : ℕ) (first row r : List (Option ℕ)) → 0 < length s.schedule
    → IsRow (suc (length ns)) (first_counts s ns) first
    → AfterTurns s ns (level / length s.schedule) first row
    → AfterSteps s ns (level % length s.schedule) row r
    → IsRow (suc (length ns)) (counts_after s ns level) r
level_row s ns level first row r some f g h =
    let k = suc (length ns) in
    let n = length s.schedule in
    let q = level / n in
    let m = level % n in
    let whole : n * q + m ≡ level = div-add-mod level n in
    let one : suc (n - 1) ≡ n = omega (arith, some) in
    let turn : StandsFor k (step_matrix s ns) 0 n (turn_matrix s ns) = subst (λ (x : ℕ). StandsFor k (step_matrix s ns) 0 x (turn_matrix s ns)) one (steps_stand k (step_matrix s ns) (n - 1)) in
    let left : IsRow k (row_after k (step_matrix s ns) 0 m (repeated k (turn_matrix s ns) q (first_counts s ns))) r = h (repeated k (turn_matrix s ns) q (first_counts s ns)) (g (first_counts s ns) f) in
    record {
      len = left.len;
      places = λ i u.
          left.places i u
          ∙ ap capped (sym (run_whole k (step_matrix s ns) n (turn_matrix s ns) (steps_again s ns) turn q m (first_counts s ns) i u)
          ∙ ap (λ (x : ℕ). row_after k (step_matrix s ns) 0 x (first_counts s ns) i) whole);
    }

-- the products of whole turns, and one more for each step that is left
pub few_in_all : (s : System) (level before between after : ℕ) → 0 < length s.schedule
    → FewProductsForTurns s (level / length s.schedule) before between
    → after ≤ between + level % length s.schedule
    → FewProductsForLevel s level before after
few_in_all s level before between after some f l k h =
    let e = f k h in
    let m : level % length s.schedule < length s.schedule = mod-lt level some in
    omega (arith, e, l, m)

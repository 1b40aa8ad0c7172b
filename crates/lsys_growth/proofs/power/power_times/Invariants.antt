use Rattle.std.proofs.Common.{◌≡◌, ◌+◌, ◌*◌, ◌<◌, ◌≤◌, ◌^◌, ℕ, length}
use Rattle.lsys_growth.specs.Matrices.{IsRow, IsMatrix}
use Rattle.lsys_growth.proofs.Squaring.{Reached}
use Rattle.lsys_growth.proofs.power.power_times.Given as goal

abbrev pub invariant-loop-rest : goal.invariant-loop-rest
invariant-loop-rest g l = record {
  size : length l.row.items ≡ l.power.size;
  reached : (k : ℕ) (v : ℕ → ℕ) (b : ℕ → ℕ → ℕ) → IsRow k v l.fn.first.items → IsMatrix k b l.fn.matrix → Reached k l.times l.rest v b l.row.items l.power;
  count : (k : ℕ) → l.times < 2 ^ k → (j : ℕ) × (l.rest < 2 ^ j) × (l.products + 2 * j ≤ l.initial.products + 2 * k);
}

abbrev pub decreases-loop-rest : goal.decreases-loop-rest
decreases-loop-rest g l = l.rest

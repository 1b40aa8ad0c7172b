use Rattle.std.proofs.Common.{◌≡◌, ◌+◌, ◌<◌, ℕ, length}
use Rattle.lsys_growth.specs.Capped.{capped}
use Rattle.lsys_growth.specs.Sums.{row_by}
use Rattle.lsys_growth.specs.Matrices.{place, entry}
use Rattle.lsys_growth.proofs.matrix.push_row.Given as goal

abbrev pub invariant-loop-column : goal.invariant-loop-column
invariant-loop-column l = record {
  len : length l.entries.items ≡ length l.initial.entries.items + l.column;
  before : (i : ℕ) → i < length l.initial.entries.items → place l.entries.items i ≡ place l.initial.entries.items i;
  cells : (j : ℕ) → j < l.column → place l.entries.items (length l.initial.entries.items + j) ≡ capped (row_by l.m.size (place l.row) (entry l.m) j);
}

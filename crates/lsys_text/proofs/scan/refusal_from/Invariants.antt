use Rattle.std.proofs.Common.{◌≡◌, ◌-◌, ◌≤◌, ℕ, length, Err}
use Rattle.std.specs.Prelude.{IsOk}
use Rattle.lsys_text.specs.Scans.{rest_from}
use Rattle.lsys_text.proofs.scan.refusal_from.Given as goal

abbrev pub invariant-rest : goal.invariant-rest
invariant-rest l = record {
  within : l.cursor.place ≤ length l.line;
  fine : IsOk (rest_from l.line l.cursor) → IsOk (rest_from l.line l.initial.cursor);
  refused : (column : ℕ) → rest_from l.line l.cursor ≡ Err column → rest_from l.line l.initial.cursor ≡ Err column;
}

abbrev pub decreases-rest : goal.decreases-rest
decreases-rest l = length l.line - l.cursor.place

use Rattle.std.proofs.Common.{◌≡◌, length}
use Rattle.lsys_level.proofs.Rows.{Filled}
use Rattle.lsys_level.proofs.row.Row.of.Given as goal

abbrev pub invariant-loop-place : goal.invariant-loop-place
invariant-loop-place l = record {
  long : length l.places.items ≡ l.place;
  filled : Filled l.symbols l.tags l.keys l.mates.items l.place l.places.items l.values.items;
}

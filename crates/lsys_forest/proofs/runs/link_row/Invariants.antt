use Rattle.std.proofs.Common.{◌≡◌, length, take}
use Rattle.lsys_forest.specs.Ranks.{LinksRow}
use Rattle.lsys_forest.proofs.runs.link_row.Given as goal

abbrev pub invariant-loop-place : goal.invariant-loop-place
invariant-loop-place g l = record {
  row : LinksRow l.fn.table.footings l.table.footings l.fn.before (take l.place l.kids) l.last;
  table : l.table ≡ record l.fn.table { footings = l.table.footings };
  end : l.place-end ≡ length l.kids;
}

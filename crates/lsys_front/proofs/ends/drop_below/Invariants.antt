use Rattle.std.proofs.Common.{◌≡◌, ◌-◌, ◌++◌, ℕ}
use Rattle.lsys_spec.specs.Rows.{In}
use Rattle.lsys_forest.specs.Groves.{now_of, IsLive}
use Rattle.lsys_front.specs.Ends.{answered_in, rows_from}
use Rattle.lsys_front.proofs.ends.drop_below.Given as goal

abbrev pub invariant-loop : goal.invariant-loop
invariant-loop g l = record {
  lives : (k : ℕ) → In k l.row.items → IsLive l.forest k;
  dropped : l.dropped.items ++ answered_in (now_of l.forest) (rows_from (now_of l.forest) (l.levels - l.counter) l.row.items)
      ≡ l.fn.dropped.items ++ answered_in (now_of l.forest) (rows_from (now_of l.forest) l.levels l.fn.nodes.items);
}

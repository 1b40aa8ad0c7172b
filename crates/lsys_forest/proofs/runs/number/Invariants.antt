use Rattle.std.proofs.Common.{◌≡◌, ◌<◌, ℕ, Some, length, slice_get}
use Rattle.lsys_spec.specs.Rows.{In}
use Rattle.lsys_forest.specs.declared.walk.Way.{Way}
use Rattle.lsys_forest.specs.Slots.{rank_at, link_at, footing_mate}
use Rattle.lsys_forest.proofs.runs.number.Given as goal

abbrev pub invariant-loop-place : goal.invariant-loop-place
invariant-loop-place g l = record {
  stands : (i k : ℕ) → i < l.place → slice_get l.kids i ≡ Some k → rank_at l.table.footings k ≡ i;
  others : (k : ℕ) → (In k l.kids → ⊥) → rank_at l.table.footings k ≡ rank_at l.fn.table.footings k;
  links : (way : Way) (k : ℕ) → link_at way l.table.footings k ≡ link_at way l.fn.table.footings k;
  mates : (k : ℕ) → footing_mate l.table.footings k ≡ footing_mate l.fn.table.footings k;
  table : l.table ≡ record l.fn.table { footings = l.table.footings };
  end : l.place-end ≡ length l.kids;
}

use Rattle.std.proofs.Common.{Option, ℕ, replicate, ap}
use Rattle.lsys_region.proofs.TableLemmas.{IsSound-nil}
use Rattle.lsys_region.proofs.table.PartTable.new.Goals as goal

pub invariant_of-result : goal.invariant_of-result
invariant_of-result c = IsSound-nil _ _ _ c.new.ensures.entries (ap (λ (o : Option ℕ). replicate 64 o) c.none-none.ensures)

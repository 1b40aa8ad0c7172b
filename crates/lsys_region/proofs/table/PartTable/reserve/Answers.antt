use Rattle.lsys_region.specs.Rows.{entries_of_rows}
use Rattle.lsys_region.proofs.TableLemmas.{length-parts_of}
use Rattle.lsys_region.proofs.table.PartTable.reserve.Goals as goal

pub returns-clause-ok : goal.returns-clause-ok
returns-clause-ok c = rw (length-parts_of (entries_of_rows c.reserve.new.self) c.self.inside.end) c.reserve.ensures.ok

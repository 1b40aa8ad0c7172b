use Rattle.std.proofs.Common.{subst}
use Rattle.lsys_forest.specs.Regions.{HasNoVacantRuns}
use Rattle.lsys_forest.proofs.RegionLemmas.{none_vacant}
use Rattle.lsys_forest.proofs.table.NodeTable.law_of_vacant_numbers.Goals as goal

pub returns : goal.returns
returns g c = subst HasNoVacantRuns c.self.view_is (none_vacant c.self.inside.nodes)

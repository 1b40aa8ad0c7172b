use Rattle.lsys_growth.specs.Capped.{cap}
use Rattle.lsys_growth.proofs.Sums.{stops_product}
use Rattle.lsys_growth.proofs.laws.law_of_stopping.Goals as goal

pub returns-clause-product : goal.returns-clause-product
returns-clause-product c = stops_product cap

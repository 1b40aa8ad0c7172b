use Rattle.std.proofs.Common.{◌≡◌, ◌+◌, ◌++◌, drop, map}
use Rattle.std.specs.Prelude.{filter}
use Rattle.lsys_module.specs.Views.{module_name}
use Rattle.lsys_growth.specs.Matrices.{place}
use Rattle.lsys_growth.specs.Growth.{stands}
use Rattle.lsys_growth.specs.Counts.{paired}
use Rattle.lsys_growth.specs.Views.{count_of}
use Rattle.lsys_growth.proofs.growing.counts_of.Given as goal

abbrev pub invariant-loop-place : goal.invariant-loop-place
invariant-loop-place l =
    map count_of l.counts.items ++ filter stands (paired (map module_name (drop l.place l.letters)) (λ i. place l.row (l.place + i)))
    ≡ filter stands (paired (map module_name l.letters) (place l.row))

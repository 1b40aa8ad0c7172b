use Rattle.std.proofs.Common.{map}
use Rattle.lsys_module.specs.Views.{module_name, string_of}
use Rattle.lsys_growth.proofs.Counts.{CountsTo}
use Rattle.lsys_growth.proofs.counting.push_axiom.Given as goal

abbrev pub invariant-loop-place : goal.invariant-loop-place
invariant-loop-place l = CountsTo (map module_name l.letters) (string_of l.symbols) l.place l.initial.entries.items l.entries.items

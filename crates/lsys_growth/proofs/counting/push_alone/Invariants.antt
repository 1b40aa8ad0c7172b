use Rattle.std.proofs.Common.{map}
use Rattle.std.specs.Option.{option_map}
use Rattle.lsys_module.specs.Views.{module_name}
use Rattle.lsys_growth.specs.Counting.{letter_alone}
use Rattle.lsys_growth.proofs.Counts.{CountsTo}
use Rattle.lsys_growth.proofs.counting.push_alone.Given as goal

abbrev pub invariant-loop-place : goal.invariant-loop-place
invariant-loop-place l = CountsTo (map module_name l.letters) (letter_alone (option_map module_name l.symbol)) l.place l.initial.entries.items l.entries.items

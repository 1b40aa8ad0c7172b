use Rattle.std.proofs.Common.{map}
use Rattle.lsys_module.specs.Views.{module_name}
use Rattle.lsys_bodies.specs.Views.{template_symbol}
use Rattle.lsys_growth.proofs.Counts.{CountsTo}
use Rattle.lsys_growth.proofs.counting.push_successor.Given as goal

abbrev pub invariant-loop-place : goal.invariant-loop-place
invariant-loop-place l = CountsTo (map module_name l.letters) (map template_symbol l.templates) l.place l.initial.entries.items l.entries.items

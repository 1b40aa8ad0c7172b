use Rattle.std.proofs.Common.{map, drop}
use Rattle.lsys_syntax.specs.Smalls.{HaveFewParams}
use Rattle.lsys_bodies.specs.Views.{template_symbol}
use Rattle.lsys_rewrite.proofs.Successors.{Grown}
use Rattle.lsys_rewrite.proofs.filling.add_front.Given as goal

-- the symbols of the templates so far are added
abbrev pub invariant-loop-template : goal.invariant-loop-template
invariant-loop-template l = record {
  grown : Grown l.initial.symbols l.symbols l.templates l.template-index l.bound;
  few : HaveFewParams (map template_symbol (drop l.template-index l.templates));
}

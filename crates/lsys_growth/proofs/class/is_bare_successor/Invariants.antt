use Rattle.std.proofs.Common.{◌≡◌, drop, map}
use Rattle.lsys_bodies.specs.Views.{template_symbol}
use Rattle.lsys_growth.specs.Growth.{is_bare}
use Rattle.lsys_growth.proofs.class.is_bare_successor.Given as goal

abbrev pub invariant-loop-template : goal.invariant-loop-template
invariant-loop-template l = is_bare (map template_symbol (drop l.template-index l.templates)) ≡ is_bare (map template_symbol l.templates)

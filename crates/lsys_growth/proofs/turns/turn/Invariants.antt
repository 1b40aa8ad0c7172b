use Rattle.std.proofs.Common.{◌≡◌, ◌+◌, ◌-◌, ◌≤◌, length, map}
use Rattle.lsys_module.specs.Views.{module_name}
use Rattle.lsys_growth.specs.Counts.{step_matrix}
use Rattle.lsys_growth.specs.Steps.{width}
use Rattle.lsys_growth.proofs.Stepping.{IsRest}
use Rattle.lsys_growth.proofs.turns.turn.Given as goal

abbrev pub invariant-back : goal.invariant-back
invariant-back g l = record {
  rest : IsRest (width (map module_name l.letters)) (step_matrix l.system (map module_name l.letters)) (length l.system.schedule - 1) l.level l.turn;
  size : l.turn.size ≡ width (map module_name l.letters);
  count : l.products + l.level + 1 ≤ l.initial.products + length l.system.schedule;
}

abbrev pub decreases-back : goal.decreases-back
decreases-back g l = l.level

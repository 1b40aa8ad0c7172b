use Rattle.std.proofs.Common.{◌≡◌, ◌+◌, ◌≤◌, length, map}
use Rattle.lsys_module.specs.Views.{module_name}
use Rattle.lsys_growth.specs.Steps.{width, AfterSteps}
use Rattle.lsys_growth.proofs.turns.after_steps.Given as goal

abbrev pub invariant-loop-level : goal.invariant-loop-level
invariant-loop-level g l = record {
  size : length l.row.items ≡ width (map module_name l.letters);
  told : AfterSteps l.system (map module_name l.letters) l.level l.fn.first.items l.row.items;
  count : l.products ≤ l.initial.products + l.level;
}

use Rattle.std.proofs.Common.{◌<◌, ◌-◌, ◌∙◌, length, map, arith}
use Rattle.lsys_module.specs.Views.{module_name}
use Rattle.lsys_growth.specs.Counts.{step_matrix}
use Rattle.lsys_growth.specs.Steps.{width}
use Rattle.lsys_growth.proofs.Stepping.{step_before}
use Rattle.lsys_growth.proofs.turns.turn.Goals as goal

pub back-preserved : goal.back-preserved
back-preserved g c =
    let ns = map module_name c.args.letters.now in
    let s = c.args.system.now in
    let i = c.back.invariant in
    let p = c.in_ok-turn-2.ensures.product in
    let some : 0 < c.back.level = c.back-test.true in
    record {
      rest = step_before (width ns) (step_matrix s ns) (length s.schedule - 1) c.back.level c.back.turn c.in_ok-step.step c.in_ok-turn-2.turn some i.rest c.in_ok-step.ensures p;
      size = p.size ∙ c.in_ok-step.ensures.size;
      count = (let k = i.count in let n = c.in_ok-turn-2.ensures.count in omega (arith, k, n, some));
    }

use Rattle.std.proofs.Common.{List, ℕ, map, subst, ◌∙◌, arith}
use Rattle.std.specs.Prelude.{Option}
use Rattle.lsys_module.specs.Views.{module_name}
use Rattle.lsys_growth.specs.Matrices.{IsRowTimes}
use Rattle.lsys_growth.specs.Counts.{step_matrix}
use Rattle.lsys_growth.specs.Steps.{width, AfterSteps}
use Rattle.lsys_growth.proofs.Stepping.{next_run}
use Rattle.lsys_growth.proofs.turns.after_steps.Goals as goal

pub loop-level-preserved : goal.loop-level-preserved
loop-level-preserved g c =
    let s = c.args.system.now in
    let ns = map module_name c.args.letters.now in
    let i = c.loop-level.invariant in
    let t : IsRowTimes c.loop-level.row.items c.in_ok-step.step c.in_ok-row.row.items = subst (λ (l : List (Option ℕ)). IsRowTimes l c.in_ok-step.step c.in_ok-row.row.items) c.deref.ensures.value c.in_ok-row.ensures.product in
    let n = c.in_ok-row.ensures.count in
    record {
      size = t.len ∙ c.in_ok-step.ensures.size;
      told = λ v f. next_run (width ns) (step_matrix s ns) c.loop-level.level v c.loop-level.row.items c.in_ok-row.row.items c.in_ok-step.step (i.told v f) c.in_ok-step.ensures t;
      count = (let k = i.count in omega (arith, k, n));
    }

pub returns-clause-row : goal.returns-clause-row
returns-clause-row g c =
    let s = c.args.system.now in
    let ns = map module_name c.args.letters.now in
    let g = c.loop-level-test.false in
    let a = c.loop-level.auto.level-end in
    subst (λ (n : ℕ). AfterSteps s ns n c.args.first.items c.loop-level.row.items) (omega (arith, g, a)) c.loop-level.invariant.told

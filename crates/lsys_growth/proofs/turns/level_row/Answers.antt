use Rattle.std.proofs.Common.{arith, ◌≡◌, ◌+◌, ◌<◌, ◌≤◌, ℕ, map, ap, subst, length, ◌/◌, ◌%◌}
use Rattle.std.proofs.lemmas.Grind.{elements}
use Rattle.lsys_module.specs.Views.{module_name}
use Rattle.lsys_growth.specs.Counts.{first_counts}
use Rattle.lsys_growth.specs.Steps.{IsLevelRow, AfterSteps, AfterTurns, FewProductsForTurns}
use Rattle.lsys_growth.proofs.Stepping.{level_row, few_in_all}
use Rattle.lsys_growth.proofs.Results.{if_ok}
use Rattle.lsys_growth.proofs.turns.level_row.Goals as goal

pub after_steps-requires : goal.after_steps-requires
after_steps-requires g c = (c.in_ok-row.ensures.row (first_counts c.args.system.now (map module_name c.args.letters.now)) c.in_ok-first.ensures).len

pub returns-clause-row : goal.returns-clause-row
returns-clause-row g c =
    let s = c.args.system.now in
    let ns = map module_name c.args.letters.now in
    let first = c.in_ok-first.first.items in
    let row = c.in_ok-row.row.items in
    let n = length c.schedule.result.now in
    let words : n ≡ length s.schedule = ap length c.schedule.ensures.words in
    let some : 0 < length s.schedule = c.schedule.ensures.well.0.some_word in
    let turns : AfterTurns s ns (c.args.level / length s.schedule) first row = subst (λ (m : ℕ). AfterTurns s ns (c.args.level / m) first row) words c.in_ok-row.ensures.row in
    if_ok (λ r. AfterSteps s ns (c.args.level % n) row r.items) (λ r. IsLevelRow s ns c.args.level r.items) c.after_steps.result
    (λ r h. level_row s ns c.args.level first row r.items some c.in_ok-first.ensures turns (subst (λ (m : ℕ). AfterSteps s ns (c.args.level % m) row r.items) words h))
    c.after_steps.ensures.row

pub returns-clause-count : goal.returns-clause-count
returns-clause-count g c =
    let s = c.args.system.now in
    let n = length c.schedule.result.now in
    let words : n ≡ length s.schedule = ap length c.schedule.ensures.words in
    let turns : FewProductsForTurns s (c.args.level / length s.schedule) c.args.products.now c.after_turns.new.products = subst (λ (m : ℕ). FewProductsForTurns s (c.args.level / m) c.args.products.now c.after_turns.new.products) words c.in_ok-row.ensures.count in
    few_in_all s c.args.level c.args.products.now c.after_turns.new.products c.after_steps.new.products c.schedule.ensures.well.0.some_word turns
    (subst (λ (m : ℕ). c.after_steps.new.products ≤ c.after_turns.new.products + c.args.level % m) words c.after_steps.ensures.count)

pub overflow_cast-level : goal.overflow_cast-level
overflow_cast-level g c = grind (arith, elements)

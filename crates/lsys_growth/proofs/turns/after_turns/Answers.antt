use Rattle.std.proofs.Common.{map}
use Rattle.lsys_module.specs.Views.{module_name}
use Rattle.lsys_growth.specs.Matrices.{IsRowAfter}
use Rattle.lsys_growth.specs.Steps.{width, turn_matrix, AfterTurns}
use Rattle.lsys_growth.proofs.Results.{if_ok}
use Rattle.lsys_growth.proofs.turns.after_turns.Goals as goal

pub returns-clause-row : goal.returns-clause-row
returns-clause-row g c =
    let s = c.args.system.now in
    let ns = map module_name c.args.letters.now in
    if_ok (λ r. IsRowAfter c.args.first.items c.in_ok-turn.turn c.args.turns r.items) (λ r. AfterTurns s ns c.args.turns c.args.first.items r.items) c.power_times.result
    (λ r h v f. h (width ns) v (turn_matrix s ns) f c.in_ok-turn.ensures.product) c.power_times.ensures.row

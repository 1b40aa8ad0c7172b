use Rattle.lsys_spec.specs.Lattices.{Turn, turn_left, turn_right, pitch_down, pitch_up, roll_left, roll_right, turn_round}
use Rattle.lsys_lattice.specs.CubicTable.{turned_upright}
use Rattle.lsys_lattice.proofs.cubic.CubicLattice.turn.Goals as goal
use Rattle.lsys_lattice.proofs.cubic.CubicLattice.turn.Goals.{in-Left, in-Right, in-Down, in-Up, in-RollLeft, in-RollRight, in-Round}

pub invariant_of-result : goal.invariant_of-result
invariant_of-result c =
    let f = c.args.frame in
    let after = λ (turn : Turn). turned_upright f.heading f.left f.up turn f.upright in
    elim c.match-kind.branch [
      | in-Left w ↦ record { upright = rw (w.result-is, w.opposite.ensures) (after turn_left) }
      | in-Right w ↦ record { upright = rw (w.result-is, w.opposite-in-Right.ensures) (after turn_right) }
      | in-Down w ↦ record { upright = rw (w.result-is, w.opposite-in-Down.ensures) (after pitch_down) }
      | in-Up w ↦ record { upright = rw (w.result-is, w.opposite-in-Up.ensures) (after pitch_up) }
      | in-RollLeft w ↦ record { upright = rw (w.result-is, w.opposite-in-RollLeft.ensures) (after roll_left) }
      | in-RollRight w ↦ record { upright = rw (w.result-is, w.opposite-in-RollRight.ensures) (after roll_right) }
      | in-Round w ↦ record { upright = rw (w.result-is, w.opposite-in-Round.ensures, w.opposite-in-Round-2.ensures) (after turn_round) }
    ]

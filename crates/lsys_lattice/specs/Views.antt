-- Places and turns as the definitions name them.
use Rattle.lsys_spec.specs.Lattices.{Vector, vector, Turn, turn_left, turn_right, pitch_down, pitch_up, roll_left, roll_right, turn_round}
use Rattle.lsys_lattice.specs.declared.Place.{Place}
use Rattle.lsys_lattice.specs.declared.Turn.{Turn as CodeTurn}
use Rattle.lsys_lattice.specs.declared.Turn.TheVariants.{Left, Right, Down, Up, RollLeft, RollRight, Round}

abbrev pub vector_of : Place → Vector
vector_of p = vector p.x p.y p.z

abbrev pub turn_of : CodeTurn → Turn
turn_of Left = turn_left
turn_of Right = turn_right
turn_of Down = pitch_down
turn_of Up = pitch_up
turn_of RollLeft = roll_left
turn_of RollRight = roll_right
turn_of Round = turn_round

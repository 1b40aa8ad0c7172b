use Rattle.lsys_flat.proofs.Moves.{levels_alike, all_can_move}
use Rattle.lsys_flat.proofs.counted.law_of_moves.Goals as goal

pub returns-clause-levels : goal.returns-clause-levels
returns-clause-levels c = levels_alike

pub returns-clause-places : goal.returns-clause-places
returns-clause-places c s store rows xs ys olds fresh taken r h t = all_can_move s store rows xs olds ys fresh taken r h t

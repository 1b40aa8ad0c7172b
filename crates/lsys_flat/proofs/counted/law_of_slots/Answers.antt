use Rattle.lsys_match.specs.Stored.{answer_in}
use Rattle.lsys_flat.proofs.Slots.{moved_slots, all_slots, all_moved_map, told_stay, filled_map}
use Rattle.lsys_flat.proofs.counted.law_of_slots.Goals as goal

pub returns-clause-level : goal.returns-clause-level
returns-clause-level c = moved_slots

pub returns-clause-levels : goal.returns-clause-levels
returns-clause-levels c s rows xs ys olds fresh taken h = all_slots s rows xs olds 0 ys fresh taken h

pub returns-clause-kept : goal.returns-clause-kept
returns-clause-kept c s olds fresh taken = all_moved_map (answer_in s) 0 olds fresh taken

pub returns-clause-stay : goal.returns-clause-stay
returns-clause-stay c = told_stay

pub returns-clause-filled : goal.returns-clause-filled
returns-clause-filled c s slots = filled_map (answer_in s) slots

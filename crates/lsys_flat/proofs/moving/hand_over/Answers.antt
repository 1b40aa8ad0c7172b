use Rattle.std.proofs.Common.{arith}
use Rattle.std.proofs.lemmas.Grind.{common_steps}
use Rattle.lsys_flat.proofs.moving.hand_over.Goals as goal

pub offset_bounds-old-from : goal.offset_bounds-old-from
offset_bounds-old-from g c = grind (arith, common_steps)

pub offset_bounds-new-place : goal.offset_bounds-new-place
offset_bounds-new-place g c = grind (arith, common_steps)

pub returns-clause-taken : goal.returns-clause-taken
returns-clause-taken g c = grind (arith, common_steps)

pub returns-clause-put : goal.returns-clause-put
returns-clause-put g c = grind (arith, common_steps)

use Rattle.std.proofs.Common.{◌∙◌}
use Rattle.std.proofs.Math.Facts.{to_z-of_z}
use mir.Syntax.{w128}
use Rattle.lsys_spec.proofs.Turns.{same_vector}
use Rattle.lsys_motion.proofs.survey.least.Goals as goal

pub returns : goal.returns
returns c =
    same_vector _ _ _ _ _ _ (to_z-of_z {w = w128} {z = c.lesser.result} (record { sfits = c.lesser.type_inv }) ∙ c.lesser.ensures) (to_z-of_z {w = w128} {z = c.lesser-2.result} (record { sfits = c.lesser-2.type_inv }) ∙ c.lesser-2.ensures)
    (to_z-of_z {w = w128} {z = c.lesser-3.result} (record { sfits = c.lesser-3.type_inv }) ∙ c.lesser-3.ensures)

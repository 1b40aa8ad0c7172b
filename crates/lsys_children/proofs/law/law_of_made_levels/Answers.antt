use Rattle.std.proofs.Common.{◌+◌}
use Rattle.lsys_children.proofs.Finishing.{answers_stay}
use Rattle.lsys_children.proofs.Levels.{made_walked, made_alone}
use Rattle.lsys_children.proofs.law.law_of_made_levels.Goals as goal

pub returns : goal.returns
returns c = record {
  walked = made_walked;
  alone = made_alone;
  answers = λ s t root old new by done made. answers_stay s.numbering s.seed old new root (t + 1) by done made.renewals;
}

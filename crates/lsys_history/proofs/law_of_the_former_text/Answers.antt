use Rattle.lsys_syntax.specs.Lines.{lines_of}
use Rattle.lsys_history.specs.Desks.{opening_desk}
use Rattle.lsys_history.proofs.Undoing.{former_lines}
use Rattle.lsys_history.proofs.law_of_the_former_text.Goals as goal

pub returns : goal.returns
returns c = λ limit script M h. former_lines limit M 1 opening_desk (lines_of script) h

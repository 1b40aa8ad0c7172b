use Rattle.lsys_syntax.specs.Lines.{lines_of}
use Rattle.lsys_history.specs.Desks.{opening_desk}
use Rattle.lsys_history.proofs.Spending.{former_costs, last_line, led_to, one_line, told_need}
use Rattle.lsys_history.proofs.law_of_desk_costs.Goals as goal

pub returns : goal.returns
returns c = record {
  leads = led_to;
  told = told_need;
  former = λ visits limit script M h. former_costs visits limit M 1 opening_desk (lines_of script) h;
  line = one_line;
  end = last_line;
}

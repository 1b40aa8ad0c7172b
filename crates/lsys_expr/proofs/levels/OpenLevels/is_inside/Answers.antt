use Rattle.std.proofs.Common.{ap, sym, ◌∙◌, nat_lt}
use Rattle.lsys_expr.specs.Levels.{is_inside}
use Rattle.lsys_expr.proofs.LevelLemmas.{inside-drop}
use Rattle.lsys_expr.proofs.levels.OpenLevels.is_inside.Goals as goal

pub returns : goal.returns
returns c =
    ap (nat_lt c.self.inside.first) (sym c.self.invariant.places)
    ∙ inside-drop c.self.inside.outer c.self.inside.innermost c.self.inside.first
    ∙ ap is_inside c.self.view_is

use Rattle.std.proofs.Common.{◌<◌, ap, sym, subst, ◌∷◌, ◌∙◌}
use Rattle.lsys_expr.specs.Levels.{fresh, inner_nesting}
use Rattle.lsys_expr.specs.InsideLevels.{inside_levels}
use Rattle.lsys_expr.proofs.LevelLemmas.{room-left, opened-levels, opened-sound}
use Rattle.lsys_expr.proofs.levels.OpenLevels.open_parenthesis.Goals as goal

pub overflow_sub-self : goal.overflow_sub-self
overflow_sub-self c =
    let room : inner_nesting (inside_levels c.self.inside) < 32 = subst (λ ls. inner_nesting ls < 32) (sym c.self.view_is) c.requires in
    room-left c.self.inside c.self.invariant room

pub invariant_of-self : goal.invariant_of-self
invariant_of-self c =
    let room : inner_nesting (inside_levels c.self.inside) < 32 = subst (λ ls. inner_nesting ls < 32) (sym c.self.view_is) c.requires in
    opened-sound c.self.inside c.self.invariant room

pub returns-clause-levels : goal.returns-clause-levels
returns-clause-levels c =
    let room : inner_nesting (inside_levels c.self.inside) < 32 = subst (λ ls. inner_nesting ls < 32) (sym c.self.view_is) c.requires in
    opened-levels c.self.inside c.self.invariant room ∙ ap (λ ls. fresh ∷ ls) c.self.view_is

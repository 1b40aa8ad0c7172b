use Rattle.std.proofs.Common.{sym, ap, ◌∙◌}
use Rattle.lsys_spec.specs.Rows.{first_in}
use Rattle.lsys_forest.specs.Rows.{oriented}
use Rattle.lsys_forest.proofs.WalkLemmas.{last_first}
use Rattle.lsys_forest.proofs.walk.first_of.Goals as goal

pub returns-in-Left : goal.returns-in-Left
returns-in-Left c =
    c.copied.ensures ∙ c.last.ensures.value ∙ last_first c.args.kids.now ∙ ap (λ w. first_in (oriented w c.args.kids.now)) (sym c.in-Left.is)

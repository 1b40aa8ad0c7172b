use Rattle.std.proofs.Common.{refl, ◌∙◌}
use Rattle.lsys_level.specs.Spots.{Spotted}
use Rattle.lsys_pass.proofs.Keyed.{tells, at_spot, same_here}
use Rattle.lsys_pass.proofs.derivation.ForestDerivationLevelView.sight.Goals as goal

pub sight-requires : goal.sight-requires
sight-requires g c = at_spot _ _ _ _ (tells c.self.inside.system _ _ _ c.forest.ensures.pass c.self.view_is
    c.forest.ensures.forest) c.args.spot c.requires

pub returns-clause-seen : goal.returns-clause-seen
returns-clause-seen g c = same_here _ _ _ _ (tells c.self.inside.system _ _ _ c.forest.ensures.pass c.self.view_is
    c.forest.ensures.forest) c.args.spot c.requires (λ (s : Spotted). s.seen) (λ x. refl) ∙ c.sight.ensures.seen

use Rattle.std.proofs.Common.{refl, ◌∙◌}
use Rattle.lsys_level.specs.Spots.{Spotted}
use Rattle.lsys_pass.proofs.Keyed.{tells, at_spot, same_here, own_told}
use Rattle.lsys_pass.proofs.derivation.ForestDerivationLevelView.tag.Goals as goal

pub tag-requires : goal.tag-requires
tag-requires g c = at_spot _ _ _ _ (tells c.self.inside.system _ _ _ c.forest.ensures.pass c.self.view_is
    c.forest.ensures.forest) c.args.spot c.requires

pub returns-clause-tag : goal.returns-clause-tag
returns-clause-tag g c = same_here _ _ _ _ (tells c.self.inside.system _ _ _ c.forest.ensures.pass c.self.view_is
    c.forest.ensures.forest) c.args.spot c.requires (λ (s : Spotted). s.tag) (λ x. refl) ∙ c.tag.ensures.tag

pub returns-clause-own : goal.returns-clause-own
returns-clause-own g c = own_told _ _ _ _ (tells c.self.inside.system _ _ _ c.forest.ensures.pass c.self.view_is
    c.forest.ensures.forest)

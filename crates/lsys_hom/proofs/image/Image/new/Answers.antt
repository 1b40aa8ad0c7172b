use Rattle.std.proofs.Common.{[], ◌∙◌, ap}
use Rattle.lsys_level.specs.Spots.{spots_at}
use Rattle.lsys_hom.specs.Coming.{coming_from}
use Rattle.lsys_hom.specs.Ways.{bare_level}
use Rattle.lsys_hom.proofs.Named.{coming_named}
use Rattle.lsys_hom.proofs.image.Image.new.Goals as goal

pub returns : goal.returns
returns g c naming =
    let x = spots_at (g.W.LevelView.levels c.args.view.now) c.args.level in
    c.new.ensures ∙ ap (λ hs. coming_from hs 0 0 (bare_level x)) c.hom_rules.ensures.rules ∙ coming_named c.args.system.now.homomorphisms 0 0 (λ tag. []) naming x

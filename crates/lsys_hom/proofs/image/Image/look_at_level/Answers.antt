use Rattle.std.proofs.Common.{arith, ◌≡◌, [], subst}
use Rattle.std.proofs.lemmas.Grind.{common_steps}
use Rattle.lsys_hom.specs.Looks.{IsKeptLook}
use Rattle.lsys_hom.specs.Parts.{symbols_of}
use Rattle.lsys_hom.specs.Ways.{with_part}
use Rattle.lsys_hom.proofs.Looking.{kept_after}
use Rattle.lsys_hom.proofs.image.Image.look_at_level.Goals as goal

pub returns : goal.returns
returns g c =
    let i = c.self.inside in
    let over : symbols_of i.part ≡ [] = grind (arith, common_steps) in
    subst (λ o. IsKeptLook o (with_part i.part c.pass_kept.new.self.coming) c.pass_kept.result) c.self.view_is
    (kept_after i.part over i.walk.coming c.pass_kept.new.self.coming c.pass_kept.result c.pass_kept.ensures)

use Rattle.std.proofs.Common.{None, subst}
use Rattle.lsys_hom.specs.Looks.{IsKeptLook, IsNextLook}
use Rattle.lsys_hom.proofs.image.Image.look.Goals as goal

pub returns-in-None : goal.returns-in-None
returns-in-None g c =
    let old = c.args.self.now in
    let mid = c.look_at_level.new.self in
    let same : IsKeptLook old mid None = subst (λ o. IsKeptLook old mid o) c.in-None.is c.look_at_level.ensures in
    subst (λ o. IsNextLook o c.look_at_next.new.self c.look_at_next.result) same c.look_at_next.ensures

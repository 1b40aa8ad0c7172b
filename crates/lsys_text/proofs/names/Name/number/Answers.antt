use Rattle.std.proofs.Common.{◌<◌, ◌^◌, ◌∙◌, ap, sym, arith}
use Rattle.lsys_text.specs.Packed.{packed, unpacked, packed-unpacked}
use Rattle.lsys_text.proofs.Kept.{name-kept}
use Rattle.lsys_text.proofs.names.Name.number.Goals as goal

pub returns-clause-number : goal.returns-clause-number
returns-clause-number c =
    let fits : c.self.inside.0 < 2 ^ 128 = omega (arith, c.self.invariant.fits) in
    sym (packed-unpacked c.self.inside.0 fits) ∙ ap packed c.self.view_is

pub returns-clause-no_other : goal.returns-clause-no_other
returns-clause-no_other c text form same = sym (name-kept text form) ∙ ap unpacked same ∙ c.self.view_is

use Rattle.std.proofs.Common.{◌∙◌, ◌<◌, ◌^◌, ap₂, arith}
use Rattle.std.specs.Str.{bytes_eq}
use Rattle.lsys_text.proofs.Kept.{same_number}
use Rattle.lsys_text.proofs.names.NamePartialEq.eq.Goals as goal

pub returns-clause-same : goal.returns-clause-same
returns-clause-same c =
    let left : c.self.inside.0 < 2 ^ 128 = omega (arith, c.self.invariant.fits) in
    let right : c.other.inside.0 < 2 ^ 128 = omega (arith, c.other.invariant.fits) in
    same_number _ _ left right ∙ ap₂ bytes_eq c.self.view_is c.other.view_is

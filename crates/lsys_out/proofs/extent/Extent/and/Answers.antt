use Rattle.std.proofs.Common.{◌≡◌, ◌∙◌, ap₂, ℤ, rules}
use Rattle.std.proofs.Math.Facts.{to_z-of_z}
use mir.Syntax.{w64}
use mir.Val.{SFits, of_z, to_z}
use Rattle.std.specs.Int.{int_max, int_min}
use Rattle.lsys_out.proofs.extent.Extent.and.Goals as goal

-- numbers that are passed as 64 bits and come back so
passed : (f : ℤ → ℤ → ℤ) (a b r : ℤ) → SFits w64 a → SFits w64 b → SFits w64 r → r ≡ f (to_z w64 (of_z w64 a)) (to_z w64 (of_z w64 b)) → to_z w64 (of_z w64 r) ≡ f a b
passed f a b r i j k e = to_z-of_z k ∙ e ∙ ap₂ f (to_z-of_z i) (to_z-of_z j)

pub returns : goal.returns
returns c =
    let e = c.args.self in
    let p = c.args.point in
    let left : to_z w64 (of_z w64 c.min.result) ≡ int_min e.left p.0 = passed int_min e.left p.0 c.min.result (search rules) (search rules) (search rules) c.min.ensures.value in
    let right : to_z w64 (of_z w64 c.max.result) ≡ int_max e.right p.0 = passed int_max e.right p.0 c.max.result (search rules) (search rules) (search rules) c.max.ensures.value in
    let top : to_z w64 (of_z w64 c.min-2.result) ≡ int_min e.top p.1 = passed int_min e.top p.1 c.min-2.result (search rules) (search rules) (search rules) c.min-2.ensures.value in
    let bottom : to_z w64 (of_z w64 c.max-2.result) ≡ int_max e.bottom p.1 = passed int_max e.bottom p.1 c.max-2.result (search rules) (search rules) (search rules) c.max-2.ensures.value in
    cc

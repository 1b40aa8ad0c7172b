use Rattle.std.proofs.Common.{◌≡◌, ℤ, pos, rules, refl}
use Rattle.std.proofs.Math.Facts.{to_z-of_z}
use mir.Syntax.{w64}
use mir.Val.{SFits, of_z, to_z}
use Rattle.lsys_out.proofs.svg.write_line.Goals as goal

-- a number that is passed as 64 bits
passed : (z : ℤ) → SFits w64 z → to_z w64 (of_z w64 z) ≡ z
passed z h = to_z-of_z h

pub returns : goal.returns
returns c =
    let p = c.args.from.now in
    let q = c.args.to.now in
    let x1 = passed p.0 (search rules) in
    let y1 = passed p.1 (search rules) in
    let x2 = passed q.0 (search rules) in
    let y2 = passed q.1 (search rules) in
    let width = passed (pos c.args.width) (search rules) in
    rw (
      c.bytes-6.ensures.text,
      c.number-5.ensures.text,
      c.bytes-5.ensures.text,
      c.number-4.ensures.text,
      c.bytes-4.ensures.text,
      c.number-3.ensures.text,
      c.bytes-3.ensures.text,
      c.number-2.ensures.text,
      c.bytes-2.ensures.text,
      c.number.ensures.text,
      c.bytes.ensures.text,
      c.clear.ensures.text,
      c.from.ensures,
      x1,
      y1,
      x2,
      y2,
      width,
    ) refl

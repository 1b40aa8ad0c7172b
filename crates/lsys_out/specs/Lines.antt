-- The texts of pictures by the parts in which they are put.
use Rattle.std.specs.Prelude.{ℕ, ℤ, pos, ◌+ℤ◌, ◌-ℤ◌, List, [], ◌∷◌, ◌++◌, codes, decimal}
use Rattle.std.specs.Fmt.{signed_decimal}
use Rattle.lsys_spec.specs.Lattices.{Lattice, projected}
use Rattle.lsys_spec.specs.Pictures.{Box, Segment}

-- the end of a line, and for how many bytes more before it there is room
pub record RoomyText : Type 0 where
  pub text : List ℕ
  pub room : ℕ

-- the first line of a list of segments
abbrev pub segments_line : ℕ → List ℕ
segments_line n = codes "segments " ++ (decimal n ++ 10 ∷ [])

-- the first line of a picture as SVG
abbrev pub head_line : Box → List ℕ
head_line b =
    codes "<svg xmlns=\"http://www.w3.org/2000/svg\" viewBox=\"" ++ (signed_decimal b.x ++ 32 ∷ (signed_decimal b.y
    ++ 32 ∷ (signed_decimal b.width ++ 32 ∷ (signed_decimal b.height ++ codes "\">\n"))))

-- a side of the box around points that have these least and greatest coordinates, with a margin of 10
abbrev pub side_text : ℤ → ℤ → List ℕ
side_text least greatest = signed_decimal (greatest -ℤ least +ℤ pos 20)

-- the line between two points
abbrev pub line_between : ℤ × ℤ → ℤ × ℤ → ℕ → List ℕ
line_between p q w =
    codes "<line x1=\"" ++ (signed_decimal p.0 ++ (codes "\" y1=\"" ++ (signed_decimal p.1
    ++ (codes "\" x2=\"" ++ (signed_decimal q.0 ++ (codes "\" y2=\"" ++ (signed_decimal q.1
    ++ (codes "\" stroke=\"black\" stroke-width=\"" ++ (decimal w ++ codes "\"/>\n")))))))))

-- the line of a segment
abbrev pub drawn_line : Lattice → Segment → List ℕ
drawn_line l g = line_between (projected l g.from) (projected l g.to) g.width

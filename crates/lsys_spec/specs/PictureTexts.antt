-- What `segments` and `svg` print.
use Rattle.std.specs.Prelude.{ℕ, List, [], ◌∷◌, ◌++◌, length, decimal, codes, flat_map}
use Rattle.std.specs.Fmt.{signed_decimal}
use Rattle.lsys_spec.specs.Lattices.{Lattice, Vector, projected}
use Rattle.lsys_spec.specs.Pictures.{Segment, Box, box}

abbrev pub place_text : Vector → List ℕ
place_text v = signed_decimal v.x ++ 32 ∷ (signed_decimal v.y ++ 32 ∷ signed_decimal v.z)

-- its start, its end and its width
abbrev pub segment_line : Segment → List ℕ
segment_line g = place_text g.from ++ 32 ∷ (place_text g.to ++ 32 ∷ (decimal g.width ++ 10 ∷ []))

abbrev pub segments_text : List Segment → List ℕ
segments_text gs = codes "segments " ++ (decimal (length gs) ++ 10 ∷ flat_map segment_line gs)

abbrev pub box_text : Box → List ℕ
box_text b = signed_decimal b.x ++ 32 ∷ (signed_decimal b.y ++ 32 ∷ (signed_decimal b.width ++ 32 ∷ signed_decimal b.height))

abbrev pub svg_head : Box → List ℕ
svg_head b = codes "<svg xmlns=\"http://www.w3.org/2000/svg\" viewBox=\"" ++ (box_text b ++ codes "\">\n")

-- an attribute, and a blank before it
abbrev pub attribute : List ℕ → List ℕ → List ℕ
attribute name text = 32 ∷ (name ++ (codes "=\"" ++ (text ++ codes "\"")))

abbrev pub svg_line : Lattice → Segment → List ℕ
svg_line l g =
    let p = projected l g.from in
    let q = projected l g.to in
    codes "<line" ++ (attribute (codes "x1") (signed_decimal p.0) ++ (attribute (codes "y1") (signed_decimal p.1)
    ++ (attribute (codes "x2") (signed_decimal q.0) ++ (attribute (codes "y2") (signed_decimal q.1)
    ++ (attribute (codes "stroke") (codes "black") ++ (attribute (codes "stroke-width") (decimal g.width) ++ codes "/>\n"))))))

abbrev pub svg_text : Lattice → List Segment → List ℕ
svg_text l gs = svg_head (box l gs) ++ (flat_map (svg_line l) gs ++ codes "</svg>\n")

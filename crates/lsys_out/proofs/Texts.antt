-- The texts of pictures are their parts.
use Rattle.std.proofs.Common.{◌≡◌, ℕ, List, [], ◌∷◌, ◌++◌, length, refl, ap, sym, ◌∙◌, append_assoc, codes, decimal}
use Rattle.std.specs.Prelude.{flat_map}
use Rattle.std.specs.Fmt.{signed_decimal}
use Rattle.lsys_spec.specs.Lattices.{Lattice, projected}
use Rattle.lsys_spec.specs.Pictures.{Segment, Box, box}
use Rattle.lsys_spec.specs.PictureTexts.{attribute, segment_line, segments_text, svg_head, svg_line, svg_text}
use Rattle.lsys_out.specs.Drawings.{Drawing, with_first}
use Rattle.lsys_out.specs.Lines.{segments_line, drawn_line, head_line}

pub segments-text : (gs : List Segment) (n : ℕ) → n ≡ length gs → segments_text gs ≡ segments_line n ++ flat_map segment_line gs
segments-text gs n e =
    ap (λ k. codes "segments " ++ (decimal k ++ 10 ∷ flat_map segment_line gs)) (sym e)
    ∙ ap (λ t. codes "segments " ++ t) (sym (append_assoc (decimal n) (10 ∷ []) (flat_map segment_line gs)))
    ∙ sym (append_assoc (codes "segments ") (decimal n ++ 10 ∷ []) (flat_map segment_line gs))

four : (x y w h end : List ℕ) → (x ++ 32 ∷ (y ++ 32 ∷ (w ++ 32 ∷ h))) ++ end ≡ x ++ 32 ∷ (y ++ 32 ∷ (w ++ 32 ∷ (h ++ end)))
four x y w h end =
    append_assoc x (32 ∷ (y ++ 32 ∷ (w ++ 32 ∷ h))) end
    ∙ ap (λ t. x ++ 32 ∷ t) (append_assoc y (32 ∷ (w ++ 32 ∷ h)) end ∙ ap (λ t. y ++ 32 ∷ t) (append_assoc w (32 ∷ h) end))

svg-head : (b : Box) → svg_head b ≡ head_line b
svg-head b =
    ap (λ t. codes "<svg xmlns=\"http://www.w3.org/2000/svg\" viewBox=\"" ++ t)
    (four (signed_decimal b.x) (signed_decimal b.y) (signed_decimal b.width) (signed_decimal b.height) (codes "\">\n"))

-- attributes one after another
five : (a b c d w : List ℕ) → codes "<line" ++ (attribute (codes "x1") a ++ (attribute (codes "y1") b ++ (attribute (codes "x2") c ++ (attribute (codes "y2") d
    ++ (attribute (codes "stroke") (codes "black") ++ (attribute (codes "stroke-width") w ++ codes "/>\n"))))))
    ≡ codes "<line x1=\"" ++ (a ++ (codes "\" y1=\"" ++ (b ++ (codes "\" x2=\"" ++ (c ++ (codes "\" y2=\"" ++ (d ++ (codes "\" stroke=\"black\" stroke-width=\"" ++ (w ++ codes "\"/>\n")))))))))
five a b c d w =
    let from_stroke = attribute (codes "stroke") (codes "black") ++ (attribute (codes "stroke-width") w ++ codes "/>\n") in
    let from_y2 = attribute (codes "y2") d ++ from_stroke in
    let from_x2 = attribute (codes "x2") c ++ from_y2 in
    let from_y1 = attribute (codes "y1") b ++ from_x2 in
    ap (λ t. codes "<line x1=\"" ++ t) (append_assoc a (34 ∷ []) from_y1)
    ∙ ap (λ t. codes "<line x1=\"" ++ (a ++ (codes "\" y1=\"" ++ t))) (append_assoc b (34 ∷ []) from_x2)
    ∙ ap (λ t. codes "<line x1=\"" ++ (a ++ (codes "\" y1=\"" ++ (b ++ (codes "\" x2=\"" ++ t))))) (append_assoc c (34 ∷ []) from_y2)
    ∙ ap (λ t. codes "<line x1=\"" ++ (a ++ (codes "\" y1=\"" ++ (b ++ (codes "\" x2=\"" ++ (c ++ (codes "\" y2=\"" ++ t))))))) (append_assoc d (34 ∷ []) from_stroke)
    ∙ ap (λ t. codes "<line x1=\"" ++ (a ++ (codes "\" y1=\"" ++ (b ++ (codes "\" x2=\"" ++ (c ++ (codes "\" y2=\"" ++ (d ++ (codes "\" stroke=\"black\" stroke-width=\"" ++ t)))))))))
    (append_assoc w (34 ∷ []) (codes "/>\n"))

svg-line : (l : Lattice) (g : Segment) → svg_line l g ≡ drawn_line l g
svg-line l g =
    let p = projected l g.from in let q = projected l g.to in five (signed_decimal p.0) (signed_decimal p.1) (signed_decimal q.0) (signed_decimal q.1) (decimal g.width)

svg-lines : (l : Lattice) (gs : List Segment) → flat_map (svg_line l) gs ≡ flat_map (drawn_line l) gs
svg-lines l [] = refl
svg-lines l (g ∷ gs) = ap (λ t. svg_line l g ++ t) (svg-lines l gs) ∙ ap (λ t. t ++ flat_map (drawn_line l) gs) (svg-line l g)

pub svg-text : (l : Lattice) (gs : List Segment) (b : Box) → b ≡ box l gs → svg_text l gs ≡ head_line b ++ (flat_map (drawn_line l) gs ++ codes "</svg>\n")
svg-text l gs b e =
    ap (λ c. svg_head c ++ (flat_map (svg_line l) gs ++ codes "</svg>\n")) (sym e)
    ∙ ap (λ t. svg_head b ++ (t ++ codes "</svg>\n")) (svg-lines l gs)
    ∙ ap (λ t. t ++ (flat_map (drawn_line l) gs ++ codes "</svg>\n")) (svg-head b)

-- the lines of the segments that are still to come, the first one apart
pub lines-after : (l : Lattice) (now : Drawing) (g : Segment) (next : Drawing) → now ≡ with_first g next
    → flat_map (drawn_line l) now.segments ++ codes "</svg>\n" ≡ drawn_line l g ++ (flat_map (drawn_line l) next.segments ++ codes "</svg>\n")
lines-after l now g next e =
    ap (λ (d : Drawing). flat_map (drawn_line l) d.segments ++ codes "</svg>\n") e
    ∙ append_assoc (drawn_line l g) (flat_map (drawn_line l) next.segments) (codes "</svg>\n")

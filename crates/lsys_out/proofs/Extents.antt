-- The extent of segments one by one is that of the box around all their ends.
use Rattle.std.proofs.Common.{◌≡◌, ℤ, List, [], ◌∷◌, map, fold, refl, ap}
use Rattle.std.specs.Int.{int_min, int_max}
use Rattle.lsys_spec.specs.Lattices.{Lattice, projected}
use Rattle.lsys_spec.specs.Pictures.{Segment, box, origin, segment_ends}
use Rattle.lsys_out.specs.Boxes.{box_of, extended_by, extent_of}
use Rattle.lsys_out.specs.declared.extent.Extent.{Extent}

-- an extent with these points, side by side
abbrev with_points : Extent → List (ℤ × ℤ) → Extent
with_points e ps = record {
  left = fold int_min e.left (map (λ p. p.0) ps);
  right = fold int_max e.right (map (λ p. p.0) ps);
  top = fold int_min e.top (map (λ p. p.1) ps);
  bottom = fold int_max e.bottom (map (λ p. p.1) ps);
}

along : (l : Lattice) (gs : List Segment) (e : Extent) → fold (extended_by l) e gs ≡ with_points e (segment_ends l gs)
along l [] e = refl
along l (g ∷ gs) e = along l gs (extended_by l e g)

pub box_along : (l : Lattice) (gs : List Segment) → box_of (extent_of l gs) ≡ box l gs
box_along l gs = ap box_of (along l gs (record { left = (projected l origin).0; right = (projected l origin).0; top = (projected l origin).1; bottom = (projected l origin).1 }))

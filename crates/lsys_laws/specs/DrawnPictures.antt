-- The box of a picture, and what its turtles depend on.
use Rattle.std.specs.Prelude.{List, ◌∷◌, ◌≡◌, ℤ, ℕ, Ok, map}
use Rattle.lsys_syntax.specs.Tokens.{NameText}
use Rattle.lsys_syntax.specs.Strings.{named, ModuleName}
use Rattle.lsys_syntax.specs.Strings as S
use Rattle.lsys_spec.specs.Lattices.{Lattice, projected, Vector}
use Rattle.lsys_spec.specs.Pictures.{Segment, segment_ends, origin, box, first_letter, first_or_one, act, Turtle, segments_from}
use Rattle.lsys_laws.specs.Boxes.{IsLeastBox}
use Rattle.lsys_laws.specs.Shifts.{shifted_turtle, shifted_segment}

-- the box holds the projected origin and the projected ends
-- of the segments, and no smaller one does
abbrev pub BoxesAreLeast : Type 0
BoxesAreLeast =
    (l : Lattice) (gs : List Segment)
    → IsLeastBox (projected l origin ∷ segment_ends l gs) (box l gs)

-- modules whose names have one first letter, and whose first parameters are the same, act alike
abbrev pub ActsDependOnTheFirstLetter : Type 0
ActsDependOnTheFirstLetter =
    (m n : NameText) (ps qs : List ℤ) → first_letter m ≡ first_letter n
    → first_or_one ps ≡ first_or_one qs → act (named m) ps ≡ act (named n) qs

-- what a module does depends on its name and its first parameter alone
abbrev pub ActsDependOnTheFirstParameter : Type 0
ActsDependOnTheFirstParameter =
    (n : ModuleName) (ps qs : List ℤ) → first_or_one ps ≡ first_or_one qs → act n ps ≡ act n qs

-- two turtles that differ by a vector draw segments that differ by it, where neither comes too far
abbrev pub ShiftedTurtlesDrawShiftedSegments : Type 0
ShiftedTurtlesDrawShiftedSegments =
    (l : Lattice) (by : Vector) (n : ℕ) (xs : List (S.Symbol ℤ)) (t : Turtle) (gs hs : List Segment)
    → segments_from l n t xs ≡ Ok gs → segments_from l n (shifted_turtle by t) xs ≡ Ok hs
    → hs ≡ map (shifted_segment by) gs

-- What a call leaves that puts the last level's picture, and is lent the sink and what holds the bytes before it.
use Rattle.std.specs.Prelude.{ℕ, Result, List}
use Rattle.lsys_spec.specs.Systems.{System}
use Rattle.lsys_spec.specs.Lattices.{Lattice}
use Rattle.lsys_spec.specs.Pictures.{Box, Segment, box, picture}
use Rattle.lsys_spec.specs.PictureTexts.{segments_text, svg_text}
use Rattle.lsys_syntax.specs.Calls.{Lent}
use Rattle.lsys_io.specs.Putting.{Puts}
use Rattle.lsys_io.specs.declared.Failed.{Failed}
use Rattle.lsys_io.specs.declared.Sink.{Ghosts as SinkOf}
use Rattle.lsys_level.specs.Spots.{Spotted}
use Rattle.lsys_out.specs.Drawings.{last_drawing, last_symbols}
use Rattle.lsys_out.specs.Shown.{Shows, on_lattice}
use Rattle.lsys_out.specs.declared.refusal.PictureRefusal.{PictureRefusal}

-- 1. a picture that may be refused

-- Its text was put, whatever the lineages of the level's symbols are called; or it is refused, or the sink failed.
abbrev pub Draws : {K : Type 0} → SinkOf K → Lent K → Lent (List ℕ)
    → (List Segment → List ℕ) → Lattice → System → List (List Spotted)
    → Result (Unit {0}) PictureRefusal → Type 0
Draws K sink out text l s levels result =
    (naming : ℕ → List ℕ)
    → Shows K.written K.faults sink.entry.now sink.exit.now out.entry.now out.exit.now
    (picture (on_lattice l s) (last_symbols naming s levels)) text result

-- the same of its text as SVG
abbrev pub DrawsSvg : {K : Type 0} → SinkOf K → Lent K → Lent (List ℕ)
    → Lattice → System → List (List Spotted) → Result (Unit {0}) PictureRefusal → Type 0
DrawsSvg K sink out l s levels result =
    Draws K sink out (svg_text l) l s levels result

-- the same of the list of its segments
abbrev pub PutsList : {K : Type 0} → SinkOf K → Lent K → Lent (List ℕ)
    → Lattice → System → List (List Spotted) → Result (Unit {0}) PictureRefusal → Type 0
PutsList K sink out l s levels result =
    Draws K sink out segments_text l s levels result

-- 2. one that isn't refused

-- the box around it
abbrev pub last_box : Lattice → System → List (List Spotted) → Box
last_box l s levels = box l (last_drawing l s levels).segments

-- its text as SVG was put
abbrev pub WritesSvg : {K : Type 0} → SinkOf K → Lent K → Lent (List ℕ)
    → Lattice → System → List (List Spotted) → Result (Unit {0}) Failed → Type 0
WritesSvg K sink out l s levels result =
    Puts K sink out (svg_text l (last_drawing l s levels).segments) result

-- the list of its segments was put
abbrev pub WritesList : {K : Type 0} → SinkOf K → Lent K → Lent (List ℕ)
    → Lattice → System → List (List Spotted) → Result (Unit {0}) Failed → Type 0
WritesList K sink out l s levels result =
    Puts K sink out (segments_text (last_drawing l s levels).segments) result

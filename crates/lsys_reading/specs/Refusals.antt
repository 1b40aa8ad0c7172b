-- Why a part of a line can't be read.
use Rattle.std.specs.Prelude.{ℕ}
use Rattle.lsys_text.specs.declared.refusals.PlaceRefusal.{PlaceRefusal}
use Rattle.lsys_text.specs.declared.refusals.PlaceRefusal.TheVariants as places
use Rattle.lsys_reading.specs.declared.refusal.PartRefusal.{PartRefusal}
use Rattle.lsys_reading.specs.declared.refusal.PartRefusal.TheVariants.{Token, Deep, Memory}
use Rattle.lsys_reading.specs.declared.refusal.ReadingRefusal.{ReadingRefusal}
use Rattle.lsys_reading.specs.declared.refusal.ReadingRefusal.TheVariants as refusals

abbrev pub refusal_at : PlaceRefusal → PartRefusal
refusal_at (places.Token place) = Token place
refusal_at (places.Deep place) = Deep place

-- the same, by columns; the column of a place is that of its token, and after the last one that of the line's end
abbrev pub refusal_in : (ℕ → ℕ) → PartRefusal → ReadingRefusal
refusal_in column (Token place) = refusals.Token (column place)
refusal_in column (Deep place) = refusals.Deep (column place)
refusal_in column Memory = refusals.Memory

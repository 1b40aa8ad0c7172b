-- What the region sees of its table of parts.
use Rattle.std.specs.Prelude.{◌≡◌, ℕ, List, Option, Some, None, IsSome, slice_get, slice_set, [], ◌∷◌, ◌++◌, length}

-- a part of the vector: where it begins, its size class (it has 2 to this power of places), and while it is taken
-- how many of its places a list fills
pub record SizedPart : Type 0 where
  pub start : ℕ
  pub class : ℕ
  pub filled : Option ℕ

-- the parts by their numbers, how many fit with no allocation, where the last one ends, and how far parts can reach
pub record Parts : Type 0 where
  pub parts : List SizedPart
  pub capacity : ℕ
  pub end : ℕ
  pub most : ℕ

-- no part of this class is free
abbrev pub AllTaken : List SizedPart → ℕ → Type 0
AllTaken parts class = (number : ℕ) (part : SizedPart) → slice_get parts number ≡ Some part → part.class ≡ class → IsSome part.filled

-- the part with this number holds a list
pub record IsTakenPart (parts : List SizedPart) (number : ℕ) : Type 0 where
  pub start : ℕ
  pub class : ℕ
  pub len : ℕ
  pub here : slice_get parts number ≡ Some (record { start = start; class = class; filled = Some len })

-- the part with this number holds a list of this length, from `start` on
pub record IsPartSpan (parts : List SizedPart) (number start len : ℕ) : Type 0 where
  pub class : ℕ
  pub here : slice_get parts number ≡ Some (record { start = start; class = class; filled = Some len })

-- a part of this class, from `start` on, is added under the next number, and holds a list of this length
pub record AddsPart (old new : List SizedPart) (number start class len : ℕ) : Type 0 where
  pub next : number ≡ length old
  pub changed : new ≡ old ++ record { start = start; class = class; filled = Some len } ∷ []

-- the part with this number, of this class, was free, and now holds a list of this length
pub record TakesPart (old new : List SizedPart) (number class len : ℕ) : Type 0 where
  pub start : ℕ
  pub was_free : slice_get old number ≡ Some (record { start = start; class = class; filled = None })
  pub changed : new ≡ slice_set old number (record { start = start; class = class; filled = Some len })

-- the part with this number held a list, and is now free
pub record FreesPart (old new : List SizedPart) (number : ℕ) : Type 0 where
  pub start : ℕ
  pub class : ℕ
  pub len : ℕ
  pub was_taken : slice_get old number ≡ Some (record { start = start; class = class; filled = Some len })
  pub changed : new ≡ slice_set old number (record { start = start; class = class; filled = None })

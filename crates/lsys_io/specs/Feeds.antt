-- Line feeds among bytes.
use Rattle.std.specs.Prelude.{ℕ, List, [], ◌∷◌, ◌==◌, ◌||◌, Bool, false}

-- whether one of the bytes is LF
abbrev pub has_lf : List ℕ → Bool
has_lf [] = false
has_lf (b ∷ bytes) = (b == 10) || has_lf bytes

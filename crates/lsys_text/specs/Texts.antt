-- What can name a module.
use Rattle.std.specs.Prelude.{◌≡◌, ℕ, Bool, true, List, [], ◌∷◌, ◌==◌, ◌||◌}
use Rattle.lsys_syntax.specs.Tokens.{long, is_letter}
use Rattle.lsys_syntax.specs.Pieces.{IsNameText}

-- one of + - & ^ \ / | !
abbrev pub is_name_mark : ℕ → Bool
is_name_mark c = (c == 43) || (c == 45) || (c == 38) || (c == 94) || (c == 92) || (c == 47) || (c == 124) || (c == 33)

-- one of the eight marks; a letter; or a letter, `_` and one to six letters or digits
abbrev pub IsNameBytes : List ℕ → Type 0
IsNameBytes [] = ⊥
IsNameBytes (c ∷ []) = (is_letter c || is_name_mark c) ≡ true
IsNameBytes (c ∷ d ∷ more) = (d ≡ 95) × IsNameText (long c more)

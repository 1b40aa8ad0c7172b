-- The option at the front of some words.
use Rattle.std.specs.Prelude.{◌≡◌, ℕ, Option, Some, None, List, [], ◌∷◌, flat_map, option_map}
use Rattle.std.specs.Borrow.{Bor}
use Rattle.lsys_cli.specs.Words.{setting_of, in_two}
use Rattle.lsys_cli.specs.declared.setting.Setting.{Setting}

-- the word after a name in the same word
abbrev pub attached_words : Option (Bor (List ℕ)) → List (List ℕ)
attached_words (Some word) = word.now ∷ []
attached_words None = []

-- what a name and a number at the front set, and what stands after them
abbrev pub front_of : List (List ℕ) → Option (Setting × List (List ℕ))
front_of (name ∷ word ∷ rest) = option_map (λ s. (s, rest)) (setting_of name word)
front_of words = None

abbrev pub parted : Option (Setting × List (List ℕ)) → Option (Setting × List (List ℕ))
parted found = option_map (λ p. (p.0, flat_map in_two p.1)) found

-- the option at the front of a command line's words, and the words after it
abbrev pub IsFirstOption : List (List ℕ) → Option (Setting × List (List ℕ)) → Type 0
IsFirstOption words found = front_of (flat_map in_two words) ≡ parted found

-- The words of a command line, and the options that they spell.
use Rattle.std.specs.Prelude.{ℕ, ◌≤◌, ◌==◌, ◌&&◌, Bool, Option, Some, None, List, [], ◌∷◌, codes, length, flat_map, map, nat_le, nat_lt, if◌then◌else◌, option_map, option_and_then}
use Rattle.std.specs.String.{string_bytes}
use Rattle.std.specs.declared.string.String.{String}
use Rattle.std.specs.Char.{is_ascii_digit}
use Rattle.std.specs.List.{list_all}
use Rattle.std.specs.Str.{bytes_eq}
use Rattle.std.specs.Str.Parse.{digits_value}
use Rattle.lsys_syntax.specs.Limits.{number_bound, usual_module_limit, greatest_module_limit}
use Rattle.lsys_cli.specs.declared.options.Options.{Options}
use Rattle.lsys_cli.specs.declared.setting.Setting.{Setting}
use Rattle.lsys_cli.specs.declared.setting.Setting.TheVariants.{Limit, Sample}

-- at most twenty digits, leading zeros allowed
abbrev pub is_short_numeral : List ℕ → Bool
is_short_numeral word = list_all is_ascii_digit word && nat_le (length word) 20

-- at least one, which write a number below 2^64
abbrev pub is_number : List ℕ → Bool
is_number word = is_short_numeral word && (nat_lt 0 (length word) && nat_lt (digits_value 10 word) number_bound)

abbrev pub number_written : List ℕ → Option ℕ
number_written word = if is_number word then Some (digits_value 10 word) else None

-- from 1 to 1,000,000
abbrev pub limit_of : ℕ → Option Setting
limit_of n = if nat_lt 0 n && nat_le n greatest_module_limit then Some (Limit n) else None

-- what the option of this name sets, by the word that is its number
abbrev pub setting_of : List ℕ → List ℕ → Option Setting
setting_of name word =
    if bytes_eq name (codes "--limit") then option_and_then limit_of (number_written word)
    else if bytes_eq name (codes "--sample") then option_map Sample (number_written word) else None

-- what stands after a front in a text that begins with it
abbrev pub text_after : List ℕ → List ℕ → Option (List ℕ)
text_after [] text = Some text
text_after (b ∷ front) [] = None
text_after (b ∷ front) (c ∷ text) = if b == c then text_after front text else None

-- the option's name and its number as two words; where there is no number, the other words
abbrev pub name_and : List ℕ → Option (List ℕ) → List (List ℕ) → List (List ℕ)
name_and name (Some number) others = name ∷ number ∷ []
name_and name None others = others

-- a word `NAME=N`, where NAME is an option's, as the two words NAME and N; another word as it is
abbrev pub in_two : List ℕ → List (List ℕ)
in_two word = name_and (codes "--limit") (text_after (codes "--limit=") word) (name_and (codes "--sample") (text_after (codes "--sample=") word) (word ∷ []))

-- without a word the limit is the usual one, and there is no sample
abbrev pub only_setting : Setting → Options
only_setting (Limit n) = record { limit = n; sample = None }
only_setting (Sample n) = record { limit = usual_module_limit; sample = Some n }

-- in either order, but each option once
abbrev pub together : Setting → Setting → Option Options
together (Limit n) (Sample k) = Some (record { limit = n; sample = Some k })
together (Sample k) (Limit n) = Some (record { limit = n; sample = Some k })
together first second = None

-- what names and numbers in turn spell: nothing, one option or two
abbrev pub options_spelled : List (List ℕ) → Option Options
options_spelled [] = Some (record { limit = usual_module_limit; sample = None })
options_spelled (a ∷ n ∷ []) = option_map only_setting (setting_of a n)
options_spelled (a ∷ n ∷ b ∷ k ∷ []) = option_and_then (λ first. option_and_then (together first) (setting_of b k)) (setting_of a n)
options_spelled words = None

-- The options that a list of words spells. A list that spells none is outside of the grammar.
abbrev pub options_by : List (List ℕ) → Option Options
options_by words = options_spelled (flat_map in_two words)

abbrev pub texts : {A : Type 0} → List (String A) → List (List ℕ)
texts words = map string_bytes words

-- from 1 to 1,000,000
abbrev pub HasLimit : Options → Type 0
HasLimit o = (1 ≤ o.limit) × (o.limit ≤ greatest_module_limit)

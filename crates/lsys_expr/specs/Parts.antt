-- Parts of a line's tokens.
use Rattle.std.specs.Prelude.{ℕ, ◌+◌, ◌-◌, List, Option, take, drop, map, position}
use Rattle.std.specs.Option.{option_map}
use Rattle.lsys_syntax.specs.Tokens.{NameText, Kind}
use Rattle.lsys_syntax.specs.Checks.{is_unknown}
use Rattle.lsys_text.specs.declared.token_kind.Token.{Token}
use Rattle.lsys_text.specs.Tokens.{kind_row, name_of}

-- the kinds of the tokens from one place up to another
abbrev pub stretch : ℕ → ℕ → List Token → List Kind
stretch from to tokens = take (to - from) (drop from (kind_row tokens))

-- the names that formals are, from their texts
abbrev pub names_of : List (List ℕ) → List NameText
names_of formals = map name_of formals

-- the place, within some tokens, of the first name that is no formal
abbrev pub unknown_in : List (List ℕ) → List Kind → Option ℕ
unknown_in formals kinds = position (is_unknown (names_of formals)) kinds

-- a place within a part, as a place of the whole that the part begins at
abbrev pub counted_from : ℕ → Option ℕ → Option ℕ
counted_from from place = option_map (λ d. from + d) place

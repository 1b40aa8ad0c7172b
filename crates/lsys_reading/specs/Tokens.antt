-- The tokens of a line.
use Rattle.std.specs.Prelude.{◌≡◌, ℕ, List, [], length, map, drop}
use Rattle.lsys_syntax.specs.Tokens.{Kind}
use Rattle.lsys_spec.specs.Refusals.{column_at}
use Rattle.lsys_syntax.specs.RulePoints.{Here}
use Rattle.lsys_text.specs.declared.token_kind.TokenKind.{TokenKind}
use Rattle.lsys_text.specs.Tokens.{kind_of, kind_row, token_of}
use Rattle.lsys_reading.specs.declared.line_tokens.LineTokens.{LineTokens}

abbrev pub kinds_in : LineTokens → List Kind
kinds_in line = kind_row line.tokens.items

abbrev pub size : LineTokens → ℕ
size line = length line.tokens.items

-- the column of the token at a place, or of the line's end
abbrev pub column_in : LineTokens → ℕ → ℕ
column_in line place = column_at line.bytes place (map token_of line.tokens.items)

-- a token of this kind stands at a place of a line
abbrev pub HasTokenAt : LineTokens → ℕ → TokenKind → Type 0
HasTokenAt line place kind = Here (kinds_in line) place (kind_of kind)

-- the line ends at this place or before
abbrev pub EndsBy : LineTokens → ℕ → Type 0
EndsBy line place = drop place (kinds_in line) ≡ []

-- The tokens that the code finds, as those of the definitions.
use Rattle.std.specs.Prelude.{◌≡◌, ◌<◌, ◌≤◌, ℕ, Bool, List, [], ◌∷◌, ◌==◌, ◌||◌, Result, Ok, Err, Vec, map, unwrap_or, is_some, IsTrue, IsOk, if◌then◌else◌}
use Rattle.std.specs.declared.alloc.Global.{Global}
use Rattle.lsys_syntax.specs.Tokens as syntax
use Rattle.lsys_text.specs.declared.token_kind.Token.{Token}
use Rattle.lsys_text.specs.declared.token_kind.TokenKind.{TokenKind}
use Rattle.lsys_text.specs.declared.token_kind.TokenKind.TheVariants.{Word, LongWord, Name, Number, BigNumber, Arrow, Equal, Unequal, AtMost, AtLeast, Mark}
use Rattle.lsys_text.specs.declared.refusals.TextRefusal.{TextRefusal}
use Rattle.lsys_text.specs.declared.refusals.TextRefusal.TheVariants.{Byte, Memory}

-- the name with this text: one byte; or a byte, a `_` and more
abbrev pub name_of : List ℕ → syntax.NameText
name_of [] = syntax.short 0
name_of (c ∷ []) = syntax.short c
name_of (c ∷ d ∷ more) = syntax.long c more

-- the mark with this byte; any other byte counts as a long word, which no sentence has
abbrev pub mark_kind : ℕ → syntax.Kind
mark_kind b =
    if b == 33 then syntax.Bang else if b == 60 then syntax.Less
    else if b == 61 then syntax.Assign else if b == 62 then syntax.Greater
    else unwrap_or (syntax.one_mark b) syntax.LongWord

-- one of the 20 marks of one byte
abbrev pub is_mark : ℕ → Bool
is_mark b = (b == 33) || (b == 60) || (b == 61) || (b == 62) || is_some (syntax.one_mark b)

-- the kind that the code's kind stands for
abbrev pub kind_of : TokenKind → syntax.Kind
kind_of (Word text) = syntax.Word text
kind_of LongWord = syntax.LongWord
kind_of (Name text) = syntax.Name (name_of text)
kind_of (Number n) = syntax.Number n
kind_of BigNumber = syntax.BigNumber
kind_of Arrow = syntax.Arrow
kind_of Equal = syntax.Equal
kind_of Unequal = syntax.Unequal
kind_of AtMost = syntax.AtMost
kind_of AtLeast = syntax.AtLeast
kind_of (Mark b) = mark_kind b

-- the token that the code's token stands for
abbrev pub token_of : Token → syntax.Token
token_of t = record { kind = kind_of t.kind; start = t.start; stop = t.end }

-- the kinds of some tokens
abbrev pub kind_row : List Token → List syntax.Kind
kind_row ts = map (λ t. kind_of t.kind) ts

-- the byte of a mark is that of one of the 20
abbrev pub IsMarkByte : TokenKind → Type 0
IsMarkByte (Mark b) = IsTrue (is_mark b)
IsMarkByte k = Unit {0}

-- the same, of a token
abbrev pub HasMarkByte : Token → Type 0
HasMarkByte t = IsMarkByte t.kind

-- a token's text: some bytes of a line of this length
abbrev pub LiesInLine : ℕ → Token → Type 0
LiesInLine length t = (t.start < t.end) × (t.end ≤ length)

-- the line's tokens, or the column of its first byte that is in none; memory is wanted only where no byte is refused
abbrev pub AreLineTokens : List ℕ → Result (Vec Token Global) TextRefusal → Type 0
AreLineTokens line (Ok found) = syntax.tokens line ≡ Ok (map token_of found.items)
AreLineTokens line (Err (Byte column)) = syntax.tokens line ≡ Err column
AreLineTokens line (Err Memory) = IsOk (syntax.tokens line)

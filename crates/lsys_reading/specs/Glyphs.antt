-- What a token is to a rule, and what stands at a place.
use Rattle.std.specs.Prelude.{◌≡◌, ℕ, Bool, true, false, Option, Some, None, List, [], drop}
use Rattle.lsys_syntax.specs.Tokens.{Kind, Name, Number, Word, LongWord, BigNumber, Arrow, Equal, Unequal, AtMost, AtLeast, LeftParen, RightParen, LeftBracket, RightBracket, Comma, Colon, At, Times, Percent, Less, Greater, Assign}
use Rattle.lsys_syntax.specs.Strings.{ModuleName, named, name_kind}
use Rattle.lsys_text.specs.Tokens.{name_of}
use Rattle.lsys_module.specs.Views.{module_name}
use Rattle.lsys_syntax.specs.RulePoints.{Here}
use Rattle.lsys_reading.specs.declared.glyph.RuleGlyph.{RuleGlyph}
use Rattle.lsys_reading.specs.declared.glyph.RuleGlyph.TheVariants as glyphs
use Rattle.lsys_reading.specs.declared.glyph.Separator.{Separator}
use Rattle.lsys_reading.specs.declared.glyph.Separator.TheVariants as separators

-- one of the eight marks
abbrev pub IsMark : ModuleName → Type 0
IsMark (named n) = ⊥
IsMark m = Unit {0}

-- a token that no rule has outside of its expressions
abbrev pub is_other : Kind → Bool
is_other (Word w) = true
is_other LongWord = true
is_other (Number n) = true
is_other BigNumber = true
is_other Equal = true
is_other Unequal = true
is_other AtMost = true
is_other AtLeast = true
is_other Times = true
is_other Assign = true
is_other k = false

abbrev pub IsGlyph : RuleGlyph → Kind → Type 0
IsGlyph (glyphs.Letters x) k = (k ≡ Name (name_of x)) × (module_name x ≡ named (name_of x))
IsGlyph (glyphs.Sign x) k = (k ≡ name_kind (module_name x)) × IsMark (module_name x)
IsGlyph glyphs.Push k = k ≡ LeftBracket
IsGlyph glyphs.Pop k = k ≡ RightBracket
IsGlyph glyphs.Cut k = k ≡ Percent
IsGlyph glyphs.Open k = k ≡ LeftParen
IsGlyph glyphs.Close k = k ≡ RightParen
IsGlyph glyphs.Comma k = k ≡ Comma
IsGlyph glyphs.Colon k = k ≡ Colon
IsGlyph glyphs.At k = k ≡ At
IsGlyph glyphs.Arrow k = k ≡ Arrow
IsGlyph glyphs.Less k = k ≡ Less
IsGlyph glyphs.Greater k = k ≡ Greater
IsGlyph glyphs.Other k = is_other k ≡ true
IsGlyph glyphs.End k = ⊥

abbrev pub IsPeeked : List Kind → ℕ → RuleGlyph → Type 0
IsPeeked ks at glyphs.End = drop at ks ≡ []
IsPeeked ks at g = (k : Kind) × Here ks at k × IsGlyph g k

abbrev pub glyph_formal : RuleGlyph → Option (List ℕ)
glyph_formal (glyphs.Letters x) = Some x
glyph_formal g = None

abbrev pub glyph_name : RuleGlyph → Option (List ℕ)
glyph_name (glyphs.Letters x) = Some x
glyph_name (glyphs.Sign x) = Some x
glyph_name g = None

abbrev pub separator_of : RuleGlyph → Option Separator
separator_of glyphs.Comma = Some separators.Comma
separator_of glyphs.Close = Some separators.Close
separator_of g = None

abbrev pub is_opening : RuleGlyph → Bool
is_opening glyphs.Open = true
is_opening g = false

abbrev pub is_colon : RuleGlyph → Bool
is_colon glyphs.Colon = true
is_colon g = false

abbrev pub is_arrow : RuleGlyph → Bool
is_arrow glyphs.Arrow = true
is_arrow g = false

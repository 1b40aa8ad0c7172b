-- Tokens that are a string, read one after another: what was read of it, and at which token a limit is passed.
use Rattle.std.specs.Prelude.{◌≡◌, ℕ, ℤ, pos, ◌+◌, ◌&&◌, Bool, true, false, nat_lt, nat_le, List, [], ◌∷◌, ◌++◌, length, All, slice_get, option_map, Option, Some, None, Result, Ok, Err, if◌then◌else◌}
use Rattle.lsys_syntax.specs.Limits.{most_params, most_axiom_symbols, value_bound}
use Rattle.lsys_syntax.specs.Tokens.{Kind}
use Rattle.lsys_syntax.specs.Strings.{Symbol, Module, Push, Pop, Cut, ModuleName, plus, Signed, negative}
use Rattle.lsys_syntax.specs.RuleMachine.{Sign, a_name, sign_of}
use Rattle.lsys_syntax.specs.Commands.{set_axiom}
use Rattle.lsys_syntax.specs.LineMachine.{Verdict, sentence}
use Rattle.lsys_syntax.specs.Checks.{axiom_many}
use Rattle.lsys_spec.specs.Edits.{values_of}
use Rattle.lsys_text.specs.declared.token_kind.Token.{Token}
use Rattle.lsys_text.specs.Tokens.{LiesInLine, kind_of}
use Rattle.lsys_module.specs.declared.symbol.Module.{Module as CodeModule}
use Rattle.lsys_module.specs.declared.symbol.Symbol.{Symbol as CodeSymbol}
use Rattle.lsys_module.specs.declared.refusal.StringRefusal.{StringRefusal}
use Rattle.lsys_module.specs.declared.refusal.StringRefusal.TheVariants.{TooMany, Memory}
use Rattle.lsys_module.specs.declared.build.Builder.{Builder}
use Rattle.lsys_module.specs.declared.build.BuiltPart.{BuiltPart}
use Rattle.lsys_module.specs.declared.build.BuiltPart.TheVariants as parts
use Rattle.lsys_module.specs.declared.glyph.StringGlyph.{StringGlyph}
use Rattle.lsys_module.specs.declared.glyph.StringGlyph.TheVariants as glyphs
use Rattle.lsys_module.specs.Views.{module_name, string_of}
use Rattle.lsys_module.specs.Scanning.{glyph_of}

-- each token is some bytes of one line
abbrev pub AreOfLine : List Token → Type 0
AreOfLine tokens = (n : ℕ) × All (LiesInLine n) tokens

-- the column, from 1, of the token at a place
abbrev pub token_column : List Token → ℕ → Option ℕ
token_column tokens place = option_map (λ t. t.start + 1) (slice_get tokens place)

-- the values of a string that passes no limit, or the column of the token at which it passes one; lack of memory says nothing
abbrev pub IsBuiltOf : ℕ → List Token → List (Symbol Signed) → Result (List CodeSymbol) StringRefusal → Type 0
IsBuiltOf from tokens xs (Ok symbols) = (string_of symbols ≡ values_of xs) × (axiom_many from xs ≡ None)
IsBuiltOf from tokens xs (Err (TooMany column)) = (place : ℕ) × (axiom_many from xs ≡ Some place) × (token_column tokens place ≡ Some column)
IsBuiltOf from tokens xs (Err Memory) = Unit {0}

-- the same of the string that a verdict tells
abbrev pub IsBuiltBy : ℕ → List Token → Verdict → Result (List CodeSymbol) StringRefusal → Type 0
IsBuiltBy from tokens (sentence (set_axiom xs)) result = IsBuiltOf from tokens xs result
IsBuiltBy from tokens v result = ⊥

-- What was read: symbols, and then, where they are not all, a name, after which a `(` may follow, or some of a module's parameters.
pub data Draft : Type 0 where
  whole : List (Symbol ℤ) → Draft
  named : List (Symbol ℤ) → ModuleName → Draft
  number_due : List (Symbol ℤ) → ModuleName → List ℤ → Draft
  minus_read : List (Symbol ℤ) → ModuleName → List ℤ → Draft
  number_read : List (Symbol ℤ) → ModuleName → List ℤ → Draft

-- the module's name that a token is; of other tokens, which are asked for no name, `+`
abbrev pub sign_name : Sign → ModuleName
sign_name (a_name n) = n
sign_name s = plus

abbrev pub kind_name : Kind → ModuleName
kind_name k = sign_name (sign_of k)

-- the tokens that are a module's name
abbrev pub is_name : StringGlyph → Bool
is_name glyphs.Name = true
is_name glyphs.Minus = true
is_name g = false

-- another symbol begins; a name is that of the token
abbrev pub next_symbol_step : List (Symbol ℤ) → StringGlyph → ModuleName → Option Draft
next_symbol_step ys glyphs.Name m = Some (named ys m)
next_symbol_step ys glyphs.Minus m = Some (named ys m)
next_symbol_step ys glyphs.Push m = Some (whole (ys ++ Push ∷ []))
next_symbol_step ys glyphs.Pop m = Some (whole (ys ++ Pop ∷ []))
next_symbol_step ys glyphs.Cut m = Some (whole (ys ++ Cut ∷ []))
next_symbol_step ys g m = None

abbrev pub named_step : List (Symbol ℤ) → ModuleName → StringGlyph → ModuleName → Option Draft
named_step ys n glyphs.Open m = Some (number_due ys n [])
named_step ys n g m = next_symbol_step (ys ++ Module n [] ∷ []) g m

abbrev pub before_number_step : List (Symbol ℤ) → ModuleName → List ℤ → StringGlyph → Option Draft
before_number_step ys n zs (glyphs.Number m) = if nat_lt m value_bound then Some (number_read ys n (zs ++ pos m ∷ [])) else None
before_number_step ys n zs glyphs.Minus = Some (minus_read ys n zs)
before_number_step ys n zs g = None

abbrev pub after_minus_step : List (Symbol ℤ) → ModuleName → List ℤ → StringGlyph → Option Draft
after_minus_step ys n zs (glyphs.Number m) = if nat_lt (length zs) most_params && nat_le m value_bound then Some (number_read ys n (zs ++ negative m ∷ [])) else None
after_minus_step ys n zs g = None

abbrev pub after_number_step : List (Symbol ℤ) → ModuleName → List ℤ → StringGlyph → Option Draft
after_number_step ys n zs glyphs.Comma = Some (number_due ys n zs)
after_number_step ys n zs glyphs.Close = Some (whole (ys ++ Module n zs ∷ []))
after_number_step ys n zs g = None

-- one more token, where a string goes on with it
abbrev pub draft_step : Draft → StringGlyph → ModuleName → Option Draft
draft_step (whole ys) g m = next_symbol_step ys g m
draft_step (named ys n) g m = named_step ys n g m
draft_step (number_due ys n zs) g m = before_number_step ys n zs g
draft_step (minus_read ys n zs) g m = after_minus_step ys n zs g
draft_step (number_read ys n zs) g m = after_number_step ys n zs g

abbrev pub named_limit : List (Symbol ℤ) → ModuleName → StringGlyph → Bool
named_limit ys n glyphs.Open = false
named_limit ys n g = nat_lt most_axiom_symbols (length (ys ++ Module n [] ∷ []) + 1)

-- this token begins one symbol or one parameter too many
abbrev pub draft_limit : Draft → StringGlyph → Bool
draft_limit (whole ys) g = nat_lt most_axiom_symbols (length ys + 1)
draft_limit (named ys n) g = named_limit ys n g
draft_limit (number_due ys n zs) g = nat_lt most_params (length zs + 1)
draft_limit d g = false

-- the symbols, where a string may end
abbrev pub draft_end : Draft → Option (List (Symbol ℤ))
draft_end (whole ys) = Some ys
draft_end (named ys n) = Some (ys ++ Module n [] ∷ [])
draft_end d = None

abbrev pub draft_by_part : BuiltPart → List (Symbol ℤ) → Draft
draft_by_part parts.Whole ys = whole ys
draft_by_part (parts.Named name) ys = named ys (module_name name)
draft_by_part (parts.NumberDue m) ys = number_due ys (module_name m.name) m.params
draft_by_part (parts.MinusRead m) ys = minus_read ys (module_name m.name) m.params
draft_by_part (parts.NumberRead m) ys = number_read ys (module_name m.name) m.params

-- the last module goes on so with a token, where a number or a sign was due
abbrev pub IsPartAfterDue : CodeModule → StringGlyph → BuiltPart → Type 0
IsPartAfterDue m g part =
    (ys : List (Symbol ℤ)) → before_number_step ys (module_name m.name) m.params g ≡ Some (draft_by_part part ys)

-- the last module goes on so with a token after a sign
abbrev pub IsPartAfterMinus : CodeModule → StringGlyph → BuiltPart → Type 0
IsPartAfterMinus m g part =
    (ys : List (Symbol ℤ)) → after_minus_step ys (module_name m.name) m.params g ≡ Some (draft_by_part part ys)

-- what was read, as the code keeps it
abbrev pub draft_of : Builder → Draft
draft_of b = draft_by_part b.part (string_of b.symbols)

-- a string goes on with the token, or the token is one too many
abbrev pub CanTake : Draft → Kind → Type 0
CanTake d k = draft_limit d (glyph_of k) ≡ false → (e : Draft) × (draft_step d (glyph_of k) (kind_name k) ≡ Some e)

-- the token was taken, or it is one too many and this is its column; lack of memory says nothing
abbrev pub IsTaken : Draft → Token → Draft → Result (Unit {0}) StringRefusal → Type 0
IsTaken old t new (Ok done) = (draft_limit old (glyph_of (kind_of t.kind)) ≡ false) × (draft_step old (glyph_of (kind_of t.kind)) (kind_name (kind_of t.kind)) ≡ Some new)
IsTaken old t new (Err (TooMany column)) = (draft_limit old (glyph_of (kind_of t.kind)) ≡ true) × (column ≡ t.start + 1)
IsTaken old t new (Err Memory) = Unit {0}

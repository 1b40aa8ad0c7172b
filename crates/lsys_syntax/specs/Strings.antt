-- Strings of modules, and how they are printed. A parameter is a number, a formal or an expression.
use Rattle.std.specs.Prelude.{◌≡◌, ℕ, zero, suc, Bool, true, false, List, [], ◌∷◌, ◌++◌, ◌<◌, ◌≤◌, ◌==◌, codes, ℤ, pos, negsuc, refl}
use Rattle.std.specs.Fmt.{digits}
use Rattle.lsys_syntax.specs.Limits.{value_bound}
use Rattle.lsys_syntax.specs.Tokens.{NameText, short, long, Kind, Name, Number, LeftParen, RightParen, LeftBracket, RightBracket, Comma, Plus, Minus, Slash, Backslash, Percent, Ampersand, Bar, Caret, Bang}
use Rattle.lsys_syntax.specs.Pieces.{Piece, blank, token, note, a_symbol, a_param, text_of, IsNameText}

-- the name of a module: a name, or one of eight marks
pub data ModuleName : Type 0 where
  named : NameText → ModuleName
  plus : ModuleName
  minus : ModuleName
  ampersand : ModuleName
  caret : ModuleName
  backslash : ModuleName
  slash : ModuleName
  bar : ModuleName
  bang : ModuleName

pub data Symbol (P : Type 0) : Type 0 where
  Module : ModuleName → List P → Symbol P
  Push : Symbol P
  Pop : Symbol P
  Cut : Symbol P

abbrev pub name_kind : ModuleName → Kind
name_kind (named n) = Name n
name_kind plus = Plus
name_kind minus = Minus
name_kind ampersand = Ampersand
name_kind caret = Caret
name_kind backslash = Backslash
name_kind slash = Slash
name_kind bar = Bar
name_kind bang = Bang

-- a `,` before each
abbrev pub more_pieces : {P : Type 0} → (P → List Piece) → List P → List Piece
more_pieces print [] = []
more_pieces print (x ∷ xs) = token Comma ∷ note a_param ∷ (print x ++ more_pieces print xs)

abbrev pub params_pieces : {P : Type 0} → (P → List Piece) → List P → List Piece
params_pieces print [] = []
params_pieces print (x ∷ xs) = token LeftParen ∷ note a_param ∷ (print x ++ (more_pieces print xs ++ token RightParen ∷ []))

abbrev pub symbol_pieces : {P : Type 0} → (P → List Piece) → Symbol P → List Piece
symbol_pieces print (Module n xs) = note a_symbol ∷ token (name_kind n) ∷ params_pieces print xs
symbol_pieces print Push = note a_symbol ∷ token LeftBracket ∷ []
symbol_pieces print Pop = note a_symbol ∷ token RightBracket ∷ []
symbol_pieces print Cut = note a_symbol ∷ token Percent ∷ []

-- a module without parameters whose name has a `_`
abbrev pub ends_in_name : {P : Type 0} → Symbol P → Bool
ends_in_name (Module (named (long c more)) []) = true
ends_in_name s = false

abbrev pub is_letters : ModuleName → Bool
is_letters (named n) = true
is_letters m = false

abbrev pub starts_with_letter : {P : Type 0} → Symbol P → Bool
starts_with_letter (Module n xs) = is_letters n
starts_with_letter s = false

abbrev pub begins_with_letter : {P : Type 0} → List (Symbol P) → Bool
begins_with_letter [] = false
begins_with_letter (s ∷ xs) = starts_with_letter s

abbrev pub gap : Bool → Bool → List Piece
gap true true = blank ∷ []
gap a b = []

abbrev pub string_pieces : {P : Type 0} → (P → List Piece) → List (Symbol P) → List Piece
string_pieces print [] = []
string_pieces print (s ∷ xs) = symbol_pieces print s ++ (gap (ends_in_name s) (begins_with_letter xs) ++ string_pieces print xs)

abbrev pub EachOf : {P : Type 0} → (P → Type 0) → List P → Type 0
EachOf G [] = Unit {0}
EachOf G (x ∷ xs) = G x × EachOf G xs

abbrev pub IsModuleName : ModuleName → Type 0
IsModuleName (named n) = IsNameText n
IsModuleName m = Unit {0}

abbrev pub IsSymbol : {P : Type 0} → (P → Type 0) → Symbol P → Type 0
IsSymbol G (Module n xs) = IsModuleName n × EachOf G xs
IsSymbol G s = Unit {0}

-- A signed number as it is written; -0 is a spelling of 0.
pub data Signed : Type 0 where
  unsigned : ℕ → Signed
  minus_sign : ℕ → Signed

abbrev pub negative : ℕ → ℤ
negative zero = pos zero
negative (suc n) = negsuc n

abbrev pub signed_value : Signed → ℤ
signed_value (unsigned n) = pos n
signed_value (minus_sign n) = negative n

-- how a value is printed: its decimal, with its sign
abbrev pub signed_of : ℤ → Signed
signed_of (pos n) = unsigned n
signed_of (negsuc n) = minus_sign (suc n)

abbrev pub signed_pieces : Signed → List Piece
signed_pieces (unsigned n) = token (Number n) ∷ []
signed_pieces (minus_sign n) = token Minus ∷ token (Number n) ∷ []

abbrev pub value_pieces : ℤ → List Piece
value_pieces z = signed_pieces (signed_of z)

-- its value is an i64
abbrev pub IsSigned : Signed → Type 0
IsSigned (unsigned n) = n < value_bound
IsSigned (minus_sign n) = n ≤ value_bound

-- an i64
abbrev pub IsParam : ℤ → Type 0
IsParam (pos n) = n < value_bound
IsParam (negsuc n) = n < value_bound

-- as many `[` as `]`, and in every front at least as many, where n are open before
abbrev pub balanced : {P : Type 0} → ℕ → List (Symbol P) → Bool
balanced n [] = n == 0
balanced n (Module m xs ∷ r) = balanced n r
balanced n (Push ∷ r) = balanced (suc n) r
balanced zero (Pop ∷ r) = false
balanced (suc n) (Pop ∷ r) = balanced n r
balanced n (Cut ∷ r) = balanced n r

abbrev pub string_text : List (Symbol ℤ) → List ℕ
string_text xs = text_of (string_pieces value_pieces xs)

abbrev pub AreSymbols : List (Symbol ℤ) → Type 0
AreSymbols xs = EachOf (IsSymbol IsParam) xs

-- a blank stands where a long name would be read on
pub blank_row : string_text (Module (named (long 70 (97 ∷ []))) [] ∷ Module (named (long 70 (98 ∷ []))) (negsuc 0 ∷ []) ∷ Module (named (short 70)) [] ∷ []) ≡ codes "F_a F_b(-1)F"
unfolding digits
blank_row = refl

-- A printed text as tokens and blanks, and where its tokens can't be read as others.
use Rattle.std.specs.Prelude.{◌≡◌, ℕ, Bool, true, false, List, [], ◌∷◌, ◌++◌, ◌+◌, ◌≤◌, ◌<◌, decimal, length}
use Rattle.lsys_syntax.specs.Limits.{most_word_bytes, number_bound}
use Rattle.lsys_syntax.specs.Tokens.{NameText, short, long, Kind, Word, LongWord, Name, Number, BigNumber, Arrow, Equal, Unequal, AtMost, AtLeast, LeftParen, RightParen, LeftBracket, RightBracket, Comma, Colon, At, Plus, Minus, Times, Slash, Backslash, Percent, Ampersand, Bar, Caret, Bang, Less, Greater, Assign, Token, Mode, Modules, is_letter, is_alphanumeric, is_word_byte, next_mode}

abbrev pub name_text : NameText → List ℕ
name_text (short c) = c ∷ []
name_text (long c more) = c ∷ 95 ∷ more

-- what a token prints as; LongWord, BigNumber and Assign are never printed
abbrev pub token_text : Kind → List ℕ
token_text (Word w) = w
token_text LongWord = []
token_text (Name n) = name_text n
token_text (Number n) = decimal n
token_text BigNumber = []
token_text Arrow = 61 ∷ 62 ∷ []
token_text Equal = 61 ∷ 61 ∷ []
token_text Unequal = 33 ∷ 61 ∷ []
token_text AtMost = 60 ∷ 61 ∷ []
token_text AtLeast = 62 ∷ 61 ∷ []
token_text LeftParen = 40 ∷ []
token_text RightParen = 41 ∷ []
token_text LeftBracket = 91 ∷ []
token_text RightBracket = 93 ∷ []
token_text Comma = 44 ∷ []
token_text Colon = 58 ∷ []
token_text At = 64 ∷ []
token_text Plus = 43 ∷ []
token_text Minus = 45 ∷ []
token_text Times = 42 ∷ []
token_text Slash = 47 ∷ []
token_text Backslash = 92 ∷ []
token_text Percent = 37 ∷ []
token_text Ampersand = 38 ∷ []
token_text Bar = 124 ∷ []
token_text Caret = 94 ∷ []
token_text Bang = 33 ∷ []
token_text Less = 60 ∷ []
token_text Greater = 62 ∷ []
token_text Assign = 61 ∷ []

-- what begins or ends at a place of a line; it prints nothing
pub data Note : Type 0 where
  a_symbol : Note
  a_param : Note
  left_begins : Note
  predecessor_begins : Note
  right_begins : Note
  successor_begins : Note
  expr_begins : Note
  expr_ends : Note

pub data Piece : Type 0 where
  blank : Piece
  token : Kind → Piece
  note : Note → Piece

abbrev pub text_of : List Piece → List ℕ
text_of [] = []
text_of (blank ∷ ps) = 32 ∷ text_of ps
text_of (token k ∷ ps) = token_text k ++ text_of ps
text_of (note n ∷ ps) = text_of ps

abbrev pub kinds_of : List Piece → List Kind
kinds_of [] = []
kinds_of (blank ∷ ps) = kinds_of ps
kinds_of (token k ∷ ps) = k ∷ kinds_of ps
kinds_of (note n ∷ ps) = kinds_of ps

-- the tokens, of which the first byte stands at place p
abbrev pub placed : ℕ → List Piece → List Token
placed p [] = []
placed p (blank ∷ ps) = placed (p + 1) ps
placed p (note n ∷ ps) = placed p ps
placed p (token k ∷ ps) = record { kind = k; start = p; stop = p + length (token_text k) } ∷ placed (p + length (token_text k)) ps

-- what can't follow a token, since it would be read as part of it
pub data Tail : Type 0 where
  anything : Tail
  not_underscore : Tail
  not_plain : Tail
  not_digit : Tail
  not_equals : Tail

-- what a token begins with
pub data FirstByte : Type 0 where
  letter : FirstByte
  digit : FirstByte
  equals : FirstByte
  mark : FirstByte

abbrev pub name_ending : NameText → Tail
name_ending (short c) = not_underscore
name_ending (long c more) = not_plain

abbrev pub ending : Kind → Tail
ending (Word w) = not_plain
ending (Name n) = name_ending n
ending (Number n) = not_digit
ending Bang = not_equals
ending Less = not_equals
ending Greater = not_equals
ending k = anything

abbrev pub beginning : Kind → FirstByte
beginning (Word w) = letter
beginning (Name n) = letter
beginning (Number n) = digit
beginning Equal = equals
beginning Arrow = equals
beginning Assign = equals
beginning k = mark

abbrev pub may_follow : Tail → FirstByte → Bool
may_follow not_plain letter = false
may_follow not_plain digit = false
may_follow not_digit digit = false
may_follow not_equals equals = false
may_follow t h = true

abbrev pub Every : (ℕ → Bool) → List ℕ → Type 0
Every p [] = Unit {0}
Every p (c ∷ cs) = (p c ≡ true) × Every p cs

abbrev pub IsNameText : NameText → Type 0
IsNameText (short c) = is_letter c ≡ true
IsNameText (long c more) = (is_letter c ≡ true) × Every is_alphanumeric more × (0 < length more) × (length more ≤ 6)

abbrev pub IsWordText : List ℕ → Type 0
IsWordText [] = ⊥
IsWordText (c ∷ cs) = (is_letter c ≡ true) × Every is_word_byte cs × (length (c ∷ cs) ≤ most_word_bytes)

abbrev pub HasWords : Mode → Type 0
HasWords Modules = ⊥
HasWords m = Unit {0}

abbrev pub HasNames : Mode → Type 0
HasNames Modules = Unit {0}
HasNames m = ⊥

-- In this mode the token's text is read as the token.
abbrev pub Stands : Mode → Kind → Type 0
Stands m (Word w) = HasWords m × IsWordText w
Stands m LongWord = ⊥
Stands m (Name n) = HasNames m × IsNameText n
Stands m (Number n) = n < number_bound
Stands m BigNumber = ⊥
Stands m Assign = ⊥
Stands m k = Unit {0}

-- After a token that ends so, each piece is read as itself.
abbrev pub Reads : Mode → Tail → List Piece → Type 0
Reads m t [] = Unit {0}
Reads m t (blank ∷ ps) = Reads m anything ps
Reads m t (note n ∷ ps) = Reads m t ps
Reads m t (token k ∷ ps) = (may_follow t (beginning k) ≡ true) × Stands m k × Reads (next_mode m k) (ending k) ps

-- What each kind of token looks like by itself, and the rule that the longest one is taken.
use Rattle.std.specs.Prelude.{◌≡◌, ℕ, ◌+◌, ◌<◌, ◌≤◌, true, List, [], ◌∷◌, length, take, Some, None}
use Rattle.std.specs.Str.Parse.{digits_value}
use Rattle.lsys_syntax.specs.Limits.{most_word_bytes, number_bound}
use Rattle.lsys_syntax.specs.Tokens.{Mode, Kind, Word, LongWord, Name, Number, BigNumber, Assign, is_letter, is_digit, is_word_byte, token_at}
use Rattle.lsys_syntax.specs.Pieces.{Every, HasWords, HasNames, IsWordText, IsNameText, name_text, token_text}

-- a letter, then letters, digits and `_`: more bytes in all than a word has
abbrev pub IsLongWordText : List ℕ → Type 0
IsLongWordText [] = ⊥
IsLongWordText (c ∷ cs) = (is_letter c ≡ true) × Every is_word_byte cs × (most_word_bytes < length (c ∷ cs))

-- a run of digits
abbrev pub AreDigits : List ℕ → Type 0
AreDigits text = (0 < length text) × Every is_digit text

-- In this mode the text is a token of this kind.
abbrev pub IsTokenText : Mode → Kind → List ℕ → Type 0
IsTokenText m (Word w) text = HasWords m × (text ≡ w) × IsWordText w
IsTokenText m LongWord text = HasWords m × IsLongWordText text
IsTokenText m (Name n) text = HasNames m × (text ≡ name_text n) × IsNameText n
IsTokenText m (Number n) text = AreDigits text × (digits_value 10 text ≡ n) × (n < number_bound)
IsTokenText m BigNumber text = AreDigits text × (number_bound ≤ digits_value 10 text)
IsTokenText m Assign text = text ≡ 61 ∷ []
IsTokenText m k text = text ≡ token_text k

-- The first len bytes of a text are a token of this kind, and no more of them are a token.
pub record IsLongest (m : Mode) (text : List ℕ) (k : Kind) (len : ℕ) : Type 0 where
  pub within : len ≤ length text
  pub is_token : IsTokenText m k (take len text)
  pub longest : (j : Kind) (i : ℕ) → i ≤ length text → IsTokenText m j (take i text) → i ≤ len

-- The longest token is taken.
abbrev pub TakesLongest : Type 0
TakesLongest = (m : Mode) (c : ℕ) (bytes : List ℕ) (k : Kind) (more : ℕ) → token_at m c bytes ≡ Some (k, more) → IsLongest m (c ∷ bytes) k (more + 1)

-- Where none is taken, none begins.
abbrev pub TakesAny : Type 0
TakesAny = (m : Mode) (c : ℕ) (bytes : List ℕ) → token_at m c bytes ≡ None → (j : Kind) (i : ℕ) → i ≤ length (c ∷ bytes) → IsTokenText m j (take i (c ∷ bytes)) → ⊥

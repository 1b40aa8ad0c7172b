-- What a token's text looks like, by its first byte; and how long it can be.
use Rattle.std.proofs.Common.{◌≡◌, ℕ, zero, suc, ◌<◌, ◌≤◌, ◌==◌, ◌&&◌, ◌||◌, Bool, true, false, List, [], ◌∷◌, length, take, refl, ◌∙◌, sym, subst, arith}
use Rattle.std.specs.Prelude.{is_some}
use Rattle.lsys_syntax.specs.Tokens as syntax
use Rattle.lsys_syntax.specs.Tokens.{Mode, First, Words, UntilColon, Modules, Kind, NameText, short, long, is_letter, is_digit, is_alphanumeric, is_word_byte, front, begins, one_mark, mark_at, name_tail, name_with, token_at, letter_at}
use Rattle.lsys_syntax.specs.Pieces.{Every, HasWords, HasNames, IsWordText, IsNameText, name_text}
use Rattle.lsys_text.specs.Scans.{begins_with}
use Rattle.lsys_text.specs.Longest.{IsTokenText}
use Rattle.lsys_text.proofs.Fronts.{letter_word}

-- the two bytes of a token of two marks
abbrev pub is_double : ℕ → ℕ → Bool
is_double a b = ((a == 61) && ((b == 62) || (b == 61))) || (((a == 33) || (a == 60) || (a == 62)) && (b == 61))

abbrev pub is_single : ℕ → Bool
is_single a = (a == 33) || (a == 60) || (a == 61) || (a == 62) || is_some (one_mark a)

pub data Shape (m : Mode) (text : List ℕ) : Type 0 where
  digits : begins_with is_digit text ≡ true → Every is_digit text → Shape m text
  word : HasWords m → begins_with is_letter text ≡ true → Every is_word_byte text → Shape m text
  name : HasNames m → (n : NameText) → text ≡ name_text n → IsNameText n → Shape m text
  double : (a b : ℕ) → text ≡ a ∷ b ∷ [] → is_double a b ≡ true → Shape m text
  single : (a : ℕ) → text ≡ a ∷ [] → is_single a ≡ true → Shape m text

digit_shape : (m : Mode) (text : List ℕ) → 0 < length text → Every is_digit text → Shape m text
digit_shape m [] s e = absurd (omega arith)
digit_shape m (c ∷ cs) s e = digits e.0 e

word_shape : (m : Mode) (text : List ℕ) → HasWords m → IsWordText text → Shape m text
word_shape m [] w h = elim h [ ]
word_shape m (c ∷ cs) w h = word w h.0 (letter_word c h.0, h.1)

long_shape : (m : Mode) (text : List ℕ) → IsTokenText m syntax.LongWord text → Shape m text
long_shape m [] h = elim h.1 [ ]
long_shape m (c ∷ cs) h = word h.0 h.1.0 (letter_word c h.1.0, h.1.1)

pub shape : (m : Mode) (k : Kind) (text : List ℕ) → IsTokenText m k text → Shape m text
shape m (syntax.Word w) text h = word_shape m text h.0 (subst IsWordText (sym h.1) h.2)
shape m syntax.LongWord text h = long_shape m text h
shape m (syntax.Name n) text h = name h.0 n h.1 h.2
shape m (syntax.Number n) text h = digit_shape m text h.0.0 h.0.1
shape m syntax.BigNumber text h = digit_shape m text h.0.0 h.0.1
shape m syntax.Arrow text h = double 61 62 h refl
shape m syntax.Equal text h = double 61 61 h refl
shape m syntax.Unequal text h = double 33 61 h refl
shape m syntax.AtMost text h = double 60 61 h refl
shape m syntax.AtLeast text h = double 62 61 h refl
shape m syntax.LeftParen text h = single 40 h refl
shape m syntax.RightParen text h = single 41 h refl
shape m syntax.LeftBracket text h = single 91 h refl
shape m syntax.RightBracket text h = single 93 h refl
shape m syntax.Comma text h = single 44 h refl
shape m syntax.Colon text h = single 58 h refl
shape m syntax.At text h = single 64 h refl
shape m syntax.Plus text h = single 43 h refl
shape m syntax.Minus text h = single 45 h refl
shape m syntax.Times text h = single 42 h refl
shape m syntax.Slash text h = single 47 h refl
shape m syntax.Backslash text h = single 92 h refl
shape m syntax.Percent text h = single 37 h refl
shape m syntax.Ampersand text h = single 38 h refl
shape m syntax.Bar text h = single 124 h refl
shape m syntax.Caret text h = single 94 h refl
shape m syntax.Bang text h = single 33 h refl
shape m syntax.Less text h = single 60 h refl
shape m syntax.Greater text h = single 62 h refl
shape m syntax.Assign text h = single 61 h refl

-- no longer front passes
front_top_by : (p : ℕ → Bool) (i c : ℕ) (xs : List ℕ) (b : Bool) → p c ≡ b → (p c ≡ true) × Every p (take i xs) → i ≤ length (front p xs) → suc i ≤ length (front p (c ∷ xs))
front_top_by p i c xs true e h ih = rw e (omega arith)
front_top_by p i c xs false e h ih = let no : true ≡ false = sym h.0 ∙ e in cc

pub front-top : (p : ℕ → Bool) (i : ℕ) (xs : List ℕ) → i ≤ length xs → Every p (take i xs) → i ≤ length (front p xs)
front-top p zero xs l h = omega arith
front-top p (suc i) [] l h = absurd (omega arith)
front-top p (suc i) (c ∷ xs) l h = front_top_by p i c xs (p c) refl h (front-top p i xs (omega arith) h.1)

-- the first byte of a part
pub first-of-part : (p : ℕ → Bool) (i c : ℕ) (bytes : List ℕ) → begins_with p (take i (c ∷ bytes)) ≡ true → p c ≡ true
first-of-part p zero c bytes h = cc
first-of-part p (suc i) c bytes h = h

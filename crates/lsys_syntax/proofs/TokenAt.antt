-- A printed token is the longest token at its place.
use Rattle.std.proofs.Common.{◌≡◌, ℕ, Bool, true, false, ◌==◌, ◌≤◌, ◌<◌, ◌^◌, List, [], ◌∷◌, ◌++◌, length, refl, ap, ◌∙◌, arith, Some, Option, decimal, le-leb, lt-ltb, take_all}
use Rattle.std.proofs.lemmas.Bool.Decides.{nat_tests}
use Rattle.std.proofs.lemmas.Fmt.{decimal_is_IsNumeral}
use Rattle.std.specs.Str.Parse.{IsNumeral, digits_value}
use Rattle.lsys_syntax.specs.Tokens.{NameText, short, long, Kind, Word, LongWord, Name, Number, BigNumber, Arrow, Equal, Unequal, AtMost, AtLeast, LeftParen, RightParen, LeftBracket, RightBracket, Comma, Colon, At, Plus, Minus, Times, Slash, Backslash, Percent, Ampersand, Bar, Caret, Bang, Less, Greater, Assign, Mode, First, Words, UntilColon, Modules, is_blank, is_digit, is_letter, is_alphanumeric, is_word_byte, front, token_at, begins, letter_at, name_tail, name_with, word_kind}
use Rattle.lsys_syntax.specs.Pieces.{token_text, Tail, anything, not_underscore, not_plain, not_digit, not_equals, FirstByte, letter, digit, equals, mark, ending, beginning, may_follow, Stands, Every, IsNameText, IsWordText, HasWords}
use Rattle.lsys_syntax.proofs.Bytes.{differs, letter_no_digit, AllDigits-Every, Stops, front-append}

abbrev pub continues : Tail → ℕ → Bool
continues anything c = false
continues not_underscore c = c == 95
continues not_plain c = is_word_byte c
continues not_digit c = is_digit c
continues not_equals c = c == 61

abbrev pub IsHead : FirstByte → ℕ → Type 0
IsHead letter c = is_letter c ≡ true
IsHead digit c = is_digit c ≡ true
IsHead equals c = c ≡ 61
IsHead mark c = (is_word_byte c ≡ false) × (is_digit c ≡ false) × ((c == 61) ≡ false) × ((c == 95) ≡ false)

pub head-stops : (t : Tail) (h : FirstByte) (c : ℕ) → may_follow t h ≡ true → IsHead h c → continues t c ≡ false
head-stops anything h c f i = refl
head-stops not_underscore letter c f i = differs is_letter c 95 i refl
head-stops not_underscore digit c f i = differs is_digit c 95 i refl
head-stops not_underscore equals c f i = ap (λ d. d == 95) i
head-stops not_underscore mark c f i = i.3
head-stops not_plain letter c f i = cc
head-stops not_plain digit c f i = cc
head-stops not_plain equals c f i = ap is_word_byte i
head-stops not_plain mark c f i = i.0
head-stops not_digit letter c f i = letter_no_digit c i
head-stops not_digit digit c f i = cc
head-stops not_digit equals c f i = ap is_digit i
head-stops not_digit mark c f i = i.1
head-stops not_equals letter c f i = differs is_letter c 61 i refl
head-stops not_equals digit c f i = differs is_digit c 61 i refl
head-stops not_equals equals c f i = cc
head-stops not_equals mark c f i = i.2

pub record Printed (m : Mode) (k : Kind) : Type 0 where
  pub first : ℕ
  pub more : List ℕ
  pub text : token_text k ≡ first ∷ more
  pub head : IsHead (beginning k) first
  pub dense : is_blank first ≡ false
  pub read : (rest : List ℕ) → Stops (continues (ending k)) rest → token_at m first (more ++ rest) ≡ Some (k, length more)

letter_dense : (c : ℕ) → is_letter c ≡ true → is_blank c ≡ false
letter_dense c h = rw (differs is_letter c 32 h refl, differs is_letter c 9 h refl)

digit_dense : (c : ℕ) → is_digit c ≡ true → is_blank c ≡ false
digit_dense c h = rw (differs is_digit c 32 h refl, differs is_digit c 9 h refl)

no_equals : (rest : List ℕ) → Stops (λ c. c == 61) rest → begins 61 rest ≡ false
no_equals [] h = refl
no_equals (c ∷ cs) h = h

-- what a word's or a name's first letter leads to
at_letter : (m : Mode) (c : ℕ) (bytes : List ℕ) → is_letter c ≡ true → token_at m c bytes ≡ Some (letter_at m c bytes)
at_letter m c bytes h = rw (letter_no_digit c h, h)

word_at : (c : ℕ) (cs rest : List ℕ) → Every is_word_byte cs → length (c ∷ cs) ≤ 16 → Stops is_word_byte rest
    → ◌≡◌ {A = Option (Kind × ℕ)} (Some (word_kind (c ∷ front is_word_byte (cs ++ rest)), length (front is_word_byte (cs ++ rest)))) (Some (Word (c ∷ cs), length cs))
word_at c cs rest e l s = rw (front-append is_word_byte cs rest e s, le-leb (length (c ∷ cs)) 16 l)

word_read : (m : Mode) (c : ℕ) (cs : List ℕ) → HasWords m → IsWordText (c ∷ cs) → (rest : List ℕ) → Stops is_word_byte rest → token_at m c (cs ++ rest) ≡ Some (Word (c ∷ cs), length cs)
word_read First c cs w h rest s = at_letter First c (cs ++ rest) h.0 ∙ word_at c cs rest h.1 h.2 s
word_read Words c cs w h rest s = at_letter Words c (cs ++ rest) h.0 ∙ word_at c cs rest h.1 h.2 s
word_read UntilColon c cs w h rest s = at_letter UntilColon c (cs ++ rest) h.0 ∙ word_at c cs rest h.1 h.2 s
word_read Modules c cs w h rest s = elim w [ ]

plain_stops : (rest : List ℕ) → Stops is_word_byte rest → Stops is_alphanumeric rest
plain_stops [] h = tt
plain_stops (c ∷ cs) h = grind (arith, nat_tests)

no_underscore : (rest : List ℕ) → Stops (λ c. c == 95) rest → name_tail rest ≡ []
no_underscore [] h = refl
no_underscore (c ∷ cs) h = rw h

long_at : (c : ℕ) (more rest : List ℕ) → Every is_alphanumeric more → 0 < length more → length more ≤ 6 → Stops is_alphanumeric rest
    → name_with c (name_tail (95 ∷ (more ++ rest))) ≡ name_with c more
long_at c more rest e p l s = rw (front-append is_alphanumeric more rest e s, take_all 6 more l)

name_printed : (n : NameText) → IsNameText n → Printed Modules (Name n)
name_printed (short c) h = record {
  first = c;
  more = [];
  text = refl;
  head = h;
  dense = letter_dense c h;
  read = λ rest s. at_letter Modules c rest h ∙ ap (λ t. Some (name_with c t)) (no_underscore rest s);
}
name_printed (long c []) h = absurd (omega arith)
name_printed (long c (a ∷ more)) h = record {
  first = c;
  more = 95 ∷ a ∷ more;
  text = refl;
  head = h.0;
  dense = letter_dense c h.0;
  read = λ rest s. at_letter Modules c (95 ∷ a ∷ (more ++ rest)) h.0 ∙ ap (λ t. Some t) (long_at c (a ∷ more) rest h.1 h.2 h.3 (plain_stops rest s));
}

number_printed : (m : Mode) (n : ℕ) (ds : List ℕ) → n < 2 ^ 64 → decimal n ≡ ds → IsNumeral 10 ds → digits_value 10 ds ≡ n → Printed m (Number n)
number_printed m n [] h e d v = absurd (omega arith)
number_printed m n (c ∷ cs) h e d v =
    let all : Every is_digit (c ∷ cs) = AllDigits-Every (c ∷ cs) d.1 in
    record {
      first = c;
      more = cs;
      text = e;
      head = all.0;
      dense = digit_dense c all.0;
      read = λ rest s. rw (all.0, front-append is_digit cs rest all.1 s, v, lt-ltb n (2 ^ 64) h);
    }

pub printed : (m : Mode) (k : Kind) → Stands m k → Printed m k
printed m (Word []) h = elim h.1 [ ]
printed m (Word (c ∷ cs)) h = record { first = c; more = cs; text = refl; head = h.1.0; dense = letter_dense c h.1.0; read = word_read m c cs h.0 h.1 }
printed m LongWord h = elim h [ ]
printed First (Name n) h = elim h.0 [ ]
printed Words (Name n) h = elim h.0 [ ]
printed UntilColon (Name n) h = elim h.0 [ ]
printed Modules (Name n) h = name_printed n h.1
printed m (Number n) h = let w : IsNumeral 10 (decimal n) × (digits_value 10 (decimal n) ≡ n) = decimal_is_IsNumeral n h in number_printed m n (decimal n) h refl w.0 w.1
printed m BigNumber h = elim h [ ]
printed m Arrow h = record { first = 61; more = 62 ∷ []; text = refl; head = refl; dense = refl; read = λ rest s. refl }
printed m Equal h = record { first = 61; more = 61 ∷ []; text = refl; head = refl; dense = refl; read = λ rest s. refl }
printed m Unequal h = record { first = 33; more = 61 ∷ []; text = refl; head = (refl, refl, refl, refl); dense = refl; read = λ rest s. refl }
printed m AtMost h = record { first = 60; more = 61 ∷ []; text = refl; head = (refl, refl, refl, refl); dense = refl; read = λ rest s. refl }
printed m AtLeast h = record { first = 62; more = 61 ∷ []; text = refl; head = (refl, refl, refl, refl); dense = refl; read = λ rest s. refl }
printed m LeftParen h = record { first = 40; more = []; text = refl; head = (refl, refl, refl, refl); dense = refl; read = λ rest s. refl }
printed m RightParen h = record { first = 41; more = []; text = refl; head = (refl, refl, refl, refl); dense = refl; read = λ rest s. refl }
printed m LeftBracket h = record { first = 91; more = []; text = refl; head = (refl, refl, refl, refl); dense = refl; read = λ rest s. refl }
printed m RightBracket h = record { first = 93; more = []; text = refl; head = (refl, refl, refl, refl); dense = refl; read = λ rest s. refl }
printed m Comma h = record { first = 44; more = []; text = refl; head = (refl, refl, refl, refl); dense = refl; read = λ rest s. refl }
printed m Colon h = record { first = 58; more = []; text = refl; head = (refl, refl, refl, refl); dense = refl; read = λ rest s. refl }
printed m At h = record { first = 64; more = []; text = refl; head = (refl, refl, refl, refl); dense = refl; read = λ rest s. refl }
printed m Plus h = record { first = 43; more = []; text = refl; head = (refl, refl, refl, refl); dense = refl; read = λ rest s. refl }
printed m Minus h = record { first = 45; more = []; text = refl; head = (refl, refl, refl, refl); dense = refl; read = λ rest s. refl }
printed m Times h = record { first = 42; more = []; text = refl; head = (refl, refl, refl, refl); dense = refl; read = λ rest s. refl }
printed m Slash h = record { first = 47; more = []; text = refl; head = (refl, refl, refl, refl); dense = refl; read = λ rest s. refl }
printed m Backslash h = record { first = 92; more = []; text = refl; head = (refl, refl, refl, refl); dense = refl; read = λ rest s. refl }
printed m Percent h = record { first = 37; more = []; text = refl; head = (refl, refl, refl, refl); dense = refl; read = λ rest s. refl }
printed m Ampersand h = record { first = 38; more = []; text = refl; head = (refl, refl, refl, refl); dense = refl; read = λ rest s. refl }
printed m Bar h = record { first = 124; more = []; text = refl; head = (refl, refl, refl, refl); dense = refl; read = λ rest s. refl }
printed m Caret h = record { first = 94; more = []; text = refl; head = (refl, refl, refl, refl); dense = refl; read = λ rest s. refl }
printed m Bang h = record { first = 33; more = []; text = refl; head = (refl, refl, refl, refl); dense = refl; read = λ rest s. rw (no_equals rest s) }
printed m Less h = record { first = 60; more = []; text = refl; head = (refl, refl, refl, refl); dense = refl; read = λ rest s. rw (no_equals rest s) }
printed m Greater h = record { first = 62; more = []; text = refl; head = (refl, refl, refl, refl); dense = refl; read = λ rest s. rw (no_equals rest s) }
printed m Assign h = elim h [ ]

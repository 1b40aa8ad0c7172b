-- The tokens of a line are of their form.
use Rattle.std.proofs.Common.{◌≡◌, ℕ, zero, suc, Bool, true, false, ◌≤◌, ◌<◌, ◌^◌, ◌+◌, Option, Some, None, Result, Ok, Err, List, [], ◌∷◌, map, length, take, nat_lt, nat_le, ◌==◌, refl, subst, arith, if◌then◌else◌}
use Rattle.std.proofs.lemmas.Bool.Decides.{nat_tests}
use Rattle.std.specs.Str.Parse.{digits_value}
use Rattle.lsys_syntax.specs.Tokens.{Kind, Word, LongWord, Number, BigNumber, LeftParen, RightParen, LeftBracket, RightBracket, Comma, Colon, At, Plus, Minus, Times, Slash, Backslash, Percent, Ampersand, Bar, Caret, Token, Mode, First, Words, UntilColon, Modules, is_blank, is_digit, is_letter, is_alphanumeric, is_word_byte, front, number_kind, word_kind, name_tail, name_with, letter_at, begins, one_mark, alone, mark_at, token_at, next_mode, before_rest, tokens_from, tokens}
use Rattle.lsys_syntax.specs.Pieces.{Every}
use Rattle.lsys_syntax.specs.Sentences.{IsToken, AreTokens}

-- what a test leaves
either : {A : Type 0} (P : A → Type 0) (c : Bool) (x y : A) → (c ≡ true → P x) → (c ≡ false → P y) → P (if c then x else y)
either P true x y f g = f refl
either P false x y f g = g refl

front-every : (p : ℕ → Bool) (bytes : List ℕ) → Every p (front p bytes)
front-every p [] = tt
front-every p (c ∷ bytes) = either (Every p) (p c) (c ∷ front p bytes) [] (λ e. (e, front-every p bytes)) (λ e. tt)

take-every : (p : ℕ → Bool) (n : ℕ) (bytes : List ℕ) → Every p bytes → Every p (take n bytes)
take-every p zero [] h = tt
take-every p zero (c ∷ bytes) h = tt
take-every p (suc n) [] h = tt
take-every p (suc n) (c ∷ bytes) h = (h.0, take-every p n bytes h.1)

take-short : (n : ℕ) (bytes : List ℕ) → length (take n bytes) ≤ n
take-short zero [] = omega arith
take-short zero (c ∷ bytes) = omega arith
take-short (suc n) [] = omega arith
take-short (suc n) (c ∷ bytes) = omega (arith, take-short n bytes)

below : (m n : ℕ) → nat_lt m n ≡ true → m < n
below m n e = grind (arith, nat_tests, e)

at_most : (m n : ℕ) → nat_le m n ≡ true → m ≤ n
at_most m n e = grind (arith, nat_tests, e)

number-form : (ds : List ℕ) → IsToken (number_kind ds)
number-form ds = either IsToken (nat_lt (digits_value 10 ds) (2 ^ 64)) (Number (digits_value 10 ds)) BigNumber (λ e. below (digits_value 10 ds) (2 ^ 64) e) (λ e. tt)

word-form : (c : ℕ) (cs : List ℕ) → is_letter c ≡ true → Every is_word_byte cs → IsToken (word_kind (c ∷ cs))
word-form c cs l h = either IsToken (nat_le (length (c ∷ cs)) 16) (Word (c ∷ cs)) LongWord (λ e. (l, h, at_most (length (c ∷ cs)) 16 e)) (λ e. tt)

-- what stands after a name's letter
abbrev IsNameTail : List ℕ → Type 0
IsNameTail more = Every is_alphanumeric more × (length more ≤ 6)

tail-form : (bytes : List ℕ) → IsNameTail (name_tail bytes)
tail-form [] = (tt, omega arith)
tail-form (c ∷ bytes) =
    either IsNameTail (c == 95) (take 6 (front is_alphanumeric bytes)) [] (λ e. (take-every is_alphanumeric 6 (front is_alphanumeric bytes) (front-every is_alphanumeric bytes), take-short 6 (front is_alphanumeric bytes))) (λ e. (tt, omega arith))

name-form : (c : ℕ) (more : List ℕ) → is_letter c ≡ true → IsNameTail more → IsToken (name_with c more).0
name-form c [] l h = l
name-form c (a ∷ more) l h = (l, h.0, omega arith, h.1)

letter-form : (m : Mode) (c : ℕ) (bytes : List ℕ) → is_letter c ≡ true → IsToken (letter_at m c bytes).0
letter-form Modules c bytes l = name-form c (name_tail bytes) l (tail-form bytes)
letter-form First c bytes l = word-form c (front is_word_byte bytes) l (front-every is_word_byte bytes)
letter-form Words c bytes l = word-form c (front is_word_byte bytes) l (front-every is_word_byte bytes)
letter-form UntilColon c bytes l = word-form c (front is_word_byte bytes) l (front-every is_word_byte bytes)

-- a token that there may be
abbrev OnKind : Option Kind → Type 0
OnKind None = Unit {0}
OnKind (Some k) = IsToken k

abbrev OnToken : Option (Kind × ℕ) → Type 0
OnToken None = Unit {0}
OnToken (Some t) = IsToken t.0

one_mark-form : (c : ℕ) → OnKind (one_mark c)
one_mark-form c =
    mark (c == 40) LeftParen _ tt (mark (c == 41) RightParen _ tt (mark (c == 91) LeftBracket _ tt (mark (c == 93) RightBracket _ tt
    (mark (c == 44) Comma _ tt (mark (c == 58) Colon _ tt (mark (c == 64) At _ tt (mark (c == 43) Plus _ tt
    (mark (c == 45) Minus _ tt (mark (c == 42) Times _ tt (mark (c == 47) Slash _ tt (mark (c == 92) Backslash _ tt
    (mark (c == 37) Percent _ tt (mark (c == 38) Ampersand _ tt (mark (c == 124) Bar _ tt (mark (c == 94) Caret _ tt tt)))))))))))))))
  where
    mark : (b : Bool) (k : Kind) (o : Option Kind) → IsToken k → OnKind o → OnKind (if b then Some k else o)
    mark b k o i h = either OnKind b (Some k) o (λ e. i) (λ e. h)

alone-form : (o : Option Kind) → OnKind o → OnToken (alone o)
alone-form None h = tt
alone-form (Some k) h = h

mark-form : (c : ℕ) (bytes : List ℕ) → OnToken (mark_at c bytes)
mark-form c bytes =
    next (c == 61) _ _ (next (begins 62 bytes) _ _ tt (next (begins 61 bytes) _ _ tt tt))
    (next (c == 33) _ _ (next (begins 61 bytes) _ _ tt tt)
    (next (c == 60) _ _ (next (begins 61 bytes) _ _ tt tt)
    (next (c == 62) _ _ (next (begins 61 bytes) _ _ tt tt) (alone-form (one_mark c) (one_mark-form c)))))
  where
    next : (b : Bool) (x y : Option (Kind × ℕ)) → OnToken x → OnToken y → OnToken (if b then x else y)
    next b x y f g = either OnToken b x y (λ e. f) (λ e. g)

token-form : (m : Mode) (c : ℕ) (bytes : List ℕ) → OnToken (token_at m c bytes)
token-form m c bytes =
    either OnToken (is_digit c) (Some (number_kind (c ∷ front is_digit bytes), length (front is_digit bytes))) (if is_letter c then Some (letter_at m c bytes) else mark_at c bytes)
    (λ e. number-form (c ∷ front is_digit bytes))
    (λ e. either OnToken (is_letter c) (Some (letter_at m c bytes)) (mark_at c bytes) (λ l. letter-form m c bytes l) (λ l. mark-form c bytes))

-- all tokens of a line that has no byte in none
abbrev OnTokens : Result (List Token) ℕ → Type 0
OnTokens (Err c) = Unit {0}
OnTokens (Ok ts) = AreTokens (map (λ t. t.kind) ts)

before-form : (t : Token) (r : Result (List Token) ℕ) → IsToken t.kind → OnTokens r → OnTokens (before_rest t r)
before-form t (Ok ts) i h = (i, h)
before-form t (Err c) i h = tt

tokens-form : (bytes : List ℕ) (m : Mode) (n p : ℕ) → OnTokens (tokens_from m n p bytes)
tokens-form [] m n p = tt
tokens-form (c ∷ bytes) m (suc n) p = tokens-form bytes m n (p + 1)
tokens-form (c ∷ bytes) m zero p = here (is_blank c) (token_at m c bytes) (token-form m c bytes) (λ j i. tokens-form bytes j i (p + 1))
  where
    here : (b : Bool) (o : Option (Kind × ℕ)) → OnToken o → ((j : Mode) (i : ℕ) → OnTokens (tokens_from j i (p + 1) bytes))
        → OnTokens (elim b [
          | true ↦ tokens_from m zero (p + 1) bytes
          | false ↦ elim o [
            | None ↦ Err (p + 1)
            | Some t ↦ before_rest (record { kind = t.0; start = p; stop = p + 1 + t.1 }) (tokens_from (next_mode m t.0) t.1 (p + 1) bytes)
          ]
        ])
    here true o h rest = rest m zero
    here false None h rest = tt
    here false (Some t) h rest = before-form (record { kind = t.0; start = p; stop = p + 1 + t.1 }) (tokens_from (next_mode m t.0) t.1 (p + 1) bytes) h (rest (next_mode m t.0) t.1)

-- Words and names of a line's tokens are of their form, and numbers below 2 ^ 64.
pub line-tokens : (line : List ℕ) (ts : List Token) → tokens line ≡ Ok ts → AreTokens (map (λ t. t.kind) ts)
line-tokens line ts e = subst OnTokens e (tokens-form line First 0 0)

-- The longest token is taken.
use Rattle.std.proofs.Common.{◌≡◌, ℕ, zero, suc, ◌+◌, ◌<◌, ◌≤◌, ◌^◌, ◌==◌, ◌||◌, Bool, true, false, List, [], ◌∷◌, length, take, refl, ap, ◌∙◌, sym, subst, arith, Option, Some, None, eqb-true, ap₂, ltb-true, ltb-false, leb-true, leb-false, eq-eqb, true≢false, length-take, length-take-le, ◌⊎◌, inl, inr}
use Rattle.std.specs.Prelude.{is_some, nat_lt, nat_le, if◌then◌else◌}
use Rattle.std.specs.List.{prefix_len}
use Rattle.std.specs.Str.Parse.{digits_value}
use Rattle.std.proofs.lemmas.Bool.Decides.{nat_tests}
use Rattle.lsys_syntax.specs.Tokens as syntax
use Rattle.lsys_syntax.specs.Tokens.{Mode, First, Words, UntilColon, Modules, Kind, NameText, short, long, is_letter, is_digit, is_alphanumeric, is_word_byte, front, begins, one_mark, alone, mark_at, name_tail, name_with, token_at, letter_at, number_kind, word_kind}
use Rattle.lsys_syntax.specs.Pieces.{Every, HasWords, HasNames, IsNameText, name_text}
use Rattle.lsys_syntax.proofs.Bytes.{letter_no_digit}
use Rattle.lsys_text.specs.Scans.{begins_with}
use Rattle.lsys_text.specs.Longest.{IsTokenText, IsLongest, AreDigits}
use Rattle.lsys_text.proofs.Fronts.{Every-front, front-take, length-front, length-front-le, letter_word, IsTail, tail-is}
use Rattle.lsys_text.proofs.Shapes.{Shape, digits, word, name, double, single, shape, is_double, is_single, front-top, first-of-part}

-- what is to be shown of an answer at the front of a text
abbrev pub Right : Mode → List ℕ → Option (Kind × ℕ) → Type 0
Right m text None = (j : Kind) (i : ℕ) → i ≤ length text → IsTokenText m j (take i text) → ⊥
Right m text (Some t) = IsLongest m text t.0 (t.1 + 1)

-- the first byte of a part that is given
first_is : (i c a : ℕ) (bytes more : List ℕ) → take i (c ∷ bytes) ≡ a ∷ more → c ≡ a
first_is zero c a bytes more e = cc
first_is (suc i) c a bytes more e = cc

name_letter : (n : NameText) → IsNameText n → begins_with is_letter (name_text n) ≡ true
name_letter (short c) h = h
name_letter (long c more) h = h.0

double_first : (a b : ℕ) → is_double a b ≡ true → (is_digit a ≡ false) × (is_letter a ≡ false)
double_first a b h = grind (arith, nat_tests)

-- what is known of a mark of one byte
abbrev MarkFact : ℕ → Option Kind → Type 0
MarkFact a None = Unit {0}
MarkFact a (Some k) = ((m : Mode) → IsTokenText m k (a ∷ [])) × (is_digit a ≡ false) × (is_letter a ≡ false)

mark_by : (a v : ℕ) (k : Kind) (rest : Option Kind) (b : Bool) → (a == v) ≡ b → MarkFact v (Some k) → MarkFact a rest → MarkFact a (if b then Some k else rest)
mark_by a v k rest true e f g = subst (λ x. MarkFact x (Some k)) (sym (eqb-true a v e)) f
mark_by a v k rest false e f g = g

or_mark : (a v : ℕ) (k : Kind) (rest : Option Kind) → MarkFact v (Some k) → MarkFact a rest → MarkFact a (if a == v then Some k else rest)
or_mark a v k rest f g = mark_by a v k rest (a == v) refl f g

mark_fact : (a : ℕ) → MarkFact a (one_mark a)
mark_fact a =
    or_mark a 40 syntax.LeftParen _ ((λ m. refl), refl, refl) (or_mark a 41 syntax.RightParen _ ((λ m. refl), refl, refl) (or_mark a 91 syntax.LeftBracket _ ((λ m. refl), refl, refl)
    (or_mark a 93 syntax.RightBracket _ ((λ m. refl), refl, refl) (or_mark a 44 syntax.Comma _ ((λ m. refl), refl, refl) (or_mark a 58 syntax.Colon _ ((λ m. refl), refl, refl)
    (or_mark a 64 syntax.At _ ((λ m. refl), refl, refl) (or_mark a 43 syntax.Plus _ ((λ m. refl), refl, refl) (or_mark a 45 syntax.Minus _ ((λ m. refl), refl, refl)
    (or_mark a 42 syntax.Times _ ((λ m. refl), refl, refl) (or_mark a 47 syntax.Slash _ ((λ m. refl), refl, refl) (or_mark a 92 syntax.Backslash _ ((λ m. refl), refl, refl)
    (or_mark a 37 syntax.Percent _ ((λ m. refl), refl, refl) (or_mark a 38 syntax.Ampersand _ ((λ m. refl), refl, refl) (or_mark a 124 syntax.Bar _ ((λ m. refl), refl, refl)
    (or_mark a 94 syntax.Caret _ ((λ m. refl), refl, refl) tt)))))))))))))))

some_mark : (a : ℕ) (o : Option Kind) → MarkFact a o → is_some o ≡ true → (is_digit a ≡ false) × (is_letter a ≡ false)
some_mark a None f h = cc
some_mark a (Some k) f h = (f.1, f.2)

either_first : (a v : ℕ) (rest : Bool) → (is_digit v ≡ false) × (is_letter v ≡ false) → (rest ≡ true → (is_digit a ≡ false) × (is_letter a ≡ false)) → (rest || (a == v)) ≡ true
    → (is_digit a ≡ false) × (is_letter a ≡ false)
either_first a v true f g h = g refl
either_first a v false f g h = subst (λ x. (is_digit x ≡ false) × (is_letter x ≡ false)) (sym (eqb-true a v h)) f

last_first : (a : ℕ) (rest : Bool) → (rest ≡ true → (is_digit a ≡ false) × (is_letter a ≡ false)) → (rest || is_some (one_mark a)) ≡ true → (is_digit a ≡ false) × (is_letter a ≡ false)
last_first a true g h = g refl
last_first a false g h = some_mark a (one_mark a) (mark_fact a) h

single_first : (a : ℕ) → is_single a ≡ true → (is_digit a ≡ false) × (is_letter a ≡ false)
single_first a h =
    last_first a ((a == 33) || (a == 60) || (a == 61) || (a == 62))
    (either_first a 62 ((a == 33) || (a == 60) || (a == 61)) (refl, refl)
    (either_first a 61 ((a == 33) || (a == 60)) (refl, refl)
    (either_first a 60 (a == 33) (refl, refl) (λ e. subst (λ x. (is_digit x ≡ false) × (is_letter x ≡ false)) (sym (eqb-true a 33 e)) (refl, refl)))))
    h

-- a part that begins with a digit is of digits
digit_part : (m : Mode) (i c : ℕ) (bytes : List ℕ) → is_digit c ≡ true → Shape m (take i (c ∷ bytes)) → Every is_digit (take i (c ∷ bytes))
digit_part m i c bytes d (digits f e) = e
digit_part m i c bytes d (word w f e) = absurd (true≢false (sym d ∙ letter_no_digit c (first-of-part is_letter i c bytes f)))
digit_part m i c bytes d (name w n e g) =
    let f : begins_with is_letter (take i (c ∷ bytes)) ≡ true = ap (begins_with is_letter) e ∙ name_letter n g in
    absurd (true≢false (sym d ∙ letter_no_digit c (first-of-part is_letter i c bytes f)))
digit_part m i c bytes d (double a b e g) = absurd (true≢false (sym d ∙ ap is_digit (first_is i c a bytes (b ∷ []) e) ∙ (double_first a b g).0))
digit_part m i c bytes d (single a e g) = absurd (true≢false (sym d ∙ ap is_digit (first_is i c a bytes [] e) ∙ (single_first a g).0))

-- a part that begins with a letter, where words are read
word_part : (m : Mode) (i c : ℕ) (bytes : List ℕ) → (HasNames m → ⊥) → is_letter c ≡ true → Shape m (take i (c ∷ bytes)) → Every is_word_byte (take i (c ∷ bytes))
word_part m i c bytes words l (digits f e) = absurd (true≢false (sym (first-of-part is_digit i c bytes f) ∙ letter_no_digit c l))
word_part m i c bytes words l (word w f e) = e
word_part m i c bytes words l (name w n e g) = absurd (words w)
word_part m i c bytes words l (double a b e g) = absurd (true≢false (sym l ∙ ap is_letter (first_is i c a bytes (b ∷ []) e) ∙ (double_first a b g).1))
word_part m i c bytes words l (single a e g) = absurd (true≢false (sym l ∙ ap is_letter (first_is i c a bytes [] e) ∙ (single_first a g).1))

number_text : (m : Mode) (text : List ℕ) (b : Bool) → nat_lt (digits_value 10 text) (2 ^ 64) ≡ b → AreDigits text → IsTokenText m (number_kind text) text
number_text m text true e h = rw e (h, refl, ltb-true _ _ e)
number_text m text false e h = rw e (h, ltb-false _ _ e)

run_part : (p : ℕ → Bool) (c : ℕ) (bytes : List ℕ) → take (length (front p bytes) + 1) (c ∷ bytes) ≡ c ∷ front p bytes
run_part p c bytes =
    let one : length (front p bytes) + 1 ≡ suc (prefix_len p bytes) = omega (arith, length-front p bytes) in
    rw one (ap (λ xs. c ∷ xs) (sym (front-take p bytes)))

run_top : (p : ℕ → Bool) (i c : ℕ) (bytes : List ℕ) → p c ≡ true → i ≤ length (c ∷ bytes) → Every p (take i (c ∷ bytes)) → i ≤ length (front p bytes) + 1
run_top p i c bytes h l e =
    let top : i ≤ length (front p (c ∷ bytes)) = front-top p i (c ∷ bytes) l e in
    let first = rw h at top in
    omega arith

number_right : (m : Mode) (c : ℕ) (bytes : List ℕ) → is_digit c ≡ true → IsLongest m (c ∷ bytes) (number_kind (c ∷ front is_digit bytes)) (length (front is_digit bytes) + 1)
number_right m c bytes d = record {
  within = omega (arith, length-front-le is_digit bytes);
  is_token = subst (IsTokenText m (number_kind (c ∷ front is_digit bytes))) (sym (run_part is_digit c bytes))
      (number_text m (c ∷ front is_digit bytes) (nat_lt (digits_value 10 (c ∷ front is_digit bytes)) (2 ^ 64)) refl (omega arith, (d, Every-front is_digit bytes)));
  longest = λ j i l h. run_top is_digit i c bytes d l (digit_part m i c bytes d (shape m j (take i (c ∷ bytes)) h));
}

word_text : (m : Mode) (c : ℕ) (cs : List ℕ) (b : Bool) → nat_le (length (c ∷ cs)) 16 ≡ b → HasWords m → is_letter c ≡ true → Every is_word_byte cs → IsTokenText m (word_kind (c ∷ cs)) (c ∷ cs)
word_text m c cs true e w l h = rw e (w, refl, (l, h, leb-true _ _ e))
word_text m c cs false e w l h = rw e (w, (l, h, leb-false _ _ e))

word_right : (m : Mode) (c : ℕ) (bytes : List ℕ) → HasWords m → (HasNames m → ⊥) → is_letter c ≡ true
    → IsLongest m (c ∷ bytes) (word_kind (c ∷ front is_word_byte bytes)) (length (front is_word_byte bytes) + 1)
word_right m c bytes w words l = record {
  within = omega (arith, length-front-le is_word_byte bytes);
  is_token = subst (IsTokenText m (word_kind (c ∷ front is_word_byte bytes))) (sym (run_part is_word_byte c bytes))
      (word_text m c (front is_word_byte bytes) (nat_le (length (c ∷ front is_word_byte bytes)) 16) refl w l (Every-front is_word_byte bytes));
  longest = λ j i b h. run_top is_word_byte i c bytes (letter_word c l) b (word_part m i c bytes words l (shape m j (take i (c ∷ bytes)) h));
}

-- a part that is a name with a `_`
long_top : (i c : ℕ) (bytes : List ℕ) (d : ℕ) (more : List ℕ) → i ≤ length (c ∷ bytes) → take i (c ∷ bytes) ≡ d ∷ 95 ∷ more → Every is_alphanumeric more → length more ≤ 6
    → (i ≡ length more + 2) × (length more ≤ length (name_tail bytes))
long_top zero c bytes d more l e h s = cc
long_top (suc zero) c bytes d more l e h s = cc
long_top (suc (suc i)) c [] d more l e h s = cc
long_top (suc (suc i)) c (x ∷ rest) d more l e h s =
    let under : x ≡ 95 = cc in
    let part : take i rest ≡ more = cc in
    let len : length more ≡ i = sym (ap length part) ∙ length-take-le i rest (omega arith) in
    let top : i ≤ length (front is_alphanumeric rest) = front-top is_alphanumeric i rest (omega arith) (subst (Every is_alphanumeric) (sym part) h) in
    let tail : name_tail (x ∷ rest) ≡ take 6 (front is_alphanumeric rest) = rw (eq-eqb x 95 under) refl in
    (omega arith, rw tail (omega (arith, length-take 6 (front is_alphanumeric rest))))

-- the longest name part
name_top : (i c : ℕ) (bytes : List ℕ) → is_letter c ≡ true → i ≤ length (c ∷ bytes) → Shape Modules (take i (c ∷ bytes))
    → (i ≤ 1) ⊎ ((0 < length (name_tail bytes)) × (i ≤ length (name_tail bytes) + 2))
name_top i c bytes l b (digits f e) = absurd (true≢false (sym (first-of-part is_digit i c bytes f) ∙ letter_no_digit c l))
name_top i c bytes l b (word w f e) = elim w [ ]
name_top i c bytes l b (name w (short d) e g) =
    let len : length (take i (c ∷ bytes)) ≡ 1 = ap length e in inl (omega (arith, length-take-le i (c ∷ bytes) b))
name_top i c bytes l b (name w (long d more) e g) =
    let top : (i ≡ length more + 2) × (length more ≤ length (name_tail bytes)) = long_top i c bytes d more b e g.1 g.3 in
    inr (omega (arith, g.2, top.1), omega (arith, top.0, top.1))
name_top i c bytes l b (double x y e g) = absurd (true≢false (sym l ∙ ap is_letter (first_is i c x bytes (y ∷ []) e) ∙ (double_first x y g).1))
name_top i c bytes l b (single x e g) = absurd (true≢false (sym l ∙ ap is_letter (first_is i c x bytes [] e) ∙ (single_first x g).1))

top_of : (i n : ℕ) → (i ≤ 1) ⊎ ((0 < n) × (i ≤ n + 2)) → (n ≡ 0 → i ≤ 1) × (0 < n → i ≤ n + 2)
top_of i n (inl h) = ((λ e. h), (λ p. omega arith))
top_of i n (inr h) = ((λ e. absurd (omega (arith, h.0))), (λ p. h.1))

name_by : (c : ℕ) (bytes tail : List ℕ) → is_letter c ≡ true → (0 < length tail → IsTail bytes tail)
    → ((j : Kind) (i : ℕ) → i ≤ length (c ∷ bytes) → IsTokenText Modules j (take i (c ∷ bytes)) → (length tail ≡ 0 → i ≤ 1) × (0 < length tail → i ≤ length tail + 2))
    → IsLongest Modules (c ∷ bytes) (name_with c tail).0 ((name_with c tail).1 + 1)
name_by c bytes [] l t top = record {
  within = omega arith;
  is_token = (tt, refl, l);
  longest = λ j i b h. (top j i b h).0 refl;
}
name_by c bytes (a ∷ tail) l t top =
    let some : 0 < length (a ∷ tail) = omega arith in
    let is : IsTail bytes (a ∷ tail) = t some in
    let one : suc (length (a ∷ tail)) + 1 ≡ suc (length (a ∷ tail) + 1) = omega arith in
    record {
      within = omega (arith, is.within);
      is_token = (tt, rw (one, is.cut) refl, (l, is.plain, some, is.few));
      longest = λ j i b h. let most : i ≤ length (a ∷ tail) + 2 = (top j i b h).1 some in omega arith;
    }

name_right : (c : ℕ) (bytes : List ℕ) → is_letter c ≡ true → IsLongest Modules (c ∷ bytes) (name_with c (name_tail bytes)).0 ((name_with c (name_tail bytes)).1 + 1)
name_right c bytes l = name_by c bytes (name_tail bytes) l (tail-is bytes)
    (λ j i b h. top_of i (length (name_tail bytes)) (name_top i c bytes l b (shape Modules j (take i (c ∷ bytes)) h)))

letter_right : (m : Mode) (c : ℕ) (bytes : List ℕ) → is_letter c ≡ true → IsLongest m (c ∷ bytes) (letter_at m c bytes).0 ((letter_at m c bytes).1 + 1)
letter_right First c bytes l = word_right First c bytes tt (λ h. h) l
letter_right Words c bytes l = word_right Words c bytes tt (λ h. h) l
letter_right UntilColon c bytes l = word_right UntilColon c bytes tt (λ h. h) l
letter_right Modules c bytes l = name_right c bytes l

-- a part of marks
abbrev is_double_at : ℕ → List ℕ → Bool
is_double_at c [] = false
is_double_at c (x ∷ bytes) = is_double c x

data MarkPart (i c : ℕ) (bytes : List ℕ) : Type 0 where
  lone : i ≡ 1 → is_single c ≡ true → MarkPart i c bytes
  pair : i ≡ 2 → is_double_at c bytes ≡ true → MarkPart i c bytes

single_part : (i c a : ℕ) (bytes : List ℕ) → i ≤ length (c ∷ bytes) → take i (c ∷ bytes) ≡ a ∷ [] → is_single a ≡ true → MarkPart i c bytes
single_part i c a bytes l e h =
    let len : length (take i (c ∷ bytes)) ≡ 1 = ap length e in
    lone (omega (arith, length-take-le i (c ∷ bytes) l)) (ap is_single (first_is i c a bytes [] e) ∙ h)

double_part : (i c a b : ℕ) (bytes : List ℕ) → i ≤ length (c ∷ bytes) → take i (c ∷ bytes) ≡ a ∷ b ∷ [] → is_double a b ≡ true → MarkPart i c bytes
double_part zero c a b bytes l e h = cc
double_part (suc zero) c a b bytes l e h = cc
double_part (suc (suc i)) c a b [] l e h = cc
double_part (suc (suc i)) c a b (x ∷ rest) l e h =
    let first : c ≡ a = cc in
    let second : x ≡ b = cc in
    let len : length (take (suc (suc i)) (c ∷ x ∷ rest)) ≡ 2 = ap length e in
    pair (omega (arith, length-take-le (suc (suc i)) (c ∷ x ∷ rest) l)) (ap₂ is_double first second ∙ h)

mark_part : (m : Mode) (i c : ℕ) (bytes : List ℕ) → is_digit c ≡ false → is_letter c ≡ false → i ≤ length (c ∷ bytes) → Shape m (take i (c ∷ bytes)) → MarkPart i c bytes
mark_part m i c bytes d l b (digits f e) = absurd (true≢false (sym (first-of-part is_digit i c bytes f) ∙ d))
mark_part m i c bytes d l b (word w f e) = absurd (true≢false (sym (first-of-part is_letter i c bytes f) ∙ l))
mark_part m i c bytes d l b (name w n e g) =
    let f : begins_with is_letter (take i (c ∷ bytes)) ≡ true = ap (begins_with is_letter) e ∙ name_letter n g in
    absurd (true≢false (sym (first-of-part is_letter i c bytes f) ∙ l))
mark_part m i c bytes d l b (double x y e g) = double_part i c x y bytes b e g
mark_part m i c bytes d l b (single x e g) = single_part i c x bytes b e g

at_most_two : (i c : ℕ) (bytes : List ℕ) → MarkPart i c bytes → i ≤ 2
at_most_two i c bytes (lone e h) = omega arith
at_most_two i c bytes (pair e h) = omega arith

at_most_one : (i c : ℕ) (bytes : List ℕ) → is_double_at c bytes ≡ false → MarkPart i c bytes → i ≤ 1
at_most_one i c bytes f (lone e h) = omega arith
at_most_one i c bytes f (pair e h) = absurd (true≢false (sym h ∙ f))

no_mark : (i c : ℕ) (bytes : List ℕ) → is_double_at c bytes ≡ false → is_single c ≡ false → MarkPart i c bytes → ⊥
no_mark i c bytes f g (lone e h) = true≢false (sym h ∙ g)
no_mark i c bytes f g (pair e h) = true≢false (sym h ∙ f)

module _ (m : Mode) (c : ℕ) (d : is_digit c ≡ false) (l : is_letter c ≡ false) where
  two_right : (x : ℕ) (rest : List ℕ) (k : Kind) → IsTokenText m k (c ∷ x ∷ []) → IsLongest m (c ∷ x ∷ rest) k (1 + 1)
  two_right x rest k h = record {
    within = omega arith;
    is_token = h;
    longest = λ j i b g. at_most_two i c (x ∷ rest) (mark_part m i c (x ∷ rest) d l b (shape m j (take i (c ∷ x ∷ rest)) g));
  }

  one_right : (bytes : List ℕ) (k : Kind) → IsTokenText m k (c ∷ []) → is_double_at c bytes ≡ false → IsLongest m (c ∷ bytes) k (0 + 1)
  one_right bytes k h f = record {
    within = omega arith;
    is_token = h;
    longest = λ j i b g. at_most_one i c bytes f (mark_part m i c bytes d l b (shape m j (take i (c ∷ bytes)) g));
  }

  alone_right : (bytes : List ℕ) (o : Option Kind) → one_mark c ≡ o → MarkFact c o → is_double_at c bytes ≡ false → (o ≡ None → is_single c ≡ false) → Right m (c ∷ bytes) (alone o)
  alone_right bytes None e g f s = λ j i b h. no_mark i c bytes f (s refl) (mark_part m i c bytes d l b (shape m j (take i (c ∷ bytes)) h))
  alone_right bytes (Some k) e g f s = one_right bytes k (g.0 m) f

-- `=`, and what may stand after it
assign_by : (m : Mode) (x : ℕ) (rest : List ℕ) (a b : Bool) → (x == 62) ≡ a → (x == 61) ≡ b
    → Right m (61 ∷ x ∷ rest) (if a then Some (syntax.Arrow, 1) else if b then Some (syntax.Equal, 1) else Some (syntax.Assign, 0))
assign_by m x rest true b e f = two_right m 61 refl refl x rest syntax.Arrow (ap (λ y. 61 ∷ y ∷ []) (eqb-true x 62 e))
assign_by m x rest false true e f = two_right m 61 refl refl x rest syntax.Equal (ap (λ y. 61 ∷ y ∷ []) (eqb-true x 61 f))
assign_by m x rest false false e f = one_right m 61 refl refl (x ∷ rest) syntax.Assign refl (rw (e, f) refl)

assign_right : (m : Mode) (bytes : List ℕ) → Right m (61 ∷ bytes) (mark_at 61 bytes)
assign_right m [] = one_right m 61 refl refl [] syntax.Assign refl refl
assign_right m (x ∷ rest) = assign_by m x rest (x == 62) (x == 61) refl refl

-- `!`, `<` or `>`, and a `=` that may stand after it
order_by : (m : Mode) (c : ℕ) (two one : Kind) (x : ℕ) (rest : List ℕ) (b : Bool) → (x == 61) ≡ b → is_digit c ≡ false → is_letter c ≡ false
    → IsTokenText m two (c ∷ 61 ∷ []) → IsTokenText m one (c ∷ []) → ((x == 61) ≡ false → is_double c x ≡ false)
    → Right m (c ∷ x ∷ rest) (if b then Some (two, 1) else Some (one, 0))
order_by m c two one x rest true e d l h g f = two_right m c d l x rest two (subst (λ y. IsTokenText m two (c ∷ y ∷ [])) (sym (eqb-true x 61 e)) h)
order_by m c two one x rest false e d l h g f = one_right m c d l (x ∷ rest) one g (f e)

bang_right : (m : Mode) (bytes : List ℕ) → Right m (33 ∷ bytes) (mark_at 33 bytes)
bang_right m [] = one_right m 33 refl refl [] syntax.Bang refl refl
bang_right m (x ∷ rest) = order_by m 33 syntax.Unequal syntax.Bang x rest (x == 61) refl refl refl refl refl (λ e. rw e refl)

less_right : (m : Mode) (bytes : List ℕ) → Right m (60 ∷ bytes) (mark_at 60 bytes)
less_right m [] = one_right m 60 refl refl [] syntax.Less refl refl
less_right m (x ∷ rest) = order_by m 60 syntax.AtMost syntax.Less x rest (x == 61) refl refl refl refl refl (λ e. rw e refl)

greater_right : (m : Mode) (bytes : List ℕ) → Right m (62 ∷ bytes) (mark_at 62 bytes)
greater_right m [] = one_right m 62 refl refl [] syntax.Greater refl refl
greater_right m (x ∷ rest) = order_by m 62 syntax.AtLeast syntax.Greater x rest (x == 61) refl refl refl refl refl (λ e. rw e refl)

no_double : (c : ℕ) (bytes : List ℕ) → (c == 61) ≡ false → (c == 33) ≡ false → (c == 60) ≡ false → (c == 62) ≡ false → is_double_at c bytes ≡ false
no_double c [] e f g h = refl
no_double c (x ∷ rest) e f g h = rw (e, f, g, h) refl

no_single : (c : ℕ) → (c == 61) ≡ false → (c == 33) ≡ false → (c == 60) ≡ false → (c == 62) ≡ false → one_mark c ≡ None → is_single c ≡ false
no_single c e f g h o = rw (f, g, e, h) (ap is_some o)

mark_by_first : (m : Mode) (c : ℕ) (bytes : List ℕ) (w x y z : Bool) → (c == 61) ≡ w → (c == 33) ≡ x → (c == 60) ≡ y → (c == 62) ≡ z → is_digit c ≡ false → is_letter c ≡ false
    → Right m (c ∷ bytes) (mark_at c bytes)
mark_by_first m c bytes true x y z e f g h d l = subst (λ v. Right m (v ∷ bytes) (mark_at v bytes)) (sym (eqb-true c 61 e)) (assign_right m bytes)
mark_by_first m c bytes false true y z e f g h d l = subst (λ v. Right m (v ∷ bytes) (mark_at v bytes)) (sym (eqb-true c 33 f)) (bang_right m bytes)
mark_by_first m c bytes false false true z e f g h d l = subst (λ v. Right m (v ∷ bytes) (mark_at v bytes)) (sym (eqb-true c 60 g)) (less_right m bytes)
mark_by_first m c bytes false false false true e f g h d l = subst (λ v. Right m (v ∷ bytes) (mark_at v bytes)) (sym (eqb-true c 62 h)) (greater_right m bytes)
mark_by_first m c bytes false false false false e f g h d l =
    let is : mark_at c bytes ≡ alone (one_mark c) = rw (e, f, g, h) refl in
    subst (Right m (c ∷ bytes)) (sym is) (alone_right m c d l bytes (one_mark c) refl (mark_fact c) (no_double c bytes e f g h) (no_single c e f g h))

right_by : (m : Mode) (c : ℕ) (bytes : List ℕ) (a b : Bool) → is_digit c ≡ a → is_letter c ≡ b → Right m (c ∷ bytes) (token_at m c bytes)
right_by m c bytes true b d l =
    let is : token_at m c bytes ≡ Some (number_kind (c ∷ front is_digit bytes), length (front is_digit bytes)) = rw d refl in
    subst (Right m (c ∷ bytes)) (sym is) (number_right m c bytes d)
right_by m c bytes false true d l =
    let is : token_at m c bytes ≡ Some (letter_at m c bytes) = rw (d, l) refl in
    subst (Right m (c ∷ bytes)) (sym is) (letter_right m c bytes l)
right_by m c bytes false false d l =
    let is : token_at m c bytes ≡ mark_at c bytes = rw (d, l) refl in
    subst (Right m (c ∷ bytes)) (sym is) (mark_by_first m c bytes (c == 61) (c == 33) (c == 60) (c == 62) refl refl refl refl d l)

right : (m : Mode) (c : ℕ) (bytes : List ℕ) → Right m (c ∷ bytes) (token_at m c bytes)
right m c bytes = right_by m c bytes (is_digit c) (is_letter c) refl refl

pub takes-longest : (m : Mode) (c : ℕ) (bytes : List ℕ) (k : Kind) (more : ℕ) → token_at m c bytes ≡ Some (k, more) → IsLongest m (c ∷ bytes) k (more + 1)
takes-longest m c bytes k more e = subst (Right m (c ∷ bytes)) e (right m c bytes)

pub takes-any : (m : Mode) (c : ℕ) (bytes : List ℕ) → token_at m c bytes ≡ None → (j : Kind) (i : ℕ) → i ≤ length (c ∷ bytes) → IsTokenText m j (take i (c ∷ bytes)) → ⊥
takes-any m c bytes e = subst (Right m (c ∷ bytes)) e (right m c bytes)

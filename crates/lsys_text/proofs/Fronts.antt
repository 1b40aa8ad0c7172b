-- Fronts of texts: the bytes that pass, one after another.
use Rattle.std.proofs.Common.{◌≡◌, ℕ, zero, suc, ◌+◌, ◌-◌, ◌*◌, ◌<◌, ◌≤◌, ◌==◌, Bool, true, false, List, [], ◌∷◌, length, take, drop, get_or, refl, ap, ◌∙◌, arith, eqb-true}
use Rattle.std.specs.List.{prefix_len}
use Rattle.std.specs.Char.{digit_value}
use Rattle.std.specs.Str.Parse.{digits_value}
use Rattle.std.proofs.lemmas.Int.Digits.{digits_value_more}
use Rattle.std.proofs.Common.{length-take, take_all, length-drop}
use Rattle.std.proofs.lemmas.Bool.Decides.{nat_tests}
use Rattle.lsys_syntax.specs.Tokens.{is_digit, is_letter, is_alphanumeric, is_word_byte, front, name_tail}
use Rattle.lsys_syntax.specs.Pieces.{Every, IsWordText}
use Rattle.lsys_text.specs.Scans.{begins_with}

-- the part of a list from a place on
pub part-from : (n : ℕ) (xs : List ℕ) → take (length xs - n) (drop n xs) ≡ drop n xs
part-from n xs = take_all (length xs - n) (drop n xs) (omega (arith, length-drop n xs))

front_by : (p : ℕ → Bool) (c : ℕ) (xs : List ℕ) (b : Bool) → p c ≡ b → front p xs ≡ take (prefix_len p xs) xs
    → front p (c ∷ xs) ≡ take (prefix_len p (c ∷ xs)) (c ∷ xs)
front_by p c xs true e ih = let one : 1 + prefix_len p xs ≡ suc (prefix_len p xs) = omega arith in rw (e, one) (ap (λ ys. c ∷ ys) ih)
front_by p c xs false e ih = rw e refl

pub front-take : (p : ℕ → Bool) (xs : List ℕ) → front p xs ≡ take (prefix_len p xs) xs
front-take p [] = refl
front-take p (c ∷ xs) = front_by p c xs (p c) refl (front-take p xs)

length_by : (p : ℕ → Bool) (c : ℕ) (xs : List ℕ) (b : Bool) → p c ≡ b → length (front p xs) ≡ prefix_len p xs
    → length (front p (c ∷ xs)) ≡ prefix_len p (c ∷ xs)
length_by p c xs true e ih = rw e (omega arith)
length_by p c xs false e ih = rw e refl

pub length-front : (p : ℕ → Bool) (xs : List ℕ) → length (front p xs) ≡ prefix_len p xs
length-front p [] = refl
length-front p (c ∷ xs) = length_by p c xs (p c) refl (length-front p xs)

le_by : (p : ℕ → Bool) (c : ℕ) (xs : List ℕ) (b : Bool) → p c ≡ b → length (front p xs) ≤ length xs
    → length (front p (c ∷ xs)) ≤ length (c ∷ xs)
le_by p c xs true e ih = rw e (omega arith)
le_by p c xs false e ih = rw e (omega arith)

pub length-front-le : (p : ℕ → Bool) (xs : List ℕ) → length (front p xs) ≤ length xs
length-front-le p [] = omega arith
length-front-le p (c ∷ xs) = le_by p c xs (p c) refl (length-front-le p xs)

every_by : (p : ℕ → Bool) (c : ℕ) (xs : List ℕ) (b : Bool) → p c ≡ b → Every p (front p xs) → Every p (front p (c ∷ xs))
every_by p c xs true e ih = rw e (e, ih)
every_by p c xs false e ih = rw e tt

pub Every-front : (p : ℕ → Bool) (xs : List ℕ) → Every p (front p xs)
Every-front p [] = tt
Every-front p (c ∷ xs) = every_by p c xs (p c) refl (Every-front p xs)

pub Every-take : (p : ℕ → Bool) (n : ℕ) (xs : List ℕ) → Every p xs → Every p (take n xs)
Every-take p zero xs h = tt
Every-take p (suc n) [] h = tt
Every-take p (suc n) (c ∷ xs) h = (h.0, Every-take p n xs h.1)

pub Every-at : (p : ℕ → Bool) (xs : List ℕ) (i : ℕ) → Every p xs → i < length xs → p (get_or xs i 0) ≡ true
Every-at p [] i h l = absurd (omega arith)
Every-at p (c ∷ xs) zero h l = h.0
Every-at p (c ∷ xs) (suc i) h l = Every-at p xs i h.1 (omega arith)

pub letter_word : (c : ℕ) → is_letter c ≡ true → is_word_byte c ≡ true
letter_word c h = rw h refl

-- the word at the front of a text
pub word-front : (text : List ℕ) → begins_with is_letter text ≡ true → length (front is_word_byte text) ≤ 16 → IsWordText (front is_word_byte text)
word-front [] h l = cc
word-front (c ∷ bytes) h l =
    let w : is_word_byte c ≡ true = letter_word c h in
    let few : length (c ∷ front is_word_byte bytes) ≤ 16 = rw w at l in
    rw w (h, Every-front is_word_byte bytes, few)

-- what stands after the letter of a name with a `_`
pub record IsTail (after tail : List ℕ) : Type 0 where
  pub cut : take (length tail + 1) after ≡ 95 ∷ tail
  pub plain : Every is_alphanumeric tail
  pub few : length tail ≤ 6
  pub within : length tail + 1 ≤ length after

take-front_by : (p : ℕ → Bool) (n c : ℕ) (xs : List ℕ) (b : Bool) → p c ≡ b → take (length (take n (front p xs))) xs ≡ take n (front p xs)
    → take (length (take (suc n) (front p (c ∷ xs)))) (c ∷ xs) ≡ take (suc n) (front p (c ∷ xs))
take-front_by p n c xs true e ih = rw e (ap (λ ys. c ∷ ys) ih)
take-front_by p n c xs false e ih = rw e refl

take-front : (p : ℕ → Bool) (n : ℕ) (xs : List ℕ) → take (length (take n (front p xs))) xs ≡ take n (front p xs)
take-front p zero xs = refl
take-front p (suc n) [] = refl
take-front p (suc n) (c ∷ xs) = take-front_by p n c xs (p c) refl (take-front p n xs)

underscore_tail : (c : ℕ) (xs : List ℕ) → c ≡ 95 → IsTail (c ∷ xs) (take 6 (front is_alphanumeric xs))
underscore_tail c xs e =
    let tail : List ℕ = take 6 (front is_alphanumeric xs) in
    let one : length tail + 1 ≡ suc (length tail) = omega arith in
    let cut : take (length tail) xs ≡ tail = take-front is_alphanumeric 6 xs in
    record {
      cut = rw one (cc);
      plain = Every-take is_alphanumeric 6 (front is_alphanumeric xs) (Every-front is_alphanumeric xs);
      few = omega (arith, length-take 6 (front is_alphanumeric xs));
      within = omega (arith, length-take 6 (front is_alphanumeric xs), length-front-le is_alphanumeric xs);
    }

tail_by : (c : ℕ) (xs : List ℕ) (b : Bool) → (c == 95) ≡ b → 0 < length (name_tail (c ∷ xs)) → IsTail (c ∷ xs) (name_tail (c ∷ xs))
tail_by c xs false e h = let none = rw e at h in absurd (omega arith)
tail_by c xs true e h = rw e (underscore_tail c xs (eqb-true c 95 e))

pub tail-is : (after : List ℕ) → 0 < length (name_tail after) → IsTail after (name_tail after)
tail-is [] h = absurd (omega arith)
tail-is (c ∷ xs) h = tail_by c xs (c == 95) refl h

pub digit-range : (c : ℕ) → is_digit c ≡ true → (48 ≤ c) × (c ≤ 57)
digit-range c h = grind (arith, nat_tests)

pub digit-is : (c : ℕ) → is_digit c ≡ true → digit_value c ≡ c - 48
digit-is c h = let r : (48 ≤ c) × (c ≤ 57) = digit-range c h in grind (arith, nat_tests)

-- a number with one more of its digits
pub value-step : (digits : List ℕ) (i value : ℕ) → Every is_digit digits → i < length digits → value ≡ digits_value 10 (take i digits)
    → digits_value 10 (take (i + 1) digits) ≡ value * 10 + (get_or digits i 0 - 48)
value-step digits i value h l e =
    let d : digit_value (get_or digits i 0) ≡ get_or digits i 0 - 48 = digit-is _ (Every-at is_digit digits i h l) in
    digits_value_more 10 digits i l ∙ rw (e, d) refl

-- The kind of a token, by its text.
use Rattle.std.proofs.Common.{◌≡◌, ℕ, suc, ◌+◌, ◌<◌, ◌≤◌, true, false, List, [], ◌∷◌, length, take, drop, get_or, refl, ◌∙◌, sym, arith}
use Rattle.lsys_syntax.specs.Tokens.{Kind, Mode, First, Words, UntilColon, Modules, is_digit, is_letter, is_word_byte, is_alphanumeric, front, number_kind, word_kind, letter_at}
use Rattle.lsys_text.specs.Scans.{begins_with, first_name}
use Rattle.lsys_syntax.specs.Tokens as syntax
use Rattle.lsys_syntax.specs.Tokens.{name_tail, name_with}
use Rattle.lsys_text.specs.Tokens.{name_of}
use Rattle.lsys_text.specs.Texts.{IsNameBytes}
use Rattle.lsys_text.proofs.Fronts.{IsTail, tail-is}
use Rattle.std.proofs.Common.{le-leb, lt-ltb, ◌^◌, min, length-take}
use Rattle.std.specs.Prelude.{nat_le, nat_lt}
use Rattle.std.specs.Str.Parse.{digits_value}
use Rattle.std.proofs.lemmas.Bool.Decides.{nat_tests}

pub word_kind-short : (text : List ℕ) → length text ≤ 16 → word_kind text ≡ syntax.Word text
word_kind-short text h = rw (le-leb (length text) 16 h) refl

pub word_kind-long : (text : List ℕ) → 16 < length text → word_kind text ≡ syntax.LongWord
word_kind-long text h = let long : nat_le (length text) 16 ≡ false = grind (arith, nat_tests) in rw long refl

pub number_kind-small : (digits : List ℕ) → digits_value 10 digits < 2 ^ 64 → number_kind digits ≡ syntax.Number (digits_value 10 digits)
number_kind-small digits h = rw (lt-ltb (digits_value 10 digits) (2 ^ 64) h) refl

pub number_kind-big : (digits : List ℕ) → (digits_value 10 digits < 2 ^ 64 → ⊥) → number_kind digits ≡ syntax.BigNumber
number_kind-big digits h = let big : nat_lt (digits_value 10 digits) (2 ^ 64) ≡ false = grind (arith, nat_tests, h) in rw big refl

-- the name at the front of a text
pub record IsNameFront (text : List ℕ) (more : ℕ) : Type 0 where
  pub name : IsNameBytes (take (more + 1) text)
  pub is : ◌≡◌ {A = Kind × ℕ} (syntax.Name (name_of (take (more + 1) text)), more) (first_name text)

name_front : (c : ℕ) (bytes tail : List ℕ) (more : ℕ) → is_letter c ≡ true → (0 < length tail → IsTail bytes tail) → more ≡ (name_with c tail).1
    → IsNameBytes (take (more + 1) (c ∷ bytes)) × ◌≡◌ {A = Kind × ℕ} (syntax.Name (name_of (take (more + 1) (c ∷ bytes))), more) (name_with c tail)
name_front c bytes [] more h t e = rw e (rw h refl, refl)
name_front c bytes (a ∷ tail) more h t e =
    let some : 0 < length (a ∷ tail) = omega arith in
    let is : IsTail bytes (a ∷ tail) = t some in
    let one : more + 1 ≡ suc (length (a ∷ tail) + 1) = omega arith in
    rw (one, is.cut, e) ((refl, (h, is.plain, some, is.few)), refl)

name_more_same : (c : ℕ) (tail : List ℕ) → (name_with 0 tail).1 ≡ (name_with c tail).1
name_more_same c [] = refl
name_more_same c (a ∷ tail) = refl

more-of : (tail : List ℕ) (n : ℕ) → n ≡ length tail → 0 < n → n + 1 ≡ (name_with 0 tail).1
more-of [] n e p = absurd (omega arith)
more-of (a ∷ tail) n e p = omega arith

pub name-front : (text : List ℕ) (more : ℕ) → begins_with is_letter text ≡ true → more ≡ (name_with 0 (name_tail (drop 1 text))).1 → IsNameFront text more
name-front [] more h e = cc
name-front (c ∷ bytes) more h e =
    let found = name_front c bytes (name_tail bytes) more h (tail-is bytes) (e ∙ name_more_same c (name_tail bytes)) in
    record { name = found.0; is = found.1 }

-- how many bytes of a name stand after its letter
pub name_more-tail : (after : List ℕ) (n : ℕ) → 0 < length after → get_or after 0 0 ≡ 95 → n ≡ min (length (front is_alphanumeric (drop 1 after))) 6 → 0 < n
    → n + 1 ≡ (name_with 0 (name_tail after)).1
name_more-tail [] n s u e p = absurd (omega arith)
name_more-tail (c ∷ xs) n s u e p =
    let long : length (take 6 (front is_alphanumeric xs)) ≡ n = length-take 6 (front is_alphanumeric xs) ∙ omega arith in
    rw u (more-of (take 6 (front is_alphanumeric xs)) n (sym long) p)

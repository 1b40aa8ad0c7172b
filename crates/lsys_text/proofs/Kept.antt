-- Texts and the numbers that keep them, step by step.
use Rattle.std.proofs.Common.{◌≡◌, ℕ, zero, suc, ◌+◌, ◌-◌, ◌*◌, ◌/◌, ◌%◌, ◌^◌, ◌<◌, ◌≤◌, ◌==◌, ◌||◌, true, false, List, [], ◌∷◌, ◌++◌, length, drop, get_or, refl, ap, ◌∙◌, sym, arith, ne_eqb, add-one, drop-cons, append_assoc}
use Rattle.std.proofs.Math.Nat.{pow-succ', pow-le-pow_right}
use Rattle.std.proofs.Math.Bool.{or-true}
use Rattle.std.proofs.lemmas.Bool.Decides.{nat_tests, Decides-eqb, Decides-like}
use Rattle.std.proofs.lemmas.Slice.Eq.{bytes_eq-Decides}
use Rattle.std.proofs.lemmas.Bool.Decides.{same_from_decides}
use Rattle.std.specs.Str.{bytes_eq}
use Rattle.lsys_syntax.specs.Tokens.{is_letter, is_alphanumeric, is_word_byte}
use Rattle.lsys_syntax.specs.Pieces.{Every, IsWordText}
use Rattle.lsys_text.specs.Packed.{packed, unpacked_to, unpacked, AreTextBytes, packed-unpacked, unpacked-packed}
use Rattle.lsys_text.specs.Texts.{is_name_mark, IsNameBytes}

-- one more byte in front
pub packed-drop : (text : List ℕ) (i : ℕ) → i < length text → packed (drop i text) ≡ packed (drop (i + 1) text) * 256 + get_or text i 0
packed-drop text i h = rw (add-one, drop-cons text i 0) (omega arith)

-- bytes that leave room below 2 ^ 128
pub room_below : (n k : ℕ) → k < 16 → n < 256 ^ k → n * 256 + 255 < 2 ^ 128
room_below n k h l =
    let pos : 0 < 256 = omega arith in
    let below : k ≤ 15 = omega arith in
    let top : 256 ^ k ≤ 256 ^ 15 = pow-le-pow_right pos below in
    omega arith

pub packed-step : (text : List ℕ) (place number byte : ℕ) → 0 < place → place ≤ length text → number ≡ packed (drop place text) → byte ≡ get_or text (place - 1) 0
    → number * 256 + byte ≡ packed (drop (place - 1) text)
packed-step text place number byte p h e b =
    let back : place - 1 + 1 ≡ place = omega arith in
    rw (e, b) (sym (packed-drop text (place - 1) (omega arith) ∙ ap (λ i. packed (drop i text) * 256 + get_or text (place - 1) 0) back))

pub bound-step : (number byte len place : ℕ) → 0 < place → place ≤ len → number < 256 ^ (len - place) → byte < 256 → number * 256 + byte < 256 ^ (len - (place - 1))
bound-step number byte len place p h l b =
    let e : len - (place - 1) ≡ suc (len - place) = omega arith in
    rw e (omega (arith, pow-succ' 256 (len - place)))

pub unpacked_to-step : (n m : ℕ) → 0 < m → m < 256 ^ n → unpacked_to n m ≡ m % 256 ∷ unpacked_to (n - 1) (m / 256)
unpacked_to-step zero m p h = absurd (omega arith)
unpacked_to-step (suc n) m p h =
    let some : (m == 0) ≡ false = ne_eqb _ _ (λ e. absurd (omega arith)) in
    rw some (ap (λ k. m % 256 ∷ unpacked_to k (m / 256)) (omega arith))

pub room_left : (n m : ℕ) → 0 < m → m < 256 ^ n → 0 < n
room_left zero m p h = absurd (omega arith)
room_left (suc n) m p h = omega arith

pub unpacked_to-rest : (n m : ℕ) → 0 < m → m < 256 ^ n → m / 256 < 256 ^ (n - 1)
unpacked_to-rest zero m p h = absurd (omega arith)
unpacked_to-rest (suc n) m p h =
    let e : suc n - 1 ≡ n = omega arith in
    rw e (omega (arith, pow-succ' 256 n))

-- one more byte after
pub unpacked-next : (text new : List ℕ) (n k rest : ℕ) (all : List ℕ) → 0 < rest → rest < 256 ^ n → text ++ unpacked_to n rest ≡ all → new ≡ text ++ (rest % 256 ∷ []) → k ≡ n - 1
    → new ++ unpacked_to k (rest / 256) ≡ all
unpacked-next text new n k rest all p h e f g =
    rw (f, g, append_assoc) (ap (λ bytes. text ++ bytes) (sym (unpacked_to-step n rest p h)) ∙ e)

letter_byte : (c : ℕ) → is_letter c ≡ true → (0 < c) × (c < 256)
letter_byte c h = grind (arith, nat_tests)

word_byte : (c : ℕ) → is_word_byte c ≡ true → (0 < c) × (c < 256)
word_byte c h = grind (arith, nat_tests)

word_bytes : (text : List ℕ) → Every is_word_byte text → AreTextBytes text
word_bytes [] h = tt
word_bytes (c ∷ text) h = ((word_byte c h.0).0, (word_byte c h.0).1, word_bytes text h.1)

plain_byte : (c : ℕ) → is_alphanumeric c ≡ true → (0 < c) × (c < 256)
plain_byte c h = grind (arith, nat_tests)

plain_bytes : (text : List ℕ) → Every is_alphanumeric text → AreTextBytes text
plain_bytes [] h = tt
plain_bytes (c ∷ text) h = let b : (0 < c) × (c < 256) = plain_byte c h.0 in (b.0, b.1, plain_bytes text h.1)

name_byte : (c : ℕ) → (is_letter c || is_name_mark c) ≡ true → (0 < c) × (c < 256)
name_byte c h = grind (arith, nat_tests)

-- a word's text is that of its number
pub word-kept : (text : List ℕ) → IsWordText text → unpacked (packed text) ≡ text
word-kept [] h = elim h [ ]
word-kept (c ∷ text) h = let b : (0 < c) × (c < 256) = letter_byte c h.0 in unpacked-packed (c ∷ text) h.2 (b.0, b.1, word_bytes text h.1)

pub word-short : (text : List ℕ) → IsWordText text → length text ≤ 16
word-short [] h = elim h [ ]
word-short (c ∷ text) h = h.2

-- a name's text is that of its number
pub name-kept : (text : List ℕ) → IsNameBytes text → unpacked (packed text) ≡ text
name-kept [] h = elim h [ ]
name-kept (c ∷ []) h = let b : (0 < c) × (c < 256) = name_byte c h in unpacked-packed (c ∷ []) (omega arith) (b.0, b.1, tt)
name-kept (c ∷ d ∷ more) h =
    let b : (0 < c) × (c < 256) = letter_byte c h.1.0 in
    let e : d ≡ 95 = h.0 in
    unpacked-packed (c ∷ d ∷ more) (omega (arith, h.1.3)) (b.0, b.1, (omega arith, omega arith, plain_bytes more h.1.1))

pub name-short : (text : List ℕ) → IsNameBytes text → length text ≤ 8
name-short [] h = elim h [ ]
name-short (c ∷ []) h = omega arith
name-short (c ∷ d ∷ more) h = omega (arith, h.1.3)

-- equal numbers keep equal texts, and only they
pub same_number : (m n : ℕ) → m < 2 ^ 128 → n < 2 ^ 128 → (m == n) ≡ bytes_eq (unpacked m) (unpacked n)
same_number m n h k =
    same_from_decides _ _
    (Decides-like _ (λ e. ap unpacked e) (λ e. sym (packed-unpacked m h) ∙ ap packed e ∙ packed-unpacked n k) (Decides-eqb m n))
    (bytes_eq-Decides (unpacked m) (unpacked n))

pub small_number : (len n : ℕ) → len ≤ 8 → n < 256 ^ len → n < 2 ^ 64
small_number len n h l =
    let pos : 0 < 256 = omega arith in
    let top : 256 ^ len ≤ 256 ^ 8 = pow-le-pow_right pos h in
    omega arith

-- a mark is a name of one byte
pub mark_is_name : (c : ℕ) → is_name_mark c ≡ true → IsNameBytes (c ∷ [])
mark_is_name c h = rw (h, or-true) refl

pub mark-kept : (c n : ℕ) → is_name_mark c ≡ true → n ≡ c → unpacked n ≡ c ∷ []
mark-kept c n h e =
    let one : n ≡ packed (c ∷ []) = omega arith in
    ap unpacked one ∙ name-kept (c ∷ []) (mark_is_name c h)

-- the number that keeps a text
pub number-of-text : (n : ℕ) (text : List ℕ) → unpacked n ≡ text → n < 2 ^ 128 → n ≡ packed text
number-of-text n text e h = sym (packed-unpacked n h) ∙ ap packed e

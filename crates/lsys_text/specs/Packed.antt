-- A short text kept in a number: its bytes in order, the first one lowest.
use Rattle.std.specs.Prelude.{◌≡◌, ℕ, zero, suc, Bool, true, false, List, [], ◌∷◌, ◌+◌, ◌*◌, ◌/◌, ◌%◌, ◌^◌, ◌<◌, ◌≤◌, ◌==◌, length, if◌then◌else◌, refl}
use Rattle.std.proofs.Common.{ap, sym, arith, eqb-true, ne_eqb}
use Rattle.std.proofs.Math.Nat.{pow-succ'}

-- the number of a text
abbrev pub packed : List ℕ → ℕ
packed [] = 0
packed (c ∷ text) = c + 256 * packed text

-- the text of at most n bytes that a number keeps
abbrev pub unpacked_to : ℕ → ℕ → List ℕ
unpacked_to zero m = []
unpacked_to (suc n) m = if m == 0 then [] else m % 256 ∷ unpacked_to n (m / 256)

-- the text of at most 16 bytes that a number keeps
unfoldable pub unpacked : ℕ → List ℕ
unpacked m = unpacked_to 16 m

-- bytes that are not zero
abbrev pub AreTextBytes : List ℕ → Type 0
AreTextBytes [] = Unit {0}
AreTextBytes (c ∷ text) = (0 < c) × (c < 256) × AreTextBytes text

packed-more : (n m : ℕ) (b : Bool) → (m == 0) ≡ b → m < 256 ^ suc n → (m / 256 < 256 ^ n → packed (unpacked_to n (m / 256)) ≡ m / 256)
    → packed (if b then [] else m % 256 ∷ unpacked_to n (m / 256)) ≡ m
packed-more n m true e h ih = sym (eqb-true m 0 e)
packed-more n m false e h ih =
    let high : m / 256 < 256 ^ n = omega (arith, pow-succ' 256 n) in
    let kept : packed (unpacked_to n (m / 256)) ≡ m / 256 = ih high in
    omega arith

packed-unpacked_to : (n m : ℕ) → m < 256 ^ n → packed (unpacked_to n m) ≡ m
packed-unpacked_to zero m h = omega arith
packed-unpacked_to (suc n) m h = packed-more n m (m == 0) refl h (packed-unpacked_to n (m / 256))

-- a number is that of its own text
pub packed-unpacked : (m : ℕ) → m < 2 ^ 128 → packed (unpacked m) ≡ m
unfolding unpacked
packed-unpacked m h = packed-unpacked_to 16 m h

low_byte : (c n : ℕ) → c < 256 → (c + 256 * n) % 256 ≡ c
low_byte c n h = omega arith

high_bytes : (c n : ℕ) → c < 256 → (c + 256 * n) / 256 ≡ n
high_bytes c n h = omega arith

unpacked_to-packed : (n : ℕ) (text : List ℕ) → length text ≤ n → AreTextBytes text → unpacked_to n (packed text) ≡ text
unpacked_to-packed zero [] l h = refl
unpacked_to-packed zero (c ∷ text) l h = absurd (omega arith)
unpacked_to-packed (suc n) [] l h = refl
unpacked_to-packed (suc n) (c ∷ text) l h =
    let some : (c + 256 * packed text == 0) ≡ false = ne_eqb _ _ (λ e. absurd (omega arith)) in
    rw (some, low_byte c (packed text) h.1, high_bytes c (packed text) h.1) (ap (λ rest. c ∷ rest) (unpacked_to-packed n text (omega arith) h.2))

-- a text is that of its own number
pub unpacked-packed : (text : List ℕ) → length text ≤ 16 → AreTextBytes text → unpacked (packed text) ≡ text
unfolding unpacked
unpacked-packed text l h = unpacked_to-packed 16 text l h

-- Each step from a seed to a key can be taken back.
use Rattle.std.proofs.Common.{◌≡◌, ◌≤◌, ◌<◌, ℕ, zero, suc, ◌+◌, ◌*◌, ◌/◌, ◌%◌, ◌^◌, Bool, true, false, List, [], ◌∷◌, refl, ap, sym, ◌∙◌, arith, if◌then◌else◌}
use Rattle.std.specs.Prelude.{bit_xor, fold, nat_lt}
use Rattle.std.specs.Int.{bit_at}
use Rattle.std.proofs.lemmas.Nat.{shr-shr, xor_lt, mul-mod_first, mul-mod_second}
use Rattle.std.proofs.lemmas.Nat.Bits.{bit_at_xor, bit_at-lt, bit_at_above, same_from_bits_below}
use Rattle.std.proofs.Common.{mul_assoc, mul-one, mod-eq_of_lt, div-le_self}
use Rattle.lsys_spec.specs.Draws.{folded, word, word_past, number_base, grown_key, child_key_of, key_of}

-- 1. a number with its own high bits folded down

bit_of_shifted : (a k i : ℕ) → bit_at (a / 2 ^ k) i ≡ bit_at a (k + i)
bit_of_shifted a k i = ap (λ x. x % 2) (shr-shr a k i)

bit_of_folded : (a k i : ℕ) → bit_at (bit_xor a (a / 2 ^ k)) i ≡ (bit_at a i + bit_at a (k + i)) % 2
bit_of_folded a k i = bit_at_xor a (a / 2 ^ k) i ∙ ap (λ x. (bit_at a i + x) % 2) (bit_of_shifted a k i)

-- from the highest bit down
bits_back : (a b k : ℕ) → 0 < k → a < 2 ^ 64 → b < 2 ^ 64 → bit_xor a (a / 2 ^ k) ≡ bit_xor b (b / 2 ^ k)
    → (n i : ℕ) → 64 ≤ i + n → bit_at a i ≡ bit_at b i
bits_back a b k some p q h zero i far = bit_at_above a 64 i p (omega (arith, far)) ∙ sym (bit_at_above b 64 i q (omega (arith, far)))
bits_back a b k some p q h (suc n) i far =
    let above : bit_at a (k + i) ≡ bit_at b (k + i) = bits_back a b k some p q h n (k + i) (omega (arith, far, some)) in
    let here : (bit_at a i + bit_at a (k + i)) % 2 ≡ (bit_at b i + bit_at b (k + i)) % 2 =
    sym (bit_of_folded a k i) ∙ ap (λ x. bit_at x i) h ∙ bit_of_folded b k i in
    one (bit_at a i) (bit_at b i) (bit_at a (k + i)) (bit_at b (k + i)) (bit_at-lt a i) (bit_at-lt b i) above here
  where
    one : (x y u v : ℕ) → x < 2 → y < 2 → u ≡ v → (x + u) % 2 ≡ (y + v) % 2 → x ≡ y
    one x y u v l m e f = omega (arith, l, m, e, f)

shift_back : (a b k : ℕ) → 0 < k → a < 2 ^ 64 → b < 2 ^ 64 → bit_xor a (a / 2 ^ k) ≡ bit_xor b (b / 2 ^ k) → a ≡ b
shift_back a b k some p q h = same_from_bits_below 64 a b p q (λ i l. bits_back a b k some p q h 64 i (omega arith))

-- 2. the product with an odd number, in 64 bits

unmultiplied : (c d a : ℕ) → c * d % 2 ^ 64 ≡ 1 → a < 2 ^ 64 → a ≡ a * c % 2 ^ 64 * d % 2 ^ 64
unmultiplied c d a inverse p =
    sym (mod-eq_of_lt p)
    ∙ ap (λ x. x % 2 ^ 64) (sym (mul-one a))
    ∙ ap (λ x. a * x % 2 ^ 64) (sym inverse)
    ∙ mul-mod_second a (c * d) (2 ^ 64)
    ∙ ap (λ x. x % 2 ^ 64) (sym (mul_assoc a c d))
    ∙ sym (mul-mod_first (a * c) d (2 ^ 64))

product_back : (c d a b : ℕ) → c * d % 2 ^ 64 ≡ 1 → a < 2 ^ 64 → b < 2 ^ 64 → a * c % 2 ^ 64 ≡ b * c % 2 ^ 64 → a ≡ b
product_back c d a b inverse p q h =
    unmultiplied c d a inverse p ∙ ap (λ x. x * d % 2 ^ 64) h ∙ sym (unmultiplied c d b inverse q)

-- 3. a sum, in 64 bits

sum_back : (a b c : ℕ) → a < 2 ^ 64 → b < 2 ^ 64 → (a + c) % 2 ^ 64 ≡ (b + c) % 2 ^ 64 → a ≡ b
sum_back a b c p q h = omega (arith, p, q, h)

-- 4. words and keys

low : (a : ℕ) → a % 2 ^ 64 < 2 ^ 64
low a = omega arith

shifted_low : (a k : ℕ) → a < 2 ^ 64 → a / 2 ^ k < 2 ^ 64
shifted_low a k p = omega (arith, p, div-le_self a (2 ^ k))

xor_low : (a k : ℕ) → a < 2 ^ 64 → bit_xor a (a / 2 ^ k) < 2 ^ 64
xor_low a k p = xor_lt 64 a (a / 2 ^ k) p (shifted_low a k p)

folded_back : (a b k m d : ℕ) → 0 < k → m * d % 2 ^ 64 ≡ 1 → a < 2 ^ 64 → b < 2 ^ 64 → folded a k m ≡ folded b k m → a ≡ b
folded_back a b k m d some inverse p q h =
    shift_back a b k some p q (product_back m d (bit_xor a (a / 2 ^ k)) (bit_xor b (b / 2 ^ k)) inverse (xor_low a k p) (xor_low b k q) h)

folded_low : (a k m : ℕ) → folded a k m < 2 ^ 64
folded_low a k m = low (bit_xor a (a / 2 ^ k) * m)

word_back : (a b : ℕ) → a < 2 ^ 64 → b < 2 ^ 64 → word a ≡ word b → a ≡ b
word_back a b p q h =
    let x = (a + 0x9E3779B97F4A7C15) % 2 ^ 64 in
    let y = (b + 0x9E3779B97F4A7C15) % 2 ^ 64 in
    let third = shift_back (folded (folded x 30 0xBF58476D1CE4E5B9) 27 0x94D049BB133111EB) (folded (folded y 30 0xBF58476D1CE4E5B9) 27 0x94D049BB133111EB) 31 (omega arith) (folded_low (folded x 30 0xBF58476D1CE4E5B9) 27 0x94D049BB133111EB) (folded_low (folded y 30 0xBF58476D1CE4E5B9) 27 0x94D049BB133111EB) h in
    let second = folded_back (folded x 30 0xBF58476D1CE4E5B9) (folded y 30 0xBF58476D1CE4E5B9) 27 0x94D049BB133111EB 0x319642B2D24D8EC3 (omega arith) refl (folded_low x 30 0xBF58476D1CE4E5B9) (folded_low y 30 0xBF58476D1CE4E5B9) third in
    let first = folded_back x y 30 0xBF58476D1CE4E5B9 0x96DE1B173F119089 (omega arith) refl (low (a + 0x9E3779B97F4A7C15)) (low (b + 0x9E3779B97F4A7C15)) second in
    sum_back a b 0x9E3779B97F4A7C15 p q first

word_low : (a : ℕ) → word a < 2 ^ 64
word_low a = xor_low (folded (folded ((a + 0x9E3779B97F4A7C15) % 2 ^ 64) 30 0xBF58476D1CE4E5B9) 27 0x94D049BB133111EB) 31 (folded_low (folded ((a + 0x9E3779B97F4A7C15) % 2 ^ 64) 30 0xBF58476D1CE4E5B9) 27 0x94D049BB133111EB)

past_back : (a b n : ℕ) → a < 2 ^ 64 → b < 2 ^ 64 → word_past a n ≡ word_past b n → a ≡ b
past_back a b n p q h =
    let e : (a + 1 + n) % 2 ^ 64 ≡ (b + 1 + n) % 2 ^ 64 = word_back ((a + 1 + n) % 2 ^ 64) ((b + 1 + n) % 2 ^ 64) (low (a + 1 + n)) (low (b + 1 + n)) h in
    omega (arith, p, q, e)

grown_back : (a b n : ℕ) → a < 2 ^ 64 → b < 2 ^ 64 → grown_key a n ≡ grown_key b n → a ≡ b
grown_back a b n p q h = by_size (nat_lt n number_base) h
  where
    by_size : (t : Bool)
        → (if t then word_past a n else word_past (word_past a (n / number_base)) (n % number_base))
        ≡ (if t then word_past b n else word_past (word_past b (n / number_base)) (n % number_base)) → a ≡ b
    by_size true e = past_back a b n p q e
    by_size false e =
        past_back a b (n / number_base) p q
        (past_back (word_past a (n / number_base)) (word_past b (n / number_base)) (n % number_base)
        (word_low ((a + 1 + n / number_base) % 2 ^ 64)) (word_low ((b + 1 + n / number_base) % 2 ^ 64)) e)

grown_low : (a n : ℕ) → grown_key a n < 2 ^ 64
grown_low a n = by_size (nat_lt n number_base)
  where
    by_size : (t : Bool) → (if t then word_past a n else word_past (word_past a (n / number_base)) (n % number_base)) < 2 ^ 64
    by_size true = word_low ((a + 1 + n) % 2 ^ 64)
    by_size false = word_low ((word_past a (n / number_base) + 1 + n % number_base) % 2 ^ 64)

below_back : (below : List ℕ) (a b : ℕ) → a < 2 ^ 64 → b < 2 ^ 64 → fold child_key_of a below ≡ fold child_key_of b below → a ≡ b
below_back [] a b p q h = h
below_back (n ∷ below) a b p q h =
    grown_back a b n p q (below_back below (grown_key a n) (grown_key b n) (grown_low a n) (grown_low b n) h)

pub key_back : (seed other : ℕ) (lineage : List ℕ) → seed < 2 ^ 64 → other < 2 ^ 64 → key_of seed lineage ≡ key_of other lineage → seed ≡ other
key_back seed other [] p q h = h
key_back seed other (n ∷ below) p q h =
    grown_back seed other n p q (below_back below (grown_key seed n) (grown_key other n) (grown_low seed n) (grown_low other n) h)

-- The rules of the axiom and of children fix every key; keys of numbers by places.
use Rattle.std.proofs.Common.{◌≡◌, ℕ, zero, suc, refl, ◌+◌, ◌*◌, ◌/◌, ◌%◌, ◌^◌, ◌<◌, Bool, if◌then◌else◌, List, [], ◌∷◌, ◌++◌, fold, ap, ◌∙◌, sym, append_assoc, append-nil, lt-ltb, le-ltb, ◌≤◌, arith}
use Rattle.lsys_spec.specs.Draws.{word, number_base, word_past, grown_key, child_key_of}

pub key_from : (key : List ℕ → ℕ) (place : ℕ)
    → ((above : List ℕ) (j : ℕ) → key (place ∷ (above ++ j ∷ [])) ≡ child_key_of (key (place ∷ above)) j)
    → (above below : List ℕ) → key (place ∷ (above ++ below)) ≡ fold child_key_of (key (place ∷ above)) below
key_from key place child above [] = ap (λ l. key (place ∷ l)) (append-nil above)
key_from key place child above (j ∷ below) =
    ap (λ l. key (place ∷ l)) (sym (append_assoc above (j ∷ []) below))
    ∙ key_from key place child (above ++ j ∷ []) below
    ∙ ap (λ k. fold child_key_of k below) (child above j)

-- a number by places
pub near_key : (key number : ℕ) → number < number_base → grown_key key number ≡ word_past key number
near_key key number h = ap (λ (b : Bool). if b then word_past key number else word_past (word_past key (number / number_base)) (number % number_base)) (lt-ltb number number_base h)

pub next_word : (seed place : ℕ) → word_past seed (place + 1) ≡ word_past ((seed + 1) % 2 ^ 64) place
next_word seed place = ap word (let e : (seed + 1 + (place + 1)) % 2 ^ 64 ≡ ((seed + 1) % 2 ^ 64 + 1 + place) % 2 ^ 64 = omega arith in e)

-- a number by names
pub far_key : (key code count : ℕ) → 0 < code → count < number_base → grown_key key (number_base * code + count) ≡ word_past (word_past key code) count
far_key key code count c h =
    let far : number_base ≤ number_base * code + count = omega (arith, c) in
    let whole : (number_base * code + count) / number_base ≡ code = omega (arith, h) in
    let rest : (number_base * code + count) % number_base ≡ count = omega (arith, h) in
    ap (λ (b : Bool). if b then word_past key (number_base * code + count) else word_past (word_past key ((number_base * code + count) / number_base)) ((number_base * code + count) % number_base)) (le-ltb (number_base * code + count) number_base far)
    ∙ ap (λ n. word_past (word_past key n) ((number_base * code + count) % number_base)) whole ∙ ap (λ n. word_past (word_past key code) n) rest

-- a number by places has the code 0
pub code_key : (key code count : ℕ) → code ≡ 0 → count < number_base → grown_key key (number_base * code + count) ≡ word_past key count
code_key key code count c h = ap (grown_key key) (let e : number_base * code + count ≡ count = omega (arith, c) in e) ∙ near_key key count h

pub any_key : (key from code count : ℕ) → count < number_base → (code ≡ 0 → from ≡ key) → ((code ≡ 0 → ⊥) → from ≡ word_past key code) → word_past from count ≡ grown_key key (number_base * code + count)
any_key key from zero count h f g = ap (λ k. word_past k count) (f refl) ∙ sym (code_key key 0 count refl h)
any_key key from (suc code) count h f g = ap (λ k. word_past k count) (g (λ e. omega (arith, e))) ∙ sym (far_key key (suc code) count (omega arith) h)

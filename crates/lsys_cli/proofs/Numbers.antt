-- The number that a word of digits writes.
use Rattle.std.proofs.Common.{rules, ◌≡◌, ◌↔◌, ◌==◌, ℕ, zero, suc, ◌<◌, [], ◌∷◌, slice_index, EachIndex, IsTrue, ◌&&◌, Bool, true, false, length, None, Result, Ok, Err, List, refl, sym, arith, ◌^◌}
use Rattle.std.specs.Result.{OkIff, result_ok}
use Rattle.std.specs.Char.{is_ascii_digit}
use Rattle.std.specs.List.{list_all}
use Rattle.std.specs.Str.Parse.{ParsesUnsigned, digits_value}
use Rattle.std.proofs.lemmas.Str.Parse.{IsNumeralModel, numerals_by_value, parse_digits}
use Rattle.std.proofs.lemmas.Bool.Decides.{nat_tests}
use Rattle.lsys_cli.specs.Words.{number_written, is_number, is_short_numeral}

own : IsNumeralModel (λ ds. list_all is_ascii_digit ds ≡ true) (digits_value 10)
own = numerals_by_value _ (search rules)

numeral : (a b : Bool) → (a && b) ≡ true → a ≡ true
numeral true b h = refl
numeral false b h = cc

pub unparsed : (word : List ℕ) → is_short_numeral word ≡ false → None ≡ number_written word
unparsed word h = rw h refl

both : (a b : Bool) → a ≡ true → b ≡ true → (a && b) ≡ true
both a b h k = rw (h, k) refl

not_both : (a b : Bool) → ((a ≡ true) × (b ≡ true) → ⊥) → (a && b) ≡ false
not_both true true h = absurd (h (refl, refl))
not_both true false h = refl
not_both false b h = refl

of : {E : Type 0} (word : List ℕ) (r : Result ℕ E) → is_short_numeral word ≡ true → OkIff r ((0 < length word) × (digits_value 10 word < 2 ^ 64)) (digits_value 10 word) → result_ok r ≡ number_written word
of word (Ok n) h (q, e) =
    let is : is_number word ≡ true = grind (arith, nat_tests) in
    rw (is, e) refl
of word (Err e) h k =
    let is : is_number word ≡ false = grind (arith, nat_tests) in
    rw is refl

pub parsed : {E : Type 0} (word : List ℕ) (r : Result ℕ E) → ParsesUnsigned 64 10 word r → is_short_numeral word ≡ true → result_ok r ≡ number_written word
parsed word r h short = of word r short (parse_digits own 64 word r h (numeral (list_all is_ascii_digit word) _ short))

each_passes : (xs : List ℕ) → ((k : ℕ) → k < length xs → is_ascii_digit (slice_index xs k) ≡ true) → list_all is_ascii_digit xs ≡ true
each_passes [] h = refl
each_passes (x ∷ xs) h = both (is_ascii_digit x) (list_all is_ascii_digit xs) (h 0 (omega arith)) (each_passes xs (λ k l. h (suc k) (omega arith)))

other : (a b : Bool) → (a && b) ≡ true → b ≡ true
other true b h = h
other false b h = cc

passes_each : (xs : List ℕ) → list_all is_ascii_digit xs ≡ true → (k : ℕ) → k < length xs → is_ascii_digit (slice_index xs k) ≡ true
passes_each [] h k l = absurd (omega (arith, l))
passes_each (x ∷ xs) h zero l = numeral (is_ascii_digit x) _ h
passes_each (x ∷ xs) h (suc k) l = passes_each xs (other (is_ascii_digit x) _ h) k (omega (arith, l))

pub all_digits : (r : Bool) (xs : List ℕ) → (IsTrue r ↔ EachIndex xs (λ k. is_ascii_digit (slice_index xs k) ≡ true)) → r ≡ list_all is_ascii_digit xs
all_digits true xs h = sym (each_passes xs (h.0 refl))
all_digits false xs h = go (list_all is_ascii_digit xs) refl
  where
    go : (b : Bool) → list_all is_ascii_digit xs ≡ b → false ≡ b
    go true e = h.1 (passes_each xs e)
    go false e = refl

-- a number is no `NAME=N`
pub first_digit : (c : ℕ) (cs : List ℕ) → is_number (c ∷ cs) ≡ true → (45 == c) ≡ false
first_digit c cs h =
    let digit : is_ascii_digit c ≡ true = numeral (is_ascii_digit c) _ (numeral (list_all is_ascii_digit (c ∷ cs)) _ (numeral (is_short_numeral (c ∷ cs)) _ h)) in
    grind (arith, nat_tests)

-- Bytes and fronts.
use Rattle.std.proofs.Common.{◌≡◌, ℕ, Bool, true, false, ◌==◌, ◌<◌, List, [], ◌∷◌, ◌++◌, refl, ap, ◌∙◌, sym, arith, ne_eqb, true≢false}
use Rattle.std.proofs.lemmas.Bool.Decides.{nat_tests}
use Rattle.std.specs.Str.Parse.{AllDigits}
use Rattle.std.specs.Char.{digit_value}
use Rattle.lsys_syntax.specs.Tokens.{front, is_digit, is_letter}
use Rattle.lsys_syntax.specs.Pieces.{Every}

-- two bytes that a test tells apart
pub differs : (p : ℕ → Bool) (c d : ℕ) → p c ≡ true → p d ≡ false → (c == d) ≡ false
differs p c d h k = ne_eqb _ _ (λ e. true≢false (sym h ∙ ap p e ∙ k))

pub letter_no_digit : (c : ℕ) → is_letter c ≡ true → is_digit c ≡ false
letter_no_digit c h = grind (arith, nat_tests)

pub digit-is : (c : ℕ) → digit_value c < 10 → is_digit c ≡ true
digit-is c h = grind (arith, nat_tests)

pub AllDigits-Every : (cs : List ℕ) → AllDigits 10 cs → Every is_digit cs
AllDigits-Every [] h = tt
AllDigits-Every (c ∷ cs) h = (digit-is c h.0, AllDigits-Every cs h.1)

-- no byte that passes stands at the front
abbrev pub Stops : (ℕ → Bool) → List ℕ → Type 0
Stops p [] = Unit {0}
Stops p (c ∷ cs) = p c ≡ false

pub front-none : (p : ℕ → Bool) (rest : List ℕ) → Stops p rest → front p rest ≡ []
front-none p [] h = refl
front-none p (c ∷ cs) h = rw h

pub front-append : (p : ℕ → Bool) (xs rest : List ℕ) → Every p xs → Stops p rest → front p (xs ++ rest) ≡ xs
front-append p [] rest h s = front-none p rest s
front-append p (c ∷ cs) rest h s = rw (h.0, front-append p cs rest h.1 s)

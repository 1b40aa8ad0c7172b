-- Worked examples of lines that are no sentences, which the checker computes: the number of the first token with which none goes on.
use Rattle.std.specs.Prelude.{◌≡◌, ℕ, zero, suc, Bool, true, false, Option, Some, None, Result, Ok, Err, List, [], ◌∷◌, ◌++◌, map, codes, refl}
use Rattle.lsys_syntax.specs.Tokens.{Token, tokens}
use Rattle.lsys_syntax.specs.LineMachine.{Verdict, sentence, stops, too_deep, verdict}

abbrev verdict_in : Result (List Token) ℕ → Option Verdict
verdict_in (Err c) = None
verdict_in (Ok ts) = Some (verdict (map (λ t. t.kind) ts))

abbrev line_verdict : List ℕ → Option Verdict
line_verdict line = verdict_in (tokens line)

abbrev is_sentence : Option Verdict → Bool
is_sentence (Some (sentence c)) = true
is_sentence v = false

pub open_branch : line_verdict (codes "production p: A => [B") ≡ Some (stops 7)
open_branch = refl

pub open_parameters : line_verdict (codes "axiom A(1") ≡ Some (stops 4)
open_parameters = refl

pub closed_branch : line_verdict (codes "axiom ]") ≡ Some (stops 1)
closed_branch = refl

pub no_words : line_verdict (codes "schedule") ≡ Some (stops 1)
no_words = refl

pub no_sign : line_verdict (codes "seed -1") ≡ Some (stops 1)
no_sign = refl

pub great_seed : line_verdict (codes "seed 18446744073709551616") ≡ Some (stops 1)
great_seed = refl

pub great_value : line_verdict (codes "axiom A(9223372036854775808)") ≡ Some (stops 3)
great_value = refl

pub least_value : is_sentence (line_verdict (codes "axiom A(-9223372036854775808)")) ≡ true
least_value = refl

-- after a left context stands one pattern
pub two_predecessors : line_verdict (codes "production p: A < BC => D") ≡ Some (stops 6)
two_predecessors = refl

-- a homomorphism rule has no cut
pub cut_image : line_verdict (codes "hom h: A => B%") ≡ Some (stops 6)
cut_image = refl

abbrev times : ℕ → ℕ → List ℕ
times zero c = []
times (suc n) c = c ∷ times n c

-- n parentheses round a formal
abbrev nested : ℕ → List ℕ
nested n = codes "production p: A(x) => A(" ++ times n 40 ++ codes "x)" ++ times n 41

pub deep : line_verdict (nested 33) ≡ Some (too_deep 42)
deep = refl

pub deepest : is_sentence (line_verdict (nested 32)) ≡ true
deepest = refl

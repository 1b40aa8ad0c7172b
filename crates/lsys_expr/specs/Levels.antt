-- The levels around an operand, the innermost first.
use Rattle.std.specs.Prelude.{ℕ, ◌+◌, Bool, true, false, List, [], ◌∷◌}
use Rattle.lsys_expr.specs.declared.levels.OpenLevel.{OpenLevel}

-- nothing is open at it
abbrev pub fresh : OpenLevel
fresh = record { prefixes = 0; compared = false }

-- how many prefixes, powers and parentheses are open around the innermost level
abbrev pub outer_nesting : List OpenLevel → ℕ
outer_nesting [] = 0
outer_nesting (l ∷ ls) = outer_nesting ls + l.prefixes + 1

-- how many are open at it
abbrev pub inner_nesting : List OpenLevel → ℕ
inner_nesting [] = 0
inner_nesting (l ∷ ls) = outer_nesting ls + l.prefixes

-- with one more prefix or power
abbrev pub with_prefix : List OpenLevel → List OpenLevel
with_prefix [] = []
with_prefix (l ∷ ls) = record { prefixes = l.prefixes + 1; compared = l.compared } ∷ ls

-- with none
abbrev pub shallow : List OpenLevel → List OpenLevel
shallow [] = []
shallow (l ∷ ls) = record { prefixes = 0; compared = l.compared } ∷ ls

-- after a comparison
abbrev pub comparing : List OpenLevel → List OpenLevel
comparing [] = []
comparing (l ∷ ls) = record { prefixes = 0; compared = true } ∷ ls

-- after `&&` or `||`
abbrev pub cleared : List OpenLevel → List OpenLevel
cleared [] = []
cleared (l ∷ ls) = fresh ∷ ls

-- a comparison was read at the innermost level
abbrev pub is_compared : List OpenLevel → Bool
is_compared [] = false
is_compared (l ∷ ls) = l.compared

-- a parenthesis is open
abbrev pub is_inside : List OpenLevel → Bool
is_inside [] = false
is_inside (l ∷ []) = false
is_inside (l ∷ m ∷ ls) = true

-- What the scan keeps of the state of the definitions' reading.
use Rattle.std.specs.Prelude.{◌≡◌, ◌<◌, ◌≤◌, ℕ, ◌+◌, Bool, true, false, List, [], ◌∷◌}
use Rattle.lsys_syntax.specs.Expressions.{Expr}
use Rattle.lsys_syntax.specs.ExpressionMachine as machine
use Rattle.lsys_syntax.specs.ExpressionPlaces.{Extent, ends, stops, extent_after}
use Rattle.lsys_expr.specs.declared.levels.OpenLevel.{OpenLevel}
use Rattle.lsys_expr.specs.declared.scan.Awaited.{Awaited}
use Rattle.lsys_expr.specs.declared.scan.Awaited.TheVariants.{Operand, Operator, SecondAnd, SecondOr}
use Rattle.lsys_expr.specs.declared.scan.TokenEffect.{TokenEffect}
use Rattle.lsys_expr.specs.declared.scan.TokenEffect.TheVariants.{Goes, Ends, Stops, TooDeep}
use Rattle.lsys_expr.specs.Levels.{fresh, with_prefix, inner_nesting}

-- the prefixes and powers around an operand, and what these are part of
abbrev pub prefixes : machine.InUnary → ℕ
prefixes (machine.negating k) = prefixes k + 1
prefixes (machine.inverting k) = prefixes k + 1
prefixes (machine.raising a k) = prefixes k + 1
prefixes (machine.in_term k) = 0

abbrev pub term_around : machine.InUnary → machine.InTerm
term_around (machine.negating k) = term_around k
term_around (machine.inverting k) = term_around k
term_around (machine.raising a k) = term_around k
term_around (machine.in_term k) = k

-- the operand is on the right of a comparison
abbrev pub is_second : machine.InRel → Bool
is_second (machine.first_sum k) = false
is_second (machine.second_sum l op k) = true

abbrev pub rel_around : machine.InUnary → machine.InRel
rel_around k = machine.around_sum (machine.around_term (term_around k))

abbrev pub expr_around : machine.InUnary → machine.InExpr
expr_around k = machine.around_and (machine.around_rel (rel_around k))

abbrev pub parens_around : machine.InUnary → machine.Around
parens_around k = machine.around_expr (expr_around k)

-- the level that an operand stands at
abbrev pub StandsAtLevel : OpenLevel → machine.InUnary → Type 0
StandsAtLevel l k = (prefixes k ≡ l.prefixes) × (is_second (rel_around k) ≡ l.compared)

-- the levels around a parenthesis
abbrev pub AreOuter : List OpenLevel → machine.Around → Type 0
AreOuter [] machine.no_parens = Unit {0}
AreOuter [] (machine.in_parens k) = ⊥
AreOuter (l ∷ ls) machine.no_parens = ⊥
AreOuter (l ∷ ls) (machine.in_parens k) = StandsAtLevel l k × AreOuter ls (parens_around k)

-- the state awaits this, and has these levels
abbrev pub IsSeen : Awaited → List OpenLevel → machine.ExpressionState → Type 0
IsSeen Operand (l ∷ ls) (machine.Due k) = StandsAtLevel l k × AreOuter ls (parens_around k)
IsSeen Operator (l ∷ ls) (machine.Have a k) = StandsAtLevel l k × AreOuter ls (parens_around k)
IsSeen SecondAnd (l ∷ ls) (machine.HalfAnd a k) = (l ≡ fresh) × AreOuter ls (machine.around_expr k)
IsSeen SecondOr (l ∷ ls) (machine.HalfOr e k) = (l ≡ fresh) × AreOuter ls k
IsSeen a ls s = ⊥

-- and no more is open than may be
abbrev pub IsSeenWithin : Awaited → List OpenLevel → machine.ExpressionState → Type 0
IsSeenWithin a ls s = IsSeen a ls s × (inner_nesting ls ≤ 32)

-- whatever follows, an expression ends before the token that makes t of the state s
abbrev pub EndsThere : machine.ExpressionState → machine.ExpressionState → Type 0
EndsThere s t = (e : Expr) × ((n : ℕ) (rest : Extent) → extent_after n s t rest ≡ ends n e)

-- whatever follows, none goes on with that token, and what stands before it is none
abbrev pub StopsThere : machine.ExpressionState → machine.ExpressionState → Type 0
StopsThere s t = (n : ℕ) (rest : Extent) → extent_after n s t rest ≡ stops n

-- what a token does that makes t of the state s
abbrev pub IsTokenOutcome : Awaited → List OpenLevel → TokenEffect → machine.ExpressionState → machine.ExpressionState → Type 0
IsTokenOutcome a ls Goes s t = IsSeenWithin a ls t
IsTokenOutcome a ls Ends s t = EndsThere s t
IsTokenOutcome a ls Stops s t = StopsThere s t
IsTokenOutcome a ls TooDeep s t = (b : Awaited) × (more : List OpenLevel) × IsSeen b more t × (32 < inner_nesting more)

-- a prefix or a power was opened, or that would be too deep
abbrev pub IsOpened : List OpenLevel → Awaited → List OpenLevel → TokenEffect → Type 0
IsOpened old a new Goes = (a ≡ Operand) × (new ≡ with_prefix old) × (inner_nesting new ≤ 32)
IsOpened old a new TooDeep = inner_nesting old ≡ 32
IsOpened old a new o = ⊥

-- what the state after the last token is
abbrev pub IsEnded : Bool → machine.ExpressionState → Type 0
IsEnded true s = (e : Expr) × (s ≡ machine.Done e)
IsEnded false s = s ≡ machine.Stop

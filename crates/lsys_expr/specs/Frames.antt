-- How an expression is read with a stack: what the operand that is due is part of, innermost first, as trees.
use Rattle.std.specs.Prelude.{ℕ, List, [], ◌∷◌, Option, Some, None, nat_le, if◌then◌else◌}
use Rattle.lsys_syntax.specs.Tokens.{NameText, Kind, Name, Number, Equal, Unequal, AtMost, AtLeast, LeftParen, RightParen, Plus, Minus, Times, Slash, Percent, Ampersand, Bar, Caret, Bang, Less, Greater}
use Rattle.lsys_syntax.specs.Expressions.{multiply, divide, remainder, add, subtract, equal, unequal, less, at_most, greater, at_least}
use Rattle.lsys_spec.specs.Values.{Operator, sum_of, product_of, power_of, comparison, Tree, Constant, Formal, Negation, Inversion, Binary, Both, Either, formal_place}

-- What an operand is part of, with the tree that stands before it there.
pub data OperandFrame : Type 0 where
  negation : OperandFrame
  inversion : OperandFrame
  binary : Operator → Tree → OperandFrame
  both : Tree → OperandFrame
  either : Tree → OperandFrame
  parentheses : OperandFrame

-- how strongly an operator binds
abbrev pub operator_strength : Operator → ℕ
operator_strength power_of = 6
operator_strength (product_of op) = 5
operator_strength (sum_of op) = 4
operator_strength (comparison op) = 3

-- how strongly a frame holds its operand
abbrev pub strength : OperandFrame → ℕ
strength negation = 6
strength inversion = 6
strength (binary op t) = operator_strength op
strength (both t) = 2
strength (either t) = 1
strength parentheses = 0

-- The frames that an operator takes for its left side: as strong as itself, and none for a power, which groups to the right.
abbrev pub left_strength : Operator → ℕ
left_strength power_of = 7
left_strength op = operator_strength op

-- a frame with its operand
abbrev pub enclosed : OperandFrame → Tree → Tree
enclosed negation t = Negation t
enclosed inversion t = Inversion t
enclosed (binary op u) t = Binary op u t
enclosed (both u) t = Both u t
enclosed (either u) t = Either u t
enclosed parentheses t = t

-- an operand with the innermost frames of at least this strength, and the frames around it
abbrev pub reduced : ℕ → Tree → List OperandFrame → Tree × List OperandFrame
reduced least t [] = (t, [])
reduced least t (f ∷ fs) = if nat_le least (strength f) then reduced least (enclosed f t) fs else (t, f ∷ fs)

-- what may stand after an operand
pub data Follower : Type 0 where
  operator : Operator → Follower
  half_and : Follower
  half_or : Follower
  closing : Follower

abbrev pub follower : Kind → Option Follower
follower Caret = Some (operator power_of)
follower Times = Some (operator (product_of multiply))
follower Slash = Some (operator (product_of divide))
follower Percent = Some (operator (product_of remainder))
follower Plus = Some (operator (sum_of add))
follower Minus = Some (operator (sum_of subtract))
follower Equal = Some (operator (comparison equal))
follower Unequal = Some (operator (comparison unequal))
follower Less = Some (operator (comparison less))
follower AtMost = Some (operator (comparison at_most))
follower Greater = Some (operator (comparison greater))
follower AtLeast = Some (operator (comparison at_least))
follower Ampersand = Some half_and
follower Bar = Some half_or
follower RightParen = Some closing
follower k = None

-- Between two tokens: the operand that was read, if none is due, and the frames.
abbrev pub ExpressionReading : Type 0
ExpressionReading = Option Tree × List OperandFrame

-- an operand without its parentheses
abbrev pub without_parentheses : Tree → List OperandFrame → Option ExpressionReading
without_parentheses t (parentheses ∷ fs) = Some (Some t, fs)
without_parentheses t fs = None

-- the reading after a token, where an operand was read
abbrev pub once_operand : Option Follower → Tree → List OperandFrame → Option ExpressionReading
once_operand None t fs = None
once_operand (Some (operator op)) t fs = Some (None, binary op (reduced (left_strength op) t fs).0 ∷ (reduced (left_strength op) t fs).1)
once_operand (Some half_and) t fs = Some (None, both (reduced 2 t fs).0 ∷ (reduced 2 t fs).1)
once_operand (Some half_or) t fs = Some (None, either (reduced 1 t fs).0 ∷ (reduced 1 t fs).1)
once_operand (Some closing) t fs = without_parentheses (reduced 1 t fs).0 (reduced 1 t fs).1

-- The reading after a token, where an operand is due. The second half of && and || changes nothing.
abbrev pub with_operand : List NameText → Kind → List OperandFrame → Option ExpressionReading
with_operand formals (Number n) fs = Some (Some (Constant n), fs)
with_operand formals (Name x) fs = Some (Some (Formal (formal_place formals x)), fs)
with_operand formals LeftParen fs = Some (None, parentheses ∷ fs)
with_operand formals Minus fs = Some (None, negation ∷ fs)
with_operand formals Bang fs = Some (None, inversion ∷ fs)
with_operand formals Ampersand fs = Some (None, fs)
with_operand formals Bar fs = Some (None, fs)
with_operand formals k fs = None

-- the reading after a token
abbrev pub next_reading : List NameText → Kind → Option Tree → List OperandFrame → Option ExpressionReading
next_reading formals k None fs = with_operand formals k fs
next_reading formals k (Some t) fs = once_operand (follower k) t fs

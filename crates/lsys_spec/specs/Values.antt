-- Values of expressions: exact whole numbers that fit 64 bits, or the first fault.
use Rattle.std.specs.Prelude.{ℕ, zero, suc, ℤ, pos, negsuc, ◌+◌, ◌+ℤ◌, ◌-ℤ◌, ◌*ℤ◌, neg_ℤ, int_div, int_rem, int_lt, ◌==◌, Bool, true, false, not, Option, Some, None, List, [], ◌∷◌, Result, Ok, Err, nat_lt, bytes_eq, if◌then◌else◌, get_or}
use Rattle.lsys_syntax.specs.Limits.{value_bound}
use Rattle.lsys_syntax.specs.Tokens.{NameText}
use Rattle.lsys_syntax.specs.Pieces as P
use Rattle.lsys_syntax.specs.Expressions.{TermOp, multiply, divide, remainder, SumOp, add, subtract, RelOp, equal, unequal, less, at_most, greater, at_least, Expr, only_and, or, And, only_rel, and, Rel, only_sum, compare, Sum, only_term, total, Term, only_unary, product, Unary, negated, inverted, only_atom, raised, Atom, number, name, parens}

pub data Operator : Type 0 where
  sum_of : SumOp → Operator
  product_of : TermOp → Operator
  power_of : Operator
  comparison : RelOp → Operator

-- An expression without its parentheses and with its formals by place.
pub data Tree : Type 0 where
  Constant : ℕ → Tree
  Formal : ℕ → Tree
  Negation : Tree → Tree
  Inversion : Tree → Tree
  Binary : Operator → Tree → Tree → Tree
  Both : Tree → Tree → Tree
  Either : Tree → Tree → Tree

-- The place of a name among the formals. (A rule of a well-spelled system names its formals alone, so no place past the end comes.)
abbrev pub formal_place : List NameText → NameText → ℕ
formal_place [] x = 0
formal_place (f ∷ fs) x = if bytes_eq (P.name_text f) (P.name_text x) then 0 else formal_place fs x + 1

abbrev mutual
  pub expr_tree : List NameText → Expr → Tree
  expr_tree fs (only_and a) = and_tree fs a
  expr_tree fs (or e a) = Either (expr_tree fs e) (and_tree fs a)

  pub and_tree : List NameText → And → Tree
  and_tree fs (only_rel r) = rel_tree fs r
  and_tree fs (and a r) = Both (and_tree fs a) (rel_tree fs r)

  pub rel_tree : List NameText → Rel → Tree
  rel_tree fs (only_sum s) = sum_tree fs s
  rel_tree fs (compare l op r) = Binary (comparison op) (sum_tree fs l) (sum_tree fs r)

  pub sum_tree : List NameText → Sum → Tree
  sum_tree fs (only_term t) = term_tree fs t
  sum_tree fs (total s op t) = Binary (sum_of op) (sum_tree fs s) (term_tree fs t)

  pub term_tree : List NameText → Term → Tree
  term_tree fs (only_unary u) = unary_tree fs u
  term_tree fs (product t op u) = Binary (product_of op) (term_tree fs t) (unary_tree fs u)

  pub unary_tree : List NameText → Unary → Tree
  unary_tree fs (negated u) = Negation (unary_tree fs u)
  unary_tree fs (inverted u) = Inversion (unary_tree fs u)
  unary_tree fs (only_atom a) = atom_tree fs a
  unary_tree fs (raised a u) = Binary power_of (atom_tree fs a) (unary_tree fs u)

  pub atom_tree : List NameText → Atom → Tree
  atom_tree fs (number n) = Constant n
  atom_tree fs (name x) = Formal (formal_place fs x)
  atom_tree fs (parens e) = expr_tree fs e

pub data Arith : Type 0 where
  Overflow : Arith
  DivideByZero : Arith
  NegativePower : Arith

-- from the least value to the greatest: an i64
abbrev pub in_range : ℤ → Bool
in_range (pos n) = nat_lt n value_bound
in_range (negsuc n) = nat_lt n value_bound

-- an exact result, where it fits
abbrev pub exact : ℤ → Result ℤ Arith
exact z = if in_range z then Ok z else Err Overflow

abbrev pub is_zero : ℤ → Bool
is_zero (pos n) = n == 0
is_zero (negsuc n) = false

abbrev pub truth : Bool → ℤ
truth true = pos 1
truth false = pos 0

abbrev pub int_same : ℤ → ℤ → Bool
int_same x y = is_zero (x -ℤ y)

-- a product of n factors
abbrev pub nth_power : ℤ → ℕ → ℤ
nth_power x zero = pos 1
nth_power x (suc n) = x *ℤ nth_power x n

abbrev pub power : ℤ → ℤ → Result ℤ Arith
power x (pos n) = exact (nth_power x n)
power x (negsuc n) = Err NegativePower

abbrev pub relates : RelOp → ℤ → ℤ → Bool
relates equal x y = int_same x y
relates unequal x y = not (int_same x y)
relates less x y = int_lt x y
relates at_most x y = not (int_lt y x)
relates greater x y = int_lt y x
relates at_least x y = not (int_lt x y)

-- Division truncates toward zero; the remainder has the dividend's sign, and faults where the quotient does.
abbrev pub applied : Operator → ℤ → ℤ → Result ℤ Arith
applied (sum_of add) x y = exact (x +ℤ y)
applied (sum_of subtract) x y = exact (x -ℤ y)
applied (product_of multiply) x y = exact (x *ℤ y)
applied (product_of divide) x y = if is_zero y then Err DivideByZero else exact (int_div x y)
applied (product_of remainder) x y = if is_zero y then Err DivideByZero else if in_range (int_div x y) then Ok (int_rem x y) else Err Overflow
applied power_of x y = power x y
applied (comparison op) x y = Ok (truth (relates op x y))

infixl 10 ◌and_then◌
abbrev pub ◌and_then◌ : {A B E : Type 0} → Result A E → (A → Result B E) → Result B E
(Ok x) and_then f = f x
(Err e) and_then f = Err e

-- what && and || do with their left value: the right side isn't evaluated where the left decides
abbrev pub unless_zero : Bool → Result ℤ Arith → Result ℤ Arith
unless_zero true right = Ok (pos 0)
unless_zero false right = right and_then λ y. Ok (truth (not (is_zero y)))

abbrev pub unless_true : Bool → Result ℤ Arith → Result ℤ Arith
unless_true true right = right and_then λ y. Ok (truth (not (is_zero y)))
unless_true false right = Ok (pos 1)

-- Operands from left to right; the first fault is the answer. (Each formal of a rule that is tried has a value, so the 0 that stands in for one doesn't come.)
abbrev pub value : Tree → List ℤ → Result ℤ Arith
value (Constant n) b = Ok (pos n)
value (Formal i) b = Ok (get_or b i (pos 0))
value (Negation t) b = value t b and_then λ x. exact (neg_ℤ x)
value (Inversion t) b = value t b and_then λ x. Ok (truth (is_zero x))
value (Binary op t u) b = value t b and_then λ x. value u b and_then λ y. applied op x y
value (Both t u) b = value t b and_then λ x. unless_zero (is_zero x) (value u b)
value (Either t u) b = value t b and_then λ x. unless_true (is_zero x) (value u b)

-- whether a condition holds; a missing one does
abbrev pub judged : Option Tree → List ℤ → Result Bool Arith
judged None b = Ok true
judged (Some t) b = value t b and_then λ x. Ok (not (is_zero x))

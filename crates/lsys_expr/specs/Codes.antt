-- How expressions are stored where a proof compares them: as trees of numbers.
use Rattle.std.specs.Prelude.{◌≡◌, ℕ, zero, suc, List, [], ◌∷◌, refl}
use Rattle.std.proofs.Common.{ap, ap₂}
use Rattle.std.specs.Coded.{Coded, code_by}
use base.Stored.{Gv, gnil, gnum, gcons}
use denote.Struct.Codes.{itself}
use Rattle.lsys_syntax.specs.Tokens.{NameText, short, long}
use Rattle.lsys_syntax.specs.Expressions.{TermOp, multiply, divide, remainder, SumOp, add, subtract, RelOp, equal, unequal, less, at_most, greater, at_least, Expr, only_and, or, And, only_rel, and, Rel, only_sum, compare, Sum, only_term, total, Term, only_unary, product, Unary, negated, inverted, only_atom, raised, Atom, number, name, parens}
use Rattle.lsys_spec.specs.Values.{Operator, sum_of, product_of, power_of, comparison, Tree, Constant, Formal, Negation, Inversion, Binary, Both, Either}
use Rattle.lsys_expr.specs.Expression.{Expression}

-- 1. names and operators, and back

abbrev bytes_code : List ℕ → Gv
bytes_code [] = gnil
bytes_code (c ∷ cs) = gcons (gnum c) (bytes_code cs)

abbrev bytes_from : Gv → List ℕ
bytes_from gnil = []
bytes_from (gnum n) = []
bytes_from (gcons gnil g) = []
bytes_from (gcons (gnum c) g) = c ∷ bytes_from g
bytes_from (gcons (gcons x y) g) = []

pub bytes_back : (cs : List ℕ) → bytes_from (bytes_code cs) ≡ cs
bytes_back [] = refl
bytes_back (c ∷ cs) = ap (λ x. c ∷ x) (bytes_back cs)

abbrev name_code : NameText → Gv
name_code (short c) = gnum c
name_code (long c more) = gcons (gnum c) (bytes_code more)

abbrev name_from : Gv → NameText
name_from gnil = short 0
name_from (gnum c) = short c
name_from (gcons (gnum c) g) = long c (bytes_from g)
name_from (gcons x g) = short 0

pub name_back : (n : NameText) → name_from (name_code n) ≡ n
name_back (short c) = refl
name_back (long c more) = ap (long c) (bytes_back more)

abbrev term_op_number : TermOp → ℕ
term_op_number multiply = 0
term_op_number divide = 1
term_op_number remainder = 2

abbrev term_op_from : ℕ → TermOp
term_op_from zero = multiply
term_op_from (suc zero) = divide
term_op_from (suc (suc n)) = remainder

pub term_op_back : (op : TermOp) → term_op_from (term_op_number op) ≡ op
term_op_back multiply = refl
term_op_back divide = refl
term_op_back remainder = refl

abbrev sum_op_number : SumOp → ℕ
sum_op_number add = 0
sum_op_number subtract = 1

abbrev sum_op_from : ℕ → SumOp
sum_op_from zero = add
sum_op_from (suc n) = subtract

pub sum_op_back : (op : SumOp) → sum_op_from (sum_op_number op) ≡ op
sum_op_back add = refl
sum_op_back subtract = refl

abbrev rel_op_number : RelOp → ℕ
rel_op_number equal = 0
rel_op_number unequal = 1
rel_op_number less = 2
rel_op_number at_most = 3
rel_op_number greater = 4
rel_op_number at_least = 5

abbrev rel_op_from : ℕ → RelOp
rel_op_from zero = equal
rel_op_from (suc zero) = unequal
rel_op_from (suc (suc zero)) = less
rel_op_from (suc (suc (suc zero))) = at_most
rel_op_from (suc (suc (suc (suc zero)))) = greater
rel_op_from (suc (suc (suc (suc (suc n))))) = at_least

pub rel_op_back : (op : RelOp) → rel_op_from (rel_op_number op) ≡ op
rel_op_back equal = refl
rel_op_back unequal = refl
rel_op_back less = refl
rel_op_back at_most = refl
rel_op_back greater = refl
rel_op_back at_least = refl

-- 2. syntax trees: what tells the alternative, and its parts; and each is had back from its code

abbrev mutual
  expr_code : Expr → Gv
  expr_code (only_and a) = gcons (gnum 0) (and_code a)
  expr_code (or e a) = gcons (expr_code e) (and_code a)

  and_code : And → Gv
  and_code (only_rel r) = gcons (gnum 0) (rel_code r)
  and_code (and a r) = gcons (and_code a) (rel_code r)

  rel_code : Rel → Gv
  rel_code (only_sum s) = gcons (gnum 0) (sum_code s)
  rel_code (compare l op r) = gcons (gcons (gnum (rel_op_number op)) (sum_code l)) (sum_code r)

  sum_code : Sum → Gv
  sum_code (only_term t) = gcons (gnum 0) (term_code t)
  sum_code (total s op t) = gcons (gcons (gnum (sum_op_number op)) (sum_code s)) (term_code t)

  term_code : Term → Gv
  term_code (only_unary u) = gcons (gnum 0) (unary_code u)
  term_code (product t op u) = gcons (gcons (gnum (term_op_number op)) (term_code t)) (unary_code u)

  unary_code : Unary → Gv
  unary_code (negated u) = gcons (gnum 0) (unary_code u)
  unary_code (inverted u) = gcons (gnum 1) (unary_code u)
  unary_code (only_atom a) = gcons gnil (atom_code a)
  unary_code (raised a u) = gcons (gcons gnil (atom_code a)) (unary_code u)

  atom_code : Atom → Gv
  atom_code (number n) = gnum n
  atom_code (name n) = gcons (gnum 0) (name_code n)
  atom_code (parens e) = gcons gnil (expr_code e)

-- what a tree of numbers that is no code stands for, by the rule that is asked for
abbrev pub any_expr : Expr
any_expr = only_and (only_rel (only_sum (only_term (only_unary (only_atom (number 0))))))

abbrev any_and : And
any_and = only_rel (only_sum (only_term (only_unary (only_atom (number 0)))))

abbrev any_rel : Rel
any_rel = only_sum (only_term (only_unary (only_atom (number 0))))

abbrev any_sum : Sum
any_sum = only_term (only_unary (only_atom (number 0)))

abbrev any_term : Term
any_term = only_unary (only_atom (number 0))

abbrev any_unary : Unary
any_unary = only_atom (number 0)

abbrev mutual
  expr_from : Gv → Expr
  expr_from gnil = any_expr
  expr_from (gnum n) = any_expr
  expr_from (gcons gnil a) = any_expr
  expr_from (gcons (gnum n) a) = only_and (and_from a)
  expr_from (gcons (gcons x y) a) = or (expr_from (gcons x y)) (and_from a)

  and_from : Gv → And
  and_from gnil = any_and
  and_from (gnum n) = any_and
  and_from (gcons gnil r) = any_and
  and_from (gcons (gnum n) r) = only_rel (rel_from r)
  and_from (gcons (gcons x y) r) = and (and_from (gcons x y)) (rel_from r)

  rel_from : Gv → Rel
  rel_from gnil = any_rel
  rel_from (gnum n) = any_rel
  rel_from (gcons gnil r) = any_rel
  rel_from (gcons (gnum n) s) = only_sum (sum_from s)
  rel_from (gcons (gcons gnil l) r) = any_rel
  rel_from (gcons (gcons (gnum op) l) r) = compare (sum_from l) (rel_op_from op) (sum_from r)
  rel_from (gcons (gcons (gcons x y) l) r) = any_rel

  sum_from : Gv → Sum
  sum_from gnil = any_sum
  sum_from (gnum n) = any_sum
  sum_from (gcons gnil t) = any_sum
  sum_from (gcons (gnum n) t) = only_term (term_from t)
  sum_from (gcons (gcons gnil s) t) = any_sum
  sum_from (gcons (gcons (gnum op) s) t) = total (sum_from s) (sum_op_from op) (term_from t)
  sum_from (gcons (gcons (gcons x y) s) t) = any_sum

  term_from : Gv → Term
  term_from gnil = any_term
  term_from (gnum n) = any_term
  term_from (gcons gnil u) = any_term
  term_from (gcons (gnum n) u) = only_unary (unary_from u)
  term_from (gcons (gcons gnil t) u) = any_term
  term_from (gcons (gcons (gnum op) t) u) = product (term_from t) (term_op_from op) (unary_from u)
  term_from (gcons (gcons (gcons x y) t) u) = any_term

  unary_from : Gv → Unary
  unary_from gnil = any_unary
  unary_from (gnum n) = any_unary
  unary_from (gcons gnil a) = only_atom (atom_from a)
  unary_from (gcons (gnum zero) u) = negated (unary_from u)
  unary_from (gcons (gnum (suc n)) u) = inverted (unary_from u)
  unary_from (gcons (gcons x a) u) = raised (atom_from a) (unary_from u)

  atom_from : Gv → Atom
  atom_from gnil = number 0
  atom_from (gnum n) = number n
  atom_from (gcons gnil e) = parens (expr_from e)
  atom_from (gcons (gnum n) x) = name (name_from x)
  atom_from (gcons (gcons x y) e) = number 0

mutual
  pub expr_back : (e : Expr) → expr_from (expr_code e) ≡ e
  expr_back (only_and a) = ap only_and (and_back a)
  expr_back (or (only_and b) a) = ap₂ or (expr_back (only_and b)) (and_back a)
  expr_back (or (or e b) a) = ap₂ or (expr_back (or e b)) (and_back a)

  and_back : (a : And) → and_from (and_code a) ≡ a
  and_back (only_rel r) = ap only_rel (rel_back r)
  and_back (and (only_rel b) r) = ap₂ and (and_back (only_rel b)) (rel_back r)
  and_back (and (and a b) r) = ap₂ and (and_back (and a b)) (rel_back r)

  rel_back : (r : Rel) → rel_from (rel_code r) ≡ r
  rel_back (only_sum s) = ap only_sum (sum_back s)
  rel_back (compare l op r) = λ i. compare (sum_back l i) (rel_op_back op i) (sum_back r i)

  sum_back : (s : Sum) → sum_from (sum_code s) ≡ s
  sum_back (only_term t) = ap only_term (term_back t)
  sum_back (total s op t) = λ i. total (sum_back s i) (sum_op_back op i) (term_back t i)

  term_back : (t : Term) → term_from (term_code t) ≡ t
  term_back (only_unary u) = ap only_unary (unary_back u)
  term_back (product t op u) = λ i. product (term_back t i) (term_op_back op i) (unary_back u i)

  unary_back : (u : Unary) → unary_from (unary_code u) ≡ u
  unary_back (negated u) = ap negated (unary_back u)
  unary_back (inverted u) = ap inverted (unary_back u)
  unary_back (only_atom a) = ap only_atom (atom_back a)
  unary_back (raised a u) = ap₂ raised (atom_back a) (unary_back u)

  atom_back : (a : Atom) → atom_from (atom_code a) ≡ a
  atom_back (number n) = refl
  atom_back (name n) = ap name (name_back n)
  atom_back (parens e) = ap parens (expr_back e)

-- 3. trees of values, and back

abbrev operator_code : Operator → Gv
operator_code (sum_of op) = gcons (gnum 0) (gnum (sum_op_number op))
operator_code (product_of op) = gcons (gnum 1) (gnum (term_op_number op))
operator_code power_of = gnil
operator_code (comparison op) = gnum (rel_op_number op)

abbrev operator_from : Gv → Operator
operator_from gnil = power_of
operator_from (gnum n) = comparison (rel_op_from n)
operator_from (gcons (gnum zero) (gnum n)) = sum_of (sum_op_from n)
operator_from (gcons (gnum (suc k)) (gnum n)) = product_of (term_op_from n)
operator_from (gcons x y) = power_of

pub operator_back : (op : Operator) → operator_from (operator_code op) ≡ op
operator_back (sum_of op) = ap sum_of (sum_op_back op)
operator_back (product_of op) = ap product_of (term_op_back op)
operator_back power_of = refl
operator_back (comparison op) = ap comparison (rel_op_back op)

abbrev tree_code : Tree → Gv
tree_code (Constant n) = gnum n
tree_code (Formal n) = gcons (gnum 0) (gnum n)
tree_code (Negation t) = gcons (gnum 1) (tree_code t)
tree_code (Inversion t) = gcons (gnum 2) (tree_code t)
tree_code (Binary op t u) = gcons (gcons gnil (operator_code op)) (gcons (tree_code t) (tree_code u))
tree_code (Both t u) = gcons (gnum 3) (gcons (tree_code t) (tree_code u))
tree_code (Either t u) = gcons (gnum 4) (gcons (tree_code t) (tree_code u))

abbrev tree_from : Gv → Tree
tree_from gnil = Constant 0
tree_from (gnum n) = Constant n
tree_from (gcons gnil g) = Constant 0
tree_from (gcons (gnum zero) (gnum n)) = Formal n
tree_from (gcons (gnum (suc zero)) t) = Negation (tree_from t)
tree_from (gcons (gnum (suc (suc zero))) t) = Inversion (tree_from t)
tree_from (gcons (gnum (suc (suc (suc zero)))) (gcons t u)) = Both (tree_from t) (tree_from u)
tree_from (gcons (gnum (suc (suc (suc (suc k))))) (gcons t u)) = Either (tree_from t) (tree_from u)
tree_from (gcons (gcons x op) (gcons t u)) = Binary (operator_from op) (tree_from t) (tree_from u)
tree_from (gcons x y) = Constant 0

pub tree_back : (t : Tree) → tree_from (tree_code t) ≡ t
tree_back (Constant n) = refl
tree_back (Formal n) = refl
tree_back (Negation t) = ap Negation (tree_back t)
tree_back (Inversion t) = ap Inversion (tree_back t)
tree_back (Binary op t u) = λ i. Binary (operator_back op i) (tree_back t i) (tree_back u i)
tree_back (Both t u) = ap₂ Both (tree_back t) (tree_back u)
tree_back (Either t u) = ap₂ Either (tree_back t) (tree_back u)

-- 4. expressions

abbrev left_of : Gv → Gv
left_of gnil = gnil
left_of (gnum n) = gnil
left_of (gcons x y) = x

abbrev right_of : Gv → Gv
right_of gnil = gnil
right_of (gnum n) = gnil
right_of (gcons x y) = y

abbrev pair_of : Expression → Gv
pair_of e = gcons (expr_code e.spelled) (tree_code e.tree)

abbrev expression_from : Gv → Expression
expression_from g = record { spelled = expr_from (left_of g); tree = tree_from (right_of g) }

pub expression_back : (e : Expression) → expression_from (pair_of e) ≡ e
expression_back e = λ i. record { spelled = expr_back e.spelled i; tree = tree_back e.tree i }

-- how an expression is stored
abbrev pub expression_code : Coded Expression
expression_code = code_by Gv itself pair_of expression_from expression_back

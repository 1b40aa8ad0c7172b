-- Expressions: one type for each rule of the grammar, one constructor for each alternative.
--   expr  = and { "|" "|" and }        and   = rel { "&" "&" rel }
--   rel   = sum [[ relop sum ]]        sum   = term { + term | - term }
--   term  = unary { * unary | / unary | % unary }
--   unary = - unary | ! unary | power  power = atom [[ ^ unary ]]
--   atom  = Number | Name | ( expr )
use Rattle.std.specs.Prelude.{ℕ, List, [], ◌∷◌, ◌++◌, ◌<◌, map}
use Rattle.lsys_syntax.specs.Limits.{value_bound}
use Rattle.lsys_syntax.specs.Tokens.{NameText, Kind, Name, Number, Equal, Unequal, AtMost, AtLeast, LeftParen, RightParen, Plus, Minus, Times, Slash, Percent, Ampersand, Bar, Caret, Bang, Less, Greater}
use Rattle.lsys_syntax.specs.Pieces.{Piece, token, note, expr_begins, expr_ends, IsNameText}

pub data TermOp : Type 0 where
  multiply : TermOp
  divide : TermOp
  remainder : TermOp

pub data SumOp : Type 0 where
  add : SumOp
  subtract : SumOp

pub data RelOp : Type 0 where
  equal : RelOp
  unequal : RelOp
  less : RelOp
  at_most : RelOp
  greater : RelOp
  at_least : RelOp

mutual
  pub data Expr : Type 0 where
    only_and : And → Expr
    or : Expr → And → Expr

  pub data And : Type 0 where
    only_rel : Rel → And
    and : And → Rel → And

  pub data Rel : Type 0 where
    only_sum : Sum → Rel
    compare : Sum → RelOp → Sum → Rel

  pub data Sum : Type 0 where
    only_term : Term → Sum
    total : Sum → SumOp → Term → Sum

  pub data Term : Type 0 where
    only_unary : Unary → Term
    product : Term → TermOp → Unary → Term

  pub data Unary : Type 0 where
    negated : Unary → Unary
    inverted : Unary → Unary
    only_atom : Atom → Unary
    raised : Atom → Unary → Unary

  pub data Atom : Type 0 where
    number : ℕ → Atom
    name : NameText → Atom
    parens : Expr → Atom

abbrev pub term_kind : TermOp → Kind
term_kind multiply = Times
term_kind divide = Slash
term_kind remainder = Percent

abbrev pub sum_kind : SumOp → Kind
sum_kind add = Plus
sum_kind subtract = Minus

abbrev pub rel_kind : RelOp → Kind
rel_kind equal = Equal
rel_kind unequal = Unequal
rel_kind less = Less
rel_kind at_most = AtMost
rel_kind greater = Greater
rel_kind at_least = AtLeast

abbrev mutual
  pub expr_kinds : Expr → List Kind
  expr_kinds (only_and a) = and_kinds a
  expr_kinds (or e a) = expr_kinds e ++ Bar ∷ Bar ∷ and_kinds a

  pub and_kinds : And → List Kind
  and_kinds (only_rel r) = rel_kinds r
  and_kinds (and a r) = and_kinds a ++ Ampersand ∷ Ampersand ∷ rel_kinds r

  pub rel_kinds : Rel → List Kind
  rel_kinds (only_sum s) = sum_kinds s
  rel_kinds (compare l op r) = sum_kinds l ++ rel_kind op ∷ sum_kinds r

  pub sum_kinds : Sum → List Kind
  sum_kinds (only_term t) = term_kinds t
  sum_kinds (total s op t) = sum_kinds s ++ sum_kind op ∷ term_kinds t

  pub term_kinds : Term → List Kind
  term_kinds (only_unary u) = unary_kinds u
  term_kinds (product t op u) = term_kinds t ++ term_kind op ∷ unary_kinds u

  pub unary_kinds : Unary → List Kind
  unary_kinds (negated u) = Minus ∷ unary_kinds u
  unary_kinds (inverted u) = Bang ∷ unary_kinds u
  unary_kinds (only_atom a) = atom_kinds a
  unary_kinds (raised a u) = atom_kinds a ++ Caret ∷ unary_kinds u

  pub atom_kinds : Atom → List Kind
  atom_kinds (number n) = Number n ∷ []
  atom_kinds (name n) = Name n ∷ []
  atom_kinds (parens e) = LeftParen ∷ (expr_kinds e ++ RightParen ∷ [])

-- numbers of an i64, and names
abbrev mutual
  pub IsExpr : Expr → Type 0
  IsExpr (only_and a) = IsAnd a
  IsExpr (or e a) = IsExpr e × IsAnd a

  pub IsAnd : And → Type 0
  IsAnd (only_rel r) = IsRel r
  IsAnd (and a r) = IsAnd a × IsRel r

  pub IsRel : Rel → Type 0
  IsRel (only_sum s) = IsSum s
  IsRel (compare l op r) = IsSum l × IsSum r

  pub IsSum : Sum → Type 0
  IsSum (only_term t) = IsTerm t
  IsSum (total s op t) = IsSum s × IsTerm t

  pub IsTerm : Term → Type 0
  IsTerm (only_unary u) = IsUnary u
  IsTerm (product t op u) = IsTerm t × IsUnary u

  pub IsUnary : Unary → Type 0
  IsUnary (negated u) = IsUnary u
  IsUnary (inverted u) = IsUnary u
  IsUnary (only_atom a) = IsAtom a
  IsUnary (raised a u) = IsAtom a × IsUnary u

  pub IsAtom : Atom → Type 0
  IsAtom (number n) = n < value_bound
  IsAtom (name n) = IsNameText n
  IsAtom (parens e) = IsExpr e

-- An expression prints its tokens with nothing between them.
abbrev pub expr_pieces : Expr → List Piece
expr_pieces e = note expr_begins ∷ (map token (expr_kinds e) ++ note expr_ends ∷ [])

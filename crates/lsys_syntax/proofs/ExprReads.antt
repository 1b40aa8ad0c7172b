-- An expression printed with nothing between its tokens is read as its own tokens.
use Rattle.std.proofs.Common.{◌≡◌, true, List, [], ◌∷◌, ◌++◌, map, refl, ap, append_assoc, arith}
use Rattle.lsys_syntax.specs.Tokens.{Kind, NameText, short, long, Modules, Unequal, AtMost, AtLeast, LeftParen, RightParen, Plus, Minus, Times, Slash, Percent, Ampersand, Bar, Caret, Bang, Less, Greater}
use Rattle.lsys_syntax.specs.Pieces.{Piece, token, note, expr_ends, Tail, anything, not_digit, not_equals, letter, digit, equals, may_follow, Reads, name_ending}
use Rattle.lsys_syntax.proofs.StringsRead.{mark-reads}
use Rattle.lsys_syntax.specs.Expressions.{TermOp, multiply, divide, remainder, SumOp, add, subtract, RelOp, equal, unequal, less, at_most, greater, at_least, Expr, only_and, or, And, only_rel, and, Rel, only_sum, compare, Sum, only_term, total, Term, only_unary, product, Unary, negated, inverted, only_atom, raised, Atom, number, name, parens, term_kind, sum_kind, rel_kind, expr_kinds, and_kinds, rel_kinds, sum_kinds, term_kinds, unary_kinds, atom_kinds, IsExpr, IsAnd, IsRel, IsSum, IsTerm, IsUnary, IsAtom, expr_pieces}

-- after such a token an operand may stand
abbrev pub Opens : Tail → Type 0
Opens t = (may_follow t letter ≡ true) × (may_follow t digit ≡ true)

-- what may stand after an operand
abbrev pub AfterOperand : List Piece → Type 0
AfterOperand ps = (t : Tail) → may_follow t equals ≡ true → Reads Modules t ps

seam : (xs ys : List Kind) (ps : List Piece) → map token (xs ++ ys) ++ ps ≡ map token xs ++ (map token ys ++ ps)
seam [] ys ps = refl
seam (x ∷ xs) ys ps = ap (λ qs. token x ∷ qs) (seam xs ys ps)

name_open : (n : NameText) → may_follow (name_ending n) equals ≡ true
name_open (short c) = refl
name_open (long c more) = refl

rel-reads : (op : RelOp) (ps : List Piece) → ((t : Tail) → Opens t → Reads Modules t ps) → AfterOperand (token (rel_kind op) ∷ ps)
rel-reads equal ps h = λ t o. (o, tt, h anything (refl, refl))
rel-reads unequal ps h = λ t o. mark-reads Unequal refl tt t ps (h anything (refl, refl))
rel-reads less ps h = λ t o. mark-reads Less refl tt t ps (h not_equals (refl, refl))
rel-reads at_most ps h = λ t o. mark-reads AtMost refl tt t ps (h anything (refl, refl))
rel-reads greater ps h = λ t o. mark-reads Greater refl tt t ps (h not_equals (refl, refl))
rel-reads at_least ps h = λ t o. mark-reads AtLeast refl tt t ps (h anything (refl, refl))

sum-op-reads : (op : SumOp) (ps : List Piece) → Reads Modules anything ps → AfterOperand (token (sum_kind op) ∷ ps)
sum-op-reads add ps h = λ t o. mark-reads Plus refl tt t ps h
sum-op-reads subtract ps h = λ t o. mark-reads Minus refl tt t ps h

term-op-reads : (op : TermOp) (ps : List Piece) → Reads Modules anything ps → AfterOperand (token (term_kind op) ∷ ps)
term-op-reads multiply ps h = λ t o. mark-reads Times refl tt t ps h
term-op-reads divide ps h = λ t o. mark-reads Slash refl tt t ps h
term-op-reads remainder ps h = λ t o. mark-reads Percent refl tt t ps h

mutual
  pub expr-reads : (e : Expr) → IsExpr e → (t : Tail) → Opens t → (ps : List Piece) → AfterOperand ps → Reads Modules t (map token (expr_kinds e) ++ ps)
  expr-reads (only_and a) g t o ps h = and-reads a g t o ps h
  expr-reads (or e a) g t o ps h = rw (seam (expr_kinds e) (Bar ∷ Bar ∷ and_kinds a) ps)
      (expr-reads e g.0 t o (token Bar ∷ token Bar ∷ (map token (and_kinds a) ++ ps))
      (λ t' o'. mark-reads Bar refl tt t' (token Bar ∷ (map token (and_kinds a) ++ ps)) (mark-reads Bar refl tt anything (map token (and_kinds a) ++ ps) (and-reads a g.1 anything (refl, refl) ps h))))

  and-reads : (a : And) → IsAnd a → (t : Tail) → Opens t → (ps : List Piece) → AfterOperand ps → Reads Modules t (map token (and_kinds a) ++ ps)
  and-reads (only_rel r) g t o ps h = relation-reads r g t o ps h
  and-reads (and a r) g t o ps h = rw (seam (and_kinds a) (Ampersand ∷ Ampersand ∷ rel_kinds r) ps)
      (and-reads a g.0 t o (token Ampersand ∷ token Ampersand ∷ (map token (rel_kinds r) ++ ps))
      (λ t' o'. mark-reads Ampersand refl tt t' (token Ampersand ∷ (map token (rel_kinds r) ++ ps)) (mark-reads Ampersand refl tt anything (map token (rel_kinds r) ++ ps) (relation-reads r g.1 anything (refl, refl) ps h))))

  relation-reads : (r : Rel) → IsRel r → (t : Tail) → Opens t → (ps : List Piece) → AfterOperand ps → Reads Modules t (map token (rel_kinds r) ++ ps)
  relation-reads (only_sum s) g t o ps h = sum-reads s g t o ps h
  relation-reads (compare l op s) g t o ps h = rw (seam (sum_kinds l) (rel_kind op ∷ sum_kinds s) ps)
      (sum-reads l g.0 t o (token (rel_kind op) ∷ (map token (sum_kinds s) ++ ps))
      (rel-reads op (map token (sum_kinds s) ++ ps) (λ t' o'. sum-reads s g.1 t' o' ps h)))

  sum-reads : (s : Sum) → IsSum s → (t : Tail) → Opens t → (ps : List Piece) → AfterOperand ps → Reads Modules t (map token (sum_kinds s) ++ ps)
  sum-reads (only_term m) g t o ps h = term-reads m g t o ps h
  sum-reads (total s op m) g t o ps h = rw (seam (sum_kinds s) (sum_kind op ∷ term_kinds m) ps)
      (sum-reads s g.0 t o (token (sum_kind op) ∷ (map token (term_kinds m) ++ ps))
      (sum-op-reads op (map token (term_kinds m) ++ ps) (term-reads m g.1 anything (refl, refl) ps h)))

  term-reads : (m : Term) → IsTerm m → (t : Tail) → Opens t → (ps : List Piece) → AfterOperand ps → Reads Modules t (map token (term_kinds m) ++ ps)
  term-reads (only_unary u) g t o ps h = unary-reads u g t o ps h
  term-reads (product m op u) g t o ps h = rw (seam (term_kinds m) (term_kind op ∷ unary_kinds u) ps)
      (term-reads m g.0 t o (token (term_kind op) ∷ (map token (unary_kinds u) ++ ps))
      (term-op-reads op (map token (unary_kinds u) ++ ps) (unary-reads u g.1 anything (refl, refl) ps h)))

  unary-reads : (u : Unary) → IsUnary u → (t : Tail) → Opens t → (ps : List Piece) → AfterOperand ps → Reads Modules t (map token (unary_kinds u) ++ ps)
  unary-reads (negated u) g t o ps h = mark-reads Minus refl tt t (map token (unary_kinds u) ++ ps) (unary-reads u g anything (refl, refl) ps h)
  unary-reads (inverted u) g t o ps h = mark-reads Bang refl tt t (map token (unary_kinds u) ++ ps) (unary-reads u g not_equals (refl, refl) ps h)
  unary-reads (only_atom a) g t o ps h = atom-reads a g t o ps h
  unary-reads (raised a u) g t o ps h = rw (seam (atom_kinds a) (Caret ∷ unary_kinds u) ps)
      (atom-reads a g.0 t o (token Caret ∷ (map token (unary_kinds u) ++ ps))
      (λ t' o'. mark-reads Caret refl tt t' (map token (unary_kinds u) ++ ps) (unary-reads u g.1 anything (refl, refl) ps h)))

  atom-reads : (a : Atom) → IsAtom a → (t : Tail) → Opens t → (ps : List Piece) → AfterOperand ps → Reads Modules t (map token (atom_kinds a) ++ ps)
  atom-reads (number n) g t o ps h = (o.1, omega arith, h not_digit refl)
  atom-reads (name n) g t o ps h = (o.0, (tt, g), h (name_ending n) (name_open n))
  atom-reads (parens e) g t o ps h = rw (seam (expr_kinds e) (RightParen ∷ []) ps)
      (mark-reads LeftParen refl tt t (map token (expr_kinds e) ++ (token RightParen ∷ ps))
      (expr-reads e g anything (refl, refl) (token RightParen ∷ ps) (λ t' o'. mark-reads RightParen refl tt t' ps (h anything refl))))

pub pieces-reads : (e : Expr) → IsExpr e → (t : Tail) → Opens t → (ps : List Piece) → AfterOperand ps → Reads Modules t (expr_pieces e ++ ps)
pieces-reads e g t o ps h = rw (append_assoc (map token (expr_kinds e)) (note expr_ends ∷ []) ps) (expr-reads e g t o (note expr_ends ∷ ps) h)

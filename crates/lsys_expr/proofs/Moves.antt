-- Each token moves the operand and the frames as it moves the machine.
use Rattle.std.proofs.Common.{◌≡◌, List, [], ◌∷◌, Option, Some, None, refl, ap, sym, subst, ◌∙◌, arith}
use Rattle.lsys_syntax.specs.Tokens.{NameText, Kind, Name, Number, Equal, Unequal, AtMost, AtLeast, LeftParen, RightParen, Plus, Minus, Times, Slash, Percent, Ampersand, Bar, Caret, Bang, Less, Greater}
use Rattle.lsys_syntax.specs.Expressions.{TermOp, multiply, divide, remainder, SumOp, add, subtract, RelOp, equal, unequal, less, at_most, greater, at_least, Expr, Sum, Atom, only_atom}
use Rattle.lsys_syntax.specs.ExpressionMachine.{InUnary, InRel, first_sum, second_sum, Around, no_parens, in_parens, ExpressionState, Due, Have, HalfAnd, HalfOr, Done, Stop, closing, other, half_or, ends_expr, half_and, ends_and, comparing, ends_rel, more_sum, ends_sum, AfterUnary, more_term, ends_term, after_operand, after_unary, closed, ended, compared, step, end_step, finished}
use Rattle.lsys_syntax.proofs.Sound.{IsGoing, IsOver, other-over}
use Rattle.lsys_spec.specs.Values.{Tree, sum_of, product_of, power_of, comparison, expr_tree, sum_tree, atom_tree}
use Rattle.lsys_expr.specs.Frames as F
use Rattle.lsys_expr.specs.Frames.{OperandFrame, ExpressionReading, reduced, next_reading}
use Rattle.lsys_expr.proofs.Contexts.{unary_frames, rel_frames, around_frames, reading_of, after_operand-is, unary_with, around_unary, expr_to, surrounding, in_rel, sum_to, to_sum, and-left, unary-left, term-read, sum-read, and-read, expr-read}

-- what is over doesn't go on
not_both : (s : ExpressionState) → IsOver s → IsGoing s → ⊥
not_both (Due k) o g = o
not_both (Have a k) o g = o
not_both (HalfAnd a k) o g = o
not_both (HalfOr e k) o g = o
not_both (Done e) o g = g
not_both Stop o g = g

module _ (fs : List NameText) where
  -- a new frame around what was reduced
  pushed : (wrap : Tree → OperandFrame) (r q : Tree × List OperandFrame) → r ≡ q → ◌≡◌ {A = Option ExpressionReading} (Some (None, wrap r.0 ∷ r.1)) (Some (None, wrap q.0 ∷ q.1))
  pushed wrap r q e = ap (λ (x : Tree × List OperandFrame). Some (None, wrap x.0 ∷ x.1)) e

  -- the state after an operand, with its prefixes and powers
  after : (f : AfterUnary) (a : Atom) (k : InUnary) (r : Option ExpressionReading) → r ≡ Some (reading_of fs (after_unary f (unary_with fs (only_atom a) k) (around_unary fs k)))
      → r ≡ Some (reading_of fs (after_operand f (only_atom a) k))
  after f a k r e = e ∙ sym (ap (λ s. Some (reading_of fs s)) (after_operand-is fs f (only_atom a) k))

  -- a comparison stands beside no other
  compare-reads : (op : RelOp) (s : Sum) (j : InRel) → IsGoing (compared op s j)
      → F.once_operand (Some (F.operator (comparison op))) (sum_tree fs s) (rel_frames fs j) ≡ Some (reading_of fs (compared op s j))
  compare-reads op s (first_sum k) g = pushed (F.binary (comparison op)) _ _ (and-left fs 3 (sum_tree fs s) k (omega arith))
  compare-reads op s (second_sum l o k) g = elim g [ ]

  comparison-moves : (op : RelOp) (a : Atom) (k : InUnary) → IsGoing (after_operand (ends_term (ends_sum (comparing op))) (only_atom a) k)
      → F.once_operand (Some (F.operator (comparison op))) (atom_tree fs a) (unary_frames fs k) ≡ Some (reading_of fs (after_operand (ends_term (ends_sum (comparing op))) (only_atom a) k))
  comparison-moves op a k g =
      let f : AfterUnary = ends_term (ends_sum (comparing op)) in
      let going : IsGoing (compared op (sum_to fs a k) (in_rel fs k)) = subst IsGoing (after_operand-is fs f (only_atom a) k) g in
      after f a k _ (pushed (F.binary (comparison op)) _ _ (to_sum fs 3 a k (omega arith)) ∙ compare-reads op (sum_to fs a k) (in_rel fs k) going)

  -- parentheses close around an expression, where some are open
  close-reads : (e : Expr) (j : Around) → IsGoing (closed e j) → F.without_parentheses (expr_tree fs e) (around_frames fs j) ≡ Some (reading_of fs (closed e j))
  close-reads e no_parens g = elim g [ ]
  close-reads e (in_parens k) g = refl

  close-moves : (a : Atom) (k : InUnary) → IsGoing (after_operand (ends_term (ends_sum (ends_rel (ends_and (ends_expr closing))))) (only_atom a) k)
      → F.once_operand (Some F.closing) (atom_tree fs a) (unary_frames fs k) ≡ Some (reading_of fs (after_operand (ends_term (ends_sum (ends_rel (ends_and (ends_expr closing))))) (only_atom a) k))
  close-moves a k g =
      let f : AfterUnary = ends_term (ends_sum (ends_rel (ends_and (ends_expr closing)))) in
      let going : IsGoing (closed (expr_to fs a k) (surrounding fs k)) = subst IsGoing (after_operand-is fs f (only_atom a) k) g in
      after f a k _ (ap (λ (r : Tree × List OperandFrame). F.without_parentheses r.0 r.1) (expr-read fs a k) ∙ close-reads (expr_to fs a k) (surrounding fs k) going)

  product-moves : (op : TermOp) (a : Atom) (k : InUnary)
      → F.once_operand (Some (F.operator (product_of op))) (atom_tree fs a) (unary_frames fs k) ≡ Some (reading_of fs (after_operand (more_term op) (only_atom a) k))
  product-moves op a k = after (more_term op) a k _ (pushed (F.binary (product_of op)) _ _ (term-read fs a k))

  sum-moves : (op : SumOp) (a : Atom) (k : InUnary)
      → F.once_operand (Some (F.operator (sum_of op))) (atom_tree fs a) (unary_frames fs k) ≡ Some (reading_of fs (after_operand (ends_term (more_sum op)) (only_atom a) k))
  sum-moves op a k = after (ends_term (more_sum op)) a k _ (pushed (F.binary (sum_of op)) _ _ (sum-read fs a k))

  -- where the machine goes on, so does the reading
  pub moves : (s : ExpressionState) (k : Kind) → IsGoing (step s k) → next_reading fs k (reading_of fs s).0 (reading_of fs s).1 ≡ Some (reading_of fs (step s k))
  moves (Due k) (Number n) g = refl
  moves (Due k) (Name x) g = refl
  moves (Due k) LeftParen g = refl
  moves (Due k) Minus g = refl
  moves (Due k) Bang g = refl
  moves (Due k) t g = elim g [ ]
  moves (Have a k) Caret g = pushed (F.binary power_of) _ _ (unary-left fs 7 (atom_tree fs a) k (omega arith))
  moves (Have a k) Times g = product-moves multiply a k
  moves (Have a k) Slash g = product-moves divide a k
  moves (Have a k) Percent g = product-moves remainder a k
  moves (Have a k) Plus g = sum-moves add a k
  moves (Have a k) Minus g = sum-moves subtract a k
  moves (Have a k) Equal g = comparison-moves equal a k g
  moves (Have a k) Unequal g = comparison-moves unequal a k g
  moves (Have a k) Less g = comparison-moves less a k g
  moves (Have a k) AtMost g = comparison-moves at_most a k g
  moves (Have a k) Greater g = comparison-moves greater a k g
  moves (Have a k) AtLeast g = comparison-moves at_least a k g
  moves (Have a k) Ampersand g = after (ends_term (ends_sum (ends_rel half_and))) a k _ (pushed F.both _ _ (and-read fs a k))
  moves (Have a k) Bar g = after (ends_term (ends_sum (ends_rel (ends_and half_or)))) a k _ (pushed F.either _ _ (expr-read fs a k))
  moves (Have a k) RightParen g = close-moves a k g
  moves (Have a k) t g = absurd (not_both _ (other-over (only_atom a) k) g)
  moves (HalfAnd a k) Ampersand g = refl
  moves (HalfAnd a k) t g = elim g [ ]
  moves (HalfOr e k) Bar g = refl
  moves (HalfOr e k) t g = elim g [ ]
  moves (Done e) t g = elim g [ ]
  moves Stop t g = elim g [ ]

  -- the whole that the last operand ends
  whole-done : (e d : Expr) (j : Around) → finished (ended e j) ≡ Some d → ◌≡◌ {A = Tree × List OperandFrame} (expr_tree fs e, around_frames fs j) (expr_tree fs d, [])
  whole-done e d no_parens h = let same : e ≡ d = cc h in ap (λ x. (expr_tree fs x, [])) same
  whole-done e d (in_parens k) h = cc h

  -- the last operand, reduced, is the whole
  pub end-reads : (a : Atom) (k : InUnary) (d : Expr) → finished (end_step (Have a k)) ≡ Some d → reduced 1 (atom_tree fs a) (unary_frames fs k) ≡ (expr_tree fs d, [])
  end-reads a k d h =
      let f : AfterUnary = ends_term (ends_sum (ends_rel (ends_and (ends_expr other)))) in
      let last : finished (ended (expr_to fs a k) (surrounding fs k)) ≡ Some d = ap finished (sym (after_operand-is fs f (only_atom a) k)) ∙ h in
      expr-read fs a k ∙ whole-done (expr_to fs a k) d (surrounding fs k) last

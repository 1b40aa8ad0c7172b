-- The tokens of a tree are read as that tree.
use Rattle.std.proofs.Common.{◌≡◌, List, [], ◌∷◌, ◌++◌, Some, refl, ap, ◌∙◌, sym, append_assoc, append-nil}
use Rattle.lsys_syntax.specs.Tokens.{Kind, RightParen, Times, Slash, Percent, Ampersand, Bar, Caret}
use Rattle.lsys_syntax.specs.Expressions.{TermOp, multiply, divide, remainder, SumOp, add, subtract, RelOp, equal, unequal, less, at_most, greater, at_least, Expr, only_and, or, And, only_rel, and, Rel, only_sum, compare, Sum, only_term, total, Term, only_unary, product, Unary, negated, inverted, only_atom, raised, Atom, number, name, parens, term_kind, sum_kind, rel_kind, expr_kinds, and_kinds, rel_kinds, sum_kinds, term_kinds, unary_kinds, atom_kinds}
use Rattle.lsys_syntax.specs.ExpressionMachine.{InUnary, negating, inverting, raising, in_term, first_unary, next_unary, InSum, first_term, next_term, InRel, first_sum, second_sum, InAnd, first_rel, next_rel, InExpr, first_and, next_and, Around, no_parens, in_parens, ExpressionState, Due, Have, HalfAnd, HalfOr, Done, AfterExpr, closing, other, AfterAnd, half_or, ends_expr, AfterRel, half_and, ends_and, AfterSum, comparing, ends_rel, AfterTerm, more_sum, ends_sum, AfterUnary, more_term, ends_term, AfterAtom, ends_unary, sum_step, rel_step, and_step, or_step, expr_step, what_follows, after_expr, after_and, after_rel, after_sum, after_term, after_operand, after_atom, start_expr, step, run, end_step, finished, parse_expr}

-- where a part's last atom stands
abbrev pub leave_unary : Unary → InUnary → ExpressionState
leave_unary (negated u) k = leave_unary u (negating k)
leave_unary (inverted u) k = leave_unary u (inverting k)
leave_unary (only_atom a) k = Have a k
leave_unary (raised a u) k = leave_unary u (raising a k)

abbrev pub leave_term : Term → InSum → ExpressionState
leave_term (only_unary u) k = leave_unary u (in_term (first_unary k))
leave_term (product t op u) k = leave_unary u (in_term (next_unary t op k))

abbrev pub leave_sum : Sum → InRel → ExpressionState
leave_sum (only_term t) k = leave_term t (first_term k)
leave_sum (total s op t) k = leave_term t (next_term s op k)

abbrev pub leave_rel : Rel → InAnd → ExpressionState
leave_rel (only_sum s) k = leave_sum s (first_sum k)
leave_rel (compare l op r) k = leave_sum r (second_sum l op k)

abbrev pub leave_and : And → InExpr → ExpressionState
leave_and (only_rel r) k = leave_rel r (first_rel k)
leave_and (and a r) k = leave_rel r (next_rel a k)

abbrev pub leave_expr : Expr → Around → ExpressionState
leave_expr (only_and a) k = leave_and a (first_and k)
leave_expr (or e a) k = leave_and a (next_and e k)

-- A step that does so after an atom does so after each part.
abbrev pub Does : (ExpressionState → ExpressionState) → AfterAtom → Type 0
Does g f = (a : Atom) (k : InUnary) → g (Have a k) ≡ after_atom f a k

unary_left : (g : ExpressionState → ExpressionState) (f : AfterUnary) → Does g (ends_unary f) → (u : Unary) (k : InUnary) → g (leave_unary u k) ≡ after_operand f u k
unary_left g f d (negated u) k = unary_left g f d u (negating k)
unary_left g f d (inverted u) k = unary_left g f d u (inverting k)
unary_left g f d (only_atom a) k = d a k
unary_left g f d (raised a u) k = unary_left g f d u (raising a k)

term_left : (g : ExpressionState → ExpressionState) (f : AfterTerm) → Does g (sum_step f) → (t : Term) (k : InSum) → g (leave_term t k) ≡ after_term f t k
term_left g f d (only_unary u) k = unary_left g (ends_term f) d u (in_term (first_unary k))
term_left g f d (product t op u) k = unary_left g (ends_term f) d u (in_term (next_unary t op k))

sum_left : (g : ExpressionState → ExpressionState) (f : AfterSum) → Does g (rel_step f) → (s : Sum) (k : InRel) → g (leave_sum s k) ≡ after_sum f s k
sum_left g f d (only_term t) k = term_left g (ends_sum f) d t (first_term k)
sum_left g f d (total s op t) k = term_left g (ends_sum f) d t (next_term s op k)

rel_left : (g : ExpressionState → ExpressionState) (f : AfterRel) → Does g (and_step f) → (r : Rel) (k : InAnd) → g (leave_rel r k) ≡ after_rel f r k
rel_left g f d (only_sum s) k = sum_left g (ends_rel f) d s (first_sum k)
rel_left g f d (compare l op s) k = sum_left g (ends_rel f) d s (second_sum l op k)

and_left : (g : ExpressionState → ExpressionState) (f : AfterAnd) → Does g (or_step f) → (a : And) (k : InExpr) → g (leave_and a k) ≡ after_and f a k
and_left g f d (only_rel r) k = rel_left g (ends_and f) d r (first_rel k)
and_left g f d (and a r) k = rel_left g (ends_and f) d r (next_rel a k)

pub expr_left : (g : ExpressionState → ExpressionState) (f : AfterExpr) → Does g (expr_step f) → (e : Expr) (k : Around) → g (leave_expr e k) ≡ after_expr f e k
expr_left g f d (only_and a) k = and_left g (ends_expr f) d a (first_and k)
expr_left g f d (or e a) k = and_left g (ends_expr f) d a (next_and e k)

-- an operator takes its left side
pub product_step : (op : TermOp) (t : Term) (k : InSum) → step (leave_term t k) (term_kind op) ≡ Due (in_term (next_unary t op k))
product_step multiply (only_unary u) k = unary_left (λ s. step s Times) (more_term multiply) (λ a j. refl) u (in_term (first_unary k))
product_step divide (only_unary u) k = unary_left (λ s. step s Slash) (more_term divide) (λ a j. refl) u (in_term (first_unary k))
product_step remainder (only_unary u) k = unary_left (λ s. step s Percent) (more_term remainder) (λ a j. refl) u (in_term (first_unary k))
product_step multiply (product t op u) k = unary_left (λ s. step s Times) (more_term multiply) (λ a j. refl) u (in_term (next_unary t op k))
product_step divide (product t op u) k = unary_left (λ s. step s Slash) (more_term divide) (λ a j. refl) u (in_term (next_unary t op k))
product_step remainder (product t op u) k = unary_left (λ s. step s Percent) (more_term remainder) (λ a j. refl) u (in_term (next_unary t op k))

does_sum : (op : SumOp) → Does (λ s. step s (sum_kind op)) (sum_step (more_sum op))
does_sum add a k = refl
does_sum subtract a k = refl

pub total_step : (op : SumOp) (s : Sum) (k : InRel) → step (leave_sum s k) (sum_kind op) ≡ Due (in_term (first_unary (next_term s op k)))
total_step op (only_term t) k = term_left (λ s. step s (sum_kind op)) (more_sum op) (does_sum op) t (first_term k)
total_step op (total s o t) k = term_left (λ s. step s (sum_kind op)) (more_sum op) (does_sum op) t (next_term s o k)

does_rel : (op : RelOp) → Does (λ s. step s (rel_kind op)) (rel_step (comparing op))
does_rel equal a k = refl
does_rel unequal a k = refl
does_rel less a k = refl
does_rel at_most a k = refl
does_rel greater a k = refl
does_rel at_least a k = refl

pub compare_step : (op : RelOp) (s : Sum) (k : InAnd) → step (leave_sum s (first_sum k)) (rel_kind op) ≡ Due (in_term (first_unary (first_term (second_sum s op k))))
compare_step op s k = sum_left (λ s. step s (rel_kind op)) (comparing op) (does_rel op) s (first_sum k)

pub and_step_left : (a : And) (k : InExpr) → step (leave_and a k) Ampersand ≡ HalfAnd a k
and_step_left (only_rel r) k = rel_left (λ s. step s Ampersand) half_and (λ a j. refl) r (first_rel k)
and_step_left (and a r) k = rel_left (λ s. step s Ampersand) half_and (λ a j. refl) r (next_rel a k)

pub or_step_left : (e : Expr) (k : Around) → step (leave_expr e k) Bar ≡ HalfOr e k
or_step_left (only_and a) k = and_left (λ s. step s Bar) half_or (λ a j. refl) a (first_and k)
or_step_left (or e a) k = and_left (λ s. step s Bar) half_or (λ a j. refl) a (next_and e k)

mutual
  pub read-expr : (e : Expr) (k : Around) (ts : List Kind) → run (start_expr k) (expr_kinds e ++ ts) ≡ run (leave_expr e k) ts
  read-expr (only_and a) k ts = read-and a (first_and k) ts
  read-expr (or e a) k ts =
      rw append_assoc (read-expr e k (Bar ∷ Bar ∷ (and_kinds a ++ ts))
      ∙ ap (λ s. run s (Bar ∷ (and_kinds a ++ ts))) (or_step_left e k)
      ∙ read-and a (next_and e k) ts)

  pub read-and : (a : And) (k : InExpr) (ts : List Kind) → run (Due (in_term (first_unary (first_term (first_sum (first_rel k)))))) (and_kinds a ++ ts) ≡ run (leave_and a k) ts
  read-and (only_rel r) k ts = read-rel r (first_rel k) ts
  read-and (and a r) k ts =
      rw append_assoc (read-and a k (Ampersand ∷ Ampersand ∷ (rel_kinds r ++ ts))
      ∙ ap (λ s. run s (Ampersand ∷ (rel_kinds r ++ ts))) (and_step_left a k)
      ∙ read-rel r (next_rel a k) ts)

  pub read-rel : (r : Rel) (k : InAnd) (ts : List Kind) → run (Due (in_term (first_unary (first_term (first_sum k))))) (rel_kinds r ++ ts) ≡ run (leave_rel r k) ts
  read-rel (only_sum s) k ts = read-sum s (first_sum k) ts
  read-rel (compare l op s) k ts =
      rw append_assoc (read-sum l (first_sum k) (rel_kind op ∷ (sum_kinds s ++ ts))
      ∙ ap (λ x. run x (sum_kinds s ++ ts)) (compare_step op l k)
      ∙ read-sum s (second_sum l op k) ts)

  pub read-sum : (s : Sum) (k : InRel) (ts : List Kind) → run (Due (in_term (first_unary (first_term k)))) (sum_kinds s ++ ts) ≡ run (leave_sum s k) ts
  read-sum (only_term t) k ts = read-term t (first_term k) ts
  read-sum (total s op t) k ts =
      rw append_assoc (read-sum s k (sum_kind op ∷ (term_kinds t ++ ts))
      ∙ ap (λ x. run x (term_kinds t ++ ts)) (total_step op s k)
      ∙ read-term t (next_term s op k) ts)

  pub read-term : (t : Term) (k : InSum) (ts : List Kind) → run (Due (in_term (first_unary k))) (term_kinds t ++ ts) ≡ run (leave_term t k) ts
  read-term (only_unary u) k ts = read-unary u (in_term (first_unary k)) ts
  read-term (product t op u) k ts =
      rw append_assoc (read-term t k (term_kind op ∷ (unary_kinds u ++ ts))
      ∙ ap (λ x. run x (unary_kinds u ++ ts)) (product_step op t k)
      ∙ read-unary u (in_term (next_unary t op k)) ts)

  pub read-unary : (u : Unary) (k : InUnary) (ts : List Kind) → run (Due k) (unary_kinds u ++ ts) ≡ run (leave_unary u k) ts
  read-unary (negated u) k ts = read-unary u (negating k) ts
  read-unary (inverted u) k ts = read-unary u (inverting k) ts
  read-unary (only_atom a) k ts = read-atom a k ts
  read-unary (raised a u) k ts =
      rw append_assoc (read-atom a k (Caret ∷ (unary_kinds u ++ ts)) ∙ read-unary u (raising a k) ts)

  pub read-atom : (a : Atom) (k : InUnary) (ts : List Kind) → run (Due k) (atom_kinds a ++ ts) ≡ run (Have a k) ts
  read-atom (number n) k ts = refl
  read-atom (name n) k ts = refl
  read-atom (parens e) k ts =
      ap (run (start_expr (in_parens k))) (append_assoc (expr_kinds e) (RightParen ∷ []) ts)
      ∙ read-expr e (in_parens k) (RightParen ∷ ts)
      ∙ ap (λ s. run s ts) (expr_left (λ s. step s RightParen) closing (λ a j. refl) e (in_parens k))

-- After a whole expression an operand was read.
abbrev pub Has : ExpressionState → Type 0
Has s = (a : Atom) × (k : InUnary) × (s ≡ Have a k)

has-unary : (u : Unary) (k : InUnary) → Has (leave_unary u k)
has-unary (negated u) k = has-unary u (negating k)
has-unary (inverted u) k = has-unary u (inverting k)
has-unary (only_atom a) k = (a, k, refl)
has-unary (raised a u) k = has-unary u (raising a k)

has-term : (t : Term) (k : InSum) → Has (leave_term t k)
has-term (only_unary u) k = has-unary u (in_term (first_unary k))
has-term (product t op u) k = has-unary u (in_term (next_unary t op k))

has-sum : (s : Sum) (k : InRel) → Has (leave_sum s k)
has-sum (only_term t) k = has-term t (first_term k)
has-sum (total s op t) k = has-term t (next_term s op k)

has-rel : (r : Rel) (k : InAnd) → Has (leave_rel r k)
has-rel (only_sum s) k = has-sum s (first_sum k)
has-rel (compare l op s) k = has-sum s (second_sum l op k)

has-and : (a : And) (k : InExpr) → Has (leave_and a k)
has-and (only_rel r) k = has-rel r (first_rel k)
has-and (and a r) k = has-rel r (next_rel a k)

pub has-expr : (e : Expr) (k : Around) → Has (leave_expr e k)
has-expr (only_and a) k = has-and a (first_and k)
has-expr (or e a) k = has-and a (next_and e k)

-- the state after a whole expression, and what the end of the tokens makes of it
pub run-whole : (e : Expr) → run (start_expr no_parens) (expr_kinds e) ≡ leave_expr e no_parens
run-whole e = ap (run (start_expr no_parens)) (sym (append-nil (expr_kinds e))) ∙ read-expr e no_parens []

pub end-whole : (e : Expr) → end_step (leave_expr e no_parens) ≡ Done e
end-whole e = expr_left end_step other (λ a j. refl) e no_parens

pub parse-kinds : (e : Expr) → parse_expr (expr_kinds e) ≡ Some e
parse-kinds e = ap (λ s. finished (end_step s)) (run-whole e) ∙ ap finished (end-whole e)

-- after a whole expression, a token that can't go on with it ends it
pub other-ends : (t : Kind) → what_follows t ≡ expr_step other → (e : Expr) → step (leave_expr e no_parens) t ≡ Done e
other-ends t h e = expr_left (λ s. step s t) other (λ a k. ap (λ f. after_atom f a k) h) e no_parens

pub paren-ends : (e : Expr) → step (leave_expr e no_parens) RightParen ≡ Done e
paren-ends e = expr_left (λ s. step s RightParen) closing (λ a k. refl) e no_parens

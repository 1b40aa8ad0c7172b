-- What a state has taken, with its completion, is an expression; and each step takes its token.
use Rattle.std.proofs.Common.{◌≡◌, List, [], ◌∷◌, ◌++◌, refl, ap, ◌∙◌, sym, subst, append_assoc, append-nil}
use Rattle.lsys_syntax.specs.Tokens.{Kind, Name, Number, Equal, Unequal, AtMost, AtLeast, LeftParen, RightParen, Plus, Minus, Times, Slash, Percent, Ampersand, Bar, Caret, Bang, Less, Greater}
use Rattle.lsys_syntax.specs.Expressions.{Expr, only_and, or, And, only_rel, and, Rel, only_sum, compare, Sum, only_term, total, Term, only_unary, product, Unary, negated, inverted, only_atom, raised, Atom, number, parens, term_kind, sum_kind, rel_kind, expr_kinds, and_kinds, rel_kinds, sum_kinds, term_kinds, unary_kinds, atom_kinds}
use Rattle.lsys_syntax.specs.ExpressionMachine.{InUnary, negating, inverting, raising, in_term, InTerm, first_unary, next_unary, InSum, first_term, next_term, InRel, first_sum, second_sum, InAnd, first_rel, next_rel, InExpr, first_and, next_and, Around, no_parens, in_parens, ExpressionState, Due, Have, HalfAnd, HalfOr, Done, Stop, AfterExpr, closing, other, AfterAnd, half_or, ends_expr, AfterRel, half_and, ends_and, AfterSum, comparing, ends_rel, AfterTerm, more_sum, ends_sum, AfterUnary, more_term, ends_term, AfterAtom, powering, ends_unary, what_follows, after_expr, after_and, after_rel, after_sum, after_term, after_unary, after_operand, after_atom, start_expr, step, run, ended}
use Rattle.lsys_syntax.proofs.Complete.{leave_expr, has-expr, run-whole}
use Rattle.lsys_syntax.specs.Completions.{before_unary, before_term, before_sum, before_rel, before_and, before_expr, before, spelled, closing_unary, closing_term, closing_sum, closing_rel, closing_and, closing_expr, closing_around, completion, fill_unary, fill_term, fill_sum, fill_rel, fill_and, fill_expr, fill_around, completed}

-- front, an operator after its left side, and what follows
pub three : (b l t : List Kind) (m : Kind) → (b ++ (l ++ m ∷ [])) ++ t ≡ b ++ (l ++ m ∷ t)
three b l t m = append_assoc b (l ++ m ∷ []) t ∙ ap (λ x. b ++ x) (append_assoc l (m ∷ []) t)

pub three_two : (b l t : List Kind) (m n : Kind) → (b ++ (l ++ m ∷ n ∷ [])) ++ t ≡ b ++ (l ++ m ∷ n ∷ t)
three_two b l t m n = append_assoc b (l ++ m ∷ n ∷ []) t ∙ ap (λ x. b ++ x) (append_assoc l (m ∷ n ∷ []) t)

-- the left side of an operator together with its right side, and what follows
joined : (b l r t : List Kind) (m : Kind) → b ++ ((l ++ m ∷ r) ++ t) ≡ (b ++ (l ++ m ∷ [])) ++ (r ++ t)
joined b l r t m = ap (λ x. b ++ x) (append_assoc l (m ∷ r) t) ∙ sym (three b l (r ++ t) m)

joined_two : (b l r t : List Kind) (m n : Kind) → b ++ ((l ++ m ∷ n ∷ r) ++ t) ≡ (b ++ (l ++ m ∷ n ∷ [])) ++ (r ++ t)
joined_two b l r t m n = ap (λ x. b ++ x) (append_assoc l (m ∷ n ∷ r) t) ∙ sym (three_two b l (r ++ t) m n)

mutual
  fill_unary-kinds : (u : Unary) (k : InUnary) → expr_kinds (fill_unary u k) ≡ before_unary k ++ (unary_kinds u ++ closing_unary k)
  fill_unary-kinds u (negating k) = fill_unary-kinds (negated u) k ∙ sym (append_assoc (before_unary k) (Minus ∷ []) (unary_kinds u ++ closing_unary k))
  fill_unary-kinds u (inverting k) = fill_unary-kinds (inverted u) k ∙ sym (append_assoc (before_unary k) (Bang ∷ []) (unary_kinds u ++ closing_unary k))
  fill_unary-kinds u (raising a k) = fill_unary-kinds (raised a u) k ∙ joined (before_unary k) (atom_kinds a) (unary_kinds u) (closing_unary k) Caret
  fill_unary-kinds u (in_term k) = fill_term-kinds u k

  fill_term-kinds : (u : Unary) (k : InTerm) → expr_kinds (fill_term u k) ≡ before_term k ++ (unary_kinds u ++ closing_term k)
  fill_term-kinds u (first_unary k) = fill_sum-kinds (only_unary u) k
  fill_term-kinds u (next_unary t op k) = fill_sum-kinds (product t op u) k ∙ joined (before_sum k) (term_kinds t) (unary_kinds u) (closing_sum k) (term_kind op)

  fill_sum-kinds : (t : Term) (k : InSum) → expr_kinds (fill_sum t k) ≡ before_sum k ++ (term_kinds t ++ closing_sum k)
  fill_sum-kinds t (first_term k) = fill_rel-kinds (only_term t) k
  fill_sum-kinds t (next_term s op k) = fill_rel-kinds (total s op t) k ∙ joined (before_rel k) (sum_kinds s) (term_kinds t) (closing_rel k) (sum_kind op)

  fill_rel-kinds : (s : Sum) (k : InRel) → expr_kinds (fill_rel s k) ≡ before_rel k ++ (sum_kinds s ++ closing_rel k)
  fill_rel-kinds s (first_sum k) = fill_and-kinds (only_sum s) k
  fill_rel-kinds s (second_sum l op k) = fill_and-kinds (compare l op s) k ∙ joined (before_and k) (sum_kinds l) (sum_kinds s) (closing_and k) (rel_kind op)

  fill_and-kinds : (r : Rel) (k : InAnd) → expr_kinds (fill_and r k) ≡ before_and k ++ (rel_kinds r ++ closing_and k)
  fill_and-kinds r (first_rel k) = fill_expr-kinds (only_rel r) k
  fill_and-kinds r (next_rel a k) = fill_expr-kinds (and a r) k ∙ joined_two (before_expr k) (and_kinds a) (rel_kinds r) (closing_expr k) Ampersand Ampersand

  fill_expr-kinds : (a : And) (k : InExpr) → expr_kinds (fill_expr a k) ≡ before_expr k ++ (and_kinds a ++ closing_expr k)
  fill_expr-kinds a (first_and k) = fill_around-kinds (only_and a) k
  fill_expr-kinds a (next_and e k) = fill_around-kinds (or e a) k ∙ joined_two (before k) (expr_kinds e) (and_kinds a) (closing_around k) Bar Bar

  fill_around-kinds : (e : Expr) (k : Around) → expr_kinds (fill_around e k) ≡ before k ++ (expr_kinds e ++ closing_around k)
  fill_around-kinds e no_parens = sym (append-nil (expr_kinds e))
  fill_around-kinds e (in_parens k) =
      fill_unary-kinds (only_atom (parens e)) k
      ∙ ap (λ x. before_unary k ++ LeftParen ∷ x) (append_assoc (expr_kinds e) (RightParen ∷ []) (closing_unary k))
      ∙ sym (append_assoc (before_unary k) (LeftParen ∷ []) (expr_kinds e ++ RightParen ∷ closing_unary k))

-- Some expression begins with what a state has taken.
abbrev pub IsGoing : ExpressionState → Type 0
IsGoing (Done e) = ⊥
IsGoing Stop = ⊥
IsGoing s = Unit {0}

run-stop : (ts : List Kind) → run Stop ts ≡ Stop
run-stop [] = refl
run-stop (t ∷ ts) = run-stop ts

-- what goes on in the end went on before
pub goes-before : (ts : List Kind) (s : ExpressionState) → IsGoing (run s ts) → IsGoing s
goes-before [] s h = h
goes-before (t ∷ ts) (Due k) h = tt
goes-before (t ∷ ts) (Have a k) h = tt
goes-before (t ∷ ts) (HalfAnd a k) h = tt
goes-before (t ∷ ts) (HalfOr e k) h = tt
goes-before (t ∷ ts) (Done e) h = subst IsGoing (run-stop ts) h
goes-before (t ∷ ts) Stop h = subst IsGoing (run-stop ts) h

pub completes : (s : ExpressionState) → IsGoing s → expr_kinds (completed s) ≡ spelled s ++ completion s
completes (Due k) g = fill_unary-kinds (only_atom (number 0)) k
completes (Have a k) g = fill_unary-kinds (only_atom a) k ∙ sym (append_assoc (before_unary k) (atom_kinds a) (closing_unary k))
completes (HalfAnd a k) g =
    fill_expr-kinds (and a (only_sum (only_term (only_unary (only_atom (number 0)))))) k
    ∙ ap (λ x. before_expr k ++ x) (append_assoc (and_kinds a) (Ampersand ∷ Ampersand ∷ Number 0 ∷ []) (closing_expr k))
    ∙ sym (three (before_expr k) (and_kinds a) (Ampersand ∷ Number 0 ∷ closing_expr k) Ampersand)
completes (HalfOr e k) g =
    fill_around-kinds (or e (only_rel (only_sum (only_term (only_unary (only_atom (number 0))))))) k
    ∙ ap (λ x. before k ++ x) (append_assoc (expr_kinds e) (Bar ∷ Bar ∷ Number 0 ∷ []) (closing_around k))
    ∙ sym (three (before k) (expr_kinds e) (Bar ∷ Number 0 ∷ closing_around k) Bar)
completes (Done e) g = elim g [ ]
completes Stop g = elim g [ ]

-- Each step that goes on takes its token.
abbrev pub Keeps : ExpressionState → List Kind → Type 0
Keeps (Done e) ts = Unit {0}
Keeps Stop ts = Unit {0}
Keeps s ts = spelled s ≡ ts

abbrev told_expr : AfterExpr → List Kind
told_expr closing = RightParen ∷ []
told_expr other = []

abbrev told_and : AfterAnd → List Kind
told_and half_or = Bar ∷ []
told_and (ends_expr f) = told_expr f

abbrev told_rel : AfterRel → List Kind
told_rel half_and = Ampersand ∷ []
told_rel (ends_and f) = told_and f

abbrev told_sum : AfterSum → List Kind
told_sum (comparing op) = rel_kind op ∷ []
told_sum (ends_rel f) = told_rel f

abbrev told_term : AfterTerm → List Kind
told_term (more_sum op) = sum_kind op ∷ []
told_term (ends_sum f) = told_sum f

abbrev told_unary : AfterUnary → List Kind
told_unary (more_term op) = term_kind op ∷ []
told_unary (ends_term f) = told_term f

abbrev told : AfterAtom → List Kind
told powering = Caret ∷ []
told (ends_unary f) = told_unary f

after_expr-keeps : (f : AfterExpr) (e : Expr) (k : Around) → Keeps (after_expr f e k) (before k ++ (expr_kinds e ++ told_expr f))
after_expr-keeps closing e no_parens = tt
after_expr-keeps closing e (in_parens k) = sym (append_assoc (before_unary k) (LeftParen ∷ []) (expr_kinds e ++ RightParen ∷ []))
after_expr-keeps other e no_parens = tt
after_expr-keeps other e (in_parens k) = tt

after_and-keeps : (f : AfterAnd) (a : And) (k : InExpr) → Keeps (after_and f a k) (before_expr k ++ (and_kinds a ++ told_and f))
after_and-keeps half_or a (first_and k) = refl
after_and-keeps half_or a (next_and e k) = joined_two (before k) (expr_kinds e) (and_kinds a) (Bar ∷ []) Bar Bar
after_and-keeps (ends_expr f) a (first_and k) = after_expr-keeps f (only_and a) k
after_and-keeps (ends_expr f) a (next_and e k) = subst (Keeps (after_expr f (or e a) k)) (joined_two (before k) (expr_kinds e) (and_kinds a) (told_expr f) Bar Bar) (after_expr-keeps f (or e a) k)

after_rel-keeps : (f : AfterRel) (r : Rel) (k : InAnd) → Keeps (after_rel f r k) (before_and k ++ (rel_kinds r ++ told_rel f))
after_rel-keeps half_and r (first_rel k) = refl
after_rel-keeps half_and r (next_rel a k) = joined_two (before_expr k) (and_kinds a) (rel_kinds r) (Ampersand ∷ []) Ampersand Ampersand
after_rel-keeps (ends_and f) r (first_rel k) = after_and-keeps f (only_rel r) k
after_rel-keeps (ends_and f) r (next_rel a k) = subst (Keeps (after_and f (and a r) k)) (joined_two (before_expr k) (and_kinds a) (rel_kinds r) (told_and f) Ampersand Ampersand) (after_and-keeps f (and a r) k)

after_sum-keeps : (f : AfterSum) (s : Sum) (k : InRel) → Keeps (after_sum f s k) (before_rel k ++ (sum_kinds s ++ told_sum f))
after_sum-keeps (comparing op) s (first_sum k) = refl
after_sum-keeps (comparing op) s (second_sum l o k) = tt
after_sum-keeps (ends_rel f) s (first_sum k) = after_rel-keeps f (only_sum s) k
after_sum-keeps (ends_rel f) s (second_sum l op k) = subst (Keeps (after_rel f (compare l op s) k)) (joined (before_and k) (sum_kinds l) (sum_kinds s) (told_rel f) (rel_kind op)) (after_rel-keeps f (compare l op s) k)

after_term-keeps : (f : AfterTerm) (t : Term) (k : InSum) → Keeps (after_term f t k) (before_sum k ++ (term_kinds t ++ told_term f))
after_term-keeps (more_sum op) t (first_term k) = refl
after_term-keeps (more_sum op) t (next_term s o k) = joined (before_rel k) (sum_kinds s) (term_kinds t) (sum_kind op ∷ []) (sum_kind o)
after_term-keeps (ends_sum f) t (first_term k) = after_sum-keeps f (only_term t) k
after_term-keeps (ends_sum f) t (next_term s op k) = subst (Keeps (after_sum f (total s op t) k)) (joined (before_rel k) (sum_kinds s) (term_kinds t) (told_sum f) (sum_kind op)) (after_sum-keeps f (total s op t) k)

after_unary-keeps : (f : AfterUnary) (u : Unary) (k : InTerm) → Keeps (after_unary f u k) (before_term k ++ (unary_kinds u ++ told_unary f))
after_unary-keeps (more_term op) u (first_unary k) = refl
after_unary-keeps (more_term op) u (next_unary t o k) = joined (before_sum k) (term_kinds t) (unary_kinds u) (term_kind op ∷ []) (term_kind o)
after_unary-keeps (ends_term f) u (first_unary k) = after_term-keeps f (only_unary u) k
after_unary-keeps (ends_term f) u (next_unary t op k) = subst (Keeps (after_term f (product t op u) k)) (joined (before_sum k) (term_kinds t) (unary_kinds u) (told_term f) (term_kind op)) (after_term-keeps f (product t op u) k)

after_operand-keeps : (f : AfterUnary) (u : Unary) (k : InUnary) → Keeps (after_operand f u k) (before_unary k ++ (unary_kinds u ++ told_unary f))
after_operand-keeps f u (negating k) = subst (Keeps (after_operand f (negated u) k)) (sym (append_assoc (before_unary k) (Minus ∷ []) (unary_kinds u ++ told_unary f))) (after_operand-keeps f (negated u) k)
after_operand-keeps f u (inverting k) = subst (Keeps (after_operand f (inverted u) k)) (sym (append_assoc (before_unary k) (Bang ∷ []) (unary_kinds u ++ told_unary f))) (after_operand-keeps f (inverted u) k)
after_operand-keeps f u (raising a k) = subst (Keeps (after_operand f (raised a u) k)) (joined (before_unary k) (atom_kinds a) (unary_kinds u) (told_unary f) Caret) (after_operand-keeps f (raised a u) k)
after_operand-keeps f u (in_term k) = after_unary-keeps f u k

after_atom-keeps : (f : AfterAtom) (a : Atom) (k : InUnary) → Keeps (after_atom f a k) ((before_unary k ++ atom_kinds a) ++ told f)
after_atom-keeps powering a k = sym (append_assoc (before_unary k) (atom_kinds a) (Caret ∷ []))
after_atom-keeps (ends_unary f) a k = subst (Keeps (after_operand f (only_atom a) k)) (sym (append_assoc (before_unary k) (atom_kinds a) (told_unary f))) (after_operand-keeps f (only_atom a) k)

-- no other token goes on after an operand
abbrev pub IsOver : ExpressionState → Type 0
IsOver (Done e) = Unit {0}
IsOver Stop = Unit {0}
IsOver s = ⊥

over-keeps : (s : ExpressionState) (ts : List Kind) → IsOver s → Keeps s ts
over-keeps (Due k) ts h = elim h [ ]
over-keeps (Have a k) ts h = elim h [ ]
over-keeps (HalfAnd a k) ts h = elim h [ ]
over-keeps (HalfOr e k) ts h = elim h [ ]
over-keeps (Done e) ts h = tt
over-keeps Stop ts h = tt

ended-over : (e : Expr) (k : Around) → IsOver (ended e k)
ended-over e no_parens = tt
ended-over e (in_parens k) = tt

pub other-over : (u : Unary) (k : InUnary) → IsOver (after_operand (ends_term (ends_sum (ends_rel (ends_and (ends_expr other))))) u k)
other-over u (negating k) = other-over (negated u) k
other-over u (inverting k) = other-over (inverted u) k
other-over u (raising a k) = other-over (raised a u) k
other-over u (in_term k) = ended-over _ _

pub step-keeps : (s : ExpressionState) (t : Kind) → Keeps (step s t) (spelled s ++ t ∷ [])
step-keeps (Due k) (Number n) = refl
step-keeps (Due k) (Name n) = refl
step-keeps (Due k) LeftParen = refl
step-keeps (Due k) Minus = refl
step-keeps (Due k) Bang = refl
step-keeps (Due k) t = tt
step-keeps (Have a k) Caret = after_atom-keeps (what_follows Caret) a k
step-keeps (Have a k) Times = after_atom-keeps (what_follows Times) a k
step-keeps (Have a k) Slash = after_atom-keeps (what_follows Slash) a k
step-keeps (Have a k) Percent = after_atom-keeps (what_follows Percent) a k
step-keeps (Have a k) Plus = after_atom-keeps (what_follows Plus) a k
step-keeps (Have a k) Minus = after_atom-keeps (what_follows Minus) a k
step-keeps (Have a k) Equal = after_atom-keeps (what_follows Equal) a k
step-keeps (Have a k) Unequal = after_atom-keeps (what_follows Unequal) a k
step-keeps (Have a k) Less = after_atom-keeps (what_follows Less) a k
step-keeps (Have a k) AtMost = after_atom-keeps (what_follows AtMost) a k
step-keeps (Have a k) Greater = after_atom-keeps (what_follows Greater) a k
step-keeps (Have a k) AtLeast = after_atom-keeps (what_follows AtLeast) a k
step-keeps (Have a k) Ampersand = after_atom-keeps (what_follows Ampersand) a k
step-keeps (Have a k) Bar = after_atom-keeps (what_follows Bar) a k
step-keeps (Have a k) RightParen = after_atom-keeps (what_follows RightParen) a k
step-keeps (Have a k) t = over-keeps _ _ (other-over (only_atom a) k)
step-keeps (HalfAnd a k) Ampersand = sym (three (before_expr k) (and_kinds a) (Ampersand ∷ []) Ampersand)
step-keeps (HalfAnd a k) t = tt
step-keeps (HalfOr e k) Bar = sym (three (before k) (expr_kinds e) (Bar ∷ []) Bar)
step-keeps (HalfOr e k) t = tt
step-keeps (Done e) t = tt
step-keeps Stop t = tt

-- what is over stays over
over_run : (ts : List Kind) (s : ExpressionState) → IsOver s → IsOver (run s ts)
over_run [] s h = h
over_run (t ∷ ts) (Done e) h = over_run ts Stop tt
over_run (t ∷ ts) Stop h = over_run ts Stop tt
over_run (t ∷ ts) (Due k) h = elim h [ ]
over_run (t ∷ ts) (Have a k) h = elim h [ ]
over_run (t ∷ ts) (HalfAnd a k) h = elim h [ ]
over_run (t ∷ ts) (HalfOr e k) h = elim h [ ]

keeps-from : (s : ExpressionState) (xs ys ts : List Kind) → Keeps s xs → ((zs : List Kind) → IsGoing s → zs ≡ spelled s → Keeps (run s ts) (zs ++ ts)) → xs ++ ts ≡ ys → Keeps (run s ts) ys
keeps-from (Due k) xs ys ts h f e = subst (Keeps (run (Due k) ts)) e (f xs tt (sym h))
keeps-from (Have a k) xs ys ts h f e = subst (Keeps (run (Have a k) ts)) e (f xs tt (sym h))
keeps-from (HalfAnd a k) xs ys ts h f e = subst (Keeps (run (HalfAnd a k) ts)) e (f xs tt (sym h))
keeps-from (HalfOr a k) xs ys ts h f e = subst (Keeps (run (HalfOr a k) ts)) e (f xs tt (sym h))
keeps-from (Done a) xs ys ts h f e = over-keeps (run (Done a) ts) ys (over_run ts (Done a) tt)
keeps-from Stop xs ys ts h f e = over-keeps (run Stop ts) ys (over_run ts Stop tt)

run-keeps : (ts : List Kind) (s : ExpressionState) (zs : List Kind) → IsGoing s → zs ≡ spelled s → Keeps (run s ts) (zs ++ ts)
run-keeps [] (Due k) zs g e = sym e ∙ sym (append-nil zs)
run-keeps [] (Have a k) zs g e = sym e ∙ sym (append-nil zs)
run-keeps [] (HalfAnd a k) zs g e = sym e ∙ sym (append-nil zs)
run-keeps [] (HalfOr a k) zs g e = sym e ∙ sym (append-nil zs)
run-keeps [] (Done a) zs g e = tt
run-keeps [] Stop zs g e = tt
run-keeps (t ∷ ts) s zs g e = keeps-from (step s t) (spelled s ++ t ∷ []) (zs ++ t ∷ ts) ts (step-keeps s t) (λ ys h d. run-keeps ts (step s t) ys h d)
    (append_assoc (spelled s) (t ∷ []) ts ∙ ap (λ x. x ++ t ∷ ts) (sym e))

going_spelled : (s : ExpressionState) (ts : List Kind) → IsGoing s → Keeps s ts → spelled s ≡ ts
going_spelled (Due k) ts g h = h
going_spelled (Have a k) ts g h = h
going_spelled (HalfAnd a k) ts g h = h
going_spelled (HalfOr e k) ts g h = h
going_spelled (Done e) ts g h = elim g [ ]
going_spelled Stop ts g h = elim g [ ]

-- Where the reading goes on, some expression begins with the tokens: these and the stated completion.
pub begins : (ts : List Kind) → IsGoing (run (start_expr no_parens) ts) → (e : Expr) × (expr_kinds e ≡ ts ++ completion (run (start_expr no_parens) ts))
begins ts g =
    let s : ExpressionState = run (start_expr no_parens) ts in
    let taken : spelled s ≡ ts = going_spelled s ts g (run-keeps ts (start_expr no_parens) [] tt refl) in
    (completed s, completes s g ∙ ap (λ x. x ++ completion s) taken)

run-append : (ts us : List Kind) (s : ExpressionState) → run s (ts ++ us) ≡ run (run s ts) us
run-append [] us s = refl
run-append (t ∷ ts) us s = run-append ts us (step s t)

-- Where it is over, no expression begins with them.
pub begins_not : (ts rest : List Kind) (e : Expr) → IsOver (run (start_expr no_parens) ts) → expr_kinds e ≡ ts ++ rest → ⊥
begins_not ts rest e h d =
    let whole : run (start_expr no_parens) (ts ++ rest) ≡ leave_expr e no_parens =
    ap (run (start_expr no_parens)) (sym d) ∙ run-whole e in
    subst IsOver (sym (run-append ts rest (start_expr no_parens)) ∙ whole ∙ (has-expr e no_parens).2) (over_run rest (run (start_expr no_parens) ts) h)

-- A whole expression is found at its end, and only a comparison stops the machine there.
use Rattle.std.proofs.Common.{◌≡◌, ℕ, Bool, true, false, ◌≤◌, ◌<◌, ◌+◌, ◌^◌, List, [], ◌∷◌, ◌++◌, map, length, nat_lt, refl, ap, ◌∙◌, sym, subst, arith, lt-ltb, if◌then◌else◌}
use Rattle.lsys_syntax.specs.Tokens.{Kind, Number, BigNumber, Equal, Unequal, AtMost, AtLeast, RightParen, Plus, Minus, Times, Slash, Percent, Ampersand, Bar, Caret, Less, Greater}
use Rattle.lsys_syntax.specs.Expressions.{multiply, divide, remainder, add, subtract, RelOp, equal, unequal, less, at_most, greater, at_least, Expr, Unary, negated, inverted, only_atom, raised, Atom, expr_kinds, IsExpr}
use Rattle.lsys_syntax.specs.ExpressionMachine.{InUnary, negating, inverting, raising, in_term, InTerm, Around, no_parens, in_parens, ExpressionState, Due, Have, HalfAnd, HalfOr, Done, Stop, closing, other, half_or, ends_expr, half_and, ends_and, comparing, rel_step, ends_rel, more_sum, ends_sum, AfterUnary, more_term, ends_term, expr_step, what_follows, closed, after_unary, after_operand, after_atom, start_expr, step, run, end_step}
use Rattle.lsys_syntax.specs.ExpressionPlaces.{CantGoOn, Extent, ends, too_deep, at_end, extent_after, extent_from, extent}
use Rattle.lsys_syntax.specs.Nesting.{expr_nesting, depth, StaysWithin}
use Rattle.lsys_syntax.specs.RuleMachine.{small}
use Rattle.lsys_syntax.proofs.Complete.{leave_expr, Has, has-expr, run-whole, end-whole, other-ends, paren-ends}
use Rattle.lsys_syntax.proofs.Sound.{IsGoing, goes-before}
use Rattle.lsys_syntax.proofs.Depths.{expr-within}
use Rattle.lsys_syntax.proofs.ExprLeads.{expr-small, smalls}
use Rattle.lsys_syntax.proofs.Places.{is_deep}

-- the state after some tokens
abbrev pub runs : ExpressionState → List Kind → ExpressionState
runs s ks = run s (map small ks)

-- The tokens are taken, no deeper than b.
abbrev pub Goes : ℕ → ExpressionState → List Kind → Type 0
Goes b s ks = StaysWithin b s (map small ks) × IsGoing (runs s ks)

pub extent-going : (n : ℕ) (s t : ExpressionState) (x : Extent) → IsGoing t → extent_after n s t x ≡ (if nat_lt 32 (depth t) then too_deep n else x)
extent-going n s (Due k) x h = refl
extent-going n s (Have a k) x h = refl
extent-going n s (HalfAnd a k) x h = refl
extent-going n s (HalfOr e k) x h = refl
extent-going n s (Done e) x h = elim h [ ]
extent-going n s Stop x h = elim h [ ]

pub within-rest : (n : ℕ) (x : Extent) (s t : ExpressionState) → depth t ≤ 32 → IsGoing t → extent_after n s t x ≡ x
within-rest n x s t d g = extent-going n s t x g ∙ ap (λ c. if c then too_deep n else x) (shallow (depth t) (nat_lt 32 (depth t)) refl d)
  where
    shallow : (m : ℕ) (c : Bool) → nat_lt 32 m ≡ c → m ≤ 32 → c ≡ false
    shallow m false q h = refl
    shallow m true q h = let more : 32 < m = is_deep 32 m q in absurd (omega (arith, more, h))

pub after-deep : (n : ℕ) (x : Extent) (s t : ExpressionState) → 32 < depth t → IsGoing t → extent_after n s t x ≡ too_deep n
after-deep n x s t d g = extent-going n s t x g ∙ ap (λ c. if c then too_deep n else x) (lt-ltb 32 (depth t) d)

-- Tokens that are taken are passed over.
through : (ks rest : List Kind) (n m : ℕ) (s : ExpressionState) → Goes 32 s ks → m ≡ n + length ks → extent_from n s (ks ++ rest) ≡ extent_from m (runs s ks) rest
through [] rest n m s g e = let same : n ≡ m = omega (arith, e) in ap (λ i. extent_from i s rest) same
through (k ∷ ks) rest n m s g e =
    within-rest n (extent_from (n + 1) (step s (small k)) (ks ++ rest)) s (step s (small k)) g.0.0 (goes-before (map small ks) (step s (small k)) g.1)
    ∙ through ks rest (n + 1) m (step s (small k)) (g.0.1, g.1) (omega (arith, e))

number-follows : (n : ℕ) (c : Bool) → what_follows (if c then Number n else BigNumber) ≡ expr_step other
number-follows n true = refl
number-follows n false = refl

small-follows : (k : Kind) → what_follows k ≡ expr_step other → what_follows (small k) ≡ expr_step other
small-follows (Number n) h = number-follows n (nat_lt n (2 ^ 63))
small-follows k h = h

ends-here : (n : ℕ) (e : Expr) (s : ExpressionState) (k : Kind) (ks : List Kind) → step s (small k) ≡ Done e → extent_from n s (k ∷ ks) ≡ ends n e
ends-here n e s k ks q = ap (λ t. extent_after n s t (extent_from (n + 1) (step s (small k)) ks)) q

whole-ends : (e : Expr) (n : ℕ) (rest : List Kind) → CantGoOn rest → extent_from n (leave_expr e no_parens) rest ≡ ends n e
whole-ends e n [] h = ap (at_end n) (end-whole e)
whole-ends e n (RightParen ∷ ks) h = ends-here n e (leave_expr e no_parens) RightParen ks (paren-ends e)
whole-ends e n (k ∷ ks) h = ends-here n e (leave_expr e no_parens) k ks (other-ends (small k) (small-follows k h) e)

-- Each expression before a token that can't go on with it is found.
pub whole-found : (e : Expr) (rest : List Kind) → IsExpr e → expr_nesting e ≤ 32 → CantGoOn rest → extent (expr_kinds e ++ rest) ≡ ends (length (expr_kinds e)) e
whole-found e rest g n h =
    let ks : List Kind = expr_kinds e in
    let same : map small ks ≡ ks = smalls ks (expr-small e g) in
    let last : runs (start_expr no_parens) ks ≡ leave_expr e no_parens = ap (run (start_expr no_parens)) same ∙ run-whole e in
    let a : Has (leave_expr e no_parens) = has-expr e no_parens in
    let goes : Goes 32 (start_expr no_parens) ks =
    (subst (StaysWithin 32 (start_expr no_parens)) (sym same) (expr-within e 32 no_parens (omega (arith, n))), subst IsGoing (sym (last ∙ a.2)) tt) in
    through ks rest 0 (length ks) (start_expr no_parens) goes (omega arith)
    ∙ ap (λ s. extent_from (length ks) s rest) last
    ∙ whole-ends e (length ks) rest h

-- Where the machine stops after a whole expression, the token is a comparison.
abbrev MayStop : AfterUnary → Type 0
MayStop (ends_term (ends_sum (comparing op))) = Unit {0}
MayStop (ends_term (ends_sum (ends_rel (ends_and (ends_expr other))))) = Unit {0}
MayStop f = ⊥

closed-stops : (x : Expr) (k : Around) → closed x k ≡ Stop → ⊥
closed-stops x no_parens q = cc
closed-stops x (in_parens k) q = cc

unary-stops : (f : AfterUnary) (u : Unary) (k : InTerm) → after_unary f u k ≡ Stop → MayStop f
unary-stops (more_term op) u k q = cc
unary-stops (ends_term (more_sum op)) u k q = cc
unary-stops (ends_term (ends_sum (comparing op))) u k q = tt
unary-stops (ends_term (ends_sum (ends_rel half_and))) u k q = cc
unary-stops (ends_term (ends_sum (ends_rel (ends_and half_or)))) u k q = cc
unary-stops (ends_term (ends_sum (ends_rel (ends_and (ends_expr closing))))) u k q = absurd (closed-stops _ _ q)
unary-stops (ends_term (ends_sum (ends_rel (ends_and (ends_expr other))))) u k q = tt

operand-stops : (f : AfterUnary) (u : Unary) (k : InUnary) → after_operand f u k ≡ Stop → MayStop f
operand-stops f u (negating k) q = operand-stops f (negated u) k q
operand-stops f u (inverting k) q = operand-stops f (inverted u) k q
operand-stops f u (raising a k) q = operand-stops f (raised a u) k q
operand-stops f u (in_term k) q = unary-stops f u k q

pub done-or-stop : (s : ExpressionState) (e : Expr) → s ≡ Done e → s ≡ Stop → ⊥
done-or-stop s e p q = cc

-- The token is a comparison.
abbrev pub IsComparison : Kind → Type 0
IsComparison k = (op : RelOp) × (what_follows k ≡ rel_step (comparing op))

other-stops : (k : Kind) (a : Atom) (u : InUnary) (e : Expr) → what_follows (small k) ≡ expr_step other → step (Have a u) (small k) ≡ Stop → end_step (Have a u) ≡ Done e → ⊥
other-stops k a u e f q h = done-or-stop (end_step (Have a u)) e h (sym (ap (λ x. after_atom x a u) f) ∙ q)

have-compares : (k : Kind) (a : Atom) (u : InUnary) (e : Expr) → step (Have a u) (small k) ≡ Stop → end_step (Have a u) ≡ Done e → IsComparison k
have-compares Equal a u e q h = (equal, refl)
have-compares Unequal a u e q h = (unequal, refl)
have-compares Less a u e q h = (less, refl)
have-compares AtMost a u e q h = (at_most, refl)
have-compares Greater a u e q h = (greater, refl)
have-compares AtLeast a u e q h = (at_least, refl)
have-compares Caret a u e q h = cc
have-compares Times a u e q h = absurd (operand-stops (more_term multiply) (only_atom a) u q)
have-compares Slash a u e q h = absurd (operand-stops (more_term divide) (only_atom a) u q)
have-compares Percent a u e q h = absurd (operand-stops (more_term remainder) (only_atom a) u q)
have-compares Plus a u e q h = absurd (operand-stops (ends_term (more_sum add)) (only_atom a) u q)
have-compares Minus a u e q h = absurd (operand-stops (ends_term (more_sum subtract)) (only_atom a) u q)
have-compares Ampersand a u e q h = absurd (operand-stops (ends_term (ends_sum (ends_rel half_and))) (only_atom a) u q)
have-compares Bar a u e q h = absurd (operand-stops (ends_term (ends_sum (ends_rel (ends_and half_or)))) (only_atom a) u q)
have-compares RightParen a u e q h = absurd (operand-stops (ends_term (ends_sum (ends_rel (ends_and (ends_expr closing))))) (only_atom a) u q)
have-compares k a u e q h = absurd (other-stops k a u e (small-follows k refl) q h)

-- A token at which the machine stops after a whole expression is a comparison.
pub stop-compares : (s : ExpressionState) (k : Kind) (e : Expr) → step s (small k) ≡ Stop → end_step s ≡ Done e → IsComparison k
stop-compares (Due u) k e q h = cc
stop-compares (Have a u) k e q h = have-compares k a u e q h
stop-compares (HalfAnd a u) k e q h = cc
stop-compares (HalfOr x u) k e q h = cc
stop-compares (Done x) k e q h = cc
stop-compares Stop k e q h = cc

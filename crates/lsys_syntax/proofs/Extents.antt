-- How far tokens are an expression: the place that is found, and both sides of it.
use Rattle.std.proofs.Common.{◌≡◌, ◌⊎◌, inl, inr, ℕ, zero, suc, Bool, true, false, ◌≤◌, ◌<◌, ◌+◌, max, Some, List, [], ◌∷◌, ◌++◌, map, take, drop, length, nat_lt, refl, ap, ◌∙◌, sym, subst, append_assoc, append-nil, arith, if◌then◌else◌}
use Rattle.lsys_syntax.specs.Tokens.{Kind, Number, Name, Arrow, LeftParen, Bang, Minus, Ampersand, Bar}
use Rattle.lsys_syntax.specs.Expressions.{RelOp, Expr, And, Sum, Unary, negated, inverted, only_atom, raised, Atom, expr_kinds, IsExpr}
use Rattle.lsys_syntax.specs.ExpressionMachine.{InUnary, negating, inverting, raising, in_term, InTerm, InRel, first_sum, second_sum, InExpr, Around, no_parens, in_parens, ExpressionState, Due, Have, HalfAnd, HalfOr, Done, Stop, closing, other, half_or, ends_expr, half_and, ends_and, comparing, ends_rel, more_sum, ends_sum, AfterUnary, more_term, ends_term, what_follows, compared, closed, ended, AfterAtom, powering, ends_unary, after_unary, after_operand, after_atom, due_step, half_and_step, half_or_step, start_expr, step, run, end_step, finished}
use Rattle.lsys_syntax.specs.ExpressionPlaces.{BeginsExpression, IsAnyExpression, BeginsAnyExpression, read_expr, Extent, ends, stops, too_deep, at_end, extent_after, extent_from, extent}
use Rattle.lsys_syntax.specs.Completions.{spelled, completion, completed}
use Rattle.lsys_syntax.specs.Nesting.{expr_nesting, depth, StaysWithin}
use Rattle.lsys_syntax.specs.RuleMachine.{small}
use Rattle.lsys_syntax.specs.Sentences.{IsToken, AreTokens}
use Rattle.lsys_syntax.proofs.Complete.{leave_expr, run-whole, end-whole}
use Rattle.lsys_syntax.proofs.Sound.{IsGoing, IsOver, goes-before, other-over, completes, begins_not}
use Rattle.lsys_syntax.proofs.Fits.{Fits, completed-nesting}
use Rattle.lsys_syntax.proofs.Depths.{begins-within}
use Rattle.lsys_syntax.proofs.ExprSound.{Good, IsOperand, IsNamed, After, step-after, completed-good, small-operand, small-taken}
use Rattle.lsys_syntax.proofs.ExprLeads.{front-small}
use Rattle.lsys_syntax.proofs.LineSound.{not_deep}
use Rattle.lsys_syntax.proofs.Places.{tokens-front, is_deep}
use Rattle.lsys_syntax.proofs.WholeExpressions.{runs, Goes, extent-going, done-or-stop}

-- With the first of these tokens, if there is one, the state doesn't go on.
abbrev OverNext : ExpressionState → List Kind → Type 0
OverNext r [] = Unit {0}
OverNext r (k ∷ ks) = IsOver (step r (small k))

-- What follows at a place: the end of the expression, or why it doesn't go on.
abbrev Here : Extent → ℕ → ExpressionState → List Kind → Type 0
Here (ends d e) m r ks = (d ≡ m) × (end_step r ≡ Done e) × OverNext r ks
Here (stops d) m r ks = (d ≡ m) × (end_step r ≡ Stop) × OverNext r ks
Here (too_deep d) m r [] = ⊥
Here (too_deep d) m r (k ∷ ks) = (d ≡ m) × IsGoing (step r (small k)) × (32 < depth (step r (small k)))

-- Where a token ends an expression, so does the end of the tokens.
abbrev over_operand : AfterUnary
over_operand = ends_term (ends_sum (ends_rel (ends_and (ends_expr other))))

compared-done : (op : RelOp) (s : Sum) (k : InRel) (e : Expr) → compared op s k ≡ Done e → ⊥
compared-done op s (first_sum k) e q = cc
compared-done op s (second_sum l o k) e q = cc

closed-done : (x : Expr) (k : Around) (e : Expr) → closed x k ≡ Done e → ended x k ≡ Done e
closed-done x no_parens e q = q
closed-done x (in_parens k) e q = cc

unary-done : (f : AfterUnary) (u : Unary) (k : InTerm) (e : Expr) → after_unary f u k ≡ Done e → after_unary over_operand u k ≡ Done e
unary-done (more_term op) u k e q = cc
unary-done (ends_term (more_sum op)) u k e q = cc
unary-done (ends_term (ends_sum (comparing op))) u k e q = absurd (compared-done op _ _ e q)
unary-done (ends_term (ends_sum (ends_rel half_and))) u k e q = cc
unary-done (ends_term (ends_sum (ends_rel (ends_and half_or)))) u k e q = cc
unary-done (ends_term (ends_sum (ends_rel (ends_and (ends_expr closing))))) u k e q = closed-done _ _ e q
unary-done (ends_term (ends_sum (ends_rel (ends_and (ends_expr other))))) u k e q = q

operand-done : (f : AfterUnary) (u : Unary) (k : InUnary) (e : Expr) → after_operand f u k ≡ Done e → after_operand over_operand u k ≡ Done e
operand-done f u (negating k) e q = operand-done f (negated u) k e q
operand-done f u (inverting k) e q = operand-done f (inverted u) k e q
operand-done f u (raising a k) e q = operand-done f (raised a u) k e q
operand-done f u (in_term k) e q = unary-done f u k e q

atom-done : (f : AfterAtom) (a : Atom) (k : InUnary) (e : Expr) → after_atom f a k ≡ Done e → after_operand over_operand (only_atom a) k ≡ Done e
atom-done powering a k e q = cc
atom-done (ends_unary f) a k e q = operand-done f (only_atom a) k e q

due-done : (t : Kind) (k : InUnary) (e : Expr) → due_step t k ≡ Done e → ⊥
due-done (Number n) k e q = cc
due-done (Name n) k e q = cc
due-done LeftParen k e q = cc
due-done Minus k e q = cc
due-done Bang k e q = cc
due-done t k e q = cc

half_and-done : (t : Kind) (a : And) (k : InExpr) (e : Expr) → half_and_step t a k ≡ Done e → ⊥
half_and-done Ampersand a k e q = cc
half_and-done t a k e q = cc

half_or-done : (t : Kind) (x : Expr) (k : Around) (e : Expr) → half_or_step t x k ≡ Done e → ⊥
half_or-done Bar x k e q = cc
half_or-done t x k e q = cc

pub step-done : (s : ExpressionState) (t : Kind) (e : Expr) → step s t ≡ Done e → end_step s ≡ Done e
step-done (Due k) t e q = absurd (due-done t k e q)
step-done (Have a k) t e q = atom-done (what_follows t) a k e q
step-done (HalfAnd a k) t e q = absurd (half_and-done t a k e q)
step-done (HalfOr x k) t e q = absurd (half_or-done t x k e q)
step-done (Done x) t e q = cc
step-done Stop t e q = cc

-- The j tokens before place m are taken, of which n come before these.
abbrev Reached : Extent → ExpressionState → List Kind → ℕ → Type 0
Reached x s ks n = (j : ℕ) × (m : ℕ) × (m ≡ n + j) × (j ≤ length ks) × Goes 32 s (take j ks) × Here x m (runs s (take j ks)) (drop j ks)

-- nothing goes on
reached-end : (ks : List Kind) (n : ℕ) (s s' : ExpressionState) → IsGoing s → IsOver s' → end_step s ≡ s' → OverNext s ks → Reached (at_end n s') s ks n
reached-end ks n s (Done e) g h q o = (0, n, omega arith, omega arith, (tt, g), (refl, q, o))
reached-end ks n s Stop g h q o = (0, n, omega arith, omega arith, (tt, g), (refl, q, o))
reached-end ks n s s' g h q o = elim h [ ]

end-over : (s : ExpressionState) → IsOver (end_step s)
end-over (Have a k) = other-over (only_atom a) k
end-over s = tt

reached-later : (k : Kind) (ks : List Kind) (n : ℕ) (s : ExpressionState) (x : Extent) → depth (step s (small k)) ≤ 32 → Reached x (step s (small k)) ks (n + 1) → Reached x s (k ∷ ks) n
reached-later k ks n s x d r = (suc r.0, r.1, omega (arith, r.2), omega (arith, r.3), ((d, r.4.0), r.4.1), r.5)

reached-going : (k : Kind) (ks : List Kind) (n : ℕ) (s : ExpressionState) (x : Extent) (c : Bool) → nat_lt 32 (depth (step s (small k))) ≡ c → IsGoing s → IsGoing (step s (small k))
    → (IsGoing (step s (small k)) → Reached x (step s (small k)) ks (n + 1)) → Reached (if c then too_deep n else x) s (k ∷ ks) n
reached-going k ks n s x true e g h f = (0, n, omega arith, omega arith, (tt, g), (refl, h, is_deep 32 (depth (step s (small k))) e))
reached-going k ks n s x false e g h f = reached-later k ks n s x (not_deep 32 (depth (step s (small k))) e) (f h)

-- how a state stands: done, stopped or going on
abbrev Kinds : ExpressionState → Type 0
Kinds s = ((e : Expr) × (s ≡ Done e)) ⊎ ((s ≡ Stop) ⊎ IsGoing s)

kinds : (s : ExpressionState) → Kinds s
kinds (Due k) = inr (inr tt)
kinds (Have a k) = inr (inr tt)
kinds (HalfAnd a k) = inr (inr tt)
kinds (HalfOr e k) = inr (inr tt)
kinds (Done e) = inl (e, refl)
kinds Stop = inr (inl refl)

reached-next : (k : Kind) (ks : List Kind) (n : ℕ) (s : ExpressionState) (x : Extent) → IsGoing s → Kinds (step s (small k))
    → (IsGoing (step s (small k)) → Reached x (step s (small k)) ks (n + 1)) → Reached (extent_after n s (step s (small k)) x) s (k ∷ ks) n
reached-next k ks n s x g (inl h) f = subst (λ y. Reached (extent_after n s y x) s (k ∷ ks) n) (sym h.1)
    (0, n, omega arith, omega arith, (tt, g), (refl, step-done s (small k) h.0 h.1, subst IsOver (sym h.1) tt))
reached-next k ks n s x g (inr (inl h)) f = subst (λ y. Reached (extent_after n s y x) s (k ∷ ks) n) (sym h)
    (reached-end (k ∷ ks) n s (end_step s) g (end-over s) refl (subst IsOver (sym h) tt))
reached-next k ks n s x g (inr (inr h)) f = subst (λ y. Reached y s (k ∷ ks) n) (sym (extent-going n s (step s (small k)) x h))
    (reached-going k ks n s x (nat_lt 32 (depth (step s (small k)))) refl g h f)

reached-from : (ks : List Kind) (n : ℕ) (s : ExpressionState) → IsGoing s → Reached (extent_from n s ks) s ks n
reached-from [] n s g = reached-end [] n s (end_step s) g (end-over s) refl tt
reached-from (k ∷ ks) n s g = reached-next k ks n s (extent_from (n + 1) (step s (small k)) ks) g (kinds (step s (small k))) (λ h. reached-from ks (n + 1) (step s (small k)) h)

-- The place of an extent, in the tokens from 0.
abbrev At : Extent → List Kind → ℕ → Type 0
At x ks d = (d ≤ length ks) × Goes 32 (start_expr no_parens) (take d ks) × Here x d (runs (start_expr no_parens) (take d ks)) (drop d ks)

here-same : (x : Extent) (ks : List Kind) (m j : ℕ) (r : ExpressionState) → m ≡ 0 + j → Here x m r ks → Here x j r ks
here-same x ks m j r e h = let same : m ≡ j = omega (arith, e) in subst (λ i. Here x i r ks) same h

found : (ks : List Kind) (x : Extent) → extent ks ≡ x → (j : ℕ) × At x ks j
found ks x e =
    let r : Reached x (start_expr no_parens) ks 0 = subst (λ y. Reached y (start_expr no_parens) ks 0) e (reached-from ks 0 (start_expr no_parens) tt) in
    (r.0, (r.3, r.4, here-same x (drop r.0 ks) r.1 r.0 (runs (start_expr no_parens) (take r.0 ks)) r.2 r.5))

-- what the tokens have made of a state
abbrev Taken : ℕ → ExpressionState → List Kind → Type 0
Taken b r ts = (spelled r ≡ ts) × Good r × Fits b r

after-going : (b : ℕ) (s : ExpressionState) (ts : List Kind) (t : Kind) → IsGoing s → After b s ts t → (spelled s ≡ ts ++ t ∷ []) × Good s × Fits b s
after-going b (Due k) ts t g h = h
after-going b (Have a k) ts t g h = h
after-going b (HalfAnd a k) ts t g h = h
after-going b (HalfOr e k) ts t g h = h
after-going b (Done e) ts t g h = elim g [ ]
after-going b Stop ts t g h = elim g [ ]

token-named : (k : Kind) → IsToken k → IsNamed k
token-named (Name n) h = h
token-named k h = tt

taken : (b : ℕ) (ks : List Kind) (s : ExpressionState) (ts : List Kind) → Good s → Fits b s → spelled s ≡ ts → AreTokens ks → Goes b s ks → Taken b (runs s ks) (ts ++ ks)
taken b [] s ts i f e g h = (e ∙ sym (append-nil ts), i, f)
taken b (k ∷ ks) s ts i f e g h =
    let goes : IsGoing (step s (small k)) = goes-before (map small ks) (step s (small k)) h.1 in
    let a : (spelled (step s (small k)) ≡ spelled s ++ small k ∷ []) × Good (step s (small k)) × Fits b (step s (small k)) =
    after-going b (step s (small k)) (spelled s) (small k) goes (step-after b s (small k) (small-operand k (token-named k g.0)) f i h.0.0) in
    let one : spelled (step s (small k)) ≡ ts ++ k ∷ [] = a.0 ∙ ap (λ t. spelled s ++ t ∷ []) (small-taken s k goes) ∙ ap (λ us. us ++ k ∷ []) e in
    subst (Taken b (runs (step s (small k)) ks)) (append_assoc ts (k ∷ []) ks)
    (taken b ks (step s (small k)) (ts ++ k ∷ []) a.1 a.2 one g.1 (h.0.1, h.1))

taken-all : (b : ℕ) (ks : List Kind) → AreTokens ks → Goes b (start_expr no_parens) ks → Taken b (runs (start_expr no_parens) ks) ks
taken-all b ks g h = taken b ks (start_expr no_parens) [] tt (omega arith, tt) refl g h

-- Some expression begins with tokens that are taken.
taken-begins : (b : ℕ) (ks : List Kind) → AreTokens ks → Goes b (start_expr no_parens) ks → BeginsExpression b ks
taken-begins b ks g h =
    let r : ExpressionState = runs (start_expr no_parens) ks in
    let t : Taken b r ks = taken-all b ks g h in
    (completion r, (completed r, completes r h.1 ∙ ap (λ us. us ++ completion r) t.0, completed-good r h.1 t.1, completed-nesting b r h.1 t.2))

-- the deepest of the states on the way
abbrev deepest : ExpressionState → List Kind → ℕ
deepest s [] = 0
deepest s (t ∷ ts) = max (depth (step s t)) (deepest (step s t) ts)

deepest-within : (b : ℕ) (ts : List Kind) (s : ExpressionState) → deepest s ts ≤ b → StaysWithin b s ts
deepest-within b [] s h = tt
deepest-within b (t ∷ ts) s h = (omega (arith, h), deepest-within b ts (step s t) (omega (arith, h)))

taken-begins-any : (ks : List Kind) → AreTokens ks → IsGoing (runs (start_expr no_parens) ks) → BeginsAnyExpression ks
taken-begins-any ks g h =
    let b : ℕ = deepest (start_expr no_parens) (map small ks) in
    (b, taken-begins b ks g (deepest-within b (map small ks) (start_expr no_parens) (omega arith), h))

-- No expression begins with tokens after which it is over.
over-none : (ks : List Kind) → IsOver (runs (start_expr no_parens) ks) → BeginsAnyExpression ks → ⊥
over-none ks h g =
    let e : Expr = g.1.1.0 in
    begins_not ks g.1.0 e (subst (λ ts. IsOver (run (start_expr no_parens) ts)) (front-small ks g.1.0 e g.1.1.2 g.1.1.1) h) g.1.1.1

next-run : (ks : List Kind) (j : ℕ) (s : ExpressionState) (k : Kind) (js : List Kind) → drop j ks ≡ k ∷ js → runs s (take (suc j) ks) ≡ step (runs s (take j ks)) (small k)
next-run [] zero s k js e = cc
next-run [] (suc j) s k js e = cc
next-run (k' ∷ ks) zero s k js e = let same : k' ≡ k = cc in ap (λ t. step s (small t)) same
next-run (k' ∷ ks) (suc j) s k js e = next-run ks j (step s (small k')) k js e

drop-short : (ks : List Kind) (j : ℕ) → j < length ks → (k : Kind) × (js : List Kind) × (drop j ks ≡ k ∷ js)
drop-short [] j h = absurd (omega (arith, h))
drop-short (k ∷ ks) zero h = (k, ks, refl)
drop-short (k ∷ ks) (suc j) h = drop-short ks j (omega (arith, h))

drop-long : (ks : List Kind) (j : ℕ) (k : Kind) (js : List Kind) → drop j ks ≡ k ∷ js → j < length ks
drop-long [] zero k js e = cc
drop-long [] (suc j) k js e = cc
drop-long (k' ∷ ks) zero k js e = omega arith
drop-long (k' ∷ ks) (suc j) k js e = let h : j < length ks = drop-long ks j k js e in omega (arith, h)

-- The state before the place of an end, and a token that ends it.
abbrev Ending : ExpressionState → Expr → Type 0
Ending r e = (t : Kind) × IsOperand t × (step r t ≡ Done e)

end-as-step : (s : ExpressionState) → end_step s ≡ step s Arrow
end-as-step (Due k) = refl
end-as-step (Have a k) = refl
end-as-step (HalfAnd a k) = refl
end-as-step (HalfOr e k) = refl
end-as-step (Done e) = refl
end-as-step Stop = refl

ending : (r : ExpressionState) (e : Expr) → end_step r ≡ Done e → Ending r e
ending r e h = (Arrow, tt, sym (end-as-step r) ∙ h)

here-over : (x : Extent) (j : ℕ) (r : ExpressionState) (k : Kind) (js : List Kind) → Here x j r (k ∷ js) → ((d : ℕ) → x ≡ too_deep d → ⊥) → IsOver (step r (small k))
here-over (ends d e) j r k js h never = h.2
here-over (stops d) j r k js h never = h.2
here-over (too_deep d) j r k js h never = absurd (never d refl)

-- the place that it names
abbrev here-place : Extent → ℕ
here-place (ends d e) = d
here-place (stops d) = d
here-place (too_deep d) = d

here-is : (x : Extent) (j : ℕ) (r : ExpressionState) (ks : List Kind) → Here x j r ks → here-place x ≡ j
here-is (ends d e) j r ks h = h.0
here-is (stops d) j r ks h = h.0
here-is (too_deep d) j r [] h = elim h [ ]
here-is (too_deep d) j r (k ∷ ks) h = h.0

at : (ks : List Kind) (x : Extent) → extent ks ≡ x → At x ks (here-place x)
at ks x e =
    let f : (j : ℕ) × At x ks j = found ks x e in
    subst (At x ks) (sym (here-is x f.0 (runs (start_expr no_parens) (take f.0 ks)) (drop f.0 ks) f.1.2)) f.1

at-over : (ks : List Kind) (x : Extent) (d : ℕ) → At x ks d → ((i : ℕ) → x ≡ too_deep i → ⊥) → d < length ks → BeginsAnyExpression (take (suc d) ks) → ⊥
at-over ks x d a never h g =
    let m : (k : Kind) × (js : List Kind) × (drop d ks ≡ k ∷ js) = drop-short ks d h in
    let r : ExpressionState = runs (start_expr no_parens) (take d ks) in
    let over : IsOver (step r (small m.0)) = here-over x d r m.0 m.1 (subst (Here x d r) m.2 a.2) never in
    over-none (take (suc d) ks) (subst IsOver (sym (next-run ks d (start_expr no_parens) m.0 m.1 m.2)) over) g

-- Where it ends, the tokens before the place are the expression,
pub ends-whole : (ks : List Kind) (d : ℕ) (e : Expr) → AreTokens ks → extent ks ≡ ends d e → (d ≤ length ks) × (expr_kinds e ≡ take d ks) × IsExpr e × (expr_nesting e ≤ 32)
ends-whole ks d e g q =
    let a : At (ends d e) ks d = at ks (ends d e) q in
    let r : ExpressionState = runs (start_expr no_parens) (take d ks) in
    let t : Taken 32 r (take d ks) = taken-all 32 (take d ks) (tokens-front d ks g) a.1 in
    let n : Ending r e = ending r e a.2.1 in
    let w : After 32 (Done e) (spelled r) n.0 = subst (λ s. After 32 s (spelled r) n.0) n.2 (step-after 32 r n.0 n.1 t.2 t.1 (subst (λ s. depth s ≤ 32) (sym n.2) (omega arith))) in
    (a.0, w.0 ∙ t.0, w.1, w.2)

-- and no longer one begins so.
pub ends-last : (ks : List Kind) (d : ℕ) (e : Expr) → extent ks ≡ ends d e → d < length ks → BeginsAnyExpression (take (suc d) ks) → ⊥
ends-last ks d e q = at-over ks (ends d e) d (at ks (ends d e) q) (λ i p. none i p)
  where
    none : (i : ℕ) → ends d e ≡ too_deep i → ⊥
    none i p = cc

-- Where it stops, an expression begins with the tokens before the place,
pub stop-begins : (ks : List Kind) (d : ℕ) → AreTokens ks → extent ks ≡ stops d → (d ≤ length ks) × BeginsExpression 32 (take d ks)
stop-begins ks d g q = let a : At (stops d) ks d = at ks (stops d) q in (a.0, taken-begins 32 (take d ks) (tokens-front d ks g) a.1)

-- and none goes on.
pub stop-last : (ks : List Kind) (d : ℕ) → extent ks ≡ stops d → d < length ks → BeginsAnyExpression (take (suc d) ks) → ⊥
stop-last ks d q = at-over ks (stops d) d (at ks (stops d) q) (λ i p. none i p)
  where
    none : (i : ℕ) → stops d ≡ too_deep i → ⊥
    none i p = cc

deep-so : (rest : List Kind) (j d : ℕ) (r : ExpressionState) → Here (too_deep d) j r rest → (k : Kind) × (js : List Kind) × (rest ≡ k ∷ js) × IsGoing (step r (small k)) × (32 < depth (step r (small k)))
deep-so [] j d r h = elim h [ ]
deep-so (k ∷ rest) j d r h = (k, rest, refl, h.1, h.2)

-- what the token at the place makes of the state, where it is too deep
abbrev Deeper : List Kind → ℕ → Type 0
Deeper ks d = (d < length ks) × IsGoing (runs (start_expr no_parens) (take (suc d) ks)) × (32 < depth (runs (start_expr no_parens) (take (suc d) ks)))

deeper : (ks : List Kind) (d : ℕ) → extent ks ≡ too_deep d → Deeper ks d
deeper ks d q =
    let a : At (too_deep d) ks d = at ks (too_deep d) q in
    let r : ExpressionState = runs (start_expr no_parens) (take d ks) in
    let m : (k : Kind) × (js : List Kind) × (drop d ks ≡ k ∷ js) × IsGoing (step r (small k)) × (32 < depth (step r (small k))) = deep-so (drop d ks) d d r a.2 in
    let same : runs (start_expr no_parens) (take (suc d) ks) ≡ step r (small m.0) = next-run ks d (start_expr no_parens) m.0 m.1 m.2 in
    (drop-long ks d m.0 m.1 m.2, subst IsGoing (sym same) m.3, subst (λ s. 32 < depth s) (sym same) m.4)

-- Where it is too deep, an expression begins with the tokens before the place,
pub deep-begins : (ks : List Kind) (d : ℕ) → AreTokens ks → extent ks ≡ too_deep d → (d < length ks) × BeginsExpression 32 (take d ks)
deep-begins ks d g q = ((deeper ks d q).0, taken-begins 32 (take d ks) (tokens-front d ks g) (at ks (too_deep d) q).1)

within-last : (b : ℕ) (ts : List Kind) (s : ExpressionState) → depth s ≤ b → StaysWithin b s ts → depth (run s ts) ≤ b
within-last b [] s d h = d
within-last b (t ∷ ts) s d h = within-last b ts (step s t) h.0 h.1

-- none within the bound goes on,
pub deep-none : (ks : List Kind) (d : ℕ) → extent ks ≡ too_deep d → BeginsExpression 32 (take (suc d) ks) → ⊥
deep-none ks d q g =
    let ts : List Kind = take (suc d) ks in
    let same : map small ts ≡ ts = front-small ts g.0 g.1.0 g.1.2 g.1.1 in
    let w : StaysWithin 32 (start_expr no_parens) ts = begins-within 32 ts g.0 g.1.0 g.1.3 g.1.1 in
    let last : depth (run (start_expr no_parens) (map small ts)) ≤ 32 = subst (λ us. depth (run (start_expr no_parens) us) ≤ 32) (sym same) (within-last 32 ts (start_expr no_parens) (omega arith) w) in
    let more : 32 < depth (run (start_expr no_parens) (map small ts)) = (deeper ks d q).2 in
    absurd (omega (arith, last, more))

-- and one of a greater nesting does.
pub deep-goes : (ks : List Kind) (d : ℕ) → AreTokens ks → extent ks ≡ too_deep d → BeginsAnyExpression (take (suc d) ks)
deep-goes ks d g q = taken-begins-any (take (suc d) ks) (tokens-front (suc d) ks g) (deeper ks d q).1

-- The tokens before the place of an end are read as the expression.
pub ends-read : (ks : List Kind) (d : ℕ) (e : Expr) → extent ks ≡ ends d e → read_expr (take d ks) ≡ Some e
ends-read ks d e q = ap finished (at ks (ends d e) q).2.1

-- The tokens before the place of a stop are no expression.
pub stop-whole : (ks : List Kind) (d : ℕ) → extent ks ≡ stops d → IsAnyExpression (take d ks) → ⊥
stop-whole ks d q g =
    let e : Expr = g.1.0 in
    let same : map small (take d ks) ≡ take d ks = front-small (take d ks) [] e g.1.2 (g.1.1 ∙ sym (append-nil (take d ks))) in
    let last : runs (start_expr no_parens) (take d ks) ≡ leave_expr e no_parens = ap (run (start_expr no_parens)) (same ∙ sym g.1.1) ∙ run-whole e in
    done-or-stop (end_step (leave_expr e no_parens)) e (end-whole e) (ap end_step (sym last) ∙ (at ks (stops d) q).2.1)

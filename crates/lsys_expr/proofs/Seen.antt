-- What the scan keeps, token by token.
use Rattle.std.proofs.Common.{◌≡◌, inl, inr, ◌+◌, true, false, List, [], ◌∷◌, drop, arith, sym, ap, ◌∙◌, subst, refl}
use Rattle.lsys_syntax.specs.Tokens.{Kind, Ampersand, Bar}
use Rattle.lsys_syntax.specs.Expressions.{RelOp, Expr, Sum, Unary, negated, inverted, only_atom, raised, Atom}
use Rattle.lsys_syntax.specs.ExpressionMachine as m
use Rattle.lsys_syntax.specs.ExpressionPlaces as places
use Rattle.lsys_syntax.specs.Nesting.{unary_depth, term_depth, sum_depth, rel_depth, and_depth, expr_depth, around_depth, depth}
use Rattle.lsys_syntax.proofs.Sound.{IsGoing}
use Rattle.lsys_expr.specs.declared.levels.OpenLevel.{OpenLevel}
use Rattle.lsys_expr.specs.declared.roles.Begin.TheVariants as begin
use Rattle.lsys_expr.specs.declared.roles.Follow.{Follow}
use Rattle.lsys_expr.specs.declared.roles.Follow.TheVariants as follow
use Rattle.lsys_expr.specs.declared.scan.Awaited.{Awaited}
use Rattle.lsys_expr.specs.declared.scan.Awaited.TheVariants.{Operand, Operator, SecondAnd, SecondOr}
use Rattle.lsys_expr.specs.Levels.{fresh, inner_nesting, outer_nesting, with_prefix, shallow, comparing, cleared, is_compared, is_inside}
use Rattle.lsys_expr.specs.Roles.{BeginsAs, FollowsAs}
use Rattle.lsys_expr.specs.Scanning.{prefixes, term_around, is_second, rel_around, parens_around, StandsAtLevel, AreOuter, IsSeen, EndsThere, StopsThere}

abbrev IsDone : m.ExpressionState → Type 0
IsDone s = (e : Expr) × (s ≡ m.Done e)

-- Where the machine stops or is done, by what the state before is at an end.
stops-there : (s t : m.ExpressionState) → t ≡ m.Stop → m.end_step s ≡ m.Stop → StopsThere s t
stops-there s t h e = λ n x. ap (λ u. places.extent_after n s u x) h ∙ ap (places.at_end n) e

stop-ends : (s t : m.ExpressionState) → t ≡ m.Stop → IsDone (m.end_step s) → EndsThere s t
stop-ends s t h e = (e.0, λ n x. ap (λ u. places.extent_after n s u x) h ∙ ap (places.at_end n) e.1)

done-ends : (s t : m.ExpressionState) → IsDone t → EndsThere s t
done-ends s t h = (h.0, λ n x. ap (λ u. places.extent_after n s u x) h.1)

pub open-seen : (ls : List OpenLevel) (s : m.ExpressionState) (t : Kind) → IsSeen Operand ls s → BeginsAs begin.Parenthesis t → IsSeen Operand (fresh ∷ ls) (m.step s t)
open-seen [] s t h b = elim h [ ]
open-seen (l ∷ ls) (m.Due k) t h b = subst (IsSeen Operand (fresh ∷ l ∷ ls)) (sym (b k)) ((refl, refl), h)
open-seen (l ∷ ls) s t h b = elim h [ ]

pub prefix-seen : (ls : List OpenLevel) (s : m.ExpressionState) (t : Kind) → IsSeen Operand ls s → BeginsAs begin.Prefix t → IsSeen Operand (with_prefix ls) (m.step s t)
prefix-seen [] s t h b = elim h [ ]
prefix-seen (l ∷ ls) (m.Due k) t h (inl e) = subst (λ x. IsSeen Operand (with_prefix (l ∷ ls)) (m.due_step x k)) (sym e) ((ap (λ n. n + 1) h.0.0, h.0.1), h.1)
prefix-seen (l ∷ ls) (m.Due k) t h (inr e) = subst (λ x. IsSeen Operand (with_prefix (l ∷ ls)) (m.due_step x k)) (sym e) ((ap (λ n. n + 1) h.0.0, h.0.1), h.1)
prefix-seen (l ∷ ls) s t h b = elim h [ ]

-- After an operand: its prefixes and powers end with it.
wrapped : Unary → m.InUnary → Unary
wrapped u (m.negating k) = wrapped (negated u) k
wrapped u (m.inverting k) = wrapped (inverted u) k
wrapped u (m.raising a k) = wrapped (raised a u) k
wrapped u (m.in_term k) = u

operand-wrapped : (f : m.AfterUnary) (u : Unary) (k : m.InUnary) → (w : Unary) × (m.after_operand f u k ≡ m.after_unary f w (term_around k))
operand-wrapped f u (m.negating k) = operand-wrapped f (negated u) k
operand-wrapped f u (m.inverting k) = operand-wrapped f (inverted u) k
operand-wrapped f u (m.raising a k) = operand-wrapped f (raised a u) k
operand-wrapped f u (m.in_term k) = (u, refl)

after : (t : Kind) (f : m.AfterUnary) (a : Atom) (k : m.InUnary) → m.what_follows t ≡ m.ends_unary f → (w : Unary) × (m.step (m.Have a k) t ≡ m.after_unary f w (term_around k))
after t f a k e = let w : (w : Unary) × (m.after_operand f (only_atom a) k ≡ m.after_unary f w (term_around k)) = operand-wrapped f (only_atom a) k in (w.0, ap (λ g. m.after_atom g a k) e ∙ w.1)

pub power-seen : (ls : List OpenLevel) (s : m.ExpressionState) (t : Kind) → IsSeen Operator ls s → FollowsAs follow.Power t → IsSeen Operand (with_prefix ls) (m.step s t)
power-seen [] s t h e = elim h [ ]
power-seen (l ∷ ls) (m.Have a k) t h e = subst (λ f. IsSeen Operand (with_prefix (l ∷ ls)) (m.after_atom f a k)) (sym e) ((ap (λ n. n + 1) h.0.0, h.0.1), h.1)
power-seen (l ∷ ls) s t h e = elim h [ ]

pub product-seen : (ls : List OpenLevel) (s : m.ExpressionState) (t : Kind) → IsSeen Operator ls s → FollowsAs follow.Product t → IsSeen Operand (shallow ls) (m.step s t)
product-seen [] s t h e = elim h [ ]
product-seen (l ∷ ls) (m.Have a k) t h e = subst (IsSeen Operand (shallow (l ∷ ls))) (sym (after t (m.more_term e.0) a k e.1).1) ((refl, h.0.1), h.1)
product-seen (l ∷ ls) s t h e = elim h [ ]

pub sum-seen : (ls : List OpenLevel) (s : m.ExpressionState) (t : Kind) → IsSeen Operator ls s → FollowsAs follow.Sum t → IsSeen Operand (shallow ls) (m.step s t)
sum-seen [] s t h e = elim h [ ]
sum-seen (l ∷ ls) (m.Have a k) t h e = subst (IsSeen Operand (shallow (l ∷ ls))) (sym (after t (m.ends_term (m.more_sum e.0)) a k e.1).1) ((refl, h.0.1), h.1)
sum-seen (l ∷ ls) s t h e = elim h [ ]

compared-first : (op : RelOp) (s : Sum) (r : m.InRel) → is_second r ≡ false → m.compared op s r ≡ m.Due (m.in_term (m.first_unary (m.first_term (m.second_sum s op (m.around_rel r)))))
compared-first op s (m.first_sum k) e = refl
compared-first op s (m.second_sum l o k) e = cc

compared-again : (op : RelOp) (s : Sum) (r : m.InRel) → is_second r ≡ true → m.compared op s r ≡ m.Stop
compared-again op s (m.first_sum k) e = cc
compared-again op s (m.second_sum l o k) e = refl

pub compare-seen : (ls : List OpenLevel) (s : m.ExpressionState) (t : Kind) → IsSeen Operator ls s → FollowsAs follow.Comparison t → is_compared ls ≡ false → IsSeen Operand (comparing ls) (m.step s t)
compare-seen [] s t h e c = elim h [ ]
compare-seen (l ∷ ls) (m.Have a k) t h e c =
    subst (IsSeen Operand (comparing (l ∷ ls)))
    (sym ((after t (m.ends_term (m.ends_sum (m.comparing e.0))) a k e.1).1 ∙ compared-first e.0 _ (rel_around k) (h.0.1 ∙ c)))
    ((refl, refl), h.1)
compare-seen (l ∷ ls) s t h e c = elim h [ ]

compare-again : (ls : List OpenLevel) (s : m.ExpressionState) (t : Kind) → IsSeen Operator ls s → FollowsAs follow.Comparison t → is_compared ls ≡ true → m.step s t ≡ m.Stop
compare-again [] s t h e c = elim h [ ]
compare-again (l ∷ ls) (m.Have a k) t h e c = (after t (m.ends_term (m.ends_sum (m.comparing e.0))) a k e.1).1 ∙ compared-again e.0 _ (rel_around k) (h.0.1 ∙ c)
compare-again (l ∷ ls) s t h e c = elim h [ ]

pub and-seen : (ls : List OpenLevel) (s : m.ExpressionState) (t : Kind) → IsSeen Operator ls s → FollowsAs follow.And t → IsSeen SecondAnd (cleared ls) (m.step s t)
and-seen [] s t h e = elim h [ ]
and-seen (l ∷ ls) (m.Have a k) t h e = subst (IsSeen SecondAnd (cleared (l ∷ ls))) (sym (after t (m.ends_term (m.ends_sum (m.ends_rel m.half_and))) a k e).1) (refl, h.1)
and-seen (l ∷ ls) s t h e = elim h [ ]

pub or-seen : (ls : List OpenLevel) (s : m.ExpressionState) (t : Kind) → IsSeen Operator ls s → FollowsAs follow.Or t → IsSeen SecondOr (cleared ls) (m.step s t)
or-seen [] s t h e = elim h [ ]
or-seen (l ∷ ls) (m.Have a k) t h e = subst (IsSeen SecondOr (cleared (l ∷ ls))) (sym (after t (m.ends_term (m.ends_sum (m.ends_rel (m.ends_and m.half_or)))) a k e).1) (refl, h.1)
or-seen (l ∷ ls) s t h e = elim h [ ]

closed-inside : (e : Expr) (k : m.Around) (l : OpenLevel) (ls : List OpenLevel) → AreOuter (l ∷ ls) k → IsSeen Operator (l ∷ ls) (m.closed e k)
closed-inside e m.no_parens l ls h = elim h [ ]
closed-inside e (m.in_parens k) l ls h = h

closed-outside : (e : Expr) (k : m.Around) → AreOuter [] k → m.closed e k ≡ m.Done e
closed-outside e m.no_parens h = refl
closed-outside e (m.in_parens k) h = elim h [ ]

ended-inside : (e : Expr) (k : m.Around) (l : OpenLevel) (ls : List OpenLevel) → AreOuter (l ∷ ls) k → m.ended e k ≡ m.Stop
ended-inside e m.no_parens l ls h = elim h [ ]
ended-inside e (m.in_parens k) l ls h = refl

ended-outside : (e : Expr) (k : m.Around) → AreOuter [] k → m.ended e k ≡ m.Done e
ended-outside e m.no_parens h = refl
ended-outside e (m.in_parens k) h = elim h [ ]

abbrev over : m.AfterExpr → m.AfterUnary
over f = m.ends_term (m.ends_sum (m.ends_rel (m.ends_and (m.ends_expr f))))

-- The end of the tokens.
pub end-whole : (ls : List OpenLevel) (s : m.ExpressionState) → IsSeen Operator ls s → is_inside ls ≡ false → IsDone (m.end_step s)
end-whole [] s h i = elim h [ ]
end-whole (l ∷ []) (m.Have a k) h i =
    let w : (w : Unary) × (m.after_operand (over m.other) (only_atom a) k ≡ m.after_unary (over m.other) w (term_around k)) = operand-wrapped (over m.other) (only_atom a) k in
    (_, w.1 ∙ ended-outside _ (parens_around k) h.1)
end-whole (l ∷ []) s h i = elim h [ ]
end-whole (l ∷ n ∷ ls) s h i = cc

pub end-inside : (ls : List OpenLevel) (s : m.ExpressionState) → IsSeen Operator ls s → is_inside ls ≡ true → m.end_step s ≡ m.Stop
end-inside [] s h i = elim h [ ]
end-inside (l ∷ []) s h i = cc
end-inside (l ∷ n ∷ ls) (m.Have a k) h i =
    let w : (w : Unary) × (m.after_operand (over m.other) (only_atom a) k ≡ m.after_unary (over m.other) w (term_around k)) = operand-wrapped (over m.other) (only_atom a) k in
    w.1 ∙ ended-inside _ (parens_around k) n ls h.1
end-inside (l ∷ n ∷ ls) s h i = elim h [ ]

-- After an operand, where the expression doesn't go on.
pub compare-stops : (ls : List OpenLevel) (s : m.ExpressionState) (t : Kind) → IsSeen Operator ls s → FollowsAs follow.Comparison t → is_compared ls ≡ true → is_inside ls ≡ true → StopsThere s (m.step s t)
compare-stops ls s t h e c i = stops-there s (m.step s t) (compare-again ls s t h e c) (end-inside ls s h i)

pub compare-ends : (ls : List OpenLevel) (s : m.ExpressionState) (t : Kind) → IsSeen Operator ls s → FollowsAs follow.Comparison t → is_compared ls ≡ true → is_inside ls ≡ false → EndsThere s (m.step s t)
compare-ends ls s t h e c i = stop-ends s (m.step s t) (compare-again ls s t h e c) (end-whole ls s h i)

pub close-inside : (ls : List OpenLevel) (s : m.ExpressionState) (t : Kind) → IsSeen Operator ls s → FollowsAs follow.Closing t → is_inside ls ≡ true → IsSeen Operator (drop 1 ls) (m.step s t)
close-inside [] s t h e i = elim h [ ]
close-inside (l ∷ []) s t h e i = cc
close-inside (l ∷ n ∷ ls) (m.Have a k) t h e i = subst (IsSeen Operator (n ∷ ls)) (sym (after t (over m.closing) a k e).1) (closed-inside _ (parens_around k) n ls h.1)
close-inside (l ∷ n ∷ ls) s t h e i = elim h [ ]

close-outside : (ls : List OpenLevel) (s : m.ExpressionState) (t : Kind) → IsSeen Operator ls s → FollowsAs follow.Closing t → is_inside ls ≡ false → IsDone (m.step s t)
close-outside [] s t h e i = elim h [ ]
close-outside (l ∷ []) (m.Have a k) t h e i = (_, (after t (over m.closing) a k e).1 ∙ closed-outside _ (parens_around k) h.1)
close-outside (l ∷ []) s t h e i = elim h [ ]
close-outside (l ∷ n ∷ ls) s t h e i = cc

pub close-ends : (ls : List OpenLevel) (s : m.ExpressionState) (t : Kind) → IsSeen Operator ls s → FollowsAs follow.Closing t → is_inside ls ≡ false → EndsThere s (m.step s t)
close-ends ls s t h e i = done-ends s (m.step s t) (close-outside ls s t h e i)

other-inside : (ls : List OpenLevel) (s : m.ExpressionState) (t : Kind) → IsSeen Operator ls s → FollowsAs follow.Other t → is_inside ls ≡ true → m.step s t ≡ m.Stop
other-inside [] s t h e i = elim h [ ]
other-inside (l ∷ []) s t h e i = cc
other-inside (l ∷ n ∷ ls) (m.Have a k) t h e i = (after t (over m.other) a k e).1 ∙ ended-inside _ (parens_around k) n ls h.1
other-inside (l ∷ n ∷ ls) s t h e i = elim h [ ]

pub other-stops : (ls : List OpenLevel) (s : m.ExpressionState) (t : Kind) → IsSeen Operator ls s → FollowsAs follow.Other t → is_inside ls ≡ true → StopsThere s (m.step s t)
other-stops ls s t h e i = stops-there s (m.step s t) (other-inside ls s t h e i) (end-inside ls s h i)

other-outside : (ls : List OpenLevel) (s : m.ExpressionState) (t : Kind) → IsSeen Operator ls s → FollowsAs follow.Other t → is_inside ls ≡ false → IsDone (m.step s t)
other-outside [] s t h e i = elim h [ ]
other-outside (l ∷ []) (m.Have a k) t h e i = (_, (after t (over m.other) a k e).1 ∙ ended-outside _ (parens_around k) h.1)
other-outside (l ∷ []) s t h e i = elim h [ ]
other-outside (l ∷ n ∷ ls) s t h e i = cc

pub other-ends : (ls : List OpenLevel) (s : m.ExpressionState) (t : Kind) → IsSeen Operator ls s → FollowsAs follow.Other t → is_inside ls ≡ false → EndsThere s (m.step s t)
other-ends ls s t h e i = done-ends s (m.step s t) (other-outside ls s t h e i)

-- After the first mark of two.
and-mark : (t : Kind) → m.what_follows t ≡ m.and_step m.half_and → t ≡ Ampersand
and-mark Ampersand e = refl
and-mark t e = cc

or-mark : (t : Kind) → m.what_follows t ≡ m.or_step m.half_or → t ≡ Bar
or-mark Bar e = refl
or-mark t e = cc

fresh-level : (l : OpenLevel) → l ≡ fresh → (0 ≡ l.prefixes) × (false ≡ l.compared)
fresh-level l e = (sym (ap (λ x. x.prefixes) e), sym (ap (λ x. x.compared) e))

pub second_and-seen : (ls : List OpenLevel) (s : m.ExpressionState) (t : Kind) → IsSeen SecondAnd ls s → FollowsAs follow.And t → IsSeen Operand ls (m.step s t)
second_and-seen [] s t h e = elim h [ ]
second_and-seen (l ∷ ls) (m.HalfAnd a k) t h e = subst (λ x. IsSeen Operand (l ∷ ls) (m.half_and_step x a k)) (sym (and-mark t e)) (fresh-level l h.0, h.1)
second_and-seen (l ∷ ls) s t h e = elim h [ ]

pub second_or-seen : (ls : List OpenLevel) (s : m.ExpressionState) (t : Kind) → IsSeen SecondOr ls s → FollowsAs follow.Or t → IsSeen Operand ls (m.step s t)
second_or-seen [] s t h e = elim h [ ]
second_or-seen (l ∷ ls) (m.HalfOr x k) t h e = subst (λ y. IsSeen Operand (l ∷ ls) (m.half_or_step y x k)) (sym (or-mark t e)) (fresh-level l h.0, h.1)
second_or-seen (l ∷ ls) s t h e = elim h [ ]

no-and : (f : Follow) → FollowsAs f Ampersand → f ≡ follow.And
no-and follow.And h = refl
no-and follow.Power h = cc
no-and follow.Product h = let e = h.1 in cc
no-and follow.Sum h = let e = h.1 in cc
no-and follow.Comparison h = let e = h.1 in cc
no-and follow.Or h = cc
no-and follow.Closing h = cc
no-and follow.Other h = cc

no-or : (f : Follow) → FollowsAs f Bar → f ≡ follow.Or
no-or follow.Or h = refl
no-or follow.Power h = cc
no-or follow.Product h = let e = h.1 in cc
no-or follow.Sum h = let e = h.1 in cc
no-or follow.Comparison h = let e = h.1 in cc
no-or follow.And h = cc
no-or follow.Closing h = cc
no-or follow.Other h = cc

and-stops : (f : Follow) (t : Kind) → FollowsAs f t → (f ≡ follow.And → ⊥) → (a : _) (k : m.InExpr) → m.half_and_step t a k ≡ m.Stop
and-stops f Ampersand h never a k = absurd (never (no-and f h))
and-stops f t h never a k = refl

or-stops : (f : Follow) (t : Kind) → FollowsAs f t → (f ≡ follow.Or → ⊥) → (x : Expr) (k : m.Around) → m.half_or_step t x k ≡ m.Stop
or-stops f Bar h never x k = absurd (never (no-or f h))
or-stops f t h never x k = refl

pub second_and-stops : (ls : List OpenLevel) (s : m.ExpressionState) (f : Follow) (t : Kind) → IsSeen SecondAnd ls s → FollowsAs f t → (f ≡ follow.And → ⊥) → StopsThere s (m.step s t)
second_and-stops [] s f t h e never = elim h [ ]
second_and-stops (l ∷ ls) (m.HalfAnd a k) f t h e never = stops-there (m.HalfAnd a k) (m.step (m.HalfAnd a k) t) (and-stops f t e never a k) refl
second_and-stops (l ∷ ls) s f t h e never = elim h [ ]

pub second_or-stops : (ls : List OpenLevel) (s : m.ExpressionState) (f : Follow) (t : Kind) → IsSeen SecondOr ls s → FollowsAs f t → (f ≡ follow.Or → ⊥) → StopsThere s (m.step s t)
second_or-stops [] s f t h e never = elim h [ ]
second_or-stops (l ∷ ls) (m.HalfOr x k) f t h e never = stops-there (m.HalfOr x k) (m.step (m.HalfOr x k) t) (or-stops f t e never x k) refl
second_or-stops (l ∷ ls) s f t h e never = elim h [ ]

-- The depth of a state is what is open.
around-depth : (k : m.InTerm) → term_depth k ≡ around_depth (m.around_expr (m.around_and (m.around_rel (m.around_sum (m.around_term k)))))
around-depth k = term k ∙ sum (m.around_term k) ∙ rel (m.around_sum (m.around_term k)) ∙ and (m.around_rel (m.around_sum (m.around_term k))) ∙ expr (m.around_and (m.around_rel (m.around_sum (m.around_term k))))
  where
    term : (j : m.InTerm) → term_depth j ≡ sum_depth (m.around_term j)
    term (m.first_unary j) = refl
    term (m.next_unary t op j) = refl

    sum : (j : m.InSum) → sum_depth j ≡ rel_depth (m.around_sum j)
    sum (m.first_term j) = refl
    sum (m.next_term t op j) = refl

    rel : (j : m.InRel) → rel_depth j ≡ and_depth (m.around_rel j)
    rel (m.first_sum j) = refl
    rel (m.second_sum l op j) = refl

    and : (j : m.InAnd) → and_depth j ≡ expr_depth (m.around_and j)
    and (m.first_rel j) = refl
    and (m.next_rel a j) = refl

    expr : (j : m.InExpr) → expr_depth j ≡ around_depth (m.around_expr j)
    expr (m.first_and j) = refl
    expr (m.next_and e j) = refl

operand-depth : (k : m.InUnary) → unary_depth k ≡ around_depth (parens_around k) + prefixes k
operand-depth (m.negating k) = let h : unary_depth k ≡ around_depth (parens_around k) + prefixes k = operand-depth k in omega (arith, h)
operand-depth (m.inverting k) = let h : unary_depth k ≡ around_depth (parens_around k) + prefixes k = operand-depth k in omega (arith, h)
operand-depth (m.raising a k) = let h : unary_depth k ≡ around_depth (parens_around k) + prefixes k = operand-depth k in omega (arith, h)
operand-depth (m.in_term k) = let h : term_depth k ≡ around_depth (m.around_expr (m.around_and (m.around_rel (m.around_sum (m.around_term k))))) = around-depth k in omega (arith, h)

outer-depth : (ls : List OpenLevel) (k : m.Around) → AreOuter ls k → around_depth k ≡ outer_nesting ls
outer-depth [] m.no_parens h = refl
outer-depth [] (m.in_parens k) h = elim h [ ]
outer-depth (l ∷ ls) m.no_parens h = elim h [ ]
outer-depth (l ∷ ls) (m.in_parens k) h =
    let o : around_depth (parens_around k) ≡ outer_nesting ls = outer-depth ls (parens_around k) h.1 in
    omega (arith, o, operand-depth k, h.0.0)

expr-around-depth : (k : m.InExpr) → expr_depth k ≡ around_depth (m.around_expr k)
expr-around-depth (m.first_and k) = refl
expr-around-depth (m.next_and e k) = refl

level-depth : (l : OpenLevel) (ls : List OpenLevel) (k : m.InUnary) → StandsAtLevel l k → AreOuter ls (parens_around k) → unary_depth k ≡ inner_nesting (l ∷ ls)
level-depth l ls k h o = let d : around_depth (parens_around k) ≡ outer_nesting ls = outer-depth ls (parens_around k) o in omega (arith, d, operand-depth k, h.0)

fresh-depth : (l : OpenLevel) (ls : List OpenLevel) (k : m.Around) → l ≡ fresh → AreOuter ls k → around_depth k ≡ inner_nesting (l ∷ ls)
fresh-depth l ls k e o = let d : around_depth k ≡ outer_nesting ls = outer-depth ls k o in omega (arith, d, (fresh-level l e).0)

pub seen-depth : (a : Awaited) (ls : List OpenLevel) (s : m.ExpressionState) → IsSeen a ls s → IsGoing s × (depth s ≡ inner_nesting ls)
seen-depth Operand (l ∷ ls) (m.Due k) h = (tt, level-depth l ls k h.0 h.1)
seen-depth Operator (l ∷ ls) (m.Have x k) h = (tt, level-depth l ls k h.0 h.1)
seen-depth SecondAnd (l ∷ ls) (m.HalfAnd x k) h = (tt, expr-around-depth k ∙ fresh-depth l ls (m.around_expr k) h.0 h.1)
seen-depth SecondOr (l ∷ ls) (m.HalfOr x k) h = (tt, fresh-depth l ls k h.0 h.1)
seen-depth a ls s h = elim h [ ]

-- What holds between two tokens while an expression is read, from the first token to the last.
use Rattle.std.proofs.Common.{◌≡◌, List, [], ◌∷◌, ◌++◌, Option, Some, map, refl, ap, ap₂, sym, subst, ◌∙◌, append-nil}
use Rattle.std.specs.Option.{IsSome}
use Rattle.lsys_syntax.specs.Tokens.{NameText, Kind}
use Rattle.lsys_syntax.specs.Expressions.{Expr, Unary, negated, inverted, only_atom, raised, expr_kinds}
use Rattle.lsys_syntax.specs.ExpressionMachine.{InUnary, negating, inverting, raising, in_term, InTerm, first_unary, next_unary, InSum, first_term, next_term, InRel, first_sum, second_sum, InAnd, first_rel, next_rel, InExpr, first_and, next_and, Around, no_parens, in_parens, ExpressionState, Due, Have, HalfAnd, HalfOr, Done, Stop, other, ends_expr, ends_and, ends_rel, ends_sum, ends_term, around_term, around_sum, around_rel, around_and, around_expr, after_operand, ended, start_expr, step, run, end_step, finished, parse_expr}
use Rattle.lsys_syntax.specs.ExpressionPlaces.{read_expr}
use Rattle.lsys_syntax.specs.RuleMachine.{small}
use Rattle.lsys_syntax.specs.Completions.{completion, closing_unary, closing_term, closing_sum, closing_rel, closing_and, closing_expr, closing_around}
use Rattle.lsys_syntax.proofs.Complete.{parse-kinds}
use Rattle.lsys_syntax.proofs.Sound.{IsGoing, begins}
use Rattle.lsys_syntax.proofs.ExprSound.{small-taken}
use Rattle.lsys_spec.specs.Values.{Tree, expr_tree}
use Rattle.lsys_expr.specs.Frames.{OperandFrame, ExpressionReading, reduced, next_reading}
use Rattle.lsys_expr.proofs.Contexts.{reading_of}
use Rattle.lsys_expr.proofs.Moves.{moves, end-reads}

-- 1. where the rest leads to an expression, the machine goes on

stop-ends : (ts : List Kind) (e : Expr) → finished (end_step (run Stop ts)) ≡ Some e → ⊥
stop-ends [] e h = cc h
stop-ends (t ∷ ts) e h = stop-ends ts e h

done-ends : (d : Expr) (ts : List Kind) (e : Expr) → finished (end_step (run (Done d) ts)) ≡ Some e → ⊥
done-ends d [] e h = cc h
done-ends d (t ∷ ts) e h = stop-ends ts e h

goes-on : (s : ExpressionState) (ts : List Kind) (e : Expr) → finished (end_step (run s ts)) ≡ Some e → IsGoing s
goes-on (Due k) ts e h = tt
goes-on (Have a k) ts e h = tt
goes-on (HalfAnd a k) ts e h = tt
goes-on (HalfOr d k) ts e h = tt
goes-on (Done d) ts e h = done-ends d ts e h
goes-on Stop ts e h = stop-ends ts e h

-- 2. the tokens of what is read

-- tokens that are taken stand as they are
small-run : (s : ExpressionState) (ts : List Kind) (e : Expr) → finished (end_step (run s (map small ts))) ≡ Some e → map small ts ≡ ts
small-run s [] e h = refl
small-run s (t ∷ ts) e h =
    ap₂ (λ x xs. x ∷ xs) (small-taken s t (goes-on (step s (small t)) (map small ts) e h)) (small-run (step s (small t)) ts e h)

-- what closes a context is what closes the outermost expression in it
closing-same : (k : InTerm) → closing_term k ≡ closing_around (around_expr (around_and (around_rel (around_sum (around_term k)))))
closing-same k = by_term k
  where
    by_expr : (k : InExpr) → closing_expr k ≡ closing_around (around_expr k)
    by_expr (first_and k) = refl
    by_expr (next_and e k) = refl

    by_and : (k : InAnd) → closing_and k ≡ closing_around (around_expr (around_and k))
    by_and (first_rel k) = by_expr k
    by_and (next_rel a k) = by_expr k

    by_rel : (k : InRel) → closing_rel k ≡ closing_around (around_expr (around_and (around_rel k)))
    by_rel (first_sum k) = by_and k
    by_rel (second_sum l op k) = by_and k

    by_sum : (k : InSum) → closing_sum k ≡ closing_around (around_expr (around_and (around_rel (around_sum k))))
    by_sum (first_term k) = by_rel k
    by_sum (next_term s op k) = by_rel k

    by_term : (k : InTerm) → closing_term k ≡ closing_around (around_expr (around_and (around_rel (around_sum (around_term k)))))
    by_term (first_unary k) = by_sum k
    by_term (next_unary t op k) = by_sum k

ended-closed : (d e : Expr) (k : Around) → finished (ended d k) ≡ Some e → closing_around k ≡ []
ended-closed d e no_parens h = refl
ended-closed d e (in_parens k) h = cc h

operand-closed : (u : Unary) (k : InUnary) (e : Expr) → finished (after_operand (ends_term (ends_sum (ends_rel (ends_and (ends_expr other))))) u k) ≡ Some e
    → closing_unary k ≡ []
operand-closed u (negating k) e h = operand-closed (negated u) k e h
operand-closed u (inverting k) e h = operand-closed (inverted u) k e h
operand-closed u (raising a k) e h = operand-closed (raised a u) k e h
operand-closed u (in_term k) e h = closing-same k ∙ ended-closed _ e _ h

-- at the end nothing is open
end-closed : (s : ExpressionState) (e : Expr) → finished (end_step s) ≡ Some e → completion s ≡ []
end-closed (Due k) e h = cc h
end-closed (Have a k) e h = operand-closed (only_atom a) k e h
end-closed (HalfAnd a k) e h = cc h
end-closed (HalfOr d k) e h = cc h
end-closed (Done d) e h = refl
end-closed Stop e h = refl

-- tokens that are parsed are those of the expression
parsed-kinds : (ts : List Kind) (e : Expr) → parse_expr ts ≡ Some e → expr_kinds e ≡ ts
parsed-kinds ts e h =
    let s : ExpressionState = run (start_expr no_parens) ts in
    let found = begins ts (goes-on s [] e h) in
    let whole : expr_kinds found.0 ≡ ts = found.1 ∙ ap (λ x. ts ++ x) (end-closed s e h) ∙ append-nil ts in
    let again : parse_expr ts ≡ Some found.0 = ap parse_expr (sym whole) ∙ parse-kinds found.0 in
    let same : e ≡ found.0 = cc (h, again) in
    ap expr_kinds same ∙ whole

-- The tokens that are read as an expression are its tokens.
pub read-kinds : (ts : List Kind) (e : Expr) → read_expr ts ≡ Some e → expr_kinds e ≡ ts
read-kinds ts e h = parsed-kinds (map small ts) e h ∙ small-run (start_expr no_parens) ts e h

-- 3. the operand and the frames

-- Between two tokens of an expression: a state of the machine that holds the operand and the frames, and from which the rest leads to the expression.
pub record Reads (fs : List NameText) (e : Expr) (rest : List Kind) (operand : Option Tree) (frames : List OperandFrame) : Type 0 where
  pub state : ExpressionState
  pub operand_is : operand ≡ (reading_of fs state).0
  pub frames_are : frames ≡ (reading_of fs state).1
  pub leads : finished (end_step (run state (map small rest))) ≡ Some e

next-reading : (fs : List NameText) (e : Expr) (k : Kind) (ks : List Kind) (o : Option Tree) (fr : List OperandFrame) (r : Reads fs e (k ∷ ks) o fr)
    → next_reading fs (small k) o fr ≡ Some (reading_of fs (step r.state (small k)))
next-reading fs e k ks o fr r =
    ap₂ (next_reading fs (small k)) r.operand_is r.frames_are ∙ moves fs r.state (small k) (goes-on (step r.state (small k)) (map small ks) e r.leads)

pub reads-possible : (fs : List NameText) (e : Expr) (k : Kind) (ks : List Kind) (o : Option Tree) (fr : List OperandFrame) → Reads fs e (k ∷ ks) o fr
    → IsSome (next_reading fs (small k) o fr)
reads-possible fs e k ks o fr r = subst IsSome (sym (next-reading fs e k ks o fr r)) refl

pub reads-step : (fs : List NameText) (e : Expr) (k : Kind) (ks : List Kind) (o p : Option Tree) (fr gr : List OperandFrame) → Reads fs e (k ∷ ks) o fr
    → next_reading fs (small k) o fr ≡ Some (p, gr) → Reads fs e ks p gr
reads-step fs e k ks o p fr gr r h =
    let same : ◌≡◌ {A = ExpressionReading} (p, gr) (reading_of fs (step r.state (small k))) = cc (h, next-reading fs e k ks o fr r) in
    record {
      state = step r.state (small k);
      operand_is = ap (λ (x : ExpressionReading). x.0) same;
      frames_are = ap (λ (x : ExpressionReading). x.1) same;
      leads = r.leads;
    }

-- At the end an operand was read, and reduced it is the whole.
pub record IsWhole (fs : List NameText) (e : Expr) (operand : Option Tree) (frames : List OperandFrame) : Type 0 where
  pub last : Tree
  pub operand_is : operand ≡ Some last
  pub whole : reduced 1 last frames ≡ (expr_tree fs e, [])

end-by : (fs : List NameText) (e : Expr) (s : ExpressionState) (o : Option Tree) (fr : List OperandFrame) → o ≡ (reading_of fs s).0 → fr ≡ (reading_of fs s).1
    → finished (end_step s) ≡ Some e → IsWhole fs e o fr
end-by fs e (Due k) o fr p q h = absurd (cc h)
end-by fs e (Have a k) o fr p q h = record { last = _; operand_is = p; whole = ap (reduced 1 _) q ∙ end-reads fs a k e h }
end-by fs e (HalfAnd a k) o fr p q h = absurd (cc h)
end-by fs e (HalfOr d k) o fr p q h = absurd (cc h)
end-by fs e (Done d) o fr p q h = absurd (cc h)
end-by fs e Stop o fr p q h = absurd (cc h)

pub reads-end : (fs : List NameText) (e : Expr) (o : Option Tree) (fr : List OperandFrame) → Reads fs e [] o fr → IsWhole fs e o fr
reads-end fs e o fr r = end-by fs e r.state o fr r.operand_is r.frames_are r.leads

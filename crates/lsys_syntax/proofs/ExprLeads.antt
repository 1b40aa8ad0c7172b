-- An expression within a rule: its tokens lead from the machine's start to its end, where its nesting is within the bound.
use Rattle.std.proofs.Common.{◌≡◌, ℕ, ◌≤◌, ◌^◌, List, [], ◌∷◌, ◌++◌, map, refl, ap, ◌∙◌, sym, subst, arith, lt-ltb}
use Rattle.lsys_syntax.specs.Tokens.{Kind, RightParen, Ampersand, Bar, Caret}
use Rattle.lsys_syntax.specs.Pieces.{token, note, expr_ends}
use Rattle.lsys_syntax.specs.Strings.{EachOf}
use Rattle.lsys_syntax.specs.Expressions.{TermOp, multiply, divide, remainder, SumOp, add, subtract, RelOp, equal, unequal, less, at_most, greater, at_least, Expr, only_and, or, And, only_rel, and, Rel, only_sum, compare, Sum, only_term, total, Term, only_unary, product, Unary, negated, inverted, only_atom, raised, Atom, number, name, parens, term_kind, sum_kind, rel_kind, expr_kinds, and_kinds, rel_kinds, sum_kinds, term_kinds, unary_kinds, atom_kinds, expr_pieces, IsExpr, IsAnd, IsRel, IsSum, IsTerm, IsUnary, IsAtom}
use Rattle.lsys_syntax.specs.ExpressionMachine as E
use Rattle.lsys_syntax.specs.Nesting as N
use Rattle.lsys_syntax.specs.RuleMachine.{Form, Spot, RuleState, InExpr, small, rule_step, within, expr_start}
use Rattle.lsys_syntax.proofs.Complete.{leave_expr, has-expr, run-whole}
use Rattle.lsys_syntax.proofs.Sound.{IsGoing, goes-before}
use Rattle.lsys_syntax.proofs.Depths.{expr-within}
use Rattle.lsys_syntax.proofs.Leads.{Leads, leads-append}

-- no deeper than b
abbrev pub Shallow : ℕ → RuleState → Type 0
Shallow b (InExpr spot s) = N.depth s ≤ b
Shallow b s = Unit {0}

-- the token stands in an expression as it is
abbrev pub IsSmall : Kind → Type 0
IsSmall k = small k ≡ k

abbrev AreSmall : List Kind → Type 0
AreSmall ks = EachOf IsSmall ks

small-append : (xs ys : List Kind) → AreSmall xs → AreSmall ys → AreSmall (xs ++ ys)
small-append [] ys h k = k
small-append (x ∷ xs) ys h k = (h.0, small-append xs ys h.1 k)

small-term_kind : (op : TermOp) → IsSmall (term_kind op)
small-term_kind multiply = refl
small-term_kind divide = refl
small-term_kind remainder = refl

small-sum_kind : (op : SumOp) → IsSmall (sum_kind op)
small-sum_kind add = refl
small-sum_kind subtract = refl

small-rel_kind : (op : RelOp) → IsSmall (rel_kind op)
small-rel_kind equal = refl
small-rel_kind unequal = refl
small-rel_kind less = refl
small-rel_kind at_most = refl
small-rel_kind greater = refl
small-rel_kind at_least = refl

mutual
  pub expr-small : (e : Expr) → IsExpr e → AreSmall (expr_kinds e)
  expr-small (only_and a) g = and-small a g
  expr-small (or e a) g = small-append (expr_kinds e) (Bar ∷ Bar ∷ and_kinds a) (expr-small e g.0) (refl, (refl, and-small a g.1))

  and-small : (a : And) → IsAnd a → AreSmall (and_kinds a)
  and-small (only_rel r) g = rel-small r g
  and-small (and a r) g = small-append (and_kinds a) (Ampersand ∷ Ampersand ∷ rel_kinds r) (and-small a g.0) (refl, (refl, rel-small r g.1))

  rel-small : (r : Rel) → IsRel r → AreSmall (rel_kinds r)
  rel-small (only_sum s) g = sum-small s g
  rel-small (compare l op s) g = small-append (sum_kinds l) (rel_kind op ∷ sum_kinds s) (sum-small l g.0) (small-rel_kind op, sum-small s g.1)

  sum-small : (s : Sum) → IsSum s → AreSmall (sum_kinds s)
  sum-small (only_term t) g = term-small t g
  sum-small (total s op t) g = small-append (sum_kinds s) (sum_kind op ∷ term_kinds t) (sum-small s g.0) (small-sum_kind op, term-small t g.1)

  term-small : (t : Term) → IsTerm t → AreSmall (term_kinds t)
  term-small (only_unary u) g = unary-small u g
  term-small (product t op u) g = small-append (term_kinds t) (term_kind op ∷ unary_kinds u) (term-small t g.0) (small-term_kind op, unary-small u g.1)

  unary-small : (u : Unary) → IsUnary u → AreSmall (unary_kinds u)
  unary-small (negated u) g = (refl, unary-small u g)
  unary-small (inverted u) g = (refl, unary-small u g)
  unary-small (only_atom a) g = atom-small a g
  unary-small (raised a u) g = small-append (atom_kinds a) (Caret ∷ unary_kinds u) (atom-small a g.0) (refl, unary-small u g.1)

  atom-small : (a : Atom) → IsAtom a → AreSmall (atom_kinds a)
  atom-small (number n) g = (rw (lt-ltb n (2 ^ 63) g), tt)
  atom-small (name n) g = (refl, tt)
  atom-small (parens e) g = (refl, small-append (expr_kinds e) (RightParen ∷ []) (expr-small e g) (refl, tt))

-- Tokens of an expression stand in it as they are.
pub smalls : (ks : List Kind) → AreSmall ks → map small ks ≡ ks
smalls [] h = refl
smalls (k ∷ ks) h = ap (λ t. t ∷ map small ks) h.0 ∙ ap (λ ts. k ∷ ts) (smalls ks h.1)

smalls-front : (ks js : List Kind) → AreSmall (ks ++ js) → AreSmall ks
smalls-front [] js h = tt
smalls-front (k ∷ ks) js h = (h.0, smalls-front ks js h.1)

pub front-small : (ks rest : List Kind) (e : Expr) → IsExpr e → expr_kinds e ≡ ks ++ rest → map small ks ≡ ks
front-small ks rest e g q = smalls ks (smalls-front ks rest (subst AreSmall q (expr-small e g)))

-- The state inside goes on as by itself, while it isn't done.
within-live : (m : Form) (spot : Spot) (t : Kind) (s : E.ExpressionState) → IsGoing s → within m spot t s ≡ InExpr spot s
within-live m spot t (E.Due k) h = refl
within-live m spot t (E.Have a k) h = refl
within-live m spot t (E.HalfAnd a k) h = refl
within-live m spot t (E.HalfOr e k) h = refl
within-live m spot t (E.Done e) h = elim h [ ]
within-live m spot t E.Stop h = elim h [ ]

module _ (m : Form) (b : ℕ) (spot : Spot) where
  tokens-lead : (ts : List Kind) (s : E.ExpressionState) → IsGoing (E.run s ts) → N.StaysWithin b s ts → AreSmall ts → Leads (rule_step m) (Shallow b) (InExpr spot s) (map token ts) (InExpr spot (E.run s ts))
  tokens-lead [] s l w h = refl
  tokens-lead (t ∷ ts) s l w h =
      let same : within m spot t (E.step s (small t)) ≡ InExpr spot (E.step s t) =
      ap (λ k. within m spot t (E.step s k)) h.0 ∙ within-live m spot t (E.step s t) (goes-before ts (E.step s t) l) in
      subst (λ x. Shallow b x × Leads (rule_step m) (Shallow b) x (map token ts) (InExpr spot (E.run s (t ∷ ts)))) (sym same) (w.0, tokens-lead ts (E.step s t) l w.1 h.1)

  pub expr-leads : (e : Expr) → IsExpr e → N.expr_nesting e ≤ b → Leads (rule_step m) (Shallow b) (InExpr spot expr_start) (expr_pieces e) (InExpr spot (leave_expr e E.no_parens))
  expr-leads e g n =
      let all : E.run expr_start (expr_kinds e) ≡ leave_expr e E.no_parens = run-whole e in
      leads-append (rule_step m) (Shallow b) (map token (expr_kinds e)) (note expr_ends ∷ []) (InExpr spot expr_start) (InExpr spot (E.run expr_start (expr_kinds e))) (InExpr spot (leave_expr e E.no_parens))
      (tokens-lead (expr_kinds e) expr_start (subst IsGoing (sym (all ∙ (has-expr e E.no_parens).2)) tt) (expr-within e b E.no_parens (omega (arith, n))) (expr-small e g))
      (ap (λ s. InExpr spot s) all)

-- How parts of a rule are put together, and how a token leads from a point to a state.
use Rattle.std.proofs.Common.{◌≡◌, ◌≤◌, ◌+◌, ℕ, zero, suc, Bool, true, false, Option, Some, None, List, [], ◌∷◌, drop, length, nat_lt, cond, refl, ap, sym, ◌∙◌, add-one, arith}
use Rattle.std.specs.Prelude.{option_map}
use Rattle.lsys_syntax.specs.Commands.{put_production, put_homomorphism}
use Rattle.lsys_syntax.specs.Limits.{nesting_bound}
use Rattle.lsys_syntax.specs.Tokens.{Kind, Equal, Unequal, AtMost, AtLeast, Less, Greater}
use Rattle.lsys_syntax.specs.Expressions.{Expr}
use Rattle.lsys_syntax.specs.ExpressionMachine as E
use Rattle.lsys_syntax.specs.ExpressionPlaces.{Extent, at_end, extent_after, extent_from, extent}
use Rattle.lsys_syntax.specs.ExpressionPlaces as X
use Rattle.lsys_syntax.specs.Nesting as N
use Rattle.lsys_syntax.specs.Rules.{Rule}
use Rattle.lsys_syntax.specs.LineMachine as L
use Rattle.lsys_syntax.specs.RuleMachine.{Form, production, homomorphism, Spot, RuleState, Formals, FormalDue, FormalRead, InExpr, Successor, Stop, small, done_step, within, expr_start, rule_step, whole}
use Rattle.lsys_syntax.proofs.WholeExpressions.{IsComparison, stop-compares}
use Rattle.lsys_syntax.specs.RulePoints.{RuleVerdict, stops, too_deep, rule_or_stop, taken, rule_from, Line, production_of, homomorphism_of, form_of, line_state, line_verdict, Point, at_state, after_expr, point_step, point_end, point_from, by_extent, verdict_at, Leads, Here}

-- 1. a state is a point

pub state-point : (m : Form) (n : ℕ) (s : RuleState) (ks : List Kind) → point_from m n (at_state s) ks ≡ rule_from m n s ks
state-point m n s [] = refl
state-point m n s (k ∷ ks) = refl

-- 2. the line's verdict

-- one step of a line by the state that it makes of the rule
tested-production : (t : Option (List ℕ)) (l : List ℕ) (n : ℕ) (ks : List Kind) (s : RuleState) (v : RuleVerdict)
    → L.verdict_from (n + 1) (L.InProduction t l s) ks ≡ line_verdict (production_of t l) v
    → elim (L.is_stop (L.unless_stop (L.InProduction t l) s)) [
      | true ↦ L.stops n
      | false ↦ elim (nat_lt L.nesting_bound (L.line_depth (L.unless_stop (L.InProduction t l) s))) [ true ↦ L.too_deep n | false ↦ L.verdict_from (n + 1) (L.unless_stop (L.InProduction t l) s) ks ]
    ] ≡ line_verdict (production_of t l) (taken n s v)
tested-production t l n ks Stop v h = refl
tested-production t l n ks (InExpr spot s) v h = by (nat_lt nesting_bound (N.depth s)) h
  where
    by : (b : Bool) → L.verdict_from (n + 1) (L.InProduction t l (InExpr spot s)) ks ≡ line_verdict (production_of t l) v
        → elim b [ true ↦ L.too_deep n | false ↦ L.verdict_from (n + 1) (L.InProduction t l (InExpr spot s)) ks ] ≡ line_verdict (production_of t l) (cond b (too_deep n) v)
    by true g = refl
    by false g = g
tested-production t l n ks (Formals p r) v h = h
tested-production t l n ks (FormalDue p r x fs) v h = h
tested-production t l n ks (FormalRead p r x fs) v h = h
tested-production t l n ks (Successor b r) v h = h

tested-homomorphism : (l : List ℕ) (n : ℕ) (ks : List Kind) (s : RuleState) (v : RuleVerdict)
    → L.verdict_from (n + 1) (L.InHomomorphism l s) ks ≡ line_verdict (homomorphism_of l) v
    → elim (L.is_stop (L.unless_stop (L.InHomomorphism l) s)) [
      | true ↦ L.stops n
      | false ↦ elim (nat_lt L.nesting_bound (L.line_depth (L.unless_stop (L.InHomomorphism l) s))) [ true ↦ L.too_deep n | false ↦ L.verdict_from (n + 1) (L.unless_stop (L.InHomomorphism l) s) ks ]
    ] ≡ line_verdict (homomorphism_of l) (taken n s v)
tested-homomorphism l n ks Stop v h = refl
tested-homomorphism l n ks (InExpr spot s) v h = by (nat_lt nesting_bound (N.depth s)) h
  where
    by : (b : Bool) → L.verdict_from (n + 1) (L.InHomomorphism l (InExpr spot s)) ks ≡ line_verdict (homomorphism_of l) v
        → elim b [ true ↦ L.too_deep n | false ↦ L.verdict_from (n + 1) (L.InHomomorphism l (InExpr spot s)) ks ] ≡ line_verdict (homomorphism_of l) (cond b (too_deep n) v)
    by true g = refl
    by false g = g
tested-homomorphism l n ks (Formals p r) v h = h
tested-homomorphism l n ks (FormalDue p r x fs) v h = h
tested-homomorphism l n ks (FormalRead p r x fs) v h = h
tested-homomorphism l n ks (Successor b r) v h = h

end-of : (g : Line) (n : ℕ) (s : RuleState) → L.sentence_or_stop n (L.finish (line_state g s)) ≡ line_verdict g (rule_or_stop n (whole s))
end-of (production_of t l) n s = by (whole s)
  where
    by : (o : Option Rule) → L.sentence_or_stop n (option_map (put_production t l) o) ≡ line_verdict (production_of t l) (rule_or_stop n o)
    by None = refl
    by (Some r) = refl
end-of (homomorphism_of l) n s = by (whole s)
  where
    by : (o : Option Rule) → L.sentence_or_stop n (option_map (put_homomorphism l) o) ≡ line_verdict (homomorphism_of l) (rule_or_stop n o)
    by None = refl
    by (Some r) = refl

-- The verdict on a line is that on its rule.
pub line-rule : (g : Line) (ks : List Kind) (n : ℕ) (s : RuleState) → L.verdict_from n (line_state g s) ks ≡ line_verdict g (rule_from (form_of g) n s ks)
line-rule g [] n s = end-of g n s
line-rule (production_of t l) (k ∷ ks) n s = tested-production t l n ks (rule_step production s k) (rule_from production (n + 1) (rule_step production s k) ks) (line-rule (production_of t l) ks (n + 1) (rule_step production s k))
line-rule (homomorphism_of l) (k ∷ ks) n s = tested-homomorphism l n ks (rule_step homomorphism s k) (rule_from homomorphism (n + 1) (rule_step homomorphism s k) ks) (line-rule (homomorphism_of l) ks (n + 1) (rule_step homomorphism s k))

-- 3. parts put together

pub leads-on : (m : Form) (ks : List Kind) (a b c : ℕ) (p q r : Point) → Leads m ks a p b q → Leads m ks b q c r → Leads m ks a p c r
leads-on m ks a b c p q r h i = record { after = omega (arith, h.after, i.after); within = i.within; same = h.same ∙ i.same }

-- an equal point
pub leads-stay : (m : Form) (ks : List Kind) (at : ℕ) (p q : Point) → at ≤ length ks → verdict_at m ks at p ≡ verdict_at m ks at q → Leads m ks at p at q
leads-stay m ks at p q w h = record { after = omega arith; within = w; same = h }

-- 4. one token

-- a state that is no refusal, nor too deep
abbrev pub IsGone : RuleState → Type 0
IsGone s = (n : ℕ) (v : RuleVerdict) → taken n s v ≡ v

module _ (m : Form) (ks : List Kind) (at : ℕ) (k : Kind) (p : Point) (h : Here ks at k) where
  token-at : verdict_at m ks at p ≡ taken at (point_step m p k) (rule_from m (at + 1) (point_step m p k) (drop (at + 1) ks))
  token-at = ap (point_from m at p) h.1

  pub leads-token : (s : RuleState) → point_step m p k ≡ s → IsGone s → Leads m ks at p (at + 1) (at_state s)
  leads-token s e g = record {
    after = omega arith;
    within = h.0;
    same = token-at ∙ ap (λ t. taken at t (rule_from m (at + 1) t (drop (at + 1) ks))) e ∙ g at (rule_from m (at + 1) s (drop (at + 1) ks)) ∙ sym (state-point m (at + 1) s (drop (at + 1) ks));
  }

  pub stops-token : point_step m p k ≡ Stop → verdict_at m ks at p ≡ stops at
  stops-token e = token-at ∙ ap (λ t. taken at t (rule_from m (at + 1) t (drop (at + 1) ks))) e

  -- two points that the token leads to one state
  pub same-token : (q : Point) → point_step m p k ≡ point_step m q k → verdict_at m ks at p ≡ verdict_at m ks at q
  same-token q e = token-at ∙ ap (λ t. taken at t (rule_from m (at + 1) t (drop (at + 1) ks))) e ∙ sym (ap (point_from m at q) h.1)

pub same-end : (m : Form) (ks : List Kind) (at : ℕ) (p q : Point) → drop at ks ≡ [] → point_end p ≡ point_end q → verdict_at m ks at p ≡ verdict_at m ks at q
same-end m ks at p q h e = ap (point_from m at p) h ∙ ap (rule_or_stop at) e ∙ sym (ap (point_from m at q) h)

-- 5. an expression inside of a rule

-- a state that goes on inside of an expression
abbrev IsInside : E.ExpressionState → Type 0
IsInside (E.Done e) = ⊥
IsInside E.Stop = ⊥
IsInside s = Unit {0}

module _ (m : Form) (spot : Spot) (b : ℕ) (all : List Kind) where
  -- the end of an expression after which no rule goes on
  stops-after : (n : ℕ) (x : E.ExpressionState) → ((e : Expr) → x ≡ E.Done e → point_from m (b + n) (after_expr spot e) (drop n all) ≡ stops (b + n)) → stops (b + n) ≡ by_extent m spot b all (at_end n x)
  stops-after n (E.Done e) h = sym (h e refl)
  stops-after n (E.Due k) h = refl
  stops-after n (E.Have a k) h = refl
  stops-after n (E.HalfAnd a k) h = refl
  stops-after n (E.HalfOr a k) h = refl
  stops-after n E.Stop h = refl

  inside-end : (s : E.ExpressionState) (n : ℕ) → drop n all ≡ [] → stops (b + n) ≡ by_extent m spot b all (at_end n (E.end_step s))
  inside-end s n d = stops-after n (E.end_step s) (λ e q. ap (point_from m (b + n) (after_expr spot e)) d)

  -- No rule goes on with a comparison after a whole expression.
  comparison-stops : (k : Kind) (e : Expr) → IsComparison k → done_step m k spot e ≡ Stop
  comparison-stops Equal e h = refl
  comparison-stops Unequal e h = refl
  comparison-stops Less e h = refl
  comparison-stops AtMost e h = refl
  comparison-stops Greater e h = refl
  comparison-stops AtLeast e h = refl
  comparison-stops k e h = let no = h.1 in cc

  inside-stop : (s : E.ExpressionState) (k : Kind) (ks : List Kind) (n : ℕ) → E.step s (small k) ≡ E.Stop → drop n all ≡ k ∷ ks → stops (b + n) ≡ by_extent m spot b all (at_end n (E.end_step s))
  inside-stop s k ks n stop d =
      stops-after n (E.end_step s)
      (λ e q. ap (point_from m (b + n) (after_expr spot e)) d ∙ ap (λ t. taken (b + n) t (rule_from m (b + n + 1) t ks)) (comparison-stops k e (stop-compares s k e stop q)))

  -- one token more
  inside-step : (s x : E.ExpressionState) (k : Kind) (ks : List Kind) (n : ℕ) (rest : Extent) → E.step s (small k) ≡ x → drop n all ≡ k ∷ ks
      → (IsInside x → rule_from m (b + n + 1) (InExpr spot x) ks ≡ by_extent m spot b all rest)
      → taken (b + n) (within m spot k x) (rule_from m (b + n + 1) (within m spot k x) ks) ≡ by_extent m spot b all (extent_after n s x rest)
  inside-step s (E.Done e) k ks n rest q d h = sym (ap (point_from m (b + n) (after_expr spot e)) d)
  inside-step s E.Stop k ks n rest q d h = inside-stop s k ks n q d
  inside-step s (E.Due j) k ks n rest q d h = by (nat_lt nesting_bound (N.depth (E.Due j)))
    where
      by : (t : Bool) → cond t (too_deep (b + n)) (rule_from m (b + n + 1) (InExpr spot (E.Due j)) ks) ≡ by_extent m spot b all (cond t (X.too_deep n) rest)
      by true = refl
      by false = h tt
  inside-step s (E.Have a j) k ks n rest q d h = by (nat_lt nesting_bound (N.depth (E.Have a j)))
    where
      by : (t : Bool) → cond t (too_deep (b + n)) (rule_from m (b + n + 1) (InExpr spot (E.Have a j)) ks) ≡ by_extent m spot b all (cond t (X.too_deep n) rest)
      by true = refl
      by false = h tt
  inside-step s (E.HalfAnd a j) k ks n rest q d h = by (nat_lt nesting_bound (N.depth (E.HalfAnd a j)))
    where
      by : (t : Bool) → cond t (too_deep (b + n)) (rule_from m (b + n + 1) (InExpr spot (E.HalfAnd a j)) ks) ≡ by_extent m spot b all (cond t (X.too_deep n) rest)
      by true = refl
      by false = h tt
  inside-step s (E.HalfOr a j) k ks n rest q d h = by (nat_lt nesting_bound (N.depth (E.HalfOr a j)))
    where
      by : (t : Bool) → cond t (too_deep (b + n)) (rule_from m (b + n + 1) (InExpr spot (E.HalfOr a j)) ks) ≡ by_extent m spot b all (cond t (X.too_deep n) rest)
      by true = refl
      by false = h tt

drop-suc : (n : ℕ) (all : List Kind) (k : Kind) (ks : List Kind) → drop n all ≡ k ∷ ks → drop (suc n) all ≡ ks
drop-suc zero [] k ks e = cc
drop-suc zero (x ∷ xs) k ks e = cc
drop-suc (suc n) [] k ks e = cc
drop-suc (suc n) (x ∷ xs) k ks e = drop-suc n xs k ks e

pub drop-next : (n : ℕ) (all : List Kind) (k : Kind) (ks : List Kind) → drop n all ≡ k ∷ ks → drop (n + 1) all ≡ ks
drop-next n all k ks e = rw add-one (drop-suc n all k ks e)

inside-from : (m : Form) (spot : Spot) (b : ℕ) (ks all : List Kind) (n : ℕ) (s : E.ExpressionState) → IsInside s → drop n all ≡ ks → rule_from m (b + n) (InExpr spot s) ks ≡ by_extent m spot b all (extent_from n s ks)
inside-from m spot b [] all n s h e = inside-end m spot b all s n e
inside-from m spot b (k ∷ ks) all n s h e =
    inside-step m spot b all s (E.step s (small k)) k ks n (extent_from (n + 1) (E.step s (small k)) ks) refl e
    (λ i. ap (λ j. rule_from m j (InExpr spot (E.step s (small k))) ks) (omega arith) ∙ inside-from m spot b ks all (n + 1) (E.step s (small k)) i (drop-next n all k ks e))

-- A rule with an expression next goes on after the expression's extent.
pub rule-expr : (m : Form) (spot : Spot) (n : ℕ) (ks : List Kind) → point_from m n (at_state (InExpr spot expr_start)) ks ≡ by_extent m spot n ks (extent ks)
rule-expr m spot n ks =
    state-point m n (InExpr spot expr_start) ks ∙ ap (λ j. rule_from m j (InExpr spot expr_start) ks) (omega arith) ∙ inside-from m spot n ks ks 0 expr_start tt refl

-- Each step of a rule's machine takes its token; and where a rule may end, it is spelled by the tokens that were taken.
use Rattle.std.proofs.Common.{◌≡◌, ℕ, zero, suc, ◌≤◌, ◌<◌, Option, Some, None, List, [], ◌∷◌, ◌++◌, map, refl, ap, ◌∙◌, sym, subst, append_assoc, append-nil, arith}
use Rattle.lsys_syntax.specs.Tokens.{Kind, Arrow, LeftParen, RightParen, LeftBracket, RightBracket, Comma, Colon, At, Percent}
use Rattle.lsys_syntax.specs.Pieces.{Piece, blank, note, expr_ends, token, kinds_of}
use Rattle.lsys_syntax.specs.Strings.{ModuleName, Symbol, Module, Push, Pop, Cut, name_kind, EachOf, IsModuleName, IsSymbol}
use Rattle.lsys_syntax.specs.Expressions.{Expr, expr_kinds, expr_pieces, IsExpr}
use Rattle.lsys_syntax.specs.ExpressionMachine as E
use Rattle.lsys_syntax.specs.Completions as C
use Rattle.lsys_syntax.specs.Nesting as N
use Rattle.lsys_syntax.specs.Rules.{Rule, left_pieces, predecessor_pieces, right_pieces, option_pieces, successor_pieces, rule_pieces, IsRule, params_nesting, string_nesting, rule_nesting}
use Rattle.lsys_syntax.specs.RuleMachine.{Form, production, homomorphism, reversed_onto, reversed, open_in, Head, Premise, Spot, as_condition, as_weight, as_param, RuleState, Formals, FormalDue, FormalRead, InExpr, Successor, Stop, Sign, a_name, a_push, a_pop, a_cut, no_sign, sign_of, popped, where_closed, only_production, done_step, within, small, successor_open, successor_sign, successor_step, rule_step, rule_with, whole}
use Rattle.lsys_syntax.proofs.ExprLeads.{Shallow}
use Rattle.lsys_syntax.proofs.RuleComplete.{MayCut, OfForm}
use Rattle.lsys_syntax.proofs.Sound.{IsGoing}
use Rattle.lsys_syntax.proofs.ExprSound as G
use Rattle.lsys_syntax.proofs.StringKinds.{kinds-append, kinds-tokens, each-reversed, spelled_string, taken, params_before, nests-closed}
use Rattle.lsys_syntax.proofs.RuleHolds.{head_kinds, body_kinds, spot_kinds, OnlyProduction, GoodHead, GoodBody, GoodSuccessor, GoodSpot, Holds, IsSignOf, sign-is}
use Rattle.lsys_syntax.proofs.RuleSound.{symbol-more, paren-opens, paren-closes, comma-goes, no_weight, no_weight-none, popped-holds, start-holds, arrow-holds, formals-holds, due-holds, read-holds}

pub pieces-kinds : (e : Expr) → kinds_of (expr_pieces e) ≡ expr_kinds e
pieces-kinds e =
    let ps : List Piece = map token (expr_kinds e) in
    kinds-append ps (note expr_ends ∷ []) ∙ append-nil (kinds_of ps) ∙ kinds-tokens (expr_kinds e)

may-module : (m : Form) (n : ModuleName) (es : List Expr) → MayCut m (Module n es)
may-module production n es = tt
may-module homomorphism n es = tt

may-push : (m : Form) → MayCut m Push
may-push production = tt
may-push homomorphism = tt

may-pop : (m : Form) → MayCut m Pop
may-pop production = tt
may-pop homomorphism = tt

params-within : (b : ℕ) (xs ys : List Expr) → params_nesting xs ≤ b → params_nesting ys ≤ b → params_nesting (reversed_onto xs ys) ≤ b
params-within b [] ys h k = k
params-within b (x ∷ xs) ys h k = params-within b xs (x ∷ ys) (omega (arith, h)) (omega (arith, h, k))

string-within : (b : ℕ) (xs ys : List (Symbol Expr)) → string_nesting xs ≤ b → string_nesting ys ≤ b → string_nesting (reversed_onto xs ys) ≤ b
string-within b [] ys h k = k
string-within b (Module n es ∷ xs) ys h k = string-within b xs (Module n es ∷ ys) (omega (arith, h)) (omega (arith, h, k))
string-within b (Push ∷ xs) ys h k = string-within b xs (Push ∷ ys) h k
string-within b (Pop ∷ xs) ys h k = string-within b xs (Pop ∷ ys) h k
string-within b (Cut ∷ xs) ys h k = string-within b xs (Cut ∷ ys) h k

after-one : (h es : List Kind) (c k : Kind) → h ++ (c ∷ es ++ k ∷ []) ≡ ((h ++ c ∷ []) ++ es) ++ k ∷ []
after-one h es c k = simp append_assoc refl

after-two : (h o es : List Kind) (c k : Kind) → h ++ (o ++ (c ∷ es ++ k ∷ [])) ≡ ((h ++ (o ++ c ∷ [])) ++ es) ++ k ∷ []
after-two h o es c k = simp append_assoc refl

after-params : (h t ps es : List Kind) (n : Kind) → h ++ (t ++ n ∷ (ps ++ es)) ≡ (h ++ (t ++ n ∷ ps)) ++ es
after-params h t ps es n = simp append_assoc refl

after-body : (l f r c w s : List Kind) (k : Kind) → l ++ (f ++ (r ++ (c ++ (w ++ k ∷ s)))) ≡ ((l ++ (f ++ r)) ++ (c ++ (w ++ k ∷ []))) ++ s
after-body l f r c w s k = simp append_assoc refl

-- An expression e was read, and the token k ends it.
module _ (b : ℕ) (e : Expr) (ts : List Kind) (i : IsExpr e) (n : N.expr_nesting e ≤ b) where
  condition-body : (m : Form) (h : Head) → GoodHead m h → GoodBody m b (record { head = h; condition = Some e; weight = None })
  condition-body m h g = record { head = g; condition = i; near_condition = n; weight = tt; near_weight = omega arith; no_weight = no_weight-none m }

  weight-body : (m : Form) (h : Head) (c : Option Expr) → OnlyProduction m → GoodBody m b (record { head = h; condition = c; weight = None }) → GoodBody m b (record { head = h; condition = c; weight = Some e })
  weight-body m h c o g = record { head = g.head; condition = g.condition; near_condition = g.near_condition; weight = i; near_weight = n; no_weight = no_weight m e o }

  condition-at : (h : Head) → spot_kinds (as_condition h) ++ expr_kinds e ≡ ts → spot_kinds (as_weight h (Some e)) ≡ ts ++ At ∷ []
  condition-at h q = ap (λ ks. head_kinds h ++ (Colon ∷ ks ++ At ∷ [])) (pieces-kinds e) ∙ after-one (head_kinds h) (expr_kinds e) Colon At ∙ ap (λ ks. ks ++ At ∷ []) q

  condition-arrow : (h : Head) → spot_kinds (as_condition h) ++ expr_kinds e ≡ ts → body_kinds (record { head = h; condition = Some e; weight = None }) ≡ ts ++ Arrow ∷ []
  condition-arrow h q = ap (λ ks. head_kinds h ++ (Colon ∷ ks ++ Arrow ∷ [])) (pieces-kinds e) ∙ after-one (head_kinds h) (expr_kinds e) Colon Arrow ∙ ap (λ ks. ks ++ Arrow ∷ []) q

  weight-arrow : (h : Head) (c : Option Expr) → spot_kinds (as_weight h c) ++ expr_kinds e ≡ ts → body_kinds (record { head = h; condition = c; weight = Some e }) ≡ ts ++ Arrow ∷ []
  weight-arrow h c q =
      ap (λ ks. head_kinds h ++ (kinds_of (option_pieces Colon c) ++ (At ∷ ks ++ Arrow ∷ []))) (pieces-kinds e) ∙ after-two (head_kinds h) (kinds_of (option_pieces Colon c)) (expr_kinds e) At Arrow ∙ ap (λ ks. ks ++ Arrow ∷ []) q

  param-kinds : (d : Premise) (r : List (Symbol Expr)) (k : ModuleName) (es : List Expr) → spot_kinds (as_param d r k es) ++ expr_kinds e ≡ ts
      → body_kinds d ++ (taken expr_pieces r ++ name_kind k ∷ (params_before expr_pieces es ++ kinds_of (expr_pieces e))) ≡ ts
  param-kinds d r k es q = ap (λ ks. body_kinds d ++ (taken expr_pieces r ++ name_kind k ∷ (params_before expr_pieces es ++ ks))) (pieces-kinds e)
      ∙ after-params (body_kinds d) (taken expr_pieces r) (params_before expr_pieces es) (expr_kinds e) (name_kind k) ∙ q

  param-closed : (m : Form) (r : List (Symbol Expr)) (k : ModuleName) (es : List Expr) → GoodSuccessor m b (Module k [] ∷ r) → EachOf IsExpr es → params_nesting es ≤ b → GoodSuccessor m b (Module k (reversed (e ∷ es)) ∷ r)
  param-closed m r k es g h w =
      let near : params_nesting (reversed (e ∷ es)) ≤ b = params-within b (e ∷ es) [] (omega (arith, n, w)) (omega arith) in
      (((g.0.0.0, each-reversed IsExpr (e ∷ es) (i, h)), g.0.1), (may-module m k (reversed (e ∷ es)), g.1.1), omega (arith, near, g.2), (tt, g.3.1))

  pub done-holds : (m : Form) (k : Kind) (spot : Spot) → spot_kinds spot ++ expr_kinds e ≡ ts → GoodSpot m b spot → Holds m b (done_step m k spot e) (ts ++ k ∷ [])
  done-holds production At (as_condition h) q g = start-holds production b (as_weight h (Some e)) (ts ++ At ∷ []) (condition-at h q) (tt, condition-body production h g)
  done-holds homomorphism At (as_condition h) q g = tt
  done-holds m Arrow (as_condition h) q g = arrow-holds m b (record { head = h; condition = Some e; weight = None }) (ts ++ Arrow ∷ []) (condition-arrow h q) (condition-body m h g)
  done-holds m Arrow (as_weight h c) q g = arrow-holds m b (record { head = h; condition = c; weight = Some e }) (ts ++ Arrow ∷ []) (weight-arrow h c q) (weight-body m h c g.0 g.1)
  done-holds m Comma (as_param d r k es) q g =
      start-holds m b (as_param d r k (e ∷ es)) (ts ++ Comma ∷ []) (comma-goes expr_pieces (body_kinds d) ts k r e es (param-kinds d r k es q)) (g.0, g.1, (i, g.2), omega (arith, n, g.3))
  done-holds m RightParen (as_param d r k es) q g = (paren-closes expr_pieces (body_kinds d) ts k r e es (param-kinds d r k es q), g.0, param-closed m r k es g.1 g.2 g.3)
  done-holds m k spot q g = tt

module _ (m : Form) (b : ℕ) (spot : Spot) (k : Kind) (us ts : List Kind) (q : spot_kinds spot ++ us ≡ ts) (g : GoodSpot m b spot) where
  -- the state goes on with the token
  goes-on : (s : E.ExpressionState) → C.spelled s ≡ us ++ small k ∷ [] → small k ≡ k → spot_kinds spot ++ C.spelled s ≡ ts ++ k ∷ []
  goes-on s e f = ap (λ ks. spot_kinds spot ++ ks) (e ∙ ap (λ j. us ++ j ∷ []) f) ∙ sym (append_assoc (spot_kinds spot) us (k ∷ [])) ∙ ap (λ ks. ks ++ k ∷ []) q

  within-holds : (s : E.ExpressionState) → G.After b s us (small k) → (IsGoing s → small k ≡ k) → Holds m b (within m spot k s) (ts ++ k ∷ [])
  within-holds (E.Due j) a f = (goes-on (E.Due j) a.0 (f tt), g, tt, a.1, a.2)
  within-holds (E.Have x j) a f = (goes-on (E.Have x j) a.0 (f tt), g, tt, a.1, a.2)
  within-holds (E.HalfAnd x j) a f = (goes-on (E.HalfAnd x j) a.0 (f tt), g, tt, a.1, a.2)
  within-holds (E.HalfOr x j) a f = (goes-on (E.HalfOr x j) a.0 (f tt), g, tt, a.1, a.2)
  within-holds (E.Done e) a f = done-holds b e ts a.1 a.2 m k spot (ap (λ ks. spot_kinds spot ++ ks) a.0 ∙ q) g
  within-holds E.Stop a f = tt

within-depth : (m : Form) (b : ℕ) (spot : Spot) (k : Kind) (s : E.ExpressionState) → Shallow b (within m spot k s) → N.depth s ≤ b
within-depth m b spot k (E.Due j) h = h
within-depth m b spot k (E.Have x j) h = h
within-depth m b spot k (E.HalfAnd x j) h = h
within-depth m b spot k (E.HalfOr x j) h = h
within-depth m b spot k (E.Done e) h = omega arith
within-depth m b spot k E.Stop h = omega arith

expr-holds : (m : Form) (b : ℕ) (spot : Spot) (s : E.ExpressionState) (ts : List Kind) (k : Kind) → G.IsNamed k → Holds m b (InExpr spot s) ts → Shallow b (rule_step m (InExpr spot s) k) → Holds m b (rule_step m (InExpr spot s) k) (ts ++ k ∷ [])
expr-holds m b spot s ts k o h d =
    within-holds m b spot k (C.spelled s) ts h.0 h.1 (E.step s (small k))
    (G.step-after b s (small k) (G.small-operand k o) h.4 h.3 (within-depth m b spot k (E.step s (small k)) d)) (G.small-taken s k)

-- successors
module _ (m : Form) (b : ℕ) (d : Premise) (r : List (Symbol Expr)) (ts : List Kind) (h : Holds m b (Successor d r) ts) where
  put-name : (n : ModuleName) → IsModuleName n → Holds m b (Successor d (Module n [] ∷ r)) (ts ++ name_kind n ∷ [])
  put-name n g = (symbol-more expr_pieces (body_kinds d) ts (Module n []) r h.0, h.1, (((g, tt), h.2.0), (may-module m n [], h.2.1), omega (arith, h.2.2), (tt, h.2.3)))

  put-push : Holds m b (Successor d (Push ∷ r)) (ts ++ LeftBracket ∷ [])
  put-push = (symbol-more expr_pieces (body_kinds d) ts Push r h.0, h.1, ((tt, h.2.0), (may-push m, h.2.1), h.2.2, (tt, h.2.3)))

  pub put-pop : 0 < open_in r → Holds m b (Successor d (Pop ∷ r)) (ts ++ RightBracket ∷ [])
  put-pop c = (symbol-more expr_pieces (body_kinds d) ts Pop r h.0, h.1, ((tt, h.2.0), (may-pop m, h.2.1), h.2.2, (c, h.2.3)))

put-cut : (m : Form) (b : ℕ) (d : Premise) (r : List (Symbol Expr)) (ts : List Kind) → Holds m b (Successor d r) ts → Holds m b (only_production m (Successor d (Cut ∷ r))) (ts ++ Percent ∷ [])
put-cut production b d r ts h = (symbol-more expr_pieces (body_kinds d) ts Cut r h.0, h.1, ((tt, h.2.0), (tt, h.2.1), h.2.2, (tt, h.2.3)))
put-cut homomorphism b d r ts h = tt

put-sign : (m : Form) (b : ℕ) (d : Premise) (r : List (Symbol Expr)) (ts : List Kind) (k : Kind) (g : Sign) → IsSignOf k g → G.IsNamed k → Holds m b (Successor d r) ts → Holds m b (successor_sign m g d r) (ts ++ k ∷ [])
put-sign m b d r ts k (a_name n) i o h = subst (λ j. Holds m b (Successor d (Module n [] ∷ r)) (ts ++ j ∷ [])) (sym i.0) (put-name m b d r ts h n (i.1 o))
put-sign m b d r ts k a_push i o h = subst (λ j. Holds m b (Successor d (Push ∷ r)) (ts ++ j ∷ [])) (sym i) (put-push m b d r ts h)
put-sign m b d r ts k a_pop i o h =
    subst (λ j. Holds m b (popped (open_in r) (Successor d (Pop ∷ r))) (ts ++ j ∷ [])) (sym i) (popped-holds m b (open_in r) (Successor d (Pop ∷ r)) (ts ++ RightBracket ∷ []) (put-pop m b d r ts h))
put-sign m b d r ts k a_cut i o h = subst (λ j. Holds m b (only_production m (Successor d (Cut ∷ r))) (ts ++ j ∷ [])) (sym i) (put-cut m b d r ts h)
put-sign m b d r ts k no_sign i o h = tt

put-open : (m : Form) (b : ℕ) (d : Premise) (r : List (Symbol Expr)) (ts : List Kind) → Holds m b (Successor d r) ts → Holds m b (successor_open d r) (ts ++ LeftParen ∷ [])
put-open m b d [] ts h = tt
put-open m b d (Module n [] ∷ r) ts h = start-holds m b (as_param d r n []) (ts ++ LeftParen ∷ []) (paren-opens expr_pieces (body_kinds d) ts n r h.0) (h.1, h.2, tt, omega arith)
put-open m b d (Module n (e ∷ es) ∷ r) ts h = tt
put-open m b d (Push ∷ r) ts h = tt
put-open m b d (Pop ∷ r) ts h = tt
put-open m b d (Cut ∷ r) ts h = tt

successor-holds : (m : Form) (b : ℕ) (d : Premise) (r : List (Symbol Expr)) (ts : List Kind) (k : Kind) → G.IsNamed k → Holds m b (Successor d r) ts → Holds m b (successor_step m k d r) (ts ++ k ∷ [])
successor-holds m b d r ts LeftParen o h = put-open m b d r ts h
successor-holds m b d r ts k o h = put-sign m b d r ts k (sign_of k) (sign-is k) o h

-- Each step takes its token.
pub step-holds : (m : Form) (b : ℕ) (s : RuleState) (ts : List Kind) (k : Kind) → G.IsNamed k → Holds m b s ts → Shallow b (rule_step m s k) → Holds m b (rule_step m s k) (ts ++ k ∷ [])
step-holds m b (Formals p r) ts k o h d = formals-holds m b p r ts k o h
step-holds m b (FormalDue p r n fs) ts k o h d = due-holds m b p r n fs ts k o h
step-holds m b (FormalRead p r n fs) ts k o h d = read-holds m b p r n fs ts k h
step-holds m b (InExpr spot s) ts k o h d = expr-holds m b spot s ts k o h d
step-holds m b (Successor c r) ts k o h d = successor-holds m b c r ts k o h
step-holds m b Stop ts k o h d = tt

-- A rule that is spelled by the tokens ts, of its form and nested at most b deep.
abbrev pub IsSpelled : Form → ℕ → List Kind → Rule → Type 0
IsSpelled m b ts r = (kinds_of (rule_pieces r) ≡ ts) × IsRule r × OfForm m r × (rule_nesting r ≤ b)

abbrev pub OnRule : Form → ℕ → List Kind → Option Rule → Type 0
OnRule m b ts None = Unit {0}
OnRule m b ts (Some r) = IsSpelled m b ts r

successor-kinds : (xs : List (Symbol Expr)) → kinds_of (successor_pieces xs) ≡ spelled_string expr_pieces xs
successor-kinds [] = refl
successor-kinds (x ∷ xs) = refl

rule-kinds : (d : Premise) (xs : List (Symbol Expr)) → kinds_of (rule_pieces (rule_with d xs)) ≡ body_kinds d ++ spelled_string expr_pieces xs
rule-kinds d xs =
    let l : List Piece = left_pieces d.head.left in
    let f : List Piece = predecessor_pieces d.head.name d.head.formals in
    let r : List Piece = right_pieces d.head.right in
    let c : List Piece = option_pieces Colon d.condition in
    let w : List Piece = option_pieces At d.weight in
    let last : List Piece = blank ∷ token Arrow ∷ successor_pieces xs in
    kinds-append l (f ++ (r ++ (c ++ (w ++ last))))
    ∙ ap (λ ks. kinds_of l ++ ks) (kinds-append f (r ++ (c ++ (w ++ last))))
    ∙ ap (λ ks. kinds_of l ++ (kinds_of f ++ ks)) (kinds-append r (c ++ (w ++ last)))
    ∙ ap (λ ks. kinds_of l ++ (kinds_of f ++ (kinds_of r ++ ks))) (kinds-append c (w ++ last))
    ∙ ap (λ ks. kinds_of l ++ (kinds_of f ++ (kinds_of r ++ (kinds_of c ++ ks)))) (kinds-append w last)
    ∙ ap (λ ks. kinds_of l ++ (kinds_of f ++ (kinds_of r ++ (kinds_of c ++ (kinds_of w ++ Arrow ∷ ks))))) (successor-kinds xs)
    ∙ after-body (kinds_of l) (kinds_of f) (kinds_of r) (kinds_of c) (kinds_of w) (spelled_string expr_pieces xs) Arrow

closed-rule : (m : Form) (b : ℕ) (ts : List Kind) (n : ℕ) (r : Rule) → (n ≡ 0 → IsSpelled m b ts r) → OnRule m b ts (where_closed n (Some r))
closed-rule m b ts zero r f = f refl
closed-rule m b ts (suc n) r f = tt

pub rule-spelled : (m : Form) (b : ℕ) (d : Premise) (r : List (Symbol Expr)) (ts : List Kind) → Holds m b (Successor d r) ts → open_in r ≡ 0 → IsSpelled m b ts (rule_with d (reversed r))
rule-spelled m b d r ts h e =
    let g : GoodHead m d.head = h.1.head in
    let near : string_nesting (reversed r) ≤ b = string-within b r [] h.2.2 (omega arith) in (
      rule-kinds d (reversed r) ∙ h.0,
      record {
        left = g.left.0;
        patterns = g.left.1;
        name = g.name;
        formals = g.formals;
        right = g.right;
        items = g.items;
        right_balanced = g.right_balanced;
        condition = h.1.condition;
        weight = h.1.weight;
        successor = each-reversed (IsSymbol IsExpr) r h.2.0;
        successor_balanced = nests-closed r h.2.3 e;
      },
      record { left = g.no_left; right = g.no_right; weight = h.1.no_weight; cuts = each-reversed (MayCut m) r h.2.1 },
      omega (arith, h.1.near_condition, h.1.near_weight, near),
    )

-- Where a rule may end, the tokens that were taken spell it.
pub whole-spelled : (m : Form) (b : ℕ) (s : RuleState) (ts : List Kind) → Holds m b s ts → OnRule m b ts (whole s)
whole-spelled m b (Formals p r) ts h = tt
whole-spelled m b (FormalDue p r n fs) ts h = tt
whole-spelled m b (FormalRead p r n fs) ts h = tt
whole-spelled m b (InExpr spot s) ts h = tt
whole-spelled m b (Successor d r) ts h = closed-rule m b ts (open_in r) (rule_with d (reversed r)) (rule-spelled m b d r ts h)
whole-spelled m b Stop ts h = tt

-- A spelled rule is read as that rule, and no state on the way is deeper than its nesting.
use Rattle.std.proofs.Common.{◌≡◌, ℕ, zero, suc, true, Option, Some, None, List, [], ◌∷◌, ◌++◌, ◌<◌, ◌≤◌, refl, ap, ◌∙◌, sym, subst, append_assoc, arith}
use Rattle.lsys_syntax.specs.Tokens.{NameText, Kind, RightParen, RightBracket, Comma, Colon, At, Arrow, Less, Greater}
use Rattle.lsys_syntax.specs.Pieces.{Piece, blank, token, note, a_param, right_begins}
use Rattle.lsys_syntax.specs.Strings.{ModuleName, named, plus, minus, ampersand, caret, backslash, slash, bar, bang, Symbol, Module, Push, Pop, Cut, name_kind, more_pieces, params_pieces, symbol_pieces, string_pieces, EachOf, IsSymbol, balanced}
use Rattle.lsys_syntax.specs.Expressions.{Expr, expr_pieces, IsExpr}
use Rattle.lsys_syntax.specs.ExpressionMachine as E
use Rattle.lsys_syntax.specs.Nesting.{expr_nesting}
use Rattle.lsys_syntax.specs.Rules.{Rule, formal_pieces, left_pieces, predecessor_pieces, right_pieces, option_pieces, successor_pieces, rule_pieces, IsOption, IsPattern, IsItem, IsRule, option_nesting, params_nesting, string_nesting, rule_nesting}
use Rattle.lsys_syntax.specs.RuleMachine.{Form, production, homomorphism, reversed_onto, reversed, open_in, Part, at_first, at_predecessor, at_right, Head, Premise, Spot, as_condition, as_weight, as_param, RuleState, Formals, FormalDue, FormalRead, InExpr, Successor, Stop, popped, one_more, where_closed, head_of, expr_start, with_head, done_step, within, small, rule_step, start, rule_with, whole}
use Rattle.lsys_syntax.proofs.Complete.{leave_expr, other-ends, paren-ends}
use Rattle.lsys_syntax.proofs.Leads.{Leads, leads-append, leads-token, leads-to, Closes, Puts, string-leads, none_open, reversed-one, twice}
use Rattle.lsys_syntax.proofs.ExprLeads.{Shallow, expr-leads}

abbrev pub Lead : Form → ℕ → RuleState → List Piece → RuleState → Type 0
Lead m b s ps t = Leads (rule_step m) (Shallow b) s ps t

-- What a homomorphism rule doesn't have.
abbrev pub Absent : Form → List (Symbol NameText) → Type 0
Absent homomorphism (x ∷ xs) = ⊥
Absent m xs = Unit {0}

abbrev pub NoWeight : Form → Option Expr → Type 0
NoWeight homomorphism (Some e) = ⊥
NoWeight m w = Unit {0}

abbrev pub MayCut : Form → Symbol Expr → Type 0
MayCut homomorphism Cut = ⊥
MayCut m x = Unit {0}

pub record OfForm (m : Form) (r : Rule) : Type 0 where
  pub left : Absent m r.left
  pub right : Absent m r.right
  pub weight : NoWeight m r.weight
  pub cuts : EachOf (MayCut m) r.successor

popped-open : (n : ℕ) (s : RuleState) → 0 < n → popped n s ≡ s
popped-open zero s h = absurd (omega arith)
popped-open (suc n) s h = refl

-- modules with formals
module _ (m : Form) (b : ℕ) (p : Part) (r : List (Symbol NameText)) where
  formals-more : (fs acc : List NameText) (n : ModuleName) → Lead m b (FormalRead p r n acc) (more_pieces formal_pieces fs ++ token RightParen ∷ []) (Formals p (Module n (reversed (reversed_onto fs acc)) ∷ r))
  formals-more [] acc n = (tt, refl)
  formals-more (f ∷ fs) acc n = (tt, (tt, formals-more fs (f ∷ acc) n))

  formals-params : (fs : List NameText) (n : ModuleName) → Lead m b (Formals p (Module n [] ∷ r)) (params_pieces formal_pieces fs) (Formals p (Module n fs ∷ r))
  formals-params [] n = refl
  formals-params (f ∷ fs) n =
      let e : Formals p (Module n (reversed (reversed_onto fs (f ∷ []))) ∷ r) ≡ Formals p (Module n (f ∷ fs) ∷ r) = ap (λ gs. Formals p (Module n gs ∷ r)) (reversed-one f fs) in
      (tt, (tt, leads-to (rule_step m) (Shallow b) (more_pieces formal_pieces fs ++ token RightParen ∷ []) (FormalRead p r n (f ∷ [])) (Formals p (Module n (reversed (reversed_onto fs (f ∷ []))) ∷ r)) (Formals p (Module n (f ∷ fs) ∷ r)) e (formals-more fs (f ∷ []) n)))

  formals-name : (n : ModuleName) → rule_step m (Formals p r) (name_kind n) ≡ one_more m p r (Formals p (Module n [] ∷ r))
  formals-name (named n) = refl
  formals-name plus = refl
  formals-name minus = refl
  formals-name ampersand = refl
  formals-name caret = refl
  formals-name backslash = refl
  formals-name slash = refl
  formals-name bar = refl
  formals-name bang = refl

  formals-module : (n : ModuleName) (fs : List NameText) → one_more m p r (Formals p (Module n [] ∷ r)) ≡ Formals p (Module n [] ∷ r) → Lead m b (Formals p r) (symbol_pieces formal_pieces (Module n fs)) (Formals p (Module n fs ∷ r))
  formals-module n fs e =
      leads-token (rule_step m) (Shallow b) (name_kind n) (params_pieces formal_pieces fs) (Formals p r) (Formals p (Module n [] ∷ r)) (Formals p (Module n fs ∷ r)) (formals-name n ∙ e) tt (formals-params fs n)

-- brackets stand in right contexts alone
abbrev Allowed : Part → Symbol NameText → Type 0
Allowed (at_right l n fs) s = IsItem s
Allowed at_first s = IsPattern s
Allowed (at_predecessor l) s = ⊥

-- patterns stand one after another but as a predecessor
several : (p : Part) (r : List (Symbol NameText)) (x : Symbol NameText) (s : RuleState) → Allowed p x → one_more production p r s ≡ s
several p [] x s a = refl
several at_first (y ∷ r) x s a = refl
several (at_right l n fs) (y ∷ r) x s a = refl
several (at_predecessor l) (y ∷ r) x s a = elim a [ ]

module _ (b : ℕ) where
  formals-symbol : (x : Symbol NameText) (p : Part) (r : List (Symbol NameText)) → Allowed p x → Closes x (open_in r) → Lead production b (Formals p r) (symbol_pieces formal_pieces x) (Formals p (x ∷ r))
  formals-symbol (Module n fs) p r a c = formals-module production b p r n fs (several p r (Module n fs) (Formals p (Module n [] ∷ r)) a)
  formals-symbol Push (at_right l n fs) r a c = (tt, refl)
  formals-symbol Pop (at_right l n fs) r a c =
      leads-token (rule_step production) (Shallow b) RightBracket [] (Formals (at_right l n fs) r) (Formals (at_right l n fs) (Pop ∷ r)) (Formals (at_right l n fs) (Pop ∷ r)) (popped-open (open_in r) (Formals (at_right l n fs) (Pop ∷ r)) c) tt refl
  formals-symbol Cut (at_right l n fs) r a c = elim a [ ]
  formals-symbol Push at_first r a c = elim a [ ]
  formals-symbol Pop at_first r a c = elim a [ ]
  formals-symbol Cut at_first r a c = elim a [ ]
  formals-symbol Push (at_predecessor l) r a c = elim a [ ]
  formals-symbol Pop (at_predecessor l) r a c = elim a [ ]
  formals-symbol Cut (at_predecessor l) r a c = elim a [ ]

  each-formals : (xs : List (Symbol NameText)) (p : Part) → EachOf (Allowed p) xs → EachOf (Puts (rule_step production) (Shallow b) (Formals p) formal_pieces) xs
  each-formals [] p h = tt
  each-formals (x ∷ xs) p h = (λ r c. formals-symbol x p r h.0 c, each-formals xs p h.1)

  string-formals : (xs : List (Symbol NameText)) (p : Part) → EachOf (Allowed p) xs → balanced 0 xs ≡ true → Lead production b (Formals p []) (string_pieces formal_pieces xs) (Formals p (reversed_onto xs []))
  string-formals xs p h e = string-leads (rule_step production) (Shallow b) (Formals p) formal_pieces xs [] (each-formals xs p h) e

patterns-balanced : (xs : List (Symbol NameText)) → EachOf IsPattern xs → balanced 0 xs ≡ true
patterns-balanced [] h = refl
patterns-balanced (Module n fs ∷ xs) h = patterns-balanced xs h.1
patterns-balanced (Push ∷ xs) h = elim h.0 [ ]
patterns-balanced (Pop ∷ xs) h = elim h.0 [ ]
patterns-balanced (Cut ∷ xs) h = elim h.0 [ ]

-- contexts
abbrev part_after : List (Symbol NameText) → Part
part_after [] = at_first
part_after (x ∷ xs) = at_predecessor (x ∷ xs)

left-ends : (xs r : List (Symbol NameText)) (x : Symbol NameText) → rule_step production (Formals at_first (reversed_onto xs (x ∷ r))) Less ≡ Formals (at_predecessor (reversed (reversed_onto xs (x ∷ r)))) []
left-ends [] r x = refl
left-ends (y ∷ ys) r x = left-ends ys (x ∷ r) y

left-leads : (m : Form) (b : ℕ) (xs : List (Symbol NameText)) → Absent m xs → EachOf IsPattern xs → Lead m b start (left_pieces xs) (Formals (part_after xs) [])
left-leads production b [] o h = refl
left-leads homomorphism b [] o h = refl
left-leads homomorphism b (x ∷ xs) o h = elim o [ ]
left-leads production b (x ∷ xs) o h =
    let read : List (Symbol NameText) = reversed_onto (x ∷ xs) [] in
    let e : rule_step production (Formals at_first read) Less ≡ Formals (at_predecessor (x ∷ xs)) [] = left-ends xs [] x ∙ ap (λ l. Formals (at_predecessor l) []) (twice (x ∷ xs)) in
    leads-append (rule_step production) (Shallow b) (string_pieces formal_pieces (x ∷ xs)) (blank ∷ token Less ∷ blank ∷ []) start (Formals at_first read) (Formals (at_predecessor (x ∷ xs)) [])
    (string-formals b (x ∷ xs) at_first h (patterns-balanced (x ∷ xs) h))
    (leads-token (rule_step production) (Shallow b) Less (blank ∷ []) (Formals at_first read) (Formals (at_predecessor (x ∷ xs)) []) (Formals (at_predecessor (x ∷ xs)) []) e tt refl)

-- after the right context, which there may be
abbrev right_after : List (Symbol NameText) → ModuleName → List NameText → List (Symbol NameText) → RuleState
right_after l n fs [] = Formals (part_after l) (Module n fs ∷ [])
right_after l n fs (x ∷ xs) = Formals (at_right l n fs) (reversed_onto (x ∷ xs) [])

right-begins : (l : List (Symbol NameText)) (n : ModuleName) (fs : List NameText) → rule_step production (Formals (part_after l) (Module n fs ∷ [])) Greater ≡ Formals (at_right l n fs) []
right-begins [] n fs = refl
right-begins (x ∷ xs) n fs = refl

right-leads : (m : Form) (b : ℕ) (l : List (Symbol NameText)) (n : ModuleName) (fs : List NameText) (xs : List (Symbol NameText)) → Absent m xs → EachOf IsItem xs → balanced 0 xs ≡ true → Lead m b (Formals (part_after l) (Module n fs ∷ [])) (right_pieces xs) (right_after l n fs xs)
right-leads m b l n fs [] o h e = refl
right-leads homomorphism b l n fs (x ∷ xs) o h e = elim o [ ]
right-leads production b l n fs (x ∷ xs) o h e =
    leads-token (rule_step production) (Shallow b) Greater (blank ∷ note right_begins ∷ string_pieces formal_pieces (x ∷ xs)) (Formals (part_after l) (Module n fs ∷ [])) (Formals (at_right l n fs) []) (Formals (at_right l n fs) (reversed_onto (x ∷ xs) []))
    (right-begins l n fs) tt (string-formals b (x ∷ xs) (at_right l n fs) h e)

-- the head that stands after the contexts
abbrev head_in : RuleState → Option Head
head_in (Formals p r) = head_of p r
head_in s = None

right-head : (l : List (Symbol NameText)) (n : ModuleName) (fs : List NameText) (xs r : List (Symbol NameText)) (x : Symbol NameText) → open_in (reversed_onto xs (x ∷ r)) ≡ 0
    → head_of (at_right l n fs) (reversed_onto xs (x ∷ r)) ≡ Some (record { left = l; name = n; formals = fs; right = reversed (reversed_onto xs (x ∷ r)) })
right-head l n fs [] r x o = ap (λ k. where_closed k (Some (record { left = l; name = n; formals = fs; right = reversed (x ∷ r) }))) o
right-head l n fs (y ∷ ys) r x o = right-head l n fs ys (x ∷ r) y o

head-after : (l : List (Symbol NameText)) (n : ModuleName) (fs : List NameText) (xs : List (Symbol NameText)) → balanced 0 xs ≡ true → head_in (right_after l n fs xs) ≡ Some (record { left = l; name = n; formals = fs; right = xs })
head-after [] n fs [] e = refl
head-after (y ∷ ys) n fs [] e = refl
head-after l n fs (x ∷ xs) e = right-head l n fs xs [] x (none_open (x ∷ xs) [] e) ∙ ap (λ rs. Some (record { left = l; name = n; formals = fs; right = rs })) (twice (x ∷ xs))

module _ (m : Form) (b : ℕ) where
  -- an expression, and after it a token that ends it
  expr-to : (e : Expr) (spot : Spot) (t : Kind) (ps : List Piece) (s u : RuleState) → IsExpr e → expr_nesting e ≤ b → small t ≡ t → E.what_follows t ≡ E.expr_step E.other → done_step m t spot e ≡ s → Shallow b s → Lead m b s ps u
      → Lead m b (InExpr spot expr_start) (expr_pieces e ++ blank ∷ token t ∷ ps) u
  expr-to e spot t ps s u g n k o d f l =
      let last : RuleState = InExpr spot (leave_expr e E.no_parens) in
      let ends : rule_step m last t ≡ s = ap (λ x. within m spot t (E.step (leave_expr e E.no_parens) x)) k ∙ ap (within m spot t) (other-ends t o e) ∙ d in
      leads-append (rule_step m) (Shallow b) (expr_pieces e) (blank ∷ token t ∷ ps) (InExpr spot expr_start) last u (expr-leads m b spot e g n) (leads-token (rule_step m) (Shallow b) t ps last s u ends f l)

  at-start : (spot : Spot) → Shallow b (InExpr spot expr_start)
  at-start spot = omega arith

  -- the token before an expression, and the expression
  expr-begins : (k : Kind) (ps : List Piece) (spot : Spot) (s u : RuleState) → rule_step m s k ≡ InExpr spot expr_start → Lead m b (InExpr spot expr_start) ps u → Lead m b s (blank ∷ token k ∷ blank ∷ ps) u
  expr-begins k ps spot s u e l = leads-token (rule_step m) (Shallow b) k (blank ∷ ps) s (InExpr spot expr_start) u e (at-start spot) l

-- From a state with a head, through condition and weight, to the arrow.
tail-leads : (m : Form) (b : ℕ) (p : Part) (r : List (Symbol NameText)) (h : Head) (c w : Option Expr) (ps : List Piece) (u : RuleState) → head_of p r ≡ Some h
    → IsOption c → IsOption w → NoWeight m w → option_nesting c ≤ b → option_nesting w ≤ b
    → Lead m b (Successor (record { head = h; condition = c; weight = w }) []) ps u
    → Lead m b (Formals p r) (option_pieces Colon c ++ (option_pieces At w ++ blank ∷ token Arrow ∷ ps)) u
tail-leads m b p r h None None ps u e gc gw o nc nw l =
    leads-token (rule_step m) (Shallow b) Arrow ps (Formals p r) (Successor (record { head = h; condition = None; weight = None }) []) u (ap (with_head (λ j. Successor (record { head = j; condition = None; weight = None }) [])) e) tt l
tail-leads m b p r h (Some c) None ps u e gc gw o nc nw l =
    expr-begins m b Colon (expr_pieces c ++ blank ∷ token Arrow ∷ ps) (as_condition h) (Formals p r) u (ap (with_head (λ j. InExpr (as_condition j) expr_start)) e)
    (expr-to m b c (as_condition h) Arrow ps (Successor (record { head = h; condition = Some c; weight = None }) []) u gc nc refl refl refl tt l)
tail-leads homomorphism b p r h c (Some w) ps u e gc gw o nc nw l = elim o [ ]
tail-leads production b p r h None (Some w) ps u e gc gw o nc nw l =
    expr-begins production b At (expr_pieces w ++ blank ∷ token Arrow ∷ ps) (as_weight h None) (Formals p r) u (ap (with_head (λ j. InExpr (as_weight j None) expr_start)) e)
    (expr-to production b w (as_weight h None) Arrow ps (Successor (record { head = h; condition = None; weight = Some w }) []) u gw nw refl refl refl tt l)
tail-leads production b p r h (Some c) (Some w) ps u e gc gw o nc nw l =
    let rest : List Piece = blank ∷ (expr_pieces w ++ blank ∷ token Arrow ∷ ps) in
    expr-begins production b Colon (expr_pieces c ++ blank ∷ token At ∷ rest) (as_condition h) (Formals p r) u (ap (with_head (λ j. InExpr (as_condition j) expr_start)) e)
    (expr-to production b c (as_condition h) At rest (InExpr (as_weight h (Some c)) expr_start) u gc nc refl refl refl (at-start production b (as_weight h (Some c)))
    (expr-to production b w (as_weight h (Some c)) Arrow ps (Successor (record { head = h; condition = Some c; weight = Some w }) []) u gw nw refl refl refl tt l))

tail-after : (m : Form) (b : ℕ) (s : RuleState) (h : Head) (c w : Option Expr) (ps : List Piece) (u : RuleState) → head_in s ≡ Some h
    → IsOption c → IsOption w → NoWeight m w → option_nesting c ≤ b → option_nesting w ≤ b
    → Lead m b (Successor (record { head = h; condition = c; weight = w }) []) ps u
    → Lead m b s (option_pieces Colon c ++ (option_pieces At w ++ blank ∷ token Arrow ∷ ps)) u
tail-after m b (Formals p r) h c w ps u e gc gw o nc nw l = tail-leads m b p r h c w ps u e gc gw o nc nw l
tail-after m b (FormalDue p r n fs) h c w ps u e gc gw o nc nw l = cc
tail-after m b (FormalRead p r n fs) h c w ps u e gc gw o nc nw l = cc
tail-after m b (InExpr spot s) h c w ps u e gc gw o nc nw l = cc
tail-after m b (Successor d r) h c w ps u e gc gw o nc nw l = cc
tail-after m b Stop h c w ps u e gc gw o nc nw l = cc

-- successors
module _ (m : Form) (b : ℕ) (d : Premise) where
  params-more : (es acc : List Expr) (e : Expr) (r : List (Symbol Expr)) (n : ModuleName) → EachOf IsExpr es → params_nesting es ≤ b
      → Lead m b (InExpr (as_param d r n acc) (leave_expr e E.no_parens)) (more_pieces expr_pieces es ++ token RightParen ∷ []) (Successor d (Module n (reversed (reversed_onto es (e ∷ acc))) ∷ r))
  params-more [] acc e r n g h =
      let last : RuleState = Successor d (Module n (reversed (e ∷ acc)) ∷ r) in
      leads-token (rule_step m) (Shallow b) RightParen [] (InExpr (as_param d r n acc) (leave_expr e E.no_parens)) last last (ap (within m (as_param d r n acc) RightParen) (paren-ends e)) tt refl
  params-more (f ∷ fs) acc e r n g h =
      let spot : Spot = as_param d r n (e ∷ acc) in
      let more : List Piece = more_pieces expr_pieces fs ++ token RightParen ∷ [] in
      let last : RuleState = Successor d (Module n (reversed (reversed_onto fs (f ∷ e ∷ acc))) ∷ r) in
      leads-token (rule_step m) (Shallow b) Comma (note a_param ∷ ((expr_pieces f ++ more_pieces expr_pieces fs) ++ token RightParen ∷ [])) (InExpr (as_param d r n acc) (leave_expr e E.no_parens)) (InExpr spot expr_start) last
      (ap (within m (as_param d r n acc) Comma) (other-ends Comma refl e)) (at-start m b spot)
      (subst (λ ps. Lead m b (InExpr spot expr_start) ps last) (sym (append_assoc (expr_pieces f) (more_pieces expr_pieces fs) (token RightParen ∷ [])))
      (leads-append (rule_step m) (Shallow b) (expr_pieces f) more (InExpr spot expr_start) (InExpr spot (leave_expr f E.no_parens)) last (expr-leads m b spot f g.0 (omega (arith, h))) (params-more fs (e ∷ acc) f r n g.1 (omega (arith, h)))))

  params-put : (es : List Expr) (r : List (Symbol Expr)) (n : ModuleName) → EachOf IsExpr es → params_nesting es ≤ b → Lead m b (Successor d (Module n [] ∷ r)) (params_pieces expr_pieces es) (Successor d (Module n es ∷ r))
  params-put [] r n g h = refl
  params-put (e ∷ es) r n g h =
      let spot : Spot = as_param d r n [] in
      let more : List Piece = more_pieces expr_pieces es ++ token RightParen ∷ [] in
      let read : RuleState = Successor d (Module n (reversed (reversed_onto es (e ∷ []))) ∷ r) in (
        at-start m b spot,
        leads-to (rule_step m) (Shallow b) (expr_pieces e ++ more) (InExpr spot expr_start) read (Successor d (Module n (e ∷ es) ∷ r)) (ap (λ fs. Successor d (Module n fs ∷ r)) (reversed-one e es))
            (leads-append (rule_step m) (Shallow b) (expr_pieces e) more (InExpr spot expr_start) (InExpr spot (leave_expr e E.no_parens)) read (expr-leads m b spot e g.0 (omega (arith, h))) (params-more es [] e r n g.1 (omega (arith, h)))),
      )

  successor-name : (n : ModuleName) (r : List (Symbol Expr)) → rule_step m (Successor d r) (name_kind n) ≡ Successor d (Module n [] ∷ r)
  successor-name (named n) r = refl
  successor-name plus r = refl
  successor-name minus r = refl
  successor-name ampersand r = refl
  successor-name caret r = refl
  successor-name backslash r = refl
  successor-name slash r = refl
  successor-name bar r = refl
  successor-name bang r = refl

  successor-module : (n : ModuleName) (es : List Expr) (r : List (Symbol Expr)) → EachOf IsExpr es → params_nesting es ≤ b → Lead m b (Successor d r) (symbol_pieces expr_pieces (Module n es)) (Successor d (Module n es ∷ r))
  successor-module n es r g h =
      leads-token (rule_step m) (Shallow b) (name_kind n) (params_pieces expr_pieces es) (Successor d r) (Successor d (Module n [] ∷ r)) (Successor d (Module n es ∷ r)) (successor-name n r) tt (params-put es r n g h)

  successor-pop : (r : List (Symbol Expr)) → 0 < open_in r → Lead m b (Successor d r) (symbol_pieces expr_pieces Pop) (Successor d (Pop ∷ r))
  successor-pop r c =
      leads-token (rule_step m) (Shallow b) RightBracket [] (Successor d r) (Successor d (Pop ∷ r)) (Successor d (Pop ∷ r)) (popped-open (open_in r) (Successor d (Pop ∷ r)) c) tt refl

successor-cut : (m : Form) (b : ℕ) (d : Premise) (r : List (Symbol Expr)) → MayCut m Cut → Lead m b (Successor d r) (symbol_pieces expr_pieces Cut) (Successor d (Cut ∷ r))
successor-cut production b d r c = (tt, refl)
successor-cut homomorphism b d r c = elim c [ ]

module _ (m : Form) (b : ℕ) (d : Premise) where
  each-put : (xs : List (Symbol Expr)) → EachOf (IsSymbol IsExpr) xs → EachOf (MayCut m) xs → string_nesting xs ≤ b → EachOf (Puts (rule_step m) (Shallow b) (Successor d) expr_pieces) xs
  each-put [] g c h = tt
  each-put (Module n es ∷ xs) g c h = (λ r k. successor-module m b d n es r g.0.1 (omega (arith, h)), each-put xs g.1 c.1 (omega (arith, h)))
  each-put (Push ∷ xs) g c h = (λ r k. (tt, refl), each-put xs g.1 c.1 h)
  each-put (Pop ∷ xs) g c h = (λ r k. successor-pop m b d r k, each-put xs g.1 c.1 h)
  each-put (Cut ∷ xs) g c h = (λ r k. successor-cut m b d r c.0, each-put xs g.1 c.1 h)

  successor-leads : (xs : List (Symbol Expr)) → EachOf (IsSymbol IsExpr) xs → EachOf (MayCut m) xs → string_nesting xs ≤ b → balanced 0 xs ≡ true → Lead m b (Successor d []) (successor_pieces xs) (Successor d (reversed_onto xs []))
  successor-leads [] g c h e = refl
  successor-leads (x ∷ xs) g c h e = string-leads (rule_step m) (Shallow b) (Successor d) expr_pieces (x ∷ xs) [] (each-put (x ∷ xs) g c h) e

abbrev pub read_rule : Rule → RuleState
read_rule r = Successor (record { head = record { left = r.left; name = r.name; formals = r.formals; right = r.right }; condition = r.condition; weight = r.weight }) (reversed_onto r.successor [])

pub rule-leads : (m : Form) (b : ℕ) (r : Rule) → IsRule r → OfForm m r → rule_nesting r ≤ b → Lead m b start (rule_pieces r) (read_rule r)
rule-leads m b r g o h =
    let d : Premise = record { head = record { left = r.left; name = r.name; formals = r.formals; right = r.right }; condition = r.condition; weight = r.weight } in
    let last : List Piece = option_pieces Colon r.condition ++ (option_pieces At r.weight ++ blank ∷ token Arrow ∷ successor_pieces r.successor) in
    let first : List Piece = predecessor_pieces r.name r.formals in
    let one : RuleState = Formals (part_after r.left) (Module r.name r.formals ∷ []) in
    let two : RuleState = right_after r.left r.name r.formals r.right in
    leads-append (rule_step m) (Shallow b) (left_pieces r.left) (first ++ (right_pieces r.right ++ last)) start (Formals (part_after r.left) []) (read_rule r) (left-leads m b r.left o.left g.patterns)
    (leads-append (rule_step m) (Shallow b) first (right_pieces r.right ++ last) (Formals (part_after r.left) []) one (read_rule r) (formals-module m b (part_after r.left) [] r.name r.formals refl)
    (leads-append (rule_step m) (Shallow b) (right_pieces r.right) last one two (read_rule r) (right-leads m b r.left r.name r.formals r.right o.right g.items g.right_balanced)
    (tail-after m b two d.head r.condition r.weight (successor_pieces r.successor) (read_rule r) (head-after r.left r.name r.formals r.right g.right_balanced) g.condition g.weight o.weight (omega (arith, h)) (omega (arith, h))
    (successor-leads m b d r.successor g.successor o.cuts (omega (arith, h)) g.successor_balanced))))

pub read_rule-whole : (r : Rule) → IsRule r → whole (read_rule r) ≡ Some r
read_rule-whole r g =
    let d : Premise = record { head = record { left = r.left; name = r.name; formals = r.formals; right = r.right }; condition = r.condition; weight = r.weight } in
    ap (λ n. where_closed n (Some (rule_with d (reversed (reversed_onto r.successor []))))) (none_open r.successor [] g.successor_balanced)
    ∙ ap (λ xs. Some (rule_with d xs)) (twice r.successor)

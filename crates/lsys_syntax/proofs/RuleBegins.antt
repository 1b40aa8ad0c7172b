-- The tokens of a rule's state are the beginning of a rule: what is due is put, and what is open is closed.
use Rattle.std.proofs.Common.{◌≡◌, ℕ, zero, suc, ◌≤◌, Some, None, List, [], ◌∷◌, ◌++◌, refl, ap, ◌∙◌, sym, subst, append_assoc, append-nil, arith}
use Rattle.lsys_syntax.specs.Tokens.{NameText, short, Kind, Name, Arrow, RightParen, RightBracket, Less}
use Rattle.lsys_syntax.specs.Strings.{ModuleName, named, Symbol, Module, Push, Pop, Cut}
use Rattle.lsys_syntax.specs.Expressions.{Expr, expr_kinds, IsExpr}
use Rattle.lsys_syntax.specs.ExpressionMachine as E
use Rattle.lsys_syntax.specs.Completions as C
use Rattle.lsys_syntax.specs.Nesting as N
use Rattle.lsys_syntax.specs.Rules.{Rule}
use Rattle.lsys_syntax.specs.RuleMachine.{Form, production, homomorphism, reversed, open_in, Part, at_first, at_predecessor, at_right, Head, Premise, Spot, as_condition, as_weight, as_param, RuleState, Formals, FormalDue, FormalRead, InExpr, Successor, Stop, where_closed, rule_with}
use Rattle.lsys_syntax.proofs.Sound.{completes}
use Rattle.lsys_syntax.proofs.Fits.{completed-nesting}
use Rattle.lsys_syntax.proofs.ExprSound.{completed-good}
use Rattle.lsys_syntax.proofs.LineComplete.{GoesOn}
use Rattle.lsys_syntax.proofs.RuleHolds.{spot_kinds, GoodSpot, Holds}
use Rattle.lsys_syntax.proofs.RuleSound.{OnHead, bare-good, head-good, left-holds, module-read, symbol-read, right-room, due-holds, read-holds, arrow-holds}
use Rattle.lsys_syntax.proofs.RuleSteps.{IsSpelled, put-pop, done-holds, rule-spelled}

-- Some rule begins with the tokens.
abbrev pub Begun : Form → ℕ → List Kind → Type 0
Begun m b ts = (r : Rule) × (rest : List Kind) × IsSpelled m b (ts ++ rest) r

module _ (m : Form) (b : ℕ) where
  begun-before : (ts ks : List Kind) → Begun m b (ts ++ ks) → Begun m b ts
  begun-before ts ks g = (g.0, ks ++ g.1, subst (λ us. IsSpelled m b us g.0) (append_assoc ts ks g.1) g.2)

  -- open branches are closed
  begun-successor : (d : Premise) (n : ℕ) (r : List (Symbol Expr)) (ts : List Kind) → open_in r ≡ n → Holds m b (Successor d r) ts → Begun m b ts
  begun-successor d zero r ts e h = (rule_with d (reversed r), [], subst (λ us. IsSpelled m b us (rule_with d (reversed r))) (sym (append-nil ts)) (rule-spelled m b d r ts h e))
  begun-successor d (suc n) r ts e h =
      begun-before ts (RightBracket ∷ []) (begun-successor d n (Pop ∷ r) (ts ++ RightBracket ∷ []) (omega (arith, e)) (put-pop m b d r ts h (omega (arith, e))))

  begun-body : (d : Premise) (ts : List Kind) → Holds m b (Successor d []) ts → Begun m b ts
  begun-body d ts h = begun-successor d 0 [] ts refl h

  -- a rule without its arrow gets it
  begun-head : (h : Head) (ts : List Kind) → OnHead m ts (Some h) → Begun m b ts
  begun-head h ts g =
      let d : Premise = record { head = h; condition = None; weight = None } in
      begun-before ts (Arrow ∷ []) (begun-body d (ts ++ Arrow ∷ []) (arrow-holds m b d (ts ++ Arrow ∷ []) (ap (λ ks. ks ++ Arrow ∷ []) g.0) (bare-good m b h g.1)))

  begun-right : (l : List (Symbol NameText)) (n : ModuleName) (fs : List NameText) (k : ℕ) (x : Symbol NameText) (r : List (Symbol NameText)) (ts : List Kind) → open_in (x ∷ r) ≡ k → Holds m b (Formals (at_right l n fs) (x ∷ r)) ts → Begun m b ts
  begun-right l n fs zero x r ts e h =
      let j : Head = record { left = l; name = n; formals = fs; right = reversed (x ∷ r) } in
      begun-head j ts (subst (λ i. OnHead m ts (where_closed i (Some j))) e (head-good m b (at_right l n fs) (x ∷ r) ts h))
  begun-right l n fs (suc k) x r ts e h =
      begun-before ts (RightBracket ∷ [])
      (begun-right l n fs k Pop (x ∷ r) (ts ++ RightBracket ∷ []) (omega (arith, e)) (symbol-read m b (at_right l n fs) (x ∷ r) ts h Pop tt tt (right-room m l n fs (Pop ∷ x ∷ r) h.1.0) (omega (arith, e))))

  begun-one : (p : Part) (n : ModuleName) (fs : List NameText) (ts : List Kind) → Holds m b (Formals p (Module n fs ∷ [])) ts → Begun m b ts
  begun-one at_first n fs ts h = begun-head (record { left = []; name = n; formals = fs; right = [] }) ts (head-good m b at_first (Module n fs ∷ []) ts h)
  begun-one (at_predecessor l) n fs ts h = begun-head (record { left = l; name = n; formals = fs; right = [] }) ts (head-good m b (at_predecessor l) (Module n fs ∷ []) ts h)
  begun-one (at_right l k gs) n fs ts h = begun-right l k gs 0 (Module n fs) [] ts refl h

  -- a pattern or an item that is due
  begun-none : (p : Part) (ts : List Kind) → Holds m b (Formals p []) ts → Begun m b ts
  begun-none p ts h = begun-before ts (Name (short 65) ∷ []) (begun-one p (named (short 65)) [] (ts ++ Name (short 65) ∷ []) (module-read m b p [] ts h (named (short 65)) refl tt))

begun-formals : (m : Form) (b : ℕ) (p : Part) (r : List (Symbol NameText)) (ts : List Kind) → Holds m b (Formals p r) ts → Begun m b ts
begun-formals m b p [] ts h = begun-none m b p ts h
begun-formals m b (at_right l n fs) (x ∷ r) ts h = begun-right m b l n fs (open_in (x ∷ r)) x r ts refl h
begun-formals production b at_first (x ∷ y ∷ r) ts h = begun-before production b ts (Less ∷ []) (begun-none production b (at_predecessor (reversed (x ∷ y ∷ r))) (ts ++ Less ∷ []) (left-holds b at_first (x ∷ y ∷ r) ts h))
begun-formals homomorphism b at_first (x ∷ y ∷ r) ts h = elim h.2.2 [ ]
begun-formals production b (at_predecessor l) (x ∷ y ∷ r) ts h = elim h.2.2 [ ]
begun-formals homomorphism b (at_predecessor l) (x ∷ y ∷ r) ts h = elim h.2.2 [ ]
begun-formals m b at_first (Module n fs ∷ []) ts h = begun-one m b at_first n fs ts h
begun-formals m b at_first (Push ∷ []) ts h = elim h.2.1.0 [ ]
begun-formals m b at_first (Pop ∷ []) ts h = elim h.2.1.0 [ ]
begun-formals m b at_first (Cut ∷ []) ts h = elim h.2.1.0 [ ]
begun-formals m b (at_predecessor l) (Module n fs ∷ []) ts h = begun-one m b (at_predecessor l) n fs ts h
begun-formals m b (at_predecessor l) (Push ∷ []) ts h = elim h.2.1.0 [ ]
begun-formals m b (at_predecessor l) (Pop ∷ []) ts h = elim h.2.1.0 [ ]
begun-formals m b (at_predecessor l) (Cut ∷ []) ts h = elim h.2.1.0 [ ]

begun-read : (m : Form) (b : ℕ) (p : Part) (r : List (Symbol NameText)) (n : ModuleName) (fs : List NameText) (ts : List Kind) → Holds m b (FormalRead p r n fs) ts → Begun m b ts
begun-read m b p r n [] ts h = elim h [ ]
begun-read m b p r n (f ∷ fs) ts h = begun-before m b ts (RightParen ∷ []) (begun-formals m b p (Module n (reversed (f ∷ fs)) ∷ r) (ts ++ RightParen ∷ []) (read-holds m b p r n (f ∷ fs) ts RightParen h))

begun-due : (m : Form) (b : ℕ) (p : Part) (r : List (Symbol NameText)) (n : ModuleName) (fs : List NameText) (ts : List Kind) → Holds m b (FormalDue p r n fs) ts → Begun m b ts
begun-due m b p r n fs ts h =
    let a : NameText = short 65 in
    begun-before m b ts (Name a ∷ []) (begun-read m b p r n (a ∷ fs) (ts ++ Name a ∷ []) (due-holds m b p r n fs ts (Name a) refl h))

-- an expression gets its stated completion
begun-done : (m : Form) (b : ℕ) (spot : Spot) (e : Expr) (ts : List Kind) → IsExpr e → N.expr_nesting e ≤ b → spot_kinds spot ++ expr_kinds e ≡ ts → GoodSpot m b spot → Begun m b ts
begun-done m b (as_condition h) e ts i n q g =
    let d : Premise = record { head = h; condition = Some e; weight = None } in
    begun-before m b ts (Arrow ∷ []) (begun-body m b d (ts ++ Arrow ∷ []) (done-holds b e ts i n m Arrow (as_condition h) q g))
begun-done m b (as_weight h c) e ts i n q g =
    let d : Premise = record { head = h; condition = c; weight = Some e } in
    begun-before m b ts (Arrow ∷ []) (begun-body m b d (ts ++ Arrow ∷ []) (done-holds b e ts i n m Arrow (as_weight h c) q g))
begun-done m b (as_param d r k es) e ts i n q g =
    let x : Symbol Expr = Module k (reversed (e ∷ es)) in
    begun-before m b ts (RightParen ∷ []) (begun-successor m b d (open_in r) (x ∷ r) (ts ++ RightParen ∷ []) refl (done-holds b e ts i n m RightParen (as_param d r k es) q g))

begun-expr : (m : Form) (b : ℕ) (spot : Spot) (s : E.ExpressionState) (ts : List Kind) → Holds m b (InExpr spot s) ts → Begun m b ts
begun-expr m b spot s ts h =
    let q : spot_kinds spot ++ expr_kinds (C.completed s) ≡ ts ++ C.completion s =
    ap (λ ks. spot_kinds spot ++ ks) (completes s h.2) ∙ sym (append_assoc (spot_kinds spot) (C.spelled s) (C.completion s)) ∙ ap (λ ks. ks ++ C.completion s) h.0 in
    begun-before m b ts (C.completion s)
    (begun-done m b spot (C.completed s) (ts ++ C.completion s) (completed-good s h.2 h.3) (completed-nesting b s h.2 h.4) q h.1)

-- Some rule begins with what a state has taken.
pub begun : (m : Form) (b : ℕ) (s : RuleState) (ts : List Kind) → GoesOn s → Holds m b s ts → Begun m b ts
begun m b (Formals p r) ts g h = begun-formals m b p r ts h
begun m b (FormalDue p r n fs) ts g h = begun-due m b p r n fs ts h
begun m b (FormalRead p r n fs) ts g h = begun-read m b p r n fs ts h
begun m b (InExpr spot s) ts g h = begun-expr m b spot s ts h
begun m b (Successor d r) ts g h = begun-successor m b d (open_in r) r ts refl h
begun m b Stop ts g h = elim g [ ]

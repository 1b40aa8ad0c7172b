-- Each step of a rule's machine takes its token, and what it reads are parts of rules.
use Rattle.std.proofs.Common.{◌≡◌, ℕ, zero, suc, ◌<◌, Option, Some, None, List, [], ◌∷◌, ◌++◌, refl, ap, ◌∙◌, sym, subst, append_assoc, append-nil, arith}
use Rattle.lsys_syntax.specs.Tokens.{NameText, Kind, Name, Arrow, LeftParen, RightParen, RightBracket, Comma, Colon, At, Less, Greater}
use Rattle.lsys_syntax.specs.Pieces.{Piece, kinds_of, IsNameText}
use Rattle.lsys_syntax.specs.Strings.{ModuleName, Symbol, Module, Push, Pop, Cut, name_kind, string_pieces, EachOf, IsModuleName, IsSymbol}
use Rattle.lsys_syntax.specs.Expressions.{Expr}
use Rattle.lsys_syntax.specs.Rules.{formal_pieces, left_pieces, right_pieces, IsPattern}
use Rattle.lsys_syntax.specs.RuleMachine.{Form, production, homomorphism, reversed_onto, reversed, open_in, Part, at_first, at_predecessor, at_right, Head, Premise, Spot, as_condition, as_weight, RuleState, Formals, FormalDue, FormalRead, InExpr, Successor, Sign, a_name, a_push, a_pop, a_cut, no_sign, sign_of, popped, one_more, formals_sign, formals_open, left_ends, predecessor_ends, where_closed, head_of, expr_start, with_head, formals_step, formal_due_step, read_step}
use Rattle.lsys_syntax.proofs.Leads.{Closes}
use Rattle.lsys_syntax.proofs.RuleComplete.{Absent, NoWeight}
use Rattle.lsys_syntax.proofs.ExprSound as G
use Rattle.lsys_syntax.proofs.StringKinds.{kinds-append, each-reversed, spelled_symbol, spelled_string, taken, string-one, taken-more, params_before, params-closed, nests-closed}
use Rattle.lsys_syntax.proofs.RuleHolds.{part_kinds, head_kinds, body_kinds, spot_kinds, OnlyProduction, StandsIn, HasRoom, GoodSymbols, GoodHead, GoodBody, GoodSpot, Holds, IsSignOf, sign-is}

-- one more symbol after a front
pub symbol-more : {P : Type 0} → (print : P → List Piece) (front ts : List Kind) (x : Symbol P) (r : List (Symbol P)) → front ++ taken print r ≡ ts → front ++ taken print (x ∷ r) ≡ ts ++ spelled_symbol print x
symbol-more print front ts x r e =
    ap (λ ks. front ++ ks) (taken-more print x r) ∙ sym (append_assoc front (taken print r) (spelled_symbol print x)) ∙ ap (λ ks. ks ++ spelled_symbol print x) e

-- a `(` after the last module
pub paren-opens : {P : Type 0} → (print : P → List Piece) (front ts : List Kind) (n : ModuleName) (r : List (Symbol P)) → front ++ taken print (Module n [] ∷ r) ≡ ts
    → front ++ (taken print r ++ name_kind n ∷ params_before print []) ≡ ts ++ LeftParen ∷ []
paren-opens print front ts n r e =
    ap (λ ks. front ++ ks) (sym (append_assoc (taken print r) (name_kind n ∷ []) (LeftParen ∷ [])) ∙ ap (λ ks. ks ++ LeftParen ∷ []) (sym (taken-more print (Module n []) r)))
    ∙ sym (append_assoc front (taken print (Module n [] ∷ r)) (LeftParen ∷ []))
    ∙ ap (λ ks. ks ++ LeftParen ∷ []) e

-- a `)` after its last parameter
pub paren-closes : {P : Type 0} → (print : P → List Piece) (front ts : List Kind) (n : ModuleName) (r : List (Symbol P)) (x : P) (xs : List P)
    → front ++ (taken print r ++ name_kind n ∷ (params_before print xs ++ kinds_of (print x))) ≡ ts
    → front ++ taken print (Module n (reversed (x ∷ xs)) ∷ r) ≡ ts ++ RightParen ∷ []
paren-closes print front ts n r x xs e =
    ap (λ ks. front ++ ks) (taken-more print (Module n (reversed (x ∷ xs))) r ∙ ap (λ ks. taken print r ++ name_kind n ∷ ks) (params-closed print xs x))
    ∙ simp append_assoc refl
    ∙ ap (λ ks. ks ++ RightParen ∷ []) e

-- a `,` after a parameter
pub comma-goes : {P : Type 0} → (print : P → List Piece) (front ts : List Kind) (n : ModuleName) (r : List (Symbol P)) (x : P) (xs : List P)
    → front ++ (taken print r ++ name_kind n ∷ (params_before print xs ++ kinds_of (print x))) ≡ ts
    → front ++ (taken print r ++ name_kind n ∷ params_before print (x ∷ xs)) ≡ ts ++ Comma ∷ []
comma-goes print front ts n r x xs e = simp append_assoc refl ∙ ap (λ ks. ks ++ Comma ∷ []) e

-- contexts
left-onto : (xs ys : List (Symbol NameText)) (x : Symbol NameText) → kinds_of (left_pieces (reversed_onto xs (x ∷ ys))) ≡ spelled_string formal_pieces (reversed_onto xs (x ∷ ys)) ++ Less ∷ []
left-onto [] ys x = kinds-append (string_pieces formal_pieces (x ∷ ys)) _
left-onto (w ∷ ws) ys x = left-onto ws (x ∷ ys) w

right-onto : (xs ys : List (Symbol NameText)) (x : Symbol NameText) → kinds_of (right_pieces (reversed_onto xs (x ∷ ys))) ≡ Greater ∷ spelled_string formal_pieces (reversed_onto xs (x ∷ ys))
right-onto [] ys x = refl
right-onto (w ∷ ws) ys x = right-onto ws (x ∷ ys) w

absent : (m : Form) (l : List (Symbol NameText)) → OnlyProduction m → Absent m l
absent production l o = tt
absent homomorphism l o = elim o [ ]

absent-none : (m : Form) → Absent m []
absent-none production = tt
absent-none homomorphism = tt

pub no_weight-none : (m : Form) → NoWeight m None
no_weight-none production = tt
no_weight-none homomorphism = tt

pub no_weight : (m : Form) (e : Expr) → OnlyProduction m → NoWeight m (Some e)
no_weight production e o = tt
no_weight homomorphism e o = elim o [ ]

stands-module : (p : Part) (n : ModuleName) (fs : List NameText) → StandsIn p (Module n fs)
stands-module at_first n fs = tt
stands-module (at_predecessor l) n fs = tt
stands-module (at_right l k gs) n fs = tt

same-room : (m : Form) (p : Part) (r : List (Symbol NameText)) (x y : Symbol NameText) → HasRoom m p (x ∷ r) → HasRoom m p (y ∷ r)
same-room m p [] x y h = tt
same-room m p (z ∷ r) x y h = h

pub right-room : (m : Form) (l : List (Symbol NameText)) (n : ModuleName) (fs : List NameText) (r : List (Symbol NameText)) → OnlyProduction m → HasRoom m (at_right l n fs) r
right-room m l n fs [] o = tt
right-room m l n fs (x ∷ []) o = tt
right-room production l n fs (x ∷ y ∷ r) o = tt
right-room homomorphism l n fs (x ∷ y ∷ r) o = elim o [ ]

-- another name for the parameters of the last module
renamed : (m : Form) (p : Part) (r : List (Symbol NameText)) (n : ModuleName) (fs gs : List NameText) → EachOf IsNameText gs → GoodSymbols m p (Module n fs ∷ r) → GoodSymbols m p (Module n gs ∷ r)
renamed m p r n fs gs g h = (((h.0.0.0, g), h.0.1), (stands-module p n gs, h.1.1), same-room m p r (Module n fs) (Module n gs) h.2, (tt, h.3.1))

-- Symbols with formals
module _ (m : Form) (b : ℕ) (p : Part) (r : List (Symbol NameText)) (ts : List Kind) (h : Holds m b (Formals p r) ts) where
  pub symbol-read : (x : Symbol NameText) → IsSymbol IsNameText x → StandsIn p x → HasRoom m p (x ∷ r) → Closes x (open_in r) → Holds m b (Formals p (x ∷ r)) (ts ++ spelled_symbol formal_pieces x)
  symbol-read x g s o c = (symbol-more formal_pieces (part_kinds p) ts x r h.0, h.1, ((g, h.2.0), (s, h.2.1), o, (c, h.2.3)))

  pub module-read : (n : ModuleName) → IsModuleName n → HasRoom m p (Module n [] ∷ r) → Holds m b (Formals p (Module n [] ∷ r)) (ts ++ name_kind n ∷ [])
  module-read n g o = symbol-read (Module n []) (g, tt) (stands-module p n []) o tt

name-holds : (m : Form) (b : ℕ) (p : Part) (r : List (Symbol NameText)) (ts : List Kind) (n : ModuleName) → Holds m b (Formals p r) ts → IsModuleName n → Holds m b (one_more m p r (Formals p (Module n [] ∷ r))) (ts ++ name_kind n ∷ [])
name-holds m b p [] ts n h g = module-read m b p [] ts h n g tt
name-holds homomorphism b p (x ∷ r) ts n h g = tt
name-holds production b (at_predecessor l) (x ∷ r) ts n h g = tt
name-holds production b at_first (x ∷ r) ts n h g = module-read production b at_first (x ∷ r) ts h n g tt
name-holds production b (at_right l k fs) (x ∷ r) ts n h g = module-read production b (at_right l k fs) (x ∷ r) ts h n g tt

pub popped-holds : (m : Form) (b n : ℕ) (s : RuleState) (ts : List Kind) → (0 < n → Holds m b s ts) → Holds m b (popped n s) ts
popped-holds m b zero s ts h = tt
popped-holds m b (suc n) s ts h = h (omega arith)

sign-holds : (m : Form) (b : ℕ) (p : Part) (r : List (Symbol NameText)) (ts : List Kind) (k : Kind) (g : Sign) → IsSignOf k g → G.IsNamed k → Holds m b (Formals p r) ts → Holds m b (formals_sign m g p r) (ts ++ k ∷ [])
sign-holds m b p r ts k (a_name n) i o h = subst (λ j. Holds m b (one_more m p r (Formals p (Module n [] ∷ r))) (ts ++ j ∷ [])) (sym i.0) (name-holds m b p r ts n h (i.1 o))
sign-holds m b at_first r ts k a_push i o h = tt
sign-holds m b (at_predecessor l) r ts k a_push i o h = tt
sign-holds m b (at_right l n fs) r ts k a_push i o h =
    subst (λ j. Holds m b (Formals (at_right l n fs) (Push ∷ r)) (ts ++ j ∷ [])) (sym i) (symbol-read m b (at_right l n fs) r ts h Push tt tt (right-room m l n fs (Push ∷ r) h.1.0) tt)
sign-holds m b at_first r ts k a_pop i o h = tt
sign-holds m b (at_predecessor l) r ts k a_pop i o h = tt
sign-holds m b (at_right l n fs) r ts k a_pop i o h =
    subst (λ j. Holds m b (popped (open_in r) (Formals (at_right l n fs) (Pop ∷ r))) (ts ++ j ∷ [])) (sym i)
    (popped-holds m b (open_in r) (Formals (at_right l n fs) (Pop ∷ r)) (ts ++ RightBracket ∷ []) (λ c. symbol-read m b (at_right l n fs) r ts h Pop tt tt (right-room m l n fs (Pop ∷ r) h.1.0) c))
sign-holds m b p r ts k a_cut i o h = tt
sign-holds m b p r ts k no_sign i o h = tt

open-holds : (m : Form) (b : ℕ) (p : Part) (r : List (Symbol NameText)) (ts : List Kind) → Holds m b (Formals p r) ts → Holds m b (formals_open p r) (ts ++ LeftParen ∷ [])
open-holds m b p [] ts h = tt
open-holds m b p (Module n [] ∷ r) ts h = (paren-opens formal_pieces (part_kinds p) ts n r h.0, h.1, h.2, tt)
open-holds m b p (Module n (f ∷ fs) ∷ r) ts h = tt
open-holds m b p (Push ∷ r) ts h = tt
open-holds m b p (Pop ∷ r) ts h = tt
open-holds m b p (Cut ∷ r) ts h = tt

pub left-holds : (b : ℕ) (p : Part) (r : List (Symbol NameText)) (ts : List Kind) → Holds production b (Formals p r) ts → Holds production b (left_ends p r) (ts ++ Less ∷ [])
left-holds b at_first [] ts h = tt
left-holds b at_first (x ∷ r) ts h = (
  append-nil (kinds_of (left_pieces (reversed (x ∷ r)))) ∙ left-onto r [] x ∙ ap (λ ks. ks ++ Less ∷ []) h.0,
  (tt, (each-reversed (IsSymbol IsNameText) (x ∷ r) h.2.0, each-reversed IsPattern (x ∷ r) h.2.1)),
  (tt, tt, tt, tt),
)
left-holds b (at_predecessor l) r ts h = tt
left-holds b (at_right l n fs) r ts h = tt

greater-holds : (b : ℕ) (p : Part) (r : List (Symbol NameText)) (ts : List Kind) → Holds production b (Formals p r) ts → Holds production b (predecessor_ends p r) (ts ++ Greater ∷ [])
greater-holds b at_first (Module n fs ∷ []) ts h =
    (append-nil (spelled_symbol formal_pieces (Module n fs) ++ Greater ∷ []) ∙ ap (λ ks. ks ++ Greater ∷ []) (sym (string-one formal_pieces (Module n fs)) ∙ h.0), (tt, (tt, tt), h.2.0.0.0, h.2.0.0.1), (tt, tt, tt, tt))
greater-holds b (at_predecessor l) (Module n fs ∷ []) ts h = (
  append-nil _
      ∙ sym (append_assoc (kinds_of (left_pieces l)) (spelled_symbol formal_pieces (Module n fs)) (Greater ∷ []))
      ∙ ap (λ ks. (kinds_of (left_pieces l) ++ ks) ++ Greater ∷ []) (sym (string-one formal_pieces (Module n fs)))
      ∙ ap (λ ks. ks ++ Greater ∷ []) h.0,
  (tt, h.1.1, h.2.0.0.0, h.2.0.0.1),
  (tt, tt, tt, tt),
)
greater-holds b p r ts h = tt

-- The head that stands after the contexts.
abbrev pub OnHead : Form → List Kind → Option Head → Type 0
OnHead m ts None = Unit {0}
OnHead m ts (Some h) = (head_kinds h ≡ ts) × GoodHead m h

closed-head : (m : Form) (ts : List Kind) (n : ℕ) (h : Head) → (n ≡ 0 → OnHead m ts (Some h)) → OnHead m ts (where_closed n (Some h))
closed-head m ts zero h f = f refl
closed-head m ts (suc n) h f = tt

pub head-good : (m : Form) (b : ℕ) (p : Part) (r : List (Symbol NameText)) (ts : List Kind) → Holds m b (Formals p r) ts → OnHead m ts (head_of p r)
head-good m b at_first (Module n fs ∷ []) ts h = (
  append-nil (spelled_symbol formal_pieces (Module n fs)) ∙ sym (string-one formal_pieces (Module n fs)) ∙ h.0,
  record { left = (tt, tt); name = h.2.0.0.0; formals = h.2.0.0.1; right = tt; items = tt; right_balanced = refl; no_left = absent-none m; no_right = absent-none m },
)
head-good m b (at_predecessor l) (Module n fs ∷ []) ts h = (
  ap (λ ks. kinds_of (left_pieces l) ++ ks) (append-nil (spelled_symbol formal_pieces (Module n fs)) ∙ sym (string-one formal_pieces (Module n fs))) ∙ h.0,
  record { left = h.1.1; name = h.2.0.0.0; formals = h.2.0.0.1; right = tt; items = tt; right_balanced = refl; no_left = absent m l h.1.0; no_right = absent-none m },
)
head-good m b (at_right l n fs) (x ∷ r) ts h =
    closed-head m ts (open_in (x ∷ r)) (record { left = l; name = n; formals = fs; right = reversed (x ∷ r) })
    (λ e. (
      ap (λ ks. kinds_of (left_pieces l) ++ (spelled_symbol formal_pieces (Module n fs) ++ ks)) (right-onto r [] x) ∙ simp append_assoc refl ∙ h.0,
      record {
        left = h.1.1;
        name = h.1.2;
        formals = h.1.3;
        right = each-reversed (IsSymbol IsNameText) (x ∷ r) h.2.0;
        items = each-reversed (StandsIn (at_right l n fs)) (x ∷ r) h.2.1;
        right_balanced = nests-closed (x ∷ r) h.2.3 e;
        no_left = absent m l h.1.0;
        no_right = absent m (reversed (x ∷ r)) h.1.0;
      },
    ))
head-good m b p r ts h = tt

with_head-holds : (m : Form) (b : ℕ) (f : Head → RuleState) (o : Option Head) (ts us : List Kind) → OnHead m ts o → ((h : Head) → head_kinds h ≡ ts → GoodHead m h → Holds m b (f h) us) → Holds m b (with_head f o) us
with_head-holds m b f None ts us g k = tt
with_head-holds m b f (Some h) ts us g k = k h g.0 g.1

pub bare-good : (m : Form) (b : ℕ) (h : Head) → GoodHead m h → GoodBody m b (record { head = h; condition = None; weight = None })
bare-good m b h g = record { head = g; condition = tt; near_condition = omega arith; weight = tt; near_weight = omega arith; no_weight = no_weight-none m }

-- before an expression nothing of it is taken
pub start-holds : (m : Form) (b : ℕ) (spot : Spot) (ts : List Kind) → spot_kinds spot ≡ ts → GoodSpot m b spot → Holds m b (InExpr spot expr_start) ts
start-holds m b spot ts e g = (append-nil (spot_kinds spot) ∙ e, g, tt, tt, (omega arith, tt))

pub arrow-holds : (m : Form) (b : ℕ) (d : Premise) (ts : List Kind) → body_kinds d ≡ ts → GoodBody m b d → Holds m b (Successor d []) ts
arrow-holds m b d ts e g = (append-nil (body_kinds d) ∙ e, g, (tt, tt, omega arith, tt))

pub formals-holds : (m : Form) (b : ℕ) (p : Part) (r : List (Symbol NameText)) (ts : List Kind) (k : Kind) → G.IsNamed k → Holds m b (Formals p r) ts → Holds m b (formals_step m k p r) (ts ++ k ∷ [])
formals-holds m b p r ts LeftParen o h = open-holds m b p r ts h
formals-holds production b p r ts Less o h = left-holds b p r ts h
formals-holds homomorphism b p r ts Less o h = tt
formals-holds production b p r ts Greater o h = greater-holds b p r ts h
formals-holds homomorphism b p r ts Greater o h = tt
formals-holds m b p r ts Colon o h =
    with_head-holds m b (λ j. InExpr (as_condition j) expr_start) (head_of p r) ts (ts ++ Colon ∷ []) (head-good m b p r ts h)
    (λ j e g. start-holds m b (as_condition j) (ts ++ Colon ∷ []) (ap (λ ks. ks ++ Colon ∷ []) e) g)
formals-holds production b p r ts At o h =
    with_head-holds production b (λ j. InExpr (as_weight j None) expr_start) (head_of p r) ts (ts ++ At ∷ []) (head-good production b p r ts h)
    (λ j e g. start-holds production b (as_weight j None) (ts ++ At ∷ []) (ap (λ ks. ks ++ At ∷ []) e) (tt, bare-good production b j g))
formals-holds homomorphism b p r ts At o h = tt
formals-holds m b p r ts Arrow o h =
    with_head-holds m b (λ j. Successor (record { head = j; condition = None; weight = None }) []) (head_of p r) ts (ts ++ Arrow ∷ []) (head-good m b p r ts h)
    (λ j e g. arrow-holds m b (record { head = j; condition = None; weight = None }) (ts ++ Arrow ∷ []) (ap (λ ks. ks ++ Arrow ∷ []) e) (bare-good m b j g))
formals-holds m b p r ts k o h = sign-holds m b p r ts k (sign_of k) (sign-is k) o h

pub due-holds : (m : Form) (b : ℕ) (p : Part) (r : List (Symbol NameText)) (n : ModuleName) (fs : List NameText) (ts : List Kind) (k : Kind) → G.IsNamed k → Holds m b (FormalDue p r n fs) ts → Holds m b (formal_due_step k p r n fs) (ts ++ k ∷ [])
due-holds m b p r n fs ts (Name f) o h = (simp append_assoc refl ∙ ap (λ ks. ks ++ Name f ∷ []) h.0, h.1, h.2, (o, h.3))
due-holds m b p r n fs ts k o h = tt

pub read-holds : (m : Form) (b : ℕ) (p : Part) (r : List (Symbol NameText)) (n : ModuleName) (fs : List NameText) (ts : List Kind) (k : Kind) → Holds m b (FormalRead p r n fs) ts → Holds m b (read_step k p r n fs) (ts ++ k ∷ [])
read-holds m b p r n [] ts k h = elim h [ ]
read-holds m b p r n (f ∷ fs) ts Comma h = (comma-goes formal_pieces (part_kinds p) ts n r f fs h.0, h.1, h.2, h.3)
read-holds m b p r n (f ∷ fs) ts RightParen h =
    (paren-closes formal_pieces (part_kinds p) ts n r f fs h.0, h.1, renamed m p r n [] (reversed (f ∷ fs)) (each-reversed IsNameText (f ∷ fs) h.3) h.2)
read-holds m b p r n (f ∷ fs) ts k h = tt

-- Reading a rule: a state holds what was read of it, the last symbol first, and each token is one step.
use Rattle.std.specs.Prelude.{ℕ, zero, suc, Option, Some, None, List, [], ◌∷◌, ◌-◌, ◌+◌, nat_lt, if◌then◌else◌}
use Rattle.lsys_syntax.specs.Limits.{value_bound}
use Rattle.lsys_syntax.specs.Tokens.{NameText, Kind, Name, Number, BigNumber, Arrow, LeftParen, RightParen, LeftBracket, RightBracket, Comma, Colon, At, Plus, Minus, Slash, Backslash, Percent, Ampersand, Bar, Caret, Bang, Less, Greater}
use Rattle.lsys_syntax.specs.Strings.{ModuleName, named, plus, minus, ampersand, caret, backslash, slash, bar, bang, Symbol, Module, Push, Pop, Cut}
use Rattle.lsys_syntax.specs.Expressions.{Expr}
use Rattle.lsys_syntax.specs.ExpressionMachine as E
use Rattle.lsys_syntax.specs.Nesting as N
use Rattle.lsys_syntax.specs.Rules.{Rule}

-- a homomorphism rule has no contexts, no weight and no cut
pub data Form : Type 0 where
  production : Form
  homomorphism : Form

abbrev pub reversed_onto : {A : Type 0} → List A → List A → List A
reversed_onto [] ys = ys
reversed_onto (x ∷ xs) ys = reversed_onto xs (x ∷ ys)

abbrev pub reversed : {A : Type 0} → List A → List A
reversed xs = reversed_onto xs []

-- how many branches are open after these symbols, the last one first
abbrev pub open_in : {P : Type 0} → List (Symbol P) → ℕ
open_in [] = 0
open_in (Module n xs ∷ r) = open_in r
open_in (Push ∷ r) = open_in r + 1
open_in (Pop ∷ r) = open_in r - 1
open_in (Cut ∷ r) = open_in r

-- which part of a rule the symbols with formals are
pub data Part : Type 0 where
  at_first : Part
  at_predecessor : List (Symbol NameText) → Part
  at_right : List (Symbol NameText) → ModuleName → List NameText → Part

-- a rule up to its right context; and up to its weight
pub record Head : Type 0 where
  pub left : List (Symbol NameText)
  pub name : ModuleName
  pub formals : List NameText
  pub right : List (Symbol NameText)

pub record Premise : Type 0 where
  pub head : Head
  pub condition : Option Expr
  pub weight : Option Expr

-- what an expression is in a rule
pub data Spot : Type 0 where
  as_condition : Head → Spot
  as_weight : Head → Option Expr → Spot
  as_param : Premise → List (Symbol Expr) → ModuleName → List Expr → Spot

pub data RuleState : Type 0 where
  Formals : Part → List (Symbol NameText) → RuleState
  FormalDue : Part → List (Symbol NameText) → ModuleName → List NameText → RuleState
  FormalRead : Part → List (Symbol NameText) → ModuleName → List NameText → RuleState
  InExpr : Spot → E.ExpressionState → RuleState
  Successor : Premise → List (Symbol Expr) → RuleState
  Stop : RuleState

pub data Sign : Type 0 where
  a_name : ModuleName → Sign
  a_push : Sign
  a_pop : Sign
  a_cut : Sign
  no_sign : Sign

abbrev pub sign_of : Kind → Sign
sign_of (Name n) = a_name (named n)
sign_of Plus = a_name plus
sign_of Minus = a_name minus
sign_of Ampersand = a_name ampersand
sign_of Caret = a_name caret
sign_of Backslash = a_name backslash
sign_of Slash = a_name slash
sign_of Bar = a_name bar
sign_of Bang = a_name bang
sign_of LeftBracket = a_push
sign_of RightBracket = a_pop
sign_of Percent = a_cut
sign_of k = no_sign

abbrev pub only_right : Part → RuleState → RuleState
only_right (at_right l n fs) s = s
only_right p s = Stop

-- a `]` where a branch is open
abbrev pub popped : ℕ → RuleState → RuleState
popped zero s = Stop
popped (suc n) s = s

-- another symbol with formals: a predecessor is one alone, and so is all that stands before a homomorphism rule's arrow
abbrev pub one_more : Form → Part → List (Symbol NameText) → RuleState → RuleState
one_more m p [] s = s
one_more homomorphism p (x ∷ r) s = Stop
one_more production (at_predecessor l) (x ∷ r) s = Stop
one_more production p (x ∷ r) s = s

abbrev pub formals_sign : Form → Sign → Part → List (Symbol NameText) → RuleState
formals_sign m (a_name n) p r = one_more m p r (Formals p (Module n [] ∷ r))
formals_sign m a_push p r = only_right p (Formals p (Push ∷ r))
formals_sign m a_pop p r = only_right p (popped (open_in r) (Formals p (Pop ∷ r)))
formals_sign m a_cut p r = Stop
formals_sign m no_sign p r = Stop

-- parameters of the last module
abbrev pub formals_open : Part → List (Symbol NameText) → RuleState
formals_open p (Module n [] ∷ r) = FormalDue p r n []
formals_open p r = Stop

abbrev pub left_ends : Part → List (Symbol NameText) → RuleState
left_ends at_first (x ∷ r) = Formals (at_predecessor (reversed (x ∷ r))) []
left_ends p r = Stop

abbrev pub predecessor_ends : Part → List (Symbol NameText) → RuleState
predecessor_ends at_first (Module n fs ∷ []) = Formals (at_right [] n fs) []
predecessor_ends (at_predecessor l) (Module n fs ∷ []) = Formals (at_right l n fs) []
predecessor_ends p r = Stop

abbrev pub where_closed : {A : Type 0} → ℕ → Option A → Option A
where_closed zero o = o
where_closed (suc n) o = None

abbrev pub head_of : Part → List (Symbol NameText) → Option Head
head_of at_first (Module n fs ∷ []) = Some (record { left = []; name = n; formals = fs; right = [] })
head_of (at_predecessor l) (Module n fs ∷ []) = Some (record { left = l; name = n; formals = fs; right = [] })
head_of (at_right l n fs) (x ∷ r) = where_closed (open_in (x ∷ r)) (Some (record { left = l; name = n; formals = fs; right = reversed (x ∷ r) }))
head_of p r = None

abbrev pub expr_start : E.ExpressionState
expr_start = E.start_expr E.no_parens

abbrev pub with_head : (Head → RuleState) → Option Head → RuleState
with_head f None = Stop
with_head f (Some h) = f h

-- a part that a homomorphism rule doesn't have
abbrev pub only_production : Form → RuleState → RuleState
only_production production s = s
only_production homomorphism s = Stop

abbrev pub formals_step : Form → Kind → Part → List (Symbol NameText) → RuleState
formals_step m LeftParen p r = formals_open p r
formals_step m Less p r = only_production m (left_ends p r)
formals_step m Greater p r = only_production m (predecessor_ends p r)
formals_step m Colon p r = with_head (λ h. InExpr (as_condition h) expr_start) (head_of p r)
formals_step m At p r = only_production m (with_head (λ h. InExpr (as_weight h None) expr_start) (head_of p r))
formals_step m Arrow p r = with_head (λ h. Successor (record { head = h; condition = None; weight = None }) []) (head_of p r)
formals_step m k p r = formals_sign m (sign_of k) p r

abbrev pub formal_due_step : Kind → Part → List (Symbol NameText) → ModuleName → List NameText → RuleState
formal_due_step (Name f) p r n fs = FormalRead p r n (f ∷ fs)
formal_due_step k p r n fs = Stop

abbrev pub read_step : Kind → Part → List (Symbol NameText) → ModuleName → List NameText → RuleState
read_step Comma p r n fs = FormalDue p r n fs
read_step RightParen p r n fs = Formals p (Module n (reversed fs) ∷ r)
read_step k p r n fs = Stop

-- An expression is done before this token.
abbrev pub done_step : Form → Kind → Spot → Expr → RuleState
done_step m At (as_condition h) e = only_production m (InExpr (as_weight h (Some e)) expr_start)
done_step m Arrow (as_condition h) e = Successor (record { head = h; condition = Some e; weight = None }) []
done_step m Arrow (as_weight h c) e = Successor (record { head = h; condition = c; weight = Some e }) []
done_step m Comma (as_param b r n es) e = InExpr (as_param b r n (e ∷ es)) expr_start
done_step m RightParen (as_param b r n es) e = Successor b (Module n (reversed (e ∷ es)) ∷ r)
done_step m k s e = Stop

abbrev pub within : Form → Spot → Kind → E.ExpressionState → RuleState
within m spot t (E.Done e) = done_step m t spot e
within m spot t E.Stop = Stop
within m spot t s = InExpr spot s

-- a Number of an expression is at most 2^63 - 1
abbrev pub small_number : ℕ → Kind
small_number n = if nat_lt n value_bound then Number n else BigNumber

abbrev pub small : Kind → Kind
small (Number n) = small_number n
small k = k

abbrev pub successor_open : Premise → List (Symbol Expr) → RuleState
successor_open b (Module n [] ∷ r) = InExpr (as_param b r n []) expr_start
successor_open b r = Stop

abbrev pub successor_sign : Form → Sign → Premise → List (Symbol Expr) → RuleState
successor_sign m (a_name n) b r = Successor b (Module n [] ∷ r)
successor_sign m a_push b r = Successor b (Push ∷ r)
successor_sign m a_pop b r = popped (open_in r) (Successor b (Pop ∷ r))
successor_sign m a_cut b r = only_production m (Successor b (Cut ∷ r))
successor_sign m no_sign b r = Stop

abbrev pub successor_step : Form → Kind → Premise → List (Symbol Expr) → RuleState
successor_step m LeftParen b r = successor_open b r
successor_step m k b r = successor_sign m (sign_of k) b r

abbrev pub rule_step : Form → RuleState → Kind → RuleState
rule_step m (Formals p r) t = formals_step m t p r
rule_step m (FormalDue p r n fs) t = formal_due_step t p r n fs
rule_step m (FormalRead p r n fs) t = read_step t p r n fs
rule_step m (InExpr spot s) t = within m spot t (E.step s (small t))
rule_step m (Successor b r) t = successor_step m t b r
rule_step m Stop t = Stop

abbrev pub start : RuleState
start = Formals at_first []

-- the nesting at the last token that was taken
abbrev pub rule_depth : RuleState → ℕ
rule_depth (InExpr spot s) = N.depth s
rule_depth s = 0

abbrev pub rule_with : Premise → List (Symbol Expr) → Rule
rule_with b xs = record {
  left = b.head.left;
  name = b.head.name;
  formals = b.head.formals;
  right = b.head.right;
  condition = b.condition;
  weight = b.weight;
  successor = xs;
}

-- the rule, where it may end here
abbrev pub whole : RuleState → Option Rule
whole (Successor b r) = where_closed (open_in r) (Some (rule_with b (reversed r)))
whole s = None

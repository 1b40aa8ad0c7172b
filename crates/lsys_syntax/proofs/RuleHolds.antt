-- What holds of a rule's state after the tokens that it has taken.
use Rattle.std.proofs.Common.{◌≡◌, ℕ, true, ◌≤◌, None, List, [], ◌∷◌, ◌++◌, refl}
use Rattle.lsys_syntax.specs.Tokens.{NameText, Kind, Name, Arrow, LeftBracket, RightBracket, Colon, At, Plus, Minus, Slash, Backslash, Percent, Ampersand, Bar, Caret, Bang, Greater}
use Rattle.lsys_syntax.specs.Pieces.{kinds_of, IsNameText}
use Rattle.lsys_syntax.specs.Strings.{Symbol, Module, name_kind, EachOf, IsModuleName, IsSymbol, balanced}
use Rattle.lsys_syntax.specs.Expressions.{Expr, expr_pieces, IsExpr}
use Rattle.lsys_syntax.specs.Completions as C
use Rattle.lsys_syntax.specs.Rules.{formal_pieces, left_pieces, right_pieces, option_pieces, IsOption, IsPattern, IsItem, option_nesting, params_nesting, string_nesting}
use Rattle.lsys_syntax.specs.RuleMachine.{Form, production, homomorphism, Part, at_first, at_predecessor, at_right, Head, Premise, Spot, as_condition, as_weight, as_param, RuleState, Formals, FormalDue, FormalRead, InExpr, Successor, Stop, Sign, a_name, a_push, a_pop, a_cut, no_sign, sign_of}
use Rattle.lsys_syntax.proofs.RuleComplete.{Absent, NoWeight, MayCut}
use Rattle.lsys_syntax.proofs.Sound.{IsGoing}
use Rattle.lsys_syntax.proofs.Fits.{Fits}
use Rattle.lsys_syntax.proofs.ExprSound as G
use Rattle.lsys_syntax.proofs.StringKinds.{spelled_symbol, taken, params_before, Nests}

-- the tokens of the parts
abbrev pub part_kinds : Part → List Kind
part_kinds at_first = []
part_kinds (at_predecessor l) = kinds_of (left_pieces l)
part_kinds (at_right l n fs) = kinds_of (left_pieces l) ++ (spelled_symbol formal_pieces (Module n fs) ++ Greater ∷ [])

abbrev pub head_kinds : Head → List Kind
head_kinds h = kinds_of (left_pieces h.left) ++ (spelled_symbol formal_pieces (Module h.name h.formals) ++ kinds_of (right_pieces h.right))

abbrev pub body_kinds : Premise → List Kind
body_kinds d = head_kinds d.head ++ (kinds_of (option_pieces Colon d.condition) ++ (kinds_of (option_pieces At d.weight) ++ Arrow ∷ []))

abbrev pub spot_kinds : Spot → List Kind
spot_kinds (as_condition h) = head_kinds h ++ Colon ∷ []
spot_kinds (as_weight h c) = head_kinds h ++ (kinds_of (option_pieces Colon c) ++ At ∷ [])
spot_kinds (as_param d r n es) = body_kinds d ++ (taken expr_pieces r ++ name_kind n ∷ params_before expr_pieces es)

abbrev pub OnlyProduction : Form → Type 0
OnlyProduction production = Unit {0}
OnlyProduction homomorphism = ⊥

abbrev pub ArePatterns : List (Symbol NameText) → Type 0
ArePatterns l = EachOf (IsSymbol IsNameText) l × EachOf IsPattern l

abbrev pub GoodPart : Form → Part → Type 0
GoodPart m at_first = Unit {0}
GoodPart m (at_predecessor l) = OnlyProduction m × ArePatterns l
GoodPart m (at_right l n fs) = OnlyProduction m × ArePatterns l × IsModuleName n × EachOf IsNameText fs

-- what stands in a part
abbrev pub StandsIn : Part → Symbol NameText → Type 0
StandsIn (at_right l n fs) x = IsItem x
StandsIn p x = IsPattern x

abbrev pub Several : Form → Part → Type 0
Several production at_first = Unit {0}
Several production (at_right l n fs) = Unit {0}
Several m p = ⊥

-- as many symbols as the part may have
abbrev pub HasRoom : Form → Part → List (Symbol NameText) → Type 0
HasRoom m p [] = Unit {0}
HasRoom m p (x ∷ []) = Unit {0}
HasRoom m p (x ∷ y ∷ r) = Several m p

abbrev pub GoodSymbols : Form → Part → List (Symbol NameText) → Type 0
GoodSymbols m p r = EachOf (IsSymbol IsNameText) r × EachOf (StandsIn p) r × HasRoom m p r × Nests r

pub record GoodHead (m : Form) (h : Head) : Type 0 where
  pub left : ArePatterns h.left
  pub name : IsModuleName h.name
  pub formals : EachOf IsNameText h.formals
  pub right : EachOf (IsSymbol IsNameText) h.right
  pub items : EachOf IsItem h.right
  pub right_balanced : balanced 0 h.right ≡ true
  pub no_left : Absent m h.left
  pub no_right : Absent m h.right

pub record GoodBody (m : Form) (b : ℕ) (d : Premise) : Type 0 where
  pub head : GoodHead m d.head
  pub condition : IsOption d.condition
  pub near_condition : option_nesting d.condition ≤ b
  pub weight : IsOption d.weight
  pub near_weight : option_nesting d.weight ≤ b
  pub no_weight : NoWeight m d.weight

abbrev pub GoodSuccessor : Form → ℕ → List (Symbol Expr) → Type 0
GoodSuccessor m b r = EachOf (IsSymbol IsExpr) r × EachOf (MayCut m) r × (string_nesting r ≤ b) × Nests r

abbrev pub GoodSpot : Form → ℕ → Spot → Type 0
GoodSpot m b (as_condition h) = GoodHead m h
GoodSpot m b (as_weight h c) = OnlyProduction m × GoodBody m b (record { head = h; condition = c; weight = None })
GoodSpot m b (as_param d r n es) = GoodBody m b d × GoodSuccessor m b (Module n [] ∷ r) × EachOf IsExpr es × (params_nesting es ≤ b)

-- The tokens ts are those of the state, and what it holds are parts of rules whose expressions are nested at most b deep.
abbrev pub Holds : Form → ℕ → RuleState → List Kind → Type 0
Holds m b (Formals p r) ts = (part_kinds p ++ taken formal_pieces r ≡ ts) × GoodPart m p × GoodSymbols m p r
Holds m b (FormalDue p r n fs) ts =
    (part_kinds p ++ (taken formal_pieces r ++ name_kind n ∷ params_before formal_pieces fs) ≡ ts) × GoodPart m p × GoodSymbols m p (Module n [] ∷ r) × EachOf IsNameText fs
Holds m b (FormalRead p r n []) ts = ⊥
Holds m b (FormalRead p r n (f ∷ fs)) ts =
    (part_kinds p ++ (taken formal_pieces r ++ name_kind n ∷ (params_before formal_pieces fs ++ Name f ∷ [])) ≡ ts) × GoodPart m p × GoodSymbols m p (Module n [] ∷ r) × EachOf IsNameText (f ∷ fs)
Holds m b (InExpr spot s) ts = (spot_kinds spot ++ C.spelled s ≡ ts) × GoodSpot m b spot × IsGoing s × G.Good s × Fits b s
Holds m b (Successor d r) ts = (body_kinds d ++ taken expr_pieces r ≡ ts) × GoodBody m b d × GoodSuccessor m b r
Holds m b Stop ts = Unit {0}

-- which token a sign is
abbrev pub IsSignOf : Kind → Sign → Type 0
IsSignOf k (a_name n) = (k ≡ name_kind n) × (G.IsNamed k → IsModuleName n)
IsSignOf k a_push = k ≡ LeftBracket
IsSignOf k a_pop = k ≡ RightBracket
IsSignOf k a_cut = k ≡ Percent
IsSignOf k no_sign = Unit {0}

pub sign-is : (k : Kind) → IsSignOf k (sign_of k)
sign-is (Name n) = (refl, λ h. h)
sign-is Plus = (refl, λ h. tt)
sign-is Minus = (refl, λ h. tt)
sign-is Ampersand = (refl, λ h. tt)
sign-is Caret = (refl, λ h. tt)
sign-is Backslash = (refl, λ h. tt)
sign-is Slash = (refl, λ h. tt)
sign-is Bar = (refl, λ h. tt)
sign-is Bang = (refl, λ h. tt)
sign-is LeftBracket = refl
sign-is RightBracket = refl
sign-is Percent = refl
sign-is k = tt

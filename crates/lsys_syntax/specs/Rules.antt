-- Rules with contexts, condition and weight (ABOP 1.7, 1.8 and 1.10), and how they are printed.
use Rattle.std.specs.Prelude.{◌≡◌, ℕ, true, max, Option, Some, None, List, [], ◌∷◌, ◌++◌}
use Rattle.lsys_syntax.specs.Tokens.{NameText, Kind, Name, Arrow, Colon, At, Less, Greater}
use Rattle.lsys_syntax.specs.Pieces.{Piece, blank, token, note, left_begins, predecessor_begins, right_begins, successor_begins, IsNameText, IsWordText}
use Rattle.lsys_syntax.specs.Strings.{ModuleName, Symbol, Module, Cut, symbol_pieces, string_pieces, EachOf, IsModuleName, IsSymbol, balanced}
use Rattle.lsys_syntax.specs.Expressions.{Expr, IsExpr, expr_pieces}
use Rattle.lsys_syntax.specs.Nesting.{expr_nesting}

-- A left or right context that isn't there is empty. Brackets stand in right contexts alone, and a cut in none.
pub record Rule : Type 0 where
  pub left : List (Symbol NameText)
  pub name : ModuleName
  pub formals : List NameText
  pub right : List (Symbol NameText)
  pub condition : Option Expr
  pub weight : Option Expr
  pub successor : List (Symbol Expr)

pub record Production : Type 0 where
  pub table : List ℕ
  pub label : List ℕ
  pub rule : Rule

abbrev pub formal_pieces : NameText → List Piece
formal_pieces f = token (Name f) ∷ []

abbrev pub left_pieces : List (Symbol NameText) → List Piece
left_pieces [] = []
left_pieces (x ∷ xs) = note left_begins ∷ string_pieces formal_pieces (x ∷ xs) ++ blank ∷ token Less ∷ blank ∷ []

abbrev pub predecessor_pieces : ModuleName → List NameText → List Piece
predecessor_pieces n fs = note predecessor_begins ∷ symbol_pieces formal_pieces (Module n fs)

abbrev pub right_pieces : List (Symbol NameText) → List Piece
right_pieces [] = []
right_pieces (x ∷ xs) = blank ∷ token Greater ∷ blank ∷ note right_begins ∷ string_pieces formal_pieces (x ∷ xs)

abbrev pub option_pieces : Kind → Option Expr → List Piece
option_pieces k None = []
option_pieces k (Some e) = blank ∷ token k ∷ blank ∷ expr_pieces e

abbrev pub successor_pieces : List (Symbol Expr) → List Piece
successor_pieces [] = []
successor_pieces (x ∷ xs) = blank ∷ note successor_begins ∷ string_pieces expr_pieces (x ∷ xs)

abbrev pub rule_pieces : Rule → List Piece
rule_pieces r =
    left_pieces r.left ++ (predecessor_pieces r.name r.formals ++ (right_pieces r.right
    ++ (option_pieces Colon r.condition ++ (option_pieces At r.weight ++ blank ∷ token Arrow ∷ successor_pieces r.successor))))

abbrev pub IsOption : Option Expr → Type 0
IsOption None = Unit {0}
IsOption (Some e) = IsExpr e

-- a module alone
abbrev pub IsPattern : Symbol NameText → Type 0
IsPattern (Module n fs) = Unit {0}
IsPattern s = ⊥

-- no cut
abbrev pub IsItem : Symbol NameText → Type 0
IsItem Cut = ⊥
IsItem s = Unit {0}

-- the tree of a rule's sentence, nesting apart
pub record IsRule (r : Rule) : Type 0 where
  pub left : EachOf (IsSymbol IsNameText) r.left
  pub patterns : EachOf IsPattern r.left
  pub name : IsModuleName r.name
  pub formals : EachOf IsNameText r.formals
  pub right : EachOf (IsSymbol IsNameText) r.right
  pub items : EachOf IsItem r.right
  pub right_balanced : balanced 0 r.right ≡ true
  pub condition : IsOption r.condition
  pub weight : IsOption r.weight
  pub successor : EachOf (IsSymbol IsExpr) r.successor
  pub successor_balanced : balanced 0 r.successor ≡ true

pub record IsProduction (p : Production) : Type 0 where
  pub table : IsWordText p.table
  pub label : IsWordText p.label
  pub rule : IsRule p.rule

abbrev pub option_nesting : Option Expr → ℕ
option_nesting None = 0
option_nesting (Some e) = expr_nesting e

abbrev pub params_nesting : List Expr → ℕ
params_nesting [] = 0
params_nesting (e ∷ es) = max (expr_nesting e) (params_nesting es)

abbrev pub string_nesting : List (Symbol Expr) → ℕ
string_nesting [] = 0
string_nesting (Module n es ∷ xs) = max (params_nesting es) (string_nesting xs)
string_nesting (x ∷ xs) = string_nesting xs

-- the deepest nesting of its expressions
abbrev pub rule_nesting : Rule → ℕ
rule_nesting r = max (option_nesting r.condition) (max (option_nesting r.weight) (string_nesting r.successor))

-- Successors without parameters, which become the same whatever the values of the rule's formals are.
use Rattle.std.specs.Prelude.{◌≡◌, ℕ, ℤ, List, [], ◌∷◌, Option, Some, None, Ok}
use Rattle.lsys_spec.specs.Bodies.{body_of}
use Rattle.lsys_spec.specs.Meaning.{filled}
use Rattle.lsys_expr.specs.Expression.{Expression}
use Rattle.lsys_module.specs.Views.{string_of}
use Rattle.lsys_module.specs.declared.symbol.Symbol.{Symbol}
use Rattle.lsys_module.specs.declared.symbol.Symbol.TheVariants as symbols
use Rattle.lsys_bodies.specs.declared.body.Body.{Body}
use Rattle.lsys_bodies.specs.declared.body.Template.{Template}
use Rattle.lsys_bodies.specs.declared.body.Template.TheVariants as templates
use Rattle.lsys_bodies.specs.Views.{as_rule}

-- the module with this name, where it has no parameters
abbrev pub module_alone : List ℕ → List Expression → Option Symbol
module_alone name [] = Some (symbols.Module (record { name = name; params = [] }))
module_alone name (e ∷ es) = None

-- the symbol that a template is; none where it has parameters
abbrev pub symbol_alone : Template → Option Symbol
symbol_alone templates.Push = Some symbols.Push
symbol_alone templates.Pop = Some symbols.Pop
symbol_alone templates.Cut = Some symbols.Cut
symbol_alone (templates.Module name params) = module_alone name params.items

-- the symbol before these, where both are there
abbrev pub before_others : Option Symbol → Option (List Symbol) → Option (List Symbol)
before_others None more = None
before_others (Some s) None = None
before_others (Some s) (Some more) = Some (s ∷ more)

-- the symbols of these templates; none where one of them has parameters
abbrev pub constant_of : List Template → Option (List Symbol)
constant_of [] = Some []
constant_of (x ∷ xs) = before_others (symbol_alone x) (constant_of xs)

-- the successor becomes these symbols by the definitions, whatever the values of the formals are
abbrev pub IsConstant : Body → List Symbol → Type 0
IsConstant b symbols =
    (values : List ℤ) → filled (body_of (as_rule b)).successor values ≡ Ok (string_of symbols)

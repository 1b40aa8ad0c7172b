-- What a successor becomes, as the code answers it.
use Rattle.std.specs.Prelude.{◌≡◌, ℤ, Result, Ok, Err, List, [], ◌∷◌, ◌++◌, length, take, map}
use Rattle.lsys_syntax.specs.Strings as S
use Rattle.lsys_spec.specs.Values as meaning
use Rattle.lsys_spec.specs.Bodies.{body_of}
use Rattle.lsys_spec.specs.Meaning.{filled}
use Rattle.lsys_expr.specs.Answers.{arith_of}
use Rattle.lsys_expr.specs.declared.arith.Arith as code
use Rattle.lsys_module.specs.Views.{symbol_of, string_of}
use Rattle.lsys_module.specs.declared.symbol.Symbol.{Symbol}
use Rattle.lsys_bodies.specs.declared.body.Body.{Body}
use Rattle.lsys_bodies.specs.declared.body.Template.{Template}
use Rattle.lsys_bodies.specs.Views.{template_of, as_rule}
use Rattle.lsys_rewrite.specs.declared.refusal.FillRefusal.{FillRefusal}
use Rattle.lsys_rewrite.specs.declared.refusal.FillRefusal.TheVariants.{Arith, Memory}

-- the string, or the first fault; lack of memory says nothing
abbrev pub IsFilled : Result (List (S.Symbol ℤ)) meaning.Arith → Result (List Symbol) FillRefusal → Type 0
IsFilled r (Ok symbols) = r ≡ Ok (string_of symbols)
IsFilled r (Err (Arith e)) = r ≡ Err (arith_of e)
IsFilled r (Err Memory) = Unit {0}

-- The string stands after what was there; on a fault, or where memory is wanting, only this is there.
abbrev pub IsAdded : Result (List (S.Symbol ℤ)) meaning.Arith → List Symbol → List Symbol → Result (Unit {0}) FillRefusal → Type 0
IsAdded r old new (Ok done) = (more : List Symbol) × (new ≡ old ++ more) × (r ≡ Ok (string_of more))
IsAdded r old new (Err (Arith e)) = (new ≡ old) × (r ≡ Err (arith_of e))
IsAdded r old new (Err Memory) = new ≡ old

-- The same, but on a refusal a front of the string may stand after what was there.
abbrev pub IsAddedFront : Result (List (S.Symbol ℤ)) meaning.Arith → List Symbol → List Symbol → Result (Unit {0}) FillRefusal → Type 0
IsAddedFront r old new (Ok done) = (more : List Symbol) × (new ≡ old ++ more) × (r ≡ Ok (string_of more))
IsAddedFront r old new (Err (Arith e)) = (take (length old) new ≡ old) × (r ≡ Err (arith_of e))
IsAddedFront r old new (Err Memory) = take (length old) new ≡ old

-- the string of one symbol, or its fault
abbrev pub IsFilledSymbol : Result (List (S.Symbol ℤ)) meaning.Arith → Result Symbol code.Arith → Type 0
IsFilledSymbol r (Ok s) = r ≡ Ok (symbol_of s ∷ [])
IsFilledSymbol r (Err e) = r ≡ Err (arith_of e)

-- what the definitions make of the successor of a body, and of templates
abbrev pub successor_filled : Body → List ℤ → Result (List (S.Symbol ℤ)) meaning.Arith
successor_filled b bound = filled (body_of (as_rule b)).successor bound

abbrev pub templates_filled : List Template → List ℤ → Result (List (S.Symbol ℤ)) meaning.Arith
templates_filled templates bound = filled (map template_of templates) bound

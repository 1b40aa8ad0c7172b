-- Successors without parameters.
use Rattle.std.proofs.Common.{◌≡◌, ℕ, ℤ, List, [], ◌∷◌, ◌++◌, ◌+◌, ◌<◌, Option, Some, None, Ok, length, drop, map, get_or, refl, ap, sym, ◌∙◌, append_assoc}
use Rattle.std.proofs.Common.{Bor}
use Rattle.std.specs.Prelude.{IfSome, option_map}
use Rattle.std.proofs.lemmas.Option.{same_Some}
use Rattle.lsys_syntax.specs.Strings as S
use Rattle.lsys_spec.specs.Bodies as spec
use Rattle.lsys_spec.specs.Bodies.{body_of}
use Rattle.lsys_spec.specs.Values.{◌and_then◌}
use Rattle.lsys_spec.specs.Meaning.{filled}
use Rattle.lsys_expr.specs.Expression.{Expression}
use Rattle.lsys_module.specs.Views.{module_name, symbol_of, string_of}
use Rattle.lsys_module.specs.declared.symbol.Symbol.{Symbol}
use Rattle.lsys_module.specs.declared.symbol.Symbol.TheVariants as symbols
use Rattle.lsys_bodies.specs.declared.body.Body.{Body}
use Rattle.lsys_bodies.specs.declared.body.Template.{Template}
use Rattle.lsys_bodies.specs.declared.body.Template.TheVariants as templates
use Rattle.lsys_bodies.specs.Constants.{module_alone, symbol_alone, before_others, constant_of, IsConstant}
use Rattle.lsys_bodies.specs.Views.{as_rule, body_value, template_of, tree_in}
use Rattle.lsys_bodies.proofs.Loops.{drop-here}

-- 1. what they become

module _ (values : List ℤ) (ts : List Template) (ss : List Symbol) (rest : (more : List Symbol) → constant_of ts ≡ Some more → filled (map template_of ts) values ≡ Ok (string_of more)) where
  one_more : (s : Symbol) (o : Option (List Symbol)) → constant_of ts ≡ o → before_others (Some s) o ≡ Some ss → (filled (map template_of ts) values and_then λ ys. Ok (symbol_of s ∷ ys)) ≡ Ok (string_of ss)
  one_more s None e h = cc h
  one_more s (Some more) e h = ap (λ r. r and_then λ ys. Ok (symbol_of s ∷ ys)) (rest more e) ∙ ap (λ xs. Ok (string_of xs)) (same_Some (s ∷ more) ss h)

  one_bare : (name : List ℕ) (es : List Expression) → before_others (module_alone name es) (constant_of ts) ≡ Some ss → filled (S.Module (module_name name) (map tree_in es) ∷ map template_of ts) values ≡ Ok (string_of ss)
  one_bare name [] h = one_more (symbols.Module (record { name = name; params = [] })) (constant_of ts) refl h
  one_bare name (e ∷ es) h = cc h

pub constant_filled : (values : List ℤ) (ts : List Template) (ss : List Symbol) → constant_of ts ≡ Some ss → filled (map template_of ts) values ≡ Ok (string_of ss)
constant_filled values [] ss h = ap (λ xs. Ok (string_of xs)) (same_Some [] ss h)
constant_filled values (templates.Push ∷ ts) ss h = one_more values ts ss (constant_filled values ts) symbols.Push (constant_of ts) refl h
constant_filled values (templates.Pop ∷ ts) ss h = one_more values ts ss (constant_filled values ts) symbols.Pop (constant_of ts) refl h
constant_filled values (templates.Cut ∷ ts) ss h = one_more values ts ss (constant_filled values ts) symbols.Cut (constant_of ts) refl h
constant_filled values (templates.Module name params ∷ ts) ss h = one_bare values ts ss (constant_filled values ts) name params.items h

-- 2. how they are found: after these symbols come those of the templates that are left

abbrev pub with_front : List Symbol → Option (List Symbol) → Option (List Symbol)
with_front front o = option_map (λ more. front ++ more) o

front_on : (front : List Symbol) (s : Symbol) (o : Option (List Symbol)) → with_front front (before_others (Some s) o) ≡ with_front (front ++ s ∷ []) o
front_on front s None = refl
front_on front s (Some more) = ap (λ xs. Some xs) (sym (append_assoc front (s ∷ []) more))

module _ (ts : List Template) (i : ℕ) (t : Template) (front : List Symbol) (within : i < length ts) (is : t ≡ get_or ts i t) (found : constant_of ts ≡ with_front front (constant_of (drop i ts))) where
  at_template : constant_of ts ≡ with_front front (before_others (symbol_alone t) (constant_of (drop (i + 1) ts)))
  at_template = found ∙ ap (λ xs. with_front front (constant_of xs)) (drop-here ts i t within is)

  pub found_more : (s : Symbol) → symbol_alone t ≡ Some s → constant_of ts ≡ with_front (front ++ s ∷ []) (constant_of (drop (i + 1) ts))
  found_more s e = at_template ∙ ap (λ o. with_front front (before_others o (constant_of (drop (i + 1) ts)))) e ∙ front_on front s (constant_of (drop (i + 1) ts))

  pub found_none : symbol_alone t ≡ None → constant_of ts ≡ None
  found_none e = at_template ∙ ap (λ o. with_front front (before_others o (constant_of (drop (i + 1) ts)))) e

-- 3. the successor of a body

pub is_constant : (b : Body) → body_of (as_rule b) ≡ body_value b → (o : Option (Bor (List Symbol))) → option_map (λ s. s.now) o ≡ constant_of b.successor.items → IfSome o (λ s. IsConstant b s.now)
is_constant b means None h = tt
is_constant b means (Some s) h = λ values. ap (λ (m : spec.Body). filled m.successor values) means ∙ constant_filled values b.successor.items s.now (sym h)

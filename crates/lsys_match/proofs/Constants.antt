-- What replaces a module, where it stands in the body of the chosen rule.
use Rattle.std.proofs.Common.{◌≡◌, ℕ, ℤ, true, false, is_some, List, [], Option, Some, None, Ok, refl, ap, sym, ◌∙◌, subst, Bor}
use Rattle.std.specs.Prelude.{IfSome, option_map, slice_get, unwrap_or}
use Rattle.std.proofs.lemmas.Option.{slice_get-map}
use Rattle.lsys_spec.specs.Choice.{as_fault}
use Rattle.lsys_spec.specs.Levels.{ModuleValue}
use Rattle.lsys_module.specs.Views.{string_of}
use Rattle.lsys_module.specs.declared.symbol.Symbol.{Symbol}
use Rattle.lsys_bodies.specs.declared.body.Body.{Body}
use Rattle.lsys_bodies.specs.Constants.{IsConstant, constant_of}
use Rattle.lsys_match.specs.Constants.{MayBecome, body_chosen, constant_chosen, constant_in, symbols_by}
use Rattle.lsys_match.specs.Groups.{meant, rules_of}
use Rattle.lsys_match.specs.Kept.{Kept}
use Rattle.lsys_match.specs.Telling.{IsSuccessor, IsSuccessorKept, IsSuccessorOf}
use Rattle.lsys_match.specs.declared.posed.Posed.{Posed as CodePosed}
use Rattle.lsys_match.proofs.Telling.{filled_there}

module _ (bodies : List Body) (g : ℕ) (b : Body) (at : slice_get bodies g ≡ Some b) where
  meant_there : Some (meant b) ≡ slice_get (rules_of bodies) g
  meant_there = sym (slice_get-map meant bodies g ∙ ap (option_map meant) at)

  constant_there : (o : Option (Bor (List Symbol))) → option_map (λ s. s.now) o ≡ constant_of b.successor.items → constant_chosen bodies (Some g) ≡ option_map (λ s. s.now) o
  constant_there o is = ap constant_in at ∙ sym is

  pub kept_there : (m : ModuleValue) (values : List ℤ) (o : Option (Bor (List Symbol))) → option_map (λ s. s.now) o ≡ constant_of b.successor.items → IfSome o (λ s. IsConstant b s.now) → is_some o ≡ true
      → IsSuccessor (rules_of bodies) m (Some g) values (Ok (symbols_by bodies (Some g) []))
  kept_there m values None is means h = cc h
  kept_there m values (Some s) is means h =
      filled_there (rules_of bodies) g values (meant b) meant_there ∙ ap as_fault (means values)
      ∙ ap (λ o. Ok (string_of (unwrap_or o []))) (sym (constant_there (Some s) is))

  pub none_there : (o : Option (Bor (List Symbol))) → option_map (λ s. s.now) o ≡ constant_of b.successor.items → is_some o ≡ false → constant_chosen bodies (Some g) ≡ None
  none_there None is h = constant_there None is
  none_there (Some s) is h = cc h

-- the symbols that are kept where the chosen rule's body has none
pub kept_alone : (q : CodePosed) (chosen : Option ℕ) (values : List ℤ) (ss : List Symbol) → constant_chosen q.group chosen ≡ None → IsSuccessorOf q chosen values (Ok ss) → IsSuccessorKept q chosen values (Ok ss)
kept_alone q chosen values ss e h = h ∙ ap (λ o. Ok (string_of (unwrap_or o ss))) (sym e)

-- what an answer lends

pub lends : (bodies : List Body) (chosen : Option ℕ) (kept : List Symbol) (o : Option (Bor Body)) → option_map (λ b. b.now) o ≡ body_chosen bodies chosen → IfSome o (λ b. MayBecome (symbols_by bodies chosen kept) b.now)
lends bodies chosen kept None h = tt
lends bodies chosen kept (Some b) h = by (constant_of b.now.successor.items) refl
  where
    by : (o : Option (List Symbol)) → constant_of b.now.successor.items ≡ o → IfSome o (λ s. s ≡ symbols_by bodies chosen kept)
    by None e = tt
    by (Some s) e = sym (ap (λ c. unwrap_or (constant_in c) kept) (sym h) ∙ ap (λ o. unwrap_or o kept) e)

pub has_own : (a : Kept) (symbols : List Symbol) → a.successor ≡ symbols_by a.bodies a.chosen symbols → constant_chosen a.bodies a.chosen ≡ None → symbols ≡ a.successor
has_own a symbols e none = sym (e ∙ ap (λ o. unwrap_or o symbols) none)

-- the symbols of a lent body

pub constant_lent : (o : Option Body) (b : Body) → Some b ≡ o → (s : Option (Bor (List Symbol))) → option_map (λ s. s.now) s ≡ constant_of b.successor.items → option_map (λ s. s.now) s ≡ constant_in o
constant_lent o b h s e = e ∙ ap constant_in h

pub replaces_lent : (successor : List Symbol) (b : Body) (s : Option (Bor (List Symbol))) → option_map (λ s. s.now) s ≡ constant_of b.successor.items → MayBecome successor b → IfSome s (λ s. s.now ≡ successor)
replaces_lent successor b None e h = tt
replaces_lent successor b (Some s) e h = subst (λ o. IfSome o (λ s. s ≡ successor)) (sym e) h

-- Successors, symbol by symbol, and their parameters, one by one.
use Rattle.std.proofs.Common.{◌≡◌, ℕ, ℤ, true, Result, Ok, Err, List, [], ◌∷◌, ◌++◌, length, map, take, drop, ap, sym, ◌∙◌}
use Rattle.std.specs.Prelude.{is_err}
use Rattle.lsys_syntax.specs.Strings as S
use Rattle.lsys_spec.specs.Values as meaning
use Rattle.lsys_spec.specs.Values.{◌and_then◌, value}
use Rattle.lsys_spec.specs.Meaning.{filled, filled_params}
use Rattle.lsys_module.specs.declared.symbol.Symbol.{Symbol}
use Rattle.lsys_module.specs.Views.{string_of}
use Rattle.lsys_bodies.specs.Views.{template_of}
use Rattle.lsys_bodies.specs.declared.body.Template.{Template}
use Rattle.lsys_rewrite.specs.declared.refusal.FillRefusal.{FillRefusal}
use Rattle.lsys_rewrite.specs.declared.refusal.FillRefusal.TheVariants as refusals
use Rattle.lsys_rewrite.specs.Filled.{IsAdded, IsAddedFront}
use Rattle.lsys_rewrite.proofs.After.{after, after_twice}

-- one parameter more
pub params_more : (front : List ℤ) (t : meaning.Tree) (ts : List meaning.Tree) (bound : List ℤ) (z : ℤ) → Ok z ≡ value t bound
    → after front (filled_params (t ∷ ts) bound) ≡ after (front ++ z ∷ []) (filled_params ts bound)
params_more front t ts bound z h =
    ap (λ (r : Result ℤ meaning.Arith). after front (r and_then λ z. filled_params ts bound and_then λ zs. Ok (z ∷ zs))) (sym h)
    ∙ after_twice front (z ∷ []) (filled_params ts bound)

-- After old stand the symbols of the templates before place i; with those of the others after them they are those of all.
pub record Grown (old new : List Symbol) (templates : List Template) (i : ℕ) (bound : List ℤ) : Type 0 where
  pub more : List Symbol
  pub is : new ≡ old ++ more
  pub told : after (string_of more) (filled (map template_of (drop i templates)) bound) ≡ filled (map template_of templates) bound

-- what was there stays alone, where the list is cut back on a refusal
pub cut_back : (r : Result (List (S.Symbol ℤ)) meaning.Arith) (old front new : List Symbol) (result : Result (Unit {0}) FillRefusal) → is_err result ≡ true
    → new ≡ take (length old) front → IsAddedFront r old front result → IsAdded r old new result
cut_back r old front new (Ok done) t e h = cc
cut_back r old front new (Err (refusals.Arith k)) t e h = (e ∙ h.0, h.1)
cut_back r old front new (Err refusals.Memory) t e h = e ∙ h

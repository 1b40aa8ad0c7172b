-- The spans and symbols of a rule's line, one by one: an expression stands at each, and its names are formals.
use Rattle.std.proofs.Common.{◌≡◌, ℕ, zero, suc, ◌+◌, ◌<◌, Bool, true, false, ◌||◌, Option, Some, None, List, [], ◌∷◌, length, get_or, refl, ap, sym, subst, ◌∙◌, arith, cond}
use Rattle.std.proofs.lemmas.Iterator.Adapters.{position_from-zero}
use Rattle.std.specs.Prelude.{is_some, position}
use Rattle.std.specs.List.{list_any, position_from}
use Rattle.lsys_syntax.specs.Tokens.{NameText, Kind}
use Rattle.lsys_syntax.specs.Strings.{EachOf}
use Rattle.lsys_syntax.specs.Rules.{IsPattern}
use Rattle.lsys_syntax.specs.Checks.{is_unknown}
use Rattle.lsys_reading.specs.declared.span.ExprSpan.{ExprSpan}
use Rattle.lsys_reading.specs.declared.images.ImageSymbol.{ImageSymbol}
use Rattle.lsys_reading.specs.declared.patterns.PatternSymbol.{PatternSymbol}
use Rattle.lsys_reading.specs.declared.patterns.PatternSymbol.TheVariants as patterns
use Rattle.lsys_reading.specs.declared.patterns.PatternModule.{PatternModule}
use Rattle.lsys_reading.specs.Patterns.{symbol_read}
use Rattle.lsys_reading.specs.Heads.{patterns_of}
use Rattle.lsys_reading.specs.Spans.{part, expr_at, IsSpan, AreSpans}
use Rattle.lsys_reading.specs.Images.{params_at, image_at, images_at, ImageIsAt, ImagesAreAt}
use Rattle.lsys_bodies.specs.Building.{IsKnown, AreKnown, SymbolIsKnown, StringIsKnown}

position_from-any : (p : Kind → Bool) (ks : List Kind) (n : ℕ) → is_some (position_from p n ks) ≡ list_any p ks
position_from-any p [] n = refl
position_from-any p (k ∷ ks) n = by (p k) (position_from-any p ks (n + 1))
  where
    by : (b : Bool) → is_some (position_from p (n + 1) ks) ≡ list_any p ks → is_some (cond b (Some n) (position_from p (n + 1) ks)) ≡ (b || list_any p ks)
    by true h = refl
    by false h = h

none-from : (o : Option ℕ) → is_some o ≡ false → o ≡ None
none-from None h = refl
none-from (Some n) h = cc

-- no name of the expression is unknown
pub none-unknown : (fs : List NameText) (ks : List Kind) (s : ExprSpan) → IsSpan ks s → IsKnown fs (expr_at ks s) → position (is_unknown fs) (part ks s) ≡ None
none-unknown fs ks s h known =
    let found : is_some (position (is_unknown fs) (part ks s)) ≡ list_any (is_unknown fs) (part ks s) =
    ap is_some (position_from-zero (is_unknown fs) (part ks s)) ∙ position_from-any (is_unknown fs) (part ks s) 0 in
    none-from (position (is_unknown fs) (part ks s)) (found ∙ ap (list_any (is_unknown fs)) (sym h.kinds) ∙ known)

pub span-get : (ks : List Kind) (ss : List ExprSpan) (i : ℕ) (d : ExprSpan) → AreSpans ks ss → i < length ss → IsSpan ks (get_or ss i d)
span-get ks [] i d a h = absurd (omega arith)
span-get ks (s ∷ ss) zero d a h = a.0
span-get ks (s ∷ ss) (suc i) d a h = span-get ks ss i d a.1 (omega arith)

pub known-get : (fs : List NameText) (ks : List Kind) (ss : List ExprSpan) (i : ℕ) (d : ExprSpan) → AreKnown fs (params_at ks ss) → i < length ss → IsKnown fs (expr_at ks (get_or ss i d))
known-get fs ks [] i d a h = absurd (omega arith)
known-get fs ks (s ∷ ss) zero d a h = a.0
known-get fs ks (s ∷ ss) (suc i) d a h = known-get fs ks ss i d a.1 (omega arith)

pub image-item : (ks : List Kind) (xs : List ImageSymbol) (i : ℕ) (x : ImageSymbol) → ImagesAreAt ks xs → i < length xs → x ≡ get_or xs i x → ImageIsAt ks x
image-item ks [] i x a h e = absurd (omega arith)
image-item ks (y ∷ xs) zero x a h e = subst (ImageIsAt ks) (sym e) a.0
image-item ks (y ∷ xs) (suc i) x a h e = image-item ks xs i x a.1 (omega arith) e

pub known-item : (fs : List NameText) (ks : List Kind) (xs : List ImageSymbol) (i : ℕ) (x : ImageSymbol) → StringIsKnown fs (images_at ks xs) → i < length xs → x ≡ get_or xs i x → SymbolIsKnown fs (image_at ks x)
known-item fs ks [] i x a h e = absurd (omega arith)
known-item fs ks (y ∷ xs) zero x a h e = subst (λ z. SymbolIsKnown fs (image_at ks z)) (sym e) a.0
known-item fs ks (y ∷ xs) (suc i) x a h e = known-item fs ks xs i x a.1 (omega arith) e

-- a symbol of a left context is a module
pub module-item : (xs : List PatternSymbol) (i : ℕ) (x : PatternSymbol) → EachOf IsPattern (patterns_of xs) → i < length xs → x ≡ get_or xs i x → IsPattern (symbol_read x)
module-item [] i x a h e = absurd (omega arith)
module-item (y ∷ xs) zero x a h e = subst (λ z. IsPattern (symbol_read z)) (sym e) a.0
module-item (y ∷ xs) (suc i) x a h e = module-item xs i x a.1 (omega arith) e

-- one that is another symbol isn't there
pub not-a-module : (x : PatternSymbol) → ((m : PatternModule) → x ≡ patterns.Module m → ⊥) → IsPattern (symbol_read x) → ⊥
not-a-module (patterns.Module m) none h = none m refl
not-a-module patterns.Push none h = h
not-a-module patterns.Pop none h = h

-- Loops that build a list from a list, element by element.
use Rattle.std.proofs.Common.{◌≡◌, ℕ, zero, suc, ◌+◌, ◌<◌, List, [], ◌∷◌, ◌++◌, drop, length, map, get_or, refl, ap, sym, ◌∙◌, add-one, arith, append_assoc}
use Rattle.std.proofs.Common.{Option, Some, None}
use Rattle.std.specs.Prelude.{option_map}
use Rattle.std.proofs.lemmas.List.{get_or_default}
use Rattle.lsys_syntax.specs.Tokens.{NameText, Kind}
use Rattle.lsys_spec.specs.Values.{expr_tree}
use Rattle.lsys_reading.specs.declared.span.ExprSpan.{ExprSpan}
use Rattle.lsys_reading.specs.Spans.{option_at}
use Rattle.lsys_bodies.specs.Building.{tree_at}

drop-suc : {A : Type 0} → (xs : List A) (i : ℕ) (x : A) → i < length xs → x ≡ get_or xs i x → drop i xs ≡ x ∷ drop (suc i) xs
drop-suc [] i x h e = absurd (omega arith)
drop-suc (y ∷ xs) zero x h e = ap (λ z. z ∷ xs) (sym e)
drop-suc (y ∷ xs) (suc i) x h e = drop-suc xs i x (omega arith) e

-- an element, and those after it
pub drop-here : {A : Type 0} → (xs : List A) (i : ℕ) (x : A) → i < length xs → x ≡ get_or xs i x → drop i xs ≡ x ∷ drop (i + 1) xs
drop-here xs i x h e = rw add-one (drop-suc xs i x h e)

pub map-push : {A B : Type 0} → (f : A → B) (xs : List A) (y : A) → map f (xs ++ y ∷ []) ≡ map f xs ++ f y ∷ []
map-push f [] y = refl
map-push f (x ∷ xs) y = ap (λ t. f x ∷ t) (map-push f xs y)

pub map-append : {A B : Type 0} → (f : A → B) (xs ys : List A) → map f (xs ++ ys) ≡ map f xs ++ map f ys
map-append f [] ys = refl
map-append f (x ∷ xs) ys = ap (λ t. f x ∷ t) (map-append f xs ys)

pub map-map : {A B C : Type 0} → (f : B → C) (g : A → B) (xs : List A) → map f (map g xs) ≡ map (λ x. f (g x)) xs
map-map f g [] = refl
map-map f g (x ∷ xs) = ap (λ t. f (g x) ∷ t) (map-map f g xs)

-- What was built, with what is still to be built, is all. One more element:
pub built-more : {A B C : Type 0} → (f : A → C) (g : B → C) (made : List A) (x : A) (xs : List B) (i : ℕ) (y : B) → i < length xs → y ≡ get_or xs i y → f x ≡ g y
    → map f made ++ map g (drop i xs) ≡ map g xs → map f (made ++ x ∷ []) ++ map g (drop (i + 1) xs) ≡ map g xs
built-more f g made x xs i y h e s all =
    ap (λ ts. ts ++ map g (drop (i + 1) xs)) (map-push f made x) ∙ append_assoc (map f made) (f x ∷ []) (map g (drop (i + 1) xs))
    ∙ ap (λ z. map f made ++ z ∷ map g (drop (i + 1) xs)) s ∙ ap (λ ys. map f made ++ map g ys) (sym (drop-here xs i y h e)) ∙ all

-- the same, where the element is told by a default
pub built-get : {A B C : Type 0} → (f : A → C) (g : B → C) (made : List A) (x : A) (xs : List B) (i : ℕ) (d : B) → i < length xs → f x ≡ g (get_or xs i d)
    → map f made ++ map g (drop i xs) ≡ map g xs → map f (made ++ x ∷ []) ++ map g (drop (i + 1) xs) ≡ map g xs
built-get f g made x xs i d h s all = built-more f g made x xs i (get_or xs i d) h (get_or_default xs i d (get_or xs i d) h) s all

-- a mapped option that is mapped
pub option-at : (fs : List NameText) (ks : List Kind) (o : Option ExprSpan) → option_map (tree_at fs ks) o ≡ option_map (expr_tree fs) (option_at ks o)
option-at fs ks None = refl
option-at fs ks (Some s) = refl

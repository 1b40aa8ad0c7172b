-- What tests that are joined tell.
use Rattle.std.proofs.Common.{◌≡◌, Bool, true, false, ◌&&◌, ◌||◌, List, ◌∷◌, refl, sym, ◌∙◌, ◌⊎◌, inl, inr}
use Rattle.std.specs.Prelude.{not}
use Rattle.lsys_spec.specs.Walks.{any_holds}

pub both : (a b : Bool) → a && b ≡ true → (a ≡ true) × (b ≡ true)
both true true h = (refl, refl)
both true false h = cc
both false b h = cc

pub and_true : (a b : Bool) → a ≡ true → b ≡ true → a && b ≡ true
and_true true true h k = refl
and_true true false h k = k
and_true false b h k = h

pub one_of : (a b : Bool) → a || b ≡ true → (a ≡ true) ⊎ (b ≡ true)
one_of true b h = inl refl
one_of false b h = inr h

pub or_first : (a b : Bool) → a ≡ true → a || b ≡ true
or_first true b h = refl
or_first false b h = cc

pub or_later : (a b : Bool) → b ≡ true → a || b ≡ true
or_later true b h = refl
or_later false b h = h

pub neither : (a b : Bool) → a || b ≡ false → (a ≡ false) × (b ≡ false)
neither true b h = cc
neither false b h = (refl, h)

pub not_false : (a : Bool) → not a ≡ false → a ≡ true
not_false true h = refl
not_false false h = cc

pub each_way : (a b : Bool) → (a ≡ true → b ≡ true) → (b ≡ true → a ≡ true) → a ≡ b
each_way true b f g = sym (f refl)
each_way false false f g = refl
each_way false true f g = g refl

either_by : (a b : Bool) → elim a [ true ↦ true | false ↦ b ] ≡ a || b
either_by true b = refl
either_by false b = refl

-- the first, or one after it
pub any_is : {A : Type 0} (p : A → Bool) (x : A) (xs : List A) → any_holds p (x ∷ xs) ≡ p x || any_holds p xs
any_is p x xs = either_by (p x) (any_holds p xs)

pub none_of : {A : Type 0} (p : A → Bool) (x : A) (xs : List A) → any_holds p (x ∷ xs) ≡ false → (p x ≡ false) × (any_holds p xs ≡ false)
none_of p x xs h = neither (p x) (any_holds p xs) (sym (any_is p x xs) ∙ h)

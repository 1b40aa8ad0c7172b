-- Sizes of levels, told one by one.
use Rattle.std.proofs.Common.{◌≡◌, ℕ, zero, suc, Bool, false, List, [], ◌∷◌, length, Some, None, slice_get, slice_set, refl, sym, ap, arith}
use Rattle.std.proofs.lemmas.Option.{none-some, same_Some}
use Rattle.lsys_pass.specs.declared.sizes.Size.{Size}
use Rattle.lsys_pass.specs.Sizes.{symbols_at, opens_at, with_open}

pub symbols_some : (xs : List Size) (t : ℕ) (x : Size) → slice_get xs t ≡ Some x → x.symbols ≡ symbols_at xs t
symbols_some [] t x e = absurd (none-some x e)
symbols_some (y ∷ ys) zero x e = ap (λ (z : Size). z.symbols) (sym (same_Some y x e))
symbols_some (y ∷ ys) (suc t) x e = symbols_some ys t x e

pub symbols_none : (xs : List Size) (t : ℕ) → slice_get xs t ≡ None → 0 ≡ symbols_at xs t
symbols_none [] t e = refl
symbols_none (y ∷ ys) zero e = absurd (none-some y (sym e))
symbols_none (y ∷ ys) (suc t) e = symbols_none ys t e

pub opens_some : (xs : List Size) (t : ℕ) (x : Size) → slice_get xs t ≡ Some x → x.is_open ≡ opens_at xs t
opens_some [] t x e = absurd (none-some x e)
opens_some (y ∷ ys) zero x e = ap (λ (z : Size). z.is_open) (sym (same_Some y x e))
opens_some (y ∷ ys) (suc t) x e = opens_some ys t x e

pub opens_none : (xs : List Size) (t : ℕ) → slice_get xs t ≡ None → false ≡ opens_at xs t
opens_none [] t e = refl
opens_none (y ∷ ys) zero e = absurd (none-some y (sym e))
opens_none (y ∷ ys) (suc t) e = opens_none ys t e

pub told_at : (xs : List Size) (i : ℕ) (b : Bool) (x : Size) → suc i ≡ length xs → slice_get xs i ≡ Some x → slice_set xs i (record { symbols = x.symbols; is_open = b }) ≡ with_open xs b
told_at [] i b x l e = absurd (none-some x e)
told_at (y ∷ []) zero b x l e = ap (λ (n : ℕ). one n) (ap (λ (z : Size). z.symbols) (sym (same_Some y x e)))
  where
    one : ℕ → List Size
    one n = record { symbols = n; is_open = b } ∷ []
told_at (y ∷ []) (suc i) b x l e = absurd (none-some x e)
told_at (y ∷ z ∷ ys) zero b x l e = absurd (omega (arith, l))
told_at (y ∷ z ∷ ys) (suc i) b x l e = ap (λ (zs : List Size). y ∷ zs) (told_at (z ∷ ys) i b x (omega (arith, l)) e)

-- The name of a text is printed as the text.
use Rattle.std.proofs.Common.{◌≡◌, ℕ, Bool, true, false, List, [], ◌∷◌, ◌==◌, if◌then◌else◌, refl, ap, sym, eqb-true}
use Rattle.lsys_syntax.specs.Strings.{ModuleName}
use Rattle.lsys_spec.specs.Systems.{module_name_text}
use Rattle.lsys_text.specs.Texts.{IsNameBytes}
use Rattle.lsys_module.specs.Views.{short_name, module_name}

chosen : {A : Type 0} (P : A → Type 0) (b : Bool) (x y : A) → (b ≡ true → P x) → P y → P (if b then x else y)
chosen P true x y f g = f refl
chosen P false x y f g = g

byte : (c k : ℕ) → c ≡ k → k ∷ [] ≡ c ∷ []
byte c k e = ap (λ x. x ∷ []) (sym e)

one_byte : (c : ℕ) → module_name_text (short_name c) ≡ c ∷ []
one_byte c =
    let P = λ (m : ModuleName). module_name_text m ≡ c ∷ [] in
    chosen P (c == 43) _ _ (λ e. byte c 43 (eqb-true c 43 e)) (
    chosen P (c == 45) _ _ (λ e. byte c 45 (eqb-true c 45 e)) (
    chosen P (c == 38) _ _ (λ e. byte c 38 (eqb-true c 38 e)) (
    chosen P (c == 94) _ _ (λ e. byte c 94 (eqb-true c 94 e)) (
    chosen P (c == 92) _ _ (λ e. byte c 92 (eqb-true c 92 e)) (
    chosen P (c == 47) _ _ (λ e. byte c 47 (eqb-true c 47 e)) (
    chosen P (c == 124) _ _ (λ e. byte c 124 (eqb-true c 124 e)) (
    chosen P (c == 33) _ _ (λ e. byte c 33 (eqb-true c 33 e)) refl)))))))

pub module_name-text : (text : List ℕ) → IsNameBytes text → module_name_text (module_name text) ≡ text
module_name-text [] h = elim h [ ]
module_name-text (c ∷ []) h = one_byte c
module_name-text (c ∷ d ∷ more) h = ap (λ x. c ∷ x ∷ more) (sym h.0)

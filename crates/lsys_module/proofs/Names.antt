-- The name of a text: it is printed as the text, and a letter tells it from a mark.
use Rattle.std.proofs.Common.{get_or, ◌≡◌, ℕ, Bool, true, false, List, [], ◌∷◌, ◌==◌, ◌||◌, if◌then◌else◌, refl, ap, ◌∙◌, sym, eqb-true}
use Rattle.std.specs.Prelude.{bytes_eq}
use Rattle.lsys_syntax.specs.Tokens.{is_letter, short}
use Rattle.lsys_syntax.specs.Strings.{ModuleName, named, plus, minus, ampersand, caret, backslash, slash, bar, bang, is_letters}
use Rattle.lsys_spec.specs.Systems.{module_name_text, same_name}
use Rattle.lsys_text.specs.Texts.{IsNameBytes, is_name_mark}
use Rattle.lsys_module.specs.Views.{short_name, module_name}

chosen : {A : Type 0} (P : A → Type 0) (b : Bool) (x y : A) → (b ≡ true → P x) → (b ≡ false → P y) → P (if b then x else y)
chosen P true x y f g = f refl
chosen P false x y f g = g refl

no_mark : (c : ℕ) → (c == 43) ≡ false → (c == 45) ≡ false → (c == 38) ≡ false → (c == 94) ≡ false → (c == 92) ≡ false → (c == 47) ≡ false → (c == 124) ≡ false → (c == 33) ≡ false → is_name_mark c ≡ false
no_mark c e₁ e₂ e₃ e₄ e₅ e₆ e₇ e₈ = rw (e₁, e₂, e₃, e₄, e₅, e₆, e₇, e₈) refl

-- what holds of the name of one byte, by the byte
pub short_name-cases : (P : ModuleName → Type 0) (c : ℕ) → (c ≡ 43 → P plus) → (c ≡ 45 → P minus) → (c ≡ 38 → P ampersand) → (c ≡ 94 → P caret) → (c ≡ 92 → P backslash) → (c ≡ 47 → P slash) → (c ≡ 124 → P bar) → (c ≡ 33 → P bang) → (is_name_mark c ≡ false → P (named (short c))) → P (short_name c)
short_name-cases P c p₁ p₂ p₃ p₄ p₅ p₆ p₇ p₈ p₉ =
    chosen P (c == 43) _ _ (λ e. p₁ (eqb-true c 43 e)) (λ e₁.
    chosen P (c == 45) _ _ (λ e. p₂ (eqb-true c 45 e)) (λ e₂.
    chosen P (c == 38) _ _ (λ e. p₃ (eqb-true c 38 e)) (λ e₃.
    chosen P (c == 94) _ _ (λ e. p₄ (eqb-true c 94 e)) (λ e₄.
    chosen P (c == 92) _ _ (λ e. p₅ (eqb-true c 92 e)) (λ e₅.
    chosen P (c == 47) _ _ (λ e. p₆ (eqb-true c 47 e)) (λ e₆.
    chosen P (c == 124) _ _ (λ e. p₇ (eqb-true c 124 e)) (λ e₇.
    chosen P (c == 33) _ _ (λ e. p₈ (eqb-true c 33 e)) (λ e₈.
    p₉ (no_mark c e₁ e₂ e₃ e₄ e₅ e₆ e₇ e₈)))))))))

byte : (c k : ℕ) → c ≡ k → k ∷ [] ≡ c ∷ []
byte c k e = ap (λ x. x ∷ []) (sym e)

-- a byte's name is printed as the byte
short_name-text : (c : ℕ) → module_name_text (short_name c) ≡ c ∷ []
short_name-text c =
    short_name-cases (λ m. module_name_text m ≡ c ∷ []) c (byte c 43) (byte c 45) (byte c 38) (byte c 94) (byte c 92) (byte c 47) (byte c 124) (byte c 33) (λ e. refl)

-- the name of a text that can name a module is printed as the text
pub module_name-text : (text : List ℕ) → IsNameBytes text → module_name_text (module_name text) ≡ text
module_name-text [] h = elim h [ ]
module_name-text (c ∷ []) h = short_name-text c
module_name-text (c ∷ d ∷ more) h = ap (λ x. c ∷ x ∷ more) (sym h.0)

-- two names are the same exactly where their texts are
pub same_name-module_name : (m n : List ℕ) → IsNameBytes m → IsNameBytes n → same_name (module_name m) (module_name n) ≡ bytes_eq m n
same_name-module_name m n h k = rw (module_name-text m h, module_name-text n k) refl

not_letter : (c k : ℕ) → is_letter k ≡ false → c ≡ k → false ≡ is_letter c
not_letter c k n e = sym (ap is_letter e ∙ n)

letter_or_mark : (a b : Bool) → (a || b) ≡ true → b ≡ false → true ≡ a
letter_or_mark true b h e = refl
letter_or_mark false b h e = cc

-- a name begins with a letter, or it is a mark
pub first_letter : (c : ℕ) (more : List ℕ) → IsNameBytes (c ∷ more) → is_letters (module_name (c ∷ more)) ≡ is_letter c
first_letter c [] h =
    short_name-cases (λ m. is_letters m ≡ is_letter c) c
    (not_letter c 43 refl) (not_letter c 45 refl) (not_letter c 38 refl) (not_letter c 94 refl)
    (not_letter c 92 refl) (not_letter c 47 refl) (not_letter c 124 refl) (not_letter c 33 refl)
    (letter_or_mark (is_letter c) (is_name_mark c) h)
first_letter c (d ∷ more) h = sym h.1.0

pub first_is_letter : (text : List ℕ) → IsNameBytes text → is_letters (module_name text) ≡ is_letter (get_or text 0 0)
first_is_letter [] h = elim h [ ]
first_is_letter (c ∷ more) h = first_letter c more h

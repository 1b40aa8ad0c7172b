-- What is seen of two nodes is the same, or it isn't.
use Rattle.std.proofs.Common.{◌≡◌, ◌⊎◌, ℕ, zero, suc, List, [], ◌∷◌, refl, ap, sym, ◌∙◌, inl, inr}
use Rattle.std.specs.Prelude.{ℤ, pos, negsuc}
use Rattle.std.proofs.lemmas.Bool.{cases_eq}
use Rattle.lsys_syntax.specs.Tokens.{NameText, short, long}
use Rattle.lsys_syntax.specs.Strings.{ModuleName, named, plus, minus, ampersand, caret, backslash, slash, bar, bang}
use Rattle.lsys_spec.specs.Levels.{ModuleValue}
use Rattle.lsys_level.specs.Spots.{Seen, Push, Pop, Module}

abbrev AreCases : {A : Type 0} → A → A → Type 0
AreCases x y = (x ≡ y) ⊎ (x ≡ y → ⊥)

list_cases : {A : Type 0} → ((x y : A) → AreCases x y) → (xs ys : List A) → AreCases xs ys
list_cases d [] [] = inl refl
list_cases d [] (y ∷ ys) = inr (λ e. cc)
list_cases d (x ∷ xs) [] = inr (λ e. cc)
list_cases {A} d (x ∷ xs) (y ∷ ys) = elim (d x y) [
  | inr ne ↦ inr (λ e. ne (head e))
  | inl f ↦ elim (list_cases d xs ys) [
    | inr ne ↦ inr (λ e. ne (tail e))
    | inl g ↦ inl (ap (λ z. z ∷ xs) f ∙ ap (λ zs. y ∷ zs) g)
  ]
]
  where
    head : x ∷ xs ≡ y ∷ ys → x ≡ y
    head e = cc

    tail : x ∷ xs ≡ y ∷ ys → xs ≡ ys
    tail e = cc

int_cases : (x y : ℤ) → AreCases x y
int_cases (pos m) (pos n) = elim (cases_eq m n) [ inl e ↦ inl (ap pos e) | inr ne ↦ inr (λ e. ne (same e)) ]
  where
    same : pos m ≡ pos n → m ≡ n
    same e = cc
int_cases (pos m) (negsuc n) = inr (λ e. cc)
int_cases (negsuc m) (pos n) = inr (λ e. cc)
int_cases (negsuc m) (negsuc n) = elim (cases_eq m n) [ inl e ↦ inl (ap negsuc e) | inr ne ↦ inr (λ e. ne (same e)) ]
  where
    same : negsuc m ≡ negsuc n → m ≡ n
    same e = cc

text_cases : (x y : NameText) → AreCases x y
text_cases (short m) (short n) = elim (cases_eq m n) [ inl e ↦ inl (ap short e) | inr ne ↦ inr (λ e. ne (same e)) ]
  where
    same : short m ≡ short n → m ≡ n
    same e = cc
text_cases (short m) (long n bs) = inr (λ e. cc)
text_cases (long m cs) (short n) = inr (λ e. cc)
text_cases (long m cs) (long n bs) = elim (cases_eq m n) [
  | inr ne ↦ inr (λ e. ne (first e))
  | inl f ↦ elim (list_cases cases_eq cs bs) [
    | inr ne ↦ inr (λ e. ne (rest e))
    | inl g ↦ inl (ap (λ z. long z cs) f ∙ ap (long n) g)
  ]
]
  where
    first : long m cs ≡ long n bs → m ≡ n
    first e = cc

    rest : long m cs ≡ long n bs → cs ≡ bs
    rest e = cc

-- a mark by its number, and a name by its text
abbrev mark_of : ModuleName → ℕ
mark_of (named n) = 0
mark_of plus = 1
mark_of minus = 2
mark_of ampersand = 3
mark_of caret = 4
mark_of backslash = 5
mark_of slash = 6
mark_of bar = 7
mark_of bang = 8

abbrev text_in : ModuleName → NameText
text_in (named n) = n
text_in plus = short 0
text_in minus = short 0
text_in ampersand = short 0
text_in caret = short 0
text_in backslash = short 0
text_in slash = short 0
text_in bar = short 0
text_in bang = short 0

abbrev name_by : ℕ → NameText → ModuleName
name_by zero n = named n
name_by (suc zero) n = plus
name_by (suc (suc zero)) n = minus
name_by (suc (suc (suc zero))) n = ampersand
name_by (suc (suc (suc (suc zero)))) n = caret
name_by (suc (suc (suc (suc (suc zero))))) n = backslash
name_by (suc (suc (suc (suc (suc (suc zero)))))) n = slash
name_by (suc (suc (suc (suc (suc (suc (suc zero))))))) n = bar
name_by (suc (suc (suc (suc (suc (suc (suc (suc k)))))))) n = bang

again : (m : ModuleName) → name_by (mark_of m) (text_in m) ≡ m
again (named n) = refl
again plus = refl
again minus = refl
again ampersand = refl
again caret = refl
again backslash = refl
again slash = refl
again bar = refl
again bang = refl

name_cases : (m n : ModuleName) → AreCases m n
name_cases m n = elim (cases_eq (mark_of m) (mark_of n)) [
  | inr ne ↦ inr (λ e. ne (ap mark_of e))
  | inl f ↦ elim (text_cases (text_in m) (text_in n)) [
    | inr ne ↦ inr (λ e. ne (ap text_in e))
    | inl g ↦ inl (sym (again m) ∙ ap (λ k. name_by k (text_in m)) f ∙ ap (name_by (mark_of n)) g ∙ again n)
  ]
]

value_cases : (a b : ModuleValue) → AreCases a b
value_cases a b = elim (name_cases a.name b.name) [
  | inr ne ↦ inr (λ e. ne (ap (λ (v : ModuleValue). v.name) e))
  | inl f ↦ elim (list_cases int_cases a.params b.params) [
    | inr ne ↦ inr (λ e. ne (ap (λ (v : ModuleValue). v.params) e))
    | inl g ↦ inl (ap (λ n. both n a.params) f ∙ ap (both b.name) g)
  ]
]
  where
    both : ModuleName → List ℤ → ModuleValue
    both n ps = record { name = n; params = ps }

pub seen_cases : (x y : Seen) → AreCases x y
seen_cases Push Push = inl refl
seen_cases Push Pop = inr (λ e. cc)
seen_cases Push (Module v) = inr (λ e. cc)
seen_cases Pop Push = inr (λ e. cc)
seen_cases Pop Pop = inl refl
seen_cases Pop (Module v) = inr (λ e. cc)
seen_cases (Module v) Push = inr (λ e. cc)
seen_cases (Module v) Pop = inr (λ e. cc)
seen_cases (Module v) (Module w) = elim (value_cases v w) [ inl e ↦ inl (ap (λ z. Module z) e) | inr ne ↦ inr (λ e. ne (same e)) ]
  where
    same : Module v ≡ Module w → v ≡ w
    same e = cc

-- Names that are listed, and sets of them.
use Rattle.std.proofs.Common.{◌≡◌, ℕ, Bool, true, false, ◌&&◌, ◌||◌, ◌+◌, ◌<◌, List, [], ◌∷◌, ◌++◌, length, take, map, cond, get_or, refl, ap, ap₂, sym, ◌∙◌, subst, bytes_eq}
use Rattle.std.specs.HashSet.{HashSet, contains}
use Rattle.std.specs.List.{list_any}
use Rattle.std.specs.Cmp.Lexicographic.{pointwise}
use Rattle.lsys_laws.proofs.Aparts.{bytes_eq_true}
use Rattle.std.proofs.lemmas.Slice.Eq.{bytes_eq-Decides}
use Rattle.lsys_syntax.specs.Strings.{ModuleName}
use Rattle.lsys_syntax.specs.Commands.{ListKind}
use Rattle.lsys_spec.specs.Walks.{any_holds}
use Rattle.lsys_spec.specs.Meaning.{ignores}
use Rattle.lsys_spec.specs.Standings.{all_ignored, same_ignored, same_kind}
use Rattle.lsys_spec.specs.Systems.{module_name_text, same_name}
use Rattle.lsys_text.specs.Texts.{IsNameBytes}
use Rattle.lsys_module.specs.Views.{module_name}
use Rattle.lsys_module.proofs.Names.{same_name-module_name}
use Rattle.lsys_front.specs.Listed.{ListsNames}
use Rattle.lsys_rules.proofs.Grouping.{take_here, map_more}

-- 1. one more name

any_last : {A : Type 0} (p : A → Bool) (xs : List A) (x : A) → any_holds p (xs ++ x ∷ []) ≡ (p x || any_holds p xs)
any_last p [] x = by (p x)
  where
    by : (b : Bool) → (elim b [ true ↦ true | false ↦ false ]) ≡ (b || false)
    by true = refl
    by false = refl
any_last p (y ∷ ys) x = by (p y) (p x) (any_holds p (ys ++ x ∷ [])) (any_holds p ys) (any_last p ys x)
  where
    by : (a b c d : Bool) → c ≡ (b || d) → (elim a [ true ↦ true | false ↦ c ]) ≡ (b || (elim a [ true ↦ true | false ↦ d ]))
    by true true c d h = refl
    by true false c d h = refl
    by false b c d h = h

module _ {S : Type 0} (old new : HashSet (List ℕ) S) where
  -- a set with one name more
  pub one_more : (name : List ℕ) (names : List ModuleName) → IsNameBytes name
      → ((text : List ℕ) → contains bytes_eq new text ≡ cond (bytes_eq name text) true (contains bytes_eq old text))
      → ListsNames old names → ListsNames new (names ++ module_name name ∷ [])
  one_more name names h put has text k =
      put text ∙ by (bytes_eq name text) (contains bytes_eq old text)
      ∙ ap₂ (λ s c. s || c) (sym (same_name-module_name name text h k)) (has text k)
      ∙ sym (any_last (λ o. same_name o (module_name text)) names (module_name name))
    where
      by : (s c : Bool) → cond s true c ≡ (s || c)
      by true c = refl
      by false c = refl

-- an empty set
pub no_names : {S : Type 0} (set : HashSet (List ℕ) S) → set.keys ≡ [] → ListsNames set []
no_names set e text k = ap (list_any (bytes_eq text)) e

-- one more of the names is in the set
pub next_name : {S : Type 0} (old new : HashSet (List ℕ) S) (names : List (List ℕ)) (i : ℕ) (x : List ℕ) → i < length names → x ≡ get_or names i x
    → ((ns : List ModuleName) → ListsNames old ns → ListsNames new (ns ++ module_name x ∷ []))
    → ListsNames old (map module_name (take i names)) → ListsNames new (map module_name (take (i + 1) names))
next_name old new names i x h e put has =
    subst (ListsNames new) (sym (ap (map module_name) (take_here names i x h e) ∙ map_more module_name (take i names) x)) (put (map module_name (take i names)) has)

-- 2. the same names in order

ignored_more : (n : ModuleName) (ns ms : List ModuleName) → all_ignored ns ms ≡ true → all_ignored ns (n ∷ ms) ≡ true
ignored_more n [] ms h = refl
ignored_more n (x ∷ xs) ms h = by (same_name n x) (ignores ms x) (all_ignored xs ms) (all_ignored xs (n ∷ ms)) h (ignored_more n xs ms)
  where
    by : (a b c d : Bool) → (b && c) ≡ true → (c ≡ true → d ≡ true) → ((elim a [ true ↦ true | false ↦ b ]) && d) ≡ true
    by true true c d h f = f h
    by false true c d h f = f h
    by true false c d h f = cc
    by false false c d h f = cc

all_own : (ns : List ModuleName) → all_ignored ns ns ≡ true
all_own [] = refl
all_own (n ∷ ns) =
    by (same_name n n) (ignores ns n) (all_ignored ns (n ∷ ns)) ((bytes_eq-Decides (module_name_text n) (module_name_text n)).1 refl) (ignored_more n ns ns (all_own ns))
  where
    by : (a b c : Bool) → a ≡ true → c ≡ true → ((elim a [ true ↦ true | false ↦ b ]) && c) ≡ true
    by true b c e f = f
    by false b c e f = cc

pub same_in_order : (k l : ListKind) (ms ns : List ModuleName) → same_kind k l ≡ true → ms ≡ ns → (same_kind k l && same_ignored ms ns) ≡ true
same_in_order k l ms ns h e =
    ap (λ b. b && same_ignored ms ns) h ∙ ap (λ xs. same_ignored ms xs) (sym e) ∙ ap (λ b. b && all_ignored ms ms) (all_own ms) ∙ all_own ms

pub same_lists : (xs ys : List (List ℕ)) → pointwise bytes_eq xs ys ≡ true → xs ≡ ys
same_lists [] [] h = refl
same_lists [] (y ∷ ys) h = cc
same_lists (x ∷ xs) [] h = cc
same_lists (x ∷ xs) (y ∷ ys) h =
    let t = both (bytes_eq x y) (pointwise bytes_eq xs ys) h in
    ap₂ (λ a (l : List (List ℕ)). a ∷ l) (bytes_eq_true x y t.0) (same_lists xs ys t.1)
  where
    both : (a b : Bool) → (a && b) ≡ true → (a ≡ true) × (b ≡ true)
    both true b h = (refl, h)
    both false b h = cc

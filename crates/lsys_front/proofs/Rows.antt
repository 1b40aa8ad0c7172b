-- Lists of nodes: one after the other, those that pass a test, and what is sure of lists and kinds that are not other ones.
use Rattle.std.proofs.Common.{◌≡◌, ◌⊎◌, ℕ, Bool, true, false, cond, List, [], ◌∷◌, ◌++◌, Option, Some, None, refl, sym, ap, ◌∙◌, subst, inl, inr}
use Rattle.std.proofs.lemmas.Bool.{cases_eq}
use Rattle.lsys_spec.specs.Rows.{In, AreApart, flat}
use Rattle.lsys_laws.specs.Kinds.{BracketKind, Opens, Closes, Neither}
use Rattle.lsys_forest.specs.Nodes.{Nodes}
use Rattle.lsys_forest.proofs.RowLemmas as rows
use Rattle.lsys_children.specs.declared.number.Number.{Number}
use Rattle.lsys_children.specs.Matches.{number_of, nodes_where}

-- 1. one list after the other

pub in_flat : (f : ℕ → List ℕ) (xs : List ℕ) (p k : ℕ) → In p xs → In k (f p) → In k (flat f xs)
in_flat f xs p k i l =
    let b = rows.In_split p xs i in
    let s = rows.In_split k (f p) l in
    subst (In k) (sym (ap (flat f) b.2 ∙ rows.flat_around f b.0 p b.1 s.0 k s.1 s.2)) (rows.In_right k (flat f b.0 ++ s.0) (k ∷ (s.1 ++ flat f b.1)) (inl refl))

-- no number stands twice in lists of which each is of another owner
pub flat_owned : (f : ℕ → List ℕ) (owner : ℕ → ℕ) (xs : List ℕ) → AreApart xs → ((p : ℕ) → AreApart (f p)) → ((p k : ℕ) → In k (f p) → owner k ≡ p) → AreApart (flat f xs)
flat_owned f owner [] a own is = tt
flat_owned f owner (x ∷ xs) a own is =
    rows.apart_append (f x) (flat f xs) (own x) (flat_owned f owner xs a.1 own is) (λ k i l. (
    let from = rows.flat_In f xs k l in
    let one : from.0 ≡ x = sym (is from.0 k from.2) ∙ is x k i in
    a.0 (subst (λ j. In j xs) one from.1)
    ))

-- 2. those that pass a test

module _ {A : Type 0} (test : Number → Bool) (m : Nodes A) where
  pub where_in : (ks : List ℕ) (k : ℕ) → In k (nodes_where test m ks) → In k ks × (test (number_of m k) ≡ true)
  where_in [] k i = absurd i
  where_in (x ∷ ks) k i = by (λ l. where_in ks k l) (test (number_of m x)) refl i
    where
      by : (In k (nodes_where test m ks) → In k ks × (test (number_of m k) ≡ true)) → (b : Bool) → test (number_of m x) ≡ b → In k (cond b (x ∷ nodes_where test m ks) (nodes_where test m ks))
          → In k (x ∷ ks) × (test (number_of m k) ≡ true)
      by rest true e (inl f) = (inl f, ap (λ j. test (number_of m j)) f ∙ e)
      by rest true e (inr l) = let r = rest l in (inr r.0, r.1)
      by rest false e l = let r = rest l in (inr r.0, r.1)

  pub in_where : (ks : List ℕ) (k : ℕ) → In k ks → test (number_of m k) ≡ true → In k (nodes_where test m ks)
  in_where [] k i t = absurd i
  in_where (x ∷ ks) k (inl f) t =
      let passes : test (number_of m x) ≡ true = ap (λ j. test (number_of m j)) (sym f) ∙ t in
      subst (λ b. In k (cond b (x ∷ nodes_where test m ks) (nodes_where test m ks))) (sym passes) (inl f)
  in_where (x ∷ ks) k (inr i) t = by (test (number_of m x)) (in_where ks k i t)
    where
      by : (b : Bool) → In k (nodes_where test m ks) → In k (cond b (x ∷ nodes_where test m ks) (nodes_where test m ks))
      by true l = inr l
      by false l = l

  pub where_apart : (ks : List ℕ) → AreApart ks → AreApart (nodes_where test m ks)
  where_apart [] a = tt
  where_apart (x ∷ ks) a = by (where_apart ks a.1) (test (number_of m x))
    where
      by : AreApart (nodes_where test m ks) → (b : Bool) → AreApart (cond b (x ∷ nodes_where test m ks) (nodes_where test m ks))
      by rest true = (λ i. a.0 (where_in ks x i).0, rest)
      by rest false = rest

-- 3. what can be told apart

list_cases : (xs ys : List ℕ) → (xs ≡ ys) ⊎ (xs ≡ ys → ⊥)
list_cases [] [] = inl refl
list_cases [] (y ∷ ys) = inr (λ e. cc)
list_cases (x ∷ xs) [] = inr (λ e. cc)
list_cases (x ∷ xs) (y ∷ ys) = elim (cases_eq x y) [
  | inr ne ↦ inr (λ e. ne (head e))
  | inl f ↦ elim (list_cases xs ys) [
    | inr ne ↦ inr (λ e. ne (tail e))
    | inl g ↦ inl (ap (λ z. z ∷ xs) f ∙ ap (λ zs. y ∷ zs) g)
  ]
]
  where
    head : x ∷ xs ≡ y ∷ ys → x ≡ y
    head e = cc

    tail : x ∷ xs ≡ y ∷ ys → xs ≡ ys
    tail e = cc

kind_cases : (a b : BracketKind) → (a ≡ b) ⊎ (a ≡ b → ⊥)
kind_cases Opens Opens = inl refl
kind_cases Closes Closes = inl refl
kind_cases Neither Neither = inl refl
kind_cases Opens Closes = inr (λ e. cc)
kind_cases Opens Neither = inr (λ e. cc)
kind_cases Closes Opens = inr (λ e. cc)
kind_cases Closes Neither = inr (λ e. cc)
kind_cases Neither Opens = inr (λ e. cc)
kind_cases Neither Closes = inr (λ e. cc)

pub not_other_list : (xs ys : List ℕ) → ((xs ≡ ys → ⊥) → ⊥) → xs ≡ ys
not_other_list xs ys h = elim (list_cases xs ys) [ inl e ↦ e | inr ne ↦ absurd (h ne) ]

pub not_other_kind : (o : Option BracketKind) (b : BracketKind) → ((o ≡ Some b → ⊥) → ⊥) → o ≡ Some b
not_other_kind None b h = absurd (h (λ e. cc))
not_other_kind (Some a) b h = elim (kind_cases a b) [ inl e ↦ ap Some e | inr ne ↦ absurd (h (λ e. ne (one e))) ]
  where
    one : Some a ≡ Some b → a ≡ b
    one e = cc

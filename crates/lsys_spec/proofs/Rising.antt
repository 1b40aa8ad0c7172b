-- Lineages that rise from left to right, and lineages that are distinct.
use Rattle.std.proofs.Common.{◌≡◌, ℕ, zero, suc, ◌+◌, ◌*◌, ◌==◌, ◌<◌, ◌≤◌, Bool, true, false, cond, length, Option, Some, None, List, [], ◌∷◌, ◌++◌, refl, sym, ap, ◌∙◌, subst, arith, inl, inr}
use Rattle.std.specs.Prelude.{ℤ, slice_get, count_by}
use Rattle.std.proofs.lemmas.List.Sums.{count_by-le-length, sum_by-cons}
use Rattle.std.proofs.lemmas.Bool.{eq-eqb}
use Rattle.lsys_syntax.specs.Strings as S
use Rattle.lsys_spec.specs.Levels.{LevelSymbol, Push, Pop, Module, lineage}
use Rattle.lsys_syntax.specs.Commands.{Numbering, by_place, by_name}
use Rattle.lsys_spec.specs.Draws.{number_base}
use Rattle.lsys_spec.specs.Numbers.{code_of, number_at}
use Rattle.lsys_spec.specs.Cuts.{Raw, Plain, Cut, raw_lineage, cut_on, Before, WithAll, Pairwise, Distinct}
use Rattle.lsys_spec.specs.Meaning.{raw_of, numbered}

abbrev pub RawsWith : (List ℕ → List ℕ → Type 0) → List ℕ → List Raw → Type 0
RawsWith R a [] = Unit {0}
RawsWith R a (s ∷ ss) = R a (raw_lineage s) × RawsWith R a ss

abbrev pub PairwiseRaws : (List ℕ → List ℕ → Type 0) → List Raw → Type 0
PairwiseRaws R [] = Unit {0}
PairwiseRaws R (s ∷ ss) = RawsWith R (raw_lineage s) ss × PairwiseRaws R ss

-- no lineage is another's
abbrev pub Unlike : List ℕ → List ℕ → Type 0
Unlike a b = a ≡ b → ⊥

-- the order of lineages

pub before_children : (a b c d : List ℕ) → Before a b → Before (a ++ c) (b ++ d)
before_children [] b c d h = elim h [ ]
before_children (x ∷ a) [] c d h = elim h [ ]
before_children (x ∷ a) (y ∷ b) c d (inl l) = inl l
before_children (x ∷ a) (y ∷ b) c d (inr e) = inr (e.0, before_children a b c d e.1)

before_sibling : (a : List ℕ) (i j : ℕ) → i < j → Before (a ++ i ∷ []) (a ++ j ∷ [])
before_sibling [] i j h = inl h
before_sibling (x ∷ a) i j h = inr (refl, before_sibling a i j h)

-- each lineage stands once

with_at : (R : List ℕ → List ℕ → Type 0) (a : List ℕ) (x : List LevelSymbol) (p : ℕ) (t : LevelSymbol) → WithAll R a x → slice_get x p ≡ Some t → R a (lineage t)
with_at R a [] p t h g = cc
with_at R a (s ∷ x) zero t h g = let e : s ≡ t = cc in subst (λ s. R a (lineage s)) e h.0
with_at R a (s ∷ x) (suc p) t h g = with_at R a x p t h.1 g

pub distinct_apart : (x : List LevelSymbol) → Distinct x → (p q : ℕ) (s t : LevelSymbol) → slice_get x p ≡ Some s → slice_get x q ≡ Some t → lineage s ≡ lineage t → p ≡ q
distinct_apart [] h p q s t g k e = cc
distinct_apart (u ∷ x) h zero zero s t g k e = refl
distinct_apart (u ∷ x) h zero (suc q) s t g k e = let i : u ≡ s = cc in absurd (with_at Unlike (lineage u) x q t h.0 k (ap lineage i ∙ e))
distinct_apart (u ∷ x) h (suc p) zero s t g k e = let i : u ≡ t = cc in absurd (with_at Unlike (lineage u) x p s h.0 g (ap lineage i ∙ sym e))
distinct_apart (u ∷ x) h (suc p) (suc q) s t g k e = ap (λ n. suc n) (distinct_apart x h.1 p q s t g k e)

-- what a cut leaves

cut_with : (R : List ℕ → List ℕ → Type 0) (a : List ℕ) (x : List Raw) (o : Option ℕ) → RawsWith R a x → WithAll R a (cut_on o x)
cut_with R a [] None h = tt
cut_with R a [] (Some n) h = tt
cut_with R a (Cut l ∷ x) None h = cut_with R a x (Some 0) h.1
cut_with R a (Cut l ∷ x) (Some n) h = cut_with R a x (Some n) h.1
cut_with R a (Plain s ∷ x) None h = (h.0, cut_with R a x None h.1)
cut_with R a (Plain (Module l k) ∷ x) (Some n) h = cut_with R a x (Some n) h.1
cut_with R a (Plain (Push l) ∷ x) (Some n) h = cut_with R a x (Some (suc n)) h.1
cut_with R a (Plain (Pop l) ∷ x) (Some zero) h = (h.0, cut_with R a x None h.1)
cut_with R a (Plain (Pop l) ∷ x) (Some (suc n)) h = cut_with R a x (Some n) h.1

pub cut_pairwise : (R : List ℕ → List ℕ → Type 0) (x : List Raw) (o : Option ℕ) → PairwiseRaws R x → Pairwise R (cut_on o x)
cut_pairwise R [] None h = tt
cut_pairwise R [] (Some n) h = tt
cut_pairwise R (Cut l ∷ x) None h = cut_pairwise R x (Some 0) h.1
cut_pairwise R (Cut l ∷ x) (Some n) h = cut_pairwise R x (Some n) h.1
cut_pairwise R (Plain s ∷ x) None h = (cut_with R (lineage s) x None h.0, cut_pairwise R x None h.1)
cut_pairwise R (Plain (Module l k) ∷ x) (Some n) h = cut_pairwise R x (Some n) h.1
cut_pairwise R (Plain (Push l) ∷ x) (Some n) h = cut_pairwise R x (Some (suc n)) h.1
cut_pairwise R (Plain (Pop l) ∷ x) (Some zero) h = (cut_with R l x None h.0, cut_pairwise R x None h.1)
cut_pairwise R (Plain (Pop l) ∷ x) (Some (suc n)) h = cut_pairwise R x (Some n) h.1

-- children

pub with_append : (R : List ℕ → List ℕ → Type 0) (a : List ℕ) (x y : List Raw) → RawsWith R a x → RawsWith R a y → RawsWith R a (x ++ y)
with_append R a [] y h k = k
with_append R a (s ∷ x) y h k = (h.0, with_append R a x y h.1 k)

-- the lineage of a symbol is the one that it was given
pub born_lineage : (l : List ℕ) (x : S.Symbol ℤ) → raw_lineage (raw_of l x) ≡ l
born_lineage l (S.Module m ps) = refl
born_lineage l S.Push = refl
born_lineage l S.Pop = refl
born_lineage l S.Cut = refl

pub with_numbered : (R : List ℕ → List ℕ → Type 0) (g : Numbering) (a b : List ℕ) (n : ℕ) (before : List ℕ) (xs : List (S.Symbol ℤ)) → ((k : ℕ) → R a (b ++ k ∷ [])) → RawsWith R a (numbered g n before b xs)
with_numbered R g a b n before [] f = tt
with_numbered R g a b n before (x ∷ xs) f =
    (subst (R a) (sym (born_lineage (b ++ number_at g n before (code_of x) ∷ []) x)) (f (number_at g n before (code_of x))), with_numbered R g a b (n + 1) (code_of x ∷ before) xs f)

-- places rise
before_numbered : (a : List ℕ) (n m : ℕ) (before : List ℕ) (xs : List (S.Symbol ℤ)) → n < m → RawsWith Before (a ++ n ∷ []) (numbered by_place m before a xs)
before_numbered a n m before [] l = tt
before_numbered a n m before (x ∷ xs) l =
    (subst (Before (a ++ n ∷ [])) (sym (born_lineage (a ++ m ∷ []) x)) (before_sibling a n m l), before_numbered a n (m + 1) (code_of x ∷ before) xs (omega (arith, l)))

-- children of a lineage, and then what stands after all of its children
pub rising_numbered : (n : ℕ) (before a : List ℕ) (xs : List (S.Symbol ℤ)) (y : List Raw) → ((i : ℕ) → RawsWith Before (a ++ i ∷ []) y) → PairwiseRaws Before y → PairwiseRaws Before (numbered by_place n before a xs ++ y)
rising_numbered n before a [] y f h = h
rising_numbered n before a (x ∷ xs) y f h = (
  subst (λ l. RawsWith Before l (numbered by_place (n + 1) (code_of x ∷ before) a xs ++ y)) (sym (born_lineage (a ++ n ∷ []) x))
      (with_append Before (a ++ n ∷ []) (numbered by_place (n + 1) (code_of x ∷ before) a xs) y (before_numbered a n (n + 1) (code_of x ∷ before) xs (omega arith)) (f n)),
  rising_numbered (n + 1) (code_of x ∷ before) a xs y f h,
)

-- Numbers of one list are distinct: by places since they rise, by names while no code has more than its numbers.
last_same : (a b : List ℕ) (i j : ℕ) → a ++ i ∷ [] ≡ b ++ j ∷ [] → (a ≡ b) × (i ≡ j)
last_same [] [] i j e = (refl, cc)
last_same [] (y ∷ []) i j e = cc
last_same [] (y ∷ z ∷ b) i j e = cc
last_same (x ∷ []) [] i j e = cc
last_same (x ∷ z ∷ a) [] i j e = cc
last_same (x ∷ a) (y ∷ b) i j e =
    let t : a ++ i ∷ [] ≡ b ++ j ∷ [] = cc in
    let h : x ≡ y = cc in
    let r = last_same a b i j t in (ap (λ l. x ∷ l) r.0 ∙ ap (λ z. z ∷ b) h, r.1)

pub unlike_children : (a b : List ℕ) (i j : ℕ) → (a ≡ b → ⊥) → Unlike (a ++ i ∷ []) (b ++ j ∷ [])
unlike_children a b i j h e = h (last_same a b i j e).0

-- a count among the codes of one, and the codes of another
count : ℕ → List ℕ → ℕ
count c codes = count_by (λ d. d == c) codes

count_here : (c : ℕ) (codes : List ℕ) → count c (c ∷ codes) ≡ 1 + count c codes
unfolding count
count_here c codes = sum_by-cons (λ d. cond (d == c) 1 0) c codes ∙ ap (λ b. cond b 1 0 + count_by (λ d. d == c) codes) (eq-eqb c c refl)

count_more : (c d : ℕ) (codes : List ℕ) → count c codes ≤ count c (d ∷ codes)
unfolding count
count_more c d codes = rw (sum_by-cons (λ d. cond (d == c) 1 0) d codes) (one (d == c))
  where
    one : (b : Bool) → count_by (λ d. d == c) codes ≤ cond b 1 0 + count_by (λ d. d == c) codes
    one true = omega arith
    one false = omega arith

count_few : (c : ℕ) (codes : List ℕ) → count c codes ≤ length codes
unfolding count
count_few c codes = count_by-le-length (λ d. d == c) codes

codes_same : (c d i j : ℕ) → i < number_base → j < number_base → number_base * c + i ≡ number_base * d + j → (c ≡ d) × (i ≡ j)
codes_same c d i j k l e = (omega (arith, k, l, e), omega (arith, k, l, e))

-- k symbols of code c stand before a first one, and it and more before these
unlike_named : (a : List ℕ) (c k n : ℕ) (before : List ℕ) (xs : List (S.Symbol ℤ)) → k < count c before → length before + length xs ≤ number_base → RawsWith Unlike (a ++ (number_base * c + k) ∷ []) (numbered by_name n before a xs)
unfolding count
unlike_named a c k n before [] h l = tt
unlike_named a c k n before (x ∷ xs) h l =
    let i : count (code_of x) before ≤ length before = count_few (code_of x) before in
    let m : count c before ≤ length before = count_few c before in (
      subst (Unlike (a ++ (number_base * c + k) ∷ [])) (sym (born_lineage (a ++ (number_base * code_of x + count (code_of x) before) ∷ []) x))
          (λ e. let s = codes_same c (code_of x) k (count (code_of x) before) (omega (arith, h, m, l)) (omega (arith, i, l)) (last_same a a _ _ e).1 in
          let f : count c before ≡ count (code_of x) before = ap (λ d. count d before) s.0 in omega (arith, h, f, s.1)),
      unlike_named a c k (n + 1) (code_of x ∷ before) xs (let f : count c before ≤ count c (code_of x ∷ before) = count_more c (code_of x) before in omega (arith, h, f)) (omega (arith, l)),
    )

unlike_placed : (a : List ℕ) (n m : ℕ) (before : List ℕ) (xs : List (S.Symbol ℤ)) → n < m → RawsWith Unlike (a ++ n ∷ []) (numbered by_place m before a xs)
unlike_placed a n m before [] l = tt
unlike_placed a n m before (x ∷ xs) l = (
  subst (Unlike (a ++ n ∷ [])) (sym (born_lineage (a ++ m ∷ []) x)) (λ e. let f : n ≡ m = (last_same a a n m e).1 in omega (arith, l, f)),
  unlike_placed a n (m + 1) (code_of x ∷ before) xs (omega (arith, l)),
)

unlike_later : (g : Numbering) (a : List ℕ) (n : ℕ) (before : List ℕ) (x : S.Symbol ℤ) (xs : List (S.Symbol ℤ)) → length before + length (x ∷ xs) ≤ number_base → RawsWith Unlike (a ++ number_at g n before (code_of x) ∷ []) (numbered g (n + 1) (code_of x ∷ before) a xs)
unfolding count
unlike_later by_place a n before x xs l = unlike_placed a n (n + 1) (code_of x ∷ before) xs (omega arith)
unlike_later by_name a n before x xs l =
    let f : count (code_of x) (code_of x ∷ before) ≡ 1 + count (code_of x) before = count_here (code_of x) before in
    unlike_named a (code_of x) (count (code_of x) before) (n + 1) (code_of x ∷ before) xs (omega (arith, f)) (omega (arith, l))

pub distinct_numbered : (g : Numbering) (n : ℕ) (before a : List ℕ) (xs : List (S.Symbol ℤ)) (y : List Raw) → length before + length xs ≤ number_base → ((i : ℕ) → RawsWith Unlike (a ++ i ∷ []) y) → PairwiseRaws Unlike y
    → PairwiseRaws Unlike (numbered g n before a xs ++ y)
distinct_numbered g n before a [] y l f h = h
distinct_numbered g n before a (x ∷ xs) y l f h =
    let i : ℕ = number_at g n before (code_of x) in (
      subst (λ l. RawsWith Unlike l (numbered g (n + 1) (code_of x ∷ before) a xs ++ y)) (sym (born_lineage (a ++ i ∷ []) x))
          (with_append Unlike (a ++ i ∷ []) (numbered g (n + 1) (code_of x ∷ before) a xs) y (unlike_later g a n before x xs l) (f i)),
      distinct_numbered g (n + 1) (code_of x ∷ before) a xs y (omega (arith, l)) f h,
    )

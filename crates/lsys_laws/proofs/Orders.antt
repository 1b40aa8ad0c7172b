-- The order of words, and own lists that stand in it.
use Rattle.std.proofs.Common.{◌≡◌, ◌⊎◌, inl, inr, ℕ, Bool, true, false, not, ◌&&◌, ◌||◌, ◌==◌, ◌<◌, nat_lt, List, [], ◌∷◌, bytes_eq, refl, ap, ◌∙◌, sym, subst, arith, if◌then◌else◌}
use Rattle.std.proofs.lemmas.Bool.{eq-eqb, eqb-true, ltb-true, ltb-false, lt-ltb}
use Rattle.std.proofs.lemmas.Slice.Eq.{bytes_eq-Decides}
use Rattle.lsys_spec.specs.Systems.{Own, comes_before, in_order, Each, Apart}
use Rattle.lsys_spec.specs.Edits.{put_own, without_own}
use Rattle.lsys_spec.proofs.Eachs.{each_more}
use Rattle.lsys_laws.proofs.Aparts.{Dropped, gone, all_stay, dropped_later}

-- words

both : (a b : Bool) → (a && b) ≡ true → (a ≡ true) × (b ≡ true)
both true b h = (refl, h)
both false b h = cc

split_by : (c : Bool) (x y : ℕ) (a b : List ℕ) → nat_lt x y ≡ c → (c || ((x == y) && comes_before a b)) ≡ true → (x < y) ⊎ ((x ≡ y) × (comes_before a b ≡ true))
split_by true x y a b l h = inl (ltb-true x y l)
split_by false x y a b l h = let e = both (x == y) (comes_before a b) h in inr (eqb-true x y e.0, e.1)

split : (x y : ℕ) (a b : List ℕ) → comes_before (x ∷ a) (y ∷ b) ≡ true → (x < y) ⊎ ((x ≡ y) × (comes_before a b ≡ true))
split x y a b h = split_by (nat_lt x y) x y a b refl h

any_first : (c d : Bool) → c ≡ true → (c || d) ≡ true
any_first true d h = refl
any_first false d h = cc

any_last : (c d : Bool) → d ≡ true → (c || d) ≡ true
any_last true d h = refl
any_last false d h = h

joined : (x y : ℕ) (a b : List ℕ) → (x < y) ⊎ ((x ≡ y) × (comes_before a b ≡ true)) → comes_before (x ∷ a) (y ∷ b) ≡ true
joined x y a b (inl l) = any_first (nat_lt x y) ((x == y) && comes_before a b) (lt-ltb x y l)
joined x y a b (inr e) = any_last (nat_lt x y) ((x == y) && comes_before a b) (ap (λ c. c && comes_before a b) (eq-eqb x y e.0) ∙ e.1)

chain : (x y z : ℕ) (P Q R : Type 0) → (P → Q → R) → (x < y) ⊎ ((x ≡ y) × P) → (y < z) ⊎ ((y ≡ z) × Q) → (x < z) ⊎ ((x ≡ z) × R)
chain x y z P Q R f (inl h) (inl g) = inl (omega (arith, h, g))
chain x y z P Q R f (inl h) (inr g) = let e = g.0 in inl (omega (arith, h, e))
chain x y z P Q R f (inr h) (inl g) = let e = h.0 in inl (omega (arith, e, g))
chain x y z P Q R f (inr h) (inr g) = inr (h.0 ∙ g.0, f h.1 g.1)

before_all : (a b c : List ℕ) → comes_before a b ≡ true → comes_before b c ≡ true → comes_before a c ≡ true
before_all a b [] h g = cc
before_all a [] (z ∷ c) h g = cc
before_all [] (y ∷ b) (z ∷ c) h g = refl
before_all (x ∷ a) (y ∷ b) (z ∷ c) h g = joined x z a c (chain x y z _ _ _ (before_all a b c) (split x y a b h) (split y z b c g))

apart_by : (x y : ℕ) (a b : List ℕ) → (x ∷ a ≡ y ∷ b → ⊥) → nat_lt x y ≡ false → ((x == y) && comes_before a b) ≡ false
    → ((a ≡ b → ⊥) → comes_before a b ≡ false → comes_before b a ≡ true) → (c : Bool) → nat_lt y x ≡ c → (y < x) ⊎ ((y ≡ x) × (comes_before b a ≡ true))
apart_by x y a b d l h f true e = inl (ltb-true y x e)
apart_by x y a b d l h f false e =
    let same : y ≡ x = (let i = ltb-false x y l in let j = ltb-false y x e in omega (arith, i, j)) in
    inr (same, f (λ g. d (ap (λ t. x ∷ t) g ∙ ap (λ n. n ∷ b) (sym same))) (ap (λ c. c && comes_before a b) (sym (eq-eqb x y (sym same))) ∙ h))

neither : (a b : Bool) → (a || b) ≡ false → (a ≡ false) × (b ≡ false)
neither true b h = cc
neither false b h = (refl, h)

before_turned : (a b : List ℕ) → (a ≡ b → ⊥) → comes_before a b ≡ false → comes_before b a ≡ true
before_turned [] [] d h = absurd (d refl)
before_turned [] (y ∷ b) d h = cc
before_turned (x ∷ a) [] d h = refl
before_turned (x ∷ a) (y ∷ b) d h =
    let n = neither (nat_lt x y) ((x == y) && comes_before a b) h in
    joined y x b a (apart_by x y a b d n.0 n.1 (before_turned a b) (nat_lt y x) refl)

-- lists

abbrev pub Unordered : Own → Own → Bool
Unordered o q = not (in_order o q)

none_true : (b : Bool) → not b ≡ false → b ≡ true
none_true true h = refl
none_true false h = cc

of_true : (b : Bool) → b ≡ true → not b ≡ false
of_true b h = ap not h

own_tests : (o q : Own) (qs rest : List Own) (P : List Own → Type 0) (c d : Bool) → (c ≡ true → P (o ∷ qs)) → (c ≡ false → d ≡ true → P (o ∷ q ∷ qs)) → (c ≡ false → d ≡ false → P (q ∷ rest))
    → P (if c then o ∷ qs else if d then o ∷ q ∷ qs else q ∷ rest)
own_tests o q qs rest P true d f g h = f refl
own_tests o q qs rest P false true f g h = g refl refl
own_tests o q qs rest P false false f g h = h refl refl

pub each_put_own : (P : Own → Type 0) (o : Own) (qs : List Own) → P o → Each P qs → Each P (put_own o qs)
each_put_own P o [] h k = (h, tt)
each_put_own P o (q ∷ qs) h k =
    own_tests o q qs (put_own o qs) (Each P) (bytes_eq q.table o.table) (in_order o q) (λ c. (h, k.1)) (λ c d. (h, k)) (λ c d. (k.0, each_put_own P o qs h k.1))

pub ordered_put_own : (o : Own) (qs : List Own) → Apart Unordered qs → Apart Unordered (put_own o qs)
ordered_put_own o [] h = (tt, tt)
ordered_put_own o (q ∷ qs) h =
    own_tests o q qs (put_own o qs) (Apart Unordered) (bytes_eq q.table o.table) (in_order o q)
    (λ c. (let same : q.table ≡ o.table = (bytes_eq-Decides q.table o.table).0 c in subst (λ t. Each (λ z. not (comes_before t z.table) ≡ false) qs) same h.0, h.1))
    (λ c d. ((of_true (in_order o q) d, each_more (λ z. Unordered q z ≡ false) (λ z. Unordered o z ≡ false) qs (λ z e. of_true (in_order o z) (before_all o.table q.table z.table d (none_true (in_order q z) e))) h.0), h))
    (λ c d. (
      each_put_own (λ z. Unordered q z ≡ false) o qs (of_true (in_order q o) (before_turned o.table q.table (λ e. different q.table o.table c (sym e)) d)) h.0,
      ordered_put_own o qs h.1,
    ))
  where
    different : (a b : List ℕ) → bytes_eq a b ≡ false → a ≡ b → ⊥
    different a b c e = let yes : bytes_eq a b ≡ true = (bytes_eq-Decides a b).1 e in cc

by_own : (b : Bool) (t : List ℕ) (q : Own) (qs : List Own) → Dropped qs (without_own t qs) → Dropped (q ∷ qs) (if b then qs else q ∷ without_own t qs)
by_own true t q qs h = gone [] q qs refl refl
by_own false t q qs h = dropped_later q qs (without_own t qs) h

pub own_dropped : (t : List ℕ) (os : List Own) → Dropped os (without_own t os)
own_dropped t [] = all_stay refl
own_dropped t (q ∷ qs) = by_own (bytes_eq q.table t) t q qs (own_dropped t qs)

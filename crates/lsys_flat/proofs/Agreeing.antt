-- Tags of new levels against each other and against those of the old ones.
use Rattle.std.proofs.Common.{◌≡◌, ℕ, zero, suc, ◌+◌, ◌≤◌, Bool, true, false, Option, Some, None, List, [], ◌∷◌, ◌++◌, get_or, refl, sym, ap, ◌∙◌, subst, arith, inl, inr, ◌⊎◌}
use Rattle.std.specs.Prelude.{slice_get}
use Rattle.lsys_spec.specs.Systems.{Each}
use Rattle.lsys_spec.specs.Levels.{LevelSymbol, lineage}
use Rattle.lsys_spec.specs.Standings.{place_of}
use Rattle.lsys_spec.specs.Cuts.{Distinct, WithAll}
use Rattle.lsys_laws.specs.KeptQuestions.{places_in}
use Rattle.lsys_laws.proofs.Lineages.{place_is}
use Rattle.lsys_spec.proofs.Rising.{Unlike}
use Rattle.lsys_spec.proofs.Standings.{place_told}
use Rattle.lsys_flat.specs.Supplies.{in_use, AreNamed}
use Rattle.lsys_flat.specs.Tagged.{Tagged, tagged, all_tagged, Agree, AgreeAll, AllNamed}

abbrev pub In : Tagged → List Tagged → Type 0
In a [] = ⊥
In a (b ∷ bs) = (b ≡ a) ⊎ In a bs

pub each_in : (P : Tagged → Type 0) (bs : List Tagged) (a : Tagged) → Each P bs → In a bs → P a
each_in P [] a h i = absurd i
each_in P (b ∷ bs) a h (inl e) = subst P e h.0
each_in P (b ∷ bs) a h (inr i) = each_in P bs a h.1 i

pub in_append : (a : Tagged) (bs cs : List Tagged) → In a bs ⊎ In a cs → In a (bs ++ cs)
in_append a [] cs (inl i) = absurd i
in_append a [] cs (inr i) = i
in_append a (b ∷ bs) cs (inl (inl e)) = inl e
in_append a (b ∷ bs) cs (inl (inr i)) = inr (in_append a bs cs (inl i))
in_append a (b ∷ bs) cs (inr i) = inr (in_append a bs cs (inr i))

pub append_in : (a : Tagged) (bs cs : List Tagged) → In a (bs ++ cs) → In a bs ⊎ In a cs
append_in a [] cs i = inr i
append_in a (b ∷ bs) cs (inl e) = inl (inl e)
append_in a (b ∷ bs) cs (inr i) = by (append_in a bs cs i)
  where
    by : In a bs ⊎ In a cs → In a (b ∷ bs) ⊎ In a cs
    by (inl i) = inl (inr i)
    by (inr i) = inr i

each_append : (P : Tagged → Type 0) (bs cs : List Tagged) → Each P bs → Each P cs → Each P (bs ++ cs)
each_append P [] cs h k = k
each_append P (b ∷ bs) cs h k = (h.0, each_append P bs cs h.1 k)

each_more : (P Q : Tagged → Type 0) (bs : List Tagged) → ((a : Tagged) → P a → Q a) → Each P bs → Each Q bs
each_more P Q [] f h = tt
each_more P Q (b ∷ bs) f h = (f b h.0, each_more P Q bs f h.1)

pub each_of : (P : Tagged → Type 0) (bs : List Tagged) → ((a : Tagged) → In a bs → P a) → Each P bs
each_of P [] f = tt
each_of P (b ∷ bs) f = (f b (inl refl), each_of P bs (λ a i. f a (inr i)))

-- 1. a new symbol has the tag of an old one, or one that isn't in use

abbrev pub Same : Tagged → Tagged → Type 0
Same a b = (a.level ≡ b.level) × (a.line ≡ b.line)

abbrev pub IsOld : List Tagged → Tagged → Type 0
IsOld old d = (o : Tagged) × In o old × Same o d × (o.tag ≡ d.tag)

abbrev pub IsFresh : List Tagged → List Bool → ℕ → Tagged → Type 0
IsFresh old marks from d = (in_use marks d.tag ≡ false) × (from ≤ d.tag) × ((o : Tagged) → In o old → Same o d → ⊥)

-- the new symbols in order, each apart from those after it
abbrev pub Chain : List Tagged → List Bool → ℕ → List Tagged → Type 0
Chain old marks from [] = Unit {0}
Chain old marks from (d ∷ ds) = Each (λ e. Same d e → ⊥) ds × ((IsOld old d × Chain old marks from ds) ⊎ (IsFresh old marks from d × Chain old marks (d.tag + 1) ds))

chained : (old : List Tagged) (marks : List Bool) (from : ℕ) (ds : List Tagged) → Chain old marks from ds → (least : ℕ) → least ≤ from → Each (λ e. IsOld old e ⊎ IsFresh old marks least e) ds
chained old marks from [] h least l = tt
chained old marks from (d ∷ ds) h least l = by (λ n c k. chained old marks n ds c least k) h.1
  where
    by : ((n : ℕ) → Chain old marks n ds → least ≤ n → Each (λ e. IsOld old e ⊎ IsFresh old marks least e) ds)
        → (IsOld old d × Chain old marks from ds) ⊎ (IsFresh old marks from d × Chain old marks (d.tag + 1) ds) → Each (λ e. IsOld old e ⊎ IsFresh old marks least e) (d ∷ ds)
    by more (inl c) = (inl c.0, more from c.1 l)
    by more (inr c) = let k : from ≤ d.tag = c.0.1 in (inr (c.0.0, omega (arith, l, k), c.0.2), more (d.tag + 1) c.1 (omega (arith, l, k)))

agree_sym : (a b : Tagged) → Agree a b → Agree b a
agree_sym a b h = (λ e. let s = h.0 (sym e) in (sym s.0, sym s.1), λ s. sym (h.1 (sym s.0, sym s.1)))

unlike : (a b : Tagged) → (a.tag ≡ b.tag → ⊥) → (Same a b → ⊥) → Agree a b
unlike a b f g = (λ e. absurd (f e), λ s. absurd (g s))

-- an old one, or one that has an old one's tag, and any new one
old_new : (old : List Tagged) (marks : List Bool) (least : ℕ) → AgreeAll old old → Each (λ a. in_use marks a.tag ≡ true) old → (o d : Tagged) → In o old → IsOld old d ⊎ IsFresh old marks least d → Agree o d
old_new old marks least h u o d i (inl c) =
    let a : Agree o c.0 = each_in (Agree o) old c.0 (each_in (λ a. Each (Agree a) old) old o h i) c.1 in
    (λ e. let s = a.0 (e ∙ sym c.3) in (s.0 ∙ c.2.0, s.1 ∙ c.2.1), λ s. a.1 (s.0 ∙ sym c.2.0, s.1 ∙ sym c.2.1) ∙ c.3)
old_new old marks least h u o d i (inr c) =
    unlike o d (λ e. let t : in_use marks o.tag ≡ true = each_in (λ a. in_use marks a.tag ≡ true) old o u i in let f : in_use marks o.tag ≡ false = ap (in_use marks) e ∙ c.0 in let no : true ≡ false = sym t ∙ f in cc) (c.2 o i)

like_old : (old : List Tagged) (o d e : Tagged) → Same o d → o.tag ≡ d.tag → Agree o e → Agree d e
like_old old o d e s t a = (λ k. let r = a.0 (t ∙ k) in (sym s.0 ∙ r.0, sym s.1 ∙ r.1), λ r. sym t ∙ a.1 (s.0 ∙ r.0, s.1 ∙ r.1))

-- a new one and one after it
new_later : (old : List Tagged) (marks : List Bool) (from : ℕ) → AgreeAll old old → Each (λ a. in_use marks a.tag ≡ true) old → (d e : Tagged) → IsFresh old marks from d → (Same d e → ⊥)
    → IsOld old e ⊎ IsFresh old marks (d.tag + 1) e → Agree d e
new_later old marks from h u d e f n (inl c) = agree_sym e d (like_old old c.0 e d c.2 c.3 (old_new old marks from h u c.0 d c.1 (inr f)))
new_later old marks from h u d e f n (inr c) = unlike d e (λ k. let l : d.tag + 1 ≤ e.tag = c.1 in omega (arith, k, l)) n

each_both : (P Q : Tagged → Type 0) (bs : List Tagged) → Each P bs → Each Q bs → Each (λ a. P a × Q a) bs
each_both P Q [] h k = tt
each_both P Q (b ∷ bs) h k = ((h.0, k.0), each_both P Q bs h.1 k.1)

pub new_new : (old : List Tagged) (marks : List Bool) (from : ℕ) → AgreeAll old old → Each (λ a. in_use marks a.tag ≡ true) old → (ds : List Tagged) → Chain old marks from ds → AgreeAll ds ds
new_new old marks from h u [] c = tt
new_new old marks from h u (d ∷ ds) c = by (λ n k. new_new old marks n h u ds k) c.1
  where
    all : Each (Agree d) ds → AgreeAll ds ds → AgreeAll (d ∷ ds) (d ∷ ds)
    all l r = (((λ e. (refl, refl), λ s. refl), l), each_both (λ a. Agree a d) (λ a. Each (Agree a) ds) ds (each_more (Agree d) (λ a. Agree a d) ds (λ a. agree_sym d a) l) r)

    by : ((n : ℕ) → Chain old marks n ds → AgreeAll ds ds) → (IsOld old d × Chain old marks from ds) ⊎ (IsFresh old marks from d × Chain old marks (d.tag + 1) ds) → AgreeAll (d ∷ ds) (d ∷ ds)
    by more (inl k) =
        all (each_more (λ e. IsOld old e ⊎ IsFresh old marks from e) (Agree d) ds (λ e f. like_old old k.0.0 d e k.0.2 k.0.3 (old_new old marks from h u k.0.0 e k.0.1 f)) (chained old marks from ds k.1 from (omega arith)))
        (more from k.1)
    by more (inr k) =
        all (each_more (λ e. (Same d e → ⊥) × (IsOld old e ⊎ IsFresh old marks (d.tag + 1) e)) (Agree d) ds (λ e f. new_later old marks from h u d e k.0 f.0 f.1)
        (each_both (λ e. Same d e → ⊥) (λ e. IsOld old e ⊎ IsFresh old marks (d.tag + 1) e) ds c.0 (chained old marks (d.tag + 1) ds k.1 (d.tag + 1) (omega arith))))
        (more (d.tag + 1) k.1)

pub old_all : (old : List Tagged) (marks : List Bool) (from : ℕ) → AgreeAll old old → Each (λ a. in_use marks a.tag ≡ true) old → (ds : List Tagged) → Chain old marks from ds → AgreeAll old ds
old_all old marks from h u ds c =
    each_of (λ a. Each (Agree a) ds) old (λ o i. each_more (λ e. IsOld old e ⊎ IsFresh old marks from e) (Agree o) ds (λ e f. old_new old marks from h u o e i f) (chained old marks from ds c from (omega arith)))

-- 2. the levels of an edit are a chain

pub in_tagged : (t : ℕ) (x : List LevelSymbol) (ks : List ℕ) (j : ℕ) (s : LevelSymbol) (k : ℕ) → slice_get x j ≡ Some s → slice_get ks j ≡ Some k → In (record { level = t; line = lineage s; tag = k }) (tagged t x ks)
in_tagged t [] ks j s k g e = cc
in_tagged t (u ∷ x) [] j s k g e = cc
in_tagged t (u ∷ x) (m ∷ ks) zero s k g e =
    let a : u ≡ s = cc in let b : m ≡ k = cc in inl (λ i. record { level = t; line = lineage (a i); tag = b i })
in_tagged t (u ∷ x) (m ∷ ks) (suc j) s k g e = inr (in_tagged t x ks j s k g e)

pub in_old : (xs : List (List LevelSymbol)) (kss : List (List ℕ)) (n i t j : ℕ) (s : LevelSymbol) (k : ℕ) → n + i ≡ t → slice_get (get_or xs i []) j ≡ Some s → slice_get (get_or kss i []) j ≡ Some k
    → In (record { level = t; line = lineage s; tag = k }) (all_tagged n xs kss)
in_old [] kss n i t j s k e g f = cc
in_old (x ∷ xs) [] n i t j s k e g f = cc
in_old (x ∷ xs) (ks ∷ kss) n zero t j s k e g f =
    let same : n ≡ t = omega (arith, e) in
    in_append _ (tagged n x ks) (all_tagged (n + 1) xs kss) (inl (subst (λ t. In (record { level = t; line = lineage s; tag = k }) (tagged n x ks)) same (in_tagged n x ks j s k g f)))
in_old (x ∷ xs) (ks ∷ kss) n (suc i) t j s k e g f =
    in_append _ (tagged n x ks) (all_tagged (n + 1) xs kss) (inr (in_old xs kss (n + 1) i t j s k (omega (arith, e)) g f))

tagged_in : (t : ℕ) (x : List LevelSymbol) (ks : List ℕ) (o : Tagged) → In o (tagged t x ks) → (o.level ≡ t) × (j : ℕ) × (s : LevelSymbol) × (slice_get x j ≡ Some s) × (lineage s ≡ o.line)
tagged_in t [] ks o i = absurd i
tagged_in t (u ∷ x) [] o i = absurd i
tagged_in t (u ∷ x) (m ∷ ks) o (inl e) = (sym (ap (λ o. o.level) e), 0, u, refl, ap (λ o. o.line) e)
tagged_in t (u ∷ x) (m ∷ ks) o (inr i) = let r = tagged_in t x ks o i in (r.0, suc r.1, r.2, r.3, r.4)

from_level : (n : ℕ) (xs : List (List LevelSymbol)) (kss : List (List ℕ)) (o : Tagged) → In o (all_tagged n xs kss) → n ≤ o.level
from_level n [] kss o i = absurd i
from_level n (x ∷ xs) [] o i = absurd i
from_level n (x ∷ xs) (ks ∷ kss) o i = by (λ k. from_level (n + 1) xs kss o k) (append_in o (tagged n x ks) (all_tagged (n + 1) xs kss) i)
  where
    by : (In o (all_tagged (n + 1) xs kss) → n + 1 ≤ o.level) → In o (tagged n x ks) ⊎ In o (all_tagged (n + 1) xs kss) → n ≤ o.level
    by more (inl k) = let r = tagged_in n x ks o k in omega (arith, r.0)
    by more (inr k) = omega (arith, more k)

stands_in : (xs : List (List LevelSymbol)) (kss : List (List ℕ)) (n i : ℕ) (o : Tagged) → In o (all_tagged n xs kss) → n + i ≡ o.level → (j : ℕ) × (s : LevelSymbol) × (slice_get (get_or xs i []) j ≡ Some s) × (lineage s ≡ o.line)
stands_in [] kss n i o h e = absurd h
stands_in (x ∷ xs) [] n i o h e = absurd h
stands_in (x ∷ xs) (ks ∷ kss) n zero o h e = by (append_in o (tagged n x ks) (all_tagged (n + 1) xs kss) h)
  where
    by : In o (tagged n x ks) ⊎ In o (all_tagged (n + 1) xs kss) → (j : ℕ) × (s : LevelSymbol) × (slice_get x j ≡ Some s) × (lineage s ≡ o.line)
    by (inl k) = let r = tagged_in n x ks o k in (r.1, r.2, r.3, r.4)
    by (inr k) = absurd (let l = from_level (n + 1) xs kss o k in omega (arith, l, e))
stands_in (x ∷ xs) (ks ∷ kss) n (suc i) o h e = by (λ k. stands_in xs kss (n + 1) i o k (omega (arith, e))) (append_in o (tagged n x ks) (all_tagged (n + 1) xs kss) h)
  where
    by : (In o (all_tagged (n + 1) xs kss) → (j : ℕ) × (s : LevelSymbol) × (slice_get (get_or xs i []) j ≡ Some s) × (lineage s ≡ o.line)) → In o (tagged n x ks) ⊎ In o (all_tagged (n + 1) xs kss)
        → (j : ℕ) × (s : LevelSymbol) × (slice_get (get_or xs i []) j ≡ Some s) × (lineage s ≡ o.line)
    by more (inl k) = absurd (let r = tagged_in n x ks o k in omega (arith, r.0, e))
    by more (inr k) = more k

pub distinct_at : (xs : List (List LevelSymbol)) (t : ℕ) → Each Distinct xs → Distinct (get_or xs t [])
distinct_at [] t h = tt
distinct_at (x ∷ xs) zero h = h.0
distinct_at (x ∷ xs) (suc t) h = distinct_at xs t h.1

-- a symbol is apart from those after it
apart_level : (t : ℕ) (a : List ℕ) (k : ℕ) (y : List LevelSymbol) (ks : List ℕ) → WithAll Unlike a y → Each (λ e. Same (record { level = t; line = a; tag = k }) e → ⊥) (tagged t y ks)
apart_level t a k [] ks h = tt
apart_level t a k (s ∷ y) [] h = tt
apart_level t a k (s ∷ y) (m ∷ ks) h = (λ e. h.0 e.1, apart_level t a k y ks h.1)

chain_level : (xs : List (List LevelSymbol)) (olds : List (List ℕ)) (marks : List Bool) → Each Distinct xs → (t from : ℕ) (y : List LevelSymbol) (ks : List ℕ) (to : ℕ) → Distinct y
    → AreNamed (get_or olds t []) marks (places_in (get_or xs t []) y) from ks to → (rest : List Tagged) → Each (λ e. t + 1 ≤ e.level) rest → Chain (all_tagged 0 xs olds) marks to rest
    → Chain (all_tagged 0 xs olds) marks from (tagged t y ks ++ rest)
chain_level xs olds marks r t from [] [] to h n rest l c = subst (λ n. Chain (all_tagged 0 xs olds) marks n rest) (sym n) c
chain_level xs olds marks r t from [] (k ∷ ks) to h n rest l c = absurd n
chain_level xs olds marks r t from (s ∷ y) [] to h n rest l c = by (place_of (lineage s) (get_or xs t [])) n
  where
    by : (o : Option ℕ) → AreNamed (get_or olds t []) marks (o ∷ places_in (get_or xs t []) y) from [] to → Chain (all_tagged 0 xs olds) marks from rest
    by None n = absurd n
    by (Some j) n = absurd n
chain_level xs olds marks r t from (s ∷ y) (k ∷ ks) to h n rest l c = by (λ m v. chain_level xs olds marks r t m y ks to h.1 v rest l c) (place_of (lineage s) (get_or xs t [])) refl n
  where
    d : Tagged
    d = record { level = t; line = lineage s; tag = k }

    apart : Each (λ e. Same d e → ⊥) (tagged t y ks ++ rest)
    apart =
        each_append (λ e. Same d e → ⊥) (tagged t y ks) rest (apart_level t (lineage s) k y ks h.0)
        (each_more (λ e. t + 1 ≤ e.level) (λ e. Same d e → ⊥) rest (λ e m v. let i : t ≡ e.level = v.0 in omega (arith, m, i)) l)

    by : ((m : ℕ) → AreNamed (get_or olds t []) marks (places_in (get_or xs t []) y) m ks to → Chain (all_tagged 0 xs olds) marks m (tagged t y ks ++ rest))
        → (o : Option ℕ) → place_of (lineage s) (get_or xs t []) ≡ o → AreNamed (get_or olds t []) marks (o ∷ places_in (get_or xs t []) y) from (k ∷ ks) to
        → Chain (all_tagged 0 xs olds) marks from (d ∷ (tagged t y ks ++ rest))
    by more None e n = (
      apart,
      inr (
        (
          n.1,
          n.0,
          λ o i v.
              let same : o.level ≡ t = v.0 in
              let u = stands_in xs olds 0 t o i (omega (arith, same)) in
              let there : place_of (lineage s) (get_or xs t []) ≡ Some u.0 = place_is (get_or xs t []) (distinct_at xs t r) u.0 u.1 (lineage s) u.2 (u.3 ∙ v.1) in
              let no : Some u.0 ≡ None = sym there ∙ e in cc,
        ),
        more (k + 1) n.2,
      ),
    )
    by more (Some j) e n =
        let u = place_told (lineage s) (get_or xs t []) j e in
        (apart, inl ((record { level = t; line = lineage u.0; tag = k }, in_old xs olds 0 t t j u.0 k (omega arith) u.1 n.0, (refl, u.2), refl), more from n.1))

pub all_chained : (xs : List (List LevelSymbol)) (olds : List (List ℕ)) (marks : List Bool) → Each Distinct xs → (t from : ℕ) (ys : List (List LevelSymbol)) (kss : List (List ℕ)) → Each Distinct ys
    → AllNamed xs olds marks t from ys kss → Chain (all_tagged 0 xs olds) marks from (all_tagged t ys kss)
all_chained xs olds marks r t from [] kss h n = tt
all_chained xs olds marks r t from (y ∷ ys) [] h n = tt
all_chained xs olds marks r t from (y ∷ ys) (ks ∷ kss) h n =
    chain_level xs olds marks r t from y ks n.0 h.0 n.1 (all_tagged (t + 1) ys kss) (each_of (λ e. t + 1 ≤ e.level) (all_tagged (t + 1) ys kss) (λ e i. from_level (t + 1) ys kss e i))
    (all_chained xs olds marks r (t + 1) n.0 ys kss h.1 n.2)

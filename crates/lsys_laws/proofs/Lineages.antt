-- The order of lineages, and the place of a lineage in a level.
use Rattle.std.proofs.Common.{◌≡◌, ℕ, zero, suc, ◌<◌, Option, Some, None, List, [], ◌∷◌, ◌++◌, refl, sym, ap, ◌∙◌, subst, arith, inl, inr}
use Rattle.std.specs.Prelude.{slice_get}
use Rattle.lsys_spec.specs.Levels.{LevelSymbol, lineage}
use Rattle.lsys_spec.specs.Standings.{place_of}
use Rattle.lsys_spec.specs.Cuts.{Before, BeforeAll, Rising, Distinct}
use Rattle.lsys_spec.proofs.Rising.{distinct_apart}
use Rattle.lsys_spec.proofs.Standings.{place_told, place_found}

pub before_sibling : (a : List ℕ) (i j : ℕ) → i < j → Before (a ++ i ∷ []) (a ++ j ∷ [])
before_sibling [] i j h = inl h
before_sibling (x ∷ a) i j h = inr (refl, before_sibling a i j h)

-- the last number of a lineage, and the parent's
pub last_number : (a b : List ℕ) (i j : ℕ) → a ++ i ∷ [] ≡ b ++ j ∷ [] → (a ≡ b) × (i ≡ j)
last_number [] [] i j e = (refl, cc)
last_number [] (y ∷ []) i j e = cc
last_number [] (y ∷ z ∷ b) i j e = cc
last_number (x ∷ []) [] i j e = cc
last_number (x ∷ z ∷ a) [] i j e = cc
last_number (x ∷ a) (y ∷ b) i j e =
    let h : x ≡ y = cc in
    let t : a ++ i ∷ [] ≡ b ++ j ∷ [] = cc in
    let r = last_number a b i j t in (ap (λ n. n ∷ a) h ∙ ap (λ l. y ∷ l) r.0, r.1)

before_at : (a : List ℕ) (x : List LevelSymbol) (p : ℕ) (t : LevelSymbol) → BeforeAll a x → slice_get x p ≡ Some t → Before a (lineage t)
before_at a [] p t h g = cc
before_at a (s ∷ x) zero t h g = let e : s ≡ t = cc in subst (λ s. Before a (lineage s)) e h.0
before_at a (s ∷ x) (suc p) t h g = before_at a x p t h.1 g

-- what stands further left comes before
pub rises : (x : List LevelSymbol) → Rising x → (p q : ℕ) (s t : LevelSymbol) → p < q → slice_get x p ≡ Some s → slice_get x q ≡ Some t → Before (lineage s) (lineage t)
rises [] h p q s t l g k = cc
rises (u ∷ x) h p zero s t l g k = absurd (omega (arith, l))
rises (u ∷ x) h zero (suc q) s t l g k = let i : u ≡ s = cc in subst (λ u. Before (lineage u) (lineage t)) i (before_at (lineage u) x q t h.0 k)
rises (u ∷ x) h (suc p) (suc q) s t l g k = rises x h.1 p q s t (omega (arith, l)) g k

-- the place of a lineage that stands in no place, and of one that does

pub place_none : (x : List LevelSymbol) (l : List ℕ) → ((p : ℕ) (s : LevelSymbol) → slice_get x p ≡ Some s → lineage s ≡ l → ⊥) → place_of l x ≡ None
place_none x l f = by (place_of l x) refl
  where
    by : (o : Option ℕ) → place_of l x ≡ o → place_of l x ≡ None
    by None e = e
    by (Some p) e = let r = place_told l x p e in absurd (f p r.0 r.1 r.2)

pub place_is : (x : List LevelSymbol) → Distinct x → (p : ℕ) (s : LevelSymbol) (l : List ℕ) → slice_get x p ≡ Some s → lineage s ≡ l → place_of l x ≡ Some p
place_is x h p s l g e =
    let f = place_found l x p s g e in
    let t = place_told l x f.0 f.1 in
    f.1 ∙ ap (λ q. Some q) (distinct_apart x h f.0 p t.0 s t.1 g (t.2 ∙ sym e))

-- the lineage of the first symbol stands nowhere else
pub place_after : (u : LevelSymbol) (x : List LevelSymbol) → Distinct (u ∷ x) → place_of (lineage u) x ≡ None
place_after u x h = place_none x (lineage u) (λ p s g e. let n : zero ≡ suc p = distinct_apart (u ∷ x) h zero (suc p) u s refl g (sym e) in cc)

-- Levels that are pushed with tags that run on have their own tags.
use Rattle.std.proofs.Common.{◌≡◌, ◌⊎◌, inl, inr, ℕ, zero, suc, List, [], ◌∷◌, ◌++◌, ◌+◌, ◌<◌, ◌≤◌, length, Some, refl, ap, sym, ◌∙◌, arith}
use Rattle.std.specs.Prelude.{slice_get}
use Rattle.std.proofs.lemmas.Option.{same_Some, slice_get_within}
use Rattle.lsys_level.specs.Spots.{Spotted, spotted_at}
use Rattle.lsys_module.specs.declared.symbol.Symbol.{Symbol}
use Rattle.lsys_level.specs.Places.{spots_of}
use Rattle.lsys_level.specs.Tags.{HasOwnTags, HasTagsBelow}

pub own_none : HasOwnTags []
own_none = record { apart = λ t u p q a b here there e. cc }

pub below_none : (bound : ℕ) → HasTagsBelow bound []
below_none bound = record { below = λ t p a here. cc }

-- what stands on a level stood there before, or on the level that was pushed
pushed_at : (levels : List (List Spotted)) (x : List Spotted) (t p : ℕ) (a : Spotted) → spotted_at (levels ++ x ∷ []) t p ≡ Some a → ((t < length levels) × (spotted_at levels t p ≡ Some a)) ⊎ ((t ≡ length levels) × (slice_get x p ≡ Some a))
pushed_at [] x zero p a h = inr (refl, h)
pushed_at [] x (suc t) p a h = cc
pushed_at (y ∷ levels) x zero p a h = inl (omega arith, h)
pushed_at (y ∷ levels) x (suc t) p a h = elim (pushed_at levels x t p a h) [
  | inl old ↦ inl (let k = old.0 in omega (arith, k), old.1)
  | inr new ↦ inr (ap suc new.0, new.1)
]

-- the tags of a level rise by one from a number on
pub record AreRunning (first : ℕ) (x : List Spotted) : Type 0 where
  pub each : (p : ℕ) (a : Spotted) → slice_get x p ≡ Some a → a.tag ≡ first + p

pub own_running : (levels : List (List Spotted)) (x : List Spotted) (first : ℕ) → HasOwnTags levels → HasTagsBelow first levels → AreRunning first x → HasOwnTags (levels ++ x ∷ [])
own_running levels x first own below run = record {
  apart = λ t u p q a b here there e. elim (pushed_at levels x t p a here) [
    | inl old ↦ (elim (pushed_at levels x u q b there) [
      | inl older ↦ own.apart t u p q a b old.1 older.1 e
      | inr new ↦ (let k = below.below t p a old.1 in let n = run.each q b new.1 in absurd (omega (arith, k, n, e)))
    ])
    | inr new ↦ (elim (pushed_at levels x u q b there) [
      | inl old ↦ (let k = below.below u q b old.1 in let n = run.each p a new.1 in absurd (omega (arith, k, n, e)))
      | inr newer ↦ (let n = run.each p a new.1 in let m = run.each q b newer.1 in (new.0 ∙ sym newer.0, omega (arith, n, m, e)))
    ])
  ];
}

pub below_running : (levels : List (List Spotted)) (x : List Spotted) (first n : ℕ) → HasTagsBelow first levels → AreRunning first x → length x ≤ n → HasTagsBelow (first + n) (levels ++ x ∷ [])
below_running levels x first n below run few = record {
  below = λ t p a here. elim (pushed_at levels x t p a here) [
    | inl old ↦ (let k = below.below t p a old.1 in omega (arith, k))
    | inr new ↦ (let k = run.each p a new.1 in let inside = slice_get_within x p a new.1 in omega (arith, k, inside, few))
  ];
}

tag_at : (ss : List Symbol) (ts ks : List ℕ) (p : ℕ) (a : Spotted) → slice_get (spots_of ss ts ks) p ≡ Some a → slice_get ts p ≡ Some a.tag
tag_at [] ts ks p a h = cc
tag_at (s ∷ ss) [] ks p a h = cc
tag_at (s ∷ ss) (t ∷ ts) [] p a h = cc
tag_at (s ∷ ss) (t ∷ ts) (k ∷ ks) zero a h = ap (λ (a : Spotted). Some a.tag) (same_Some _ _ h)
tag_at (s ∷ ss) (t ∷ ts) (k ∷ ks) (suc p) a h = tag_at ss ts ks p a h

pub running : (ss : List Symbol) (ts ks : List ℕ) (first : ℕ) → ((p t : ℕ) → slice_get ts p ≡ Some t → t ≡ first + p) → AreRunning first (spots_of ss ts ks)
running ss ts ks first run = record { each = λ p a h. run p a.tag (tag_at ss ts ks p a h) }

pub no_longer : (ss : List Symbol) (ts ks : List ℕ) → length (spots_of ss ts ks) ≤ length ss
no_longer [] ts ks = omega arith
no_longer (s ∷ ss) [] ks = omega arith
no_longer (s ∷ ss) (t ∷ ts) [] = omega arith
no_longer (s ∷ ss) (t ∷ ts) (k ∷ ks) = let k = no_longer ss ts ks in omega (arith, k)

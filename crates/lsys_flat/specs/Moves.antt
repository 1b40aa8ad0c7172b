-- What is taken over from old places.
use Rattle.std.specs.Prelude.{◌≡◌, ◌<◌, ℕ, Option, Some, None, List, [], ◌∷◌, length, slice_get, slice_index_or}

-- each of these places is one of so many
abbrev pub AreWithin : ℕ → List (Option ℕ) → Type 0
AreWithin n places = (p j : ℕ) → slice_get places p ≡ Some (Some j) → j < n

-- none of these places stands twice
abbrev pub AreTakenOnce : List (Option ℕ) → Type 0
AreTakenOnce places = (p q j : ℕ) → slice_get places p ≡ Some (Some j) → slice_get places q ≡ Some (Some j) → p ≡ q

-- what is new at each place, or what was old at the place that is told there
abbrev pub moved : {A : Type 0} → List (Option A) → List (Option A) → List (Option ℕ) → List (Option A)
moved old [] places = []
moved old (n ∷ ns) [] = n ∷ ns
moved old (n ∷ ns) (None ∷ places) = n ∷ moved old ns places
moved old (n ∷ ns) (Some j ∷ places) = slice_index_or old j None ∷ moved old ns places

-- What is at the old places then: where something was taken, what was new at the place that took it, and else what was there.
pub record AreSwapped {A : Type 0} (old new : List (Option A)) (places : List (Option ℕ)) (after : List (Option A)) : Type 0 where
  pub same : length after ≡ length old
  pub taken : (p j : ℕ) → slice_get places p ≡ Some (Some j) → slice_index_or after j None ≡ slice_index_or new p None
  pub others : (j : ℕ) → ((p : ℕ) → slice_get places p ≡ Some (Some j) → ⊥) → slice_index_or after j None ≡ slice_index_or old j None

-- each of these places is that of the mate
abbrev pub AreOfMates : List (Option ℕ) → List (Option ℕ) → Type 0
AreOfMates mates places = (p j : ℕ) → slice_get places p ≡ Some (Some j) → slice_get mates p ≡ Some (Some j)

-- Old symbols, looked for by their origins.
use Rattle.std.specs.Prelude.{◌≡◌, ◌<◌, ℕ, Option, Some, None, List, length, slice_get}
use Rattle.std.specs.Ordering.{nat_cmp, ordering_then}
use Rattle.std.specs.declared.cmp.Ordering.{Ordering}
use Rattle.std.specs.List.{All, Contains}
use Rattle.std.specs.List.Sorted.{IsSortedByKey}
use Rattle.lsys_flat.specs.declared.origin.Origin.{Origin}
use Rattle.lsys_flat.specs.declared.places.Placed.{Placed}

-- by their parents, then by their codes, then by their counts
abbrev pub origin_cmp : Origin → Origin → Ordering
origin_cmp a b = ordering_then (nat_cmp a.parent b.parent) (ordering_then (nat_cmp a.code b.code) (nat_cmp a.count b.count))

-- the place where the origin stands, if it stands there
abbrev pub IsPlaceOf : List Origin → Origin → Option ℕ → Type 0
IsPlaceOf old o (Some p) = slice_get old p ≡ Some o
IsPlaceOf old o None = (p : ℕ) → slice_get old p ≡ Some o → ⊥

-- these are the origins with their places, in order
pub record ArePlacesOf (old : List Origin) (placed : List Placed) : Type 0 where
  pub each : All (λ p. slice_get old p.place ≡ Some p.origin) placed
  pub whole : (p : ℕ) (o : Origin) → slice_get old p ≡ Some o → Contains placed (record { origin = o; place = p })
  pub order : IsSortedByKey (λ p. p.origin) origin_cmp placed

-- they were sorted, unless there are none
abbrev pub AreSorted : List Origin → List Placed → Type 0
AreSorted old placed = 0 < length placed → ArePlacesOf old placed

abbrev pub StandsAt : List Placed → Origin → ℕ → Type 0
StandsAt placed o p = Contains placed (record { origin = o; place = p })

abbrev pub StandsNowhere : List Placed → Origin → Type 0
StandsNowhere placed o = (p : ℕ) → StandsAt placed o p → ⊥

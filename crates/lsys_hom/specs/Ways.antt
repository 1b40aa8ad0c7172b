-- The way along a level: what is still to come of its image, and how many of its symbols are left.
use Rattle.std.specs.Prelude.{◌≡◌, ◌==◌, Bool, false, ℕ, ◌+◌, ◌<◌, ◌≤◌, ◌^◌, Option, Some, None, List, [], ◌++◌, Result, Ok, Err, length, drop, map, option_map}
use Rattle.lsys_syntax.specs.Limits.{most_image_symbols}
use Rattle.lsys_spec.specs.Systems.{Homomorphism, System}
use Rattle.lsys_spec.specs.Levels as L
use Rattle.lsys_level.specs.Spots.{Spotted, IsSpot, spots_at, level_by}
use Rattle.lsys_bodies.specs.Views.{homomorphism_of}
use Rattle.lsys_bodies.specs.declared.rule.HomRule.{HomRule}
use Rattle.lsys_hom.specs.Coming.{Coming, coming, coming_from, nothing_coming}
use Rattle.lsys_hom.specs.Parts.{IsSoundPart, symbols_of}
use Rattle.lsys_hom.specs.Refusals.{refusal_of}
use Rattle.lsys_hom.specs.declared.part.Part.{Part}
use Rattle.lsys_hom.specs.declared.refusal.ImageRefusal.{ImageRefusal}

-- the symbols, all without lineages
abbrev pub bare_level : List Spotted → List L.LevelSymbol
bare_level x = level_by (λ tag. []) x

-- what comes of the image of a level by these rules
abbrev pub coming_by : List HomRule → List Spotted → Coming
coming_by rules x = coming_from (map homomorphism_of rules) 0 0 (bare_level x)

-- it comes, whatever the lineages of the symbols are
abbrev pub ComesFrom : System → List Spotted → Coming → Type 0
ComesFrom s x c = (naming : ℕ → List ℕ) → c ≡ coming s (level_by naming x)

-- the level and the place of a spot
abbrev pub at : {S : Type 0} → (S → ℕ) → (S → ℕ) → Option S → Option (ℕ × ℕ)
at level_of place_of spot = option_map (λ s. (level_of s, place_of s)) spot

-- the symbols from a place on; without one the level is at its end
abbrev pub symbols_from : List (List Spotted) → Option (ℕ × ℕ) → List Spotted
symbols_from levels None = []
symbols_from levels (Some (t, p)) = drop p (spots_at levels t)

pub record LevelWay : Type 0 where
  pub coming : Coming
  pub left : ℕ

abbrev pub way_from : List Homomorphism → ℕ → ℕ → List (List Spotted) → Option (ℕ × ℕ) → LevelWay
way_from hs n k levels place =
    let rest = symbols_from levels place in record { coming = coming_from hs n k (bare_level rest); left = length rest }

abbrev pub IsPlace : List (List Spotted) → Option (ℕ × ℕ) → Type 0
IsPlace levels None = Unit {0}
IsPlace levels (Some (t, p)) = IsSpot levels t p

-- the counts of modules and symbols so far can go on to the level's end
pub record CanCountOn (n k : ℕ) (levels : List (List Spotted)) (spot : Option (ℕ × ℕ)) : Type 0 where
  pub place : IsPlace levels spot
  pub modules : n + length (symbols_from levels spot) < 2 ^ 32
  pub symbols : k ≤ most_image_symbols

-- what comes is the part, and then this
abbrev pub with_part : Part → Coming → Coming
with_part part c = record { symbols = symbols_of part ++ c.symbols; refusal = c.refusal }

-- nothing but this refusal comes
abbrev pub coming_refused : ImageRefusal → Coming
coming_refused r = record { symbols = []; refusal = Some (refusal_of r) }

-- one symbol of the level is passed; a refusal passes nothing
abbrev pub IsSymbolPassed : LevelWay → LevelWay → Result (Option Part) ImageRefusal → Type 0
IsSymbolPassed old new (Ok (Some part)) = (old.coming ≡ with_part part new.coming) × (new.left < old.left) × IsSoundPart part
IsSymbolPassed old new (Ok None) = (old.coming ≡ nothing_coming) × (new ≡ old)
IsSymbolPassed old new (Err r) = (old.coming ≡ coming_refused r) × (new ≡ old)

-- symbols of the level are passed up to one whose image isn't empty
abbrev pub IsNextPart : Coming → Coming → Result (Option Part) ImageRefusal → Type 0
IsNextPart old new (Ok (Some part)) = (old ≡ with_part part new) × (0 < length (symbols_of part)) × IsSoundPart part
IsNextPart old new (Ok None) = (old ≡ nothing_coming) × (new ≡ old)
IsNextPart old new (Err r) = (old ≡ coming_refused r) × (new ≡ old)

abbrev pub IsSoundPartIfAny : Result (Option Part) ImageRefusal → Type 0
IsSoundPartIfAny (Ok (Some part)) = IsSoundPart part
IsSoundPartIfAny r = Unit {0}

abbrev pub is_empty_part : Result (Option Part) ImageRefusal → Bool
is_empty_part (Ok (Some part)) = length (symbols_of part) == 0
is_empty_part r = false

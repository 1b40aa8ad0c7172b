-- What a view answers of its spots, each of which stands for a level and a place in it.
use Rattle.std.specs.Prelude.{◌≡◌, ℕ, ◌+◌, ◌<◌, List, length, Option, Some, option_map, MatchOption}
use Rattle.lsys_level.specs.declared.sight.Sight.{Sight}
use Rattle.lsys_level.specs.Spots.{Spotted, spots_at, spotted_at, IsBracketAt, IsMate}
use Rattle.lsys_level.specs.Views.{seen_of}

-- this is the leftmost spot of a level; none where it is empty
abbrev pub IsFirstSpot : {S : Type 0} → List (List Spotted) → (S → ℕ) → (S → ℕ)
    → ℕ → Option S → Type 0
IsFirstSpot levels level_of place_of level found =
    let x = spots_at levels level in MatchOption found (length x ≡ 0)
    (λ s. (level_of s ≡ level) × (place_of s ≡ 0) × (0 < length x))

-- this is the spot to the left of another; none at the left end
abbrev pub IsLeftOf : {S : Type 0} → (S → ℕ) → (S → ℕ) → S → Option S → Type 0
IsLeftOf level_of place_of spot found =
    let t = level_of spot in let p = place_of spot in MatchOption found (p ≡ 0)
    (λ s. (level_of s ≡ t) × (place_of s + 1 ≡ p))

-- this is the spot to the right of another; none at the right end
abbrev pub IsRightOf : {S : Type 0} → List (List Spotted) → (S → ℕ) → (S → ℕ)
    → S → Option S → Type 0
IsRightOf levels level_of place_of spot found =
    let t = level_of spot in let p = place_of spot in
    let x = spots_at levels t in MatchOption found (p + 1 ≡ length x)
    (λ s. (level_of s ≡ t) × (place_of s ≡ p + 1) × (place_of s < length x))

-- a bracket stands at place p of level t
abbrev pub HasBracket : List (List Spotted) → ℕ → ℕ → Type 0
HasBracket levels t p = IsBracketAt (spots_at levels t) p

-- the second spot is that of the mate of the bracket at the first one
abbrev pub IsMateOf : {S : Type 0} → List (List Spotted) → (S → ℕ) → (S → ℕ) → S → S → Type 0
IsMateOf levels level_of place_of spot mate =
    IsMate (spots_at levels (level_of spot)) (place_of spot) (place_of mate)

-- the symbol at place p of level t looks so
abbrev pub ShowsAt : List (List Spotted) → ℕ → ℕ → Sight → Type 0
ShowsAt levels t p sight =
    option_map (λ s. s.seen) (spotted_at levels t p) ≡ Some (seen_of sight)

-- the symbol at place p of level t has this tag
abbrev pub IsTagAt : List (List Spotted) → ℕ → ℕ → ℕ → Type 0
IsTagAt levels t p tag = option_map (λ s. s.tag) (spotted_at levels t p) ≡ Some tag

-- the symbol at place p of level t has this key
abbrev pub IsKeyAt : List (List Spotted) → ℕ → ℕ → ℕ → Type 0
IsKeyAt levels t p key = option_map (λ s. s.key) (spotted_at levels t p) ≡ Some key

-- The answer of a scan, each place counted from the token that it began with.
use Rattle.std.specs.Prelude.{◌≡◌, ◌<◌, ◌≤◌, ℕ, suc, ◌+◌, Result, Ok, Err, List, take, length}
use Rattle.lsys_syntax.specs.Tokens.{Kind}
use Rattle.lsys_syntax.specs.ExpressionPlaces.{IsExpression, BeginsExpression, IsAnyExpression, BeginsAnyExpression, Extent, ends, stops, too_deep}
use Rattle.lsys_text.specs.declared.refusals.PlaceRefusal.{PlaceRefusal}
use Rattle.lsys_text.specs.declared.refusals.PlaceRefusal.TheVariants.{Token, Deep}

-- the answer is that of an extent
abbrev pub IsExtent : ℕ → Extent → Result ℕ PlaceRefusal → Type 0
IsExtent from (ends d e) (Ok place) = place ≡ from + d
IsExtent from (stops d) (Err (Token place)) = place ≡ from + d
IsExtent from (too_deep d) (Err (Deep place)) = place ≡ from + d
IsExtent from x r = ⊥

-- the first d tokens are an expression, and none that is longer begins with them
pub record EndsAt (ks : List Kind) (d : ℕ) : Type 0 where
  pub within : d ≤ length ks
  pub whole : IsExpression 32 (take d ks)
  pub none_longer : d < length ks → BeginsAnyExpression (take (suc d) ks) → ⊥

-- an expression begins with the first d tokens, and none with one more; they are no whole one
pub record StopsAt (ks : List Kind) (d : ℕ) : Type 0 where
  pub within : d ≤ length ks
  pub before : BeginsExpression 32 (take d ks)
  pub none_goes_on : d < length ks → BeginsAnyExpression (take (suc d) ks) → ⊥
  pub not_whole : IsAnyExpression (take d ks) → ⊥

-- with one more than the first d tokens only an expression of a nesting above 32 begins
pub record TooDeepAt (ks : List Kind) (d : ℕ) : Type 0 where
  pub within : d < length ks
  pub before : BeginsExpression 32 (take d ks)
  pub none_within : BeginsExpression 32 (take (suc d) ks) → ⊥
  pub only_deep : BeginsAnyExpression (take (suc d) ks)

-- what stands before the place that is answered, and what goes on with the token there
abbrev pub IsEndPlace : ℕ → List Kind → Result ℕ PlaceRefusal → Type 0
IsEndPlace from ks (Ok place) = (d : ℕ) × (place ≡ from + d) × EndsAt ks d
IsEndPlace from ks (Err (Token place)) = (d : ℕ) × (place ≡ from + d) × StopsAt ks d
IsEndPlace from ks (Err (Deep place)) = (d : ℕ) × (place ≡ from + d) × TooDeepAt ks d

-- the place that is answered
abbrev pub place_answered : Result ℕ PlaceRefusal → ℕ
place_answered (Ok place) = place
place_answered (Err (Token place)) = place
place_answered (Err (Deep place)) = place

-- The token at which a string is refused, in terms of strings.
use Rattle.std.specs.Prelude.{ℕ, ◌+◌, ◌-◌, ◌<◌, List, length, drop, take}
use Rattle.lsys_syntax.specs.Tokens.{Kind}
use Rattle.lsys_text.specs.declared.token_kind.Token.{Token}
use Rattle.lsys_text.specs.declared.refusals.PlaceRefusal.{PlaceRefusal}
use Rattle.lsys_text.specs.declared.refusals.PlaceRefusal.TheVariants as refusals
use Rattle.lsys_text.specs.Tokens.{kind_row}
use Rattle.lsys_laws.specs.StringPlaces.{BeginsString, IsString}

-- the place of the token that is refused
abbrev pub refused_place : PlaceRefusal → ℕ
refused_place (refusals.Token place) = place
refused_place (refusals.Deep place) = place

-- the tokens from a place on
abbrev pub kinds_from : ℕ → List Token → List Kind
kinds_from from tokens = drop from (kind_row tokens)

-- those are a string
abbrev pub IsStringFrom : ℕ → List Token → Type 0
IsStringFrom from tokens = IsString (kinds_from from tokens)

-- the tokens from a place on up to another
abbrev pub kinds_between : ℕ → ℕ → List Token → List Kind
kinds_between from to tokens = take (to - from) (kinds_from from tokens)

-- some string begins with the tokens before the refused one
abbrev pub BeginsBefore : ℕ → List Token → PlaceRefusal → Type 0
BeginsBefore from tokens refusal = BeginsString (kinds_between from (refused_place refusal) tokens)

-- none begins with these and the refused one, where it isn't the end of the line
abbrev pub NoneGoesOn : ℕ → List Token → PlaceRefusal → Type 0
NoneGoesOn from tokens refusal = refused_place refusal < length tokens → BeginsString (kinds_between from (refused_place refusal + 1) tokens) → ⊥

-- At which token a string after `axiom` ends or stops, told by strings themselves.
use Rattle.std.specs.Prelude.{◌≡◌, List, ℕ, suc, take, ◌<◌, length, ◌≤◌}
use Rattle.lsys_syntax.specs.Tokens.{Kind}
use Rattle.lsys_syntax.specs.Strings.{Symbol, Signed}
use Rattle.lsys_syntax.specs.Commands.{set_axiom, Command}
use Rattle.lsys_syntax.specs.LineMachine.{sentence, stops, too_deep}
use Rattle.lsys_syntax.specs.Sentences.{AreTokens}
use Rattle.lsys_laws.specs.StringPlaces.{IsStringOf, axiom_verdict, BeginsString, IsString}

-- the tokens of a string are read as that string
abbrev pub StringsAreRead : Type 0
StringsAreRead =
    (ks : List Kind) (xs : List (Symbol Signed)) → IsStringOf ks xs
    → axiom_verdict ks ≡ sentence (set_axiom xs)

-- what is read is a string, and the tokens are its own
abbrev pub WhatIsReadIsAString : Type 0
WhatIsReadIsAString =
    (ks : List Kind) (c : Command) → AreTokens ks → axiom_verdict ks ≡ sentence c
    → (xs : List (Symbol Signed)) × (c ≡ set_axiom xs) × IsStringOf ks xs

-- some string begins with the tokens before the one at which the reading stops
abbrev pub SomeStringBeginsBeforeTheStop : Type 0
SomeStringBeginsBeforeTheStop =
    (ks : List Kind) (place : ℕ) → AreTokens ks → axiom_verdict ks ≡ stops (suc place)
    → BeginsString (take place ks)

-- and none goes on with the token there
abbrev pub NoStringGoesOnAtTheStop : Type 0
NoStringGoesOnAtTheStop =
    (ks : List Kind) (place : ℕ) → axiom_verdict ks ≡ stops (suc place) → place < length ks
    → BeginsString (take (suc place) ks) → ⊥

-- where the reading stops after the last token, the tokens are no whole string
abbrev pub NoStringStopsAtItsEnd : Type 0
NoStringStopsAtItsEnd =
    (ks : List Kind) (place : ℕ) → axiom_verdict ks ≡ stops (suc place) → length ks ≤ place
    → (place ≡ length ks) × (IsString ks → ⊥)

-- no string is nested too deep
abbrev pub NoStringIsTooDeep : Type 0
NoStringIsTooDeep =
    (ks : List Kind) (place : ℕ) → AreTokens ks → axiom_verdict ks ≡ too_deep place → ⊥

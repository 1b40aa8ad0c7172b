-- Which tokens are a sentence, and with which token none goes on.
use Rattle.std.specs.Prelude.{◌≡◌, ◌≤◌, List, ℕ, take, ◌<◌, suc, length}
use Rattle.lsys_syntax.specs.Limits.{nesting_bound}
use Rattle.lsys_syntax.specs.Pieces.{kinds_of}
use Rattle.lsys_syntax.specs.Commands.{Command, IsCommand, command_pieces, nesting}
use Rattle.lsys_syntax.specs.LineMachine.{verdict, sentence, stops, too_deep}
use Rattle.lsys_syntax.specs.Tokens.{Kind}
use Rattle.lsys_syntax.specs.Sentences.{AreTokens, IsSpelled, Begins, BeginsDeep, IsSpelling}

-- the spelling of each command, nested within the bound, is a sentence of that command
abbrev pub SpellingsAreSentences : Type 0
SpellingsAreSentences =
    (command : Command) → IsCommand command → nesting command ≤ nesting_bound
    → verdict (kinds_of (command_pieces command)) ≡ sentence command

-- each sentence is the spelling of its command, which is so nested
abbrev pub SentencesAreSpellings : Type 0
SentencesAreSpellings =
    (kinds : List Kind) (command : Command) → AreTokens kinds → verdict kinds ≡ sentence command
    → IsSpelled nesting_bound kinds command

-- no two commands have the same spelling
abbrev pub SpellingsAreDistinct : Type 0
SpellingsAreDistinct =
    (one other : Command) → IsCommand one → IsCommand other
    → kinds_of (command_pieces one) ≡ kinds_of (command_pieces other) → one ≡ other

-- some sentence begins with the tokens before the one at which the verdict stops
abbrev pub SomeSentenceBeginsBeforeTheStop : Type 0
SomeSentenceBeginsBeforeTheStop =
    (kinds : List Kind) (place : ℕ) → AreTokens kinds → verdict kinds ≡ stops place
    → Begins nesting_bound (take place kinds)

-- and none goes on with the token there, however deep it is nested
abbrev pub NoSentenceGoesOnAtTheStop : Type 0
NoSentenceGoesOnAtTheStop =
    (kinds : List Kind) (place : ℕ) → verdict kinds ≡ stops place → place < length kinds
    → BeginsDeep (take (suc place) kinds) → ⊥

-- where the verdict stops after the last token, no command is spelled by the tokens
abbrev pub NoSentenceStopsAtItsEnd : Type 0
NoSentenceStopsAtItsEnd =
    (kinds : List Kind) (place : ℕ) → verdict kinds ≡ stops place → length kinds ≤ place
    → (place ≡ length kinds) × (IsSpelling kinds → ⊥)

-- some sentence within the bound begins with the tokens before the one that is too deep
abbrev pub SomeSentenceBeginsBeforeTooDeep : Type 0
SomeSentenceBeginsBeforeTooDeep =
    (kinds : List Kind) (place : ℕ) → AreTokens kinds → verdict kinds ≡ too_deep place
    → (place < length kinds) × Begins nesting_bound (take place kinds)

-- none within the bound goes on with the token that is too deep
abbrev pub NoSentenceWithinTheBoundGoesOn : Type 0
NoSentenceWithinTheBoundGoesOn =
    (kinds : List Kind) (place : ℕ) → verdict kinds ≡ too_deep place
    → Begins nesting_bound (take (suc place) kinds) → ⊥

-- but a deeper one does
abbrev pub OnlyADeeperSentenceGoesOn : Type 0
OnlyADeeperSentenceGoesOn =
    (kinds : List Kind) (place : ℕ) → AreTokens kinds → verdict kinds ≡ too_deep place
    → BeginsDeep (take (suc place) kinds)

-- Which sentences begin as those of version 1 did.
use Rattle.std.specs.Prelude.{◌≡◌, List, ℕ, false}
use Rattle.lsys_syntax.specs.Tokens.{Kind}
use Rattle.lsys_syntax.specs.Commands.{Command}
use Rattle.lsys_syntax.specs.Sentences.{IsSpelled, Begins}
use Rattle.lsys_syntax.specs.Former.{begins_later, IsFormer, BeginsFormer}

-- a sentence that begins with no word of version 2 is a command of version 1
abbrev pub FormerBeginningsSpellFormerCommands : Type 0
FormerBeginningsSpellFormerCommands =
    (bound : ℕ) (kinds : List Kind) (command : Command) → begins_later kinds ≡ false
    → IsSpelled bound kinds command → IsFormer command

-- and where a sentence begins with such tokens, one of version 1 does
abbrev pub FormerBeginningsBeginFormerSentences : Type 0
FormerBeginningsBeginFormerSentences =
    (bound : ℕ) (kinds : List Kind) → begins_later kinds ≡ false
    → Begins bound kinds → BeginsFormer bound kinds

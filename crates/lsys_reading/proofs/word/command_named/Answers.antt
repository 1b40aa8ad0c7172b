use Rattle.std.proofs.Common.{◌≡◌, refl, Bool, true, false, Option, if◌then◌else◌}
use Rattle.lsys_reading.specs.declared.word.CommandWord.{CommandWord}
use Rattle.lsys_reading.specs.Words.{word_state_in}
use Rattle.lsys_reading.proofs.word.command_named.Goals as goal

-- the state that a test's choice leads to
state-if : (b : Bool) (x y : Option CommandWord) → word_state_in (if b then x else y) ≡ if b then word_state_in x else word_state_in y
state-if true x y = refl
state-if false x y = refl

pub returns : goal.returns
returns c = rw c.meaning_in.ensures (simp state-if)

-- Ends over std's reader and writer as contracts see them.
use Rattle.std.specs.Prelude.{ℕ, List}
use Rattle.std.specs.declared.option.Option.{Option}

-- the bytes that std's reader has left, or those that std's writer holds, where std tells them; and the count of faults
pub record End : Type 0 where
  pub bytes : Option (List ℕ)
  pub faults : ℕ

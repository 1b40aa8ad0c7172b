-- Which numbers a state has.
use Rattle.std.specs.Prelude.{◌≤◌, ◌<◌, ℕ, IfSome}
use Rattle.lsys_region.specs.declared.packed.State.{State}
use Rattle.lsys_region.specs.declared.packed.State.TheVariants.{Taken, Free}

-- a list that a part holds is no longer than this, and a next part has a lesser number
abbrev pub HasNumbersWithin : ℕ → State → Type 0
HasNumbersWithin most (Taken len) = len ≤ most
HasNumbersWithin most (Free next) = IfSome next (λ number. number < most)

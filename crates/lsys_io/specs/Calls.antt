-- Counts over what a call is lent.
use Rattle.std.specs.Prelude.{◌≡◌, ℕ}
use Rattle.lsys_io.specs.Causes.{Rose}
use Rattle.lsys_syntax.specs.Calls.{Lent}

-- a count over what is lent rose during the call
abbrev pub HasRisen : {X : Type 0} → (X → ℕ) → Lent X → Type 0
HasRisen count x = Rose (count x.entry.now) (count x.exit.now)

-- it is as it was
abbrev pub HasStayed : {X : Type 0} → (X → ℕ) → Lent X → Type 0
HasStayed count x = count x.exit.now ≡ count x.entry.now

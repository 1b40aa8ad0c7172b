-- What is read beside an old trace.
use Rattle.std.specs.Prelude.{◌≡◌, ◌≤◌, ℕ, ℤ, Bool, true, false, List, [], ◌∷◌, ◌++◌, length, take}
use Rattle.lsys_spec.specs.Output.{IsFront}
use Rattle.lsys_walks.specs.declared.entry.Entry.{Entry}
use Rattle.lsys_walks.specs.Noted.{Noted}
use Rattle.lsys_walks.specs.Views.{noted_of, decoded, arities}

-- the old trace, what was read so far, and whether it is read off the old one
pub record Read : Type 0 where
  pub old : List Noted
  pub read : List Noted
  pub agrees : Bool

-- while all agree, the front of the old trace; later what was written
abbrev pub trace_so_far : Bool → List Entry → List ℤ → ℕ → ℕ → List Noted → List Noted
trace_so_far true es vs p q own = decoded (take p es) (take q vs)
trace_so_far false es vs p q own = own

-- The parameters are those of the entries. So many entries of the old trace were passed, and their parameters. Where not all agree, the old trace doesn't begin with what was written.
abbrev pub IsReading : List Entry → List ℤ → ℕ → ℕ → Bool → List Noted → Type 0
IsReading es vs p q agrees own = (arities es ≡ length vs) × (p ≤ length es) × (q ≡ arities (take p es)) × (agrees ≡ false → IsFront own (decoded es vs) → ⊥)

-- what was read, with one entry more
abbrev pub read_with : Read → Entry → List ℤ → List Noted
read_with r entry params = r.read ++ noted_of entry params ∷ []

-- one entry more was read, and it is told whether the old trace still agrees
abbrev pub AddsEntry : Read → Read → Entry → List ℤ → Bool → Type 0
AddsEntry old new entry params agrees =
    (new.read ≡ old.read ++ noted_of entry params ∷ []) × (new.agrees ≡ agrees)

-- What stands before a rule.
use Rattle.std.specs.Prelude.{◌≡◌, ◌+◌, ℕ, Result, Ok, Err, List, [], drop, Option, Some, None}
use Rattle.lsys_syntax.specs.Tokens.{Kind, Colon}
use Rattle.lsys_syntax.specs.RuleMachine.{start}
use Rattle.lsys_syntax.specs.LineMachine.{State, InProduction, InHomomorphism, TableDue, InNames, of_own}
use Rattle.lsys_syntax.specs.RulePoints.{Here}
use Rattle.lsys_syntax.specs.Commands.{ListKind}
use Rattle.lsys_reading.specs.Lines.{at_front, IsPart}
use Rattle.lsys_reading.specs.declared.refusal.PartRefusal.{PartRefusal}
use Rattle.lsys_reading.specs.declared.refusal.PartRefusal.TheVariants.{Token}
use Rattle.lsys_reading.specs.declared.heading.Heading.{Heading}

abbrev pub colon_in : Kind → Option (Unit {0})
colon_in Colon = Some tt
colon_in k = None

-- a colon stands there, and the place is the one after it; or none does
abbrev pub IsColon : List Kind → ℕ → Result ℕ PartRefusal → Type 0
IsColon ks at (Ok end) = Here ks at Colon × (end ≡ at + 1)
IsColon ks at (Err (Token place)) = (place ≡ at) × (at_front colon_in (drop at ks) ≡ None)
IsColon ks at (Err e) = ⊥

abbrev pub production_after : Heading → State
production_after h = InProduction h.table h.label start

abbrev pub homomorphism_after : Heading → State
homomorphism_after h = InHomomorphism h.label start

-- a table and a colon, after the word of either kind of list
abbrev pub IsTableHeading : List Kind → Result (List ℕ) PartRefusal → Type 0
IsTableHeading ks result = (k : ListKind) → IsPart ks 1 (TableDue k) (λ t. 3) (λ t. InNames (of_own k t) []) result

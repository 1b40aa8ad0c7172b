-- What the edits of a system change.
use Rattle.std.specs.Prelude.{◌≡◌, ℕ, Bool, List, [], ◌∷◌, ◌++◌, Result, IfOk, map, if◌then◌else◌}
use Rattle.lsys_syntax.specs.Strings.{ModuleName}
use Rattle.lsys_syntax.specs.Commands.{Command}
use Rattle.lsys_spec.specs.Edits.{changed}
use Rattle.lsys_spec.specs.Meaning.{ignores}
use Rattle.lsys_module.specs.Views.{module_name}
use Rattle.lsys_reading.specs.declared.parts.CommandParts.{CommandParts}
use Rattle.lsys_reading.specs.declared.parts.CommandParts.TheVariants.{Axiom, Production, Drop, Ignore, Schedule, Seed, Homomorphism, Own, Common}
use Rattle.lsys_rules.specs.Systems.{system_of}
use Rattle.lsys_rules.specs.declared.parts.SystemParts.{SystemParts}

-- an edit of the depth, the version, the lattice or the numbering, or a query
abbrev pub IsPlainEdit : CommandParts → Type 0
IsPlainEdit Axiom = ⊥
IsPlainEdit (Production l) = ⊥
IsPlainEdit (Drop l) = ⊥
IsPlainEdit (Ignore ns) = ⊥
IsPlainEdit (Schedule ws) = ⊥
IsPlainEdit (Seed n) = ⊥
IsPlainEdit (Homomorphism l) = ⊥
IsPlainEdit (Own l) = ⊥
IsPlainEdit (Common t) = ⊥
IsPlainEdit p = Unit {0}

-- a name more, unless it stands there
abbrev pub with_name_unless : Bool → List ModuleName → ModuleName → List ModuleName
with_name_unless b names n = if b then names else names ++ n ∷ []

abbrev pub with_name_once : List ModuleName → ModuleName → List ModuleName
with_name_once names n = with_name_unless (ignores names n) names n

-- the name was added, unless it stood there
abbrev pub AddsNameOnce : List (List ℕ) → List (List ℕ) → List ℕ → Type 0
AddsNameOnce old new name =
    map module_name new ≡ with_name_once (map module_name old) (module_name name)

-- What is answered, if anything, are the parts of the system that the command makes of theirs.
abbrev pub Changes : {E : Type 0} → SystemParts → Command → Result SystemParts E → Type 0
Changes parts command result =
    IfOk result (λ next. system_of next ≡ changed (system_of parts) command)

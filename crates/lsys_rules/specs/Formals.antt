-- The formals that a command keeps of its rule.
use Rattle.std.specs.Prelude.{◌+◌, Option, Some, None, List}
use Rattle.lsys_spec.specs.Edits.{label_place}
use Rattle.lsys_text.specs.Tokens.{kind_row}
use Rattle.lsys_text.specs.declared.token_kind.Token.{Token}
use Rattle.lsys_reading.specs.Parted.{IsParted}
use Rattle.lsys_reading.specs.declared.parts.CommandParts.{CommandParts}
use Rattle.lsys_reading.specs.declared.parts.CommandParts.TheVariants.{Production, Homomorphism}
use Rattle.lsys_bodies.specs.Formals.{AreFormalNames}
use Rattle.lsys_bodies.specs.declared.formals.FormalNames.{FormalNames}

-- those of the rule, where there is one
abbrev pub HasFormals : CommandParts → Option FormalNames → Type 0
HasFormals (Production l) (Some x) = AreFormalNames (label_place l.table + 2) l.rule x
HasFormals (Production l) None = ⊥
HasFormals (Homomorphism l) (Some x) = AreFormalNames 3 l.rule x
HasFormals (Homomorphism l) None = ⊥
HasFormals p o = Unit {0}

-- those of the rule that the tokens spell, where they spell one
abbrev pub HasFormalsOf : List Token → Option FormalNames → Type 0
HasFormalsOf ts names = (p : CommandParts) → IsParted (kind_row ts) p → HasFormals p names

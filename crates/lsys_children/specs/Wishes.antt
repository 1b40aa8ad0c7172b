-- The children that a successor wants of one parent.
use Rattle.std.specs.Prelude.{◌≡◌, ◌+◌, ◌*◌, ◌<◌, ◌≤◌, ℕ, ℤ, List, [], ◌∷◌, ◌++◌, length, map}
use Rattle.lsys_syntax.specs.Commands.{Numbering}
use Rattle.lsys_syntax.specs.Strings as S
use Rattle.lsys_spec.specs.Systems.{Each}
use Rattle.lsys_spec.specs.Draws.{number_base, child_key_of}
use Rattle.lsys_spec.specs.Levels as L
use Rattle.lsys_spec.specs.Levels.{plain}
use Rattle.lsys_spec.specs.Cuts.{cut}
use Rattle.lsys_spec.specs.Meaning.{children}
use Rattle.lsys_level.specs.Spots.{Seen, with_lineage}
use Rattle.lsys_level.specs.Places.{seen_in}
use Rattle.lsys_reading.specs.declared.parts.Lineage.{Lineage as CodeNumbering}
use Rattle.lsys_reading.specs.Commands.{numbering_of}
use Rattle.lsys_children.specs.declared.child.Child.{Child}
use Rattle.lsys_children.specs.Matches.{AreDifferent}
use Rattle.lsys_children.specs.Children.{numbers_of, AreWhole}

-- a child's number under its parent, as a lineage has it
abbrev pub child_number : Child → ℕ
child_number w = number_base * w.number.code + w.number.count

-- a child of a parent with this lineage, as a symbol of the next level
abbrev pub child_symbol : List ℕ → Child → L.LevelSymbol
child_symbol l w = with_lineage (l ++ child_number w ∷ []) (seen_in w.symbol)

-- The children are those that a successor wants of a parent with this key: what the cuts among the successor's symbols leave,
-- each with the number that it has among them all, and with the key that this number has below the parent's.
pub record AreWanted (g : Numbering) (key : ℕ) (zs : List (S.Symbol ℤ))
    (ws : List Child) : Type 0 where
  pub symbols : (l : List ℕ) → map (child_symbol l) ws ≡ cut (children g l zs)
  pub keys : Each (λ w. w.key ≡ child_key_of key (child_number w)) ws
  pub whole : AreWhole ws
  pub apart : AreDifferent (numbers_of ws)
  pub small : Each (λ w. w.number.count < number_base) ws
  pub few : length ws ≤ length zs

-- these are wanted by a numbering of the code
abbrev pub AreWantedBy : CodeNumbering → ℕ → List (S.Symbol ℤ) → List Child → Type 0
AreWantedBy g key zs ws = AreWanted (numbering_of g) key zs ws

-- what is seen, as a symbol of a successor
abbrev pub itself : Seen → S.Symbol ℤ
itself x = plain (with_lineage [] x)

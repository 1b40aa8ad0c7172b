-- The items of a right context, from a place on.
use Rattle.std.specs.Prelude.{◌≡◌, ◌+◌, ℕ, List, drop, Option, Some, None}
use Rattle.lsys_spec.specs.Bodies.{Patterns, BranchOf, innermost}
use Rattle.lsys_bodies.specs.declared.body.Pattern as body
use Rattle.lsys_bodies.specs.declared.body.Item.{Item}
use Rattle.lsys_bodies.specs.declared.body.Item.TheVariants.{Push, Pop, Pattern}
use Rattle.lsys_bodies.specs.Views.{nest}

-- the patterns from a place on, up to the bracket that ends their branch
abbrev pub patterns_from : List Item → ℕ → Patterns
patterns_from items i = innermost (nest (drop i items))

-- the branch that begins at a place ends before this one
abbrev pub EndsBranch : List Item → ℕ → ℕ → Type 0
EndsBranch items at end =
    let from = patterns_from items in from at ≡ BranchOf (from (at + 1)) (from end)

-- the pattern of a module, where the item is one
abbrev pub pattern_due : Item → Option body.Pattern
pattern_due Push = None
pattern_due Pop = None
pattern_due (Pattern q) = Some q

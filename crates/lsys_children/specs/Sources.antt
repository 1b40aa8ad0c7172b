-- Where the symbols stand that are wanted of a parent.
use Rattle.std.specs.Prelude.{◌≡◌, ℕ, List, [], ◌∷◌, Some}
use Rattle.lsys_module.specs.declared.symbol.Symbol.{Symbol}
use Rattle.lsys_module.specs.Views.{string_of}
use Rattle.lsys_bodies.specs.declared.body.Body.{Body}
use Rattle.lsys_bodies.specs.Constants.{constant_of}
use Rattle.lsys_match.specs.Kept.{Kept}
use Rattle.lsys_forest.specs.Groves.{Grove, now_of}
use Rattle.lsys_forest.specs.Rows.{spot_in}
use Rattle.lsys_children.specs.Wishes.{itself}
use Rattle.lsys_children.specs.declared.parent.Parent.{Parent}
use Rattle.lsys_children.specs.declared.source.SymbolSource.{SymbolSource}
use Rattle.lsys_children.specs.declared.source.SymbolSource.TheVariants as code
use Rattle.lsys_children.specs.Parents.{wants}

-- they are those of this body's successor, which has no parameters
abbrev pub IsBodyFor : Grove Kept → Parent → Body → Type 0
IsBodyFor f p b =
    (symbols : List Symbol) × (constant_of b.successor.items ≡ Some symbols)
    × (wants (now_of f) p ≡ string_of symbols)

-- the parent itself is wanted
abbrev pub IsWantedAlone : Grove Kept → Parent → Type 0
IsWantedAlone f p =
    wants (now_of f) p ≡ itself (spot_in p.node (now_of f p.node)).seen ∷ []

-- it is; or they stand in this body
abbrev pub TellsSource : Grove Kept → Parent → SymbolSource → Type 0
TellsSource f p code.Itself = IsWantedAlone f p
TellsSource f p (code.Body b) = IsBodyFor f p b
TellsSource f p code.Other = Unit {0}

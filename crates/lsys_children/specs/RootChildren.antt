-- The children of the root are made those that the symbols of an axiom want.
use Rattle.std.specs.Prelude.{◌≡◌, List, [], ◌∷◌, ◌++◌, ℕ, map}
use Rattle.lsys_module.specs.declared.symbol.Symbol.{Symbol}
use Rattle.lsys_module.specs.Views.{string_of}
use Rattle.lsys_reading.specs.declared.parts.Lineage.{Lineage as Numbering}
use Rattle.lsys_reading.specs.Commands.{numbering_of}
use Rattle.lsys_forest.specs.Groves.{Grove, now_of}
use Rattle.lsys_forest.specs.Rows.{kids_in}
use Rattle.lsys_children.specs.declared.need.Need.{Need}
use Rattle.lsys_children.specs.Matches.{nodes_without}
use Rattle.lsys_children.specs.Children.{ToldNodes, SpendsNeed}
use Rattle.lsys_children.specs.Renewals.{AreRenewals}
use Rattle.lsys_children.specs.declared.count.ChildCount.{ChildCount}
use Rattle.lsys_children.specs.Needs.{need_for, number_told, wanted_symbols, count_below}
use Rattle.lsys_children.specs.Made.{TellsAllOf}

module _ {A : Type 0} where
  -- what the step for the root takes
  abbrev pub need_of_root : Numbering → Grove A → List Symbol → Need
  need_of_root g f symbols =
      need_for (numbering_of g) (now_of f) (kids_in (now_of f f.root)) (string_of symbols)

  -- the count is what it takes, how many children are wanted of it, and how many it has
  abbrev pub CountsRoot : Numbering → Grove A → List Symbol → ChildCount → Type 0
  CountsRoot g f symbols count =
      count ≡ count_below (numbering_of g) (now_of f) f.root (string_of symbols)

  -- it took so much of the room
  abbrev pub SpendsForRoot : Numbering → Grove A → Grove A → List Symbol → Type 0
  SpendsForRoot g old new symbols = SpendsNeed old new (need_of_root g old symbols)

  -- the root has the children that the symbols want, with keys by the seed
  abbrev pub IsRootRenewed : Numbering → ℕ → Grove A → Grove A → List Symbol → Type 0
  IsRootRenewed g seed old new symbols =
      AreRenewals (numbering_of g) seed (now_of old) (now_of new) old.root 0
      (λ k. string_of symbols) (old.root ∷ [])

  -- it was told what differs
  abbrev pub TellsOfRoot : Grove A → Grove A → ToldNodes → ToldNodes → Type 0
  TellsOfRoot old new before after =
      TellsAllOf (now_of old) (now_of new) (old.root ∷ []) before after

  -- and which children are gone
  abbrev pub GoneFromRoot : Numbering → Grove A → List Symbol → ToldNodes → ToldNodes → Type 0
  GoneFromRoot g f symbols before after =
      after.gone
      ≡ before.gone ++ nodes_without (now_of f)
      (map number_told (wanted_symbols (numbering_of g) (string_of symbols)))
      (kids_in (now_of f f.root))

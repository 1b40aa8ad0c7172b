-- The children of a node that has none are made those that a successor wants, numbered by their places.
use Rattle.std.specs.Prelude.{◌≡◌, ℕ, ℤ, List, Some}
use Rattle.lsys_syntax.specs.Commands.{by_place}
use Rattle.lsys_syntax.specs.Strings as S
use Rattle.lsys_forest.specs.Nodes.{Node}
use Rattle.lsys_forest.specs.Groves.{Grove, now_of}
use Rattle.lsys_forest.specs.Rows.{kids_in}
use Rattle.lsys_children.specs.declared.child.Child.{Child}
use Rattle.lsys_children.specs.Children.{need_at, AreRenewed, HasRoomFor, SpendsNeed, TellsOf, ToldNodes}
use Rattle.lsys_children.specs.Wishes.{AreWanted}

module _ {A : Type 0} where
  -- there is room for the children that the successor wants
  abbrev pub HasRoomForWanted : Grove A → ℕ → List (S.Symbol ℤ) → ToldNodes → Type 0
  HasRoomForWanted f parent zs t =
      (n : Node A) (ws : List Child) → now_of f parent ≡ Some n → AreWanted by_place n.key zs ws
      → HasRoomFor f t (need_at (now_of f) n.kids ws)

  -- The children of a node, which was this one, are those that the successor wants, and it was told what differs.
  pub record AreBornAsWanted (old new : Grove A) (parent : ℕ) (n : Node A) (zs : List (S.Symbol ℤ)) (before after : ToldNodes) : Type 0 where
    pub children : List Child
    pub wanted : AreWanted by_place n.key zs children
    pub renewed : AreRenewed (now_of old) (now_of new) parent n children (kids_in (now_of new parent))
    pub told : TellsOf (now_of old) (now_of new) parent n children (kids_in (now_of new parent)) before after
    pub spends : SpendsNeed old new (need_at (now_of old) n.kids children)

  -- whichever node the parent was
  abbrev pub BearsAll : Grove A → Grove A → ℕ → List (S.Symbol ℤ) → ToldNodes → ToldNodes → Type 0
  BearsAll old new parent zs before after =
      (n : Node A) → now_of old parent ≡ Some n → AreBornAsWanted old new parent n zs before after

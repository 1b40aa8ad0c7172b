-- What holds after the first so many children were placed.
use Rattle.std.proofs.Common.{ℕ, Bool, List, Option}
use Rattle.lsys_forest.specs.Groves.{Grove, now_of}
use Rattle.lsys_children.specs.declared.child.Child.{Child}
use Rattle.lsys_children.specs.Children.{ToldNodes}
use Rattle.lsys_children.specs.Steps.{HavePlaces, KindsTell, TellsNodes}

module _ {A : Type 0} where
  -- they have their places, and this was told of them
  pub record ArePlaced (old new : Grove A) (parent : ℕ) (ws : List Child) (os : List (Option ℕ)) (ks : List ℕ) (before after : ToldNodes) (kinds : Bool) : Type 0 where
    pub places : HavePlaces old new parent ws os ks
    pub told : TellsNodes (now_of old) (now_of new) ks before after
    pub kinds_tell : KindsTell (now_of old) (now_of new) ks kinds

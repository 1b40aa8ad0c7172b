-- The steps by which the children of one parent are renewed.
use Rattle.std.specs.Prelude.{◌≡◌, ◌≢◌, ◌⊎◌, ◌+◌, ◌≤◌, ℕ, Bool, true, false, List, [], ◌∷◌, ◌++◌, length, Option, Some, None, IsSome}
use Rattle.lsys_spec.specs.Rows.{In, AreApart}
use Rattle.lsys_module.specs.declared.symbol.Symbol.{Symbol}
use Rattle.lsys_module.specs.declared.symbol.Symbol.TheVariants.{Cut}
use Rattle.lsys_level.specs.Places.{params_in}
use Rattle.lsys_region.specs.Rooms.{list_room}
use Rattle.lsys_forest.specs.Nodes.{Node, Nodes, with_kids}
use Rattle.lsys_forest.specs.Groves.{AreKids, Grove, Sets, now_of, rest_of, IsLive, spare_kids, spare_params, Spends}
use Rattle.lsys_children.specs.declared.child.Child.{Child}
use Rattle.lsys_children.specs.declared.number.Number.{Number}
use Rattle.lsys_children.specs.Children.{found_each, unwanted_of, AreFoundOrBorn, AreWhole, ToldNodes, TellsAll, TellsIf, IsNewNode, HasTurned, KeepsSymbol, KeepsKind, births, notes_for, params_for}

-- a child with this number, this symbol and this key
abbrev pub new_kid : Number → Symbol → ℕ → Child
new_kid number symbol key = record { number = number; symbol = symbol; key = key }

-- one of these was found
abbrev pub WasFound : ℕ → List (Option ℕ) → Type 0
WasFound j [] = ⊥
WasFound j (o ∷ os) = (o ≡ Some j) ⊎ WasFound j os

-- none was found twice
abbrev pub FoundOnce : List (Option ℕ) → Type 0
FoundOnce [] = Unit {0}
FoundOnce (o ∷ os) = ((j : ℕ) → o ≡ Some j → WasFound j os → ⊥) × FoundOnce os

-- none was found of as many
abbrev pub none_found : List Child → List (Option ℕ)
none_found [] = []
none_found (w ∷ ws) = None ∷ none_found ws

-- an old node that may be renewed: it lives, and is neither the parent nor the root
pub record IsOldChild {A : Type 0} (f : Grove A) (parent k : ℕ) : Type 0 where
  pub lives : IsLive f k
  pub other : k ≢ parent
  pub below : k ≢ f.root

module _ {A : Type 0} where
  -- the flag tells whether these nodes are of the kinds that they were
  pub record KindsTell (old new : Nodes A) (ks : List ℕ) (flag : Bool) : Type 0 where
    pub keep : flag ≡ true → (k : ℕ) → In k ks → KeepsKind old new k
    pub turn : flag ≡ false → (k : ℕ) × In k ks × (KeepsKind old new k → ⊥)

  -- at most this node changed, and the last rest stays
  pub record ChangesAt (old new : Grove A) (k : ℕ) : Type 0 where
    pub others : (j : ℕ) → j ≢ k → now_of new j ≡ now_of old j
    pub rest : rest_of new ≡ rest_of old
    pub root : new.root ≡ old.root

  -- at most these nodes changed
  pub record ChangesAmong (old new : Grove A) (ks : List ℕ) : Type 0 where
    pub others : (j : ℕ) → (In j ks → ⊥) → now_of new j ≡ now_of old j
    pub rest : rest_of new ≡ rest_of old
    pub root : new.root ≡ old.root

  -- what is told of these nodes: which have another symbol, and which are new
  pub record TellsNodes (old new : Nodes A) (ks : List ℕ) (before after : ToldNodes) : Type 0 where
    pub touched : after.touched ≡ before.touched
    pub changed : TellsAll (HasTurned old new) (KeepsSymbol old new) ks before.changed after.changed
    pub added : TellsAll (IsNewNode old) (λ k. IsSome (old k)) ks before.added after.added
    pub gone : after.gone ≡ before.gone
    pub room : before.room ≤ after.room + length ks

  -- these are matched with the children of the parent
  pub record IsMatched (m : Nodes A) (kids : List ℕ) (ws : List Child) (os : List (Option ℕ)) (gone : List ℕ) : Type 0 where
    pub found : os ≡ found_each m kids ws
    pub left : gone ≡ unwanted_of m kids ws

  -- there is room for one child
  pub record CanPlace (f : Grove A) (parent : ℕ) (w : Child) (o : Option ℕ) (t : ToldNodes) : Type 0 where
    pub parent_lives : IsLive f parent
    pub whole : w.symbol ≢ Cut
    pub nodes : births (o ∷ []) ≤ f.spare_nodes
    pub params : list_room (params_in w.symbol) ≤ spare_params f
    pub notes : notes_for (o ∷ []) ≤ f.spare_notes
    pub told : 1 ≤ t.room
    pub found : (k : ℕ) → o ≡ Some k → IsOldChild f parent k

  -- there is room for all of them; of the old ones none was found twice
  pub record CanPlaceAll (f : Grove A) (parent : ℕ) (ws : List Child) (os : List (Option ℕ)) (t : ToldNodes) : Type 0 where
    pub parent_lives : IsLive f parent
    pub whole : AreWhole ws
    pub long : length os ≡ length ws
    pub nodes : births os ≤ f.spare_nodes
    pub params : params_for ws ≤ spare_params f
    pub notes : notes_for os ≤ f.spare_notes
    pub told : length ws ≤ t.room
    pub once : FoundOnce os
    pub found : (k : ℕ) → WasFound k os → IsOldChild f parent k

  -- there is room for new nodes of all of them
  abbrev pub CanBear : Grove A → ℕ → List Child → ToldNodes → Type 0
  CanBear f parent ws t = CanPlaceAll f parent ws (none_found ws) t

  -- one child was placed
  pub record IsPlaced (old new : Grove A) (parent : ℕ) (w : Child) (o : Option ℕ) (k : ℕ) : Type 0 where
    pub made : (p : Node A) → now_of old parent ≡ Some p → AreFoundOrBorn (now_of old) (now_of new) parent (p.depth + 1) (w ∷ []) (o ∷ []) (k ∷ [])
    pub changes : ChangesAt old new k
    pub spends : Spends old new (births (o ∷ [])) (list_room (params_in w.symbol)) 0 (notes_for (o ∷ []))

  -- the first so many children were placed
  pub record HavePlaces (old new : Grove A) (parent : ℕ) (ws : List Child)
      (os : List (Option ℕ)) (ks : List ℕ) : Type 0 where
    pub made : (p : Node A) → now_of old parent ≡ Some p → AreFoundOrBorn (now_of old) (now_of new) parent (p.depth + 1) ws os ks
    pub apart : AreApart ks
    pub other : In parent ks → ⊥
    pub long : length ks ≡ length ws
    pub changes : ChangesAmong old new ks
    pub spends : Spends old new (births os) (params_for ws) 0 (notes_for os)

  -- New children of a node came to live, one after the other, and were told: these are their nodes.
  pub record AreBorn (old new : Grove A) (parent : ℕ) (ws : List Child) (before after : ToldNodes) : Type 0 where
    pub nodes : List ℕ
    pub places : HavePlaces old new parent ws (none_found ws) nodes
    pub told : TellsNodes (now_of old) (now_of new) nodes before after
    pub kinds : KindsTell (now_of old) (now_of new) nodes true
    pub added : after.added ≡ before.added ++ nodes

  -- these nodes can be made the children of a node
  pub record CanAdopt (f : Grove A) (parent : ℕ) (ks : List ℕ) (t : ToldNodes) : Type 0 where
    pub parent_lives : IsLive f parent
    pub kids : AreKids (now_of f) f.root parent ks
    pub notes : 1 ≤ f.spare_notes
    pub room : list_room ks ≤ spare_kids f
    pub told : 1 ≤ t.room

  -- they were made its children, and it was told if it had others
  pub record Adopts (old new : Grove A) (parent : ℕ) (ks : List ℕ) (before after : ToldNodes) : Type 0 where
    pub set : (n : Node A) → now_of old parent ≡ Some n → Sets old new parent (with_kids ks n)
    pub spends : Spends old new 0 0 (list_room ks) 1
    pub touched : (n : Node A) → now_of old parent ≡ Some n
        → TellsIf (λ k. n.kids ≢ ks) (λ k. n.kids ≡ ks) parent before.touched after.touched
    pub changed : after.changed ≡ before.changed
    pub added : after.added ≡ before.added
    pub gone : after.gone ≡ before.gone
    pub room : before.room ≤ after.room + 1

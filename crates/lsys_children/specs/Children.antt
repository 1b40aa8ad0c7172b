-- The children of one parent, before they are renewed and after it.
use Rattle.std.specs.Prelude.{◌≡◌, ◌≢◌, ◌⊎◌, ◌+◌, ◌≤◌, ◌^◌, ℕ, List, [], ◌∷◌, ◌++◌, length, map, Option, Some, None, IsSome, option_map}
use Rattle.lsys_spec.specs.Rows.{In}
use Rattle.lsys_module.specs.declared.symbol.Symbol.TheVariants.{Cut}
use Rattle.lsys_level.specs.Spots.{Seen, Push, Pop, Module}
use Rattle.lsys_level.specs.Places.{seen_in, params_in}
use Rattle.lsys_region.specs.Rooms.{room_of, list_room}
use Rattle.lsys_laws.specs.Kinds.{BracketKind, Opens, Closes, Neither}
use Rattle.lsys_forest.specs.Nodes.{Node, Nodes, with_kids}
use Rattle.lsys_forest.specs.Groves.{Grove, spare_params, spare_kids, Spends}
use Rattle.lsys_forest.specs.Rows.{kids_in}
use Rattle.lsys_children.specs.declared.number.Number.{Number}
use Rattle.lsys_children.specs.declared.child.Child.{Child}
use Rattle.lsys_children.specs.declared.need.Need.{Need}
use Rattle.lsys_children.specs.Matches.{node_numbered, nodes_without, number_of}

-- 1. what is wanted

abbrev pub wanted_number : Child → Number
wanted_number w = w.number

-- the numbers of the wanted children, in order
abbrev pub numbers_of : List Child → List Number
numbers_of ws = map wanted_number ws

-- of each of these children, the one of these nodes that has its number
abbrev pub found_each : {A : Type 0} → Nodes A → List ℕ → List Child → List (Option ℕ)
found_each m kids ws = map (node_numbered m kids) (numbers_of ws)

-- those of these nodes whose number is that of none of these children
abbrev pub unwanted_of : {A : Type 0} → Nodes A → List ℕ → List Child → List ℕ
unwanted_of m kids ws = nodes_without m (numbers_of ws) kids

-- no child is a cut
abbrev pub AreWhole : List Child → Type 0
AreWhole [] = Unit {0}
AreWhole (w ∷ ws) = (w.symbol ≢ Cut) × AreWhole ws

-- how many nodes, and how many notes, the children take of which these are found
abbrev pub births : List (Option ℕ) → ℕ
births [] = 0
births (None ∷ os) = 1 + births os
births (Some k ∷ os) = births os

abbrev pub notes_for : List (Option ℕ) → ℕ
notes_for [] = 0
notes_for (None ∷ os) = 1 + notes_for os
notes_for (Some k ∷ os) = 2 + notes_for os

-- the room that their parameters take
abbrev pub params_for : List Child → ℕ
params_for [] = 0
params_for (w ∷ ws) = list_room (params_in w.symbol) + params_for ws

-- what the step for one parent takes at most, where so many children were there and these are found
abbrev pub need_of : List Child → ℕ → List (Option ℕ) → Need
need_of ws old os = record {
  nodes = births os;
  params = params_for ws;
  kids = room_of (length ws);
  notes = notes_for os + 1;
  told = length ws + old + 1;
}

-- what the step for one parent with at most 4,096 children takes at most, beside what is told
pub record IsFew (need : Need) : Type 0 where
  pub nodes : need.nodes ≤ 2 ^ 12
  pub params : need.params ≤ 2 ^ 16
  pub kids : need.kids ≤ 2 ^ 16
  pub notes : need.notes ≤ 2 ^ 14

-- 2. symbols of nodes

-- whether it begins a branch, ends one, or is a module
abbrev pub bracket_kind : Seen → BracketKind
bracket_kind Push = Opens
bracket_kind Pop = Closes
bracket_kind (Module v) = Neither

module _ {A : Type 0} where
  abbrev pub seen_in_node : Node A → Seen
  seen_in_node n = n.seen

  abbrev pub kind_in_node : Node A → BracketKind
  kind_in_node n = bracket_kind n.seen

  -- what is seen of a node that lives, and its kind
  abbrev pub seen_if_any : Nodes A → ℕ → Option Seen
  seen_if_any m k = option_map seen_in_node (m k)

  abbrev pub kind_at : Nodes A → ℕ → Option BracketKind
  kind_at m k = option_map kind_in_node (m k)

  -- the node is new
  abbrev pub IsNewNode : Nodes A → ℕ → Type 0
  IsNewNode old k = old k ≡ None

  -- the node lived, and has another symbol
  pub record HasTurned (old new : Nodes A) (k : ℕ) : Type 0 where
    pub node : Node A
    pub was : old k ≡ Some node
    pub other : seen_if_any new k ≢ Some node.seen

  -- if the node lived, it has the symbol that it had; and it is of the kind that it was
  abbrev pub KeepsSymbol : Nodes A → Nodes A → ℕ → Type 0
  KeepsSymbol old new k = (n : Node A) → old k ≡ Some n → seen_if_any new k ≡ Some n.seen

  abbrev pub KeepsKind : Nodes A → Nodes A → ℕ → Type 0
  KeepsKind old new k = (n : Node A) → old k ≡ Some n → kind_at new k ≡ Some (bracket_kind n.seen)

  -- a node has the children that it had, and they are of the kinds that they were
  pub record KeepsChildren (old new : Nodes A) (p : ℕ) : Type 0 where
    pub list : kids_in (new p) ≡ kids_in (old p)
    pub kinds : (k : ℕ) → In k (kids_in (old p)) → KeepsKind old new k

  -- 3. how a child is made

  -- a new node for a child
  abbrev pub born : ℕ → ℕ → Child → Node A
  born parent depth w = record {
    parent = parent;
    code = w.number.code;
    count = w.number.count;
    depth = depth;
    seen = seen_in w.symbol;
    key = w.key;
    kids = [];
    answer = None;
  }

  -- an old node as the child wants it: it keeps its children and its answer
  abbrev pub renewed : Child → Node A → Node A
  renewed w n = record n { seen = seen_in w.symbol; key = w.key }

  pub record IsBorn (old new : Nodes A) (parent depth : ℕ) (w : Child) (k : ℕ) : Type 0 where
    pub vacant : old k ≡ None
    pub is : new k ≡ Some (born parent depth w)

  pub record IsFoundChild (old new : Nodes A) (w : Child) (found k : ℕ) : Type 0 where
    pub same : k ≡ found
    pub node : Node A
    pub was : old k ≡ Some node
    pub is : new k ≡ Some (renewed w node)

  -- the node is the one that was found, with this symbol and this key, or a new one
  abbrev pub IsFoundOrBorn : Nodes A → Nodes A → ℕ → ℕ → Child → Option ℕ → ℕ → Type 0
  IsFoundOrBorn old new parent depth w None k = IsBorn old new parent depth w k
  IsFoundOrBorn old new parent depth w (Some found) k = IsFoundChild old new w found k

  -- so each of them, in order
  abbrev pub AreFoundOrBorn : Nodes A → Nodes A → ℕ → ℕ → List Child → List (Option ℕ) → List ℕ → Type 0
  AreFoundOrBorn old new parent depth [] [] [] = Unit {0}
  AreFoundOrBorn old new parent depth (w ∷ ws) (o ∷ os) (k ∷ ks) = IsFoundOrBorn old new parent depth w o k × AreFoundOrBorn old new parent depth ws os ks
  AreFoundOrBorn old new parent depth ws os ks = ⊥

  -- The nodes ks are the children that were wanted of a parent, which was p: each is the old child of that number, or a new
  -- node where there was none. All other nodes stay.
  pub record AreRenewed (old new : Nodes A) (parent : ℕ) (p : Node A) (ws : List Child) (ks : List ℕ) : Type 0 where
    pub list : new parent ≡ Some (with_kids ks p)
    pub made : AreFoundOrBorn old new parent (p.depth + 1) ws (found_each old p.kids ws) ks
    pub named : map (number_of new) ks ≡ numbers_of ws
    pub others : (j : ℕ) → j ≢ parent → (In j ks → ⊥) → new j ≡ old j

-- 4. what is told

-- The nodes that are told: those with other children, or with children of other kinds; those with another symbol; the new
-- ones; those that are children no more. In each list so many more find room.
pub record ToldNodes : Type 0 where
  pub touched : List ℕ
  pub changed : List ℕ
  pub added : List ℕ
  pub gone : List ℕ
  pub room : ℕ

module _ (P Q : ℕ → Type 0) where
  -- the node was told if it is so, and it was not if it is otherwise
  abbrev pub TellsIf : ℕ → List ℕ → List ℕ → Type 0
  TellsIf k before after = (P k × (after ≡ before ++ k ∷ [])) ⊎ (Q k × (after ≡ before))

  -- of these nodes, in order, those that are so were told, and those that are otherwise were not
  abbrev pub TellsAll : List ℕ → List ℕ → List ℕ → Type 0
  TellsAll [] before after = after ≡ before
  TellsAll (k ∷ ks) before after = (between : List ℕ) × TellsIf k before between × TellsAll ks between after

module _ {A : Type 0} where
  -- what is told of the children of a parent, which was p
  pub record TellsOf (old new : Nodes A) (parent : ℕ) (p : Node A) (ws : List Child) (ks : List ℕ) (before after : ToldNodes) : Type 0 where
    pub touched : TellsIf (λ k. KeepsChildren old new k → ⊥) (KeepsChildren old new) parent before.touched after.touched
    pub changed : TellsAll (HasTurned old new) (KeepsSymbol old new) ks before.changed after.changed
    pub added : TellsAll (IsNewNode old) (λ k. IsSome (old k)) ks before.added after.added
    pub gone : after.gone ≡ before.gone ++ unwanted_of old p.kids ws
    pub room : before.room ≤ after.room + (length ws + length p.kids + 1)

  -- what the step for a parent takes, which had these children
  abbrev pub need_at : Nodes A → List ℕ → List Child → Need
  need_at m kids ws = need_of ws (length kids) (found_each m kids ws)

  -- no more than this was taken
  abbrev pub SpendsNeed : Grove A → Grove A → Need → Type 0
  SpendsNeed old new need = Spends old new need.nodes need.params need.kids need.notes

  -- there is room for this in a forest, and in the lists that are told
  pub record HasRoomFor (f : Grove A) (t : ToldNodes) (need : Need) : Type 0 where
    pub nodes : need.nodes ≤ f.spare_nodes
    pub params : need.params ≤ spare_params f
    pub kids : need.kids ≤ spare_kids f
    pub notes : need.notes ≤ f.spare_notes
    pub told : need.told ≤ t.room

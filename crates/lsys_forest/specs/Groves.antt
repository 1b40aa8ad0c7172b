-- What a contract sees of a forest.
use Rattle.std.specs.Prelude.{◌≡◌, ◌≢◌, ◌⊎◌, ◌+◌, ◌<◌, ◌≤◌, ◌^◌, ℕ, zero, suc, List, [], ◌∷◌, ◌++◌, length, Option, Some, IsSome}
use Rattle.lsys_spec.specs.Rows.{In, AreApart}
use Rattle.lsys_level.specs.Spots.{Seen, Push, Pop, Module}
use Rattle.lsys_forest.specs.Slots.{live_slots}
use Rattle.lsys_forest.specs.Nodes.{Node, Nodes, with_node, new_node}
use Rattle.lsys_forest.specs.Changes.{Change, OldAnswer, undone}
use Rattle.lsys_forest.specs.Answers.{AnswerKeeper, answers, kept_by, FreesAllBut}
use Rattle.lsys_forest.specs.Stocks.{Stock, nodes_of, changes_of, looked}

-- A forest: its nodes, and what they were before each change since the last rest; its root; and how many nodes and changes
-- more need no memory.
pub record Grove (A : Type 0) : Type 0 where
  pub stock : Stock A
  pub root : ℕ
  pub spare_nodes : ℕ
  pub spare_notes : ℕ

-- a module has at most eight parameters
abbrev pub HasFew : Seen → Type 0
HasFew Push = Unit {0}
HasFew Pop = Unit {0}
HasFew (Module v) = length v.params ≤ 8

module _ {A : Type 0} where
  -- the nodes as they are, and as they were at the last rest
  abbrev pub now_of : Grove A → Nodes A
  now_of f = nodes_of f.stock

  abbrev pub changes_in : Grove A → List (Change A)
  changes_in f = changes_of f.stock

  abbrev pub rest_of : Grove A → Nodes A
  rest_of f = undone (changes_in f) (now_of f)

  -- no node has changed since the last rest
  abbrev pub IsAtRest : Grove A → Type 0
  IsAtRest f = changes_in f ≡ []

  abbrev pub IsLive : Grove A → ℕ → Type 0
  IsLive f k = IsSome (now_of f k)

  -- how many nodes live
  abbrev pub live_nodes : Grove A → ℕ
  live_nodes f = live_slots f.stock.slots

  -- for how many nodes there is room; each number is below it
  abbrev pub numbers_in : Grove A → ℕ
  numbers_in f = f.stock.capacity

  -- how much room there is for the parameters of symbols, and for lists of children, with no memory taken
  abbrev pub spare_params : Grove A → ℕ
  spare_params f = f.stock.param_room

  abbrev pub spare_kids : Grove A → ℕ
  spare_kids f = f.stock.kid_room

  -- the answers that nodes keep, or kept at any time since the last rest
  abbrev pub kept_in : Grove A → AnswerKeeper → Option A
  kept_in f = answers (now_of f) (changes_in f)

  -- a live node with this parent, which is not the root
  pub record IsUnder (m : Nodes A) (root parent kid : ℕ) : Type 0 where
    pub node : Node A
    pub is : m kid ≡ Some node
    pub parent_is : node.parent ≡ parent
    pub other : kid ≢ root

  -- nodes of this parent, none twice, in whatever order
  pub record AreKids (m : Nodes A) (root parent : ℕ) (kids : List ℕ) : Type 0 where
    pub under : (x : ℕ) → In x kids → IsUnder m root parent x
    pub apart : AreApart kids

  -- by so many steps down from the root
  abbrev pub ReachedIn : Nodes A → ℕ → ℕ → ℕ → Type 0
  ReachedIn m root zero k = k ≡ root
  ReachedIn m root (suc d) k = (p : ℕ) × (n : Node A) × ReachedIn m root d p × (m p ≡ Some n) × In k n.kids

  -- the root, or a node that is reached from it by children
  abbrev pub Reached : Nodes A → ℕ → ℕ → Type 0
  Reached m root k = (d : ℕ) × ReachedIn m root d k

  -- only a node that a commit looks at may be unreached
  abbrev pub Named : List (Change A) → ℕ → Type 0
  Named [] x = ⊥
  Named (c ∷ changes) x = In x (looked c) ⊎ Named changes x

  -- the parent lives, one level above; and the node is among its children, or a commit looks at it
  pub record HangsOnParent (m : Nodes A) (changes : List (Change A)) (x : ℕ) (node : Node A) : Type 0 where
    pub parent : Node A
    pub is : m node.parent ≡ Some parent
    pub depth : node.depth ≡ parent.depth + 1
    pub linked : In x parent.kids ⊎ Named changes x

  pub record IsRooted (root : ℕ) (changes : List (Change A)) (m : Nodes A) : Type 0 where
    pub root_lives : (r : Node A) × (m root ≡ Some r) × (r.depth ≡ 0)
    pub held : (x : ℕ) (n : Node A) → m x ≡ Some n → x ≢ root → HangsOnParent m changes x n
    pub own : (p : ℕ) (n : Node A) → m p ≡ Some n → AreKids m root p n.kids
    pub few : (k : ℕ) (n : Node A) → m k ≡ Some n → HasFew n.seen

  -- the nodes hang together, as they are and as they were before each of the changes
  abbrev pub AreSound : ℕ → List (Change A) → Nodes A → Type 0
  AreSound root changes m = (earlier later : List (Change A)) → changes ≡ earlier ++ later → IsRooted root earlier (undone later m)

  -- the nodes hang together, as they are and as they were, and there is room, with numbers for the nodes
  pub record IsGrove (stock : Stock A) (root spare_nodes spare_notes : ℕ) : Type 0 where
    pub sound : AreSound root (changes_of stock) (nodes_of stock)
    pub nodes_left : live_slots stock.slots + spare_nodes ≤ stock.capacity
    pub numbers : live_slots stock.slots + spare_nodes < 2 ^ 32
    pub fit : 0 < spare_nodes → stock.capacity ≤ 2 ^ 32
    pub notes_left : live_slots stock.slots + spare_nodes + spare_notes ≤ stock.note_room

  -- one node became this one, and nothing else changed; the last rest stays
  pub record Sets (old new : Grove A) (k : ℕ) (node : Node A) : Type 0 where
    pub now : now_of new ≡ with_node (now_of old) k (Some node)
    pub rest : rest_of new ≡ rest_of old
    pub root : new.root ≡ old.root

  -- the node that lives at a number became what this makes of it, and nothing else changed
  abbrev pub Alters : Grove A → Grove A → ℕ → (Node A → Node A) → Type 0
  Alters old new k become = (n : Node A) → now_of old k ≡ Some n → Sets old new k (become n)

  -- a node came under this parent, with these names and this symbol, and nothing else changed
  abbrev pub AddsNode : Grove A → Grove A → ℕ → ℕ → ℕ → ℕ → Seen → ℕ → Type 0
  AddsNode old new k parent code count seen key =
      (p : Node A) → now_of old parent ≡ Some p
      → Sets old new k (new_node parent code count (p.depth + 1) seen key)

  -- one change more tells the answer that the node at a number kept
  abbrev pub NotesAnswer : Grove A → Grove A → ℕ → Type 0
  NotesAnswer old new k =
      (n : Node A) → now_of old k ≡ Some n
      → changes_in new ≡ changes_in old ++ record { node = k; before = OldAnswer n.answer } ∷ []

  -- each node that is reached from the root stays
  abbrev pub KeepsReached : Grove A → Grove A → Type 0
  KeepsReached old new = (k : ℕ) → Reached (now_of old) old.root k → now_of new k ≡ now_of old k

  -- of the runs that the answers of a forest hold, exactly those that these nodes hold stay live
  abbrev pub FreesAllBesides : {Store Name Run : Type 0} → (Store → Name → Option Run)
      → (A → Name → Type 0) → Grove A → Nodes A → Store → Store → Type 0
  FreesAllBesides run_at holds f m old new =
      FreesAllBut run_at holds (kept_in f) (kept_by m) old new

  -- the spares fell by at most so much, no more than so many nodes came to live, and numbers are below what they were below
  pub record Spends (old new : Grove A) (nodes params kids notes : ℕ) : Type 0 where
    pub live : live_nodes new ≤ live_nodes old + nodes
    pub numbers : numbers_in new ≤ numbers_in old
    pub nodes_left : old.spare_nodes ≤ new.spare_nodes + nodes
    pub params_left : spare_params old ≤ spare_params new + params
    pub kids_left : spare_kids old ≤ spare_kids new + kids
    pub notes_left : old.spare_notes ≤ new.spare_notes + notes

  -- no more nodes live, and no spare is less, nor is there room for fewer nodes
  pub record KeepsSpares (old new : Grove A) : Type 0 where
    pub live : live_nodes new ≡ live_nodes old
    pub numbers : numbers_in old ≤ numbers_in new
    pub nodes_left : old.spare_nodes ≤ new.spare_nodes
    pub params_left : spare_params old ≤ spare_params new
    pub kids_left : spare_kids old ≤ spare_kids new
    pub notes_left : old.spare_notes ≤ new.spare_notes

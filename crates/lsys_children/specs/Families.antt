-- What the step for one parent does, by its grove.
use Rattle.std.specs.Prelude.{◌≡◌, ◌≢◌, ◌↔◌, ◌&&◌, ℕ, Bool, List, [], ◌∷◌, IsTrue, false, Some, Option, OnOk, Result}
use Rattle.lsys_module.specs.declared.symbol.Symbol.{Symbol}
use Rattle.lsys_level.specs.Places.{seen_in}
use Rattle.lsys_forest.specs.Nodes.{Node}
use Rattle.lsys_forest.specs.Groves.{Grove, Sets, now_of}
use Rattle.lsys_forest.specs.Rows.{kids_in}
use Rattle.lsys_children.specs.declared.child.Child.{Child}
use Rattle.lsys_children.specs.declared.need.Need.{Need}
use Rattle.lsys_children.specs.Matches.{Matched, match_of}
use Rattle.lsys_children.specs.Children.{AreRenewed, HasRoomFor, SpendsNeed, TellsOf, ToldNodes, bracket_kind, need_at, numbers_of}
use Rattle.lsys_children.specs.Steps.{IsMatched, KindsTell, TellsNodes}

module _ {A : Type 0} where
  -- 1. the parent

  -- the children that are wanted of a parent are matched with the old ones
  abbrev pub MatchesKids : Grove A → ℕ → List Child → Matched → Type 0
  MatchesKids f parent ws m =
      (n : Node A) → now_of f parent ≡ Some n → m ≡ match_of (now_of f) n.kids (numbers_of ws)

  -- these are matched: those that are found, and those that are left
  abbrev pub AreMatchedKids : Grove A → ℕ → List Child → List (Option ℕ) → List ℕ → Type 0
  AreMatchedKids f parent ws found gone =
      (n : Node A) → now_of f parent ≡ Some n → IsMatched (now_of f) n.kids ws found gone

  -- a node has no children
  abbrev pub HasNoKids : Grove A → ℕ → Type 0
  HasNoKids f k = (n : Node A) → now_of f k ≡ Some n → n.kids ≡ []

  -- the step for a parent takes so much
  abbrev pub IsNeedFor : Grove A → ℕ → List Child → Need → Type 0
  IsNeedFor f parent ws need =
      (n : Node A) → now_of f parent ≡ Some n → need ≡ need_at (now_of f) n.kids ws

  -- there is room for the step
  abbrev pub HasRoomToRenew : Grove A → ℕ → List Child → ToldNodes → Type 0
  HasRoomToRenew f parent ws t =
      (n : Node A) → now_of f parent ≡ Some n → HasRoomFor f t (need_at (now_of f) n.kids ws)

  -- the step takes no more than it was to take
  abbrev pub SpendsNeedOf : Grove A → Grove A → ℕ → List Child → Type 0
  SpendsNeedOf old new parent ws =
      (n : Node A) → now_of old parent ≡ Some n
      → SpendsNeed old new (need_at (now_of old) n.kids ws)

  -- the children of a parent are those that were wanted
  abbrev pub RenewsKids : Grove A → Grove A → ℕ → List Child → Type 0
  RenewsKids old new parent ws =
      (n : Node A) → now_of old parent ≡ Some n
      → AreRenewed (now_of old) (now_of new) parent n ws (kids_in (now_of new parent))

  -- what differs is told
  abbrev pub TellsKids : Grove A → Grove A → ℕ → List Child → ToldNodes → ToldNodes → Type 0
  TellsKids old new parent ws before after =
      (n : Node A) → now_of old parent ≡ Some n
      → TellsOf (now_of old) (now_of new) parent n ws (kids_in (now_of new parent)) before after

  -- it is told, but for lack of memory
  abbrev pub TellsIfDone : {T E : Type 0} → Grove A → Grove A → ℕ → List Child → ToldNodes → ToldNodes
      → Result T E → Type 0
  TellsIfDone old new parent ws before after r = OnOk r (TellsKids old new parent ws before after)

  -- the answer tells whether a parent had other children than these
  abbrev pub TellsOtherKids : Grove A → ℕ → List ℕ → Bool → Type 0
  TellsOtherKids f parent kids answer =
      (n : Node A) → now_of f parent ≡ Some n
      → (IsTrue answer → n.kids ≢ kids) × (answer ≡ false → n.kids ≡ kids)

  -- 2. a child

  -- the answer tells whether a node is of the kind of a symbol
  abbrev pub TellsKind : Grove A → ℕ → Symbol → Bool → Type 0
  TellsKind f k symbol answer =
      (n : Node A) → now_of f k ≡ Some n
      → IsTrue answer ↔ (bracket_kind (seen_in symbol) ≡ bracket_kind n.seen)

  -- a node becomes another one, by what it was
  abbrev pub SetsBy : Grove A → Grove A → ℕ → (Node A → Node A) → Type 0
  SetsBy old new k change = (n : Node A) → now_of old k ≡ Some n → Sets old new k (change n)

  -- what is told of nodes, in order, and of one
  abbrev pub TellsEach : Grove A → Grove A → List ℕ → ToldNodes → ToldNodes → Type 0
  TellsEach old new ks before after = TellsNodes (now_of old) (now_of new) ks before after

  abbrev pub TellsNode : Grove A → Grove A → ℕ → ToldNodes → ToldNodes → Type 0
  TellsNode old new k before after = TellsEach old new (k ∷ []) before after

  -- a flag falls where a node is not of the kind that it was
  abbrev pub FlagFallsByKind : Grove A → Grove A → ℕ → Bool → Bool → Type 0
  FlagFallsByKind old new k before after =
      (kind : Bool) × (after ≡ (before && kind))
      × KindsTell (now_of old) (now_of new) (k ∷ []) kind

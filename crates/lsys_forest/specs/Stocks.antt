-- How the nodes and the changes stand in their parts.
use Rattle.std.specs.Prelude.{◌≡◌, ◌≢◌, ℕ, ℤ, ◌+◌, ◌≤◌, List, [], ◌∷◌, ◌++◌, length, map, min, Option, Some, None, IsSome, slice_index_or, slice_set, option_map}
use Rattle.lsys_region.specs.Rooms.{list_room}
use Rattle.lsys_forest.specs.declared.node.Stored.{Stored}
use Rattle.lsys_forest.specs.declared.node.Footing.{Footing}
use Rattle.lsys_forest.specs.declared.note.Note.{Note}
use Rattle.lsys_forest.specs.declared.note.Was.{Was}
use Rattle.lsys_forest.specs.declared.note.Was.TheVariants as was
use Rattle.lsys_forest.specs.Shelves.{Shelf, Hoard, run_list, shelf_of, past_room, IsOwner}
use Rattle.lsys_forest.specs.Notes.{Notes}
use Rattle.lsys_forest.specs.declared.note.Remnant.{Remnant}
use Rattle.lsys_forest.specs.declared.note.Remnant.TheVariants as remnant
use Rattle.lsys_forest.specs.declared.note.Look.{Look}
use Rattle.lsys_forest.specs.declared.note.Look.TheVariants as look
use Rattle.lsys_forest.specs.Slots.{SlotTable, slot_at, no_footing, footing_at, live_slots, change_slot, kind_set, key_set, answer_set, answer_before}
use Rattle.lsys_forest.specs.Nodes.{Node, Nodes, with_node, seen_as}
use Rattle.lsys_forest.specs.Answers.{answer_of}
use Rattle.std.specs.Option.{option_and_then}
use Rattle.lsys_forest.specs.Changes.{Previous, Missing, OldSeen, OldKey, OldKids, OldAnswer, Change, undo}

-- Nodes without parameters and children, these beside them by number, and where they stand; notes without lists, these in turn; the
-- list in hand; and how much room there is for nodes, for notes more, and for lists.
pub record Stock (A : Type 0) : Type 0 where
  pub slots : List (Option (Stored A))
  pub params : List (List ℤ)
  pub kids : List (List ℕ)
  pub footings : List Footing
  pub notes : List (Note A)
  pub past_params : List (List ℤ)
  pub past_kids : List (List ℕ)
  pub hand : List ℕ
  pub capacity : ℕ
  pub note_room : ℕ
  pub param_room : ℕ
  pub kid_room : ℕ

abbrev pub row_at : {T : Type 0} → List (List T) → ℕ → List T
row_at rows k = slice_index_or rows k []

abbrev pub first_of : {T : Type 0} → List (List T) → List T
first_of [] = []
first_of (x ∷ xs) = x

abbrev pub after_first : {T : Type 0} → List (List T) → List (List T)
after_first [] = []
after_first (x ∷ xs) = xs

-- a list where something is
abbrev pub where_some : {X T : Type 0} → Option X → List T → List T
where_some None list = []
where_some (Some x) list = list

-- this list stands at a number, and all others are as they were
pub record ComesTo {T : Type 0} (k : ℕ) (list : List T) (old new : List (List T)) : Type 0 where
  pub here : row_at new k ≡ list
  pub others : (j : ℕ) → j ≢ k → row_at new j ≡ row_at old j

-- the list at this number was cleared
pub record Clears {T : Type 0} (k : ℕ) (old new : Shelf T) : Type 0 where
  pub comes : ComesTo k [] old.current new.current
  pub cleared : new ≡ record old { current = new.current }

-- the last of the past lists went back to this number, if this is there
abbrev pub Restores : {X T : Type 0} → Option X → ℕ → Shelf T → Shelf T → Type 0
Restores {T = T} there k old new = (before : List (List T)) (list : List T) → old.past ≡ before ++ list ∷ [] → ComesTo k (where_some there list) old.current new.current × (new ≡ record old { current = new.current; past = before })

-- this list came to a number where none was
pub record Inserts {T : Type 0} (k : ℕ) (list : List T) (old new : Shelf T) : Type 0 where
  pub comes : ComesTo k list old.current new.current
  pub rest : new ≡ record old { current = new.current; spare = new.spare }
  pub spare : old.spare ≤ new.spare + list_room list

-- the last of the past lists was dropped
abbrev pub DropsLast : {T : Type 0} → Shelf T → Shelf T → Type 0
DropsLast {T = T} old new = (before : List (List T)) (list : List T) → old.past ≡ before ++ list ∷ [] → new ≡ record old { past = before }

-- the last of the past lists came in hand
abbrev pub TakesLastUp : {T : Type 0} → Shelf T → Shelf T → Type 0
TakesLastUp {T = T} old new = (before : List (List T)) (list : List T) → old.past ≡ before ++ list ∷ [] → new ≡ record old { past = before; hand = list }

-- the list in hand was freed
abbrev pub PutsDown : {T : Type 0} → Shelf T → Shelf T → Type 0
PutsDown old new = (new ≡ record old { hand = []; spare = new.spare }) × (old.spare ≤ new.spare)

-- this list came to a number, and the one that stood there after the past ones
pub record Swaps {T : Type 0} (k : ℕ) (list : List T) (old new : Shelf T) : Type 0 where
  pub comes : ComesTo k list old.current new.current
  pub swapped : new ≡ record old { current = new.current; past = old.past ++ row_at old.current k ∷ []; spare = new.spare; past_places = new.past_places }
  pub spare : old.spare ≤ new.spare + list_room list
  pub places : old.past_places ≤ new.past_places

-- what is left of a note drops the last of the past lists of parameters, or takes the last of children in hand
abbrev pub DropsLeft : Remnant → Shelf ℤ → Shelf ℤ → Type 0
DropsLeft remnant.Params old new = DropsLast old new
DropsLeft r old new = new ≡ old

abbrev pub TakesLeft : Remnant → Shelf ℕ → Shelf ℕ → Type 0
TakesLeft remnant.Kids old new = TakesLastUp old new
TakesLeft r old new = new ≡ old

-- the nodes that it names, where these are in hand
abbrev pub nodes_left : Remnant → List ℕ → List ℕ
nodes_left (remnant.Node k) hand = k ∷ []
nodes_left remnant.Kids hand = hand
nodes_left r hand = []

abbrev pub named_by : Look → List ℕ → List ℕ
named_by (look.Node k) hand = k ∷ []
named_by look.Hand hand = hand
named_by look.Nothing hand = []

module _ {A : Type 0} where
  abbrev pub node_of : List ℤ → List ℕ → Stored A → Node A
  node_of params kids s = record { parent = s.parent; code = s.code; count = s.count; depth = s.depth; seen = seen_as s.kind params; key = s.key; kids = kids; answer = s.answer }

  -- the nodes
  abbrev pub nodes_of : Stock A → Nodes A
  nodes_of t = λ k. option_map (node_of (row_at t.params k) (row_at t.kids k)) (slot_at t.slots k)

  abbrev pub before_of : Was A → List ℤ → List ℕ → Previous A
  before_of was.Missing params kids = Missing
  before_of (was.Kind x) params kids = OldSeen (seen_as x params)
  before_of (was.Key x) params kids = OldKey x
  before_of was.Kids params kids = OldKids kids
  before_of (was.Answer x) params kids = OldAnswer x

  -- the lists that are left after a note
  abbrev pub params_left : Was A → List (List ℤ) → List (List ℤ)
  params_left (was.Kind x) params = after_first params
  params_left w params = params

  abbrev pub kids_left : Was A → List (List ℕ) → List (List ℕ)
  kids_left was.Kids kids = after_first kids
  kids_left w kids = kids

  -- the changes that the notes tell, which take the lists in turn
  abbrev pub changes_told : List (Note A) → List (List ℤ) → List (List ℕ) → List (Change A)
  changes_told [] params kids = []
  changes_told (n ∷ notes) params kids = record { node = n.node; before = before_of n.was (first_of params) (first_of kids) } ∷ changes_told notes (params_left n.was params) (kids_left n.was kids)

  -- the changes
  abbrev pub changes_of : Stock A → List (Change A)
  changes_of t = changes_told t.notes t.past_params t.past_kids

  abbrev pub param_lists : Was A → ℕ
  param_lists (was.Kind x) = 1
  param_lists w = 0

  abbrev pub kid_lists : Was A → ℕ
  kid_lists was.Kids = 1
  kid_lists w = 0

  -- how many lists the notes take
  abbrev pub param_count : List (Note A) → ℕ
  param_count [] = 0
  param_count (n ∷ notes) = param_lists n.was + param_count notes

  abbrev pub kid_count : List (Note A) → ℕ
  kid_count [] = 0
  kid_count (n ∷ notes) = kid_lists n.was + kid_count notes

  -- each note has its list
  pub record IsStock (notes : List (Note A)) (past_params : List (List ℤ)) (past_kids : List (List ℕ)) : Type 0 where
    pub past_params_long : length past_params ≡ param_count notes
    pub past_kids_long : length past_kids ≡ kid_count notes

  -- the parts
  abbrev pub stock_of : SlotTable A → Hoard ℤ → Hoard ℕ → Notes A → Stock A
  stock_of t p q j = record {
    slots = t.slots;
    params = map (run_list p.pool) t.param_runs;
    kids = map (run_list q.pool) t.kid_runs;
    footings = t.footings;
    notes = j.notes;
    past_params = map (run_list p.pool) p.past;
    past_kids = map (run_list q.pool) q.past;
    hand = run_list q.pool q.hand;
    capacity = t.capacity;
    note_room = min j.room (min (past_room (shelf_of p t.param_runs)) (past_room (shelf_of q t.kid_runs)));
    param_room = p.pool.spare;
    kid_room = q.pool.spare;
  }

  -- each list of a node and each past one stands in a run of its own, and each note has its list
  pub record AreStockParts (t : SlotTable A) (p : Hoard ℤ) (q : Hoard ℕ) (notes : List (Note A)) : Type 0 where
    pub params : IsOwner p t.param_runs
    pub kids : IsOwner q t.kid_runs
    pub stock : IsStock notes (map (run_list p.pool) p.past) (map (run_list q.pool) q.past)

  -- each of these nodes stands among others as it stood
  abbrev pub KeepsFootings : Nodes A → Stock A → Stock A → Type 0
  KeepsFootings m old new = (j : ℕ) → IsSome (m j) → footing_at new.footings j ≡ footing_at old.footings j

  -- The node at a number became this one, or is no more, and a note tells what it was before; so many nodes more live, and
  -- the rooms for lists fell by no more than this.
  pub record Journals (old new : Stock A) (k : ℕ) (v : Option (Node A)) (before : Previous A) (born params kids : ℕ) : Type 0 where
    pub nodes : nodes_of new ≡ with_node (nodes_of old) k v
    pub noted : changes_of new ≡ changes_of old ++ record { node = k; before = before } ∷ []
    pub notes : length new.notes ≡ length old.notes + 1
    pub live : live_slots new.slots ≡ live_slots old.slots + born
    pub capacity : new.capacity ≡ old.capacity
    pub note_room : old.note_room ≤ new.note_room + 1
    pub param_room : old.param_room ≤ new.param_room + params
    pub kid_room : old.kid_room ≤ new.kid_room + kids
    pub hand : new.hand ≡ old.hand
    pub footings : KeepsFootings (nodes_of old) old new

  -- there is room as before, and for one note more for each node that is gone no more than that less
  pub record KeepsRoom (old new : Stock A) : Type 0 where
    pub capacity : new.capacity ≡ old.capacity
    pub note_room : old.note_room + live_slots new.slots ≤ new.note_room + live_slots old.slots
    pub param_room : old.param_room ≤ new.param_room
    pub kid_room : old.kid_room ≤ new.kid_room

  -- the answer that is kept no more when the change is undone
  abbrev pub dropped_before : Previous A → Option (Node A) → Option A
  dropped_before Missing n = option_and_then answer_of n
  dropped_before (OldSeen x) n = None
  dropped_before (OldKey x) n = None
  dropped_before (OldKids x) n = None
  dropped_before (OldAnswer x) None = x
  dropped_before (OldAnswer x) (Some n) = n.answer

  abbrev pub dropped : Change A → Nodes A → Option A
  dropped c m = dropped_before c.before (m c.node)

  -- the children that a commit has to look at, since they may be reached no more
  abbrev pub looked_before : Previous A → ℕ → List ℕ
  looked_before Missing k = k ∷ []
  looked_before (OldSeen x) k = []
  looked_before (OldKey x) k = []
  looked_before (OldKids x) k = x
  looked_before (OldAnswer x) k = []

  abbrev pub looked : Change A → List ℕ
  looked c = looked_before c.before c.node

  -- the last change was taken from the others
  pub record TakesLast (old new : Stock A) (last : Change A) : Type 0 where
    pub earlier : List (Change A)
    pub were : changes_of old ≡ earlier ++ last ∷ []
    pub are : changes_of new ≡ earlier
    pub notes : length new.notes + 1 ≡ length old.notes
    pub room : KeepsRoom old new

  -- what undoing a change does to the slots, and to the lists by number and the past ones
  abbrev pub undone_slots : Was A → ℕ → List (Option (Stored A)) → List (Option (Stored A))
  undone_slots was.Missing k slots = slice_set slots k None
  undone_slots (was.Kind x) k slots = change_slot (kind_set x) slots k
  undone_slots (was.Key x) k slots = change_slot (key_set x) slots k
  undone_slots was.Kids k slots = slots
  undone_slots (was.Answer x) k slots = change_slot (answer_set x) slots k

  abbrev pub UndoesParams : Was A → Option (Stored A) → ℕ → Shelf ℤ → Shelf ℤ → Type 0
  UndoesParams was.Missing s k old new = Clears k old new
  UndoesParams (was.Kind x) s k old new = Restores s k old new
  UndoesParams w s k old new = new ≡ old

  abbrev pub UndoesKids : Was A → Option (Stored A) → ℕ → Shelf ℕ → Shelf ℕ → Type 0
  UndoesKids was.Missing s k old new = Clears k old new
  UndoesKids was.Kids s k old new = Restores s k old new
  UndoesKids w s k old new = new ≡ old

  -- what it does to the footings
  abbrev pub undone_footings : Was A → ℕ → List Footing → List Footing
  undone_footings was.Missing k footings = slice_set footings k no_footing
  undone_footings w k footings = footings

  -- the answer that is kept no more when this is undone, where such a slot is
  abbrev pub slot_answer : Stored A → Option A
  slot_answer s = s.answer

  abbrev pub dropped_slot : Was A → Option (Stored A) → Option A
  dropped_slot was.Missing s = option_and_then slot_answer s
  dropped_slot (was.Answer x) s = answer_before s x
  dropped_slot w s = None

  -- the last of the past parameters goes with a note
  abbrev pub DropsParams : Was A → Shelf ℤ → Shelf ℤ → Type 0
  DropsParams (was.Kind x) old new = DropsLast old new
  DropsParams w old new = new ≡ old

  -- the last of the past lists of children comes in hand with a note
  abbrev pub TakesKids : Was A → Shelf ℕ → Shelf ℕ → Type 0
  TakesKids was.Kids old new = TakesLastUp old new
  TakesKids w old new = new ≡ old

  -- the answer that a note keeps
  abbrev pub noted_answer : Was A → Option A
  noted_answer (was.Answer x) = x
  noted_answer w = None

  -- the nodes that a note names, where these are in hand
  abbrev pub nodes_named : Was A → ℕ → List ℕ → List ℕ
  nodes_named was.Missing k hand = k ∷ []
  nodes_named was.Kids k hand = hand
  nodes_named w k hand = []

  -- after the last change was undone
  pub record Undoes (old new : Stock A) (last : Change A) : Type 0 where
    pub takes : TakesLast old new last
    pub nodes : nodes_of new ≡ undo last (nodes_of old)
    pub live : live_slots new.slots ≤ live_slots old.slots

  -- after the last change was taken up by a commit, which looks at these nodes
  pub record TakesUp (old new : Stock A) (last : Change A) (look : Look) : Type 0 where
    pub takes : TakesLast old new last
    pub nodes : nodes_of new ≡ nodes_of old
    pub live : live_slots new.slots ≡ live_slots old.slots
    pub looks : named_by look new.hand ≡ looked last
    pub footings : new.footings ≡ old.footings

  -- after a node was removed, whose children a commit has to look at
  pub record Removes (old new : Stock A) (k : ℕ) (n : Node A) : Type 0 where
    pub nodes : nodes_of new ≡ with_node (nodes_of old) k None
    pub noted : changes_of new ≡ changes_of old ++ record { node = k; before = OldKids n.kids } ∷ []
    pub notes : length new.notes ≡ length old.notes + 1
    pub live : live_slots new.slots + 1 ≡ live_slots old.slots
    pub room : KeepsRoom old new
    pub hand : new.hand ≡ old.hand
    pub footings : (j : ℕ) → j ≢ k → footing_at new.footings j ≡ footing_at old.footings j

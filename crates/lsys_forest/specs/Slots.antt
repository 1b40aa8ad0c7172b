-- Nodes as they are kept, by their numbers.
use Rattle.std.specs.Prelude.{◌≡◌, ◌≢◌, ℕ, List, map, Option, Some, None, is_some, count_by, option_map, slice_set, slice_index_or}
use Rattle.slab.specs.Slab.{Slab}
use Rattle.lsys_forest.specs.Shelves.{run_at}
use Rattle.lsys_forest.specs.declared.node.NodeKind.{NodeKind}
use Rattle.lsys_forest.specs.declared.node.Stored.{Stored}
use Rattle.lsys_forest.specs.declared.node.Footing.{Footing}
use Rattle.lsys_forest.specs.declared.node.NodeEntry.{NodeEntry}
use Rattle.lsys_forest.specs.declared.walk.Way.{Way}
use Rattle.lsys_forest.specs.declared.walk.Way.TheVariants.{Left, Right}

-- By number: the nodes, the runs of their parameters and of their children, and where they stand among others. Where no node
-- is, the runs are those of empty lists, and the footing is that of a node with no others. Then the number that is given out next, and how many nodes there may be with no
-- memory taken.
pub record SlotTable (A : Type 0) : Type 0 where
  pub slots : List (Option (Stored A))
  pub param_runs : List (Option ℕ)
  pub kid_runs : List (Option ℕ)
  pub footings : List Footing
  pub next : ℕ
  pub capacity : ℕ

-- where a node stands that has no others
abbrev pub no_footing : Footing
no_footing = record { rank = 0; left = None; right = None; mate = None }

abbrev pub footing_at : List Footing → ℕ → Footing
footing_at footings k = slice_index_or footings k no_footing

-- the rank at a number
abbrev pub rank_at : List Footing → ℕ → ℕ
rank_at footings k = (footing_at footings k).rank

-- the neighbour that a footing names, that way
abbrev pub link_in : Way → Footing → Option ℕ
link_in Left f = f.left
link_in Right f = f.right

abbrev pub link_at : Way → List Footing → ℕ → Option ℕ
link_at way footings k = link_in way (footing_at footings k)

-- the mate that a footing names
abbrev pub footing_mate : List Footing → ℕ → Option ℕ
footing_mate footings k = (footing_at footings k).mate

abbrev pub rank_set : ℕ → Footing → Footing
rank_set x f = record f { rank = x }

abbrev pub right_set : Option ℕ → Footing → Footing
right_set x f = record f { right = x }

abbrev pub links_set : Option ℕ → Option ℕ → Footing → Footing
links_set left right f = record f { left = left; right = right }

abbrev pub mate_set : Option ℕ → Footing → Footing
mate_set x f = record f { mate = x }

-- a run where a node is, or this one where none is
abbrev pub run_before : {X : Type 0} → Option X → Option ℕ → Option ℕ → Option ℕ
run_before None run x = x
run_before (Some s) run x = run

-- this run where a node is
abbrev pub run_after : {X : Type 0} → Option X → Option ℕ → Option ℕ
run_after None x = None
run_after (Some s) x = x

-- the run at a number is another one, if a node is there
abbrev pub change_run : {X : Type 0} → Option X → List (Option ℕ) → ℕ → Option ℕ → List (Option ℕ)
change_run None runs k x = runs
change_run (Some s) runs k x = slice_set runs k x

-- the footing at a number was changed, if a node is there
abbrev pub change_footing : {X : Type 0} → (Footing → Footing) → Option X → List Footing → ℕ → List Footing
change_footing f None footings k = footings
change_footing f (Some s) footings k = slice_set footings k (f (footing_at footings k))

module _ {A : Type 0} where
  -- the node with this number
  abbrev pub slot_at : List (Option (Stored A)) → ℕ → Option (Stored A)
  slot_at slots k = slice_index_or slots k None

  -- how many nodes live
  abbrev pub live_slots : List (Option (Stored A)) → ℕ
  live_slots slots = count_by is_some slots

  -- the node at a number was changed, if it lives
  abbrev pub change_slot : (Stored A → Stored A) → List (Option (Stored A)) → ℕ → List (Option (Stored A))
  change_slot f slots k = slice_set slots k (option_map f (slot_at slots k))

  abbrev pub kind_set : NodeKind → Stored A → Stored A
  kind_set x s = record s { kind = x }

  abbrev pub key_set : ℕ → Stored A → Stored A
  key_set x s = record s { key = x }

  abbrev pub answer_set : Option A → Stored A → Stored A
  answer_set x s = record s { answer = x }

  -- the answer that stood there, or this one where no node is
  abbrev pub answer_before : Option (Stored A) → Option A → Option A
  answer_before None x = x
  answer_before (Some s) x = s.answer

  -- what an entry has, where there is one
  abbrev pub node_in : Option (NodeEntry A) → Option (Stored A)
  node_in None = None
  node_in (Some e) = Some e.node

  abbrev pub param_run_in : Option (NodeEntry A) → Option ℕ
  param_run_in None = None
  param_run_in (Some e) = e.params

  abbrev pub kid_run_in : Option (NodeEntry A) → Option ℕ
  kid_run_in None = None
  kid_run_in (Some e) = e.kids

  abbrev pub footing_in : Option (NodeEntry A) → Footing
  footing_in None = no_footing
  footing_in (Some e) = e.footing

  -- the entries of a slab, part by part
  abbrev pub table_of : Slab (NodeEntry A) → SlotTable A
  table_of s = record { slots = map node_in s.slots; param_runs = map param_run_in s.slots; kid_runs = map kid_run_in s.slots; footings = map footing_in s.slots; next = s.vacant_key; capacity = s.capacity }

  -- the entry at a number was changed, if there is one
  abbrev pub change_entry : (NodeEntry A → NodeEntry A) → List (Option (NodeEntry A)) → ℕ → List (Option (NodeEntry A))
  change_entry f entries k = slice_set entries k (option_map f (slice_index_or entries k None))

  abbrev pub node_set : (Stored A → Stored A) → NodeEntry A → NodeEntry A
  node_set f e = record e { node = f e.node }

  abbrev pub params_set : Option ℕ → NodeEntry A → NodeEntry A
  params_set x e = record e { params = x }

  abbrev pub kids_set : Option ℕ → NodeEntry A → NodeEntry A
  kids_set x e = record e { kids = x }

  abbrev pub footing_set : (Footing → Footing) → NodeEntry A → NodeEntry A
  footing_set f e = record e { footing = f e.footing }

  -- an entry was put at a number, and all others stay
  pub record PutsEntry (old new : SlotTable A) (k : ℕ) (e : NodeEntry A) : Type 0 where
    pub slot : slot_at new.slots k ≡ Some e.node
    pub params : run_at new.param_runs k ≡ e.params
    pub kids : run_at new.kid_runs k ≡ e.kids
    pub other_slots : (j : ℕ) → j ≢ k → slot_at new.slots j ≡ slot_at old.slots j
    pub other_params : (j : ℕ) → j ≢ k → run_at new.param_runs j ≡ run_at old.param_runs j
    pub other_kids : (j : ℕ) → j ≢ k → run_at new.kid_runs j ≡ run_at old.kid_runs j
    pub other_footings : (j : ℕ) → j ≢ k → footing_at new.footings j ≡ footing_at old.footings j

  -- this entry stands at a number, if there is one
  pub record HasEntryAt (t : SlotTable A) (k : ℕ) (e : Option (NodeEntry A)) : Type 0 where
    pub slot : node_in e ≡ slot_at t.slots k
    pub params : param_run_in e ≡ run_at t.param_runs k
    pub kids : kid_run_in e ≡ run_at t.kid_runs k

-- What befalls the slots of a table, their runs and their footings.
use Rattle.std.specs.Prelude.{◌≡◌, ◌≢◌, ℕ, List, [], Option, None, IsSome, slice_set, option_map}
use Rattle.slab.specs.Slab.{Slab}
use Rattle.lsys_forest.specs.declared.node.NodeEntry.{NodeEntry}
use Rattle.lsys_forest.specs.declared.node.Footing.{Footing}
use Rattle.lsys_forest.specs.declared.node.NodeKind.TheVariants.{Push}
use Rattle.lsys_forest.specs.declared.node.Stored.{Stored}
use Rattle.lsys_forest.specs.Shelves.{run_at}
use Rattle.lsys_forest.specs.Slots.{SlotTable, slot_at, footing_at, no_footing, change_slot, change_run, change_footing, change_entry, run_before, param_run_in, kid_run_in}

-- each other footing stays
abbrev pub KeepsOtherFootings : ℕ → List Footing → List Footing → Type 0
KeepsOtherFootings k old new = (j : ℕ) → j ≢ k → footing_at new j ≡ footing_at old j

module _ {A : Type 0} where
  -- the root as it is kept
  abbrev pub stored_root : Stored A
  stored_root = record {
    parent = 0;
    code = 0;
    count = 0;
    depth = 0;
    kind = Push;
    key = 0;
    answer = None;
  }

  -- a table of no nodes
  abbrev pub empty_table : SlotTable A
  empty_table = record {
    slots = [];
    param_runs = [];
    kid_runs = [];
    footings = [];
    next = 0;
    capacity = 0;
  }

  -- the runs of the lists of the node at a number, if it lives
  abbrev pub param_run_at : SlotTable A → ℕ → Option (Option ℕ)
  param_run_at t k = option_map (λ s. run_at t.param_runs k) (slot_at t.slots k)

  abbrev pub kid_run_at : SlotTable A → ℕ → Option (Option ℕ)
  kid_run_at t k = option_map (λ s. run_at t.kid_runs k) (slot_at t.slots k)

  -- the runs of the lists of the node at a number, or this one where none lives
  abbrev pub param_run_or : SlotTable A → ℕ → Option ℕ → Option ℕ
  param_run_or t k run = run_before (slot_at t.slots k) (run_at t.param_runs k) run

  abbrev pub kid_run_or : SlotTable A → ℕ → Option ℕ → Option ℕ
  kid_run_or t k run = run_before (slot_at t.slots k) (run_at t.kid_runs k) run

  -- the runs of an entry, or this one where there is none
  abbrev pub entry_params_or : Option (NodeEntry A) → Option ℕ → Option ℕ
  entry_params_or e run = run_before e (param_run_in e) run

  abbrev pub entry_kids_or : Option (NodeEntry A) → Option ℕ → Option ℕ
  entry_kids_or e run = run_before e (kid_run_in e) run

  -- no node is at a number any more, nor are its lists and its footing
  abbrev pub Vacates : ℕ → SlotTable A → SlotTable A → Type 0
  Vacates k old new =
      new ≡ record old {
        slots = slice_set old.slots k None;
        param_runs = slice_set old.param_runs k None;
        kid_runs = slice_set old.kid_runs k None;
        footings = slice_set old.footings k no_footing;
        next = new.next;
      }

  -- the node at a number was changed so, if it lives, and nothing else
  abbrev pub ChangesSlot : (Stored A → Stored A) → ℕ → SlotTable A → SlotTable A → Type 0
  ChangesSlot f k old new = new ≡ record old { slots = change_slot f old.slots k }

  -- the run of the parameters at a number is this one, if a node lives there; nothing else changed
  abbrev pub ChangesParamRun : ℕ → Option ℕ → SlotTable A → SlotTable A → Type 0
  ChangesParamRun k run old new =
      new ≡ record old { param_runs = change_run (slot_at old.slots k) old.param_runs k run }

  -- the run of the children at a number is this one, if a node lives there; nothing else changed
  abbrev pub ChangesKidRun : ℕ → Option ℕ → SlotTable A → SlotTable A → Type 0
  ChangesKidRun k run old new =
      new ≡ record old { kid_runs = change_run (slot_at old.slots k) old.kid_runs k run }

  -- the footing at a number was changed so, if a node lives there, and nothing else
  abbrev pub ChangesFooting : (Footing → Footing) → ℕ → SlotTable A → SlotTable A → Type 0
  ChangesFooting f k old new =
      new ≡ record old { footings = change_footing f (slot_at old.slots k) old.footings k }

  -- where a node lives at a number, its footing was changed so
  abbrev pub FootingBecomes : (Footing → Footing) → ℕ → SlotTable A → SlotTable A → Type 0
  FootingBecomes f k old new =
      IsSome (slot_at old.slots k) → footing_at new.footings k ≡ f (footing_at old.footings k)

  -- the entry at a number was changed so, if there is one, and nothing else
  abbrev pub ChangesEntry : (NodeEntry A → NodeEntry A) → ℕ → Slab (NodeEntry A) → Slab (NodeEntry A) → Type 0
  ChangesEntry f k old new = new ≡ record old { slots = change_entry f old.slots k }

-- What befalls the lists that nodes have, whose runs stand in a table of nodes.
use Rattle.std.specs.Prelude.{ℕ, ℤ, Option}
use Rattle.std.specs.Option.{option_and_then}
use Rattle.lsys_forest.specs.declared.note.Note.{Note}
use Rattle.lsys_forest.specs.Shelves.{Shelf, Hoard, shelf_of}
use Rattle.lsys_forest.specs.Slots.{SlotTable, slot_at}
use Rattle.lsys_forest.specs.Stocks.{Restores, UndoesParams, UndoesKids, slot_answer, dropped_slot}

module _ {A : Type 0} where
  -- the lists of parameters changed so, where the nodes of a table have their runs
  abbrev pub OnParams : (Shelf ℤ → Shelf ℤ → Type 0)
      → Hoard ℤ → SlotTable A → Hoard ℤ → SlotTable A → Type 0
  OnParams Becomes before old after new =
      Becomes (shelf_of before old.param_runs) (shelf_of after new.param_runs)

  -- the lists of children changed so, where the nodes of a table have their runs
  abbrev pub OnKids : (Shelf ℕ → Shelf ℕ → Type 0)
      → Hoard ℕ → SlotTable A → Hoard ℕ → SlotTable A → Type 0
  OnKids Becomes before old after new =
      Becomes (shelf_of before old.kid_runs) (shelf_of after new.kid_runs)

  -- the last of the past lists went back to this number, if a node of the table is there
  abbrev pub RestoresAt : {T : Type 0} → SlotTable A → ℕ → Shelf T → Shelf T → Type 0
  RestoresAt t k = Restores (slot_at t.slots k) k

  -- the parameters are what they were before the change that a note tells
  abbrev pub UndoesNotedParams : Note A → Hoard ℤ → SlotTable A → Hoard ℤ → SlotTable A → Type 0
  UndoesNotedParams n before old after new =
      UndoesParams n.was (slot_at old.slots n.node) n.node
      (shelf_of before old.param_runs) (shelf_of after new.param_runs)

  -- the children are what they were before the change that a note tells
  abbrev pub UndoesNotedKids : Note A → Hoard ℕ → SlotTable A → Hoard ℕ → SlotTable A → Type 0
  UndoesNotedKids n before old after new =
      UndoesKids n.was (slot_at old.slots n.node) n.node
      (shelf_of before old.kid_runs) (shelf_of after new.kid_runs)

  -- the answer that is kept no more when the change that a note tells is undone
  abbrev pub dropped_by_note : SlotTable A → Note A → Option A
  dropped_by_note t n = dropped_slot n.was (slot_at t.slots n.node)

  -- the answer that the node at a number keeps
  abbrev pub kept_answer : SlotTable A → ℕ → Option A
  kept_answer t k = option_and_then slot_answer (slot_at t.slots k)

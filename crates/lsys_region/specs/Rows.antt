-- The entries of a table, whether their numbers are small or not.
use Rattle.std.specs.Prelude.{◌≡◌, ℕ, List, slice_set, slice_index_or, vec_capacity}
use Rattle.lsys_region.specs.declared.rows.Rows.{Rows}
use Rattle.lsys_region.specs.declared.rows.Rows.TheVariants.{Small, Large}
use Rattle.lsys_region.specs.declared.packed.PackedPart.{PackedPart}
use Rattle.lsys_region.specs.declared.packed.State.{State}
use Rattle.lsys_region.specs.Layout.{small_places, all_places}

-- the entries by their numbers
abbrev pub entries_of_rows : Rows → List PackedPart
entries_of_rows (Small rows) = rows.items
entries_of_rows (Large rows) = rows.items

-- how many fit with no allocation
abbrev pub capacity_of : Rows → ℕ
capacity_of (Small rows) = vec_capacity rows
capacity_of (Large rows) = vec_capacity rows

-- of how many places they can tell
abbrev pub most_of : Rows → ℕ
most_of (Small rows) = small_places
most_of (Large rows) = all_places

-- the entry with this number came to have this state
abbrev pub SetsState : List PackedPart → List PackedPart → ℕ → State → Type 0
SetsState old new number state =
    (entry : PackedPart) → entry ≡ slice_index_or old number entry → new ≡ slice_set old number (record { start = entry.start; state = state })

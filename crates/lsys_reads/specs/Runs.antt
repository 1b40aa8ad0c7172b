-- What each reader saw, as runs of cells.
use Rattle.std.specs.Prelude.{◌≡◌, ◌≢◌, ℕ, ◌+◌, ◌≤◌, List, [], map, length, slice_range, slice_index_or, true, ◌||◌, ◌==◌, refl}
use Rattle.std.specs.Coded.{Coded, code_by, coded×, coded_ℕ, coded_list}
use Rattle.lsys_reads.specs.declared.runs.Stretch.{Stretch}
use Rattle.lsys_reads.specs.Rows.{has}

-- what each reader saw, and for how many tags more there is room
pub record Sights : Type 0 where
  pub rows : List (List ℕ)
  pub room : ℕ

abbrev pub sights_code : Coded Sights
sights_code = code_by (List (List ℕ) × ℕ) (coded× (coded_list (coded_list coded_ℕ)) coded_ℕ) (λ s. (s.rows, s.room)) (λ p. record { rows = p.0; room = p.1 }) (λ _. refl)

-- what the reader saw; nothing where the runs do not reach so far
abbrev pub sights_by : Sights → ℕ → List ℕ
sights_by sights reader = slice_index_or sights.rows reader []

abbrev pub empty_run : Stretch
empty_run = record { start = 0; len = 0 }

-- the tags of a run
abbrev pub run_in_cells : List ℕ → Stretch → List ℕ
run_in_cells cells run = slice_range cells run.start (run.start + run.len)

abbrev pub runs_in : List ℕ → List Stretch → List (List ℕ)
runs_in cells runs = map (run_in_cells cells) runs

-- the run with this number; an empty one after the last
abbrev pub stretch_at : List Stretch → ℕ → Stretch
stretch_at runs n = slice_index_or runs n empty_run

-- the runs lie within so many cells
abbrev pub LieWithin : List Stretch → ℕ → Type 0
LieWithin runs size = (n : ℕ) → (stretch_at runs n).start + (stretch_at runs n).len ≤ size

-- each reader saw what it saw
abbrev pub SightsStay : Sights → Sights → Type 0
SightsStay old new = (reader : ℕ) → sights_by new reader ≡ sights_by old reader

-- the reader saw the tag too, and other readers what they saw
pub record NotesSight (old new : Sights) (reader tag : ℕ) : Type 0 where
  pub own : (q : ℕ) → ((tag == q) || has (sights_by old reader) q) ≡ true → has (sights_by new reader) q ≡ true
  pub others : (other : ℕ) → other ≢ reader → sights_by new other ≡ sights_by old other
  pub reach : length new.rows ≡ length old.rows
  pub room : old.room ≤ new.room + 1

-- the reader saw nothing, and other readers what they saw
pub record ClearsSights (old new : Sights) (reader : ℕ) : Type 0 where
  pub own : sights_by new reader ≡ []
  pub others : (other : ℕ) → other ≢ reader → sights_by new other ≡ sights_by old other
  pub reach : length new.rows ≡ length old.rows
  pub room : new.room ≡ old.room

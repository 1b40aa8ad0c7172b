-- How the rows of a table lie in its cells.
use Rattle.std.specs.Prelude.{◌≡◌, ◌≢◌, ℕ, ◌+◌, ◌/◌, ◌≤◌, nat_le, cond, List, map, length, take, slice_range, slice_index_or, sum_by, ◌⊎◌}
use Rattle.lsys_reads.specs.declared.head.Head.{Head}
use Rattle.lsys_reads.specs.Rows.{Row}

abbrev pub empty_head : Head
empty_head = record { start = 0; room = 0; len = 0; owed = 0 }

-- the row that stands there
abbrev pub row_in_cells : List ℕ → Head → Row
row_in_cells cells head = record { tags = slice_range cells head.start (head.start + head.len); owed = head.owed }

-- all cells of the row
abbrev pub cells_of : List ℕ → Head → List ℕ
cells_of cells head = slice_range cells head.start (head.start + head.room)

abbrev pub rows_of : List ℕ → List Head → List Row
rows_of cells heads = map (row_in_cells cells) heads

-- how many cells are kept after all rows for one that is to hold so many tags in so many cells
abbrev pub kept_for : ℕ → ℕ → ℕ
kept_for due room = cond (nat_le due room) 0 (due + due / 16)

-- and for this one
abbrev pub wanted : Head → ℕ
wanted head = kept_for (head.len + head.owed) head.room

-- a head without its cells, where there are no tags and none are owed
abbrev pub trimmed : Head → Head
trimmed head = cond (nat_le (head.len + head.owed) 0) empty_head head

-- the first of these has no cells of the second
abbrev pub HaveApartCells : Head → Head → Type 0
HaveApartCells one two = (one.start + one.room ≤ two.start) ⊎ (two.start + two.room ≤ one.start)

-- the head with this number; an empty one after the last
abbrev pub head_at : List Head → ℕ → Head
head_at heads n = slice_index_or heads n empty_head

-- the rows lie within so many cells, apart, and each has its tags in its own
pub record IsLaid (heads : List Head) (size : ℕ) : Type 0 where
  pub inside : (n : ℕ) → (head_at heads n).start + (head_at heads n).room ≤ size
  pub fits : (n : ℕ) → (head_at heads n).len ≤ (head_at heads n).room
  pub apart : (m n : ℕ) → m ≢ n → HaveApartCells (head_at heads m) (head_at heads n)

-- the rows lie apart, and there is capacity for what is kept after them
pub record AreSoundRows (heads : List Head) (size kept capacity : ℕ) : Type 0 where
  pub laid : IsLaid heads size
  pub kept_is : kept ≡ sum_by wanted heads
  pub places_left : size + kept ≤ capacity

-- a head without its place
abbrev pub unplaced : Head → Head
unplaced head = record { start = 0; room = head.room; len = head.len; owed = head.owed }

-- the rows may stand elsewhere now, and have what they had
pub record Packs (old_heads new_heads : List Head) (old_cells new_cells : List ℕ) : Type 0 where
  pub rows : rows_of new_cells new_heads ≡ rows_of old_cells old_heads
  pub heads : map unplaced new_heads ≡ map unplaced old_heads

-- the row has room for all that it is owed: in its own cells, or in new ones after all others
pub record ComesToPlace (old new : List ℕ) (head placed : Head) : Type 0 where
  pub tags : slice_range new placed.start (placed.start + placed.len) ≡ slice_range old head.start (head.start + head.len)
  pub front : take (length old) new ≡ old
  pub size : length new ≡ length old + wanted head
  pub len : placed.len ≡ head.len
  pub owed : placed.owed ≡ head.owed
  pub room : head.len + head.owed ≤ placed.room
  pub inside : placed.start + placed.room ≤ length new
  pub elsewhere : (placed ≡ head) ⊎ (length old ≤ placed.start)

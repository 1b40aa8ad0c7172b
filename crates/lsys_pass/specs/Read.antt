-- What the entries of a trace name, as pairs of a reader and what it saw.
use Rattle.std.specs.Prelude.{◌≡◌, ◌++◌, ℕ, Bool, true, false, List, [], map, flat_map, not, ◌&&◌, ◌||◌}
use Rattle.lsys_reads.specs.declared.Pair.{Pair}
use Rattle.lsys_reads.specs.Relations.{Relations, is_pending, is_settled}
use Rattle.lsys_reads.specs.Rows.{has}
use Rattle.lsys_walks.specs.declared.entry.Entry.{Entry}
use Rattle.lsys_walks.specs.Views.{noted_of}
use Rattle.lsys_reads.specs.Levels.{tags_named}
use Rattle.lsys_pass.specs.declared.read.Readers.{Readers}
use Rattle.lsys_pass.specs.declared.work.Work.{Work}

-- the tags that an entry names, whatever parameters a module has
abbrev pub entry_tags : Entry → List ℕ
entry_tags e = tags_named (noted_of e [])

abbrev pub entries_tags : List Entry → List ℕ
entries_tags es = flat_map entry_tags es

-- a reader with each of these
abbrev pub pair_of : ℕ → ℕ → Pair
pair_of reader seen = record { reader = reader; seen = seen }

abbrev pub pairs_of : ℕ → List ℕ → List Pair
pairs_of reader tags = map (pair_of reader) tags

-- those that were there are there, and maybe others after them
pub record ComesAfter (old new : List Pair) : Type 0 where
  pub more : List Pair
  pub is : new ≡ old ++ more

-- what a reader saw is pending, after what was
abbrev pub AddsPairs : Relations → Relations → ℕ → List ℕ → Type 0
AddsPairs old new reader tags = new.pending ≡ old.pending ++ pairs_of reader tags

-- so it is where it is listed who read what; else nothing more is pending
pub record NotesPairs (listed : Bool) (old new : Relations) (reader : ℕ) (tags : List ℕ) : Type 0 where
  pub adds : listed ≡ true → AddsPairs old new reader tags
  pub stays : listed ≡ false → new.pending ≡ old.pending

-- so it is of what a pass keeps of it
abbrev pub NotesRead : Readers → Readers → ℕ → List ℕ → Type 0
NotesRead old new reader tags = NotesPairs old.is_listed old.reads new.reads reader tags

-- Settled is what was pending, and what was settled of readers that have no new answer and were not
-- dropped.
abbrev pub SettlesReads : Relations → Relations → List ℕ → List ℕ → Type 0
SettlesReads old new renewed dropped =
    (reader seen : ℕ)
    → is_settled new reader seen
    ≡ ((not (has renewed reader) && (not (has dropped reader) && is_settled old reader seen))
    || is_pending old reader seen)

-- so it is of what a pass keeps of it, by its lists, where it is listed who read what
abbrev pub SettlesReaders : Readers → Readers → Work → Type 0
SettlesReaders old new work =
    old.is_listed ≡ true → SettlesReads old.reads new.reads work.renewed.items work.dropped.items

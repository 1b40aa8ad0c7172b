-- The parts of an entry. What its kind doesn't carry is 0, or the name `+`.
use Rattle.std.specs.Prelude.{ℕ, List, [], ◌∷◌}
use Rattle.lsys_walks.specs.declared.mark.Mark.{Mark}
use Rattle.lsys_walks.specs.declared.entry.Entry.{Entry}
use Rattle.lsys_walks.specs.declared.entry.Entry.TheVariants.{Compared, Ignored, Out, Branch}
use Rattle.lsys_walks.specs.declared.entry.EntryKind.{EntryKind}
use Rattle.lsys_walks.specs.declared.entry.EntryKind.TheVariants as kinds

abbrev pub entry_kind : Entry → EntryKind
entry_kind (Compared d arity tag name) = kinds.Compared
entry_kind (Ignored d arity tag name) = kinds.Ignored
entry_kind (Out d tag) = kinds.Out
entry_kind (Branch d tag mate) = kinds.Branch

abbrev pub mark_in : Entry → Mark
mark_in (Compared d arity tag name) = d
mark_in (Ignored d arity tag name) = d
mark_in (Out d tag) = d
mark_in (Branch d tag mate) = d

abbrev pub entry_rule : Entry → ℕ
entry_rule e = (mark_in e).rule

abbrev pub depth_of : Entry → ℕ
depth_of e = (mark_in e).depth

abbrev pub tag_of : Entry → ℕ
tag_of (Compared d arity tag name) = tag
tag_of (Ignored d arity tag name) = tag
tag_of (Out d tag) = tag
tag_of (Branch d tag mate) = tag

abbrev pub mate_of : Entry → ℕ
mate_of (Compared d arity tag name) = 0
mate_of (Ignored d arity tag name) = 0
mate_of (Out d tag) = 0
mate_of (Branch d tag mate) = mate

abbrev pub entry_name : Entry → List ℕ
entry_name (Compared d arity tag name) = name
entry_name (Ignored d arity tag name) = name
entry_name (Out d tag) = 43 ∷ []
entry_name (Branch d tag mate) = 43 ∷ []

abbrev pub arity_of : Entry → ℕ
arity_of (Compared d arity tag name) = arity
arity_of (Ignored d arity tag name) = arity
arity_of (Out d tag) = 0
arity_of (Branch d tag mate) = 0

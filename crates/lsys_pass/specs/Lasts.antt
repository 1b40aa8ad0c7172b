-- The nodes that are dropped where a level becomes the last one.
use Rattle.std.specs.Prelude.{◌≡◌, ◌++◌, ℕ, List, Vec}
use Rattle.std.specs.declared.alloc.Global.{Global}
use Rattle.lsys_syntax.specs.Calls.{Lent}
use Rattle.lsys_forest.specs.Nodes.{Nodes}
use Rattle.lsys_forest.specs.Groves.{Grove, now_of}
use Rattle.lsys_forest.specs.Rows.{kids_below, level_nodes}
use Rattle.lsys_front.specs.Ends.{AreEnded, answered_in, rows_from}

-- Those nodes of the level that kept an answer; and those that keep one among the nodes that were below it, and those that are
-- below the nodes that are gone from it, of so many levels.
abbrev pub dropped_at_end : {A : Type 0} → Nodes A → Nodes A → List ℕ → List ℕ → ℕ → List ℕ
dropped_at_end old new level gone levels_after =
    answered_in old level
    ++ answered_in new (rows_from new levels_after (kids_below old level ++ kids_below new gone))

-- the nodes of a level of a grove have no answers and no children any more
abbrev pub AreEndedOn : {A : Type 0} → Grove A → Grove A → ℕ → Type 0
AreEndedOn old new level =
    AreEnded (now_of old) (now_of new) (level_nodes (now_of old) old.root level)

-- the nodes that are dropped there
abbrev pub dropped_on : {A : Type 0} → Grove A → Grove A → ℕ → List ℕ → ℕ → List ℕ
dropped_on old new level gone levels_after =
    let here = level_nodes (now_of old) old.root level in
    dropped_at_end (now_of old) (now_of new) here gone levels_after

-- these were added to what a call is lent that drops them
abbrev pub DropsOn : {A : Type 0} → Lent (Grove A) → ℕ → List ℕ → ℕ → Lent (Vec ℕ Global) → Type 0
DropsOn forest level gone levels_after dropped =
    dropped.exit.now.items
    ≡ dropped.entry.now.items ++ dropped_on forest.entry.now forest.exit.now level gone levels_after

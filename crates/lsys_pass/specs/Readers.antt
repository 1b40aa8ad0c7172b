-- Who read what.
use Rattle.std.specs.Prelude.{◌≡◌, ◌↔◌, ℕ, true}
use Rattle.lsys_walks.specs.Stores.{Store}
use Rattle.lsys_match.specs.Kept.{Kept}
use Rattle.lsys_reads.specs.Relations.{Relations, is_settled}
use Rattle.lsys_forest.specs.Nodes.{Nodes}
use Rattle.lsys_reads.specs.Levels.{HasRead}

-- it is settled who read what: a node, what the answer read that it keeps
abbrev pub AreReaders : Nodes Kept → Store → Relations → Type 0
AreReaders m store reads =
    (reader seen : ℕ) → (is_settled reads reader seen ≡ true) ↔ HasRead m store reader seen

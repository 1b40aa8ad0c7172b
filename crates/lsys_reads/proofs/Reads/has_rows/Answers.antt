use Rattle.std.proofs.Common.{List, ℕ, ap, sym, ◌∙◌}
use Rattle.lsys_reads.specs.Rows.{has}
use Rattle.lsys_reads.specs.Relations.{Relations, is_settled}
use Rattle.lsys_reads.proofs.ReadsLemmas.{settled_is}
use Rattle.lsys_reads.proofs.Reads.has_rows.Goals as goal

pub returns : goal.returns
returns c none reader seen =
    ap (λ (v : Relations). is_settled v reader seen) (sym c.self.view_is) ∙ settled_is c.self.inside.by_seen c.self.inside.pending.items reader seen
    ∙ ap (λ (tags : List ℕ). has tags reader) (c.has_cells.ensures none seen)

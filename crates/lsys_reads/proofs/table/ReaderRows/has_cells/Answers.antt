use Rattle.std.proofs.Common.{◌≡◌, ap, List, length, sym, ◌∙◌, rules}
use Rattle.lsys_reads.specs.Rows.{Row, tag_row}
use Rattle.lsys_reads.proofs.LayoutLemmas.{none_in_cells}
use Rattle.lsys_reads.proofs.table.ReaderRows.has_cells.Goals as goal

pub returns : goal.returns
returns c some tag =
    let none : length c.self.inside.cells.items ≡ 0 = search rules in
    ap (λ (rows : List Row). (tag_row rows tag).tags) (sym c.self.view_is) ∙ none_in_cells c.self.inside.cells.items c.self.inside.heads.items tag none

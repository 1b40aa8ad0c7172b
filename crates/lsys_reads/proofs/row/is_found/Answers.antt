use Rattle.std.proofs.Common.{◌∙◌, sym}
use Rattle.lsys_reads.proofs.RowLemmas.{found_has}
use Rattle.lsys_reads.proofs.row.is_found.Goals as goal

pub returns : goal.returns
returns c = λ found. found_has c.args.tags.now c.args.tag c.binary_search.result c.binary_search.ensures.bound c.binary_search.ensures.ok (sym c.is_ok.ensures.value ∙ found)

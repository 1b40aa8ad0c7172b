use Rattle.std.proofs.Common.{length, sym, ap, ◌∙◌, arith}
use Rattle.lsys_region.proofs.LayoutLemmas.{IsWritten-mid}
use Rattle.lsys_region.proofs.overwrite.Goals as goal

pub returns-clause-written : goal.returns-clause-written
returns-clause-written g c =
    IsWritten-mid c.args.cells.now.items c.deref_mut.result.now c.copy_from_slice.new.self c.args.list.now c.args.start _ _ c.deref_mut.ensures.value c.copy_from_slice.ensures.after (omega arith) (sym c.deref_mut.ensures.len ∙ ap length c.deref_mut.ensures.value) c.requires

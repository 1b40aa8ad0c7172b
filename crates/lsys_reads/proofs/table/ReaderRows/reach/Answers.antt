use Rattle.std.proofs.Common.{◌≡◌, ◌++◌, ◌∷◌, [], List, length, sym, ap, subst, ◌∙◌, rules}
use Rattle.std.specs.Prelude.{vec_capacity}
use Rattle.lsys_reads.specs.declared.head.Head.{Head}
use Rattle.lsys_reads.specs.Rows.{tag_row}
use Rattle.lsys_reads.specs.Layout.{empty_head, rows_of, AreSoundRows}
use Rattle.lsys_reads.proofs.LayoutLemmas.{same_rows_more, sound_more}
use Rattle.lsys_reads.proofs.table.ReaderRows.reach.Goals as goal

pub loop-self-preserved : goal.loop-self-preserved
loop-self-preserved c =
    let t = c.loop-self.self-inside in
    let pushed : c.push.new.self.items ≡ t.heads.items ++ empty_head ∷ [] = search rules in
    record {
      rows = λ tag. ap (λ (l : List Head). tag_row (rows_of t.cells.items l) tag) pushed ∙ same_rows_more t.cells.items t.heads.items tag ∙ c.loop-self.invariant.rows tag;
      sound = subst (λ (l : List Head). AreSoundRows l (length t.cells.items) t.kept (vec_capacity t.cells)) (sym pushed)
          (sound_more t.heads.items (length t.cells.items) t.kept (vec_capacity t.cells) c.loop-self.invariant.sound);
    }

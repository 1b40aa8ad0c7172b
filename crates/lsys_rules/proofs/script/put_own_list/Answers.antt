use Rattle.std.proofs.Common.{◌∷◌, ◌++◌, ap}
use Rattle.lsys_io.proofs.Puts.{puts_then, puts_failed}
use Rattle.lsys_rules.specs.Showing.{listed_text}
use Rattle.lsys_rules.proofs.ShownTexts.{own-line}
use Rattle.lsys_rules.proofs.script.put_own_list.Goals as goal

pub returns-in_err-put_list_word : goal.returns-in_err-put_list_word
returns-in_err-put_list_word g c =
    let o = c.args.list.now in
    rw (own-line o) (puts_failed ((32 ∷ o.table) ++ listed_text o.names) c.from_residual.ensures.0 (rw (ap (λ f. f.kind) c.filter-filter.ensures) at c.in_err-put_list_word.ensures))

pub returns-in_err-put_next_word : goal.returns-in_err-put_next_word
returns-in_err-put_next_word g c =
    let o = c.args.list.now in
    rw (own-line o) (puts_then (rw (ap (λ f. f.kind) c.filter-filter.ensures) at c.in_ok-put_list_word.ensures)
    (puts_failed (listed_text o.names) c.from_residual-in_err-put_next_word.ensures.0 (rw c.table.ensures at c.in_err-put_next_word.ensures)))

pub returns : goal.returns
returns g c =
    let o = c.args.list.now in
    rw (own-line o) (puts_then (rw (ap (λ f. f.kind) c.filter-filter.ensures) at c.in_ok-put_list_word.ensures)
    (puts_then (rw c.table.ensures at c.in_ok-put_next_word.ensures) (rw (ap (λ f. f.names) c.filter-filter.ensures) at c.put_listed.ensures)))

use Rattle.std.proofs.lemmas.List.{get_or-take}
use Rattle.std.proofs.Common.{◌<◌, ℕ, List, take, sym, ap, subst, ◌∙◌, arith, rules, Ok, Err}
use Rattle.std.proofs.lemmas.List.Sorted.{searched}
use Rattle.std.proofs.lemmas.Grind.{get_or_default_zero}
use Rattle.lsys_reads.specs.Rows.{IsRising, has}
use Rattle.lsys_reads.proofs.RowLemmas.{rising_insert, rising_le, has_insert, has_at, put_again}
use Rattle.lsys_reads.proofs.row.insert_within.Goals as goal

pub returns-in-Ok-clause-tags : goal.returns-in-Ok-clause-tags
returns-in-Ok-clause-tags c = λ q.
    let xs = take c.args.len c.args.cells.now in
    let found = searched xs c.args.tag (Ok c.in-Ok.field-0) c.in-Ok.ensures.position (rising_le xs c.requires.rising) in
    put_again xs c.args.tag q (has_at xs c.in-Ok.field-0 c.args.tag found.0 found.1)

pub returns-in-Err-clause-tags : goal.returns-in-Err-clause-tags
returns-in-Err-clause-tags c = λ q. ap (λ (l : List ℕ). has l q) c.put_at-in-Err.ensures.tags ∙ has_insert (take c.args.len c.args.cells.now) c.in-Err.place c.args.tag q

pub returns-in-Err-clause-rising : goal.returns-in-Err-clause-rising
returns-in-Err-clause-rising c =
    let xs = take c.args.len c.args.cells.now in
    let found = searched xs c.args.tag (Err c.in-Err.place) c.in-Err.ensures.position (rising_le xs c.requires.rising) in
    subst IsRising (sym c.put_at-in-Err.ensures.tags) (rising_insert xs c.in-Err.place c.args.tag c.requires.rising (λ k less within. found.1 k less) (λ k most within. found.2 k most within))

pub returns-then-lt-clause-rising : goal.returns-then-lt-clause-rising
returns-then-lt-clause-rising c =
    let xs = take c.args.len c.args.cells.now in
    let less : c.args.tag < c.index-cells-0.result = search rules in
    let some = c.requires.some in
    let room = c.requires.room in
    let first = get_or_default_zero c.args.cells.now 0 c.index-cells-0.result (omega (arith, room)) in
    let taken = get_or-take c.args.len c.args.cells.now 0 0 some in
    subst IsRising (sym c.put_at.ensures.tags) (rising_insert xs 0 c.args.tag c.requires.rising (λ k below within. absurd (omega (arith, below))) (λ k most within. (let up = rising_le xs c.requires.rising 0 k most within in omega (arith, less, first, taken, up))))

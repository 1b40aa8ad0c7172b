use Rattle.std.proofs.Common.{◌≡◌, ◌-◌, ℕ, List, length, take, sym, ap, subst, ◌∙◌, arith, Ok, Err, length-take-le}
use Rattle.std.specs.List.{remove}
use Rattle.std.proofs.lemmas.List.Sorted.{searched}
use borrow.Rule.Slice.PartMut.{put_mid}
use Rattle.lsys_reads.specs.Rows.{IsRising, has}
use Rattle.lsys_reads.proofs.RowLemmas.{rising_remove, rising_le, has_remove, lacks_split, sweeps_cut, sweeps_none}
use Rattle.lsys_reads.proofs.SliceLemmas.{removed}
use Rattle.lsys_reads.proofs.row.sweep.Goals as goal

pub returns-in_default-clause-tags : goal.returns-in_default-clause-tags
returns-in_default-clause-tags c =
    let xs = take c.args.len c.args.cells.now in
    let place = c.in_default.field-0 in
    let found = searched xs c.args.tag (Err place) c.in_default.ensures.position (rising_le xs c.requires.rising) in
    sweeps_none xs c.args.tag c.args.gone.now (lacks_split xs place c.args.tag found.1 found.2)

is_removed : (c : goal.After-cells-2-1) → take (c.args.len - 1) (put_mid c.in-Ok.place (c.args.len - c.in-Ok.place) c.args.cells.now c.rotate_left.new.self) ≡ remove (take c.args.len c.args.cells.now) c.in-Ok.place
is_removed c =
    let xs = take c.args.len c.args.cells.now in
    let found = searched xs c.args.tag (Ok c.in-Ok.place) c.in-Ok.ensures.position (rising_le xs c.requires.rising) in
    let many : length xs ≡ c.args.len = length-take-le c.args.len c.args.cells.now c.requires.room in
    removed c.args.cells.now c.rotate_left.new.self c.args.len c.in-Ok.place c.requires.room (let below = found.0 in omega (arith, below, many)) c.rotate_left.ensures.after

pub returns-clause-tags : goal.returns-clause-tags
returns-clause-tags c =
    let xs = take c.args.len c.args.cells.now in
    let found = searched xs c.args.tag (Ok c.in-Ok.place) c.in-Ok.ensures.position (rising_le xs c.requires.rising) in
    sweeps_cut xs _ c.args.tag c.args.gone.now (λ q. ap (λ (l : List ℕ). has l q) (is_removed c) ∙ has_remove xs c.in-Ok.place c.args.tag q c.requires.rising found.0 found.1)

pub returns-clause-rising : goal.returns-clause-rising
returns-clause-rising c = subst IsRising (sym (is_removed c)) (rising_remove (take c.args.len c.args.cells.now) c.in-Ok.place c.requires.rising)

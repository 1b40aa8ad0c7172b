use Rattle.std.proofs.Common.{ap, ◌∙◌}
use Rattle.lsys_reads.specs.Seats.{neighbour_told}
use Rattle.lsys_reads.proofs.LevelLemmas.{left_told, right_told, mate_told}
use Rattle.lsys_reads.proofs.seat.seat_in.Goals as goal

pub returns-clause-told : goal.returns-clause-told
returns-clause-told g c =
    let f = c.args.forest.now in
    let k = c.args.node in
    let l = ap (neighbour_told k) c.or_own.ensures ∙ left_told f k c.around-around.result.left c.requires c.around-around.ensures.left in
    let r = ap (neighbour_told k) c.or_own-2.ensures ∙ right_told f k c.around-around.result.right c.requires c.around-around.ensures.right in
    let m = ap (neighbour_told k) c.or_own-3.ensures ∙ mate_told f k c.around-around.result.mate c.requires c.around-around.ensures.mate in
    λ i. record { left = l i; right = r i; mate = m i }

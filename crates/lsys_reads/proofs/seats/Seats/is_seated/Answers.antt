use Rattle.std.proofs.Common.{◌≡◌, Some, length, slice_get, refl, sym, ap, ◌∙◌, arith}
use Rattle.std.proofs.lemmas.Option.{slice_get_read}
use Rattle.lsys_reads.specs.Seats.{seat_told}
use Rattle.lsys_reads.proofs.SeatLemmas.{told_same, same_told}
use Rattle.lsys_reads.proofs.seats.Seats.is_seated.Goals as goal

pub returns : goal.returns
returns g c =
    let seats = c.self.inside.seats.items in
    let k = c.args.node in
    let kept = c.index-kept.result.now in
    let long = ap length c.self.view_is in
    let here : slice_get seats c.node.inside.0 ≡ Some kept = slice_get_read seats (length seats) c.node.inside.0 kept refl (omega (arith, c.requires.room, long, c.node.view_is)) c.index-kept.ensures in
    let there : slice_get c.args.self.now k ≡ Some kept = ap (λ l. slice_get l k) (sym c.self.view_is) ∙ ap (slice_get seats) (sym c.node.view_is) ∙ here in (
      λ t. sym c.seat_in.ensures.told ∙ told_same k kept c.seat_in.result (c.tell_same.ensures.0 t) ∙ ap (seat_told k) (sym there),
      λ e. c.tell_same.ensures.1 (same_told k kept c.seat_in.result (c.seat_in.ensures.told ∙ e ∙ ap (seat_told k) there)),
    )

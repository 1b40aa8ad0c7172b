use Rattle.std.proofs.Common.{◌≡◌, true, false, sym, subst, inl, inr}
use Rattle.lsys_reads.specs.Seats.{is_marked}
use Rattle.lsys_front.specs.Finds.{Gathers}
use Rattle.lsys_front.proofs.Gathering.{marked_or_not, gathers_old}
use Rattle.lsys_front.proofs.gather.gather.Goals as goal

pub returns-else-mark-clause-gathers : goal.returns-else-mark-clause-gathers
returns-else-mark-clause-gathers c =
    let node = c.args.node in
    let old = c.args.seats.now in
    let new = c.mark.new.self in
    let marked : is_marked old node ≡ true = elim (marked_or_not (is_marked old node)) [ inl e ↦ e | inr e ↦ absurd (let f : false ≡ true = c.if-mark.ensures.new.1 e in cc) ] in
    subst (λ ys. Gathers (λ k. k ≡ node) old new c.args.nodes.now.items ys) (sym c.reserve.ensures.items)
    (gathers_old node old new c.args.nodes.now.items marked c.mark.ensures.marked (λ k ne. c.mark.ensures.others k ne) c.mark.ensures.seats c.mark.ensures.keeps)

use Rattle.std.proofs.Common.{◌≡◌, ◌<◌, ◌+◌, ℕ, Bool, List, length, drop, ap, ◌∙◌, sym, subst}
use Rattle.std.specs.List.{remove}
use Rattle.std.specs.Vec.{with_items}
use Rattle.std.proofs.lemmas.List.{with_items_is}
use Rattle.lsys_pass.specs.declared.queue.Slot.{Slot}
use Rattle.lsys_pass.specs.Queues.{AreCounted, those_left, those_in}
use Rattle.lsys_pass.proofs.Queued.{first_gone, any_gone}
use Rattle.lsys_pass.proofs.queue.Queue.take.Goals as goal

pub returns-then-place-eq0 : goal.returns-then-place-eq0
returns-then-place-eq0 c =
    let q = c.self.inside in
    first_gone q.nodes.items q.slots q.start q.end q.whole c.self.invariant ∙ ap (λ (l : List ℕ). remove l 0) c.self.view_is ∙ ap (remove c.args.self.now) (sym c.if-place-eq0.true)

pub returns : goal.returns
returns c =
    let q = c.self.inside in
    let within = subst (λ (l : List ℕ). c.args.place < length l) (sym c.self.view_is) c.requires in
    let old = ap (λ (ns : List ℕ). those_in q.whole ns q.slots.items) c.deref.ensures.value in
    let taken = c.take_among.ensures.left ∙ ap (λ (s : List Slot). remove (those_left s) (q.start + c.args.place)) c.deref_mut.ensures.value ∙ ap (λ (l : List ℕ). remove l (q.start + c.args.place)) (c.give_slots.ensures.left ∙ old) in
    let written : (with_items c.give_slots.new.slots c.take_among.new.part).items ≡ c.take_among.new.part = with_items_is c.give_slots.new.slots c.take_among.new.part (c.take_among.auto.part ∙ c.deref_mut.ensures.len) in
    ap (λ (b : Bool). drop q.start (those_in b q.nodes.items (with_items c.give_slots.new.slots c.take_among.new.part).items)) c.give_slots.ensures.whole
    ∙ any_gone q.nodes.items q.slots q.start q.end q.whole c.self.invariant (with_items c.give_slots.new.slots c.take_among.new.part) c.args.place within
    (subst AreCounted (sym written) c.take_among.ensures.counted) (ap those_left written ∙ taken) ∙ ap (λ (l : List ℕ). remove l c.args.place) c.self.view_is

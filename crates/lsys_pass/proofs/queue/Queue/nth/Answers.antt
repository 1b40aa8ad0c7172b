use Rattle.std.proofs.Common.{◌≡◌, ◌<◌, ◌+◌, List, Some, length, slice_get, ap, ◌∙◌, sym, subst, arith}
use Rattle.std.specs.Prelude.{ℕ}
use Rattle.lsys_pass.specs.declared.queue.Slot.{Slot}
use Rattle.lsys_pass.specs.Queues.{those_left}
use Rattle.lsys_pass.proofs.Queued.{within_slots, slot_is}
use Rattle.lsys_pass.proofs.queue.Queue.nth.Goals as goal

pub overflow_add-self-inside : goal.overflow_add-self-inside
overflow_add-self-inside c =
    let q = c.self.inside in
    let at = within_slots q.nodes.items q.slots q.start q.end q.whole c.self.invariant c.if-self.false c.args.place (subst (λ (l : List ℕ). c.args.place < length l) (sym c.self.view_is) c.requires) in
    let same = ap (length {A = Slot}) c.deref-slots.ensures.value in
    omega (arith, at, same, c.deref-slots.type_inv.0)

pub returns : goal.returns
returns c =
    let q = c.self.inside in
    let found = subst (λ (s : List Slot). slice_get (those_left s) (q.start + c.args.place) ≡ Some c.nth_among.result) c.deref-slots.ensures.value c.nth_among.ensures in
    ap (λ (l : List ℕ). slice_get l c.args.place) (sym c.self.view_is) ∙ slot_is q.nodes.items q.slots q.start q.end q.whole c.self.invariant c.if-self.false c.args.place c.nth_among.result found

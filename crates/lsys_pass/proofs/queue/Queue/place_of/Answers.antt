use Rattle.std.proofs.Common.{◌≡◌, slice_get, ap, ◌∙◌, arith}
use Rattle.lsys_forest.proofs.WalkLemmas.{get_In, In_at}
use Rattle.lsys_pass.proofs.queue.Queue.place_of.Goals as goal

pub is_before-requires-clause-one : goal.is_before-requires-clause-one
is_before-requires-clause-one g c = c.requires.order.spots c.nth-in-loop-first.result (get_In c.args.self.now _ c.nth-in-loop-first.result c.nth-in-loop-first.ensures)

pub is_before-requires-clause-two : goal.is_before-requires-clause-two
is_before-requires-clause-two g c = c.requires.order.spots c.args.node c.requires.among

pub is_before-requires-clause-level : goal.is_before-requires-clause-level
is_before-requires-clause-level g c = c.requires.order.level c.args.node c.nth-in-loop-first.result c.requires.among (get_In c.args.self.now _ c.nth-in-loop-first.result c.nth-in-loop-first.ensures)

pub returns : goal.returns
returns g c =
    let i = In_at c.args.node c.args.self.now c.requires.among in
    let from = c.loop-first.invariant.from i.0 i.1 in
    let to = c.loop-first.invariant.to i.0 i.1 in
    let same : c.loop-first.first ≡ i.0 = (let l = c.loop-first-test.false in omega (arith, from, to, l)) in
    ap (slice_get c.args.self.now) same ∙ i.1

use Rattle.std.proofs.Common.{rules, arith}
use Rattle.lsys_pass.proofs.Queued.{halved, after_some, after_none, found_front, found_here, found_after_some, found_after_none}
use Rattle.lsys_pass.proofs.queue.+nth_among.Goals as goal

pub overflow_sub-before : goal.overflow_sub-before
overflow_sub-before t c =
    let count = (halved c.args.part.now c.index-part-middle.result c.args.place c.requires.counted c.requires.within c.index-part-middle.is).count in
    omega (arith, count)

pub nth_among-requires : goal.nth_among-requires
nth_among-requires t c =
    let h = halved c.args.part.now c.index-part-middle.result c.args.place c.requires.counted c.requires.within c.index-part-middle.is in
    let count = h.count in
    let less = c.if-place-before.true in
    (search rules, (h.front, omega (arith, count, less)))

pub nth_among-requires-in-Some-2 : goal.nth_among-requires-in-Some-2
nth_among-requires-in-Some-2 t c =
    let h = halved c.args.part.now c.index-part-middle.result c.args.place c.requires.counted c.requires.within c.index-part-middle.is in
    (search rules, after_some c.args.part.now _ c.in-Some-2.field-0 c.args.place h c.in-Some-2.is c.if-place-before.false c.if-place-before-2.false c.requires.within)

pub nth_among-requires-in-None : goal.nth_among-requires-in-None
nth_among-requires-in-None t c =
    let h = halved c.args.part.now c.index-part-middle.result c.args.place c.requires.counted c.requires.within c.index-part-middle.is in
    (search rules, after_none c.args.part.now _ c.args.place h c.in-None.is c.if-place-before.false c.requires.within)

pub returns-then-place-before : goal.returns-then-place-before
returns-then-place-before t c =
    let h = halved c.args.part.now c.index-part-middle.result c.args.place c.requires.counted c.requires.within c.index-part-middle.is in
    found_front c.args.part.now _ h c.args.place c.nth_among.result c.nth_among.ensures

pub returns-in-Some : goal.returns-in-Some
returns-in-Some t c =
    let h = halved c.args.part.now c.index-part-middle.result c.args.place c.requires.counted c.requires.within c.index-part-middle.is in
    found_here c.args.part.now _ h c.args.place c.in-Some.node c.in-Some.is c.if-place-before-2.true

pub returns-in-Some-2 : goal.returns-in-Some-2
returns-in-Some-2 t c =
    let h = halved c.args.part.now c.index-part-middle.result c.args.place c.requires.counted c.requires.within c.index-part-middle.is in
    found_after_some c.args.part.now _ c.in-Some-2.field-0 c.args.place c.nth_among-in-Some-2.result h c.in-Some-2.is c.if-place-before.false c.if-place-before-2.false c.nth_among-in-Some-2.ensures

pub returns-in-None : goal.returns-in-None
returns-in-None t c =
    let h = halved c.args.part.now c.index-part-middle.result c.args.place c.requires.counted c.requires.within c.index-part-middle.is in
    found_after_none c.args.part.now _ c.args.place c.nth_among-in-None.result h c.in-None.is c.if-place-before.false c.nth_among-in-None.ensures

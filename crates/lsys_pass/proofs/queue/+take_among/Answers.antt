use Rattle.std.proofs.Common.{rules, arith}
use Rattle.lsys_pass.proofs.Queued.{halved, after_some, after_none, more_gone, none_gone, front_within, taken_front, taken_here, taken_after_some, taken_after_none}
use Rattle.lsys_pass.proofs.queue.+take_among.Goals as goal

pub overflow_sub-before : goal.overflow_sub-before
overflow_sub-before t c =
    let count = (halved c.args.part.now c.index-part-middle.result c.args.place c.requires.counted c.requires.within c.index-part-middle.is).count in
    omega (arith, count)

pub take_among-requires : goal.take_among-requires
take_among-requires t c =
    let h = halved c.args.part.now c.index-part-middle.result c.args.place c.requires.counted c.requires.within c.index-part-middle.is in
    (search rules, front_within c.args.part.now _ _ c.args.place h c.if-place-before.true)

pub take_among-requires-in-Some-2 : goal.take_among-requires-in-Some-2
take_among-requires-in-Some-2 t c =
    let h = halved c.args.part.now c.index-part-middle.result c.args.place c.requires.counted c.requires.within c.index-part-middle.is in
    (search rules, after_some c.args.part.now _ c.in-Some-2.field-0 c.args.place h c.in-Some-2.is c.if-place-before.false c.if-place-before-2.false c.requires.within)

pub take_among-requires-in-None : goal.take_among-requires-in-None
take_among-requires-in-None t c =
    let h = halved c.args.part.now c.index-part-middle.result c.args.place c.requires.counted c.requires.within c.index-part-middle.is in
    (search rules, after_none c.args.part.now _ c.args.place h c.in-None.is c.if-place-before.false c.requires.within)

pub returns-then-place-before : goal.returns-then-place-before
returns-then-place-before t c =
    let h = halved c.args.part.now c.index-part-middle.result c.args.place c.requires.counted c.requires.within c.index-part-middle.is in
    let gone = more_gone c.args.part.now c.index-part-middle.result c.index-part-middle-then-place-before-2.result c.index-part-middle-then-place-before.result h c.index-part-middle.is in
    let taken = taken_front c.args.part.now _ _ c.args.place c.take_among.new.part h gone c.if-place-before.true c.take_among.auto.part c.take_among.ensures.counted c.take_among.ensures.left in
    record { counted = taken.counted; left = taken.left }

pub returns-in-Some : goal.returns-in-Some
returns-in-Some t c =
    let h = halved c.args.part.now c.index-part-middle.result c.args.place c.requires.counted c.requires.within c.index-part-middle.is in
    let gone = none_gone c.args.part.now c.index-part-middle.result c.index-part-middle-in-Some.result h c.index-part-middle.is in
    let taken = taken_here c.args.part.now _ _ c.in-Some.field-0 c.args.place h c.in-Some.is c.if-place-before-2.true gone in
    record { counted = taken.counted; left = taken.left }

pub returns-in-Some-2 : goal.returns-in-Some-2
returns-in-Some-2 t c =
    let h = halved c.args.part.now c.index-part-middle.result c.args.place c.requires.counted c.requires.within c.index-part-middle.is in
    let taken = taken_after_some c.args.part.now _ c.in-Some-2.field-0 c.args.place c.take_among-in-Some-2.new.part h c.index-part-middle.is c.in-Some-2.is c.if-place-before.false c.if-place-before-2.false c.take_among-in-Some-2.auto.part c.take_among-in-Some-2.ensures.counted c.take_among-in-Some-2.ensures.left in
    record { counted = taken.counted; left = taken.left }

pub returns-in-None : goal.returns-in-None
returns-in-None t c =
    let h = halved c.args.part.now c.index-part-middle.result c.args.place c.requires.counted c.requires.within c.index-part-middle.is in
    let taken = taken_after_none c.args.part.now _ c.args.place c.take_among-in-None.new.part h c.index-part-middle.is c.in-None.is c.if-place-before.false c.take_among-in-None.auto.part c.take_among-in-None.ensures.counted c.take_among-in-None.ensures.left in
    record { counted = taken.counted; left = taken.left }

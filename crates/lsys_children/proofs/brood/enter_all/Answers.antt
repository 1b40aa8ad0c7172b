use Rattle.std.proofs.Common.{◌≡◌, Some, length, slice_get, refl}
use Rattle.std.specs.HashMap.{get}
use Rattle.std.proofs.lemmas.Option.{slice_get_read}
use Rattle.lsys_forest.specs.Groves.{now_of}
use Rattle.lsys_children.specs.Matches.{same_child_number}
use Rattle.lsys_laws.proofs.Placed.{got_in}
use Rattle.lsys_children.proofs.MatchLemmas.{entered_next}
use Rattle.lsys_children.proofs.brood.enter_all.Goals as goal

pub number-requires-clause-lives : goal.number-requires-clause-lives
number-requires-clause-lives g c =
    let here = slice_get_read c.args.kids.now (length c.args.kids.now) c.loop-kid.kid-index c.kid-item.result refl c.loop-kid-test.true c.kid-item.is in
    (c.requires.kids c.kid-item.result (got_in c.args.kids.now c.loop-kid.kid-index c.kid-item.result here)).0

pub number-requires-clause-other : goal.number-requires-clause-other
number-requires-clause-other g c =
    let here = slice_get_read c.args.kids.now (length c.args.kids.now) c.loop-kid.kid-index c.kid-item.result refl c.loop-kid-test.true c.kid-item.is in
    (c.requires.kids c.kid-item.result (got_in c.args.kids.now c.loop-kid.kid-index c.kid-item.result here)).1

pub loop-kid-preserved : goal.loop-kid-preserved
loop-kid-preserved g c = λ q.
    let kids = c.args.kids.now in
    let at = c.loop-kid.kid-index in
    let kid = c.kid-item.result in
    let m = now_of c.args.forest.now in
    let here : slice_get kids at ≡ Some kid = slice_get_read kids (length kids) at kid refl c.loop-kid-test.true c.kid-item.is in
    entered_next m kids at kid c.number.result q (get same_child_number c.loop-kid.nodes q) (get same_child_number c.enter.new.nodes q) here (c.in_ok-enter.ensures q) c.number.ensures (c.loop-kid.invariant q)

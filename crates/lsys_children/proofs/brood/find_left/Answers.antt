use Rattle.std.proofs.Common.{arith, ◌≡◌, Some, length, slice_get, refl}
use Rattle.std.specs.Prelude.{is_some}
use Rattle.std.specs.HashMap.{get}
use Rattle.std.proofs.lemmas.Option.{slice_get_read}
use Rattle.std.proofs.lemmas.Grind.{common_steps, elements}
use Rattle.lsys_forest.specs.Groves.{now_of}
use Rattle.lsys_children.specs.Matches.{same_child_number}
use Rattle.lsys_laws.proofs.Placed.{got_in}
use Rattle.lsys_children.proofs.MatchLemmas.{left_next}
use Rattle.lsys_children.proofs.brood.find_left.Goals as goal

pub number-requires-clause-lives : goal.number-requires-clause-lives
number-requires-clause-lives g c =
    let here = slice_get_read c.args.kids.now (length c.args.kids.now) c.loop-kid.kid-index c.kid-item.result refl c.loop-kid-test.true c.kid-item.is in
    (c.requires.kids c.kid-item.result (got_in c.args.kids.now c.loop-kid.kid-index c.kid-item.result here)).0

pub number-requires-clause-other : goal.number-requires-clause-other
number-requires-clause-other g c =
    let here = slice_get_read c.args.kids.now (length c.args.kids.now) c.loop-kid.kid-index c.kid-item.result refl c.loop-kid-test.true c.kid-item.is in
    (c.requires.kids c.kid-item.result (got_in c.args.kids.now c.loop-kid.kid-index c.kid-item.result here)).1

pub loop-kid-preserved : goal.loop-kid-preserved
loop-kid-preserved g c =
    let kids = c.args.kids.now in
    let at = c.loop-kid.kid-index in
    let kid = c.kid-item.result in
    let m = now_of c.args.forest.now in
    let here : slice_get kids at ≡ Some kid = slice_get_read kids (length kids) at kid refl c.loop-kid-test.true c.kid-item.is in
    left_next (λ q. is_some (get same_child_number c.args.nodes.now q)) m kids at kid c.number.result c.loop-kid.gone.items c.put_left.new.gone.items here c.in_ok-put_left.ensures c.number.ensures c.loop-kid.invariant

pub returns : goal.returns
returns g c = grind (arith, elements)

pub returns-in_err-put_left : goal.returns-in_err-put_left
returns-in_err-put_left g c = grind (arith, common_steps)

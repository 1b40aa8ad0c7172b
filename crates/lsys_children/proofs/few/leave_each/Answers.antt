use Rattle.std.proofs.Common.{◌≡◌, Some, length, slice_get, refl, ap, ◌∙◌}
use Rattle.std.specs.Prelude.{not}
use Rattle.std.proofs.lemmas.Option.{slice_get_read}
use Rattle.lsys_forest.specs.Groves.{now_of}
use Rattle.lsys_children.specs.Matches.{has_number, nodes_without}
use Rattle.lsys_children.specs.Children.{numbers_of}
use Rattle.lsys_laws.proofs.Placed.{got_in}
use Rattle.lsys_children.proofs.MatchLemmas.{left_next, take_whole}
use Rattle.lsys_children.proofs.few.leave_each.Goals as goal

pub number-requires-clause-lives : goal.number-requires-clause-lives
number-requires-clause-lives g c =
    let here = slice_get_read c.args.kids.now (length c.args.kids.now) c.loop-kid.kid-index c.kid-item.result refl c.loop-kid-test.true c.kid-item.is in
    (c.requires.kids c.kid-item.result (got_in c.args.kids.now c.loop-kid.kid-index c.kid-item.result here)).0

pub number-requires-clause-other : goal.number-requires-clause-other
number-requires-clause-other g c =
    let here = slice_get_read c.args.kids.now (length c.args.kids.now) c.loop-kid.kid-index c.kid-item.result refl c.loop-kid-test.true c.kid-item.is in
    (c.requires.kids c.kid-item.result (got_in c.args.kids.now c.loop-kid.kid-index c.kid-item.result here)).1

pub loop-kid-preserved : goal.loop-kid-preserved
loop-kid-preserved g c =
    let kids = c.args.kids.now in
    let at = c.loop-kid.kid-index in
    let kid = c.kid-item.result in
    let here : slice_get kids at ≡ Some kid = slice_get_read kids (length kids) at kid refl c.loop-kid-test.true c.kid-item.is in
    left_next (λ q. not (has_number (numbers_of c.args.wanted.now) q)) (now_of c.args.forest.now) kids at kid c.number.result c.loop-kid.gone.items c.put_unwanted.new.gone.items here c.in_ok-put_unwanted.ensures c.number.ensures c.loop-kid.invariant

pub returns : goal.returns
returns g c =
    c.loop-kid.invariant ∙ ap (nodes_without (now_of c.args.forest.now) (numbers_of c.args.wanted.now)) (take_whole c.args.kids.now c.loop-kid.kid-index c.loop-kid-test.false)

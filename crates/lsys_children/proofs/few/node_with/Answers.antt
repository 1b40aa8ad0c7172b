use Rattle.std.proofs.Common.{◌≡◌, Some, length, slice_get, refl, ap, ◌∙◌}
use Rattle.std.specs.Prelude.{cond}
use Rattle.std.proofs.lemmas.Option.{slice_get_read}
use Rattle.lsys_forest.specs.Groves.{now_of}
use Rattle.lsys_children.specs.Matches.{node_numbered}
use Rattle.lsys_laws.proofs.Placed.{got_in}
use Rattle.lsys_children.proofs.MatchLemmas.{entered_next, take_whole}
use Rattle.lsys_children.proofs.few.node_with.Goals as goal

pub number-requires-clause-lives : goal.number-requires-clause-lives
number-requires-clause-lives g c =
    let here = slice_get_read c.args.kids.now (length c.args.kids.now) c.loop-kid.kid-index c.kid-item.result refl c.loop-kid-test.true c.kid-item.is in
    (c.requires.kids c.kid-item.result (got_in c.args.kids.now c.loop-kid.kid-index c.kid-item.result here)).0

pub number-requires-clause-other : goal.number-requires-clause-other
number-requires-clause-other g c =
    let here = slice_get_read c.args.kids.now (length c.args.kids.now) c.loop-kid.kid-index c.kid-item.result refl c.loop-kid-test.true c.kid-item.is in
    (c.requires.kids c.kid-item.result (got_in c.args.kids.now c.loop-kid.kid-index c.kid-item.result here)).1

pub loop-kid-preserved : goal.loop-kid-preserved
loop-kid-preserved g c =
    let kids = c.args.kids.now in
    let at = c.loop-kid.kid-index in
    let kid = c.kid-item.result in
    let here : slice_get kids at ≡ Some kid = slice_get_read kids (length kids) at kid refl c.loop-kid-test.true c.kid-item.is in
    entered_next (now_of c.args.forest.now) kids at kid c.number.result c.args.wanted c.loop-kid.found c.node_or-found.result here
    (c.node_or-found.ensures ∙ ap (λ b. cond b (Some kid) c.loop-kid.found) c.eq.ensures) c.number.ensures c.loop-kid.invariant

pub returns : goal.returns
returns g c =
    let kids = c.args.kids.now in
    c.loop-kid.invariant ∙ ap (λ ks. node_numbered (now_of c.args.forest.now) ks c.args.wanted) (take_whole kids c.loop-kid.kid-index c.loop-kid-test.false)

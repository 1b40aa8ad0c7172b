use Rattle.std.proofs.Common.{rules, ◌≡◌, ◌+◌, Some, length, slice_get, refl, ap, sym, ◌∙◌, subst, not}
use Rattle.std.proofs.lemmas.Option.{slice_get_read}
use Rattle.lsys_laws.specs.Kinds.{stays, reached}
use Rattle.lsys_level.specs.Views.{seen_of}
use Rattle.lsys_forest.specs.Groves.{now_of}
use Rattle.lsys_forest.proofs.SoundLemmas.{some_of}
use Rattle.lsys_forest.proofs.WalkLemmas.{get_In}
use Rattle.lsys_children.proofs.Walking.{IsWalked, walk_begins, walk_goes_on, walk_ends, few_more, kind_seen}
use Rattle.lsys_children.proofs.walk.walk_parents.Goals as goal

pub is_open-opens-requires-clause-lives : goal.is_open-opens-requires-clause-lives
is_open-opens-requires-clause-lives g c =
    c.requires.lives c.node-item.result (get_In c.args.nodes.now c.loop-node.node-index c.node-item.result (slice_get_read c.args.nodes.now (length c.args.nodes.now) c.loop-node.node-index c.node-item.result refl c.loop-node-test.true c.node-item.is))

pub is_open-opens-requires-clause-short : goal.is_open-opens-requires-clause-short
is_open-opens-requires-clause-short g c =
    c.requires.short c.node-item.result (get_In c.args.nodes.now c.loop-node.node-index c.node-item.result (slice_get_read c.args.nodes.now (length c.args.nodes.now) c.loop-node.node-index c.node-item.result refl c.loop-node-test.true c.node-item.is))

pub symbol-sight-requires : goal.symbol-sight-requires
symbol-sight-requires g c =
    c.requires.lives c.node-item.result (get_In c.args.nodes.now c.loop-node.node-index c.node-item.result (slice_get_read c.args.nodes.now (length c.args.nodes.now) c.loop-node.node-index c.node-item.result refl c.loop-node-test.true c.node-item.is))

pub loop-node-init : goal.loop-node-init
loop-node-init g c = walk_begins (now_of c.args.forest.now) c.args.nodes.now c.args.parents.now.items

pub loop-node-preserved : goal.loop-node-preserved
loop-node-preserved g c =
    let m = now_of c.args.forest.now in
    let ks = c.args.nodes.now in
    let i = c.loop-node.node-index in
    let k = c.node-item.result in
    let here : slice_get ks i ≡ Some k = slice_get_read ks (length ks) i k refl c.loop-node-test.true c.node-item.is in
    let n = some_of (m k) (c.requires.lives k (get_In ks i k here)) in
    let kind = kind_seen m k n.0 (seen_of c.symbol-sight.result) n.1 (c.symbol-sight.ensures.seen n.0 n.1) in
    subst (λ ps. IsWalked m ks (i + 1) c.args.parents.now.items ps c.reached-cutting.result c.either-any_opens.result) (sym c.in_ok-push.ensures.items)
    (walk_goes_on m ks i k c.args.parents.now.items c.loop-node.parents.items c.loop-node.cutting c.reached-cutting.result c.loop-node.any_opens c.is_open-opens.result c.either-any_opens.result
    (record { node = k; is_cut = not c.stays-is_cut.result })
    c.loop-node.invariant here c.is_open-opens.ensures
    (ap (λ b. record { node = k; is_cut = not b }) (c.stays-is_cut.ensures ∙ ap (stays c.loop-node.cutting) kind))
    (c.reached-cutting.ensures.reached ∙ ap (λ k. reached c.loop-node.cutting k c.is_open-opens.result) kind)
    (few_more i c.loop-node.cutting c.reached-cutting.result c.loop-node.invariant.few c.reached-cutting.ensures.few c.reached-cutting.ensures.first)
    c.either-any_opens.ensures)

pub returns-clause-parents : goal.returns-clause-parents
returns-clause-parents g c =
    (walk_ends (now_of c.args.forest.now) c.args.nodes.now c.loop-node.node-index c.args.parents.now.items c.loop-node.parents.items c.loop-node.cutting c.loop-node.any_opens (search rules) c.loop-node.invariant).0

pub returns-clause-closed : goal.returns-clause-closed
returns-clause-closed g c =
    (walk_ends (now_of c.args.forest.now) c.args.nodes.now c.loop-node.node-index c.args.parents.now.items c.loop-node.parents.items c.loop-node.cutting c.loop-node.any_opens (search rules) c.loop-node.invariant).1

use Rattle.std.proofs.Common.{◌≡◌, ◌+◌, ℕ, Some, take, length, refl, sym, ap, ◌∙◌, arith, slice_get, sum_by}
use Rattle.std.proofs.lemmas.Option.{slice_get_read}
use Rattle.std.proofs.lemmas.List.Sums.{sum_by_push}
use Rattle.lsys_forest.specs.Groves.{now_of}
use Rattle.lsys_forest.specs.Rows.{kids_in}
use Rattle.lsys_forest.proofs.SoundLemmas.{some_of}
use Rattle.lsys_forest.proofs.WalkLemmas.{get_In}
use Rattle.lsys_children.proofs.MatchLemmas.{take_next, take_whole}
use Rattle.lsys_front.proofs.parents.count_kids.Goals as goal

pub children-requires : goal.children-requires
children-requires g c =
    c.requires.lives c.node-item.result (get_In c.args.nodes.now c.loop-node.node-index c.node-item.result (slice_get_read c.args.nodes.now (length c.args.nodes.now) c.loop-node.node-index c.node-item.result refl c.loop-node-test.true c.node-item.is))

pub loop-node-preserved : goal.loop-node-preserved
loop-node-preserved g c =
    let m = now_of c.args.forest.now in
    let ks = c.args.nodes.now in
    let i = c.loop-node.node-index in
    let k = c.node-item.result in
    let here : slice_get ks i ≡ Some k = slice_get_read ks (length ks) i k refl c.loop-node-test.true c.node-item.is in
    let n = some_of (m k) (c.requires.lives k (get_In ks i k here)) in
    let one : length c.children.result.now ≡ length (kids_in (m k)) = ap (length {A = ℕ}) (c.children.ensures.kids n.0 n.1) ∙ sym (ap (λ o. length (kids_in o)) n.1) in
    let sum : sum_by (λ k. length (kids_in (m k))) (take (i + 1) ks) ≡ sum_by (λ k. length (kids_in (m k))) (take i ks) + length (kids_in (m k)) =
    ap (sum_by (λ k. length (kids_in (m k)))) (take_next ks i k here) ∙ sum_by_push (λ k. length (kids_in (m k))) (take i ks) k in
    let was = c.loop-node.invariant in
    omega (arith, one, sum, was)

pub returns : goal.returns
returns g c =
    c.loop-node.invariant ∙ ap (sum_by (λ k. length (kids_in (now_of c.args.forest.now k)))) (take_whole c.args.nodes.now c.loop-node.node-index c.loop-node-test.false)

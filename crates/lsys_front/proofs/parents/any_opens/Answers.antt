use Rattle.std.proofs.Common.{arith, ◌≡◌, Some, length, slice_get, refl, sym, ap, ◌∙◌, inl, inr}
use Rattle.std.proofs.lemmas.Option.{slice_get_read}
use Rattle.std.proofs.lemmas.Grind.{common_steps}
use Rattle.lsys_laws.specs.Children.{is_open}
use Rattle.lsys_forest.specs.Groves.{now_of}
use Rattle.lsys_forest.proofs.WalkLemmas.{get_In}
use Rattle.lsys_reads.proofs.SeamLemmas.{in_taken_next, in_all_taken, none_taken}
use Rattle.lsys_children.specs.Answers.{kept_successors}
use Rattle.lsys_front.proofs.parents.any_opens.Goals as goal

pub loop-node-init : goal.loop-node-init
loop-node-init g c = λ k i. absurd (none_taken c.args.nodes.now k i)

pub is_open-requires-clause-lives : goal.is_open-requires-clause-lives
is_open-requires-clause-lives g c =
    c.requires.lives c.node-item.result (get_In c.args.nodes.now c.loop-node.node-index c.node-item.result (slice_get_read c.args.nodes.now (length c.args.nodes.now) c.loop-node.node-index c.node-item.result refl c.loop-node-test.true c.node-item.is))

pub is_open-requires-clause-short : goal.is_open-requires-clause-short
is_open-requires-clause-short g c =
    c.requires.short c.node-item.result (get_In c.args.nodes.now c.loop-node.node-index c.node-item.result (slice_get_read c.args.nodes.now (length c.args.nodes.now) c.loop-node.node-index c.node-item.result refl c.loop-node-test.true c.node-item.is))

pub returns-then-is_open-clause-one : goal.returns-then-is_open-clause-one
returns-then-is_open-clause-one g c =
    λ yes. (c.node-item.result, get_In c.args.nodes.now c.loop-node.node-index c.node-item.result (slice_get_read c.args.nodes.now (length c.args.nodes.now) c.loop-node.node-index c.node-item.result refl c.loop-node-test.true c.node-item.is), sym c.is_open.ensures ∙ c.if-is_open.true)

pub loop-node-preserved : goal.loop-node-preserved
loop-node-preserved g c =
    let m = now_of c.args.forest.now in
    let ks = c.args.nodes.now in
    let i = c.loop-node.node-index in
    let x = c.node-item.result in
    let here : slice_get ks i ≡ Some x = slice_get_read ks (length ks) i x refl c.loop-node-test.true c.node-item.is in
    λ k t. elim (in_taken_next ks i x k here t) [
      | inl before ↦ c.loop-node.invariant k before
      | inr same ↦ ap (λ k. is_open (kept_successors m k)) same ∙ sym c.is_open.ensures ∙ c.if-is_open.false
    ]

pub returns-clause-none : goal.returns-clause-none
returns-clause-none g c = λ no k i. c.loop-node.invariant k (in_all_taken c.args.nodes.now c.loop-node.node-index k c.loop-node-test.false i)

pub returns-then-is_open-clause-none : goal.returns-then-is_open-clause-none
returns-then-is_open-clause-none g c = grind (arith, common_steps)

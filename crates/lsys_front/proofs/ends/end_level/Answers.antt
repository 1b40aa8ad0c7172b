use Rattle.std.proofs.Common.{◌≡◌, ◌++◌, [], ap, ◌∙◌, sym, subst, refl, arith, Some, length, slice_get, take, append-nil}
use Rattle.std.specs.Prelude.{IsSome}
use Rattle.std.proofs.lemmas.Option.{slice_get_read}
use Rattle.lsys_spec.specs.Rows.{In}
use Rattle.lsys_forest.specs.Nodes.{Nodes}
use Rattle.lsys_forest.specs.Groves.{now_of, changes_in}
use Rattle.lsys_forest.specs.Answers.{answers}
use Rattle.lsys_forest.specs.Rows.{kids_below}
use Rattle.lsys_forest.proofs.ChainLemmas.{taken_apart, take_whole}
use Rattle.lsys_forest.proofs.WalkLemmas.{get_In}
use Rattle.lsys_front.specs.Ends.{AreEnded, answered_in}
use Rattle.lsys_front.proofs.Losing.{loses_on, loses_no_answer}
use Rattle.lsys_front.proofs.Ending.{ended_none, ended_next, below_next, answered_next}
use Rattle.lsys_front.proofs.ends.end_level.Goals as goal

pub returns-in_err-reserve-clause-loses : goal.returns-in_err-reserve-clause-loses
returns-in_err-reserve-clause-loses g c =
    let e = c.reserve.ensures in
    loses_no_answer c.args.forest.now c.reserve.new.self (ap (λ m. answers m (changes_in c.reserve.new.self)) e.now ∙ ap (answers (now_of c.args.forest.now)) e.changes) e.rest e.root (omega (arith, e.others.live))

pub loop-node-init : goal.loop-node-init
loop-node-init g c =
    let e = c.reserve.ensures in
    record {
      ended = subst (λ (m : Nodes _). AreEnded (now_of c.args.forest.now) m []) (sym e.now) (ended_none (now_of c.args.forest.now));
      below = sym (append-nil c.args.below.now.items);
      dropped = sym (append-nil c.args.dropped.now.items);
      loses = loses_no_answer c.args.forest.now c.reserve.new.self (ap (λ m. answers m (changes_in c.reserve.new.self)) e.now ∙ ap (answers (now_of c.args.forest.now)) e.changes) e.rest e.root (omega (arith, e.others.live));
      notes = let n = c.in_ok-reserve.ensures.notes in omega (arith, n);
    }

pub end_node-requires-clause-lives : goal.end_node-requires-clause-lives
end_node-requires-clause-lives g c =
    let xs = c.args.nodes.now in
    let i = c.loop-node.node-index in
    let x = c.node-item.result in
    let here : slice_get xs i ≡ Some x = slice_get_read xs (length xs) i x refl c.loop-node-test.true c.node-item.is in
    let new : In x (take i xs) → ⊥ = λ h. taken_apart xs i x x c.requires.apart here h refl in
    subst IsSome (sym (c.loop-node.invariant.ended.others x new)) (c.requires.lives x (get_In xs i x here))

pub returns-in_err-end_node-clause-loses : goal.returns-in_err-end_node-clause-loses
returns-in_err-end_node-clause-loses g c = loses_on c.args.forest.now c.loop-node.forest c.end_node.new.forest c.loop-node.invariant.loses c.end_node.ensures.loses

pub loop-node-preserved : goal.loop-node-preserved
loop-node-preserved g c =
    let xs = c.args.nodes.now in
    let i = c.loop-node.node-index in
    let x = c.node-item.result in
    let m = now_of c.args.forest.now in
    let o = now_of c.loop-node.forest in
    let here : slice_get xs i ≡ Some x = slice_get_read xs (length xs) i x refl c.loop-node-test.true c.node-item.is in
    let new : In x (take i xs) → ⊥ = λ h. taken_apart xs i x x c.requires.apart here h refl in
    let so = c.loop-node.invariant in
    let done = c.in_ok-end_node.ensures in
    let same = so.ended.others x new in
    record {
      ended = ended_next m o (now_of c.end_node.new.forest) xs i x here new so.ended done.ended;
      below = below_next m o xs i x c.args.below.now.items c.loop-node.below.items c.end_node.new.below.items here same so.below done.below;
      dropped = answered_next m o xs i x c.args.dropped.now.items c.loop-node.dropped.items c.end_node.new.dropped.items here same so.dropped done.dropped;
      loses = loses_on c.args.forest.now c.loop-node.forest c.end_node.new.forest so.loses c.end_node.ensures.loses;
      notes = let n = c.end_node.ensures.notes in let b = so.notes in omega (arith, n, b);
    }

pub returns-clause-ended : goal.returns-clause-ended
returns-clause-ended g c =
    subst (λ ks. AreEnded (now_of c.args.forest.now) (now_of c.loop-node.forest) ks) (take_whole c.args.nodes.now c.loop-node.node-index c.loop-node-test.false) c.loop-node.invariant.ended

pub returns-clause-below : goal.returns-clause-below
returns-clause-below g c =
    c.loop-node.invariant.below ∙ ap (λ ks. c.args.below.now.items ++ kids_below (now_of c.args.forest.now) ks) (take_whole c.args.nodes.now c.loop-node.node-index c.loop-node-test.false)

pub returns-clause-dropped : goal.returns-clause-dropped
returns-clause-dropped g c =
    c.loop-node.invariant.dropped ∙ ap (λ ks. c.args.dropped.now.items ++ answered_in (now_of c.args.forest.now) ks) (take_whole c.args.nodes.now c.loop-node.node-index c.loop-node-test.false)

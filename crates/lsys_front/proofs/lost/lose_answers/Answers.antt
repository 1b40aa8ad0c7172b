use Rattle.std.proofs.Common.{◌≡◌, Some, length, slice_get, take, refl, subst, arith}
use Rattle.std.proofs.lemmas.Option.{slice_get_read}
use Rattle.lsys_forest.specs.Groves.{now_of}
use Rattle.lsys_forest.proofs.ChainLemmas.{take_whole}
use Rattle.lsys_forest.proofs.WalkLemmas.{get_In}
use Rattle.lsys_front.specs.Asks.{Loses}
use Rattle.lsys_front.proofs.Losing.{loses_on}
use Rattle.lsys_front.proofs.LostAnswers.{loses_reserved, loses_none_of, loses_next, lives_on}
use Rattle.lsys_front.proofs.lost.lose_answers.Goals as goal

pub returns-in_err-reserve-clause-only : goal.returns-in_err-reserve-clause-only
returns-in_err-reserve-clause-only g c =
    let e = c.reserve.ensures in
    loses_reserved c.args.forest.now c.reserve.new.self e.now e.changes e.rest e.root e.others.live

pub returns-in_err-reserve-2-clause-only : goal.returns-in_err-reserve-2-clause-only
returns-in_err-reserve-2-clause-only g c =
    let e = c.reserve.ensures in
    loses_reserved c.args.forest.now c.reserve.new.self e.now e.changes e.rest e.root e.others.live

pub returns-in_err-reserve-3-clause-only : goal.returns-in_err-reserve-3-clause-only
returns-in_err-reserve-3-clause-only g c =
    let e = c.reserve.ensures in
    loses_reserved c.args.forest.now c.reserve.new.self e.now e.changes e.rest e.root e.others.live

pub loop-node-init : goal.loop-node-init
loop-node-init g c =
    let e = c.reserve.ensures in
    record {
      loses = loses_none_of c.args.system.now c.args.level (now_of c.args.forest.now) (now_of c.reserve.new.self) c.args.bare.now.items c.reserve-2.new.self.items c.args.dropped.now.items c.reserve-3.new.self.items
          e.now c.reserve-2.ensures.items c.reserve-3.ensures.items;
      only = loses_reserved c.args.forest.now c.reserve.new.self e.now e.changes e.rest e.root e.others.live;
      notes = let n = c.in_ok-reserve.ensures.notes in omega (arith, n);
      places = let n = c.in_ok-reserve-2.ensures.ok in omega (arith, n);
      tags = let n = c.in_ok-reserve-3.ensures.ok in omega (arith, n);
    }

pub lose_answer-requires-clause-lives : goal.lose_answer-requires-clause-lives
lose_answer-requires-clause-lives g c =
    let xs = c.args.nodes.now in
    let i = c.loop-node.node-index in
    let x = c.node-item.result in
    let here : slice_get xs i ≡ Some x = slice_get_read xs (length xs) i x refl c.loop-node-test.true c.node-item.is in
    lives_on c.args.system.now c.args.level (now_of c.args.forest.now) (now_of c.loop-node.forest) (take i xs) c.args.bare.now.items c.loop-node.bare.items c.args.dropped.now.items c.loop-node.dropped.items
    c.loop-node.invariant.loses x (c.requires.lives x (get_In xs i x here))

pub loop-node-preserved : goal.loop-node-preserved
loop-node-preserved g c =
    let xs = c.args.nodes.now in
    let i = c.loop-node.node-index in
    let x = c.node-item.result in
    let here : slice_get xs i ≡ Some x = slice_get_read xs (length xs) i x refl c.loop-node-test.true c.node-item.is in
    let so = c.loop-node.invariant in
    let e = c.lose_answer.ensures in
    record {
      loses = loses_next c.args.system.now c.args.level (now_of c.args.forest.now) (now_of c.loop-node.forest) (now_of c.lose_answer.new.forest) xs i x
          c.args.bare.now.items c.loop-node.bare.items c.lose_answer.new.bare.items c.args.dropped.now.items c.loop-node.dropped.items c.lose_answer.new.dropped.items here so.loses e.loses;
      only = loses_on c.args.forest.now c.loop-node.forest c.lose_answer.new.forest so.only e.only;
      notes = let a = so.notes in let b = e.notes in omega (arith, a, b);
      places = let a = so.places in let b = e.places in omega (arith, a, b);
      tags = let a = so.tags in let b = e.tags in omega (arith, a, b);
    }

pub returns-clause-loses : goal.returns-clause-loses
returns-clause-loses g c =
    subst (λ ks. Loses c.args.system.now c.args.level (now_of c.args.forest.now) (now_of c.loop-node.forest) ks c.args.bare.now.items c.loop-node.bare.items c.args.dropped.now.items c.loop-node.dropped.items)
    (take_whole c.args.nodes.now c.loop-node.node-index c.loop-node-test.false) c.loop-node.invariant.loses

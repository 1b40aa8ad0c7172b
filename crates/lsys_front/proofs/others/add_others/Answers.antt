use Rattle.std.proofs.Common.{◌≡◌, Some, length, slice_get, [], ◌∷◌, refl, ◌∙◌, subst}
use Rattle.std.proofs.lemmas.Option.{slice_get_read}
use Rattle.lsys_forest.specs.Groves.{now_of}
use Rattle.lsys_reads.proofs.LevelLemmas.{got_in}
use Rattle.lsys_front.specs.Others.{RulesOf, IsOtherwise}
use Rattle.lsys_front.specs.Questioned.{AddsOf}
use Rattle.lsys_front.proofs.Adding.{adds_start, adds_next, adds_all}
use Rattle.lsys_front.proofs.others.add_others.Goals as goal

pub add_if_other-requires : goal.add_if_other-requires
add_if_other-requires g c =
    let xs = c.args.nodes.now in
    let i = c.loop-node.node-index in
    let x = c.node-item.result in
    let here : slice_get xs i ≡ Some x = slice_get_read xs (length xs) i x refl c.loop-node-test.true c.node-item.is in
    c.requires x (got_in xs i x here)

pub loop-node-init : goal.loop-node-init
loop-node-init g c = record { rules = refl; adds = adds_start (IsOtherwise c.args.rules.now (now_of c.args.forest.now)) c.args.nodes.now c.args.others.now.items }

pub loop-node-preserved : goal.loop-node-preserved
loop-node-preserved g c =
    let xs = c.args.nodes.now in
    let i = c.loop-node.node-index in
    let x = c.node-item.result in
    let here : slice_get xs i ≡ Some x = slice_get_read xs (length xs) i x refl c.loop-node-test.true c.node-item.is in
    let was = c.loop-node.invariant in
    record {
      rules = c.add_if_other.ensures.same ∙ was.rules;
      adds = adds_next (IsOtherwise c.args.rules.now (now_of c.args.forest.now)) xs i x c.args.others.now.items c.loop-node.others.items c.add_if_other.new.others.items here was.adds
          (subst (λ (r : RulesOf). AddsOf (IsOtherwise r (now_of c.args.forest.now)) (x ∷ []) c.loop-node.others.items c.add_if_other.new.others.items) was.rules c.in_ok-add_if_other.ensures.adds);
    }

pub returns-in_err-add_if_other-clause-same : goal.returns-in_err-add_if_other-clause-same
returns-in_err-add_if_other-clause-same g c = c.add_if_other.ensures.same ∙ c.loop-node.invariant.rules

pub returns-clause-adds : goal.returns-clause-adds
returns-clause-adds g c = adds_all (IsOtherwise c.args.rules.now (now_of c.args.forest.now)) c.args.nodes.now c.loop-node.node-index c.args.others.now.items c.loop-node.others.items c.loop-node-test.false c.loop-node.invariant.adds

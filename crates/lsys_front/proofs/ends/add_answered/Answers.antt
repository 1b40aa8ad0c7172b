use Rattle.std.proofs.Common.{arith, ◌≡◌, sym, subst, refl, Some, length, slice_get}
use Rattle.std.proofs.lemmas.Option.{slice_get_read}
use Rattle.std.proofs.lemmas.Grind.{common_steps, elements}
use Rattle.lsys_forest.specs.Groves.{IsLive}
use Rattle.lsys_forest.proofs.WalkLemmas.{get_In}
use Rattle.lsys_front.proofs.ends.add_answered.Goals as goal

pub keeps_answer-requires : goal.keeps_answer-requires
keeps_answer-requires g c =
    let xs = c.args.nodes.now in
    let i = c.loop-node.node-index in
    let x = c.node-item.result in
    let here : slice_get xs i ≡ Some x = slice_get_read xs (length xs) i x refl c.loop-node-test.true c.node-item.is in
    subst (λ k. IsLive c.args.forest.now k) (sym c.node.view_is) (c.requires.lives x (get_In xs i x here))

pub returns : goal.returns
returns g c = grind (arith, elements)

pub loop-node-preserved : goal.loop-node-preserved
loop-node-preserved g c = grind (arith, common_steps)

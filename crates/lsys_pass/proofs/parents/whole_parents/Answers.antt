use Rattle.std.proofs.Common.{◌≡◌, ◌++◌, ◌∷◌, [], List, Some, length, slice_get, refl, sym, ap, ◌∙◌, arith}
use Rattle.std.proofs.lemmas.Option.{slice_get_read}
use Rattle.lsys_children.specs.declared.parent.Parent.{Parent}
use Rattle.lsys_children.specs.Parents.{uncut}
use Rattle.lsys_pass.proofs.NextParents.{whole_more, whole_all}
use Rattle.lsys_pass.proofs.parents.whole_parents.Goals as goal

pub loop-node-preserved : goal.loop-node-preserved
loop-node-preserved c =
    let xs = c.args.nodes.now in
    let i = c.loop-node.node-index in
    let x = c.node-item.result in
    let here : slice_get xs i ≡ Some x = slice_get_read xs (length xs) i x refl c.loop-node-test.true c.node-item.is in
    c.in_ok-push.ensures.items ∙ ap (λ (ps : List Parent). ps ++ uncut x ∷ []) c.loop-node.invariant ∙ sym (whole_more xs i x here)

pub returns : goal.returns
returns c = let end = c.loop-node-test.false in c.loop-node.invariant ∙ whole_all c.args.nodes.now c.loop-node.node-index (omega (arith, end))

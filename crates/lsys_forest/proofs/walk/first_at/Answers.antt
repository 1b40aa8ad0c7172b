use Rattle.std.proofs.Common.{◌≡◌, ◌+◌, ◌-◌, [], suc, ap, ◌∙◌, arith}
use Rattle.lsys_spec.specs.Rows.{first_in}
use Rattle.lsys_forest.specs.Stocks.{nodes_of}
use Rattle.lsys_forest.specs.Rows.{level_nodes}
use Rattle.lsys_forest.proofs.walk.first_at.Goals as goal

pub loop-depth-preserved : goal.loop-depth-preserved
loop-depth-preserved g c =
    let m = nodes_of c.args.parts.now in
    let d = c.loop-depth.depth in
    let here : d + 1 - 1 ≡ d = omega arith in
    let next : suc d ≡ d + 1 = omega arith in
    c.first_child-at.ensures [] (level_nodes m c.args.root d) (ap (λ t. level_nodes m c.args.root t) here) c.loop-depth.invariant ∙ ap (λ t. first_in (level_nodes m c.args.root t)) next

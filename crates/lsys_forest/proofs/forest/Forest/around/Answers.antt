use Rattle.std.proofs.Common.{◌≡◌, ◌+◌, ◌<◌, sym, ◌∙◌, subst, arith}
use Rattle.lsys_spec.specs.Rows.{mirrored}
use Rattle.lsys_level.specs.Spots.{IsSpot}
use Rattle.lsys_forest.specs.declared.walk.Way.TheVariants.{Left, Right}
use Rattle.lsys_forest.specs.Stocks.{changes_of}
use Rattle.lsys_forest.specs.Groves.{Grove}
use Rattle.lsys_forest.specs.Neighbours.{IsLeftNode, IsRightNode}
use Rattle.lsys_forest.specs.Rows.{complete_levels, level_of_node, place_of_node}
use Rattle.lsys_forest.proofs.ViewLemmas.{node_at, left_match, left_way, right_match}
use Rattle.lsys_forest.proofs.GroveLemmas.{sound_now}
use Rattle.lsys_forest.proofs.forest.Forest.around.Goals as goal

pub returns-then-depth-self-clause-left : goal.returns-then-depth-self-clause-left
returns-then-depth-self-clause-left g c =
    let i = c.self.inside in
    let F : Grove g.row.A.Denot = record { stock = i.parts; root = i.root; spare_nodes = i.spare_nodes; spare_notes = i.spare_notes } in
    let k = c.args.spot in
    let sound = sound_now c.self.invariant.grove in
    let spot = subst (λ (f : Grove g.row.A.Denot). IsSpot (complete_levels f) (level_of_node f k) (place_of_node f k)) (sym c.self.view_is) c.requires in
    let at = node_at F (changes_of i.parts) k sound spot in
    let depth : c.depth.result ≡ level_of_node F k + 1 = subst (λ (f : Grove g.row.A.Denot). c.depth.result ≡ level_of_node f k + 1) (sym c.self.view_is) c.depth.ensures in
    let within : level_of_node F k < i.linked = omega (arith, depth, c.if-depth-self.true) in
    let link = c.self.invariant.linked (level_of_node F k) k Left (mirrored at.after) (mirrored at.before) within (left_way _ at.before k at.after at.level) in
    subst (λ (f : Grove g.row.A.Denot). IsLeftNode f k c.linked_around.result.left) c.self.view_is
    (left_match F (changes_of i.parts) k c.linked_around.result.left sound at (c.linked_around.ensures.left ∙ link))

pub returns-then-depth-self-clause-right : goal.returns-then-depth-self-clause-right
returns-then-depth-self-clause-right g c =
    let i = c.self.inside in
    let F : Grove g.row.A.Denot = record { stock = i.parts; root = i.root; spare_nodes = i.spare_nodes; spare_notes = i.spare_notes } in
    let k = c.args.spot in
    let sound = sound_now c.self.invariant.grove in
    let spot = subst (λ (f : Grove g.row.A.Denot). IsSpot (complete_levels f) (level_of_node f k) (place_of_node f k)) (sym c.self.view_is) c.requires in
    let at = node_at F (changes_of i.parts) k sound spot in
    let depth : c.depth.result ≡ level_of_node F k + 1 = subst (λ (f : Grove g.row.A.Denot). c.depth.result ≡ level_of_node f k + 1) (sym c.self.view_is) c.depth.ensures in
    let within : level_of_node F k < i.linked = omega (arith, depth, c.if-depth-self.true) in
    let link = c.self.invariant.linked (level_of_node F k) k Right at.before at.after within at.level in
    subst (λ (f : Grove g.row.A.Denot). IsRightNode f k c.linked_around.result.right) c.self.view_is
    (right_match F (changes_of i.parts) k c.linked_around.result.right sound at (c.linked_around.ensures.right ∙ link))

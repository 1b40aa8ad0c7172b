use Rattle.std.proofs.Common.{inl, [], true, ◌≡◌, ◌∷◌, ◌+◌, ◌-◌, Some, refl, sym, ap, ◌∙◌, subst, arith}
use Rattle.std.specs.Prelude.{IsSome}
use Rattle.lsys_spec.specs.Rows.{In}
use Rattle.lsys_level.specs.Spots.{IsSpot, IsBracketAt, IsMate, spots_at, level_by}
use Rattle.lsys_forest.specs.Nodes.{Node, seen_as}
use Rattle.lsys_forest.specs.Stocks.{nodes_of, changes_of, row_at}
use Rattle.lsys_forest.specs.Groves.{Grove}
use Rattle.lsys_spec.specs.Levels.{level_balanced}
use Rattle.lsys_forest.specs.Mates.{IsBracketThat, IsMateThat, mate_way}
use Rattle.lsys_forest.specs.Rows.{level_spots, level_nodes, complete_levels, level_of_node, place_of_node}
use Rattle.lsys_forest.proofs.StockLemmas.{stored_of}
use Rattle.lsys_forest.proofs.RowLemmas.{In_right}
use Rattle.lsys_forest.proofs.ViewLemmas.{bracket_way, mate_told, mate_level, node_at}
use Rattle.lsys_forest.proofs.GroveLemmas.{sound_now}
use Rattle.lsys_forest.proofs.forest.ForestLevelView.mate.Goals as goal

pub kind-requires : goal.kind-requires
kind-requires g c =
    let i = c.self.inside in
    let F : Grove g.row.A.Denot = record { stock = i.parts; root = i.root; spare_nodes = i.spare_nodes; spare_notes = i.spare_notes } in
    let k = c.args.spot in
    let spot = subst (λ (f : Grove g.row.A.Denot). IsSpot (complete_levels f) (level_of_node f c.args.spot) (place_of_node f c.args.spot)) (sym c.self.view_is) c.requires.spot in
    let at = node_at F (changes_of i.parts) c.args.spot (sound_now c.self.invariant.grove) spot in
    subst IsSome (sym at.is) refl

pub mate_of-requires-clause-sound : goal.mate_of-requires-clause-sound
mate_of-requires-clause-sound g c = sound_now c.self.invariant.grove

pub mate_of-requires-clause-numbers : goal.mate_of-requires-clause-numbers
mate_of-requires-clause-numbers g c = omega (arith, c.self.invariant.grove.numbers)

pub mate_of-requires-clause-among : goal.mate_of-requires-clause-among
mate_of-requires-clause-among g c =
    let i = c.self.inside in
    let F : Grove g.row.A.Denot = record { stock = i.parts; root = i.root; spare_nodes = i.spare_nodes; spare_notes = i.spare_notes } in
    let k = c.args.spot in
    let spot = subst (λ (f : Grove g.row.A.Denot). IsSpot (complete_levels f) (level_of_node f c.args.spot) (place_of_node f c.args.spot)) (sym c.self.view_is) c.requires.spot in
    let at = node_at F (changes_of i.parts) c.args.spot (sound_now c.self.invariant.grove) spot in
    let depth : c.depth.result ≡ level_of_node F k + 1 = subst (λ (f : Grove g.row.A.Denot). c.depth.result ≡ level_of_node f k + 1) (sym c.self.view_is) c.depth.ensures in
    let t : level_of_node F k ≡ c.depth.result - 1 = omega (arith, depth) in
    subst (λ d. In k (level_nodes (nodes_of i.parts) i.root d)) t (subst (In k) (sym at.level) (In_right k at.before (k ∷ at.after) (inl refl)))

pub mate_of-requires-clause-balanced : goal.mate_of-requires-clause-balanced
mate_of-requires-clause-balanced g c =
    let i = c.self.inside in
    let F : Grove g.row.A.Denot = record { stock = i.parts; root = i.root; spare_nodes = i.spare_nodes; spare_notes = i.spare_notes } in
    let k = c.args.spot in
    let spot = subst (λ (f : Grove g.row.A.Denot). IsSpot (complete_levels f) (level_of_node f c.args.spot) (place_of_node f c.args.spot)) (sym c.self.view_is) c.requires.spot in
    let at = node_at F (changes_of i.parts) c.args.spot (sound_now c.self.invariant.grove) spot in
    let depth : c.depth.result ≡ level_of_node F k + 1 = subst (λ (f : Grove g.row.A.Denot). c.depth.result ≡ level_of_node f k + 1) (sym c.self.view_is) c.depth.ensures in
    let t : level_of_node F k ≡ c.depth.result - 1 = omega (arith, depth) in
    subst (λ d. level_balanced 0 (level_by (λ tag. []) (level_spots (nodes_of i.parts) i.root d)) ≡ true) t at.told_is.balanced

pub mate_of-requires-clause-bracket : goal.mate_of-requires-clause-bracket
mate_of-requires-clause-bracket g c =
    let i = c.self.inside in
    let F : Grove g.row.A.Denot = record { stock = i.parts; root = i.root; spare_nodes = i.spare_nodes; spare_notes = i.spare_notes } in
    let k = c.args.spot in
    let spot = subst (λ (f : Grove g.row.A.Denot). IsSpot (complete_levels f) (level_of_node f c.args.spot) (place_of_node f c.args.spot)) (sym c.self.view_is) c.requires.spot in
    let at = node_at F (changes_of i.parts) c.args.spot (sound_now c.self.invariant.grove) spot in
    let s = stored_of i.parts.slots i.parts.params i.parts.kids k at.node at.is in
    let kind = c.kind.ensures s.0 s.1 in
    let seen : at.node.seen ≡ seen_as c.kind.result (row_at i.parts.params k) = sym (ap (λ (x : Node g.row.A.Denot). x.seen) s.2) ∙ ap (λ y. seen_as y (row_at i.parts.params k)) (sym kind) in
    let asked = subst (λ (f : Grove g.row.A.Denot). IsBracketAt (spots_at (complete_levels f) (level_of_node f k)) (place_of_node f k)) (sym c.self.view_is) c.requires.bracket in
    subst (λ w. IsBracketThat w (nodes_of i.parts k)) (sym c.way_to_mate-way.ensures) (subst (IsBracketThat (mate_way c.kind.result)) (sym at.is) (bracket_way F k at c.kind.result (row_at i.parts.params k) seen asked))

pub returns-clause-level : goal.returns-clause-level
returns-clause-level g c =
    let i = c.self.inside in
    let F : Grove g.row.A.Denot = record { stock = i.parts; root = i.root; spare_nodes = i.spare_nodes; spare_notes = i.spare_notes } in
    let k = c.args.spot in
    let spot = subst (λ (f : Grove g.row.A.Denot). IsSpot (complete_levels f) (level_of_node f c.args.spot) (place_of_node f c.args.spot)) (sym c.self.view_is) c.requires.spot in
    let at = node_at F (changes_of i.parts) c.args.spot (sound_now c.self.invariant.grove) spot in
    let depth : c.depth.result ≡ level_of_node F k + 1 = subst (λ (f : Grove g.row.A.Denot). c.depth.result ≡ level_of_node f k + 1) (sym c.self.view_is) c.depth.ensures in
    let t : c.depth.result - 1 ≡ level_of_node F k = omega (arith, depth) in
    let mates = subst (λ d. IsMateThat c.way_to_mate-way.result (nodes_of i.parts) (level_nodes (nodes_of i.parts) i.root d) k c.mate_of.result) t c.mate_of.ensures in
    subst (λ (f : Grove g.row.A.Denot). level_of_node f c.mate_of.result ≡ level_of_node f k) c.self.view_is (mate_level F (changes_of i.parts) c.way_to_mate-way.result k c.mate_of.result (sound_now c.self.invariant.grove) mates)

pub returns-clause-mate : goal.returns-clause-mate
returns-clause-mate g c =
    let i = c.self.inside in
    let F : Grove g.row.A.Denot = record { stock = i.parts; root = i.root; spare_nodes = i.spare_nodes; spare_notes = i.spare_notes } in
    let k = c.args.spot in
    let spot = subst (λ (f : Grove g.row.A.Denot). IsSpot (complete_levels f) (level_of_node f c.args.spot) (place_of_node f c.args.spot)) (sym c.self.view_is) c.requires.spot in
    let at = node_at F (changes_of i.parts) c.args.spot (sound_now c.self.invariant.grove) spot in
    let depth : c.depth.result ≡ level_of_node F k + 1 = subst (λ (f : Grove g.row.A.Denot). c.depth.result ≡ level_of_node f k + 1) (sym c.self.view_is) c.depth.ensures in
    let t : c.depth.result - 1 ≡ level_of_node F k = omega (arith, depth) in
    let mates = subst (λ d. IsMateThat c.way_to_mate-way.result (nodes_of i.parts) (level_nodes (nodes_of i.parts) i.root d) k c.mate_of.result) t c.mate_of.ensures in
    let s = stored_of i.parts.slots i.parts.params i.parts.kids k at.node at.is in
    let kind = c.kind.ensures s.0 s.1 in
    let seen : at.node.seen ≡ seen_as c.kind.result (row_at i.parts.params k) = sym (ap (λ (x : Node g.row.A.Denot). x.seen) s.2) ∙ ap (λ y. seen_as y (row_at i.parts.params k)) (sym kind) in
    let asked = subst (λ (f : Grove g.row.A.Denot). IsBracketAt (spots_at (complete_levels f) (level_of_node f k)) (place_of_node f k)) (sym c.self.view_is) c.requires.bracket in
    let bracket = subst (λ w. IsBracketThat w (Some at.node)) (sym c.way_to_mate-way.ensures) (bracket_way F k at c.kind.result (row_at i.parts.params k) seen asked) in
    subst (λ (f : Grove g.row.A.Denot). IsMate (spots_at (complete_levels f) (level_of_node f k)) (place_of_node f k) (place_of_node f c.mate_of.result)) c.self.view_is (mate_told F (changes_of i.parts) c.way_to_mate-way.result k c.mate_of.result (sound_now c.self.invariant.grove) at bracket mates)

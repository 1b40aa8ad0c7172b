use Rattle.std.proofs.Common.{◌≡◌, refl, sym, ap, ◌∙◌, subst}
use Rattle.std.specs.Prelude.{IsSome}
use Rattle.lsys_level.specs.Spots.{IsSpot}
use Rattle.lsys_level.specs.ViewAnswers.{HasBracket}
use Rattle.lsys_forest.specs.Nodes.{Node, seen_as}
use Rattle.lsys_forest.specs.Stocks.{changes_of, row_at}
use Rattle.lsys_forest.specs.Groves.{Grove}
use Rattle.lsys_forest.specs.Rows.{complete_levels, level_of_node, place_of_node}
use Rattle.lsys_forest.proofs.StockLemmas.{stored_of}
use Rattle.lsys_forest.proofs.ViewLemmas.{bracket_there, no_bracket, node_at}
use Rattle.lsys_forest.proofs.GroveLemmas.{sound_now}
use Rattle.lsys_forest.proofs.forest.Forest.mate_if_bracket.Goals as goal

pub kind-requires : goal.kind-requires
kind-requires g c =
    let i = c.self.inside in
    let F : Grove g.row.A.Denot = record { stock = i.parts; root = i.root; spare_nodes = i.spare_nodes; spare_notes = i.spare_notes } in
    let k = c.args.spot in
    let spot = subst (λ (f : Grove g.row.A.Denot). IsSpot (complete_levels f) (level_of_node f k) (place_of_node f k)) (sym c.self.view_is) c.requires in
    let at = node_at F (changes_of i.parts) k (sound_now c.self.invariant.grove) spot in
    subst IsSome (sym at.is) refl

pub mate-requires-clause-bracket : goal.mate-requires-clause-bracket
mate-requires-clause-bracket g c =
    let i = c.self.inside in
    let F : Grove g.row.A.Denot = record { stock = i.parts; root = i.root; spare_nodes = i.spare_nodes; spare_notes = i.spare_notes } in
    let k = c.args.spot in
    let spot = subst (λ (f : Grove g.row.A.Denot). IsSpot (complete_levels f) (level_of_node f k) (place_of_node f k)) (sym c.self.view_is) c.requires in
    let at = node_at F (changes_of i.parts) k (sound_now c.self.invariant.grove) spot in
    let s = stored_of i.parts.slots i.parts.params i.parts.kids k at.node at.is in
    let kind = c.kind.ensures s.0 s.1 in
    let seen : at.node.seen ≡ seen_as c.kind.result (row_at i.parts.params k) = sym (ap (λ (x : Node g.row.A.Denot). x.seen) s.2) ∙ ap (λ y. seen_as y (row_at i.parts.params k)) (sym kind) in
    subst (λ (f : Grove g.row.A.Denot). HasBracket (complete_levels f) (level_of_node f k) (place_of_node f k)) c.self.view_is
    (bracket_there F k at c.kind.result (row_at i.parts.params k) seen c.in_default.not-Module)

pub returns-in-Module : goal.returns-in-Module
returns-in-Module g c = λ bracket.
    let i = c.self.inside in
    let F : Grove g.row.A.Denot = record { stock = i.parts; root = i.root; spare_nodes = i.spare_nodes; spare_notes = i.spare_notes } in
    let k = c.args.spot in
    let spot = subst (λ (f : Grove g.row.A.Denot). IsSpot (complete_levels f) (level_of_node f k) (place_of_node f k)) (sym c.self.view_is) c.requires in
    let at = node_at F (changes_of i.parts) k (sound_now c.self.invariant.grove) spot in
    let s = stored_of i.parts.slots i.parts.params i.parts.kids k at.node at.is in
    let kind = c.kind.ensures s.0 s.1 in
    let seen : at.node.seen ≡ seen_as c.kind.result (row_at i.parts.params k) = sym (ap (λ (x : Node g.row.A.Denot). x.seen) s.2) ∙ ap (λ y. seen_as y (row_at i.parts.params k)) (sym kind) in
    let there = subst (λ (f : Grove g.row.A.Denot). HasBracket (complete_levels f) (level_of_node f k) (place_of_node f k)) (sym c.self.view_is) bracket in
    no_bracket F k at c.kind.result (row_at i.parts.params k) seen c.in-Module.field-0 c.in-Module.is there

pub returns-in_default : goal.returns-in_default
returns-in_default g c =
    let i = c.self.inside in
    let F : Grove g.row.A.Denot = record { stock = i.parts; root = i.root; spare_nodes = i.spare_nodes; spare_notes = i.spare_notes } in
    let k = c.args.spot in
    let spot = subst (λ (f : Grove g.row.A.Denot). IsSpot (complete_levels f) (level_of_node f k) (place_of_node f k)) (sym c.self.view_is) c.requires in
    let at = node_at F (changes_of i.parts) k (sound_now c.self.invariant.grove) spot in
    let s = stored_of i.parts.slots i.parts.params i.parts.kids k at.node at.is in
    let kind = c.kind.ensures s.0 s.1 in
    let seen : at.node.seen ≡ seen_as c.kind.result (row_at i.parts.params k) = sym (ap (λ (x : Node g.row.A.Denot). x.seen) s.2) ∙ ap (λ y. seen_as y (row_at i.parts.params k)) (sym kind) in
    let there = subst (λ (f : Grove g.row.A.Denot). HasBracket (complete_levels f) (level_of_node f k) (place_of_node f k)) c.self.view_is
    (bracket_there F k at c.kind.result (row_at i.parts.params k) seen c.in_default.not-Module) in
    (there, c.mate.ensures.level, c.mate.ensures.mate)

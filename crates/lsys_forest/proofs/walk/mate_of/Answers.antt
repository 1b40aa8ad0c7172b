use Rattle.std.proofs.Common.{ℕ, ◌≡◌, ◌-◌, ◌<◌, refl, sym, ap, ◌∙◌, subst, arith}
use Rattle.std.specs.Prelude.{IsSome}
use Rattle.lsys_forest.specs.Nodes.{Node, seen_as}
use Rattle.lsys_forest.specs.Stocks.{nodes_of, changes_of, row_at}
use Rattle.lsys_forest.specs.Rows.{oriented, level_nodes}
use Rattle.lsys_forest.specs.Mates.{IsBracketThat, IsMateThat}
use Rattle.lsys_spec.specs.Rows.{In}
use Rattle.std.proofs.lemmas.Option.{none-some, same_Some}
use Rattle.lsys_forest.proofs.StockLemmas.{stored_of}
use Rattle.lsys_forest.proofs.RowLemmas.{In_split, oriented_apart, level_apart, level_depth, level_fits}
use Rattle.lsys_forest.proofs.WalkLemmas.{left_from, left_on, level_live}
use Rattle.lsys_forest.proofs.MateLemmas.{IsWalk, walk_start, walk_on, walk_found, walk_ends, met, that_way, met_among, met_size, IsOfKind, mate_stands}
use Rattle.lsys_forest.proofs.walk.mate_of.Goals as goal

pub loop-at-init : goal.loop-at-init
loop-at-init g c =
    let p = c.args.parts.now in
    let m = nodes_of p in
    let cs = changes_of p in
    let level = level_nodes m c.args.root (c.args.depth - 1) in
    let s = In_split c.args.node level c.requires.among in
    walk_start c.args.way m level s.0 s.1 c.args.node c.beside-at.result s.2 c.requires.bracket (c.beside-at.ensures _ _ (that_way c.args.way level s.0 s.1 c.args.node s.2))

pub kind-requires : goal.kind-requires
kind-requires g c =
    let p = c.args.parts.now in
    let m = nodes_of p in
    let cs = changes_of p in
    let level = level_nodes m c.args.root (c.args.depth - 1) in
    let q = c.in-Some-at.found in
    let w = met c.args.way m level c.args.node c.loop-at.inside q c.loop-at.at c.loop-at.invariant c.in-Some-at.is in
    let among = met_among c.args.way m level c.args.node c.loop-at.inside q w in
    level_live c.args.root cs m c.requires.sound (c.args.depth - 1) q among

pub nest-requires : goal.nest-requires
nest-requires g c =
    let p = c.args.parts.now in
    let m = nodes_of p in
    let cs = changes_of p in
    let level = level_nodes m c.args.root (c.args.depth - 1) in
    let q = c.in-Some-at.found in
    let w = met c.args.way m level c.args.node c.loop-at.inside q c.loop-at.at c.loop-at.invariant c.in-Some-at.is in
    let among = met_among c.args.way m level c.args.node c.loop-at.inside q w in
    let fits = level_fits c.args.root cs m p.slots c.requires.sound (λ k n is. let x = stored_of p.slots p.params p.kids k n is in subst IsSome (sym x.1) refl) (c.args.depth - 1) in
    let size = met_size c.args.way m level c.args.node c.loop-at.inside q w in
    omega (arith, fits, size, w.few, c.requires.numbers)

pub returns-in_default-nest : goal.returns-in_default-nest
returns-in_default-nest g c =
    let p = c.args.parts.now in
    let m = nodes_of p in
    let cs = changes_of p in
    let level = level_nodes m c.args.root (c.args.depth - 1) in
    let q = c.in-Some-at.found in
    let w = met c.args.way m level c.args.node c.loop-at.inside q c.loop-at.at c.loop-at.invariant c.in-Some-at.is in
    let among = met_among c.args.way m level c.args.node c.loop-at.inside q w in
    let d = level_depth c.args.root cs m c.requires.sound (c.args.depth - 1) q among in
    let s = stored_of p.slots p.params p.kids q d.0 d.1 in
    let kind = c.kind.ensures s.0 s.1 in
    let seen : d.0.seen ≡ seen_as c.kind.result (row_at p.params q) = sym (ap (λ (x : Node g.row.A.Denot). x.seen) s.2) ∙ ap (λ k. seen_as k (row_at p.params q)) (sym kind) in
    let top = level_depth c.args.root cs m c.requires.sound (c.args.depth - 1) c.args.node c.requires.among in
    let bracket = subst (IsBracketThat c.args.way) top.1 c.requires.bracket in
    walk_found c.args.way m level c.args.node c.loop-at.inside q top.0 d.0 c.kind.result (row_at p.params q) (level_apart c.args.root cs m c.requires.sound (c.args.depth - 1)) top.1 bracket d.1 seen (sym c.nest.ensures ∙ c.in_default-nest.is) w

pub beside-at-requires-in-Some-at-clause-among : goal.beside-at-requires-in-Some-at-clause-among
beside-at-requires-in-Some-at-clause-among g c =
    let p = c.args.parts.now in
    let m = nodes_of p in
    let cs = changes_of p in
    let level = level_nodes m c.args.root (c.args.depth - 1) in
    let q = c.in-Some-at.found in
    let w = met c.args.way m level c.args.node c.loop-at.inside q c.loop-at.at c.loop-at.invariant c.in-Some-at.is in
    let among = met_among c.args.way m level c.args.node c.loop-at.inside q w in
    among

pub loop-at-smaller : goal.loop-at-smaller
loop-at-smaller g c =
    let p = c.args.parts.now in
    let m = nodes_of p in
    let cs = changes_of p in
    let level = level_nodes m c.args.root (c.args.depth - 1) in
    let q = c.in-Some-at.found in
    let w = met c.args.way m level c.args.node c.loop-at.inside q c.loop-at.at c.loop-at.invariant c.in-Some-at.is in
    let among = met_among c.args.way m level c.args.node c.loop-at.inside q w in
    let O = oriented c.args.way level in
    subst (λ o. left_from O c.beside-at-in-Some-at.result < left_from O o) (sym c.in-Some-at.is)
    (left_on O (oriented_apart c.args.way level (level_apart c.args.root cs m c.requires.sound (c.args.depth - 1))) _ q w.ahead c.beside-at-in-Some-at.result w.here (c.beside-at-in-Some-at.ensures _ w.ahead w.here))

pub loop-at-preserved : goal.loop-at-preserved
loop-at-preserved g c =
    let p = c.args.parts.now in
    let m = nodes_of p in
    let cs = changes_of p in
    let level = level_nodes m c.args.root (c.args.depth - 1) in
    let q = c.in-Some-at.found in
    let w = met c.args.way m level c.args.node c.loop-at.inside q c.loop-at.at c.loop-at.invariant c.in-Some-at.is in
    let among = met_among c.args.way m level c.args.node c.loop-at.inside q w in
    let d = level_depth c.args.root cs m c.requires.sound (c.args.depth - 1) q among in
    let s = stored_of p.slots p.params p.kids q d.0 d.1 in
    let kind = c.kind.ensures s.0 s.1 in
    let seen : d.0.seen ≡ seen_as c.kind.result (row_at p.params q) = sym (ap (λ (x : Node g.row.A.Denot). x.seen) s.2) ∙ ap (λ k. seen_as k (row_at p.params q)) (sym kind) in
    walk_on c.args.way m level c.args.node c.loop-at.inside c.in-Some-nest.branches q c.beside-at-in-Some-at.result d.0 c.kind.result (row_at p.params q) d.1 seen (sym c.nest.ensures ∙ c.in-Some-nest.is) w (c.beside-at-in-Some-at.ensures _ w.ahead w.here)

pub unreachable-requires-2 : goal.unreachable-requires-2
unreachable-requires-2 g c =
    let p = c.args.parts.now in
    let m = nodes_of p in
    let cs = changes_of p in
    let level = level_nodes m c.args.root (c.args.depth - 1) in
    let top = level_depth c.args.root cs m c.requires.sound (c.args.depth - 1) c.args.node c.requires.among in
    let bracket = subst (IsBracketThat c.args.way) top.1 c.requires.bracket in
    walk_ends c.args.way m level c.args.node c.loop-at.inside top.0 c.requires.balanced top.1 bracket (subst (IsWalk c.args.way m level c.args.node c.loop-at.inside) c.in_default-at.is c.loop-at.invariant)

pub unreachable-requires : goal.unreachable-requires
unreachable-requires g c =
    let p = c.args.parts.now in
    let m = nodes_of p in
    let cs = changes_of p in
    let t = c.args.depth - 1 in
    let level = level_nodes m c.args.root t in
    let top = level_depth c.args.root cs m c.requires.sound t c.args.node c.requires.among in
    let bracket = subst (IsBracketThat c.args.way) top.1 c.requires.bracket in
    let kind : (q : ℕ) → In q level → IsOfKind m q = λ q h. (
    let d = level_depth c.args.root cs m c.requires.sound t q h in
    let s = stored_of p.slots p.params p.kids q d.0 d.1 in
    record { node = d.0; is = d.1; kind = s.0.kind; params = row_at p.params q; seen = sym (ap (λ (x : Node g.row.A.Denot). x.seen) s.2) }
    ) in
    let less : t < c.args.mated = omega (arith, c.if-depth-mated.true, c.requires.below) in
    let r = mate_stands c.args.way m level p.footings c.args.node top.0 (level_apart c.args.root cs m c.requires.sound t) c.requires.among top.1 bracket c.requires.balanced kind (c.requires.mated t less) in
    none-some r.0 (sym c.in_default.is ∙ c.mate.ensures ∙ r.1)

pub returns-then-depth-mated : goal.returns-then-depth-mated
returns-then-depth-mated g c =
    let p = c.args.parts.now in
    let m = nodes_of p in
    let cs = changes_of p in
    let t = c.args.depth - 1 in
    let level = level_nodes m c.args.root t in
    let top = level_depth c.args.root cs m c.requires.sound t c.args.node c.requires.among in
    let bracket = subst (IsBracketThat c.args.way) top.1 c.requires.bracket in
    let kind : (q : ℕ) → In q level → IsOfKind m q = λ q h. (
    let d = level_depth c.args.root cs m c.requires.sound t q h in
    let s = stored_of p.slots p.params p.kids q d.0 d.1 in
    record { node = d.0; is = d.1; kind = s.0.kind; params = row_at p.params q; seen = sym (ap (λ (x : Node g.row.A.Denot). x.seen) s.2) }
    ) in
    let less : t < c.args.mated = omega (arith, c.if-depth-mated.true, c.requires.below) in
    let r = mate_stands c.args.way m level p.footings c.args.node top.0 (level_apart c.args.root cs m c.requires.sound t) c.requires.among top.1 bracket c.requires.balanced kind (c.requires.mated t less) in
    subst (IsMateThat c.args.way m level c.args.node) (same_Some r.0 c.in-Some.mate (sym r.1 ∙ sym c.mate.ensures ∙ c.in-Some.is)) r.2

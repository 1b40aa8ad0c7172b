use Rattle.std.proofs.Common.{◌≡◌, Some, sym, ap, ◌∙◌, subst}
use Rattle.std.specs.Prelude.{option_map}
use Rattle.lsys_spec.specs.Draws.{key_of}
use Rattle.lsys_spec.specs.Systems.{System}
use Rattle.lsys_laws.specs.Nodes.{AreOnce}
use Rattle.lsys_level.specs.Spots.{Spotted, IsSpot, spotted_at}
use Rattle.lsys_match.specs.Kept.{Kept}
use Rattle.lsys_forest.specs.Groves.{Grove, now_of}
use Rattle.lsys_forest.specs.Rows.{complete_levels, level_of_node, place_of_node}
use Rattle.lsys_reads.specs.Lineages.{kins, names}
use Rattle.lsys_pass.specs.Rests.{AreCountedLow}
use Rattle.lsys_pass.specs.Views.{ForestView, level_in, place_among}
use Rattle.lsys_pass.proofs.Deriving.{rest_now}
use Rattle.lsys_pass.proofs.Keyed.{tells, at_spot, live_here, key_here}
use Rattle.lsys_pass.proofs.Posing.{own_key}
use Rattle.lsys_pass.proofs.derivation.ForestDerivationLevelView.key.Goals as goal

pub key-requires : goal.key-requires
key-requires g c = at_spot _ _ _ _ (tells c.self.inside.system _ _ _ c.forest-forest.ensures.pass c.self.view_is
    c.forest-forest.ensures.forest) c.args.spot c.requires

pub key_by_seed-requires-clause-lives : goal.key_by_seed-requires-clause-lives
key_by_seed-requires-clause-lives g c =
    live_here _ _ _ _ (tells c.self.inside.system _ _ _ c.forest-forest.ensures.pass c.self.view_is
    c.forest-forest.ensures.forest) c.args.spot c.requires

pub key_by_seed-requires-clause-counts : goal.key_by_seed-requires-clause-counts
key_by_seed-requires-clause-counts g c =
    subst (λ (f : Grove Kept). AreCountedLow (now_of f)) (sym c.forest-forest.ensures.forest)
    (rest_now c.self.inside.pass c.forest-forest.ensures.pass c.self.invariant.0.state).counts

pub key_by_seed-requires-clause-once : goal.key_by_seed-requires-clause-once
key_by_seed-requires-clause-once g c =
    subst (λ (f : Grove Kept). AreOnce (kins (now_of f)) f.root) (sym c.forest-forest.ensures.forest)
    (rest_now c.self.inside.pass c.forest-forest.ensures.pass c.self.invariant.0.state).once

pub returns-then-seed : goal.returns-then-seed
returns-then-seed g c =
    let k = c.args.spot in
    let seeds = ap (λ (s : System). s.seed) (sym c.system.ensures.system) ∙ sym c.seed.ensures ∙ c.if-seed.true
    ∙ c.seed-seed.ensures in
    subst (λ (w : ForestView). option_map (λ (a : Spotted). a.key)
    (spotted_at w.levels (level_in k w.levels) (place_among k w.levels)) ≡ Some c.key.result) c.self.view_is
    (own_key c.self.inside.system c.self.inside.pass c.forest-forest.ensures.pass c.self.invariant.0 c.self.invariant.1 seeds k
    c.key.result
    (subst (λ (w : ForestView). IsSpot w.levels (level_in k w.levels) (place_among k w.levels)) (sym c.self.view_is) c.requires)
    (subst (λ (f : Grove Kept). option_map (λ (a : Spotted). a.key)
    (spotted_at (complete_levels f) (level_of_node f k) (place_of_node f k)) ≡ Some c.key.result) c.forest-forest.ensures.forest
    c.key.ensures))

pub returns-else-seed : goal.returns-else-seed
returns-else-seed g c =
    key_here _ _ _ _ (tells c.self.inside.system _ _ _ c.forest-forest.ensures.pass c.self.view_is
    c.forest-forest.ensures.forest) c.args.spot c.requires
    ∙ ap (λ seed. Some (key_of seed (names (now_of c.forest-forest.result.now) c.args.spot))) (sym c.seed-seed.ensures)
    ∙ ap Some (sym c.key_by_seed.ensures)

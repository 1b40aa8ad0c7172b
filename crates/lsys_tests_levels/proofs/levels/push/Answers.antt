use Rattle.std.proofs.Common.{◌≡◌, ◌+◌, ◌++◌, ◌∷◌, [], length, ap, sym, subst, arith, rules}
use Rattle.lsys_level.specs.Tags.{HasOwnTags, HasTagsBelow}
use Rattle.lsys_level.specs.Places.{spots_of}
use Rattle.lsys_level.proofs.Owning.{own_running, below_running, running, no_longer}
use Rattle.lsys_tests_levels.proofs.levels.push.Goals as goal

pub push_level-requires-clause-own : goal.push_level-requires-clause-own
push_level-requires-clause-own g c =
    own_running c.args.levels.now (spots_of c.list_of-list.result c.loop-at.tags.items c.loop-at.keys.items) c.args.first c.requires.own c.requires.below (running _ c.loop-at.tags.items c.loop-at.keys.items c.args.first c.loop-at.invariant.run)

pub returns-clause-own : goal.returns-clause-own
returns-clause-own g c =
    let added : c.push_level.new.self ≡ c.args.levels.now ++ spots_of c.list_of-list.result c.loop-at.tags.items c.loop-at.keys.items ∷ [] = search rules in
    subst HasOwnTags (sym added)
    (own_running c.args.levels.now (spots_of c.list_of-list.result c.loop-at.tags.items c.loop-at.keys.items) c.args.first c.requires.own c.requires.below (running _ c.loop-at.tags.items c.loop-at.keys.items c.args.first c.loop-at.invariant.run))

pub returns-clause-below : goal.returns-clause-below
returns-clause-below g c =
    let added : c.push_level.new.self ≡ c.args.levels.now ++ spots_of c.list_of-list.result c.loop-at.tags.items c.loop-at.keys.items ∷ [] = search rules in
    let list : c.list_of-list.result ≡ c.args.symbols.now = c.list_of-list.ensures in
    let few = no_longer c.list_of-list.result c.loop-at.tags.items c.loop-at.keys.items in
    subst (HasTagsBelow (c.args.first + length c.args.symbols.now)) (sym added)
    (below_running c.args.levels.now (spots_of c.list_of-list.result c.loop-at.tags.items c.loop-at.keys.items) c.args.first (length c.args.symbols.now) c.requires.below (running _ c.loop-at.tags.items c.loop-at.keys.items c.args.first c.loop-at.invariant.run) (omega (arith, few, ap length list)))

use Rattle.lsys_children.specs.Steps.{new_kid}
use Rattle.lsys_children.proofs.PlacedLemmas.{born_placed}
use Rattle.lsys_children.proofs.renew.bear.Goals as goal

pub returns-clause-placed : goal.returns-clause-placed
returns-clause-placed g c =
    born_placed c.args.forest.now c.add-node.new.self c.args.parent c.add-node.result (new_kid c.args.number c.args.symbol.now c.args.key) c.add-node.ensures.new c.requires.parent_lives c.add-node.ensures.added c.add-node.ensures.spends

pub returns-clause-kept : goal.returns-clause-kept
returns-clause-kept g c = c.add-node.ensures.kept

use Rattle.lsys_forest.specs.Stocks.{nodes_of, changes_of}
use Rattle.lsys_forest.proofs.ModuleLemmas.{modules_mated}
use Rattle.lsys_forest.proofs.pairs.find_mates.Goals as goal

pub returns-then-not-branches-clause-mated : goal.returns-then-not-branches-clause-mated
returns-then-not-branches-clause-mated g c =
    let t = c.args.parts.now in
    modules_mated c.args.root (changes_of t) (nodes_of t) t.footings c.args.linked c.requires.sound (c.requires.branches c.if-not-branches.true)

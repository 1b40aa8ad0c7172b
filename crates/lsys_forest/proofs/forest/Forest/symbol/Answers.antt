use Rattle.std.proofs.Common.{sym, subst}
use Rattle.lsys_forest.specs.Stocks.{nodes_of}
use Rattle.lsys_forest.specs.Groves.{Grove, HasFew, IsLive}
use Rattle.lsys_forest.proofs.SoundLemmas.{some_of}
use Rattle.lsys_forest.proofs.GroveLemmas.{sound_now}
use Rattle.lsys_forest.proofs.SeenLemmas.{few_seen}
use Rattle.lsys_forest.proofs.forest.Forest.symbol.Goals as goal

pub returns-clause-few : goal.returns-clause-few
returns-clause-few g c =
    let i = c.self.inside in
    let lives = subst (λ (f : Grove g.row.A.Denot). IsLive f c.args.node) (sym c.self.view_is) c.requires in
    let n = some_of (nodes_of i.parts c.args.node) lives in
    few_seen c.symbol.result (subst HasFew (sym (c.symbol.ensures n.0 n.1)) ((sound_now c.self.invariant.grove).few c.args.node n.0 n.1))

use Rattle.std.proofs.Common.{List, ℕ, sym, ap, ◌∙◌, subst}
use Rattle.lsys_forest.specs.Nodes.{Node}
use Rattle.lsys_forest.specs.Stocks.{nodes_of}
use Rattle.lsys_forest.specs.Groves.{Grove, now_of, changes_in, AreKids, IsLive, IsRooted}
use Rattle.lsys_forest.proofs.StockLemmas.{stored_of}
use Rattle.lsys_forest.proofs.SoundLemmas.{some_of}
use Rattle.lsys_forest.proofs.GroveLemmas.{sound_now}
use Rattle.lsys_forest.proofs.forest.Forest.children.Goals as goal

pub returns-clause-under : goal.returns-clause-under
returns-clause-under g c =
    let i = c.self.inside in
    let lives = subst (λ (f : Grove g.row.A.Denot). IsLive f c.args.node) (sym c.self.view_is) c.requires in
    let n = some_of (nodes_of i.parts c.args.node) lives in
    let s = stored_of i.parts.slots i.parts.params i.parts.kids c.args.node n.0 n.1 in
    let kids = c.kids.ensures ∙ ap (λ (m : Node g.row.A.Denot). m.kids) s.2 in
    subst (λ (f : Grove g.row.A.Denot). AreKids (now_of f) f.root c.args.node c.kids.result.now) c.self.view_is
    (subst (λ (l : List ℕ). AreKids (nodes_of i.parts) i.root c.args.node l) (sym kids)
    ((sound_now c.self.invariant.grove).own c.args.node n.0 n.1))

pub returns-clause-sound : goal.returns-clause-sound
returns-clause-sound g c = subst (λ (f : Grove g.row.A.Denot). IsRooted f.root (changes_in f) (now_of f)) c.self.view_is (sound_now c.self.invariant.grove)

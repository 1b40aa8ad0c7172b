use Rattle.std.proofs.Common.{◌≢◌, ℕ, refl, sym, ap, ◌∙◌, subst, arith}
use Rattle.std.specs.Prelude.{IsSome}
use Rattle.std.proofs.lemmas.Option.{same_Some}
use Rattle.lsys_forest.specs.declared.node.Stored.{Stored}
use Rattle.lsys_forest.specs.Nodes.{Node}
use Rattle.lsys_forest.specs.Stocks.{nodes_of}
use Rattle.lsys_forest.specs.Groves.{Grove, now_of, changes_in, IsLive, IsRooted}
use Rattle.lsys_forest.proofs.StockLemmas.{stored_of}
use Rattle.lsys_forest.proofs.SoundLemmas.{some_of}
use Rattle.lsys_forest.proofs.GroveLemmas.{sound_now}
use Rattle.lsys_forest.proofs.forest.Forest.parent.Goals as goal

pub returns-then-eq-clause-sound : goal.returns-then-eq-clause-sound
returns-then-eq-clause-sound g c =
    subst (λ (f : Grove g.row.A.Denot). IsRooted f.root (changes_in f) (now_of f)) c.self.view_is
    (sound_now c.self.invariant.grove)

pub returns-clause-sound : goal.returns-clause-sound
returns-clause-sound g c =
    subst (λ (f : Grove g.row.A.Denot). IsRooted f.root (changes_in f) (now_of f)) c.self.view_is
    (sound_now c.self.invariant.grove)

pub returns-clause-lives : goal.returns-clause-lives
returns-clause-lives g c =
    let i = c.self.inside in
    let lives = subst (λ (f : Grove g.row.A.Denot). IsLive f c.args.node) (sym c.self.view_is) c.requires in
    let n = some_of (nodes_of i.parts c.args.node) lives in
    let s = stored_of i.parts.slots i.parts.params i.parts.kids c.args.node n.0 n.1 in
    let same = same_Some c.in-Some.found.now s.0 (c.in-Some.ensures ∙ s.1) in
    let up = ap (λ (x : Stored g.row.A.Denot). x.parent) same ∙ ap (λ (x : Node g.row.A.Denot). x.parent) s.2 in
    let other : c.args.node ≢ i.root = grind (arith, c.eq.ensures, c.if-eq.false) in
    let above = (sound_now c.self.invariant.grove).held c.args.node n.0 n.1 other in
    subst (λ (f : Grove g.row.A.Denot). IsLive f c.in-Some.found.now.parent) c.self.view_is
    (subst (λ (k : ℕ). IsSome (nodes_of i.parts k)) (sym up) (subst IsSome (sym above.is) refl))

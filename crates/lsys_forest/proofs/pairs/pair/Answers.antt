use Rattle.std.proofs.Common.{◌≡◌, ◌∙◌, Option, Some, sym, ap, subst}
use Rattle.lsys_level.specs.Spots.{IsBracket}
use Rattle.lsys_forest.specs.Nodes.{Node, seen_as}
use Rattle.lsys_forest.specs.Stocks.{nodes_of, row_at}
use Rattle.lsys_forest.specs.Rows.{spot_in}
use Rattle.lsys_forest.specs.Pairs.{Pairs, seen_at}
use Rattle.lsys_forest.proofs.SoundLemmas.{some_of}
use Rattle.lsys_forest.proofs.StockLemmas.{stored_of}
use Rattle.lsys_forest.proofs.PairLemmas.{pairs_push, pairs_module}
use Rattle.lsys_forest.proofs.pairs.pair.Goals as goal

pub returns-in-Push-clause-paired : goal.returns-in-Push-clause-paired
returns-in-Push-clause-paired g c =
    let t = c.args.parts.now in
    let node = c.args.node in
    let n = some_of (nodes_of t node) c.requires.lives in
    let s = stored_of t.slots t.params t.kids node n.0 n.1 in
    let seen : seen_at (nodes_of t) node ≡ seen_as c.kind-kind.result (row_at t.params node) = ap (λ (o : Option (Node g.row.A.Denot)). (spot_in node o).seen) n.1 ∙ sym (ap (λ (x : Node g.row.A.Denot). x.seen) s.2) ∙ ap (λ k. seen_as k (row_at t.params node)) (sym (c.kind-kind.ensures s.0 s.1)) in
    let e = c.set_mate.ensures in
    let footings = c.set_mate.new.self.footings in
    subst (λ z. Pairs z t.footings footings c.args.opener node (Some node)) (sym (seen ∙ ap (λ k. seen_as k (row_at t.params node)) c.in-Push.is)) (pairs_push t.footings footings node c.args.opener e.here e.others)

pub end_branch-requires-clause-ends : goal.end_branch-requires-clause-ends
end_branch-requires-clause-ends g c =
    let t = c.args.parts.now in
    let node = c.args.node in
    let n = some_of (nodes_of t node) c.requires.lives in
    let s = stored_of t.slots t.params t.kids node n.0 n.1 in
    let seen : seen_at (nodes_of t) node ≡ seen_as c.kind-kind.result (row_at t.params node) = ap (λ (o : Option (Node g.row.A.Denot)). (spot_in node o).seen) n.1 ∙ sym (ap (λ (x : Node g.row.A.Denot). x.seen) s.2) ∙ ap (λ k. seen_as k (row_at t.params node)) (sym (c.kind-kind.ensures s.0 s.1)) in
    seen ∙ ap (λ k. seen_as k (row_at t.params node)) c.in-Pop.is

pub returns-in-Module-clause-paired : goal.returns-in-Module-clause-paired
returns-in-Module-clause-paired g c =
    let t = c.args.parts.now in
    let node = c.args.node in
    let n = some_of (nodes_of t node) c.requires.lives in
    let s = stored_of t.slots t.params t.kids node n.0 n.1 in
    let seen : seen_at (nodes_of t) node ≡ seen_as c.kind-kind.result (row_at t.params node) = ap (λ (o : Option (Node g.row.A.Denot)). (spot_in node o).seen) n.1 ∙ sym (ap (λ (x : Node g.row.A.Denot). x.seen) s.2) ∙ ap (λ k. seen_as k (row_at t.params node)) (sym (c.kind-kind.ensures s.0 s.1)) in
    pairs_module t.footings (seen_at (nodes_of t) node) node c.args.opener (λ bracket. subst IsBracket (seen ∙ ap (λ k. seen_as k (row_at t.params node)) c.in-Module.is) bracket)

use Rattle.std.proofs.Common.{◌≡◌, refl, subst, sym, ap, ◌∙◌, false, not, arith}
use Rattle.std.specs.Prelude.{option_map, IsTrue, IsSome, Bool}
use Rattle.std.proofs.lemmas.Option.{same_Some}
use Rattle.lsys_forest.specs.declared.node.Stored.{Stored}
use Rattle.lsys_forest.specs.Nodes.{Node}
use Rattle.lsys_forest.specs.Stocks.{nodes_of, row_at, node_of}
use Rattle.lsys_forest.proofs.StockLemmas.{stored_of}
use Rattle.lsys_forest.proofs.sweep.is_loose.Goals as goal

pub returns-in-Some-clause-lives : goal.returns-in-Some-clause-lives
returns-in-Some-clause-lives g c = λ yes.
    let t = c.args.parts.now in
    let k = c.args.node in
    subst IsSome (ap (option_map (node_of (row_at t.params k) (row_at t.kids k))) c.in-Some.ensures) refl

pub returns-in-Some-clause-apart : goal.returns-in-Some-clause-apart
returns-in-Some-clause-apart g c = λ n yes is ranked linked.
    let t = c.args.parts.now in
    let k = c.args.node in
    let s = stored_of t.slots t.params t.kids k n is in
    let same : c.in-Some.found.now ≡ s.0 = same_Some c.in-Some.found.now s.0 (c.in-Some.ensures ∙ s.1) in
    let parent : c.in-Some.found.now.parent ≡ n.parent = ap (λ (x : Stored g.row.A.Denot). x.parent) same ∙ ap (λ (x : Node g.row.A.Denot). x.parent) s.2 in
    c.has_kid.ensures.lacks linked.parent (not_true c.has_kid.result yes) ranked (ap (nodes_of t) parent ∙ linked.is) linked.among
  where
    not_true : (b : Bool) → IsTrue (not b) → b ≡ false
    not_true b h = grind (arith, h)

pub returns-in-Some-clause-linked : goal.returns-in-Some-clause-linked
returns-in-Some-clause-linked g c = λ n no is.
    let t = c.args.parts.now in
    let k = c.args.node in
    let s = stored_of t.slots t.params t.kids k n is in
    let same : c.in-Some.found.now ≡ s.0 = same_Some c.in-Some.found.now s.0 (c.in-Some.ensures ∙ s.1) in
    let parent : c.in-Some.found.now.parent ≡ n.parent = ap (λ (x : Stored g.row.A.Denot). x.parent) same ∙ ap (λ (x : Node g.row.A.Denot). x.parent) s.2 in
    let has = c.has_kid.ensures.has (not_false c.has_kid.result no) in
    record { parent = has.0; is = ap (nodes_of t) (sym parent) ∙ has.1; among = has.2 }
  where
    not_false : (b : Bool) → not b ≡ false → IsTrue b
    not_false b h = grind (arith, h)

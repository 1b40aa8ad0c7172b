use Rattle.std.proofs.Common.{◌≡◌, sym, ap, ◌∙◌, subst, arith}
use Rattle.std.specs.Prelude.{Bool, false, IsTrue, option_map, slice_get}
use Rattle.lsys_spec.specs.Rows.{In}
use Rattle.lsys_forest.specs.Stocks.{row_at, node_of}
use Rattle.lsys_forest.proofs.StockLemmas.{kids_were}
use Rattle.lsys_forest.proofs.WalkLemmas.{get_In, In_at}
use Rattle.lsys_forest.proofs.sweep.has_kid.Goals as goal

pub returns-in-Some-clause-has : goal.returns-in-Some-clause-has
returns-in-Some-clause-has g c = λ yes.
    let t = c.args.parts.now in
    let k = c.args.parent in
    let p = node_of (row_at t.params k) (row_at t.kids k) c.in-Some.field-0.now in
    let among = get_In c.kids.result.now c.rank.result c.args.node (c.stands_at.ensures.0 yes) in
    (p, ap (option_map (node_of (row_at t.params k) (row_at t.kids k))) (sym c.in-Some.ensures), subst (In c.args.node) c.kids.ensures among)

pub returns-in-Some-clause-lacks : goal.returns-in-Some-clause-lacks
returns-in-Some-clause-lacks g c = λ p no ranked is among.
    let t = c.args.parts.now in
    let k = c.args.parent in
    let kids : c.kids.result.now ≡ p.kids = c.kids.ensures ∙ kids_were t.slots t.params t.kids k p is in
    let at = In_at c.args.node p.kids among in
    let rank : c.rank.result ≡ at.0 = c.rank.ensures ∙ ranked k p at.0 c.args.node is at.1 in
    not_both c.stands_at.result no (c.stands_at.ensures.1 (ap (slice_get c.kids.result.now) rank ∙ ap (λ l. slice_get l at.0) kids ∙ at.1))
  where
    not_both : (b : Bool) → b ≡ false → IsTrue b → ⊥
    not_both b e h = grind (arith, e, h)

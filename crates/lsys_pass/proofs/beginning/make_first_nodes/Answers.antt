use Rattle.std.proofs.Common.{◌≡◌, ◌≤◌, ap, sym, subst, ◌∙◌, arith}
use Rattle.lsys_module.specs.Views.{string_of}
use Rattle.lsys_reading.specs.Commands.{numbering_of}
use Rattle.lsys_forest.specs.Nodes.{Nodes}
use Rattle.lsys_forest.specs.Answers.{answers}
use Rattle.lsys_forest.specs.Groves.{now_of}
use Rattle.lsys_forest.specs.Rows.{kids_in}
use Rattle.lsys_match.specs.Kept.{Kept}
use Rattle.lsys_children.specs.Nexts.{wanted_count}
use Rattle.lsys_children.specs.Needs.{need_for}
use Rattle.lsys_children.specs.declared.count.ChildCount.{ChildCount}
use Rattle.lsys_pass.specs.Beginnings.{MakesFirst}
use Rattle.lsys_pass.proofs.beginning.make_first_nodes.Goals as goal

pub make_counted-requires-clause-need : goal.make_counted-requires-clause-need
make_counted-requires-clause-need g c =
    let f = c.args.forest.now in
    ap (λ (n : ChildCount). n.need) c.in_ok-count.ensures
    ∙ (λ i. need_for (c.lineage-numbering.ensures i) (now_of f) (kids_in (now_of f f.root)) ((ap string_of c.symbols-axiom.ensures.symbols ∙ c.axiom.ensures.symbols) i))

pub returns-clause-made : goal.returns-clause-made
returns-clause-made g c =
    subst (λ (m : Nodes Kept). MakesFirst c.args.system.now c.args.limit (now_of c.args.forest.now) m c.args.forest.now.root c.in_ok-told.told) (sym c.link.ensures.now)
    (c.in_ok-told.ensures.made c.args.limit within)
  where
    wanted : c.in_ok-count.count.wanted ≡ wanted_count (numbering_of c.lineage-numbering.result) (string_of c.symbols-axiom.result.now)
    wanted = ap (λ (n : ChildCount). n.wanted) c.in_ok-count.ensures

    same : wanted_count (numbering_of c.lineage-numbering.result) (string_of c.symbols-axiom.result.now) ≡ wanted_count c.args.system.now.numbering c.args.system.now.axiom_string
    same = λ i. wanted_count (c.lineage-numbering.ensures i) ((ap string_of c.symbols-axiom.ensures.symbols ∙ c.axiom.ensures.symbols) i)

    within : wanted_count c.args.system.now.numbering c.args.system.now.axiom_string ≤ c.args.limit
    within = let few = c.in_default.ensures c.args.system.now (wanted ∙ same) in omega (arith, wanted, same, few)

pub returns-clause-few : goal.returns-clause-few
returns-clause-few g c = let same = c.link.ensures.spares.live in let few = c.make_counted.ensures.few in omega (arith, same, few)

pub returns-clause-kept : goal.returns-clause-kept
returns-clause-kept g c = (λ i. answers (c.link.ensures.now i) (c.link.ensures.changes i)) ∙ c.make_counted.ensures.kept

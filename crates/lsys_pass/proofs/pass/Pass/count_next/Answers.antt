use Rattle.std.proofs.Common.{◌≤◌, ◌^◌, List, length, sym, subst, ap, ◌∙◌, arith}
use Rattle.std.specs.Option.{unwrap_or}
use Rattle.lsys_syntax.specs.Commands.{Numbering}
use Rattle.lsys_spec.specs.Systems.{System}
use Rattle.lsys_match.specs.Kept.{Kept}
use Rattle.lsys_forest.specs.Nodes.{Nodes}
use Rattle.lsys_forest.specs.Groves.{now_of}
use Rattle.lsys_children.specs.declared.count.ChildCount.{ChildCount}
use Rattle.lsys_children.specs.declared.parent.Parent.{Parent}
use Rattle.lsys_children.specs.Needs.{had_by_all, count_of_all, needs}
use Rattle.lsys_pass.specs.Passes.{PassView, now_in, stage_of}
use Rattle.lsys_pass.specs.Advances.{symbols_wanted}
use Rattle.lsys_pass.proofs.NextCounts.{few_parents, had_small}
use Rattle.lsys_pass.proofs.pass.Pass.count_next.Goals as goal

pub count_children-requires-clause-few : goal.count_children-requires-clause-few
count_children-requires-clause-few g c =
    let v : PassView = c.args.self.now in
    let few = few_parents v c.args.level c.requires.asked c.args.parents.now.list.items c.requires.found in
    let same = ap (λ (ps : List Parent). length ps) c.deref.ensures.value in
    omega (arith, few, same)

pub count_children-requires-clause-had : goal.count_children-requires-clause-had
count_children-requires-clause-had g c =
    let v : PassView = c.args.self.now in
    let small = had_small v c.args.level c.requires.asked c.args.parents.now.list.items c.requires.found in
    subst (λ (ps : List Parent). had_by_all (now_of c.self.inside.forest) ps ≤ 2 ^ 32) (sym c.deref.ensures.value) (subst (λ (w : PassView). had_by_all (now_in w) c.args.parents.now.list.items ≤ 2 ^ 32) (sym c.self.view_is) small)

pub next_symbols-requires-clause-count : goal.next_symbols-requires-clause-count
next_symbols-requires-clause-count g c =
    let m : Nodes Kept = now_of c.self.inside.forest in
    let g' = c.lineage-numbering.ensures ∙ ap (λ (y : System). y.numbering) c.target.ensures in
    let count = c.in_ok-count.ensures.count ∙ ap (λ (n : Numbering). count_of_all n m c.deref.result.now) g' ∙ ap (λ (ps : List Parent). count_of_all (unwrap_or c.self.inside.next c.self.inside.system).numbering m ps) c.deref.ensures.value in
    count

pub returns-clause-need : goal.returns-clause-need
returns-clause-need g c =
    let m : Nodes Kept = now_of c.self.inside.forest in
    let g' = c.lineage-numbering.ensures ∙ ap (λ (y : System). y.numbering) c.target.ensures in
    let count = c.in_ok-count.ensures.count ∙ ap (λ (n : Numbering). count_of_all n m c.deref.result.now) g' ∙ ap (λ (ps : List Parent). count_of_all (unwrap_or c.self.inside.next c.self.inside.system).numbering m ps) c.deref.ensures.value in
    ap (λ (x : ChildCount). x.need) count ∙ ap (λ (w : PassView). needs w.next.numbering (now_in w) c.args.parents.now.list.items) c.self.view_is

pub returns-clause-symbols : goal.returns-clause-symbols
returns-clause-symbols g c = c.next_symbols.ensures ∙ ap (λ (w : PassView). symbols_wanted (stage_of w) c.args.level) c.self.view_is

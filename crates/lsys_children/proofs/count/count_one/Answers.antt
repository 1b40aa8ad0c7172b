use Rattle.std.proofs.Common.{◌≡◌, List, [], Option, length, sym, ap, ◌∙◌, subst, arith}
use Rattle.lsys_match.specs.Kept.{Kept}
use Rattle.lsys_forest.specs.Nodes.{Node}
use Rattle.lsys_forest.specs.Rows.{kids_in}
use Rattle.lsys_forest.specs.Groves.{now_of}
use Rattle.lsys_reading.specs.Commands.{numbering_of}
use Rattle.lsys_children.specs.declared.child.Child.{Child}
use Rattle.lsys_forest.proofs.SoundLemmas.{some_of}
use Rattle.lsys_children.specs.Wishes.{AreWanted}
use Rattle.lsys_children.specs.Nexts.{node_key}
use Rattle.lsys_children.specs.Parents.{wants}
use Rattle.lsys_children.proofs.Needs.{counted, few_counted, wants_short}
use Rattle.lsys_children.proofs.AllNew.{none_counted, anew_counted}
use Rattle.lsys_children.proofs.count.count_one.Goals as goal

pub returns-clause-count : goal.returns-clause-count
returns-clause-count g c =
    let m = now_of c.args.forest.now in
    let p = c.args.parent in
    let n = some_of (m p.node) c.requires.lives in
    let numbering = numbering_of c.args.numbering in
    let wanted = subst (λ (ws : List Child). AreWanted numbering (node_key m p.node) (wants m p) ws) (sym c.children-children.ensures) c.in_ok-fill_for.ensures.wanted in
    counted numbering m p n.0 (node_key m p.node) c.children-children.result.now c.in_ok-need.need (length c.children-2.result.now) n.1 wanted (c.in_ok-need.ensures.need n.0 n.1) (ap length (c.children-2.ensures.kids n.0 n.1))

pub returns-clause-few : goal.returns-clause-few
returns-clause-few g c =
    let m = now_of c.args.forest.now in
    let p = c.args.parent in
    let n = some_of (m p.node) c.requires.lives in
    let numbering = numbering_of c.args.numbering in
    let wanted = subst (λ (ws : List Child). AreWanted numbering (node_key m p.node) (wants m p) ws) (sym c.children-children.ensures) c.in_ok-fill_for.ensures.wanted in
    few_counted m n.0 c.children-children.result.now c.in_ok-need.need (length c.children-2.result.now) (c.in_ok-need.ensures.need n.0 n.1) (ap length (c.children-2.ensures.kids n.0 n.1))
    (omega (arith, wanted.few, wants_short m p c.requires.short)) c.in_ok-need.ensures.few

pub returns-then-is_empty-clause-count : goal.returns-then-is_empty-clause-count
returns-then-is_empty-clause-count g c =
    let m = now_of c.args.forest.now in
    let p = c.args.parent in
    let n = some_of (m p.node) c.requires.lives in
    let kids = c.children.ensures.kids n.0 n.1 in
    let bare : kids_in (m p.node) ≡ [] = ap (λ (o : Option (Node Kept)). kids_in o) n.1 ∙ sym kids ∙ none_counted c.children.result.now (sym c.is_empty.ensures ∙ c.if-is_empty.true) in
    c.count_anew.ensures.count ∙ anew_counted (numbering_of c.args.numbering) m p bare

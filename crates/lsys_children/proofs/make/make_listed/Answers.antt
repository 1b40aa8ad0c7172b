use Rattle.std.proofs.Common.{List, Option, sym, ap, subst}
use Rattle.lsys_match.specs.Kept.{Kept}
use Rattle.lsys_forest.specs.Nodes.{Node}
use Rattle.lsys_forest.specs.Groves.{now_of}
use Rattle.lsys_forest.specs.Rows.{spot_in}
use Rattle.lsys_reading.specs.Commands.{numbering_of}
use Rattle.lsys_children.specs.declared.need.Need.{Need}
use Rattle.lsys_children.specs.declared.child.Child.{Child}
use Rattle.lsys_children.specs.Children.{HasRoomFor, SpendsNeed}
use Rattle.lsys_children.specs.Wishes.{AreWanted}
use Rattle.lsys_children.specs.Nexts.{node_key}
use Rattle.lsys_children.specs.Parents.{wants}
use Rattle.lsys_children.proofs.Needs.{need_there}
use Rattle.lsys_children.proofs.make.make_listed.Goals as goal

pub change-requires-clause-room : goal.change-requires-clause-room
change-requires-clause-room g c = λ n is.
    let m = now_of c.args.forest.now in
    let p = c.args.parent in
    let numbering = numbering_of c.args.numbering in
    let wanted = subst (λ (ws : List Child). AreWanted numbering (node_key m p.node) (wants m p) ws) (sym c.children.ensures) c.in_ok-fill_for.ensures.wanted in
    subst (λ (need : Need). HasRoomFor c.args.forest.now c.args.changes.now need) (sym (need_there numbering m p n (node_key m p.node) c.children.result.now is wanted)) c.requires.room

pub returns-clause-renewed : goal.returns-clause-renewed
returns-clause-renewed g c = λ n is.
    let m = now_of c.args.forest.now in
    let p = c.args.parent in
    let numbering = numbering_of c.args.numbering in
    let ws = c.children.result.now in
    let wanted = subst (λ (ws : List Child). AreWanted numbering (node_key m p.node) (wants m p) ws) (sym c.children.ensures) c.in_ok-fill_for.ensures.wanted in
    record {
      children = ws;
      wanted = subst (λ k. AreWanted numbering k (wants m p) ws) (ap (λ (o : Option (Node Kept)). (spot_in p.node o).key) is) wanted;
      renewed = c.in_ok-change.ensures.children n is;
      told = c.in_ok-change.ensures.told n is;
      spends = subst (λ (need : Need). SpendsNeed c.args.forest.now c.change.new.forest need) (need_there numbering m p n (node_key m p.node) ws is wanted) (c.in_ok-change.ensures.spends n is);
    }

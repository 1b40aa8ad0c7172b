use Rattle.std.specs.Prelude.{OnOk}
use Rattle.std.proofs.Common.{◌≡◌, ◌+◌, ◌<◌, ◌≤◌, ◌^◌, sym, ap, ◌∙◌, subst, arith}
use Rattle.lsys_forest.specs.Slots.{live_slots}
use Rattle.lsys_forest.specs.Nodes.{Nodes}
use Rattle.lsys_forest.specs.Changes.{undone}
use Rattle.lsys_forest.specs.Stocks.{Stock, nodes_of, changes_of}
use Rattle.lsys_forest.specs.Ranks.{AreRanked, AreLinked}
use Rattle.lsys_forest.specs.Pairs.{AreMated, AreModules}
use Rattle.lsys_forest.specs.Groves.{Grove, live_nodes, rest_of, IsGrove, KeepsSpares}
use Rattle.lsys_forest.proofs.GroveLemmas.{IsGrove-room}
use Rattle.lsys_forest.specs.Loosened.{AreLoose}
use Rattle.lsys_forest.proofs.forest.Forest.reserve.Goals.{then-room-nodes, else-room-nodes}
use Rattle.lsys_forest.proofs.forest.Forest.reserve.Goals as goal

pub invariant_of-self : goal.invariant_of-self
invariant_of-self g c =
    let i = c.self.inside in
    let e = c.reserve.ensures in
    let grove = c.self.invariant.grove in
    record {
      grove = IsGrove-room i.parts c.reserve.new.self i.root i.spare_nodes i.spare_notes i.spare_nodes i.spare_notes e.nodes e.changes (omega (arith, e.live, e.keeps.capacity, grove.nodes_left)) (omega (arith, e.live, grove.numbers)) (λ some. (let f = grove.fit some in omega (arith, f, e.keeps.capacity))) (omega (arith, e.live, e.keeps.note_room, grove.notes_left)) grove;
      ranked = subst (λ (m : Nodes g.row.A.Denot). AreRanked m c.reserve.new.self.footings) (sym e.nodes) (subst (AreRanked (nodes_of i.parts)) (sym e.footings) c.self.invariant.ranked);
      linked = subst (λ (m : Nodes g.row.A.Denot). AreLinked m i.root c.reserve.new.self.footings i.linked) (sym e.nodes) (subst (λ fs. AreLinked (nodes_of i.parts) i.root fs i.linked) (sym e.footings) c.self.invariant.linked);
      mated = subst (λ (m : Nodes g.row.A.Denot). AreMated m i.root c.reserve.new.self.footings i.mated) (sym e.nodes) (subst (λ fs. AreMated (nodes_of i.parts) i.root fs i.mated) (sym e.footings) c.self.invariant.mated);
      branches = λ none. (
          let modules = c.self.invariant.branches none in (
            subst (λ (m : Nodes g.row.A.Denot). AreModules m i.root) (sym e.nodes) modules.0,
            subst (λ (m : Nodes g.row.A.Denot). AreModules m i.root) (sym (ap (undone (changes_of c.reserve.new.self)) e.nodes ∙ ap (λ cs. undone cs (nodes_of i.parts)) e.changes)) modules.1,
          )
          );
      loose = subst (λ (m : Nodes g.row.A.Denot). AreLoose i.loose m i.root) (sym e.nodes) c.self.invariant.loose;
    }

pub invariant_of-self-2 : goal.invariant_of-self-2
invariant_of-self-2 g c =
    let i = c.self.inside in
    let e = c.reserve.ensures in
    let more = c.in_ok-reserve.ensures in
    let r = c.room_for-room.ensures in
    let grove = c.self.invariant.grove in
    let new = c.room_for-room.new.parts in
    let asked = subst (λ (f : Grove g.row.A.Denot). live_nodes f + c.args.nodes < 2 ^ 32) (sym c.self.view_is) c.requires.numbers in
    let live : live_slots new.slots ≡ live_slots i.parts.slots = ap (λ (t : Stock g.row.A.Denot). live_slots t.slots) r.same ∙ e.live in
    let was : IsGrove c.reserve.new.self i.root i.spare_nodes i.spare_notes = IsGrove-room i.parts c.reserve.new.self i.root i.spare_nodes i.spare_notes i.spare_nodes i.spare_notes e.nodes e.changes (omega (arith, e.live, e.keeps.capacity, grove.nodes_left)) (omega (arith, e.live, grove.numbers)) (λ some. (let f = grove.fit some in omega (arith, f, e.keeps.capacity))) (omega (arith, e.live, e.keeps.note_room, grove.notes_left)) grove in
    let left = ap (λ (t : Stock g.row.A.Denot). t.note_room) r.same in
    record {
      grove = IsGrove-room c.reserve.new.self new i.root i.spare_nodes i.spare_notes c.room_for-room.result c.max-spare_notes.result (ap (λ (t : Stock g.row.A.Denot). nodes_of t) r.same) (ap (λ (t : Stock g.row.A.Denot). changes_of t) r.same)
          (omega (arith, live, e.live, r.room)) (omega (arith, live, e.live, r.most, asked, grove.numbers)) r.fit (omega (arith, live, e.live, left, more.notes, more.fits, r.most, c.max-spare_nodes.ensures, c.saturating_add-places.ensures, c.live.ensures)) was;
      ranked = subst (λ (t : Stock g.row.A.Denot). AreRanked (nodes_of t) t.footings) (sym r.same) (subst (λ (m : Nodes g.row.A.Denot). AreRanked m c.reserve.new.self.footings) (sym e.nodes) (subst (AreRanked (nodes_of i.parts)) (sym e.footings) c.self.invariant.ranked));
      linked = subst (λ (t : Stock g.row.A.Denot). AreLinked (nodes_of t) i.root t.footings i.linked) (sym r.same) (subst (λ (m : Nodes g.row.A.Denot). AreLinked m i.root c.reserve.new.self.footings i.linked) (sym e.nodes) (subst (λ fs. AreLinked (nodes_of i.parts) i.root fs i.linked) (sym e.footings) c.self.invariant.linked));
      mated = subst (λ (t : Stock g.row.A.Denot). AreMated (nodes_of t) i.root t.footings i.mated) (sym r.same) (subst (λ (m : Nodes g.row.A.Denot). AreMated m i.root c.reserve.new.self.footings i.mated) (sym e.nodes) (subst (λ fs. AreMated (nodes_of i.parts) i.root fs i.mated) (sym e.footings) c.self.invariant.mated));
      branches = λ none. (
          let modules = c.self.invariant.branches none in
          subst (λ (t : Stock g.row.A.Denot). AreModules (nodes_of t) i.root × AreModules (undone (changes_of t) (nodes_of t)) i.root) (sym r.same) (
            subst (λ (m : Nodes g.row.A.Denot). AreModules m i.root) (sym e.nodes) modules.0,
            subst (λ (m : Nodes g.row.A.Denot). AreModules m i.root) (sym (ap (undone (changes_of c.reserve.new.self)) e.nodes ∙ ap (λ cs. undone cs (nodes_of i.parts)) e.changes)) modules.1,
          )
          );
      loose = subst (λ (t : Stock g.row.A.Denot). AreLoose i.loose (nodes_of t) i.root) (sym r.same) (subst (λ (m : Nodes g.row.A.Denot). AreLoose i.loose m i.root) (sym e.nodes) c.self.invariant.loose);
    }

pub returns-clause-now : goal.returns-clause-now
returns-clause-now g c = ap (λ (t : Stock g.row.A.Denot). nodes_of t) c.room_for-room.ensures.same ∙ c.reserve.ensures.nodes ∙ ap (λ (f : Grove g.row.A.Denot). nodes_of f.stock) c.self.view_is

pub returns-clause-rest : goal.returns-clause-rest
returns-clause-rest g c =
    ap (λ (t : Stock g.row.A.Denot). undone (changes_of t) (nodes_of t)) c.room_for-room.ensures.same
    ∙ ap (undone (changes_of c.reserve.new.self)) c.reserve.ensures.nodes
    ∙ ap (λ cs. undone cs (nodes_of c.self.inside.parts)) c.reserve.ensures.changes
    ∙ ap (λ (f : Grove g.row.A.Denot). rest_of f) c.self.view_is

pub returns-clause-spares : goal.returns-clause-spares
returns-clause-spares g c =
    let i = c.self.inside in
    let e = c.reserve.ensures in
    let r = c.room_for-room.ensures in
    let live = ap (λ (t : Stock g.row.A.Denot). live_slots t.slots) r.same in
    let params = ap (λ (t : Stock g.row.A.Denot). t.param_room) r.same in
    let kids = ap (λ (t : Stock g.row.A.Denot). t.kid_room) r.same in
    let new : Grove g.row.A.Denot = record { stock = c.room_for-room.new.parts; root = i.root; spare_nodes = c.room_for-room.result; spare_notes = c.max-spare_notes.result } in
    subst (λ (f : Grove g.row.A.Denot). OnOk c.if-room-nodes.result (KeepsSpares f new)) c.self.view_is
    (elim c.if-room-nodes.branch [
      | then-room-nodes w ↦ subst (λ x. OnOk x (KeepsSpares (record { stock = i.parts; root = i.root; spare_nodes = i.spare_nodes; spare_notes = i.spare_notes }) new)) (sym w.result-is) tt
      | else-room-nodes w ↦ subst (λ x. OnOk x (KeepsSpares (record { stock = i.parts; root = i.root; spare_nodes = i.spare_nodes; spare_notes = i.spare_notes }) new)) (sym w.result-is) (record {
        live = live ∙ e.live;
        numbers = omega (arith, r.more, e.keeps.capacity);
        nodes_left = r.enough (omega (arith, w.if-room-nodes.false));
        params_left = omega (arith, params, e.keeps.param_room);
        kids_left = omega (arith, kids, e.keeps.kid_room);
        notes_left = omega (arith, c.max-spare_notes.ensures);
      })
    ])

pub returns-clause-fits : goal.returns-clause-fits
returns-clause-fits g c =
    let i = c.self.inside in
    let e = c.reserve.ensures in
    let r = c.room_for-room.ensures in
    let live = ap (λ (t : Stock g.row.A.Denot). live_slots t.slots) r.same in
    let params = ap (λ (t : Stock g.row.A.Denot). t.param_room) r.same in
    let kids = ap (λ (t : Stock g.row.A.Denot). t.kid_room) r.same in
    let new : Grove g.row.A.Denot = record { stock = c.room_for-room.new.parts; root = i.root; spare_nodes = c.room_for-room.result; spare_notes = c.max-spare_notes.result } in
    subst (λ (f : Grove g.row.A.Denot). c.room_for-room.new.parts.capacity ≤ 2 ^ 32 → KeepsSpares f new) c.self.view_is (λ fits. record {
      live = live ∙ e.live;
      numbers = omega (arith, r.more, e.keeps.capacity);
      nodes_left = r.kept fits;
      params_left = omega (arith, params, e.keeps.param_room);
      kids_left = omega (arith, kids, e.keeps.kid_room);
      notes_left = omega (arith, c.max-spare_notes.ensures);
    })

pub returns-clause-others : goal.returns-clause-others
returns-clause-others g c =
    let i = c.self.inside in
    let e = c.reserve.ensures in
    let r = c.room_for-room.ensures in
    let live = ap (λ (t : Stock g.row.A.Denot). live_slots t.slots) r.same in
    let params = ap (λ (t : Stock g.row.A.Denot). t.param_room) r.same in
    let kids = ap (λ (t : Stock g.row.A.Denot). t.kid_room) r.same in
    let new : Grove g.row.A.Denot = record { stock = c.room_for-room.new.parts; root = i.root; spare_nodes = c.room_for-room.result; spare_notes = c.max-spare_notes.result } in
    subst (λ (f : Grove g.row.A.Denot). KeepsSpares (record f { spare_nodes = 0 }) new) c.self.view_is (record {
      live = live ∙ e.live;
      numbers = omega (arith, r.more, e.keeps.capacity);
      nodes_left = omega arith;
      params_left = omega (arith, params, e.keeps.param_room);
      kids_left = omega (arith, kids, e.keeps.kid_room);
      notes_left = omega (arith, c.max-spare_notes.ensures);
    })

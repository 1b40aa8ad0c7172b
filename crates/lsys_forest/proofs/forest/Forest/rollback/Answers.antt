use Rattle.std.proofs.Common.{[], sym, subst, arith}
use Rattle.lsys_forest.specs.Nodes.{Nodes}
use Rattle.lsys_forest.specs.Stocks.{nodes_of, changes_of}
use Rattle.lsys_forest.specs.Answers.{answers, kept_by, LiveApart, FreesAllBut}
use Rattle.lsys_forest.specs.Groves.{Grove, rest_of, kept_in, Spends, IsRooted}
use Rattle.lsys_forest.proofs.GroveLemmas.{sound_rest, IsGrove-rest}
use Rattle.lsys_forest.proofs.AnswerLemmas.{frees_by}
use Rattle.lsys_forest.proofs.LooseLemmas.{none_at_rest}
use Rattle.lsys_forest.specs.Pairs.{AreModules}
use Rattle.lsys_forest.specs.Changes.{undone}
use Rattle.lsys_forest.proofs.forest.Forest.rollback.Goals as goal

pub undo_all-requires : goal.undo_all-requires
undo_all-requires g c = record {
  sound = c.self.invariant.grove.sound;
  ranked = c.self.invariant.ranked;
  linked = c.self.invariant.linked;
  made = subst (λ (f : Grove g.row.A.Denot). LiveApart g.A.Kept.run_at g.A.Kept.Holds c.args.store.now (kept_in f)) (sym c.self.view_is) c.requires.made;
}

pub invariant_of-self : goal.invariant_of-self
invariant_of-self g c =
    let i = c.self.inside in
    let e = c.undo_all.ensures in
    record {
      grove = IsGrove-rest i.parts c.undo_all.new.parts i.root i.spare_nodes i.spare_notes (subst (IsRooted i.root []) (sym e.nodes) (sound_rest c.self.invariant.grove)) e.empty e.live e.room c.self.invariant.grove;
      ranked = e.ranked;
      linked = e.linked;
      mated = λ t less. absurd (omega (arith, less));
      branches = λ none. (
          let modules = (c.self.invariant.branches none).1 in
          let now = subst (λ (m : Nodes g.row.A.Denot). AreModules m i.root) (sym e.nodes) modules in
          (now, subst (λ cs. AreModules (undone cs (nodes_of c.undo_all.new.parts)) i.root) (sym e.empty) now)
          );
      loose = none_at_rest (nodes_of c.undo_all.new.parts) i.root (subst (IsRooted i.root []) (sym e.nodes) (sound_rest c.self.invariant.grove));
    }

pub returns-clause-spares : goal.returns-clause-spares
returns-clause-spares g c =
    let i = c.self.inside in
    let e = c.undo_all.ensures in
    let new : Grove g.row.A.Denot = record { stock = c.undo_all.new.parts; root = i.root; spare_nodes = i.spare_nodes; spare_notes = i.spare_notes } in
    subst (λ (f : Grove g.row.A.Denot). Spends f new 0 0 0 0) c.self.view_is (record {
      live = omega (arith, e.live);
      numbers = omega (arith, e.room.capacity);
      nodes_left = omega arith;
      params_left = omega (arith, e.room.param_room);
      kids_left = omega (arith, e.room.kid_room);
      notes_left = omega arith;
    })

pub returns-clause-store : goal.returns-clause-store
returns-clause-store g c =
    let i = c.self.inside in
    let e = c.undo_all.ensures in
    subst (λ (f : Grove g.row.A.Denot). FreesAllBut g.A.Kept.run_at g.A.Kept.Holds (kept_in f) (kept_by (rest_of f)) c.args.store.now c.undo_all.new.store) c.self.view_is
    (subst (λ (m : Nodes g.row.A.Denot). FreesAllBut g.A.Kept.run_at g.A.Kept.Holds (answers (nodes_of i.parts) (changes_of i.parts)) (kept_by m) c.args.store.now c.undo_all.new.store) e.nodes
    (frees_by g.A.Kept.run_at g.A.Kept.Holds (answers (nodes_of i.parts) (changes_of i.parts)) (nodes_of c.undo_all.new.parts) (changes_of c.undo_all.new.parts) c.args.store.now c.undo_all.new.store e.empty e.freed))

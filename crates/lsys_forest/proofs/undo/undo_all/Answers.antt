use Rattle.std.proofs.Common.{◌++◌, ◌∷◌, [], List, refl, sym, ap, ◌∙◌, subst, arith}
use Rattle.lsys_forest.specs.Nodes.{Nodes}
use Rattle.lsys_forest.specs.Changes.{Change, undone, undo}
use Rattle.lsys_forest.specs.Stocks.{Stock, nodes_of, changes_of, dropped}
use Rattle.lsys_forest.specs.Answers.{answers, LiveApart, FreesUnheld}
use Rattle.lsys_forest.proofs.SoundLemmas.{undone_last}
use Rattle.lsys_forest.proofs.AnswerLemmas.{IsStep, undo_step, lost_made, step_made, step_follows, follows_on}
use Rattle.lsys_forest.proofs.RankLemmas.{undone_sound}
use Rattle.lsys_forest.proofs.undo.undo_all.Goals as goal

pub undo_one-requires : goal.undo_one-requires
undo_one-requires g c = record {
  sound = c.loop-root.invariant.sound;
  ranked = c.loop-root.invariant.ranked;
  linked = c.loop-root.invariant.linked;
  made = λ x earlier were.
      let m = nodes_of c.loop-root.parts in
      let step = undo_step m earlier x.node x.before in
      lost_made g.A.Kept.run_at g.A.Kept.Holds (answers m (earlier ++ x ∷ [])) (answers (undo x m) earlier) (dropped x m) c.loop-root.store step
      (subst (λ cs. LiveApart g.A.Kept.run_at g.A.Kept.Holds c.loop-root.store (answers m cs)) were c.loop-root.invariant.made);
}

pub loop-root-preserved : goal.loop-root-preserved
loop-root-preserved g c =
    let done = c.loop-root-test.ensures.undone refl in
    let x = done.0 in
    let takes = done.1.takes in
    let m = nodes_of c.loop-root.parts in
    let m' = nodes_of c.undo_one.new.parts in
    let was = c.loop-root.invariant in
    let made = subst (λ cs. LiveApart g.A.Kept.run_at g.A.Kept.Holds c.loop-root.store (answers m cs)) takes.were was.made in
    let step : IsStep (answers m (takes.earlier ++ x ∷ [])) (answers m' (changes_of c.undo_one.new.parts)) (dropped x m) =
    subst (λ (f : Nodes g.row.A.Denot). IsStep (answers m (takes.earlier ++ x ∷ [])) (answers f (changes_of c.undo_one.new.parts)) (dropped x m)) (sym done.1.nodes)
    (subst (λ (cs : List (Change g.row.A.Denot)). IsStep (answers m (takes.earlier ++ x ∷ [])) (answers (undo x m) cs) (dropped x m)) (sym takes.are) (undo_step m takes.earlier x.node x.before)) in
    let made' = step_made g.A.Kept.run_at g.A.Kept.Holds (answers m (takes.earlier ++ x ∷ [])) (answers m' (changes_of c.undo_one.new.parts)) (dropped x m) c.loop-root.store c.undo_one.new.store step made done.2 in
    let follows = step_follows g.A.Kept.run_at g.A.Kept.Holds (answers m (takes.earlier ++ x ∷ [])) (answers m' (changes_of c.undo_one.new.parts)) (dropped x m) c.loop-root.store c.undo_one.new.store step made done.2 in
    record {
      sound = undone_sound c.args.root c.loop-root.parts c.undo_one.new.parts x done.1 was.sound;
      ranked = c.undo_one.ensures.ranked;
      linked = c.undo_one.ensures.linked;
      told =
          ap (undone (changes_of c.undo_one.new.parts)) done.1.nodes
          ∙ ap (λ cs. undone cs (undo x m)) takes.are
          ∙ sym (undone_last takes.earlier x m)
          ∙ sym (ap (λ cs. undone cs m) takes.were)
          ∙ was.told;
      live = omega (arith, done.1.live, was.live);
      room = record {
        capacity = omega (arith, takes.room.capacity, was.room.capacity);
        note_room = omega (arith, takes.room.note_room, was.room.note_room);
        param_room = omega (arith, takes.room.param_room, was.room.param_room);
        kid_room = omega (arith, takes.room.kid_room, was.room.kid_room);
      };
      made = made';
      freed = follows_on g.A.Kept.run_at g.A.Kept.Holds (answers (nodes_of c.args.parts.now) (changes_of c.args.parts.now)) (answers m (changes_of c.loop-root.parts)) (answers m' (changes_of c.undo_one.new.parts)) c.args.store.now c.loop-root.store c.undo_one.new.store was.made was.freed
          (subst (λ cs. FreesUnheld g.A.Kept.run_at g.A.Kept.Holds (answers m cs) c.loop-root.store (answers m' (changes_of c.undo_one.new.parts)) c.undo_one.new.store) (sym takes.were) follows);
    }

pub returns-clause-made : goal.returns-clause-made
returns-clause-made g c =
    let none = c.loop-root-test.ensures.none refl in
    subst (λ s. LiveApart g.A.Kept.run_at g.A.Kept.Holds s (answers (nodes_of c.undo_one.new.parts) (changes_of c.undo_one.new.parts))) (sym none.2)
    (subst (λ (t : Stock g.row.A.Denot). LiveApart g.A.Kept.run_at g.A.Kept.Holds c.loop-root.store (answers (nodes_of t) (changes_of t))) (sym none.1) c.loop-root.invariant.made)

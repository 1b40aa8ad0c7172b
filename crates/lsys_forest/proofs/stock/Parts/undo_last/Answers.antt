use Rattle.std.proofs.Common.{◌≡◌, ◌++◌, ◌∷◌, [], List, length, refl, sym, ap, ◌∙◌, subst, arith}
use Rattle.std.proofs.lemmas.List.{length_push}
use Rattle.std.proofs.lemmas.Grind.{common_steps}
use Rattle.lsys_forest.specs.Shelves.{shelf_of}
use Rattle.lsys_forest.specs.Changes.{Change}
use Rattle.lsys_forest.specs.Answers.{Lives, Releases}
use Rattle.lsys_forest.specs.Stocks.{Stock, nodes_of, changes_of, changes_told, dropped, IsStock, stock_of, KeepsFootings, Undoes}
use Rattle.lsys_forest.proofs.LastLemmas.{last_undone}
use Rattle.lsys_forest.proofs.BackLemmas.{undo_done, undone_kept}
use Rattle.lsys_forest.proofs.stock.Parts.undo_last.Goals as goal

pub undo_note-requires-clause-made : goal.undo_note-requires-clause-made
undo_note-requires-clause-made g c =
    let i = c.self.inside in
    let k = c.in-Some.note.node in
    let w = c.in-Some.note.was in
    let P = shelf_of i.params i.table.param_runs in
    let Q = shelf_of i.kids i.table.kid_runs in
    let is : IsStock (c.pop.new.self.notes ++ c.in-Some.note ∷ []) P.past Q.past = subst (λ ns. IsStock ns P.past Q.past) c.in-Some.ensures.some c.self.invariant.stock in
    let last = last_undone i.table.slots P Q c.pop.new.self.notes k w is in
    let made = subst (λ (t : Stock g.row.A.Denot). (x : Change g.row.A.Denot) (earlier : List (Change g.row.A.Denot)) → changes_of t ≡ earlier ++ x ∷ [] → Lives g.A.Kept.run_at g.A.Kept.Holds c.args.store.now (dropped x (nodes_of t))) (sym c.self.view_is) c.requires.made in
    subst (Lives g.A.Kept.run_at g.A.Kept.Holds c.args.store.now) last.answer (made last.last last.earlier (ap (λ ns. changes_told ns P.past Q.past) c.in-Some.ensures.some ∙ last.were))

pub invariant_of-self : goal.invariant_of-self
invariant_of-self g c =
    let i = c.self.inside in
    let k = c.in-Some.note.node in
    let w = c.in-Some.note.was in
    let P = shelf_of i.params i.table.param_runs in
    let Q = shelf_of i.kids i.table.kid_runs in
    let is : IsStock (c.pop.new.self.notes ++ c.in-Some.note ∷ []) P.past Q.past = subst (λ ns. IsStock ns P.past Q.past) c.in-Some.ensures.some c.self.invariant.stock in
    let t' = c.undo_note.new.table in
    let p' = c.undo_note.new.params in
    let q' = c.undo_note.new.kids in
    let e = c.undo_note.ensures in
    let done = undo_done i.table.slots t'.slots P (shelf_of p' t'.param_runs) Q (shelf_of q' t'.kid_runs) c.pop.new.self.notes k w is e.slots e.old_params e.old_kids in
    record { params = e.params; kids = e.kids; stock = done.sound }

pub returns-in-Some-clause-undone : goal.returns-in-Some-clause-undone
returns-in-Some-clause-undone g c = λ yes.
    let i = c.self.inside in
    let k = c.in-Some.note.node in
    let w = c.in-Some.note.was in
    let P = shelf_of i.params i.table.param_runs in
    let Q = shelf_of i.kids i.table.kid_runs in
    let is : IsStock (c.pop.new.self.notes ++ c.in-Some.note ∷ []) P.past Q.past = subst (λ ns. IsStock ns P.past Q.past) c.in-Some.ensures.some c.self.invariant.stock in
    let t' = c.undo_note.new.table in
    let p' = c.undo_note.new.params in
    let q' = c.undo_note.new.kids in
    let e = c.undo_note.ensures in
    let done = undo_done i.table.slots t'.slots P (shelf_of p' t'.param_runs) Q (shelf_of q' t'.kid_runs) c.pop.new.self.notes k w is e.slots e.old_params e.old_kids in
    let new : Stock g.row.A.Denot = stock_of t' p' q' c.pop.new.self in
    subst (λ (t : Stock g.row.A.Denot). (x : Change g.row.A.Denot) × Undoes t new x × Releases g.A.Kept.run_at g.A.Kept.Holds (dropped x (nodes_of t)) c.args.store.now c.undo_note.new.store) c.self.view_is (
      done.last,
      record {
        takes = record {
          earlier = changes_of new;
          were = ap (λ ns. changes_told ns P.past Q.past) c.in-Some.ensures.some ∙ done.told_is;
          are = refl;
          notes = let l = ap length c.in-Some.ensures.some in omega (arith, l, length_push c.pop.new.self.notes c.in-Some.note);
          room = record {
            capacity = e.capacity;
            note_room = omega (arith, c.pop.ensures.room, done.past_params_room, done.past_kids_room, done.live);
            param_room = done.param_room;
            kid_room = done.kid_room;
          };
        };
        nodes = done.nodes;
        live = done.live;
      },
      subst (λ o. Releases g.A.Kept.run_at g.A.Kept.Holds o c.args.store.now c.undo_note.new.store) (sym done.answer) e.released,
    )

pub returns-in-Some-clause-footings : goal.returns-in-Some-clause-footings
returns-in-Some-clause-footings g c =
    let i = c.self.inside in
    let k = c.in-Some.note.node in
    let w = c.in-Some.note.was in
    let P = shelf_of i.params i.table.param_runs in
    let Q = shelf_of i.kids i.table.kid_runs in
    let is : IsStock (c.pop.new.self.notes ++ c.in-Some.note ∷ []) P.past Q.past = subst (λ ns. IsStock ns P.past Q.past) c.in-Some.ensures.some c.self.invariant.stock in
    let t' = c.undo_note.new.table in
    let p' = c.undo_note.new.params in
    let q' = c.undo_note.new.kids in
    let e = c.undo_note.ensures in
    let done = undo_done i.table.slots t'.slots P (shelf_of p' t'.param_runs) Q (shelf_of q' t'.kid_runs) c.pop.new.self.notes k w is e.slots e.old_params e.old_kids in
    let new : Stock g.row.A.Denot = stock_of t' p' q' c.pop.new.self in
    subst (λ (t : Stock g.row.A.Denot). KeepsFootings (nodes_of new) t new) c.self.view_is
    (undone_kept i.table.slots t'.slots new.params new.kids i.table.footings t'.footings k w e.slots e.footings)

pub invariant_of-self-in-None : goal.invariant_of-self-in-None
invariant_of-self-in-None g c = grind (arith, common_steps)

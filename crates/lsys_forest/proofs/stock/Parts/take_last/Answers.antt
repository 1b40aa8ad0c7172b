use Rattle.std.proofs.Common.{◌≡◌, ◌++◌, ◌∷◌, [], List, length, refl, sym, ap, ap₂, ◌∙◌, subst, arith}
use Rattle.std.proofs.lemmas.List.{length_push}
use Rattle.std.proofs.lemmas.Grind.{common_steps}
use Rattle.lsys_forest.specs.Shelves.{shelf_of}
use Rattle.lsys_forest.specs.Changes.{Change}
use Rattle.lsys_forest.specs.Answers.{Lives, Releases, old_answer}
use Rattle.lsys_forest.specs.Stocks.{Stock, changes_of, changes_told, IsStock, stock_of, TakesUp}
use Rattle.lsys_forest.proofs.StockLemmas.{shown_nodes}
use Rattle.lsys_forest.proofs.LastLemmas.{last_undone, take_done, drops_left, takes_left, names_left}
use Rattle.lsys_forest.proofs.stock.Parts.take_last.Goals as goal

pub take_up-requires : goal.take_up-requires
take_up-requires g c = record {
  made = λ n earlier are. (
      let i = c.self.inside in
      let k = n.node in
      let w = n.was in
      let P = shelf_of i.params i.table.param_runs in
      let Q = shelf_of i.kids i.table.kid_runs in
      let is : IsStock (earlier ++ n ∷ []) P.past Q.past = subst (λ ns. IsStock ns P.past Q.past) are c.self.invariant.stock in
      let last = last_undone i.table.slots P Q earlier k w is in
      let made = subst (λ (t : Stock g.row.A.Denot). (x : Change g.row.A.Denot) (earlier : List (Change g.row.A.Denot)) → changes_of t ≡ earlier ++ x ∷ [] → Lives g.A.Kept.run_at g.A.Kept.Holds c.args.store.now (old_answer x)) (sym c.self.view_is) c.requires.made in
      subst (Lives g.A.Kept.run_at g.A.Kept.Holds c.args.store.now) last.noted (made last.last last.earlier (ap (λ ns. changes_told ns P.past Q.past) are ∙ last.were)));
}

pub take_lists-requires : goal.take_lists-requires
take_lists-requires g c =
    let i = c.self.inside in
    record { params = (i.table.param_runs, c.self.invariant.params); kids = (i.table.kid_runs, c.self.invariant.kids) }

pub invariant_of-self : goal.invariant_of-self
invariant_of-self g c =
    let i = c.self.inside in
    let up = c.in-Some.ensures.some in
    let n = up.0 in
    let k = n.node in
    let w = n.was in
    let r = c.in-Some.remnant in
    let P = shelf_of i.params i.table.param_runs in
    let Q = shelf_of i.kids i.table.kid_runs in
    let is : IsStock (c.take_up.new.self.notes ++ n ∷ []) P.past Q.past = subst (λ ns. IsStock ns P.past Q.past) up.1 c.self.invariant.stock in
    let p' = c.take_lists.new.params in
    let q' = c.take_lists.new.kids in
    let e = c.take_lists.ensures in
    let done = take_done P (shelf_of p' i.table.param_runs) Q (shelf_of q' i.table.kid_runs) c.take_up.new.self.notes k w is (drops_left r k w P (shelf_of p' i.table.param_runs) up.2 (e.old_params i.table.param_runs c.self.invariant.params)) (takes_left r k w Q (shelf_of q' i.table.kid_runs) up.2 (e.old_kids i.table.kid_runs c.self.invariant.kids)) in
    record { params = e.params i.table.param_runs c.self.invariant.params; kids = e.kids i.table.kid_runs c.self.invariant.kids; stock = done.sound }

pub returns-in-Some-clause-taken : goal.returns-in-Some-clause-taken
returns-in-Some-clause-taken g c =
    let i = c.self.inside in
    let up = c.in-Some.ensures.some in
    let n = up.0 in
    let k = n.node in
    let w = n.was in
    let r = c.in-Some.remnant in
    let P = shelf_of i.params i.table.param_runs in
    let Q = shelf_of i.kids i.table.kid_runs in
    let is : IsStock (c.take_up.new.self.notes ++ n ∷ []) P.past Q.past = subst (λ ns. IsStock ns P.past Q.past) up.1 c.self.invariant.stock in
    let p' = c.take_lists.new.params in
    let q' = c.take_lists.new.kids in
    let e = c.take_lists.ensures in
    let done = take_done P (shelf_of p' i.table.param_runs) Q (shelf_of q' i.table.kid_runs) c.take_up.new.self.notes k w is (drops_left r k w P (shelf_of p' i.table.param_runs) up.2 (e.old_params i.table.param_runs c.self.invariant.params)) (takes_left r k w Q (shelf_of q' i.table.kid_runs) up.2 (e.old_kids i.table.kid_runs c.self.invariant.kids)) in
    let new : Stock g.row.A.Denot = stock_of i.table p' q' c.take_up.new.self in
    subst (λ (t : Stock g.row.A.Denot). (x : Change g.row.A.Denot) × TakesUp t new x c.take_lists.result × Releases g.A.Kept.run_at g.A.Kept.Holds (old_answer x) c.args.store.now c.take_up.new.store) c.self.view_is (
      done.last,
      record {
        takes = record {
          earlier = changes_of new;
          were = ap (λ ns. changes_told ns P.past Q.past) up.1 ∙ done.told_is;
          are = refl;
          notes = let l = ap length up.1 in omega (arith, l, length_push c.take_up.new.self.notes n);
          room = record {
            capacity = refl;
            note_room = omega (arith, c.take_up.ensures.room, done.past_params_room, done.past_kids_room);
            param_room = omega (arith, done.rooms.0);
            kid_room = omega (arith, done.rooms.1);
          };
        };
        nodes = ap₂ (λ x y. shown_nodes i.table.slots x y) done.params done.kids;
        live = refl;
        looks = e.named new.hand ∙ names_left r k w new.hand up.2 ∙ done.looks;
        footings = refl;
      },
      subst (λ o. Releases g.A.Kept.run_at g.A.Kept.Holds o c.args.store.now c.take_up.new.store) (sym done.answer) up.3,
    )

pub invariant_of-self-in-None : goal.invariant_of-self-in-None
invariant_of-self-in-None g c = grind (arith, common_steps)

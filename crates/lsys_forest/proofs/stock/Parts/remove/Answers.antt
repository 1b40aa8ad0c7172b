use Rattle.std.proofs.Common.{ℕ, ℤ, ◌≡◌, ◌<◌, ◌++◌, ◌∷◌, [], length, map, Some, None, refl, sym, ap, ◌∙◌, subst, arith}
use Rattle.std.specs.Prelude.{IsSome, option_map}
use Rattle.std.proofs.lemmas.List.{length_push, length-map}
use Rattle.std.proofs.lemmas.Option.{same_Some}
use Rattle.std.proofs.lemmas.Grind.{common_steps}
use Rattle.lsys_forest.specs.declared.note.Was.TheVariants as was
use Rattle.lsys_forest.specs.declared.node.Stored.{Stored}
use Rattle.lsys_forest.specs.Shelves.{Shelf, run_list, past_room}
use Rattle.lsys_forest.specs.Slots.{slot_at, no_footing, footing_at, live_slots}
use Rattle.lsys_forest.specs.Nodes.{Node}
use Rattle.lsys_forest.specs.Changes.{OldKids}
use Rattle.lsys_forest.specs.Answers.{Lives, Releases}
use Rattle.lsys_forest.specs.Stocks.{Stock, node_of, row_at, nodes_of, changes_told, stock_of, Removes}
use Rattle.lsys_forest.proofs.ShelfLemmas.{room_nil}
use Rattle.lsys_forest.proofs.SlotLemmas.{live_gone, slot_some}
use Rattle.lsys_forest.proofs.TableLemmas.{get_set_other, get_cleared}
use Rattle.lsys_forest.proofs.StockLemmas.{IsStock-note, nodes_put, stored_of, lives_stored, told_kid, kid_count_le}
use Rattle.lsys_forest.proofs.stock.Parts.remove.Goals as goal

pub take_out-removed-requires-clause-lives : goal.take_out-removed-requires-clause-lives
take_out-removed-requires-clause-lives g c =
    let i = c.self.inside in
    let lives = subst (λ (t : Stock g.row.A.Denot). IsSome (nodes_of t c.args.node)) (sym c.self.view_is) c.requires.lives in
    let s = lives_stored i.table.slots (map (run_list i.params.pool) i.table.param_runs) (map (run_list i.kids.pool) i.table.kid_runs) c.args.node lives in
    subst IsSome (sym s.1) refl

pub take_out-removed-requires-clause-place : goal.take_out-removed-requires-clause-place
take_out-removed-requires-clause-place g c =
    let i = c.self.inside in
    let place = subst (λ (t : Stock g.row.A.Denot). 0 < t.note_room) (sym c.self.view_is) c.requires.place in
    let same = length-map i.kids.past (run_list i.kids.pool) in
    omega (arith, place, same, c.self.invariant.stock.past_kids_long, kid_count_le i.journal.notes)

pub release_one-requires : goal.release_one-requires
release_one-requires g c =
    let i = c.self.inside in
    let params = map (run_list i.params.pool) i.table.param_runs in
    let kids = map (run_list i.kids.pool) i.table.kid_runs in
    let s = c.take_out-removed.result in
    let n = node_of (row_at params c.args.node) (row_at kids c.args.node) s in
    let made = subst (λ (t : Stock g.row.A.Denot). (n : Node g.row.A.Denot) → nodes_of t c.args.node ≡ Some n → Lives g.A.Kept.run_at g.A.Kept.Holds c.args.store.now n.answer) (sym c.self.view_is) c.requires.made in
    made n (ap (option_map (node_of (row_at params c.args.node) (row_at kids c.args.node))) c.take_out-removed.ensures.was)

pub invariant_of-self : goal.invariant_of-self
invariant_of-self g c =
    let i = c.self.inside in
    let e = c.take_out-removed.ensures in
    let p' = c.take_out-removed.new.params in
    let q' = c.take_out-removed.new.kids in
    let pp = ap (λ (s : Shelf ℤ). s.past) e.no_params.cleared in
    let qp = ap (λ (s : Shelf ℕ). s.past) e.no_kids.swapped in
    record {
      params = e.params;
      kids = e.kids;
      stock = IsStock-note i.journal.notes c.push_bare.new.self.notes _ (map (run_list i.params.pool) i.params.past) (map (run_list p'.pool) p'.past) (map (run_list i.kids.pool) i.kids.past) (map (run_list q'.pool) q'.past) c.push_bare.ensures.pushed (let l = ap length pp in omega (arith, l)) (ap length qp ∙ length_push (map (run_list i.kids.pool) i.kids.past) _) c.self.invariant.stock;
    }

pub returns : goal.returns
returns g c =
    let i = c.self.inside in
    let e = c.take_out-removed.ensures in
    let k = c.args.node in
    let t' = c.take_out-removed.new.table in
    let p' = c.take_out-removed.new.params in
    let q' = c.take_out-removed.new.kids in
    let ns = c.push_bare.new.self in
    let params = map (run_list i.params.pool) i.table.param_runs in
    let kids = map (run_list i.kids.pool) i.table.kid_runs in
    let past = map (run_list i.params.pool) i.params.past in
    let past_kids = map (run_list i.kids.pool) i.kids.past in
    let pp = ap (λ (s : Shelf ℤ). s.past) e.no_params.cleared in
    let qp = ap (λ (s : Shelf ℕ). s.past) e.no_kids.swapped in
    let new : Stock g.row.A.Denot = stock_of t' p' q' ns in
    subst (λ (t : Stock g.row.A.Denot). (n : Node g.row.A.Denot) → nodes_of t k ≡ Some n → Removes t new k n × Releases g.A.Kept.run_at g.A.Kept.Holds n.answer c.args.store.now c.release_one.new.store) c.self.view_is
    (λ n is. (
    let s = stored_of i.table.slots params kids k n is in
    let same : c.take_out-removed.result ≡ s.0 = same_Some c.take_out-removed.result s.0 (sym e.was ∙ s.1) in
    let cleared : slot_at t'.slots k ≡ None = ap (λ x. slot_at x k) e.slots ∙ get_cleared i.table.slots k None in (
      record {
        nodes = nodes_put k i.table.slots t'.slots params new.params kids new.kids None (record {
          slots_same = λ j ne. ap (λ x. slot_at x j) e.slots ∙ get_set_other i.table.slots k j None None ne;
          params_same = e.no_params.comes.others;
          kids_same = e.no_kids.comes.others;
        }) (ap (option_map (node_of (row_at new.params k) (row_at new.kids k))) cleared);
        noted =
            ap (λ ns. changes_told ns (map (run_list p'.pool) p'.past) (map (run_list q'.pool) q'.past)) c.push_bare.ensures.pushed
            ∙ ap (λ p. changes_told (i.journal.notes ++ record { node = k; was = was.Kids } ∷ []) p (map (run_list q'.pool) q'.past)) pp
            ∙ ap (changes_told (i.journal.notes ++ record { node = k; was = was.Kids } ∷ []) past) qp
            ∙ told_kid i.journal.notes (record { node = k; was = was.Kids }) past past_kids (row_at kids k) c.self.invariant.stock.past_params_long c.self.invariant.stock.past_kids_long
            ∙ ap (λ (m : Node g.row.A.Denot). changes_told i.journal.notes past past_kids ++ record { node = k; before = OldKids m.kids } ∷ []) s.2;
        notes = ap length c.push_bare.ensures.pushed ∙ length_push i.journal.notes _;
        live = let l = ap live_slots e.slots in let f = live_gone i.table.slots k s.0 (slot_some i.table.slots k s.0 s.1) in omega (arith, l, f);
        room = record {
          capacity = e.capacity;
          note_room =
              let f = live_gone i.table.slots k s.0 (slot_some i.table.slots k s.0 s.1) in
              let n = ap live_slots e.slots in
              let x = ap past_room e.no_params.cleared in
              let l = ap length qp in
              let m = length_push past_kids (row_at kids k) in
              omega (arith, f, n, x, l, m, c.push_bare.ensures.room, e.no_kids.places);
          param_room = let x = ap (λ (r : Shelf ℤ). r.spare) e.no_params.cleared in omega (arith, x);
          kid_room = omega (arith, e.no_kids.spare, room_nil 0);
        };
        hand = ap (λ (r : Shelf ℕ). r.hand) e.no_kids.swapped;
        footings = λ j ne. ap (λ r. footing_at r j) e.footings ∙ get_set_other i.table.footings k j no_footing no_footing ne;
      },
      subst (λ o. Releases g.A.Kept.run_at g.A.Kept.Holds o c.args.store.now c.release_one.new.store) (ap (λ (r : Stored g.row.A.Denot). r.answer) same ∙ ap (λ (m : Node g.row.A.Denot). m.answer) s.2) c.release_one.ensures,
    )
    ))

pub push_bare-requires-clause-place : goal.push_bare-requires-clause-place
push_bare-requires-clause-place g c = grind (arith, common_steps)

-- What the calls of the parts do, where a note was written or taken.
use Rattle.std.proofs.Common.{◌≡◌, ◌≤◌, ℕ, ℤ, List, [], ◌∷◌, ◌++◌, length, map, Some, refl, ap, ◌∙◌, arith, ◌+◌}
use Rattle.std.proofs.lemmas.List.{length_push}
use Rattle.lsys_forest.specs.declared.node.Stored.{Stored}
use Rattle.lsys_forest.specs.declared.note.Note.{Note}
use Rattle.lsys_forest.specs.declared.note.Was.{Was}
use Rattle.lsys_forest.specs.Shelves.{Hoard, run_list}
use Rattle.lsys_forest.specs.Slots.{SlotTable, change_slot}
use Rattle.lsys_forest.specs.Nodes.{Node}
use Rattle.lsys_forest.specs.Changes.{Previous}
use Rattle.lsys_forest.specs.Stocks.{before_of, node_of, param_lists, kid_lists, changes_told, stock_of, AreStockParts, Journals}
use Rattle.lsys_forest.proofs.SlotLemmas.{live_change}
use Rattle.lsys_forest.proofs.StockLemmas.{shown_nodes, IsStock-note, nodes_changed, told_plain}

module _ {A : Type 0} (t : SlotTable A) (p : Hoard ℤ) (q : Hoard ℕ) (notes notes' : List (Note A)) (k : ℕ) (w : Was A) where
  abbrev pub rows_of : List (List ℤ)
  rows_of = map (run_list p.pool) t.param_runs

  abbrev pub kids_of : List (List ℕ)
  kids_of = map (run_list q.pool) t.kid_runs

  -- a note more, which takes no list, where one node changed in its slot
  pub parts_slot : (f : Stored A → Stored A) → param_lists w ≡ 0 → kid_lists w ≡ 0 → notes' ≡ notes ++ record { node = k; was = w } ∷ [] → AreStockParts t p q notes → AreStockParts (record t { slots = change_slot f t.slots k }) p q notes'
  parts_slot f p0 q0 pushed are = record {
    params = are.params;
    kids = are.kids;
    stock = IsStock-note notes notes' (record { node = k; was = w }) (map (run_list p.pool) p.past) (map (run_list p.pool) p.past) (map (run_list q.pool) q.past) (map (run_list q.pool) q.past) pushed (omega (arith, p0)) (omega (arith, q0)) are.stock;
  }

  pub journal_slot : (f : Stored A → Stored A) (g : Node A → Node A) → ((x : List ℤ) (y : List ℕ) (s : Stored A) → node_of x y (f s) ≡ g (node_of x y s)) → (room room' : ℕ) (before : Previous A) (n : Node A) → notes' ≡ notes ++ record { node = k; was = w } ∷ [] → room ≤ room' + 1 → AreStockParts t p q notes → shown_nodes t.slots rows_of kids_of k ≡ Some n → before_of w [] [] ≡ before → Journals (stock_of t p q (record { notes = notes; room = room })) (stock_of (record t { slots = change_slot f t.slots k }) p q (record { notes = notes'; room = room' })) k (Some (g n)) before 0 0 0
  journal_slot f g fits room room' before n pushed more are is was = record {
    nodes = nodes_changed f g fits t.slots (change_slot f t.slots k) rows_of kids_of k n is refl;
    noted =
        ap (λ ns. changes_told ns (map (run_list p.pool) p.past) (map (run_list q.pool) q.past)) pushed
        ∙ told_plain notes (record { node = k; was = w }) (map (run_list p.pool) p.past) (map (run_list q.pool) q.past) are.stock.past_params_long are.stock.past_kids_long
        ∙ ap (λ x. changes_told notes (map (run_list p.pool) p.past) (map (run_list q.pool) q.past) ++ record { node = k; before = x } ∷ []) was;
    notes = ap length pushed ∙ length_push notes _;
    live = let same = live_change f t.slots k in omega (arith, same);
    capacity = refl;
    note_room = omega (arith, more);
    param_room = omega arith;
    kid_room = omega arith;
    hand = refl;
    footings = λ j lives. refl;
  }

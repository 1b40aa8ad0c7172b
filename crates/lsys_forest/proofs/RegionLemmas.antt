-- In which runs the lists of a stock stand.
use Rattle.lsys_forest.specs.Notes.{Notes}
use Rattle.std.proofs.Common.{◌≡◌, ℕ, ℤ, List, [], ◌∷◌, length, get_or, Option, Some, None, refl, sym, ap, ◌∙◌, arith}
use Rattle.std.specs.Prelude.{option_map}
use Rattle.std.proofs.lemmas.Option.{none-some}
use Rattle.slab.specs.Slab.{Slab}
use Rattle.lsys_forest.specs.declared.node.Stored.{Stored}
use Rattle.lsys_forest.specs.declared.node.NodeEntry.{NodeEntry}
use Rattle.lsys_forest.specs.declared.note.Note.{Note}
use Rattle.lsys_forest.specs.Shelves.{Hoard}
use Rattle.lsys_forest.specs.Slots.{SlotTable, slot_at, node_in, param_run_in, kid_run_in, table_of}
use Rattle.lsys_forest.specs.Stocks.{Stock, nodes_of, changes_of, changes_told, param_count, kid_count, node_of, row_at, stock_of, AreStockParts}
use Rattle.lsys_forest.specs.Regions.{StandIn, HasNoVacantRuns}
use Rattle.lsys_forest.proofs.TableLemmas.{part_at}

empty : {T : Type 0} (xs : List T) → length xs ≡ 0 → xs ≡ []
empty [] h = refl
empty (x ∷ xs) h = absurd (omega (arith, h))

module _ {A : Type 0} where
  no_entry : (e : Option (NodeEntry A)) → node_in e ≡ None → e ≡ None
  no_entry None h = refl
  no_entry (Some e) h = absurd (none-some e.node (sym h))

  pub none_vacant : (s : Slab (NodeEntry A)) → HasNoVacantRuns (table_of s)
  none_vacant s = record {
    params = λ k h. part_at param_run_in s.slots k None ∙ ap param_run_in (no_entry (get_or s.slots k None) (sym (part_at node_in s.slots k None) ∙ h));
    kids = λ k h. part_at kid_run_in s.slots k None ∙ ap kid_run_in (no_entry (get_or s.slots k None) (sym (part_at node_in s.slots k None) ∙ h));
  }

  no_slot : (params : List ℤ) (kids : List ℕ) (o : Option (Stored A)) → option_map (node_of params kids) o ≡ None → o ≡ None
  no_slot params kids None h = refl
  no_slot params kids (Some s) h = absurd (none-some (node_of params kids s) (sym h))

  no_notes : (notes : List (Note A)) (params : List (List ℤ)) (kids : List (List ℕ)) → changes_told notes params kids ≡ [] → notes ≡ []
  no_notes [] params kids h = refl
  no_notes (n ∷ notes) params kids h = cc

  module _ (t : SlotTable A) (p : Hoard ℤ) (q : Hoard ℕ) (j : Notes A) (parts : AreStockParts t p q j.notes) where
    abbrev stock : Stock A
    stock = stock_of t p q j

    module _ (vacant : HasNoVacantRuns t) where
      pub params_stand : StandIn (nodes_of stock) stock.params stock.past_params p.pool
      params_stand = record {
        runs = t.param_runs;
        past_runs = p.past;
        in_hand = p.hand;
        owned = parts.params;
        lists = refl;
        past_lists = refl;
        vacant = λ k h. vacant.params k (no_slot (row_at stock.params k) (row_at stock.kids k) (slot_at t.slots k) h);
      }

      pub kids_stand : StandIn (nodes_of stock) stock.kids stock.past_kids q.pool
      kids_stand = record {
        runs = t.kid_runs;
        past_runs = q.past;
        in_hand = q.hand;
        owned = parts.kids;
        lists = refl;
        past_lists = refl;
        vacant = λ k h. vacant.kids k (no_slot (row_at stock.params k) (row_at stock.kids k) (slot_at t.slots k) h);
      }

    pub no_past_params : changes_of stock ≡ [] → stock.past_params ≡ []
    no_past_params h = empty stock.past_params (parts.stock.past_params_long ∙ ap param_count (no_notes j.notes stock.past_params stock.past_kids h))

    pub no_past_kids : changes_of stock ≡ [] → stock.past_kids ≡ []
    no_past_kids h = empty stock.past_kids (parts.stock.past_kids_long ∙ ap kid_count (no_notes j.notes stock.past_params stock.past_kids h))

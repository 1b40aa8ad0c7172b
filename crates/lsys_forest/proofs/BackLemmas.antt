-- What undoing the last change does to the nodes and to the other changes.
use Rattle.std.proofs.Common.{◌≡◌, ◌≤◌, ◌+◌, ℕ, ℤ, zero, suc, List, [], ◌∷◌, ◌++◌, length, set, Option, Some, None, refl, sym, ap, ◌∙◌, arith, inl, inr, subst}
use Rattle.std.proofs.lemmas.Bool.{cases_eq}
use Rattle.std.proofs.lemmas.Option.{none-some}
use Rattle.std.specs.Prelude.{IsSome, option_map}
use Rattle.lsys_forest.specs.declared.node.Stored.{Stored}
use Rattle.lsys_forest.specs.declared.node.Footing.{Footing}
use Rattle.lsys_forest.specs.declared.note.Note.{Note}
use Rattle.lsys_forest.specs.declared.note.Was.{Was}
use Rattle.lsys_forest.specs.declared.note.Was.TheVariants as was
use Rattle.lsys_forest.specs.Shelves.{Shelf, past_room}
use Rattle.lsys_forest.specs.Slots.{slot_at, no_footing, footing_at, live_slots, kind_set, key_set, answer_set}
use Rattle.lsys_forest.specs.Nodes.{Node, change, seen_as, with_seen, with_key, with_kids, with_answer}
use Rattle.lsys_forest.specs.Changes.{Missing, OldSeen, OldKey, OldKids, OldAnswer, Change, undo}
use Rattle.lsys_forest.specs.Stocks.{row_at, where_some, node_of, changes_told, param_count, kid_count, IsStock, UndoesParams, UndoesKids, undone_slots, undone_footings, dropped_slot, dropped}
use Rattle.lsys_forest.proofs.SlotLemmas.{live_change, live_gone, slot_some}
use Rattle.lsys_forest.proofs.TableLemmas.{get_set_other, get_cleared}
use Rattle.lsys_forest.proofs.StockLemmas.{change_there, change_other, shown_nodes, lives_stored, AgreeBut, nodes_put, told_plain, told_param, told_kid, param_count_push, kid_count_push}
use Rattle.lsys_forest.proofs.LastLemmas.{last_of, IsStock-pop, answer_same, dropped_same}

option_twice : {X Y Z W : Type 0} (f : X → Y) (g : Y → Z) (f' : X → W) (g' : W → Z) → (o : Option X) → ((x : X) → o ≡ Some x → g (f x) ≡ g' (f' x)) → option_map g (option_map f o) ≡ option_map g' (option_map f' o)
option_twice f g f' g' None same = refl
option_twice f g f' g' (Some x) same = ap Some (same x refl)

module _ {A : Type 0} where
  -- one node changed, in its slot or in its lists
  pub nodes_change : (f : Stored A → Stored A) (g : Node A → Node A) (k : ℕ) (slots slots' : List (Option (Stored A))) (params params' : List (List ℤ)) (kids kids' : List (List ℕ)) → AgreeBut k slots slots' params params' kids kids' → slot_at slots' k ≡ option_map f (slot_at slots k) → ((s : Stored A) → slot_at slots k ≡ Some s → node_of (row_at params' k) (row_at kids' k) (f s) ≡ g (node_of (row_at params k) (row_at kids k) s)) → shown_nodes slots' params' kids' ≡ change g (shown_nodes slots params kids) k
  nodes_change f g k slots slots' params params' kids kids' agree here same =
      nodes_put k slots slots' params params' kids kids' (option_map g (shown_nodes slots params kids k)) agree (
      ap (option_map (node_of (row_at params' k) (row_at kids' k))) here
      ∙ option_twice f (node_of (row_at params' k) (row_at kids' k)) (node_of (row_at params k) (row_at kids k)) g (slot_at slots k) same)

  -- the last change was undone
  pub record Undone (slots slots' : List (Option (Stored A))) (p p' : Shelf ℤ) (q q' : Shelf ℕ) (notes : List (Note A)) (k : ℕ) (w : Was A) : Type 0 where
    pub last : Change A
    pub sound : IsStock notes p'.past q'.past
    pub told_is : changes_told (notes ++ record { node = k; was = w } ∷ []) p.past q.past ≡ changes_told notes p'.past q'.past ++ last ∷ []
    pub nodes : shown_nodes slots' p'.current q'.current ≡ undo last (shown_nodes slots p.current q.current)
    pub live : live_slots slots' ≤ live_slots slots
    pub answer : dropped last (shown_nodes slots p.current q.current) ≡ dropped_slot w (slot_at slots k)
    pub param_room : p.spare ≤ p'.spare
    pub kid_room : q.spare ≤ q'.spare
    pub past_params_room : past_room p ≤ past_room p'
    pub past_kids_room : past_room q ≤ past_room q'

  live_none : (slots : List (Option (Stored A))) (k : ℕ) → live_slots (set slots k None) ≤ live_slots slots
  live_none slots k = go (slot_at slots k) refl
    where
      vacant : (xs : List (Option (Stored A))) (j : ℕ) → slot_at xs j ≡ None → set xs j None ≡ xs
      vacant [] j e = refl
      vacant (x ∷ xs) zero e = ap (λ (y : Option (Stored A)). y ∷ xs) (sym e)
      vacant (x ∷ xs) (suc j) e = ap (λ (ys : List (Option (Stored A))). x ∷ ys) (vacant xs j e)

      go : (o : Option (Stored A)) → slot_at slots k ≡ o → live_slots (set slots k None) ≤ live_slots slots
      go None e = let same = ap live_slots (vacant slots k e) in omega (arith, same)
      go (Some s) e = omega (arith, live_gone slots k s (slot_some slots k s e))

  pub undo_done : (slots slots' : List (Option (Stored A))) (p p' : Shelf ℤ) (q q' : Shelf ℕ) (notes : List (Note A)) (k : ℕ) (w : Was A) → IsStock (notes ++ record { node = k; was = w } ∷ []) p.past q.past → slots' ≡ undone_slots w k slots → UndoesParams w (slot_at slots k) k p p' → UndoesKids w (slot_at slots k) k q q' → Undone slots slots' p p' q q' notes k w
  undo_done slots slots' p p' q q' notes k was.Missing is sl pu qu =
      let n : Note A = record { node = k; was = was.Missing } in
      let pl : length p.past ≡ param_count notes = omega (arith, is.past_params_long, param_count_push notes n) in
      let ql : length q.past ≡ kid_count notes = omega (arith, is.past_kids_long, kid_count_push notes n) in
      let pp = ap (λ (x : Shelf ℤ). x.past) pu.cleared in
      let qp = ap (λ (x : Shelf ℕ). x.past) qu.cleared in
      let cleared : slot_at slots' k ≡ None = ap (λ (x : List (Option (Stored A))). slot_at x k) sl ∙ get_cleared slots k None in
      record {
        last = record { node = k; before = Missing };
        sound = IsStock-pop notes n p.past p'.past q.past q'.past (let e = ap length pp in omega (arith, e)) (let e = ap length qp in omega (arith, e)) is;
        told_is = told_plain notes n p.past q.past pl ql ∙ ap (λ (x : List (List ℤ)). changes_told notes x q.past ++ record { node = k; before = Missing } ∷ []) (sym pp) ∙ ap (λ (x : List (List ℕ)). changes_told notes p'.past x ++ record { node = k; before = Missing } ∷ []) (sym qp);
        nodes = nodes_put k slots slots' p.current p'.current q.current q'.current None (record {
          slots_same = λ j ne. ap (λ (x : List (Option (Stored A))). slot_at x j) sl ∙ get_set_other slots k j None None ne;
          params_same = pu.comes.others;
          kids_same = qu.comes.others;
        }) (ap (option_map (node_of (row_at p'.current k) (row_at q'.current k))) cleared);
        live = let e = ap live_slots sl in omega (arith, e, live_none slots k);
        answer = answer_same (row_at p.current k) (row_at q.current k) (slot_at slots k);
        param_room = let e = ap (λ (x : Shelf ℤ). x.spare) pu.cleared in omega (arith, e);
        kid_room = let e = ap (λ (x : Shelf ℕ). x.spare) qu.cleared in omega (arith, e);
        past_params_room = let e = ap past_room pu.cleared in omega (arith, e);
        past_kids_room = let e = ap past_room qu.cleared in omega (arith, e);
      }
  undo_done slots slots' p p' q q' notes k (was.Kind x) is sl pu qu =
      let n : Note A = record { node = k; was = was.Kind x } in
      let pl : length p.past ≡ param_count notes + 1 = omega (arith, is.past_params_long, param_count_push notes n) in
      let ql : length q.past ≡ kid_count notes = omega (arith, is.past_kids_long, kid_count_push notes n) in
      let end = last_of p.past (param_count notes) pl in
      let restored = pu end.0 end.1 end.2 in
      let pr = restored.1 in
      let pp = ap (λ (x : Shelf ℤ). x.past) pr in
      let row : (s : Stored A) → slot_at slots k ≡ Some s → row_at p'.current k ≡ end.1 = λ s here. restored.0.here ∙ ap (λ (o : Option (Stored A)). where_some o end.1) here in
      subst (λ (r : Shelf ℕ). Undone slots slots' p p' q r notes k (was.Kind x)) (sym qu) (record {
        last = record { node = k; before = OldSeen (seen_as x end.1) };
        sound = IsStock-pop notes n p.past p'.past q.past q.past (let e = ap length pp in omega (arith, e, pl, end.3)) (omega arith) is;
        told_is = ap (λ (y : List (List ℤ)). changes_told (notes ++ n ∷ []) y q.past) end.2 ∙ told_param notes n end.0 end.1 q.past end.3 ql ∙ ap (λ (y : List (List ℤ)). changes_told notes y q.past ++ record { node = k; before = OldSeen (seen_as x end.1) } ∷ []) (sym pp);
        nodes = nodes_change (kind_set x) (with_seen (seen_as x end.1)) k slots slots' p.current p'.current q.current q.current (record {
          slots_same = λ j ne. ap (λ (y : List (Option (Stored A))). slot_at y j) sl ∙ change_other (kind_set x) slots k j ne;
          params_same = restored.0.others;
          kids_same = λ j ne. refl;
        }) (ap (λ (y : List (Option (Stored A))). slot_at y k) sl ∙ change_there (kind_set x) slots k) (λ s here. ap (λ (y : List ℤ). node_of y (row_at q.current k) (kind_set x s)) (row s here));
        live = let e = ap live_slots sl in omega (arith, e, live_change (kind_set x) slots k);
        answer = refl;
        param_room = let e = ap (λ (y : Shelf ℤ). y.spare) pr in omega (arith, e);
        kid_room = omega arith;
        past_params_room = let e = ap (λ (y : Shelf ℤ). y.past_places) pr in let l = ap length pp in omega (arith, e, l, pl, end.3);
        past_kids_room = omega arith;
      })
  undo_done slots slots' p p' q q' notes k (was.Key x) is sl pu qu =
      let n : Note A = record { node = k; was = was.Key x } in
      let pl : length p.past ≡ param_count notes = omega (arith, is.past_params_long, param_count_push notes n) in
      let ql : length q.past ≡ kid_count notes = omega (arith, is.past_kids_long, kid_count_push notes n) in
      subst (λ (r : Shelf ℕ). Undone slots slots' p p' q r notes k (was.Key x)) (sym qu) (subst (λ (r : Shelf ℤ). Undone slots slots' p r q q notes k (was.Key x)) (sym pu) (record {
        last = record { node = k; before = OldKey x };
        sound = IsStock-pop notes n p.past p.past q.past q.past (omega arith) (omega arith) is;
        told_is = told_plain notes n p.past q.past pl ql;
        nodes = nodes_change (key_set x) (with_key x) k slots slots' p.current p.current q.current q.current (record {
          slots_same = λ j ne. ap (λ (y : List (Option (Stored A))). slot_at y j) sl ∙ change_other (key_set x) slots k j ne;
          params_same = λ j ne. refl;
          kids_same = λ j ne. refl;
        }) (ap (λ (y : List (Option (Stored A))). slot_at y k) sl ∙ change_there (key_set x) slots k) (λ s here. refl);
        live = let e = ap live_slots sl in omega (arith, e, live_change (key_set x) slots k);
        answer = refl;
        param_room = omega arith;
        kid_room = omega arith;
        past_params_room = omega arith;
        past_kids_room = omega arith;
      }))
  undo_done slots slots' p p' q q' notes k was.Kids is sl pu qu =
      let n : Note A = record { node = k; was = was.Kids } in
      let pl : length p.past ≡ param_count notes = omega (arith, is.past_params_long, param_count_push notes n) in
      let ql : length q.past ≡ kid_count notes + 1 = omega (arith, is.past_kids_long, kid_count_push notes n) in
      let end = last_of q.past (kid_count notes) ql in
      let restored = qu end.0 end.1 end.2 in
      let qr = restored.1 in
      let qp = ap (λ (x : Shelf ℕ). x.past) qr in
      let row : (s : Stored A) → slot_at slots k ≡ Some s → row_at q'.current k ≡ end.1 = λ s here. restored.0.here ∙ ap (λ (o : Option (Stored A)). where_some o end.1) here in
      subst (λ (r : Shelf ℤ). Undone slots slots' p r q q' notes k was.Kids) (sym pu) (record {
        last = record { node = k; before = OldKids end.1 };
        sound = IsStock-pop notes n p.past p.past q.past q'.past (omega arith) (let e = ap length qp in omega (arith, e, ql, end.3)) is;
        told_is = ap (changes_told (notes ++ n ∷ []) p.past) end.2 ∙ told_kid notes n p.past end.0 end.1 pl end.3 ∙ ap (λ (y : List (List ℕ)). changes_told notes p.past y ++ record { node = k; before = OldKids end.1 } ∷ []) (sym qp);
        nodes = nodes_change (λ s. s) (with_kids end.1) k slots slots' p.current p.current q.current q'.current (record {
          slots_same = λ j ne. ap (λ (y : List (Option (Stored A))). slot_at y j) sl;
          params_same = λ j ne. refl;
          kids_same = restored.0.others;
        }) (ap (λ (y : List (Option (Stored A))). slot_at y k) sl ∙ itself (slot_at slots k)) (λ s here. ap (λ (y : List ℕ). node_of (row_at p.current k) y s) (row s here));
        live = let e = ap live_slots sl in omega (arith, e);
        answer = refl;
        param_room = omega arith;
        kid_room = let e = ap (λ (y : Shelf ℕ). y.spare) qr in omega (arith, e);
        past_params_room = omega arith;
        past_kids_room = let e = ap (λ (y : Shelf ℕ). y.past_places) qr in let l = ap length qp in omega (arith, e, l, ql, end.3);
      })
    where
      itself : (o : Option (Stored A)) → o ≡ option_map (λ (s : Stored A). s) o
      itself None = refl
      itself (Some s) = refl
  undo_done slots slots' p p' q q' notes k (was.Answer x) is sl pu qu =
      let n : Note A = record { node = k; was = was.Answer x } in
      let pl : length p.past ≡ param_count notes = omega (arith, is.past_params_long, param_count_push notes n) in
      let ql : length q.past ≡ kid_count notes = omega (arith, is.past_kids_long, kid_count_push notes n) in
      subst (λ (r : Shelf ℕ). Undone slots slots' p p' q r notes k (was.Answer x)) (sym qu) (subst (λ (r : Shelf ℤ). Undone slots slots' p r q q notes k (was.Answer x)) (sym pu) (record {
        last = record { node = k; before = OldAnswer x };
        sound = IsStock-pop notes n p.past p.past q.past q.past (omega arith) (omega arith) is;
        told_is = told_plain notes n p.past q.past pl ql;
        nodes = nodes_change (answer_set x) (with_answer x) k slots slots' p.current p.current q.current q.current (record {
          slots_same = λ j ne. ap (λ (y : List (Option (Stored A))). slot_at y j) sl ∙ change_other (answer_set x) slots k j ne;
          params_same = λ j ne. refl;
          kids_same = λ j ne. refl;
        }) (ap (λ (y : List (Option (Stored A))). slot_at y k) sl ∙ change_there (answer_set x) slots k) (λ s here. refl);
        live = let e = ap live_slots sl in omega (arith, e, live_change (answer_set x) slots k);
        answer = dropped_same x (row_at p.current k) (row_at q.current k) k (shown_nodes slots p.current q.current) (slot_at slots k) refl;
        param_room = omega arith;
        kid_room = omega arith;
        past_params_room = omega arith;
        past_kids_room = omega arith;
      }))

  -- each node that lives then stands as it stood
  pub undone_kept : (slots slots' : List (Option (Stored A))) (params : List (List ℤ)) (kids : List (List ℕ)) (footings footings' : List Footing) (k : ℕ) (w : Was A) → slots' ≡ undone_slots w k slots → footings' ≡ undone_footings w k footings → (j : ℕ) → IsSome (shown_nodes slots' params kids j) → footing_at footings' j ≡ footing_at footings j
  undone_kept slots slots' params kids footings footings' k was.Missing sl rl j lives = elim (cases_eq j k) [
    | inl e ↦
        let s = lives_stored slots' params kids j lives in
        absurd (none-some s.0 (sym (ap (λ (x : List (Option (Stored A))). slot_at x j) sl ∙ ap (slot_at (set slots k None)) e ∙ get_cleared slots k None) ∙ s.1))
    | inr ne ↦ ap (λ r. footing_at r j) rl ∙ get_set_other footings k j no_footing no_footing ne
  ]
  undone_kept slots slots' params kids footings footings' k (was.Kind x) sl rl j lives = ap (λ r. footing_at r j) rl
  undone_kept slots slots' params kids footings footings' k (was.Key x) sl rl j lives = ap (λ r. footing_at r j) rl
  undone_kept slots slots' params kids footings footings' k was.Kids sl rl j lives = ap (λ r. footing_at r j) rl
  undone_kept slots slots' params kids footings footings' k (was.Answer x) sl rl j lives = ap (λ r. footing_at r j) rl

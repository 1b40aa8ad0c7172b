-- What the calls of the parts do to the nodes and to the changes.
use Rattle.std.proofs.Common.{◌≡◌, ◌≢◌, ◌≤◌, ◌+◌, ℕ, ℤ, zero, suc, List, [], ◌∷◌, ◌++◌, length, Option, Some, None, refl, sym, ap, ◌∙◌, arith, inl, inr, subst}
use Rattle.std.specs.Prelude.{IsSome, option_map}
use Rattle.std.proofs.Math.Path.{fun_ext}
use Rattle.std.proofs.lemmas.Bool.{cases_eq}
use Rattle.std.proofs.lemmas.Grind.{common_steps}
use Rattle.std.proofs.lemmas.List.{append-nil}
use Rattle.std.proofs.lemmas.Option.{none-some, same_Some}
use Rattle.lsys_forest.specs.declared.node.NodeKind.{NodeKind}
use Rattle.lsys_forest.specs.declared.node.Stored.{Stored}
use Rattle.lsys_forest.specs.declared.note.Note.{Note}
use Rattle.lsys_forest.specs.declared.note.Was.{Was}
use Rattle.lsys_forest.specs.declared.note.Was.TheVariants as was
use Rattle.lsys_forest.specs.Slots.{slot_at, change_slot, answer_before, kind_set}
use Rattle.lsys_forest.specs.Nodes.{Node, Nodes, with_node, seen_as, with_kids, with_seen}
use Rattle.lsys_forest.specs.Changes.{Missing, OldSeen, OldKey, OldKids, OldAnswer, Change}
use Rattle.lsys_forest.specs.Stocks.{row_at, first_of, node_of, before_of, params_left, kids_left, changes_told, param_lists, kid_lists, param_count, kid_count, ComesTo, IsStock}
use Rattle.lsys_forest.proofs.TableLemmas.{get_set_other}

module _ {A : Type 0} where
  -- 1. nodes

  -- the nodes, by their parts
  abbrev pub shown_nodes : List (Option (Stored A)) → List (List ℤ) → List (List ℕ) → Nodes A
  shown_nodes slots params kids = λ k. option_map (node_of (row_at params k) (row_at kids k)) (slot_at slots k)

  -- the parts agree but at this number
  pub record AgreeBut (k : ℕ) (slots slots' : List (Option (Stored A))) (params params' : List (List ℤ)) (kids kids' : List (List ℕ)) : Type 0 where
    pub slots_same : (j : ℕ) → j ≢ k → slot_at slots' j ≡ slot_at slots j
    pub params_same : (j : ℕ) → j ≢ k → row_at params' j ≡ row_at params j
    pub kids_same : (j : ℕ) → j ≢ k → row_at kids' j ≡ row_at kids j

  pub put_same : (m : Nodes A) (k j : ℕ) (v : Option (Node A)) → j ≡ k → with_node m k v j ≡ v
  put_same m k j v e = grind (arith, common_steps)

  pub put_other : (m : Nodes A) (k j : ℕ) (v : Option (Node A)) → j ≢ k → with_node m k v j ≡ m j
  put_other m k j v ne = grind (arith, common_steps)

  pub nodes_put : (k : ℕ) (slots slots' : List (Option (Stored A))) (params params' : List (List ℤ)) (kids kids' : List (List ℕ)) (v : Option (Node A)) → AgreeBut k slots slots' params params' kids kids' → shown_nodes slots' params' kids' k ≡ v → shown_nodes slots' params' kids' ≡ with_node (shown_nodes slots params kids) k v
  nodes_put k slots slots' params params' kids kids' v agree here = fun_ext (λ j. elim (cases_eq j k) [
    | inl e ↦ ap (shown_nodes slots' params' kids') e ∙ here ∙ sym (put_same (shown_nodes slots params kids) k j v e)
    | inr ne ↦
        ap (λ (p : List ℤ). option_map (node_of p (row_at kids' j)) (slot_at slots' j)) (agree.params_same j ne)
        ∙ ap (λ (q : List ℕ). option_map (node_of (row_at params j) q) (slot_at slots' j)) (agree.kids_same j ne)
        ∙ ap (option_map (node_of (row_at params j) (row_at kids j))) (agree.slots_same j ne)
        ∙ sym (put_other (shown_nodes slots params kids) k j v ne)
  ])

  -- the node at a number, by its parts
  pub node_there : (slots : List (Option (Stored A))) (params : List (List ℤ)) (kids : List (List ℕ)) (k : ℕ) (s : Stored A) (p : List ℤ) (q : List ℕ) → slot_at slots k ≡ Some s → row_at params k ≡ p → row_at kids k ≡ q → shown_nodes slots params kids k ≡ Some (node_of p q s)
  node_there slots params kids k s p q is ps qs =
      ap (option_map (node_of (row_at params k) (row_at kids k))) is
      ∙ ap (λ (x : List ℤ). Some (node_of x (row_at kids k) s)) ps
      ∙ ap (λ (x : List ℕ). Some (node_of p x s)) qs

  -- what stands after a node that is shown
  pub stored_of : (slots : List (Option (Stored A))) (params : List (List ℤ)) (kids : List (List ℕ)) (k : ℕ) (n : Node A) → shown_nodes slots params kids k ≡ Some n → (s : Stored A) × (slot_at slots k ≡ Some s) × (node_of (row_at params k) (row_at kids k) s ≡ n)
  stored_of slots params kids k n is = go (slot_at slots k) refl is
    where
      go : (o : Option (Stored A)) → slot_at slots k ≡ o → option_map (node_of (row_at params k) (row_at kids k)) o ≡ Some n → (s : Stored A) × (slot_at slots k ≡ Some s) × (node_of (row_at params k) (row_at kids k) s ≡ n)
      go None e f = absurd (none-some n f)
      go (Some s) e f = (s, e, same_Some (node_of (row_at params k) (row_at kids k) s) n f)

  pub lives_stored : (slots : List (Option (Stored A))) (params : List (List ℤ)) (kids : List (List ℕ)) (k : ℕ) → IsSome (shown_nodes slots params kids k) → (s : Stored A) × (slot_at slots k ≡ Some s)
  lives_stored slots params kids k lives = go (slot_at slots k) refl lives
    where
      go : (o : Option (Stored A)) → slot_at slots k ≡ o → IsSome (option_map (node_of (row_at params k) (row_at kids k)) o) → (s : Stored A) × (slot_at slots k ≡ Some s)
      go None e f = absurd (grind (arith, f))
      go (Some s) e f = (s, e)

  -- the slot that was changed, and the others
  pub change_there : (f : Stored A → Stored A) (slots : List (Option (Stored A))) (k : ℕ) → slot_at (change_slot f slots k) k ≡ option_map f (slot_at slots k)
  change_there f [] k = refl
  change_there f (s ∷ slots) zero = refl
  change_there f (s ∷ slots) (suc k) = change_there f slots k

  pub change_here : (f : Stored A → Stored A) (slots : List (Option (Stored A))) (k : ℕ) (s : Stored A) → slot_at slots k ≡ Some s → slot_at (change_slot f slots k) k ≡ Some (f s)
  change_here f slots k s is = change_there f slots k ∙ ap (option_map f) is

  pub change_other : (f : Stored A → Stored A) (slots : List (Option (Stored A))) (k j : ℕ) → j ≢ k → slot_at (change_slot f slots k) j ≡ slot_at slots j
  change_other f slots k j ne = get_set_other slots k j (option_map f (slot_at slots k)) None ne

  -- 2. notes

  pub param_count_push : (notes : List (Note A)) (n : Note A) → param_count (notes ++ n ∷ []) ≡ param_count notes + param_lists n.was
  param_count_push [] n = omega arith
  param_count_push (x ∷ notes) n = omega (arith, param_count_push notes n)

  pub kid_count_push : (notes : List (Note A)) (n : Note A) → kid_count (notes ++ n ∷ []) ≡ kid_count notes + kid_lists n.was
  kid_count_push [] n = omega arith
  kid_count_push (x ∷ notes) n = omega (arith, kid_count_push notes n)

  told_step : (k : ℕ) (n : Note A) (notes : List (Note A)) (w : Was A) (params more : List (List ℤ)) (kids more' : List (List ℕ)) → ((ps : List (List ℤ)) (ks : List (List ℕ)) → length ps ≡ param_count notes → length ks ≡ kid_count notes → changes_told (notes ++ n ∷ []) (ps ++ more) (ks ++ more') ≡ changes_told notes ps ks ++ changes_told (n ∷ []) more more') → length params ≡ param_lists w + param_count notes → length kids ≡ kid_lists w + kid_count notes → ◌≡◌ {A = List (Change A)} (record { node = k; before = before_of w (first_of (params ++ more)) (first_of (kids ++ more')) } ∷ changes_told (notes ++ n ∷ []) (params_left w (params ++ more)) (kids_left w (kids ++ more'))) (record { node = k; before = before_of w (first_of params) (first_of kids) } ∷ changes_told notes (params_left w params) (kids_left w kids) ++ changes_told (n ∷ []) more more')
  told_step k n notes was.Missing params more kids more' rec p q = ap (λ (l : List (Change A)). record { node = k; before = Missing } ∷ l) (rec params kids (omega (arith, p)) (omega (arith, q)))
  told_step k n notes (was.Key x) params more kids more' rec p q = ap (λ (l : List (Change A)). record { node = k; before = OldKey x } ∷ l) (rec params kids (omega (arith, p)) (omega (arith, q)))
  told_step k n notes (was.Answer x) params more kids more' rec p q = ap (λ (l : List (Change A)). record { node = k; before = OldAnswer x } ∷ l) (rec params kids (omega (arith, p)) (omega (arith, q)))
  told_step k n notes (was.Kind x) [] more kids more' rec p q = absurd (omega (arith, p))
  told_step k n notes (was.Kind x) (y ∷ params) more kids more' rec p q = ap (λ (l : List (Change A)). record { node = k; before = OldSeen (seen_as x y) } ∷ l) (rec params kids (omega (arith, p)) (omega (arith, q)))
  told_step k n notes was.Kids params more [] more' rec p q = absurd (omega (arith, q))
  told_step k n notes was.Kids params more (y ∷ kids) more' rec p q = ap (λ (l : List (Change A)). record { node = k; before = OldKids y } ∷ l) (rec params kids (omega (arith, p)) (omega (arith, q)))

  -- the lists of one note more stand after those of the others
  pub told_more : (notes : List (Note A)) (n : Note A) (params more : List (List ℤ)) (kids more' : List (List ℕ)) → length params ≡ param_count notes → length kids ≡ kid_count notes → changes_told (notes ++ n ∷ []) (params ++ more) (kids ++ more') ≡ changes_told notes params kids ++ changes_told (n ∷ []) more more'
  told_more [] n [] more [] more' p q = refl
  told_more [] n (x ∷ params) more kids more' p q = absurd (omega (arith, p))
  told_more [] n [] more (x ∷ kids) more' p q = absurd (omega (arith, q))
  told_more (m ∷ notes) n params more kids more' p q = told_step m.node n notes m.was params more kids more' (λ ps ks. told_more notes n ps more ks more') p q

  -- a note that takes no list
  pub told_plain : (notes : List (Note A)) (n : Note A) (params : List (List ℤ)) (kids : List (List ℕ)) → length params ≡ param_count notes → length kids ≡ kid_count notes → changes_told (notes ++ n ∷ []) params kids ≡ changes_told notes params kids ++ record { node = n.node; before = before_of n.was [] [] } ∷ []
  told_plain notes n params kids p q =
      ap (λ (ps : List (List ℤ)). changes_told (notes ++ n ∷ []) ps kids) (sym (append-nil params))
      ∙ ap (changes_told (notes ++ n ∷ []) (params ++ [])) (sym (append-nil kids))
      ∙ told_more notes n params [] kids [] p q

  pub told_param : (notes : List (Note A)) (n : Note A) (params : List (List ℤ)) (x : List ℤ) (kids : List (List ℕ)) → length params ≡ param_count notes → length kids ≡ kid_count notes → changes_told (notes ++ n ∷ []) (params ++ x ∷ []) kids ≡ changes_told notes params kids ++ record { node = n.node; before = before_of n.was x [] } ∷ []
  told_param notes n params x kids p q =
      ap (changes_told (notes ++ n ∷ []) (params ++ x ∷ [])) (sym (append-nil kids))
      ∙ told_more notes n params (x ∷ []) kids [] p q

  pub told_kid : (notes : List (Note A)) (n : Note A) (params : List (List ℤ)) (kids : List (List ℕ)) (x : List ℕ) → length params ≡ param_count notes → length kids ≡ kid_count notes → changes_told (notes ++ n ∷ []) params (kids ++ x ∷ []) ≡ changes_told notes params kids ++ record { node = n.node; before = before_of n.was [] x } ∷ []
  told_kid notes n params kids x p q =
      ap (λ (ps : List (List ℤ)). changes_told (notes ++ n ∷ []) ps (kids ++ x ∷ [])) (sym (append-nil params))
      ∙ told_more notes n params [] kids (x ∷ []) p q

  -- a note more
  pub IsStock-note : (notes notes' : List (Note A)) (n : Note A) (past_params past_params' : List (List ℤ)) (past_kids past_kids' : List (List ℕ)) → notes' ≡ notes ++ n ∷ [] → length past_params' ≡ length past_params + param_lists n.was → length past_kids' ≡ length past_kids + kid_lists n.was → IsStock notes past_params past_kids → IsStock notes' past_params' past_kids'
  IsStock-note notes notes' n pp pp' pk pk' pushed ppl pkl is =
      subst (λ (ns : List (Note A)). IsStock ns pp' pk') (sym pushed) (record {
        past_params_long = omega (arith, ppl, is.past_params_long, param_count_push notes n);
        past_kids_long = omega (arith, pkl, is.past_kids_long, kid_count_push notes n);
      })

  -- one node changed in its slot
  pub nodes_changed : (f : Stored A → Stored A) (g : Node A → Node A) → ((p : List ℤ) (q : List ℕ) (s : Stored A) → node_of p q (f s) ≡ g (node_of p q s)) → (slots slots' : List (Option (Stored A))) (params : List (List ℤ)) (kids : List (List ℕ)) (k : ℕ) (n : Node A) → shown_nodes slots params kids k ≡ Some n → slots' ≡ change_slot f slots k → shown_nodes slots' params kids ≡ with_node (shown_nodes slots params kids) k (Some (g n))
  nodes_changed f g fits slots slots' params kids k n is changed =
      let s = stored_of slots params kids k n is in
      nodes_put k slots slots' params params kids kids (Some (g n)) (record {
        slots_same = λ j ne. ap (λ (x : List (Option (Stored A))). slot_at x j) changed ∙ change_other f slots k j ne;
        params_same = λ j ne. refl;
        kids_same = λ j ne. refl;
      }) (
      node_there slots' params kids k (f s.0) (row_at params k) (row_at kids k) (ap (λ (x : List (Option (Stored A))). slot_at x k) changed ∙ change_here f slots k s.0 s.1) refl refl
      ∙ ap Some (fits (row_at params k) (row_at kids k) s.0) ∙ ap (λ (m : Node A). Some (g m)) s.2)

  -- what a part of the slot was is a part of the node
  pub part_was : {X : Type 0} (f : Stored A → X) (g : Node A → X) → ((p : List ℤ) (q : List ℕ) (s : Stored A) → f s ≡ g (node_of p q s)) → (slots : List (Option (Stored A))) (params : List (List ℤ)) (kids : List (List ℕ)) (k : ℕ) (n : Node A) (x : X) → shown_nodes slots params kids k ≡ Some n → Some x ≡ option_map f (slot_at slots k) → x ≡ g n
  part_was f g fits slots params kids k n x is was =
      let s = stored_of slots params kids k n is in
      same_Some x (f s.0) (was ∙ ap (option_map f) s.1) ∙ fits (row_at params k) (row_at kids k) s.0 ∙ ap g s.2

  pub answer_was : (slots : List (Option (Stored A))) (params : List (List ℤ)) (kids : List (List ℕ)) (k : ℕ) (n : Node A) (given x : Option A) → shown_nodes slots params kids k ≡ Some n → x ≡ answer_before (slot_at slots k) given → x ≡ n.answer
  answer_was slots params kids k n given x is was =
      let s = stored_of slots params kids k n is in
      was ∙ ap (λ (o : Option (Stored A)). answer_before o given) s.1 ∙ ap (λ (m : Node A). m.answer) s.2

  kid_lists_le : (w : Was A) → kid_lists w ≤ 1
  kid_lists_le was.Missing = omega arith
  kid_lists_le (was.Kind x) = omega arith
  kid_lists_le (was.Key x) = omega arith
  kid_lists_le was.Kids = omega arith
  kid_lists_le (was.Answer x) = omega arith

  param_lists_le : (w : Was A) → param_lists w ≤ 1
  param_lists_le was.Missing = omega arith
  param_lists_le (was.Kind x) = omega arith
  param_lists_le (was.Key x) = omega arith
  param_lists_le was.Kids = omega arith
  param_lists_le (was.Answer x) = omega arith

  pub kid_count_le : (notes : List (Note A)) → kid_count notes ≤ length notes
  kid_count_le [] = omega arith
  kid_count_le (n ∷ notes) = omega (arith, kid_lists_le n.was, kid_count_le notes)

  pub param_count_le : (notes : List (Note A)) → param_count notes ≤ length notes
  param_count_le [] = omega arith
  param_count_le (n ∷ notes) = omega (arith, param_lists_le n.was, param_count_le notes)

  -- the children of one node changed
  pub kids_changed : (slots : List (Option (Stored A))) (params : List (List ℤ)) (kids kids' : List (List ℕ)) (k : ℕ) (l : List ℕ) (n : Node A) → shown_nodes slots params kids k ≡ Some n → ComesTo k l kids kids' → shown_nodes slots params kids' ≡ with_node (shown_nodes slots params kids) k (Some (with_kids l n))
  kids_changed slots params kids kids' k l n is comes =
      let s = stored_of slots params kids k n is in
      nodes_put k slots slots params params kids kids' (Some (with_kids l n)) (record {
        slots_same = λ j ne. refl;
        params_same = λ j ne. refl;
        kids_same = comes.others;
      }) (
      node_there slots params kids' k s.0 (row_at params k) l s.1 refl comes.here
      ∙ ap (λ (m : Node A). Some (with_kids l m)) s.2)

  pub kids_were : (slots : List (Option (Stored A))) (params : List (List ℤ)) (kids : List (List ℕ)) (k : ℕ) (n : Node A) → shown_nodes slots params kids k ≡ Some n → row_at kids k ≡ n.kids
  kids_were slots params kids k n is = let s = stored_of slots params kids k n is in ap (λ (m : Node A). m.kids) s.2

  pub seen_was : (slots : List (Option (Stored A))) (params : List (List ℤ)) (kids : List (List ℕ)) (k : ℕ) (n : Node A) (x : NodeKind) → shown_nodes slots params kids k ≡ Some n → Some x ≡ option_map (λ (s : Stored A). s.kind) (slot_at slots k) → seen_as x (row_at params k) ≡ n.seen
  seen_was slots params kids k n x is was =
      let s = stored_of slots params kids k n is in
      ap (λ y. seen_as y (row_at params k)) (same_Some x s.0.kind (was ∙ ap (option_map (λ (t : Stored A). t.kind)) s.1)) ∙ ap (λ (m : Node A). m.seen) s.2

  -- the symbol of one node changed
  pub seen_changed : (slots slots' : List (Option (Stored A))) (params params' : List (List ℤ)) (kids : List (List ℕ)) (k : ℕ) (x : NodeKind) (l : List ℤ) (n : Node A) → shown_nodes slots params kids k ≡ Some n → slots' ≡ change_slot (kind_set x) slots k → ComesTo k l params params' → shown_nodes slots' params' kids ≡ with_node (shown_nodes slots params kids) k (Some (with_seen (seen_as x l) n))
  seen_changed slots slots' params params' kids k x l n is changed comes =
      let s = stored_of slots params kids k n is in
      nodes_put k slots slots' params params' kids kids (Some (with_seen (seen_as x l) n)) (record {
        slots_same = λ j ne. ap (λ (y : List (Option (Stored A))). slot_at y j) changed ∙ change_other (kind_set x) slots k j ne;
        params_same = comes.others;
        kids_same = λ j ne. refl;
      }) (
      node_there slots' params' kids k (kind_set x s.0) l (row_at kids k) (ap (λ (y : List (Option (Stored A))). slot_at y k) changed ∙ change_here (kind_set x) slots k s.0 s.1) comes.here refl
      ∙ ap (λ (m : Node A). Some (with_seen (seen_as x l) m)) s.2)

  -- a node was put where none was
  pub node_put : (slots slots' : List (Option (Stored A))) (params params' : List (List ℤ)) (kids kids' : List (List ℕ)) (k : ℕ) (s : Stored A) (l : List ℤ) (q : List ℕ) → slot_at slots' k ≡ Some s → ((j : ℕ) → j ≢ k → slot_at slots' j ≡ slot_at slots j) → ComesTo k l params params' → ComesTo k q kids kids' → shown_nodes slots' params' kids' ≡ with_node (shown_nodes slots params kids) k (Some (node_of l q s))
  node_put slots slots' params params' kids kids' k s l q is others ps qs =
      nodes_put k slots slots' params params' kids kids' (Some (node_of l q s)) (record { slots_same = others; params_same = ps.others; kids_same = qs.others })
      (node_there slots' params' kids' k s l q is ps.here qs.here)

  -- where no change is told there is no note
  pub told_none : (notes : List (Note A)) (params : List (List ℤ)) (kids : List (List ℕ)) → changes_told notes params kids ≡ [] → length notes ≡ 0
  told_none [] params kids e = refl
  told_none (n ∷ notes) params kids e = let l = ap length e in absurd (omega (arith, l))

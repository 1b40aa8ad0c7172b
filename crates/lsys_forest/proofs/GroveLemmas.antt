-- The calls keep the invariant of a forest.
use Rattle.std.proofs.Common.{◌≡◌, ◌+◌, ◌<◌, ◌≤◌, ◌^◌, ℕ, List, [], Some, None, refl, sym, ap, ◌∙◌, arith, inl, inr, subst}
use Rattle.std.proofs.lemmas.Bool.{cases_eq}
use Rattle.lsys_forest.proofs.StockLemmas.{put_same, put_other}
use Rattle.std.proofs.lemmas.Option.{none-some, same_Some}
use Rattle.lsys_forest.specs.Nodes.{Node, Nodes, with_node, root_node}
use Rattle.lsys_forest.specs.Changes.{Previous, Missing, Change, undo, undone}
use Rattle.lsys_forest.specs.Stocks.{Stock, nodes_of, changes_of, Journals, KeepsRoom}
use Rattle.lsys_forest.specs.Slots.{live_slots}
use Rattle.lsys_forest.specs.Groves.{HasFew, AreKids, IsRooted, AreSound, IsGrove}
use Rattle.lsys_forest.proofs.SoundLemmas.{IsSet, set_sound, set_rest, set_back, IsSound-add, put_back, rest_kept, AreSound-push, AreSound-rest, AreSound-now, AreSound-then}

module _ {A : Type 0} where
  pub sound_now : {stock : Stock A} {root nodes notes : ℕ} → IsGrove stock root nodes notes → IsRooted root (changes_of stock) (nodes_of stock)
  sound_now {stock = stock} {root = root} grove = AreSound-now root (changes_of stock) (nodes_of stock) grove.sound

  pub sound_rest : {stock : Stock A} {root nodes notes : ℕ} → IsGrove stock root nodes notes → IsRooted root [] (undone (changes_of stock) (nodes_of stock))
  sound_rest {stock = stock} {root = root} grove = AreSound-then root (changes_of stock) (nodes_of stock) grove.sound

  pub IsGrove-set : (old new : Stock A) (root nodes notes left k : ℕ) (was n : Node A) (before : Previous A) (params kids : ℕ) → IsSet root (changes_of old) (record { node = k; before = before }) (nodes_of old) k was n → Journals old new k (Some n) before 0 params kids → left + 1 ≡ notes → IsGrove old root nodes notes → IsGrove new root nodes left
  IsGrove-set old new root nodes notes left k was n before params kids set j fewer grove =
      let c : Change A = record { node = k; before = before } in
      record {
        sound =
            AreSound-push root (changes_of old) (changes_of new) c (nodes_of old) (nodes_of new) j.noted (ap (undo c) j.nodes ∙ set_back root (changes_of old) c (nodes_of old) k was n set)
            (subst (λ (m : Nodes A). IsRooted root (changes_of new) m) (sym j.nodes) (subst (λ (cs : List (Change A)). IsRooted root cs (with_node (nodes_of old) k (Some n))) (sym j.noted) (set_sound root (changes_of old) c (nodes_of old) k was n set (sound_now grove)))) grove.sound;
        nodes_left = omega (arith, j.live, j.capacity, grove.nodes_left);
        numbers = omega (arith, j.live, grove.numbers);
        fit = λ some. (let f = grove.fit some in omega (arith, f, j.capacity));
        notes_left = omega (arith, j.live, j.note_room, fewer, grove.notes_left);
      }

  pub set_rested : (old new : Stock A) (root k : ℕ) (was n : Node A) (before : Previous A) (params kids : ℕ) → IsSet root (changes_of old) (record { node = k; before = before }) (nodes_of old) k was n → Journals old new k (Some n) before 0 params kids → undone (changes_of new) (nodes_of new) ≡ undone (changes_of old) (nodes_of old)
  set_rested old new root k was n before params kids set j =
      ap (undone (changes_of new)) j.nodes ∙ set_rest root (changes_of old) (changes_of new) (record { node = k; before = before }) (nodes_of old) k was n set j.noted

  pub add_rested : (old new : Stock A) (k : ℕ) (n : Node A) (params kids : ℕ) → nodes_of old k ≡ None → Journals old new k (Some n) Missing 1 params kids → undone (changes_of new) (nodes_of new) ≡ undone (changes_of old) (nodes_of old)
  add_rested old new k n params kids vacant j =
      rest_kept (changes_of old) (changes_of new) (record { node = k; before = Missing }) (nodes_of old) (nodes_of new) j.noted (ap (λ (m : Nodes A). with_node m k None) j.nodes ∙ put_back (nodes_of old) k None (Some n) vacant)

  pub IsGrove-add : (old new : Stock A) (root nodes less notes left k : ℕ) (n parent : Node A) (params kids : ℕ) → nodes_of old k ≡ None → nodes_of old n.parent ≡ Some parent → n.depth ≡ parent.depth + 1 → n.kids ≡ [] → HasFew n.seen → Journals old new k (Some n) Missing 1 params kids → less + 1 ≡ nodes → left + 1 ≡ notes → IsGrove old root nodes notes → IsGrove new root less left
  IsGrove-add old new root nodes less notes left k n parent params kids vacant is depth none few j fewer lower grove =
      let c : Change A = record { node = k; before = Missing } in
      record {
        sound =
            AreSound-push root (changes_of old) (changes_of new) c (nodes_of old) (nodes_of new) j.noted (ap (λ (m : Nodes A). with_node m k None) j.nodes ∙ put_back (nodes_of old) k None (Some n) vacant)
            (subst (λ (m : Nodes A). IsRooted root (changes_of new) m) (sym j.nodes) (subst (λ (cs : List (Change A)). IsRooted root cs (with_node (nodes_of old) k (Some n))) (sym j.noted) (IsSound-add root (changes_of old) c (nodes_of old) k n parent vacant is depth none few (inl refl) (sound_now grove)))) grove.sound;
        nodes_left = omega (arith, j.live, j.capacity, fewer, grove.nodes_left);
        numbers = omega (arith, j.live, fewer, grove.numbers);
        fit = λ some. (let f = grove.fit (omega (arith, some, fewer)) in omega (arith, f, j.capacity));
        notes_left = omega (arith, j.live, j.note_room, fewer, lower, grove.notes_left);
      }

  pub IsGrove-room : (old new : Stock A) (root nodes notes more more' : ℕ) → nodes_of new ≡ nodes_of old → changes_of new ≡ changes_of old → live_slots new.slots + more ≤ new.capacity → live_slots new.slots + more < 2 ^ 32 → (0 < more → new.capacity ≤ 2 ^ 32) → live_slots new.slots + more + more' ≤ new.note_room → IsGrove old root nodes notes → IsGrove new root more more'
  IsGrove-room old new root nodes notes more more' same kept cap numbers fit left grove = record {
    sound = subst (λ (m : Nodes A). AreSound root (changes_of new) m) (sym same) (subst (λ (cs : List (Change A)). AreSound root cs (nodes_of old)) (sym kept) grove.sound);
    nodes_left = cap;
    numbers = numbers;
    fit = fit;
    notes_left = left;
  }

  -- after all changes were undone, or taken up
  pub IsGrove-rest : (old new : Stock A) (root nodes notes : ℕ) → IsRooted root [] (nodes_of new) → changes_of new ≡ [] → live_slots new.slots ≤ live_slots old.slots → KeepsRoom old new → IsGrove old root nodes notes → IsGrove new root nodes notes
  IsGrove-rest old new root nodes notes sound none live room grove = record {
    sound = subst (λ (cs : List (Change A)). AreSound root cs (nodes_of new)) (sym none) (AreSound-rest root (nodes_of new) sound);
    nodes_left = omega (arith, live, room.capacity, grove.nodes_left);
    numbers = omega (arith, live, grove.numbers);
    fit = λ some. (let f = grove.fit some in omega (arith, f, room.capacity));
    notes_left = omega (arith, room.note_room, grove.notes_left);
  }

  -- the root alone
  pub IsSound-root : (m : Nodes A) → m ≡ with_node (λ k. None) 0 (Some (root_node 0)) → IsRooted 0 [] m
  IsSound-root m is =
      let there : m 0 ≡ Some (root_node 0) = ap (λ (f : Nodes A). f 0) is ∙ put_same (λ k. None) 0 0 (Some (root_node 0)) refl in
      record {
        root_lives = (root_node 0, there, refl);
        few = λ k n found. elim (cases_eq k 0) [
          | inl e ↦ subst (λ (o : Node A). HasFew o.seen) (same_Some (root_node 0) n (sym there ∙ sym (ap m e) ∙ found)) tt
          | inr ne ↦ absurd (none-some n (sym (ap (λ (f : Nodes A). f k) is ∙ put_other (λ i. None) 0 k (Some (root_node 0)) ne) ∙ found))
        ];
        held = λ x n found other. absurd (none-some n (sym (ap (λ (f : Nodes A). f x) is ∙ put_other (λ k. None) 0 x (Some (root_node 0)) other) ∙ found));
        own = λ p n found. elim (cases_eq p 0) [
          | inl e ↦ subst (λ (l : List ℕ). AreKids m 0 p l) (ap (λ (o : Node A). o.kids) (same_Some (root_node 0) n (sym there ∙ sym (ap m e) ∙ found))) (record { under = λ x h. absurd h; apart = tt })
          | inr ne ↦ absurd (none-some n (sym (ap (λ (f : Nodes A). f p) is ∙ put_other (λ k. None) 0 p (Some (root_node 0)) ne) ∙ found))
        ];
      }

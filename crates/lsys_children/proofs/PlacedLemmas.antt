-- What stands of the children that were placed, when one more is.
use Rattle.std.proofs.Common.{◌≡◌, ◌≢◌, ◌⊎◌, ◌↔◌, IsTrue, ◌+◌, ◌≤◌, ◌&&◌, ℕ, Bool, true, false, List, [], ◌∷◌, ◌++◌, Option, Some, None, refl, sym, ap, ◌∙◌, arith, inl, inr, subst}
use Rattle.std.specs.Prelude.{IsSome, option_map}
use Rattle.std.proofs.Math.Path.{fun_ext}
use Rattle.std.proofs.lemmas.Bool.{cases_eq}
use Rattle.std.proofs.lemmas.List.{length_push}
use Rattle.std.proofs.lemmas.Option.{none-some, same_Some}
use Rattle.lsys_spec.specs.Rows.{In}
use Rattle.lsys_level.specs.Spots.{Seen}
use Rattle.lsys_level.specs.Places.{seen_in, params_in}
use Rattle.lsys_region.specs.Rooms.{list_room}
use Rattle.lsys_forest.proofs.StockLemmas.{put_same, put_other}
use Rattle.lsys_forest.specs.Nodes.{Node, Nodes, with_node, with_seen, with_key}
use Rattle.lsys_forest.specs.Groves.{Grove, now_of, IsLive, Sets, Spends}
use Rattle.lsys_forest.proofs.SoundLemmas.{some_of}
use Rattle.lsys_children.specs.declared.child.Child.{Child}
use Rattle.lsys_children.specs.Children.{AreFoundOrBorn, IsFoundOrBorn, born, ToldNodes, IsNewNode, HasTurned, KeepsSymbol, KeepsKind, seen_if_any, kind_at, bracket_kind, births, notes_for, params_for}
use Rattle.lsys_children.specs.Steps.{KindsTell, ChangesAt, ChangesAmong, TellsNodes, IsPlaced, WasFound}
use Rattle.lsys_children.proofs.Placing.{ArePlaced}
use Rattle.lsys_children.proofs.StepLemmas.{in_push, in_old, in_new, apart_push, births_push, notes_push, params_push, tells_all_keep, tells_push, tells_one, tells_alone}

module _ {A : Type 0} where
  -- 1. one node

  pub put_here : (m : Nodes A) (k : ℕ) (v : Option (Node A)) → m k ≡ v → with_node m k v ≡ m
  put_here m k v is = fun_ext (λ j. elim (cases_eq j k) [
    | inl e ↦ put_same m k j v e ∙ sym is ∙ ap m (sym e)
    | inr ne ↦ put_other m k j v ne
  ])

  -- a node is what it was
  pub sets_same : (f : Grove A) (k : ℕ) (n n' : Node A) → now_of f k ≡ Some n → n' ≡ n → Sets f f k n'
  sets_same f k n n' is same = record { now = sym (put_here (now_of f) k (Some n') (is ∙ ap Some (sym same))); rest = refl; root = refl }

  pub set_is : (f g : Grove A) (k : ℕ) (n : Node A) → Sets f g k n → now_of g k ≡ Some n
  set_is f g k n s = ap (λ (m : Nodes A). m k) s.now ∙ put_same (now_of f) k k (Some n) refl

  pub set_other : (f g : Grove A) (k j : ℕ) (n : Node A) → Sets f g k n → j ≢ k → now_of g j ≡ now_of f j
  set_other f g k j n s ne = ap (λ (m : Nodes A). m j) s.now ∙ put_other (now_of f) k j (Some n) ne

  pub set_changes : (f g : Grove A) (k : ℕ) (n : Node A) → Sets f g k n → ChangesAt f g k
  set_changes f g k n s = record { others = λ j ne. set_other f g k j n s ne; rest = s.rest; root = s.root }

  pub changes_then : (f g h : Grove A) (k : ℕ) → ChangesAt f g k → ChangesAt g h k → ChangesAt f h k
  changes_then f g h k a b = record {
    others = λ j ne. b.others j ne ∙ a.others j ne;
    rest = b.rest ∙ a.rest;
    root = b.root ∙ a.root;
  }

  pub spends_none : (f : Grove A) → Spends f f 0 0 0 0
  spends_none f = record { live = omega arith; numbers = omega arith; nodes_left = omega arith; params_left = omega arith; kids_left = omega arith; notes_left = omega arith }

  pub spends_then : (f g h : Grove A) (a b c d a' b' c' d' x y z t : ℕ) → Spends f g a b c d → Spends g h a' b' c' d' → a + a' ≤ x → b + b' ≤ y → c + c' ≤ z → d + d' ≤ t → Spends f h x y z t
  spends_then f g h a b c d a' b' c' d' x y z t s r p q u v = record {
    live = omega (arith, s.live, r.live, p);
    numbers = omega (arith, s.numbers, r.numbers, p);
    nodes_left = omega (arith, s.nodes_left, r.nodes_left, p);
    params_left = omega (arith, s.params_left, r.params_left, q);
    kids_left = omega (arith, s.kids_left, r.kids_left, u);
    notes_left = omega (arith, s.notes_left, r.notes_left, v);
  }

  -- an old child gets its symbol, and then its key
  pub renewed_placed : (f g h : Grove A) (parent k : ℕ) (w : Child) (n : Node A) → now_of f k ≡ Some n → Sets f g k (with_seen (seen_in w.symbol) n) → Sets g h k (with_key w.key (with_seen (seen_in w.symbol) n))
      → Spends f g 0 (list_room (params_in w.symbol)) 0 1 → Spends g h 0 0 0 1 → IsPlaced f h parent w (Some k) k
  renewed_placed f g h parent k w n was symbol key s r = record {
    made = λ p is. (record { same = refl; node = n; was = was; is = set_is g h k (with_key w.key (with_seen (seen_in w.symbol) n)) key }, tt);
    changes = changes_then f g h k (set_changes f g k (with_seen (seen_in w.symbol) n) symbol) (set_changes g h k (with_key w.key (with_seen (seen_in w.symbol) n)) key);
    spends = spends_then f g h 0 (list_room (params_in w.symbol)) 0 1 0 0 0 1 0 (list_room (params_in w.symbol)) 0 2 s r (omega arith) (omega arith) (omega arith) (omega arith);
  }

  -- a new node for a child
  pub born_placed : (f g : Grove A) (parent k : ℕ) (w : Child) → now_of f k ≡ None → IsLive f parent → ((p : Node A) → now_of f parent ≡ Some p → Sets f g k (born parent (p.depth + 1) w))
      → Spends f g 1 (list_room (params_in w.symbol)) 0 1 → IsPlaced f g parent w None k
  born_placed f g parent k w vacant lives sets spends =
      let p = some_of (now_of f parent) lives in
      record {
        made = λ p is. (record { vacant = vacant; is = set_is f g k (born parent (p.depth + 1) w) (sets p is) }, tt);
        changes = set_changes f g k (born parent (p.0.depth + 1) w) (sets p.0 p.1);
        spends = spends;
      }

  -- another symbol is told
  pub turned_told : (f g : Grove A) (k : ℕ) (s : Seen) (before after : ToldNodes) → IsLive f k → ((n : Node A) → now_of f k ≡ Some n → Sets f g k (with_seen s n)) → ((n : Node A) → now_of f k ≡ Some n → n.seen ≢ s)
      → after ≡ record before { changed = before.changed ++ k ∷ []; room = after.room } → before.room ≤ after.room + 1 → TellsNodes (now_of f) (now_of g) (k ∷ []) before after
  turned_told f g k s before after lives sets other told room =
      let n = some_of (now_of f k) lives in
      let is : seen_if_any (now_of g) k ≡ Some s = ap (option_map (λ (x : Node A). x.seen)) (set_is f g k (with_seen s n.0) (sets n.0 n.1)) in
      record {
        touched = ap (λ (t : ToldNodes). t.touched) told;
        changed = tells_alone (HasTurned (now_of f) (now_of g)) (KeepsSymbol (now_of f) (now_of g)) k before.changed after.changed
            (inl (record { node = n.0; was = n.1; other = λ e. other n.0 n.1 (same_Some n.0.seen s (sym e ∙ is)) }, ap (λ (t : ToldNodes). t.changed) told));
        added = tells_alone (IsNewNode (now_of f)) (λ j. IsSome (now_of f j)) k before.added after.added (inr (lives, ap (λ (t : ToldNodes). t.added) told));
        gone = ap (λ (t : ToldNodes). t.gone) told;
        room = room;
      }

  -- the key does not matter
  pub key_told : (m n n' : Nodes A) (k : ℕ) (before after : ToldNodes) → seen_if_any n' k ≡ seen_if_any n k → TellsNodes m n (k ∷ []) before after → TellsNodes m n' (k ∷ []) before after
  key_told m n n' k before after same told = record {
    touched = told.touched;
    changed = tells_all_keep (HasTurned m n) (KeepsSymbol m n) (HasTurned m n') (KeepsSymbol m n') (k ∷ []) before.changed after.changed
        (λ j h t. record { node = t.node; was = t.was; other = λ e. t.other (sym (at j h) ∙ e) })
        (λ j h t x is. at j h ∙ t x is) told.changed;
    added = told.added;
    gone = told.gone;
    room = told.room;
  }
    where
      at : (j : ℕ) → In j (k ∷ []) → seen_if_any n' j ≡ seen_if_any n j
      at j (inl e) = ap (seen_if_any n') e ∙ same ∙ ap (seen_if_any n) (sym e)
      at j (inr h) = absurd h

  pub kind_tells : (m n : Nodes A) (k : ℕ) (x : Node A) (s : Seen) (flag : Bool) → m k ≡ Some x → seen_if_any n k ≡ Some s → (IsTrue flag ↔ (bracket_kind s ≡ bracket_kind x.seen)) → KindsTell m n (k ∷ []) flag
  kind_tells m n k x s flag was is tells = record {
    keep = λ t j h y there.
        let same = ap m (sym (alone j h)) ∙ there in
        let node = same_Some x y (sym was ∙ same) in
        ap (kind_at n) (alone j h) ∙ kind (n k) is ∙ ap Some (tells.0 t ∙ ap (λ (z : Node A). bracket_kind z.seen) node);
    turn = λ f. (k, inl refl, λ keep. absurd (grind (arith, f, tells.1 (same_Some (bracket_kind s) (bracket_kind x.seen) (sym (kind (n k) is) ∙ keep x was)))));
  }
    where
      alone : (j : ℕ) → In j (k ∷ []) → j ≡ k
      alone j (inl e) = e
      alone j (inr h) = absurd h

      kind : (o : Option (Node A)) → option_map (λ (z : Node A). z.seen) o ≡ Some s → option_map (λ (z : Node A). bracket_kind z.seen) o ≡ Some (bracket_kind s)
      kind None e = absurd (none-some s e)
      kind (Some z) e = ap (λ (t : Seen). Some (bracket_kind t)) (same_Some z.seen s e)

  -- 2. nodes that were made live

  pub made_live : (m n : Nodes A) (parent depth : ℕ) (ws : List Child) (os : List (Option ℕ)) (ks : List ℕ) → AreFoundOrBorn m n parent depth ws os ks → (k : ℕ) → In k ks → IsSome (n k)
  made_live m n parent depth [] [] [] made k h = absurd h
  made_live m n parent depth (w ∷ ws) (None ∷ os) (j ∷ ks) made k (inl e) = subst (λ i. IsSome (n i)) (sym e) (subst IsSome (sym made.0.is) refl)
  made_live m n parent depth (w ∷ ws) (Some i ∷ os) (j ∷ ks) made k (inl e) = subst (λ i. IsSome (n i)) (sym e) (subst IsSome (sym made.0.is) refl)
  made_live m n parent depth (w ∷ ws) (o ∷ os) (j ∷ ks) made k (inr h) = made_live m n parent depth ws os ks made.1 k h
  made_live m n parent depth [] [] (j ∷ ks) made k h = absurd made
  made_live m n parent depth [] (o ∷ os) ks made k h = absurd made
  made_live m n parent depth (w ∷ ws) [] ks made k h = absurd made
  made_live m n parent depth (w ∷ ws) (o ∷ os) [] made k h = absurd made

  -- each was found, or is new
  pub made_from : (m n : Nodes A) (parent depth : ℕ) (ws : List Child) (os : List (Option ℕ)) (ks : List ℕ) → AreFoundOrBorn m n parent depth ws os ks → (k : ℕ) → In k ks → WasFound k os ⊎ (m k ≡ None)
  made_from m n parent depth [] [] [] made k h = absurd h
  made_from m n parent depth (w ∷ ws) (None ∷ os) (j ∷ ks) made k (inl e) = inr (ap m e ∙ made.0.vacant)
  made_from m n parent depth (w ∷ ws) (Some i ∷ os) (j ∷ ks) made k (inl e) = inl (inl (ap Some (sym (e ∙ made.0.same))))
  made_from m n parent depth (w ∷ ws) (o ∷ os) (j ∷ ks) made k (inr h) = elim (made_from m n parent depth ws os ks made.1 k h) [
    | inl f ↦ inl (inr f)
    | inr e ↦ inr e
  ]
  made_from m n parent depth [] [] (j ∷ ks) made k h = absurd made
  made_from m n parent depth [] (o ∷ os) ks made k h = absurd made
  made_from m n parent depth (w ∷ ws) [] ks made k h = absurd made
  made_from m n parent depth (w ∷ ws) (o ∷ os) [] made k h = absurd made

  made_one : (m n m' n' : Nodes A) (parent depth : ℕ) (w : Child) (o : Option ℕ) (k : ℕ) → m' k ≡ m k → n' k ≡ n k → IsFoundOrBorn m n parent depth w o k → IsFoundOrBorn m' n' parent depth w o k
  made_one m n m' n' parent depth w None k a b made = record { vacant = a ∙ made.vacant; is = b ∙ made.is }
  made_one m n m' n' parent depth w (Some i) k a b made = record { same = made.same; node = made.node; was = a ∙ made.was; is = b ∙ made.is }

  -- they stay made while they stay what they are
  pub made_keep : (m n n' : Nodes A) (parent depth : ℕ) (ws : List Child) (os : List (Option ℕ)) (ks : List ℕ) → ((k : ℕ) → In k ks → n' k ≡ n k) → AreFoundOrBorn m n parent depth ws os ks → AreFoundOrBorn m n' parent depth ws os ks
  made_keep m n n' parent depth [] [] [] same made = made
  made_keep m n n' parent depth (w ∷ ws) (o ∷ os) (k ∷ ks) same made = (made_one m n m n' parent depth w o k refl (same k (inl refl)) made.0, made_keep m n n' parent depth ws os ks (λ j h. same j (inr h)) made.1)
  made_keep m n n' parent depth [] [] (j ∷ ks) same made = absurd made
  made_keep m n n' parent depth [] (o ∷ os) ks same made = absurd made
  made_keep m n n' parent depth (w ∷ ws) [] ks same made = absurd made
  made_keep m n n' parent depth (w ∷ ws) (o ∷ os) [] same made = absurd made

  made_push : (m n : Nodes A) (parent depth : ℕ) (ws : List Child) (os : List (Option ℕ)) (ks : List ℕ) (w : Child) (o : Option ℕ) (k : ℕ) → AreFoundOrBorn m n parent depth ws os ks → IsFoundOrBorn m n parent depth w o k
      → AreFoundOrBorn m n parent depth (ws ++ w ∷ []) (os ++ o ∷ []) (ks ++ k ∷ [])
  made_push m n parent depth [] [] [] w o k made one = (one, tt)
  made_push m n parent depth (v ∷ ws) (i ∷ os) (j ∷ ks) w o k made one = (made.0, made_push m n parent depth ws os ks w o k made.1 one)
  made_push m n parent depth [] [] (j ∷ ks) w o k made one = absurd made
  made_push m n parent depth [] (i ∷ os) ks w o k made one = absurd made
  made_push m n parent depth (v ∷ ws) [] ks w o k made one = absurd made
  made_push m n parent depth (v ∷ ws) (i ∷ os) [] w o k made one = absurd made

  -- 3. one more

  -- a node that is placed next is none of those before, and stood as it was at the beginning
  pub record IsFresh (first now : Grove A) (ks : List ℕ) (k : ℕ) : Type 0 where
    pub out : In k ks → ⊥
    pub was : now_of now k ≡ now_of first k

  pub fresh_of : (first now new : Grove A) (parent : ℕ) (p : Node A) (ws : List Child) (os : List (Option ℕ)) (ks : List ℕ) (w : Child) (o : Option ℕ) (k : ℕ) → AreFoundOrBorn (now_of first) (now_of now) parent (p.depth + 1) ws os ks
      → ChangesAmong first now ks → ((j : ℕ) → o ≡ Some j → (WasFound j os → ⊥) × IsSome (now_of first j)) → IsFoundOrBorn (now_of now) (now_of new) parent (p.depth + 1) w o k → IsFresh first now ks k
  fresh_of first now new parent p ws os ks w None k made changes once one =
      let out : In k ks → ⊥ = λ h. absurd (grind (arith, made_live (now_of first) (now_of now) parent (p.depth + 1) ws os ks made k h, one.vacant)) in
      record { out = out; was = changes.others k out }
  fresh_of first now new parent p ws os ks w (Some j) k made changes once one =
      let o = once j refl in
      let out : In k ks → ⊥ = λ h. elim (made_from (now_of first) (now_of now) parent (p.depth + 1) ws os ks made k h) [
        | inl f ↦ o.0 (subst (λ i. WasFound i os) one.same f)
        | inr e ↦ absurd (grind (arith, o.1, sym (ap (now_of first) one.same) ∙ e))
      ] in
      record { out = out; was = changes.others k out }

  pub turned_keep : (m n m' n' : Nodes A) (k : ℕ) → m' k ≡ m k → n' k ≡ n k → HasTurned m n k → HasTurned m' n' k
  turned_keep m n m' n' k a b t = record { node = t.node; was = a ∙ t.was; other = λ e. t.other (sym (ap (option_map (λ (x : Node A). x.seen)) b) ∙ e) }

  pub keeps_keep : (m n m' n' : Nodes A) (k : ℕ) → m' k ≡ m k → n' k ≡ n k → KeepsSymbol m n k → KeepsSymbol m' n' k
  keeps_keep m n m' n' k a b h = λ x is. ap (option_map (λ (x : Node A). x.seen)) b ∙ h x (sym a ∙ is)

  pub kinds_keep : (m n m' n' : Nodes A) (k : ℕ) → m' k ≡ m k → n' k ≡ n k → KeepsKind m n k → KeepsKind m' n' k
  kinds_keep m n m' n' k a b h = λ x is. ap (option_map (λ (x : Node A). bracket_kind x.seen)) b ∙ h x (sym a ∙ is)

  kinds_push : (m n n' : Nodes A) (ks : List ℕ) (k : ℕ) (a b : Bool) → ((j : ℕ) → In j ks → n' j ≡ n j) → n k ≡ m k → KindsTell m n ks a → KindsTell n n' (k ∷ []) b → KindsTell m n' (ks ++ k ∷ []) (a && b)
  kinds_push m n n' ks k true true same was before here = record {
    keep = λ t j h. elim (in_push ks k j h) [
      | inl i ↦ kinds_keep m n m n' j refl (same j i) (before.keep refl j i)
      | inr e ↦ subst (KeepsKind m n') (sym e) (kinds_keep n n' m n' k (sym was) refl (here.keep refl k (inl refl)))
    ];
    turn = λ f. absurd (grind (arith, f));
  }
  kinds_push m n n' ks k true false same was before here = record {
    keep = λ t. absurd (grind (arith, t));
    turn = λ f. let h = here.turn refl in (k, in_new ks k, λ keep. h.2 (subst (KeepsKind n n') (sym (alone h.0 h.1)) (kinds_keep m n' n n' k was refl keep)));
  }
    where
      alone : (j : ℕ) → In j (k ∷ []) → j ≡ k
      alone j (inl e) = e
      alone j (inr h) = absurd h
  kinds_push m n n' ks k false b same was before here = record {
    keep = λ t. absurd (grind (arith, t));
    turn = λ f. let h = before.turn refl in (h.0, in_old ks k h.0 h.1, λ keep. h.2 (kinds_keep m n' m n h.0 refl (sym (same h.0 h.1)) keep));
  }

  -- one child more was placed
  pub placed_next : (first now new : Grove A) (parent : ℕ) (ws : List Child) (os : List (Option ℕ)) (ks : List ℕ) (w : Child) (o : Option ℕ) (k : ℕ) (before between after : ToldNodes) (a b : Bool)
      → IsLive first parent → ((j : ℕ) → o ≡ Some j → (WasFound j os → ⊥) × IsSome (now_of first j)) → k ≢ parent
      → ArePlaced first now parent ws os ks before between a → IsPlaced now new parent w o k → TellsNodes (now_of now) (now_of new) (k ∷ []) between after → KindsTell (now_of now) (now_of new) (k ∷ []) b
      → ArePlaced first new parent (ws ++ w ∷ []) (os ++ o ∷ []) (ks ++ k ∷ []) before after (a && b)
  placed_next first now new parent ws os ks w o k before between after a b lives once ne was here told kinds =
      let m = now_of first in
      let n = now_of now in
      let n' = now_of new in
      let parent_was : n parent ≡ m parent = was.places.changes.others parent was.places.other in
      let q = some_of (m parent) lives in
      let one = here.made q.0 (parent_was ∙ q.1) in
      let fresh = fresh_of first now new parent q.0 ws os ks w o k (was.places.made q.0 q.1) was.places.changes once one.0 in
      let same : (j : ℕ) → In j ks → n' j ≡ n j = λ j h. here.changes.others j (λ e. fresh.out (subst (λ i. In i ks) e h)) in
      record {
        places = record {
          made = λ p is. made_push m n' parent (p.depth + 1) ws os ks w o k (made_keep m n n' parent (p.depth + 1) ws os ks same (was.places.made p is)) (made_one n n' m n' parent (p.depth + 1) w o k (sym fresh.was) refl (here.made p (parent_was ∙ is)).0);
          apart = apart_push ks k was.places.apart fresh.out;
          other = λ h. elim (in_push ks k parent h) [ inl i ↦ was.places.other i | inr e ↦ ne (sym e) ];
          long = length_push ks k ∙ ap (λ x. x + 1) was.places.long ∙ sym (length_push ws w);
          changes = record {
            others = λ j out. here.changes.others j (λ e. out (subst (λ i. In i (ks ++ k ∷ [])) (sym e) (in_new ks k))) ∙ was.places.changes.others j (λ h. out (in_old ks k j h));
            rest = here.changes.rest ∙ was.places.changes.rest;
            root = here.changes.root ∙ was.places.changes.root;
          };
          spends = spends_then first now new (births os) (params_for ws) 0 (notes_for os) (births (o ∷ [])) (list_room (params_in w.symbol)) 0 (notes_for (o ∷ [])) (births (os ++ o ∷ [])) (params_for (ws ++ w ∷ [])) 0 (notes_for (os ++ o ∷ []))
              was.places.spends here.spends (omega (arith, births_push os o)) (omega (arith, params_push ws w)) (omega arith) (omega (arith, notes_push os o));
        };
        told = record {
          touched = told.touched ∙ was.told.touched;
          changed = tells_push (HasTurned m n') (KeepsSymbol m n') ks k before.changed between.changed after.changed
              (tells_all_keep (HasTurned m n) (KeepsSymbol m n) (HasTurned m n') (KeepsSymbol m n') ks before.changed between.changed (λ j h. turned_keep m n m n' j refl (same j h)) (λ j h. keeps_keep m n m n' j refl (same j h)) was.told.changed)
              (tells_one (HasTurned m n') (KeepsSymbol m n') k between.changed after.changed
              (tells_all_keep (HasTurned n n') (KeepsSymbol n n') (HasTurned m n') (KeepsSymbol m n') (k ∷ []) between.changed after.changed
              (λ j h. turned_keep n n' m n' j (sym (was_at j h fresh.was)) refl) (λ j h. keeps_keep n n' m n' j (sym (was_at j h fresh.was)) refl) told.changed));
          added = tells_push (IsNewNode m) (λ j. IsSome (m j)) ks k before.added between.added after.added was.told.added
              (tells_one (IsNewNode m) (λ j. IsSome (m j)) k between.added after.added
              (tells_all_keep (IsNewNode n) (λ j. IsSome (n j)) (IsNewNode m) (λ j. IsSome (m j)) (k ∷ []) between.added after.added
              (λ j h x. sym (was_at j h fresh.was) ∙ x) (λ j h x. subst IsSome (was_at j h fresh.was) x) told.added));
          gone = told.gone ∙ was.told.gone;
          room = omega (arith, was.told.room, told.room, length_push ks k);
        };
        kinds_tell = kinds_push m n n' ks k a b same fresh.was was.kinds_tell kinds;
      }
    where
      was_at : (j : ℕ) → In j (k ∷ []) → now_of now k ≡ now_of first k → now_of now j ≡ now_of first j
      was_at j (inl e) was = ap (now_of now) e ∙ was ∙ ap (now_of first) (sym e)
      was_at j (inr h) was = absurd h

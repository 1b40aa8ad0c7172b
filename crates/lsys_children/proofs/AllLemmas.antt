-- All children of one parent are placed.
use Rattle.std.proofs.Common.{◌≡◌, ◌≢◌, IsTrue, ◌+◌, ◌≤◌, ◌&&◌, ℕ, zero, suc, Bool, true, false, List, [], ◌∷◌, ◌++◌, length, map, take, slice_get, Option, Some, None, refl, sym, ap, ◌∙◌, arith, inl, inr, subst}
use Rattle.std.specs.Prelude.{IsSome, cond, not}
use Rattle.std.proofs.lemmas.Option.{none-some, same_Some}
use Rattle.lsys_spec.specs.Rows.{In}
use Rattle.lsys_region.specs.Rooms.{list_room, room_of}
use Rattle.lsys_forest.specs.Nodes.{Node, Nodes, with_kids}
use Rattle.lsys_forest.specs.Groves.{Grove, AreKids, IsUnder, IsRooted, now_of, changes_in, IsLive, Sets, Spends}
use Rattle.lsys_forest.specs.Rows.{kids_in}
use Rattle.lsys_children.specs.declared.child.Child.{Child}
use Rattle.lsys_children.specs.declared.number.Number.{Number}
use Rattle.lsys_children.specs.Matches.{AreDifferent, has_number, node_numbered, nodes_where, nodes_without, number_of}
use Rattle.lsys_children.specs.Children.{numbers_of, need_at, HasRoomFor, SpendsNeed, AreRenewed, TellsOf, AreFoundOrBorn, AreWhole, born, renewed, ToldNodes, TellsIf, TellsAll, IsNewNode, HasTurned, KeepsSymbol, KeepsKind, KeepsChildren, births, notes_for, params_for}
use Rattle.lsys_children.specs.Steps.{KindsTell, TellsNodes, CanPlace, CanPlaceAll, IsPlaced, IsMatched, WasFound, FoundOnce}
use Rattle.lsys_children.proofs.Placing.{ArePlaced}
use Rattle.lsys_children.proofs.MatchLemmas.{take_next}
use Rattle.lsys_children.proofs.StepLemmas.{found_there, found_before, whole_there, births_within, notes_within, params_within, tells_all_keep}
use Rattle.lsys_forest.proofs.SoundLemmas.{some_of}
use Rattle.lsys_children.proofs.PlacedLemmas.{set_is, set_other, spends_none, spends_then, made_from, made_keep, turned_keep, keeps_keep, kinds_keep, placed_next}
use Rattle.lsys_children.proofs.FoundLemmas.{found_has, found_once, found_old, made_named}

pub take_none : {X : Type 0} (xs : List X) → take 0 xs ≡ []
take_none [] = refl
take_none (x ∷ xs) = refl

pub take_short : {X : Type 0} (xs : List X) (i : ℕ) (x : X) → slice_get xs i ≡ Some x → length (take i xs) + 1 ≤ length xs
take_short [] i x h = absurd (none-some x h)
take_short (y ∷ xs) zero x h = omega arith
take_short (y ∷ xs) (suc i) x h = omega (arith, take_short xs i x h)

map_long : {X Y : Type 0} (f : X → Y) (xs : List X) → length (map f xs) ≡ length xs
map_long f [] = refl
map_long f (x ∷ xs) = ap suc (map_long f xs)

pub found_long : (find : Number → Option ℕ) (ws : List Child) (os : List (Option ℕ)) → os ≡ map find (numbers_of ws) → length os ≡ length ws
found_long find ws os is = ap length is ∙ map_long find (numbers_of ws) ∙ map_long (λ (w : Child). w.number) ws

where_short : {A : Type 0} (test : Number → Bool) (m : Nodes A) (ks : List ℕ) → length (nodes_where test m ks) ≤ length ks
where_short test m [] = omega arith
where_short test m (k ∷ ks) = by (test (number_of m k)) (where_short test m ks)
  where
    by : (b : Bool) → length (nodes_where test m ks) ≤ length ks → length (cond b (k ∷ nodes_where test m ks) (nodes_where test m ks)) ≤ suc (length ks)
    by true h = omega (arith, h)
    by false h = omega (arith, h)

pub without_short : {A : Type 0} (m : Nodes A) (qs : List Number) (ks : List ℕ) → length (nodes_without m qs ks) ≤ length ks
without_short m qs ks = where_short (λ q. not (has_number qs q)) m ks

module _ {A : Type 0} where
  -- 1. the loop

  pub placed_start : (f : Grove A) (parent : ℕ) (ws : List Child) (os : List (Option ℕ)) (ks : List ℕ) (t : ToldNodes) → ks ≡ [] → ArePlaced f f parent (take 0 ws) (take 0 os) ks t t true
  placed_start f parent ws os ks t none =
      subst (λ us. ArePlaced f f parent us (take 0 os) ks t t true) (sym (take_none ws))
      (subst (λ us. ArePlaced f f parent [] us ks t t true) (sym (take_none os))
      (subst (λ ns. ArePlaced f f parent [] [] ns t t true) (sym none) (record {
        places = record { made = λ p is. tt; apart = tt; other = λ h. h; long = refl; changes = record { others = λ j out. refl; rest = refl; root = refl }; spends = spends_none f };
        told = record { touched = refl; changed = refl; added = refl; gone = refl; room = omega arith };
        kinds_tell = record { keep = λ e k h. absurd h; turn = λ e. absurd (grind (arith, e)) };
      })))

  -- an old child that is placed next is none of those before
  not_before : (f now : Grove A) (parent : ℕ) (ws : List Child) (os : List (Option ℕ)) (ks : List ℕ) (t t' : ToldNodes) (a : Bool) (i k : ℕ) → CanPlaceAll f parent ws os t → ArePlaced f now parent (take i ws) (take i os) ks t t' a
      → slice_get os i ≡ Some (Some k) → In k ks → ⊥
  not_before f now parent ws os ks t t' a i k all placed here h =
      let p = some_of (now_of f parent) all.parent_lives in
      elim (made_from (now_of f) (now_of now) parent (p.0.depth + 1) (take i ws) (take i os) ks (placed.places.made p.0 p.1) k h) [
        | inl found ↦ found_before os i k all.once here found
        | inr none ↦ absurd (grind (arith, none, (all.found k (found_there os i k here)).lives))
      ]

  pub can_place_next : (f now : Grove A) (parent : ℕ) (ws : List Child) (os : List (Option ℕ)) (ks : List ℕ) (t t' : ToldNodes) (a : Bool) (i : ℕ) (w : Child) (o : Option ℕ) → CanPlaceAll f parent ws os t
      → ArePlaced f now parent (take i ws) (take i os) ks t t' a → slice_get ws i ≡ Some w → slice_get os i ≡ Some o → CanPlace now parent w o t'
  can_place_next f now parent ws os ks t t' a i w o all placed here found = record {
    parent_lives = subst IsSome (sym (placed.places.changes.others parent placed.places.other)) all.parent_lives;
    whole = whole_there ws i w all.whole here;
    nodes = omega (arith, all.nodes, placed.places.spends.nodes_left, births_within os i o found);
    params = omega (arith, all.params, placed.places.spends.params_left, params_within ws i w here);
    notes = omega (arith, all.notes, placed.places.spends.notes_left, notes_within os i o found);
    told = omega (arith, all.told, placed.told.room, placed.places.long, take_short ws i w here);
    found = λ k is.
        let there : slice_get os i ≡ Some (Some k) = found ∙ ap Some is in
        let old = all.found k (found_there os i k there) in
        record {
          lives = subst IsSome (sym (placed.places.changes.others k (not_before f now parent ws os ks t t' a i k all placed there))) old.lives;
          other = old.other;
          below = λ e. old.below (e ∙ placed.places.changes.root);
        };
  }

  pub all_next : (f now new : Grove A) (parent : ℕ) (ws : List Child) (os : List (Option ℕ)) (ks : List ℕ) (t t' t'' : ToldNodes) (a b : Bool) (i : ℕ) (w : Child) (o : Option ℕ) (k : ℕ) → CanPlaceAll f parent ws os t
      → ArePlaced f now parent (take i ws) (take i os) ks t t' a → slice_get ws i ≡ Some w → slice_get os i ≡ Some o → k ≢ parent
      → IsPlaced now new parent w o k → TellsNodes (now_of now) (now_of new) (k ∷ []) t' t'' → KindsTell (now_of now) (now_of new) (k ∷ []) b
      → ArePlaced f new parent (take (i + 1) ws) (take (i + 1) os) (ks ++ k ∷ []) t t'' (a && b)
  all_next f now new parent ws os ks t t' t'' a b i w o k all placed here found ne one told kinds =
      subst (λ us. ArePlaced f new parent us (take (i + 1) os) (ks ++ k ∷ []) t t'' (a && b)) (sym (take_next ws i w here))
      (subst (λ us. ArePlaced f new parent (take i ws ++ w ∷ []) us (ks ++ k ∷ []) t t'' (a && b)) (sym (take_next os i o found))
      (placed_next f now new parent (take i ws) (take i os) ks w o k t t' t'' a b all.parent_lives
      (λ j is. (λ h. found_before os i j all.once (found ∙ ap Some is) h, (all.found j (found_there os i j (found ∙ ap Some is))).lives)) ne placed one told kinds))

  -- 2. before it

  pub can_place_all : (f : Grove A) (parent : ℕ) (ws : List Child) (os : List (Option ℕ)) (gone : List ℕ) (t : ToldNodes) → IsRooted f.root (changes_in f) (now_of f) → IsLive f parent
      → ((p : Node A) → now_of f parent ≡ Some p → IsMatched (now_of f) p.kids ws os gone) → AreDifferent (numbers_of ws) → AreWhole ws
      → ((p : Node A) → now_of f parent ≡ Some p → HasRoomFor f t (need_at (now_of f) p.kids ws)) → CanPlaceAll f parent ws os t
  can_place_all f parent ws os gone t sound lives matched apart whole room =
      let p = some_of (now_of f parent) lives in
      let is = (matched p.0 p.1).found in
      let r = room p.0 p.1 in
      record {
        parent_lives = lives;
        whole = whole;
        long = found_long (node_numbered (now_of f) p.0.kids) ws os is;
        nodes = omega (arith, r.nodes, ap births is);
        params = r.params;
        notes = omega (arith, r.notes, ap notes_for is);
        told = omega (arith, r.told);
        once = subst FoundOnce (sym is) (found_once (now_of f) p.0.kids (numbers_of ws) apart);
        found = λ k h. found_old f parent p.0 (numbers_of ws) sound p.1 k (subst (WasFound k) is h);
      }

  -- 3. after it

  under_made : (m n : Nodes A) (root parent depth : ℕ) (ws : List Child) (os : List (Option ℕ)) (ks : List ℕ) → AreFoundOrBorn m n parent depth ws os ks → IsSome (m root) → ((k : ℕ) → WasFound k os → IsUnder m root parent k)
      → (k : ℕ) → In k ks → IsUnder n root parent k
  under_made m n root parent depth [] [] [] made lives under k h = absurd h
  under_made m n root parent depth (w ∷ ws) (None ∷ os) (j ∷ ks) made lives under k (inl e) = record {
    node = born parent depth w;
    is = ap n e ∙ made.0.is;
    parent_is = refl;
    other = λ r. absurd (grind (arith, lives, sym (ap m (sym e ∙ r)) ∙ made.0.vacant));
  }
  under_made m n root parent depth (w ∷ ws) (Some i ∷ os) (j ∷ ks) made lives under k (inl e) =
      let u = under i (inl refl) in
      let same = same_Some made.0.node u.node (sym made.0.was ∙ ap m made.0.same ∙ u.is) in
      record {
        node = renewed w made.0.node;
        is = ap n e ∙ made.0.is;
        parent_is = ap (λ (x : Node A). x.parent) same ∙ u.parent_is;
        other = λ r. u.other (sym made.0.same ∙ sym e ∙ r);
      }
  under_made m n root parent depth (w ∷ ws) (o ∷ os) (j ∷ ks) made lives under k (inr h) = under_made m n root parent depth ws os ks made.1 lives (λ i f. under i (inr f)) k h
  under_made m n root parent depth [] [] (j ∷ ks) made lives under k h = absurd made
  under_made m n root parent depth [] (o ∷ os) ks made lives under k h = absurd made
  under_made m n root parent depth (w ∷ ws) [] ks made lives under k h = absurd made
  under_made m n root parent depth (w ∷ ws) (o ∷ os) [] made lives under k h = absurd made

  pub placed_kids : (f now : Grove A) (parent : ℕ) (ws : List Child) (os : List (Option ℕ)) (ks gone : List ℕ) (t t' : ToldNodes) (a : Bool) → IsRooted f.root (changes_in f) (now_of f) → IsLive f parent
      → ((p : Node A) → now_of f parent ≡ Some p → IsMatched (now_of f) p.kids ws os gone) → ArePlaced f now parent ws os ks t t' a → AreKids (now_of now) now.root parent ks
  placed_kids f now parent ws os ks gone t t' a sound lives matched placed =
      let p = some_of (now_of f parent) lives in
      let is = (matched p.0 p.1).found in
      let root = sound.root_lives in
      record {
        under = λ k h. subst (λ r. IsUnder (now_of now) r parent k) (sym placed.places.changes.root)
            (under_made (now_of f) (now_of now) f.root parent (p.0.depth + 1) ws os ks (placed.places.made p.0 p.1) (subst IsSome (sym root.1) refl)
            (λ i found. (sound.own parent p.0 p.1).under i (found_has (now_of f) p.0.kids (numbers_of ws) i (subst (WasFound i) is found)).0) k h);
        apart = placed.places.apart;
      }

  -- what the last steps tell
  pub record Ends (f now new : Grove A) (parent : ℕ) (gone ks : List ℕ) (t' t'' after : ToldNodes) (had kinds : Bool) : Type 0 where
    pub set : (n : Node A) → now_of now parent ≡ Some n → Sets now new parent (with_kids ks n)
    pub spends : Spends now new 0 0 (list_room ks) 1
    pub had_others : (n : Node A) → now_of now parent ≡ Some n → (IsTrue had → n.kids ≢ ks) × (had ≡ false → n.kids ≡ ks)
    pub others : IsTrue had → t''.touched ≡ t'.touched ++ parent ∷ []
    pub other_kinds : kinds ≡ false → t''.touched ≡ t'.touched ++ parent ∷ []
    pub stays : had ≡ false → kinds ≡ true → t''.touched ≡ t'.touched
    pub changed : t''.changed ≡ t'.changed
    pub added : t''.added ≡ t'.added
    pub gone_same : t''.gone ≡ t'.gone
    pub room : t'.room ≤ t''.room + 1
    pub last : after ≡ record t'' { gone = t''.gone ++ gone; room = after.room }
    pub last_room : t''.room ≤ after.room + length gone

  module _ (f now new : Grove A) (parent : ℕ) (ws : List Child) (os : List (Option ℕ)) (ks gone : List ℕ) (t t' t'' after : ToldNodes) (had kinds : Bool) (sound : IsRooted f.root (changes_in f) (now_of f)) (p : Node A) (is : now_of f parent ≡ Some p)
      (matched : IsMatched (now_of f) p.kids ws os gone) (placed : ArePlaced f now parent ws os ks t t' kinds) (ends : Ends f now new parent gone ks t' t'' after had kinds) where
    is_now : now_of now parent ≡ Some p
    is_now = placed.places.changes.others parent placed.places.other ∙ is

    pub list_is : now_of new parent ≡ Some (with_kids ks p)
    list_is = set_is now new parent (with_kids ks p) (ends.set p is_now)

    same : (j : ℕ) → j ≢ parent → now_of new j ≡ now_of now j
    same j ne = set_other now new parent j (with_kids ks p) (ends.set p is_now) ne

    apart : (j : ℕ) → In j ks → j ≢ parent
    apart j h e = placed.places.other (subst (λ i. In i ks) e h)

    pub renewed_all : AreRenewed (now_of f) (now_of new) parent p ws ks
    renewed_all =
        let made = subst (λ us. AreFoundOrBorn (now_of f) (now_of new) parent (p.depth + 1) ws us ks) matched.found
        (made_keep (now_of f) (now_of now) (now_of new) parent (p.depth + 1) ws os ks (λ j h. same j (apart j h)) (placed.places.made p is)) in
        record {
          list = list_is;
          made = made;
          named = made_named (now_of f) (now_of new) parent (p.depth + 1) p.kids ws ks made;
          others = λ j ne out. same j ne ∙ placed.places.changes.others j out;
        }

    pub kids_now : kids_in (now_of new parent) ≡ ks
    kids_now = ap kids_in list_is

    kids_were : kids_in (now_of f parent) ≡ p.kids
    kids_were = ap kids_in is

    -- a node whose kind changed was one of the children
    was_kid : (k : ℕ) → In k ks → (KeepsKind (now_of f) (now_of now) k → ⊥) → In k p.kids
    was_kid k h turn = elim (made_from (now_of f) (now_of now) parent (p.depth + 1) ws os ks (placed.places.made p is) k h) [
      | inl found ↦ (found_has (now_of f) p.kids (numbers_of ws) k (subst (WasFound k) matched.found found)).0
      | inr none ↦ absurd (turn (λ n there. absurd (none-some n (sym none ∙ there))))
    ]

    touched : (a b : Bool) → had ≡ a → kinds ≡ b → TellsIf (λ k. KeepsChildren (now_of f) (now_of new) k → ⊥) (KeepsChildren (now_of f) (now_of new)) parent t'.touched t''.touched
    touched true b e g = inl (λ keep. (ends.had_others p is_now).0 e (sym kids_were ∙ sym keep.list ∙ kids_now), ends.others e)
    touched false false e g =
        let turn = placed.kinds_tell.turn g in
        inl (
          λ keep. turn.2 (kinds_keep (now_of f) (now_of new) (now_of f) (now_of now) turn.0 refl (sym (same turn.0 (apart turn.0 turn.1))) (keep.kinds turn.0 (subst (In turn.0) (sym kids_were) (was_kid turn.0 turn.1 turn.2)))),
          ends.other_kinds g,
        )
    touched false true e g =
        let list = (ends.had_others p is_now).1 e in
        inr (
          record {
            list = kids_now ∙ sym list ∙ sym kids_were;
            kinds = λ k h.
                let in_ks = subst (In k) (kids_were ∙ list) h in
                kinds_keep (now_of f) (now_of now) (now_of f) (now_of new) k refl (same k (apart k in_ks)) (placed.kinds_tell.keep g k in_ks);
          },
          ends.stays e g,
        )

    pub told_all : TellsOf (now_of f) (now_of new) parent p ws ks t after
    told_all = record {
      touched = subst (λ b. TellsIf (λ k. KeepsChildren (now_of f) (now_of new) k → ⊥) (KeepsChildren (now_of f) (now_of new)) parent b after.touched) placed.told.touched
          (subst (TellsIf (λ k. KeepsChildren (now_of f) (now_of new) k → ⊥) (KeepsChildren (now_of f) (now_of new)) parent t'.touched) (sym (ap (λ (x : ToldNodes). x.touched) ends.last)) (touched had kinds refl refl));
      changed = subst (TellsAll (HasTurned (now_of f) (now_of new)) (KeepsSymbol (now_of f) (now_of new)) ks t.changed) (sym (ap (λ (x : ToldNodes). x.changed) ends.last ∙ ends.changed))
          (tells_all_keep (HasTurned (now_of f) (now_of now)) (KeepsSymbol (now_of f) (now_of now)) (HasTurned (now_of f) (now_of new)) (KeepsSymbol (now_of f) (now_of new)) ks t.changed t'.changed
          (λ j h. turned_keep (now_of f) (now_of now) (now_of f) (now_of new) j refl (same j (apart j h))) (λ j h. keeps_keep (now_of f) (now_of now) (now_of f) (now_of new) j refl (same j (apart j h))) placed.told.changed);
      added = subst (TellsAll (IsNewNode (now_of f)) (λ k. IsSome (now_of f k)) ks t.added) (sym (ap (λ (x : ToldNodes). x.added) ends.last ∙ ends.added)) placed.told.added;
      gone = ap (λ (x : ToldNodes). x.gone) ends.last ∙ ap (λ l. l ++ gone) (ends.gone_same ∙ placed.told.gone) ∙ ap (λ l. t.gone ++ l) matched.left;
      room = omega (arith, placed.told.room, placed.places.long, ends.room, ends.last_room, ap length matched.left, without_short (now_of f) (numbers_of ws) p.kids);
    }

    pub spends_all : SpendsNeed f new (need_at (now_of f) p.kids ws)
    spends_all =
        spends_then f now new (births os) (params_for ws) 0 (notes_for os) 0 0 (list_room ks) 1 (births (map (node_numbered (now_of f) p.kids) (numbers_of ws))) (params_for ws) (room_of (length ws)) (notes_for (map (node_numbered (now_of f) p.kids) (numbers_of ws)) + 1)
        placed.places.spends ends.spends (omega (arith, ap births matched.found)) (omega arith) (omega (arith, ap room_of placed.places.long)) (omega (arith, ap notes_for matched.found))

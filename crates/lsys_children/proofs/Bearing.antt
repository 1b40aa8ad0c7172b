-- The children of a node that has none.
use Rattle.std.proofs.Common.{◌≡◌, ◌≢◌, ◌+◌, ◌≤◌, ◌++◌, ℕ, zero, suc, Bool, IsTrue, true, false, append-nil, append_assoc, List, [], ◌∷◌, length, map, take, drop, slice_get, Option, Some, None, refl, sym, ap, ◌∙◌, inl, inr, arith, subst}
use Rattle.std.specs.Prelude.{IsSome}
use Rattle.std.proofs.lemmas.List.{length-append}
use Rattle.std.proofs.lemmas.Option.{none-some, same_Some}
use Rattle.std.proofs.Math.Seq.{drop-append_seam}
use Rattle.lsys_module.specs.declared.symbol.Symbol.TheVariants.{Cut}
use Rattle.lsys_level.specs.Places.{params_in}
use Rattle.lsys_region.specs.Rooms.{list_room, room_of}
use Rattle.lsys_forest.specs.Nodes.{Node, Nodes}
use Rattle.lsys_forest.specs.Groves.{AreKids, Grove, IsRooted, IsLive, now_of, rest_of, changes_in, spare_kids}
use Rattle.lsys_forest.specs.Rows.{kids_in}
use Rattle.lsys_children.specs.declared.child.Child.{Child}
use Rattle.lsys_children.specs.Matches.{AreDifferent, node_numbered, nodes_without}
use Rattle.lsys_children.specs.Children.{numbers_of, need_at, AreRenewed, AreWhole, HasRoomFor, SpendsNeed, TellsIf, TellsOf, ToldNodes, births, notes_for, params_for}
use Rattle.lsys_children.specs.Steps.{Adopts, AreBorn, CanAdopt, CanPlace, CanPlaceAll, IsMatched, IsPlaced, KindsTell, TellsNodes, none_found}
use Rattle.lsys_children.proofs.Placing.{ArePlaced}
use Rattle.lsys_forest.proofs.SoundLemmas.{some_of}
use Rattle.lsys_children.proofs.PlacedLemmas.{placed_next}
use Rattle.lsys_children.proofs.AllLemmas.{Ends, can_place_all, kids_now, placed_kids, placed_start, renewed_all, spends_all, told_all}

-- 1. none is found

none_push : (ws : List Child) (w : Child) → none_found (ws ++ w ∷ []) ≡ none_found ws ++ None ∷ []
none_push [] w = refl
none_push (v ∷ ws) w = ap (λ (os : List (Option ℕ)). None ∷ os) (none_push ws w)

none_births : (ws : List Child) → births (none_found ws) ≡ length ws
none_births [] = refl
none_births (w ∷ ws) = omega (arith, none_births ws)

none_notes : (ws : List Child) → notes_for (none_found ws) ≡ length ws
none_notes [] = refl
none_notes (w ∷ ws) = omega (arith, none_notes ws)

params_after : (ws : List Child) (w : Child) (rest : List Child) → params_for ws + list_room (params_in w.symbol) ≤ params_for (ws ++ w ∷ rest)
params_after [] w rest = omega arith
params_after (v ∷ ws) w rest = omega (arith, params_after ws w rest)

whole_after : (ws : List Child) (w : Child) (rest : List Child) → AreWhole (ws ++ w ∷ rest) → w.symbol ≢ Cut
whole_after [] w rest whole = whole.0
whole_after (v ∷ ws) w rest whole = whole_after ws w rest whole.1

pub split_at : (ws : List Child) (i : ℕ) (w : Child) → slice_get ws i ≡ Some w → ws ≡ take i ws ++ w ∷ drop (i + 1) ws
split_at [] i w h = absurd (none-some w h)
split_at (v ∷ ws) zero w h = ap (λ (x : Child). x ∷ ws) (same_Some v w h)
split_at (v ∷ ws) (suc i) w h =
    let e : suc (i + 1) ≡ suc i + 1 = omega arith in ap (λ (l : List Child). v ∷ l) (split_at ws i w h) ∙ ap (λ n. v ∷ (take i ws ++ w ∷ drop n (v ∷ ws))) e

module _ {A : Type 0} where
  none_are : (m : Nodes A) (ws : List Child) → none_found ws ≡ map (node_numbered m []) (numbers_of ws)
  none_are m [] = refl
  none_are m (w ∷ ws) = ap (λ (os : List (Option ℕ)). None ∷ os) (none_are m ws)

  -- the children of a node that has none are matched with nothing
  none_matched : (m : Nodes A) (p : Node A) (ws : List Child) → p.kids ≡ [] → IsMatched m p.kids ws (none_found ws) []
  none_matched m p ws bare = record {
    found = none_are m ws ∙ ap (λ (ks : List ℕ). map (node_numbered m ks) (numbers_of ws)) (sym bare);
    left = ap (nodes_without m (numbers_of ws)) (sym bare);
  }

  -- 2. one after the other

  placed : (f now : Grove A) (parent : ℕ) (ws : List Child) (t t' : ToldNodes) → (born : AreBorn f now parent ws t t') → ArePlaced f now parent ws (none_found ws) born.nodes t t' true
  placed f now parent ws t t' born = record { places = born.places; told = born.told; kinds_tell = born.kinds }

  pub born_start : (f : Grove A) (parent : ℕ) (t : ToldNodes) → AreBorn f f parent [] t t
  born_start f parent t =
      let start : ArePlaced f f parent [] [] [] t t true = placed_start f parent [] [] [] t refl in
      record { nodes = []; places = start.places; told = start.told; kinds = start.kinds_tell; added = sym (append-nil t.added) }

  -- there is room for all of them
  pub can_bear_all : (f : Grove A) (parent : ℕ) (ws : List Child) (t : ToldNodes) → IsRooted f.root (changes_in f) (now_of f) → IsLive f parent → ((p : Node A) → now_of f parent ≡ Some p → p.kids ≡ []) → AreDifferent (numbers_of ws) → AreWhole ws
      → ((p : Node A) → now_of f parent ≡ Some p → HasRoomFor f t (need_at (now_of f) p.kids ws)) → CanPlaceAll f parent ws (none_found ws) t
  can_bear_all f parent ws t sound lives bare apart whole room = can_place_all f parent ws (none_found ws) [] t sound lives (λ p is. none_matched (now_of f) p ws (bare p is)) apart whole room

  -- and for the next of them
  pub can_bear : (f now : Grove A) (parent : ℕ) (all ws : List Child) (w : Child) (rest : List Child) (t t' : ToldNodes) → CanPlaceAll f parent all (none_found all) t → all ≡ ws ++ w ∷ rest → AreBorn f now parent ws t t' → CanPlace now parent w None t'
  can_bear f now parent all ws w rest t t' can is born =
      let spends = born.places.spends in
      let long : length all ≡ length ws + suc (length rest) = ap length is ∙ length-append ws (w ∷ rest) in
      record {
        parent_lives = subst IsSome (sym (born.places.changes.others parent born.places.other)) can.parent_lives;
        whole = whole_after ws w rest (subst AreWhole is can.whole);
        nodes = omega (arith, can.nodes, spends.nodes_left, none_births all, none_births ws, long);
        params = omega (arith, can.params, spends.params_left, ap params_for is, params_after ws w rest);
        notes = omega (arith, can.notes, spends.notes_left, none_notes all, none_notes ws, long);
        told = omega (arith, can.told, born.told.room, born.places.long, long);
        found = λ k e. absurd (none-some k e);
      }

  -- a new node turns no old one
  born_kinds : (m n : Nodes A) (k : ℕ) → m k ≡ None → KindsTell m n (k ∷ []) true
  born_kinds m n k vacant = record {
    keep = λ t j h x was. elim h [
      | inl e ↦ absurd (none-some x (sym vacant ∙ ap m (sym e) ∙ was))
      | inr none ↦ absurd none
    ];
    turn = λ f. absurd (grind (arith, f));
  }

  pub born_next : (f now new : Grove A) (parent : ℕ) (ws : List Child) (w : Child) (k : ℕ) (t t' t'' : ToldNodes) → IsLive f parent → AreBorn f now parent ws t t' → IsPlaced now new parent w None k → TellsNodes (now_of now) (now_of new) (k ∷ []) t' t''
      → t''.added ≡ t'.added ++ k ∷ [] → AreBorn f new parent (ws ++ w ∷ []) t t''
  born_next f now new parent ws w k t t' t'' lives born one told added =
      let p = some_of (now_of f parent) lives in
      let is = born.places.changes.others parent born.places.other ∙ p.1 in
      let vacant = (one.made p.0 is).0.vacant in
      let next : ArePlaced f new parent (ws ++ w ∷ []) (none_found (ws ++ w ∷ [])) (born.nodes ++ k ∷ []) t t'' true =
      subst (λ (os : List (Option ℕ)). ArePlaced f new parent (ws ++ w ∷ []) os (born.nodes ++ k ∷ []) t t'' true) (sym (none_push ws w))
      (placed_next f now new parent ws (none_found ws) born.nodes w None k t t' t'' true true lives (λ j e. absurd (none-some j e)) (λ e. absurd (none-some p.0 (sym vacant ∙ ap (now_of now) e ∙ is)))
      (placed f now parent ws t t' born) one told (born_kinds (now_of now) (now_of new) k vacant)) in
      record {
        nodes = born.nodes ++ k ∷ [];
        places = next.places;
        told = next.told;
        kinds = next.kinds_tell;
        added = added ∙ ap (λ (l : List ℕ). l ++ k ∷ []) born.added ∙ append_assoc t.added born.nodes (k ∷ []);
      }

  -- 3. their list

  -- the nodes that were told to be new are those that came to live
  told_last : (f now : Grove A) (parent : ℕ) (ws : List Child) (t t' : ToldNodes) → (born : AreBorn f now parent ws t t') → drop (length t.added) t'.added ≡ born.nodes
  told_last f now parent ws t t' born = ap (drop (length t.added)) born.added ∙ drop-append_seam t.added born.nodes

  module _ (f now : Grove A) (parent : ℕ) (ws : List Child) (t t' : ToldNodes) (sound : IsRooted f.root (changes_in f) (now_of f)) (lives : IsLive f parent) (bare : (p : Node A) → now_of f parent ≡ Some p → p.kids ≡ [])
      (room : (p : Node A) → now_of f parent ≡ Some p → HasRoomFor f t (need_at (now_of f) p.kids ws)) (born : AreBorn f now parent ws t t') where
    pub can_adopt : CanAdopt now parent (drop (length t.added) t'.added) t'
    can_adopt =
        let p = some_of (now_of f parent) lives in
        let r = room p.0 p.1 in
        let last = told_last f now parent ws t t' born in
        let spends = born.places.spends in
        record {
          parent_lives = subst IsSome (sym (born.places.changes.others parent born.places.other)) lives;
          kids = subst (AreKids (now_of now) now.root parent) (sym last)
              (placed_kids f now parent ws (none_found ws) born.nodes [] t t' true sound lives (λ q is. none_matched (now_of f) q ws (bare q is)) (placed f now parent ws t t' born));
          notes = omega (arith, r.notes, spends.notes_left, ap notes_for (none_matched (now_of f) p.0 ws (bare p.0 p.1)).found);
          room = subst (λ (ks : List ℕ). list_room ks ≤ spare_kids now) (sym last) (omega (arith, r.kids, spends.kids_left, ap room_of born.places.long));
          told = omega (arith, r.told, born.told.room, born.places.long);
        }

  -- the last steps, where no old child is told to be gone
  ends_bare : (f now new : Grove A) (parent : ℕ) (ks : List ℕ) (t' after : ToldNodes) (p : Node A) → now_of now parent ≡ Some p → Adopts now new parent ks t' after → (had : Bool) × Ends f now new parent [] ks t' after after had true
  ends_bare f now new parent ks t' after p is adopts = by (adopts.touched p is)
    where
      same : (n : Node A) → now_of now parent ≡ Some n → p.kids ≡ n.kids
      same n there = ap (λ (x : Node A). x.kids) (same_Some p n (sym is ∙ there))

      ends : (had : Bool) → ((n : Node A) → now_of now parent ≡ Some n → (IsTrue had → n.kids ≢ ks) × (had ≡ false → n.kids ≡ ks)) → (IsTrue had → after.touched ≡ t'.touched ++ parent ∷ []) → (had ≡ false → after.touched ≡ t'.touched)
          → Ends f now new parent [] ks t' after after had true
      ends had others told stays = record {
        set = adopts.set;
        spends = adopts.spends;
        had_others = others;
        others = told;
        other_kinds = λ e. absurd (grind (arith, e));
        stays = λ e k. stays e;
        changed = adopts.changed;
        added = adopts.added;
        gone_same = adopts.gone;
        room = adopts.room;
        last = ap (λ (l : List ℕ). record after { gone = l; room = after.room }) (sym (append-nil after.gone));
        last_room = omega arith;
      }

      by : TellsIf (λ k. p.kids ≢ ks) (λ k. p.kids ≡ ks) parent t'.touched after.touched → (had : Bool) × Ends f now new parent [] ks t' after after had true
      by (inl h) = (true, ends true (λ n there. (λ e k. h.0 (same n there ∙ k), λ e. absurd (grind (arith, e)))) (λ e. h.1) (λ e. absurd (grind (arith, e))))
      by (inr h) = (false, ends false (λ n there. (λ e. absurd (grind (arith, e)), λ e. sym (same n there) ∙ h.0)) (λ e. absurd (grind (arith, e))) (λ e. h.1))

  -- the children of a node that had none are those that were wanted
  pub record IsMadeAnew (f new : Grove A) (parent : ℕ) (p : Node A) (ws : List Child) (t after : ToldNodes) : Type 0 where
    pub renewed : AreRenewed (now_of f) (now_of new) parent p ws (kids_in (now_of new parent))
    pub told : TellsOf (now_of f) (now_of new) parent p ws (kids_in (now_of new parent)) t after
    pub spends : SpendsNeed f new (need_at (now_of f) p.kids ws)
    pub rest : rest_of new ≡ rest_of f
    pub root : new.root ≡ f.root

  pub made_anew : (f now new : Grove A) (parent : ℕ) (ws : List Child) (t t' after : ToldNodes) → IsRooted f.root (changes_in f) (now_of f) → (p : Node A) → now_of f parent ≡ Some p → p.kids ≡ [] → AreBorn f now parent ws t t'
      → Adopts now new parent (drop (length t.added) t'.added) t' after → IsMadeAnew f new parent p ws t after
  made_anew f now new parent ws t t' after sound p is bare born adopts =
      let ks = born.nodes in
      let os = none_found ws in
      let matched = none_matched (now_of f) p ws bare in
      let are = placed f now parent ws t t' born in
      let there = born.places.changes.others parent born.places.other ∙ is in
      let adopts' : Adopts now new parent ks t' after = subst (λ (l : List ℕ). Adopts now new parent l t' after) (told_last f now parent ws t t' born) adopts in
      let ends = ends_bare f now new parent ks t' after p there adopts' in
      let kids = kids_now f now new parent ws os ks [] t t' after after ends.0 true sound p is matched are ends.1 in
      record {
        renewed = subst (λ (l : List ℕ). AreRenewed (now_of f) (now_of new) parent p ws l) (sym kids) (renewed_all f now new parent ws os ks [] t t' after after ends.0 true sound p is matched are ends.1);
        told = subst (λ (l : List ℕ). TellsOf (now_of f) (now_of new) parent p ws l t after) (sym kids) (told_all f now new parent ws os ks [] t t' after after ends.0 true sound p is matched are ends.1);
        spends = spends_all f now new parent ws os ks [] t t' after after ends.0 true sound p is matched are ends.1;
        rest = (adopts'.set p there).rest ∙ born.places.changes.rest;
        root = (adopts'.set p there).root ∙ born.places.changes.root;
      }

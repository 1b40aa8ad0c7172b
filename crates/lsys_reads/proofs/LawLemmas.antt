-- Seats tell who is disturbed.
use Rattle.std.proofs.Common.{◌≡◌, ℕ, inl, inr, false, List, [], ◌∷◌, map, slice_get, Some, refl, sym, ap, ◌∙◌, subst}
use Rattle.std.specs.Prelude.{◌↔◌, get_or}
use Rattle.std.proofs.lemmas.Option.{get_or_from_slice_get}
use Rattle.lsys_spec.specs.Rows.{In}
use Rattle.lsys_spec.specs.Systems.{System}
use Rattle.lsys_spec.specs.Levels.{LevelSymbol, AreMates, IsLevel}
use Rattle.lsys_spec.specs.Standings.{is_disturbed}
use Rattle.lsys_level.specs.Spots.{Seen, Push, Pop, Module, with_lineage, named, seen_by}
use Rattle.lsys_level.proofs.Naming.{mates_named}
use Rattle.lsys_laws.specs.Seats as C
use Rattle.lsys_laws.specs.Seats.{seated, IsSeating, IsSameSeat, StandsStill}
use Rattle.lsys_laws.proofs.Placed.{got_in, seat_told}
use Rattle.lsys_forest.specs.Nodes.{Nodes}
use Rattle.lsys_forest.specs.Rows.{index_in, spot_in}
use Rattle.lsys_forest.specs.Mates.{seen_level}
use Rattle.lsys_reads.specs.declared.seat.Seat.{Seat}
use Rattle.lsys_reads.specs.Neighbours.{numbered_level, mate_on, neighbours_on}
use Rattle.lsys_reads.specs.Seats.{neighbours_at}
use Rattle.lsys_forest.specs.Pairs.{seen_at}
use Rattle.lsys_reads.specs.Standings.{seating_of, AreOldAndNew, AreSeated, StandsAsBefore}
use Rattle.lsys_reads.proofs.LevelLemmas.{place_in, get_index, index_less, lineage_named, named_by_number, symbol_at, mates_ahead, mates_after, mates_none}

seen_with : (l : List ℕ) (e : Seen) → seen_by (with_lineage l e) ≡ e
seen_with l Push = refl
seen_with l Pop = refl
seen_with l (Module m) = refl

pub among : (k : ℕ) (xs : List ℕ) → In k xs → In k xs
among k [] h = h
among k (x ∷ xs) (inl e) = inl e
among k (x ∷ xs) (inr h) = inr (among k xs h)

module _ {A : Type 0} where
  seated_is : (naming : ℕ → List ℕ) (m : Nodes A) (xs : List ℕ) → seated (seating_of naming m xs) ≡ seen_level naming m xs
  seated_is naming m xs = maps xs
    where
      maps : (ys : List ℕ) → map (λ k. named naming (spot_in k (m k))) ys ≡ map (named naming) (map (λ k. spot_in k (m k)) ys)
      maps [] = refl
      maps (y ∷ ys) = ap (λ (l : List LevelSymbol). named naming (spot_in y (m y)) ∷ l) (maps ys)

  one_index : (naming : ℕ → List ℕ) (m : Nodes A) (xs : List ℕ) → IsLevel (seen_level naming m xs) → (p k : ℕ) → slice_get xs p ≡ Some k → index_in k xs ≡ p
  one_index naming m xs h p k here =
      let there = get_index k xs (index_less k xs p here) in
      h.apart (index_in k xs) p (named naming (spot_in k (m k))) (named naming (spot_in k (m k))) (symbol_at naming m xs (index_in k xs) k there) (symbol_at naming m xs p k here) refl

  is_seating : (naming : ℕ → List ℕ) (m : Nodes A) (xs : List ℕ) → IsLevel (seen_level naming m xs) → IsSeating naming (seating_of naming m xs)
  is_seating naming m xs h = record {
    level = subst IsLevel (sym (seated_is naming m xs)) h;
    names = λ k i. lineage_named naming k (m k);
    opens = λ p q j k a hp hq. ap (mate_on m xs) (one_index naming m xs h p j hp) ∙ mates_ahead m xs p q k (numbered p q a) hq;
    closes = λ p q j k a hp hq. ap (mate_on m xs) (one_index naming m xs h q k hq) ∙ mates_after m xs q p j (numbered p q a) hp;
    modules = λ k l v i e.
        let p = place_in k xs (among k xs i) in
        let there = get_index k xs (index_less k xs p.0 p.1) in
        mates_none m xs (index_in k xs) k v there (sym (seen_with (naming k) (spot_in k (m k)).seen) ∙ ap seen_by (sym (named_by_number naming k (m k)) ∙ e));
  }
    where
      numbered : (p q : ℕ) → AreMates (seated (seating_of naming m xs)) p q → AreMates (numbered_level m xs) p q
      numbered p q a = mates_named naming (λ k. k ∷ []) (map (λ k. spot_in k (m k)) xs) p q (subst (λ x. AreMates x p q) (seated_is naming m xs) a)

  same_seen : (naming : ℕ → List ℕ) (m n : Nodes A) (k : ℕ) → named naming (spot_in k (n k)) ≡ named naming (spot_in k (m k)) → seen_at n k ≡ seen_at m k
  same_seen naming m n k e =
      sym (seen_with (naming k) (spot_in k (n k)).seen) ∙ ap seen_by (sym (named_by_number naming k (n k)) ∙ e ∙ named_by_number naming k (m k)) ∙ seen_with (naming k) (spot_in k (m k)).seen

  same_symbol : (naming : ℕ → List ℕ) (m n : Nodes A) (k : ℕ) → seen_at n k ≡ seen_at m k → named naming (spot_in k (n k)) ≡ named naming (spot_in k (m k))
  same_symbol naming m n k e = named_by_number naming k (n k) ∙ ap (with_lineage (naming k)) e ∙ sym (named_by_number naming k (m k))

  pub same_seat : (naming : ℕ → List ℕ) (m n : Nodes A) (was are : List ℕ) → IsLevel (seen_level naming m was) → IsLevel (seen_level naming n are) → (p q k : ℕ) → slice_get was p ≡ Some k → slice_get are q ≡ Some k
      → IsSameSeat (seating_of naming m was) (seating_of naming n are) p q k ↔ StandsAsBefore m n (neighbours_on m was p) (neighbours_on n are q) k
  same_seat naming m n was are hw ha p q k hp hq = (to, from)
    where
      at_old : index_in k was ≡ p
      at_old = one_index naming m was hw p k hp

      at_new : index_in k are ≡ q
      at_new = one_index naming n are ha q k hq

      to : IsSameSeat (seating_of naming m was) (seating_of naming n are) p q k → StandsAsBefore m n (neighbours_on m was p) (neighbours_on n are q) k
      to s =
          let mate : mate_on n are q ≡ mate_on m was p = ap (mate_on n are) (sym at_new) ∙ s.mate ∙ ap (mate_on m was) at_old in
          record {
            symbol = same_seen naming m n k s.symbol;
            neighbours = λ i. record { left = s.left i; right = s.right i; mate = mate i };
            left = λ j h. same_seen naming m n j (s.left_symbol j h);
            right = λ j h. same_seen naming m n j (s.right_symbol j h);
          }

      from : StandsAsBefore m n (neighbours_on m was p) (neighbours_on n are q) k → IsSameSeat (seating_of naming m was) (seating_of naming n are) p q k
      from s = record {
        symbol = same_symbol naming m n k s.symbol;
        left = ap (λ x. x.left) s.neighbours;
        left_symbol = λ j h. same_symbol naming m n j (s.left j h);
        right = ap (λ x. x.right) s.neighbours;
        right_symbol = λ j h. same_symbol naming m n j (s.right j h);
        mate = ap (mate_on n are) at_new ∙ ap (λ x. x.mate) s.neighbours ∙ sym (ap (mate_on m was) at_old);
      }

  -- a node that stands still has the same seat at the one place where it is
  one_seat : (naming : ℕ → List ℕ) (m n : Nodes A) (was are : List ℕ) → IsLevel (seen_level naming m was) → IsLevel (seen_level naming n are) → (p q k : ℕ) → slice_get was p ≡ Some k → slice_get are q ≡ Some k
      → (P : Type 0) → P ↔ StandsStill (seating_of naming m was) (seating_of naming n are) k → P ↔ IsSameSeat (seating_of naming m was) (seating_of naming n are) p q k
  one_seat naming m n was are hw ha p q k hp hq P e = (to, from)
    where
      to : P → IsSameSeat (seating_of naming m was) (seating_of naming n are) p q k
      to h =
          let s = e.0 h in
          let old : s.old_place ≡ p = sym (one_index naming m was hw s.old_place k s.was_there) ∙ one_index naming m was hw p k hp in
          let new : s.new_place ≡ q = sym (one_index naming n are ha s.new_place k s.is_there) ∙ one_index naming n are ha q k hq in
          subst (λ q. IsSameSeat (seating_of naming m was) (seating_of naming n are) p q k) new (subst (λ p. IsSameSeat (seating_of naming m was) (seating_of naming n are) p s.new_place k) old s.same)

      from : IsSameSeat (seating_of naming m was) (seating_of naming n are) p q k → P
      from s = e.1 (record { old_place = p; new_place = q; was_there = hp; is_there = hq; same = s })

  -- the levels as seatings
  pub level_seats : (old new : System) (xs ys : List (List LevelSymbol)) (t : ℕ) (naming : ℕ → List ℕ) (m n : Nodes A) (was are : List ℕ)
      → AreOldAndNew old new xs ys t naming m n was are → C.AreLevelSeatings old new xs ys t naming (seating_of naming m was) (seating_of naming n are)
  level_seats old new xs ys t naming m n was are h = record {
    meant = h.meant;
    seatings = record {
      before = is_seating naming m was h.old_is;
      after = is_seating naming n are h.new_is;
      apart = h.apart;
    };
    old_level = h.old_level ∙ ap Some (sym (seated_is naming m was));
    new_level = h.new_level ∙ ap Some (sym (seated_is naming n are));
  }

  pub still_tell : (old new : System) (xs ys : List (List LevelSymbol)) (t : ℕ) (naming : ℕ → List ℕ) (m n : Nodes A) (was are : List ℕ)
      → AreOldAndNew old new xs ys t naming m n was are → (k : ℕ) → In k was
      → (is_disturbed (get_or xs t []) (get_or ys t []) (naming k) ≡ false) ↔ StandsStill (seating_of naming m was) (seating_of naming n are) k
  still_tell old new xs ys t naming m n was are h k i =
      let s = level_seats old new xs ys t naming m n was are h in
      let x = get_or_from_slice_get xs t (seated (seating_of naming m was)) [] s.old_level in
      let y = get_or_from_slice_get ys t (seated (seating_of naming n are)) [] s.new_level in
      let e = subst (λ x. (is_disturbed x (seated (seating_of naming n are)) (naming k) ≡ false) ↔ StandsStill (seating_of naming m was) (seating_of naming n are) k) (sym x)
      (seat_told old new xs ys t naming (seating_of naming m was) (seating_of naming n are) s k i) in
      subst (λ y. (is_disturbed (get_or xs t []) y (naming k) ≡ false) ↔ StandsStill (seating_of naming m was) (seating_of naming n are) k) (sym y) e

  pub levels_tell : (old new : System) (xs ys : List (List LevelSymbol)) (t : ℕ) (naming : ℕ → List ℕ) (m n : Nodes A) (was are : List ℕ)
      → AreOldAndNew old new xs ys t naming m n was are → (p q k : ℕ) → slice_get was p ≡ Some k → slice_get are q ≡ Some k
      → (is_disturbed (get_or xs t []) (get_or ys t []) (naming k) ≡ false) ↔ StandsAsBefore m n (neighbours_on m was p) (neighbours_on n are q) k
  levels_tell old new xs ys t naming m n was are h p q k hp hq =
      let still = still_tell old new xs ys t naming m n was are h k (got_in was p k hp) in
      let d = one_seat naming m n was are h.old_is h.new_is p q k hp hq (is_disturbed (get_or xs t []) (get_or ys t []) (naming k) ≡ false) still in
      let r = same_seat naming m n was are h.old_is h.new_is p q k hp hq in
      (λ g. r.0 (d.0 g), λ g. d.1 (r.1 g))

  pub seats_tell : (old new : System) (xs ys : List (List LevelSymbol)) (t : ℕ) (naming : ℕ → List ℕ) (m n : Nodes A) (was are : List ℕ) (seats : List Seat)
      → AreOldAndNew old new xs ys t naming m n was are → AreSeated m was seats → (p q k : ℕ) → slice_get was p ≡ Some k → slice_get are q ≡ Some k
      → (is_disturbed (get_or xs t []) (get_or ys t []) (naming k) ≡ false) ↔ StandsAsBefore m n (neighbours_at seats k) (neighbours_on n are q) k
  seats_tell old new xs ys t naming m n was are seats h seated p q k hp hq =
      subst (λ before. (is_disturbed (get_or xs t []) (get_or ys t []) (naming k) ≡ false) ↔ StandsAsBefore m n before (neighbours_on n are q) k) (sym (seated p k hp))
      (levels_tell old new xs ys t naming m n was are h p q k hp hq)

-- Runs that are held stay live while others are placed and freed.
use Rattle.std.proofs.Common.{◌≡◌, ◌≢◌, ℕ, zero, suc, List, [], ◌∷◌, ◌++◌, map, take, drop, Option, Some, None, slice_get, inl, inr, refl, sym, ap, subst, ◌∙◌, arith, ◌<◌, count_by, true}
use Rattle.std.specs.List.{remove}
use Rattle.std.specs.Option.{option_and_then, is_some}
use Rattle.std.proofs.lemmas.List.{map-append, take-map, drop-map}
use Rattle.std.proofs.lemmas.Option.{none-some}
use Rattle.std.proofs.lemmas.Bool.{false≢true}
use Rattle.lsys_region.specs.Pool.{Slot, Pool, list_of, IsLiveRun, is_free_of, free_runs, free_for, Reuses, GivesBack, IsFresh, OthersStay}
use Rattle.lsys_region.specs.Rooms.{room_of, list_room, HaveOneRoom}
use Rattle.lsys_region.specs.Held.{AreHeld}
use Rattle.lsys_region.proofs.ListLemmas.{slice_get-push_cases}

-- where the k-th element of a list without its i-th stood
abbrev after : ℕ → ℕ → ℕ
after zero k = suc k
after (suc i) zero = zero
after (suc i) (suc k) = suc (after i k)

after-injective : (i j k : ℕ) → after i j ≡ after i k → j ≡ k
after-injective zero j k same = omega arith
after-injective (suc i) zero zero same = refl
after-injective (suc i) zero (suc k) same = absurd (omega arith)
after-injective (suc i) (suc j) zero same = absurd (omega arith)
after-injective (suc i) (suc j) (suc k) same = ap suc (after-injective i j k (omega arith))

after-other : (i k : ℕ) → after i k ≢ i
after-other zero k same = omega arith
after-other (suc i) zero same = omega arith
after-other (suc i) (suc k) same = after-other i k (omega arith)

slice_get-remove : {X : Type 0} → (xs : List X) (i k : ℕ) → slice_get (remove xs i) k ≡ slice_get xs (after i k)
slice_get-remove [] zero k = refl
slice_get-remove [] (suc i) k = refl
slice_get-remove (x ∷ xs) zero k = refl
slice_get-remove (x ∷ xs) (suc i) zero = refl
slice_get-remove (x ∷ xs) (suc i) (suc k) = slice_get-remove xs i k

pub map-remove : {X Y : Type 0} (f : X → Y) → (xs : List X) (i : ℕ) → map f (remove xs i) ≡ remove (map f xs) i
map-remove f xs i =
    map-append f (take i xs) (drop (suc i) xs)
    ∙ ap (λ front. front ++ map f (drop (suc i) xs)) (sym (take-map f i xs))
    ∙ ap (λ rest. take i (map f xs) ++ rest) (sym (drop-map f (suc i) xs))

module _ {T : Type 0} where
  -- a run with a number that is not the one that changed, or none, keeps its list
  kept : (old new : Pool T) (run other : Option ℕ) → OthersStay old new run → ((n : ℕ) → other ≡ Some n → run ≡ Some n → ⊥) → list_of new other ≡ list_of old other
  kept old new run None stay apart = refl
  kept old new run (Some n) stay apart = stay (Some n) (λ same. apart n refl (sym same))

  fresh_apart : (old : Pool T) (run : Option ℕ) (n : ℕ) (list one : List T) → IsFresh old run list → list_of old (Some n) ≡ Some one → run ≡ Some n → ⊥
  fresh_apart old run n list one fresh live same =
      none-some one (sym (subst (λ (r : Option ℕ). IsFresh old r list) same fresh).1 ∙ live)

  pub AreHeld-nil : (pool : Pool T) → AreHeld pool []
  AreHeld-nil pool = record {
    live = λ k run list here. absurd (none-some (run, list) here);
    once = λ j k number one two here there. absurd (none-some (Some number, one) here);
  }

  list_of-slots : (old new : Pool T) (run : Option ℕ) → new.slots ≡ old.slots → list_of new run ≡ list_of old run
  list_of-slots old new None same = refl
  list_of-slots old new (Some n) same = ap (λ (slots : List (Slot T)). option_and_then (λ slot. slot.list) (slice_get slots n)) same

  -- only the slots count
  pub AreHeld-slots : (old new : Pool T) (held : List (Option ℕ × List T)) → new.slots ≡ old.slots → AreHeld old held → AreHeld new held
  AreHeld-slots old new held same are = record {
    live = λ k run list here. list_of-slots old new run same ∙ are.live k run list here;
    once = are.once;
  }

  -- a list was placed
  pub AreHeld-place : (old new : Pool T) (held : List (Option ℕ × List T)) (run : Option ℕ) (list : List T) → list_of new run ≡ Some list → IsFresh old run list → OthersStay old new run → AreHeld old held → AreHeld new (held ++ (run, list) ∷ [])
  AreHeld-place old new held run list placed fresh stay are =
      let apart : (k n : ℕ) (one : List T) → slice_get held k ≡ Some (Some n, one) → run ≡ Some n → ⊥ =
      λ k n one here same. fresh_apart old run n list one fresh (are.live k (Some n) one here) same in
      record {
        live = λ k other one here. elim (slice_get-push_cases held k (run, list) (other, one) here) [
          | inl new_one ↦ ap (list_of new) (sym (ap (λ p. p.0) new_one.1)) ∙ placed ∙ ap Some (ap (λ p. p.1) new_one.1)
          | inr stood ↦ kept old new run other stay (λ n is same. apart k n one (stood.1 ∙ ap (λ r. Some (r, one)) is) same) ∙ are.live k other one stood.1
        ];
        once = λ j k n one two here there. elim (slice_get-push_cases held j (run, list) (Some n, one) here) [
          | inl first ↦ elim (slice_get-push_cases held k (run, list) (Some n, two) there) [
            | inl second ↦ first.0 ∙ sym second.0
            | inr stood ↦ absurd (apart k n two stood.1 (ap (λ p. p.0) first.1))
          ]
          | inr stood ↦ elim (slice_get-push_cases held k (run, list) (Some n, two) there) [
            | inl second ↦ absurd (apart j n one stood.1 (ap (λ p. p.0) second.1))
            | inr also ↦ are.once j k n one two stood.1 also.1
          ]
        ];
      }

  -- a run was freed
  pub AreHeld-free : (old new : Pool T) (held : List (Option ℕ × List T)) (i : ℕ) (run : Option ℕ) (list : List T) → slice_get held i ≡ Some (run, list) → OthersStay old new run → AreHeld old held → AreHeld new (remove held i)
  AreHeld-free old new held i run list here stay are =
      record {
        live = λ k other one there. (
            let stood = sym (slice_get-remove held i k) ∙ there in
            kept old new run other stay (λ n is same. after-other i k (are.once (after i k) i n one list (stood ∙ ap (λ r. Some (r, one)) is) (here ∙ ap (λ r. Some (r, list)) same)))
            ∙ are.live (after i k) other one stood
            );
        once = λ j k n one two first second. after-injective i j k (are.once (after i j) (after i k) n one two (sym (slice_get-remove held i j) ∙ first) (sym (slice_get-remove held i k) ∙ second));
      }

  pub AreHeld-live : (pool : Pool T) (held : List (Option ℕ × List T)) (k : ℕ) (run : Option ℕ) (list : List T) → AreHeld pool held → slice_get held k ≡ Some (run, list) → IsLiveRun pool run
  AreHeld-live pool held k run list are here = ap (λ (o : Option (List T)). is_some o) (are.live k run list here)

  filled_from_room : (list : List T) → 0 < list_room list → list ≢ []
  unfolding room_of
  filled_from_room [] some empty = omega arith
  filled_from_room (x ∷ list) some empty = cc

  live_list : (o : Option (List T)) → is_some o ≡ true → (list : List T) × (o ≡ Some list)
  live_list None live = absurd (false≢true live)
  live_list (Some list) live = (list, refl)

  -- a list that is placed after one of the same room was freed does not make the vector longer
  pub size-replaced : (old freed ready new : Pool T) (run : Option ℕ) (list : List T) → IsLiveRun old run → ((was : List T) → list_of old run ≡ Some was → HaveOneRoom was list) → ((was : List T) → list_of old run ≡ Some was → GivesBack old freed was) → freed.size ≡ old.size → ready.slots ≡ freed.slots → ready.size ≡ freed.size → (0 < free_for ready list → Reuses ready new list) → new.size ≡ old.size
  size-replaced old freed ready new run list live room back size slots kept reuses =
      let was = live_list (list_of old run) live in
      let rooms = room was.0 was.1 in
      let given = (back was.0 was.1).given (filled_from_room was.0 rooms.0) in
      let same : free_for ready list ≡ free_for freed was.0 = ap (λ (all : List (Slot T)). count_by (is_free_of (list_room list)) all) slots ∙ ap (free_runs freed) (sym rooms.1) in
      (reuses (omega arith)).size ∙ kept ∙ size

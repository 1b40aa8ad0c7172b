-- What each call does to the lists of a hoard.
use Rattle.std.proofs.Common.{◌≡◌, ◌≢◌, ◌≤◌, ◌+◌, ℕ, suc, List, [], ◌∷◌, ◌++◌, length, map, set, slice_get, Option, Some, None, refl, sym, ap, ap₂, ◌∙◌, arith, subst}
use Rattle.std.specs.Prelude.{IsSome}
use Rattle.std.specs.Option.{unwrap_or, option_map}
use Rattle.std.proofs.lemmas.List.{map_push, same_from_push}
use Rattle.std.proofs.lemmas.Option.{none-some, same_Some}
use Rattle.lsys_region.specs.Rooms.{room_of, list_room}
use Rattle.lsys_region.specs.Pool.{Pool, list_of, IsLiveRun}
use Rattle.lsys_region.proofs.ListLemmas.{slice_get-push_new}
use Rattle.lsys_forest.specs.Shelves.{Hoard, Caller, Hand, Number, Past, run_at, run_list, shelf_of, AreOwned, IsOwner, IsListPlaced, IsFreed}
use Rattle.lsys_forest.specs.Slots.{change_run, run_before, run_after}
use Rattle.lsys_forest.specs.Stocks.{row_at, where_some, ComesTo, Clears, Restores, Inserts, DropsLast, TakesLastUp, PutsDown, Swaps}
use Rattle.lsys_forest.proofs.TableLemmas.{part_at, get_set_other, get_cleared}
use Rattle.lsys_forest.proofs.OwnerLemmas.{none_held, AreOwned-placed, Shows-placed, AreOwned-freed, Shows-freed, AreOwned-hand, AreOwned-push, AreOwned-pop, AreOwned-slots, Shows-slots, others_swapped, AreOwned-swapped, AreOwned-taken, AreOwned-put}

pub room_nil : (n : ℕ) → room_of 0 ≤ n
unfolding room_of
room_nil n = omega arith

-- the run of a node that lives
pub run_is : {X : Type 0} (o : Option X) (r run : Option ℕ) → Some run ≡ option_map (λ s. r) o → run ≡ r
run_is None r run e = absurd (none-some run (sym e))
run_is (Some s) r run e = same_Some run r e

module _ {T : Type 0} where
  pub shows_placed : (pool : Pool T) (run : Option ℕ) (list : List T) → list_of pool run ≡ Some list → run_list pool run ≡ list
  shows_placed pool run list is = ap (λ (o : Option (List T)). unwrap_or o []) is

  -- the list at a number
  pub row_is : (pool : Pool T) (now : List (Option ℕ)) (k : ℕ) → row_at (map (run_list pool) now) k ≡ run_list pool (run_at now k)
  row_is pool now k = part_at (run_list pool) now k None

  -- the last of the past lists is this one
  pub last_shown : (pool : Pool T) (past : List (Option ℕ)) (run : Option ℕ) (after : List (List T)) (list : List T) → map (run_list pool) (past ++ run ∷ []) ≡ after ++ list ∷ [] → (map (run_list pool) past ≡ after) × (run_list pool run ≡ list)
  last_shown pool past run after list is = same_from_push (map (run_list pool) past) after (run_list pool run) list (sym (map_push (run_list pool) past run) ∙ is)

  module _ (h0 h1 : Hoard T) where
    -- the lists of a hoard are as they were
    pub shelf_same : (now now' : List (Option ℕ)) (after : List (List T)) (here : List T) (spare places : ℕ) → map (run_list h1.pool) h1.past ≡ after → run_list h1.pool h1.hand ≡ here → h1.pool.spare ≡ spare → h1.past_places ≡ places → shelf_of h1 now' ≡ record { current = map (run_list h1.pool) now'; past = after; hand = here; spare = spare; past_places = places }
    shelf_same now now' after here spare places b h s p =
        ap₂ (λ (x : List (List T)) (y : List T). record { current = map (run_list h1.pool) now'; past = x; hand = y; spare = h1.pool.spare; past_places = h1.past_places }) b h
        ∙ ap₂ (λ x y. record { current = map (run_list h1.pool) now'; past = after; hand = here; spare = x; past_places = y }) s p

    -- the row that was set, and the others
    pub comes_to : (now now' : List (Option ℕ)) (k : ℕ) (list : List T) → run_list h1.pool (run_at now' k) ≡ list → ((j : ℕ) → j ≢ k → run_at now' j ≡ run_at now j) → ((j : ℕ) → run_list h1.pool (run_at now j) ≡ run_list h0.pool (run_at now j)) → ComesTo k list (shelf_of h0 now).current (shelf_of h1 now').current
    comes_to now now' k list here rest same = record {
      here = row_is h1.pool now' k ∙ here;
      others = λ j ne. row_is h1.pool now' j ∙ ap (run_list h1.pool) (rest j ne) ∙ same j ∙ sym (row_is h0.pool now j);
    }

    -- where each number's list shows as it did, so do all
    all_rows : (now : List (Option ℕ)) → ((k : ℕ) → run_list h1.pool (run_at now k) ≡ run_list h0.pool (run_at now k)) → map (run_list h1.pool) now ≡ map (run_list h0.pool) now
    all_rows [] same = refl
    all_rows (r ∷ now) same = ap₂ (λ (x : List T) (xs : List (List T)). x ∷ xs) (same 0) (all_rows now (λ k. same (suc k)))

    pub popped_live : (now past : List (Option ℕ)) (run : Option ℕ) → h0.past ≡ past ++ run ∷ [] → IsOwner h0 now → IsLiveRun h0.pool run
    popped_live now past run e owned = owned.live (Past (length past)) run (ap (λ p. slice_get p (length past)) e ∙ slice_get-push_new past run)

    popped : (now : List (Option ℕ)) (run : Option ℕ) → h0.past ≡ h1.past ++ run ∷ [] → IsOwner h0 now → AreOwned h0.pool now h1.past h0.hand (Some run)
    popped now run e owned = AreOwned-pop h0.pool now h1.past h0.hand run (subst (λ p. AreOwned h0.pool now p h0.hand None) e owned)

    -- the last of the past lists was freed
    pub drop_done : (now : List (Option ℕ)) (run : Option ℕ) → h0.past ≡ h1.past ++ run ∷ [] → h1.hand ≡ h0.hand → IsFreed h0.pool h1.pool run → h1.pool.spare ≡ h0.pool.spare → h1.past_places ≡ h0.past_places → IsOwner h0 now → IsOwner h1 now × DropsLast (shelf_of h0 now) (shelf_of h1 now)
    drop_done now run e hand free spare places owned =
        let first = popped now run e owned in
        let shows = Shows-freed h0.pool h1.pool now h1.past h0.hand run free.others first in (
          subst (λ x. AreOwned h1.pool now h1.past x None) (sym hand) (AreOwned-freed h0.pool h1.pool now h1.past h0.hand run free.gone free.others first),
          λ before list last. (
              let lists = last_shown h0.pool h1.past run before list (ap (map (run_list h0.pool)) (sym e) ∙ last) in
              shelf_same now now before (run_list h0.pool h0.hand) h0.pool.spare h0.past_places (shows.after ∙ lists.0) (ap (run_list h1.pool) hand ∙ shows.here) spare places
              ∙ ap (λ (x : List (List T)). record { current = x; past = before; hand = run_list h0.pool h0.hand; spare = h0.pool.spare; past_places = h0.past_places }) (all_rows now shows.rows)
              ),
        )

    -- the last of the past lists came in hand, and the one that was there was freed
    pub take_up_done : (now : List (Option ℕ)) (run : Option ℕ) → h0.past ≡ h1.past ++ run ∷ [] → h1.hand ≡ run → IsFreed h0.pool h1.pool h0.hand → h1.pool.spare ≡ h0.pool.spare → h1.past_places ≡ h0.past_places → IsOwner h0 now → IsOwner h1 now × TakesLastUp (shelf_of h0 now) (shelf_of h1 now)
    take_up_done now run e hand free spare places owned =
        let first = AreOwned-hand h0.pool now h1.past h0.hand run (popped now run e owned) in
        let shows = Shows-freed h0.pool h1.pool now h1.past run h0.hand free.others first in (
          subst (λ x. AreOwned h1.pool now h1.past x None) (sym hand) (AreOwned-freed h0.pool h1.pool now h1.past run h0.hand free.gone free.others first),
          λ before list last. (
              let lists = last_shown h0.pool h1.past run before list (ap (map (run_list h0.pool)) (sym e) ∙ last) in
              shelf_same now now before list h0.pool.spare h0.past_places (shows.after ∙ lists.0) (ap (run_list h1.pool) hand ∙ shows.here ∙ lists.1) spare places
              ∙ ap (λ (x : List (List T)). record { current = x; past = before; hand = list; spare = h0.pool.spare; past_places = h0.past_places }) (all_rows now shows.rows)
              ),
        )

    -- the list in hand was freed
    pub put_down_live : (pool : Pool T) (now : List (Option ℕ)) (run : Option ℕ) → IsListPlaced h0.pool pool run [] → IsOwner h0 now → IsLiveRun pool h0.hand
    put_down_live pool now run put owned =
        (AreOwned-placed h0.pool pool now h0.past h0.hand run [] put.fresh put.placed put.others owned).live Hand h0.hand refl

    pub put_down_done : (pool : Pool T) (now : List (Option ℕ)) (run : Option ℕ) → IsListPlaced h0.pool pool run [] → IsFreed pool h1.pool h0.hand → h1.past ≡ h0.past → h1.hand ≡ run → h0.pool.spare ≤ h1.pool.spare → h1.past_places ≡ h0.past_places → IsOwner h0 now → IsOwner h1 now × PutsDown (shelf_of h0 now) (shelf_of h1 now)
    put_down_done pool now run put free past hand spare places owned =
        let first = AreOwned-placed h0.pool pool now h0.past h0.hand run [] put.fresh put.placed put.others owned in
        let same = Shows-placed h0.pool pool now h0.past h0.hand run [] put.fresh put.others owned in
        let second = AreOwned-hand pool now h0.past h0.hand run first in
        let after = Shows-freed pool h1.pool now h0.past run h0.hand free.others second in (
          subst (λ x. AreOwned h1.pool now x h1.hand None) (sym past) (subst (λ x. AreOwned h1.pool now h0.past x None) (sym hand) (AreOwned-freed pool h1.pool now h0.past run h0.hand free.gone free.others second)),
          (
            shelf_same now now (map (run_list h0.pool) h0.past) [] h1.pool.spare h0.past_places (ap (map (run_list h1.pool)) past ∙ after.after ∙ same.after) (ap (run_list h1.pool) hand ∙ after.here ∙ shows_placed pool run [] put.placed) refl places
                ∙ ap (λ (x : List (List T)). record { current = x; past = map (run_list h0.pool) h0.past; hand = []; spare = h1.pool.spare; past_places = h0.past_places }) (all_rows now (λ k. after.rows k ∙ same.rows k)),
            spare,
          ),
        )

    -- the last of the past lists went back to a number, if a node is there
    pub restore_live : {X : Type 0} (there : Option X) (now now' : List (Option ℕ)) (run before : Option ℕ) (k : ℕ) → before ≡ run_before there (run_at now k) run → run_at now' k ≡ run_after there run → now' ≡ change_run there now k run → h0.past ≡ h1.past ++ run ∷ [] → IsOwner h0 now → IsLiveRun h0.pool before
    restore_live there now now' run before k was is changed e owned =
        (AreOwned-swapped there h0.pool now now' h1.past h0.hand run before k was is changed (popped now run e owned)).live Caller before refl

    pub restore_done : {X : Type 0} (there : Option X) (now now' : List (Option ℕ)) (run before : Option ℕ) (k : ℕ) → before ≡ run_before there (run_at now k) run → run_at now' k ≡ run_after there run → now' ≡ change_run there now k run → h0.past ≡ h1.past ++ run ∷ [] → h1.hand ≡ h0.hand → IsFreed h0.pool h1.pool before → h1.pool.spare ≡ h0.pool.spare → h1.past_places ≡ h0.past_places → IsOwner h0 now → IsOwner h1 now' × Restores there k (shelf_of h0 now) (shelf_of h1 now')
    restore_done there now now' run before k was is changed e hand free spare places owned =
        let second = AreOwned-swapped there h0.pool now now' h1.past h0.hand run before k was is changed (popped now run e owned) in
        let shows = Shows-freed h0.pool h1.pool now' h1.past h0.hand before free.others second in (
          subst (λ x. AreOwned h1.pool now' h1.past x None) (sym hand) (AreOwned-freed h0.pool h1.pool now' h1.past h0.hand before free.gone free.others second),
          λ old list last. (
              let lists = last_shown h0.pool h1.past run old list (ap (map (run_list h0.pool)) (sym e) ∙ last) in (
                record {
                  here = row_is h1.pool now' k ∙ shows.rows k ∙ ap (run_list h0.pool) is ∙ there_shown there run list lists.1;
                  others = λ j ne. row_is h1.pool now' j ∙ shows.rows j ∙ ap (run_list h0.pool) (others_swapped there now now' run k j changed ne) ∙ sym (row_is h0.pool now j);
                },
                shelf_same now now' old (run_list h0.pool h0.hand) h0.pool.spare h0.past_places (shows.after ∙ lists.0) (ap (run_list h1.pool) hand ∙ shows.here) spare places,
              )
              ),
        )
      where
        there_shown : {X : Type 0} (there : Option X) (run : Option ℕ) (list : List T) → run_list h0.pool run ≡ list → run_list h0.pool (run_after there run) ≡ where_some there list
        there_shown None run list is = refl
        there_shown (Some x) run list is = is

    -- a list came to a number of a node that lives, and the one that stood there after the past ones
    pub swap_done : {X : Type 0} (there : Option X) (now now' : List (Option ℕ)) (run before : Option ℕ) (list : List T) (k : ℕ) → IsSome there → IsListPlaced h0.pool h1.pool run list → before ≡ run_before there (run_at now k) run → run_at now' k ≡ run_after there run → now' ≡ change_run there now k run → h1.past ≡ h0.past ++ before ∷ [] → h1.hand ≡ h0.hand → h0.pool.spare ≤ h1.pool.spare + list_room list → h0.past_places ≤ h1.past_places → IsOwner h0 now → IsOwner h1 now' × Swaps k list (shelf_of h0 now) (shelf_of h1 now')
    swap_done None now now' run before list k lives put was is changed e hand spare places owned = absurd (grind (arith, lives))
    swap_done (Some x) now now' run before list k lives put was is changed e hand spare places owned =
        let first = AreOwned-placed h0.pool h1.pool now h0.past h0.hand run list put.fresh put.placed put.others owned in
        let same = Shows-placed h0.pool h1.pool now h0.past h0.hand run list put.fresh put.others owned in
        let second = AreOwned-swapped (Some x) h1.pool now now' h0.past h0.hand run before k was is changed first in
        let third = AreOwned-push h1.pool now' h0.past h0.hand before second in
        let stood : run_list h1.pool before ≡ row_at (map (run_list h0.pool) now) k = ap (run_list h1.pool) was ∙ same.rows k ∙ sym (row_is h0.pool now k) in (
          subst (λ y. AreOwned h1.pool now' y h1.hand None) (sym e) (subst (λ y. AreOwned h1.pool now' (h0.past ++ before ∷ []) y None) (sym hand) third),
          record {
            comes = comes_to now now' k list (ap (run_list h1.pool) is ∙ shows_placed h1.pool run list put.placed) (λ j ne. others_swapped (Some x) now now' run k j changed ne) same.rows;
            swapped =
                shelf_same now now' (map (run_list h0.pool) h0.past ++ row_at (map (run_list h0.pool) now) k ∷ []) (run_list h0.pool h0.hand) h1.pool.spare h1.past_places
                (ap (map (run_list h1.pool)) e ∙ map_push (run_list h1.pool) h0.past before ∙ ap₂ (λ (xs : List (List T)) (y : List T). xs ++ y ∷ []) same.after stood) (ap (run_list h1.pool) hand ∙ same.here) refl refl;
            spare = spare;
            places = places;
          },
        )

    -- a list came to a number where no node was
    pub add_done : (now now' : List (Option ℕ)) (run : Option ℕ) (list : List T) (k : ℕ) → run_at now k ≡ None → run_at now' k ≡ run → ((j : ℕ) → j ≢ k → run_at now' j ≡ run_at now j) → IsListPlaced h0.pool h1.pool run list → h1.past ≡ h0.past → h1.hand ≡ h0.hand → h0.pool.spare ≤ h1.pool.spare + list_room list → h1.past_places ≡ h0.past_places → IsOwner h0 now → IsOwner h1 now' × Inserts k list (shelf_of h0 now) (shelf_of h1 now')
    add_done now now' run list k none is rest put e hand spare places owned =
        let first = AreOwned-placed h0.pool h1.pool now h0.past h0.hand run list put.fresh put.placed put.others owned in
        let same = Shows-placed h0.pool h1.pool now h0.past h0.hand run list put.fresh put.others owned in
        let second = AreOwned-put h1.pool now now' h0.past h0.hand run k none is rest first in (
          subst (λ y. AreOwned h1.pool now' y h1.hand None) (sym e) (subst (λ y. AreOwned h1.pool now' h0.past y None) (sym hand) second),
          record {
            comes = comes_to now now' k list (ap (run_list h1.pool) is ∙ shows_placed h1.pool run list put.placed) rest same.rows;
            rest = shelf_same now now' (map (run_list h0.pool) h0.past) (run_list h0.pool h0.hand) h1.pool.spare h0.past_places (ap (map (run_list h1.pool)) e ∙ same.after) (ap (run_list h1.pool) hand ∙ same.here) refl places;
            spare = spare;
          },
        )

    -- the list at a number was freed
    pub clear_live : (now : List (Option ℕ)) (run : Option ℕ) (k : ℕ) → run ≡ run_at now k → IsOwner h0 now → IsLiveRun h0.pool run
    clear_live now run k was owned = owned.live (Number k) run (ap Some (sym was))

    pub clear_done : (now now' : List (Option ℕ)) (run : Option ℕ) (k : ℕ) → run ≡ run_at now k → now' ≡ set now k None → IsFreed h0.pool h1.pool run → h1.past ≡ h0.past → h1.hand ≡ h0.hand → h1.pool.spare ≡ h0.pool.spare → h1.past_places ≡ h0.past_places → IsOwner h0 now → IsOwner h1 now' × Clears k (shelf_of h0 now) (shelf_of h1 now')
    clear_done now now' run k was changed free e hand spare places owned =
        let first = AreOwned-taken h0.pool now now' h0.past h0.hand run k was changed owned in
        let shows = Shows-freed h0.pool h1.pool now' h0.past h0.hand run free.others first in
        let second = AreOwned-freed h0.pool h1.pool now' h0.past h0.hand run free.gone free.others first in (
          subst (λ y. AreOwned h1.pool now' y h1.hand None) (sym e) (subst (λ y. AreOwned h1.pool now' h0.past y None) (sym hand) second),
          record {
            comes = record {
              here = row_is h1.pool now' k ∙ ap (run_list h1.pool) (ap (λ n. run_at n k) changed ∙ get_cleared now k None);
              others = λ j ne. row_is h1.pool now' j ∙ shows.rows j ∙ ap (run_list h0.pool) (ap (λ n. run_at n j) changed ∙ get_set_other now k j None None ne) ∙ sym (row_is h0.pool now j);
            };
            cleared = shelf_same now now' (map (run_list h0.pool) h0.past) (run_list h0.pool h0.hand) h0.pool.spare h0.past_places (ap (map (run_list h1.pool)) e ∙ shows.after) (ap (run_list h1.pool) hand ∙ shows.here) spare places;
          },
        )

    -- the list at a number went after the past ones
    pub push_done : (now now' : List (Option ℕ)) (run : Option ℕ) (k : ℕ) → run ≡ run_at now k → now' ≡ set now k None → h1.pool ≡ h0.pool → h1.past ≡ h0.past ++ run ∷ [] → h1.hand ≡ h0.hand → h0.past_places ≤ h1.past_places → IsOwner h0 now → IsOwner h1 now' × Swaps k [] (shelf_of h0 now) (shelf_of h1 now')
    push_done now now' run k was changed pool e hand places owned =
        let first = AreOwned-push h0.pool now' h0.past h0.hand run (AreOwned-taken h0.pool now now' h0.past h0.hand run k was changed owned) in (
          subst (λ x. AreOwned x now' h1.past h1.hand None) (sym pool) (subst (λ y. AreOwned h0.pool now' y h1.hand None) (sym e) (subst (λ y. AreOwned h0.pool now' (h0.past ++ run ∷ []) y None) (sym hand) first)),
          record {
            comes = record {
              here = row_is h1.pool now' k ∙ ap (run_list h1.pool) (ap (λ n. run_at n k) changed ∙ get_cleared now k None);
              others = λ j ne. row_is h1.pool now' j ∙ ap (λ (x : Pool T). run_list x (run_at now' j)) pool ∙ ap (run_list h0.pool) (ap (λ n. run_at n j) changed ∙ get_set_other now k j None None ne) ∙ sym (row_is h0.pool now j);
            };
            swapped =
                shelf_same now now' (map (run_list h0.pool) h0.past ++ row_at (map (run_list h0.pool) now) k ∷ []) (run_list h0.pool h0.hand) h1.pool.spare h1.past_places
                (ap₂ (λ (x : Pool T) y. map (run_list x) y) pool e ∙ map_push (run_list h0.pool) h0.past run ∙ ap (λ (y : List T). map (run_list h0.pool) h0.past ++ y ∷ []) (ap (run_list h0.pool) was ∙ sym (row_is h0.pool now k)))
                (ap₂ (λ (x : Pool T) y. run_list x y) pool hand) refl refl;
            spare = let same = ap (λ (x : Pool T). x.spare) pool in omega (arith, same);
            places = places;
          },
        )

  -- more room was made
  pub record Stays (h0 h1 : Hoard T) (now : List (Option ℕ)) : Type 0 where
    pub owned : IsOwner h1 now
    pub current : map (run_list h1.pool) now ≡ map (run_list h0.pool) now
    pub after : map (run_list h1.pool) h1.past ≡ map (run_list h0.pool) h0.past
    pub here : run_list h1.pool h1.hand ≡ run_list h0.pool h0.hand

  pub reserve_done : (h0 h1 : Hoard T) (now : List (Option ℕ)) → h1 ≡ record h0 { pool = h1.pool; past_places = h1.past_places } → h1.pool ≡ record h0.pool { spare = h1.pool.spare } → IsOwner h0 now → Stays h0 h1 now
  reserve_done h0 h1 now kept pool owned =
      let past = ap (λ (x : Hoard T). x.past) kept in
      let hand = ap (λ (x : Hoard T). x.hand) kept in
      let slots = ap (λ (x : Pool T). x.slots) pool in
      let shows = Shows-slots h0.pool h1.pool now h0.past h0.hand slots in
      record {
        owned = subst (λ x. AreOwned h1.pool now x h1.hand None) (sym past) (subst (λ x. AreOwned h1.pool now h0.past x None) (sym hand) (AreOwned-slots h0.pool h1.pool now h0.past h0.hand slots owned));
        current = all_rows h0 h1 now shows.rows;
        after = ap (map (run_list h1.pool)) past ∙ shows.after;
        here = ap (run_list h1.pool) hand ∙ shows.here;
      }

  -- the list of a node that lives
  pub run_live : {X : Type 0} (h : Hoard T) (now : List (Option ℕ)) (o : Option X) (k : ℕ) (run : Option ℕ) → Some run ≡ option_map (λ s. run_at now k) o → IsOwner h now → IsLiveRun h.pool run
  run_live h now o k run e owned = owned.live (Number k) run (ap Some (sym (run_is o (run_at now k) run e)))

  pub run_read : {X : Type 0} (h : Hoard T) (now : List (Option ℕ)) (o : Option X) (k : ℕ) (run : Option ℕ) (list : List T) → Some run ≡ option_map (λ s. run_at now k) o → list_of h.pool run ≡ Some list → list ≡ row_at (map (run_list h.pool) now) k
  run_read h now o k run list e is = sym (row_is h.pool now k ∙ ap (run_list h.pool) (sym (run_is o (run_at now k) run e)) ∙ shows_placed h.pool run list is)

  -- nothing stood at a number that was cleared
  pub clear_none : (h : Hoard T) (now now' : List (Option ℕ)) (k : ℕ) → None ≡ run_at now k → now' ≡ set now k None → IsOwner h now → IsOwner h now' × Clears k (shelf_of h now) (shelf_of h now')
  clear_none h now now' k was changed owned = (
    none_held h.pool now' h.past h.hand (AreOwned-taken h.pool now now' h.past h.hand None k was changed owned),
    record {
      comes = record {
        here = row_is h.pool now' k ∙ ap (run_list h.pool) (ap (λ n. run_at n k) changed ∙ get_cleared now k None);
        others = λ j ne. row_is h.pool now' j ∙ ap (run_list h.pool) (ap (λ n. run_at n j) changed ∙ get_set_other now k j None None ne) ∙ sym (row_is h.pool now j);
      };
      cleared = refl;
    },
  )

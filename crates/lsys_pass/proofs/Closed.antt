-- A pass at its end.
use Rattle.std.proofs.Common.{◌≡◌, ◌+◌, ◌<◌, ◌≤◌, ◌^◌, ℕ, Bool, true, List, [], length, Some, refl, sym, ap, ◌∙◌, subst, arith, slice_get}
use Rattle.std.specs.Prelude.{◌-◌, IsSome}
use Rattle.lsys_pass.proofs.Before.{answer_lives}
use Rattle.lsys_forest.proofs.RowLemmas.{level_apart}
use Rattle.std.specs.Option.{option_and_then}
use Rattle.lsys_spec.specs.Rows.{In}
use Rattle.lsys_spec.specs.Systems.{System}
use Rattle.lsys_spec.specs.Levels.{level_balanced}
use Rattle.lsys_spec.specs.Questions.{questions, need}
use Rattle.lsys_laws.proofs.UpTo.{level_count}
use Rattle.lsys_level.specs.Spots.{Spotted, level_by}
use Rattle.lsys_walks.specs.Stores.{Store}
use Rattle.lsys_match.specs.Kept.{Kept}
use Rattle.lsys_match.specs.Derivations.{IsCount}
use Rattle.lsys_match.specs.KeptAnswers.{StaysMade}
use Rattle.lsys_reads.specs.Relations.{Relations}
use Rattle.lsys_forest.specs.Nodes.{Nodes}
use Rattle.lsys_forest.specs.Changes.{Change, undone}
use Rattle.lsys_forest.specs.Answers.{answer_of, answers, kept_by, LiveApart, FreesAllBut}
use Rattle.lsys_forest.specs.Groves.{Grove, IsLive, IsRooted, Reached, now_of, rest_of, changes_in, live_nodes, kept_in}
use Rattle.lsys_forest.specs.Rows.{level_nodes, level_spots, place_of_node}
use Rattle.lsys_forest.proofs.DepthLemmas.{fits}
use Rattle.lsys_forest.proofs.SoundLemmas.{AreSound-now, AreSound-rest, AreSound-then}
use Rattle.lsys_forest.proofs.StockLemmas.{stored_of}
use Rattle.lsys_forest.proofs.WalkLemmas.{get_In}
use Rattle.lsys_reads.specs.declared.seat.Seat.{Seat}
use Rattle.lsys_reads.specs.Neighbours.{neighbours_in, neighbours_on, IsOnLevel}
use Rattle.lsys_reads.specs.Seats.{neighbours_at, SameMarks, KeepsSeats}
use Rattle.lsys_reads.specs.Names.{run_in, holds}
use Rattle.lsys_reads.specs.Levels.{answer_at}
use Rattle.lsys_reads.specs.Meant.{levels_meant}
use Rattle.lsys_pass.specs.declared.state.PassState.TheVariants.{Done}
use Rattle.lsys_pass.specs.declared.work.Work.{Work}
use Rattle.lsys_pass.specs.declared.sizes.Sizes.{Sizes}
use Rattle.lsys_pass.specs.Sizes.{HaveSizes, HaveSizesTo, SizesAt}
use Rattle.lsys_pass.proofs.Sized.{sized_stays, all_sized}
use Rattle.lsys_pass.specs.Read.{SettlesReads}
use Rattle.lsys_pass.specs.Rests.{IsResting}
use Rattle.lsys_pass.specs.Stages.{IsStored, IsDone}
use Rattle.lsys_pass.specs.Passes as P
use Rattle.lsys_pass.specs.Passes.{PassView, stage_of, now_in, HoldsAt, AllHaveSeats, FrontAt, IsPass}
use Rattle.lsys_pass.proofs.Keepers.{stay_kept, freed_all, only_node, all_made}
use Rattle.lsys_pass.specs.Works.{IsCleared}
use Rattle.lsys_pass.proofs.Backing.{resting, is_resting}
use Rattle.lsys_pass.proofs.Asking.{Stands, stands, there_at}
use Rattle.lsys_pass.proofs.Closing.{on_reached, lived, closed_sound, closed_nodes, closed_spots, closed_reads, closed_rests, closed_neighbours}
use Rattle.lsys_pass.proofs.Outcomes.{one_place}
use Rattle.lsys_pass.proofs.Totals.{answers_count, dropped_few, renewed_needed, new_count, new_nodes, has_answer, passing_apart, all}

-- 1. the forest is committed

pub record Commits (f f' : Grove Kept) (st st' : Store) : Type 0 where
  pub stay : (k : ℕ) → Reached (now_of f) f.root k → now_of f' k ≡ now_of f k
  pub only : (k : ℕ) → IsLive f' k → Reached (now_of f) f.root k
  pub rest : changes_in f' ≡ []
  pub root : f'.root ≡ f.root
  pub live : live_nodes f' ≤ live_nodes f + 0
  pub store : FreesAllBut run_in holds (kept_in f) (kept_by (now_of f')) st st'
  pub still : LiveApart run_in holds st' (kept_in f')

module _ (v : PassView) (h : IsPass v) (state : v.state ≡ Done) where
  pub done : IsDone (stage_of v)
  done = subst (HoldsAt (stage_of v)) state h.holds

  sound : IsRooted v.forest.root (changes_in v.forest) (now_in v)
  sound = AreSound-now v.forest.root (changes_in v.forest) (now_in v) h.stored.sound

  was_sound : IsRooted v.forest.root [] (P.rest_in v)
  was_sound = AreSound-then v.forest.root (changes_in v.forest) (now_in v) h.stored.sound

  -- how many answers there are
  pub total : length (questions v.next (levels_meant v.next v.limit)) + length v.dropped ≡ v.answers + v.born
  total = let a = answers_count (stage_of v) done (changes_in v.forest) sound was_sound in let c = h.counted in omega (arith, a, c)

  pub few_dropped : length v.dropped ≤ v.answers
  few_dropped = let a = dropped_few (stage_of v) done (changes_in v.forest) sound was_sound in let c = h.counted in omega (arith, a, c)

  pub few_questions : length (questions v.next (levels_meant v.next v.limit)) < 2 ^ 32
  few_questions =
      let most = fits (new_nodes (stage_of v) done (changes_in v.forest) sound was_sound all) v.forest.stock.slots
      (passing_apart v.next v.limit (now_in v) v.forest.root v.store (changes_in v.forest) sound done.spelled done.is done.levels done.answered all)
      (λ k i. (
      let a = has_answer v.next v.limit (now_in v) v.forest.root v.store (changes_in v.forest) sound done.spelled done.is done.levels done.answered k i in
      let n = answer_lives (now_in v) k a.0 a.1 in
      let s = stored_of v.forest.stock.slots v.forest.stock.params v.forest.stock.kids k n.0 n.1 in
      subst IsSome (sym s.1) refl
      )) in
      let c = new_count (stage_of v) done (changes_in v.forest) sound was_sound in
      let f = h.few in
      omega (arith, most, c, f)

  pub asked_count : length v.renewed ≡ need (questions v.system (levels_meant v.system v.limit)) (questions v.next (levels_meant v.next v.limit))
  asked_count = renewed_needed (stage_of v) done (changes_in v.forest) sound was_sound

  module _ (f' : Grove Kept) (st' : Store) (c : Commits v.forest f' v.store st') where
    abbrev m' : Nodes Kept
    m' = now_of f'

    sound' : IsRooted v.forest.root [] m'
    sound' = closed_sound (now_in v) m' v.forest.root (changes_in v.forest) sound c.stay c.only

    sound_there : IsRooted f'.root (changes_in f') m'
    sound_there = subst (λ r. IsRooted r (changes_in f') m') (sym c.root) (subst (λ (cs : List (Change Kept)). IsRooted v.forest.root cs m') (sym c.rest) sound')

    nodes_there : (u : ℕ) → level_nodes m' f'.root u ≡ level_nodes (now_in v) v.forest.root u
    nodes_there u = ap (λ r. level_nodes m' r u) c.root ∙ closed_nodes (now_in v) m' v.forest.root (changes_in v.forest) sound c.stay c.only u

    spots_there : (u : ℕ) → level_spots m' f'.root u ≡ level_spots (now_in v) v.forest.root u
    spots_there u = ap (λ r. level_spots m' r u) c.root ∙ closed_spots (now_in v) m' v.forest.root (changes_in v.forest) sound c.stay c.only u

    stands_there : (u k : ℕ) → u ≤ v.next.depth → In k (level_nodes (now_in v) v.forest.root u) → Stands f' u k
    stands_there u k l on =
        stands f' u k sound_there (let s = done.small in omega (arith, l, s))
        (λ w le. ap (λ (r : List Spotted). level_balanced 0 (level_by (λ tag. []) r)) (spots_there w) ∙ done.levels.balanced w (let n = level_count v.next v.limit v.next.depth (levels_meant v.next v.limit) done.spelled done.is in omega (arith, n, l, le)))
        (subst (In k) (sym (nodes_there u)) on)

    pub moved_levels : (k : ℕ) → In k v.moved → IsOnLevel f' k
    moved_levels k i = let u = done.seats.moved_are k i in (stands_there u.0 k u.1 u.2).at_spot

    stays : (k : ℕ) (a : Kept) → answer_at m' k ≡ Some a → StaysMade v.store st' a
    stays k a e =
        stay_kept m' (kept_in v.forest) v.store st'
        (λ j b w. (
        let n = answer_lives m' j b w in
        all_made (now_in v) (changes_in v.forest) v.forest.root v.store h.stored j b (sym (ap (option_and_then answer_of) (c.stay j (c.only j (subst IsSome (sym n.1) refl)))) ∙ w)
        )) c.store k a e

    stored : IsStored m' (changes_in f') f'.root st'
    stored = subst (λ r. IsStored m' (changes_in f') r st') (sym c.root) (subst (λ (cs : List (Change Kept)). IsStored m' cs v.forest.root st') (sym c.rest) (record {
      sound = AreSound-rest v.forest.root m' sound';
      made = λ k a e. let n = only_node m' k a e in (stays n.0 a n.1).made;
      once = λ k i a b r e g ha hb. still.once k i a b r e g ha hb;
      freed = freed_all (kept_in v.forest) (kept_by m') v.store st' c.store h.stored.freed;
    }))
      where
        still : LiveApart run_in holds st' (answers m' [])
        still = subst (λ (cs : List (Change Kept)). LiveApart run_in holds st' (answers m' cs)) c.rest c.still

    -- a node that moved is seated as it stands
    neighbours_there : (u p k : ℕ) → u ≤ v.next.depth → slice_get (level_nodes (now_in v) v.forest.root u) p ≡ Some k → neighbours_in f' k ≡ neighbours_on (now_in v) (level_nodes (now_in v) v.forest.root u) p
    neighbours_there u p k l e =
        let on = get_In (level_nodes (now_in v) v.forest.root u) p k e in
        let at = stands_there u k l on in
        let mine = there_at f' u k at in
        let here : slice_get (level_nodes m' f'.root u) p ≡ Some k = ap (λ (xs : List ℕ). slice_get xs p) (nodes_there u) ∙ e in
        let same = one_place (level_nodes m' f'.root u) (place_of_node f' k) p k (level_apart f'.root (changes_in f') m' sound_there u) mine here in
        ap (λ w. neighbours_on m' (level_nodes m' f'.root w) (place_of_node f' k)) at.level_is
        ∙ ap (neighbours_on m' (level_nodes m' f'.root u)) same ∙ ap (λ r. neighbours_on m' (level_nodes m' r u) p) c.root
        ∙ closed_neighbours (now_in v) m' v.forest.root (changes_in v.forest) sound c.stay c.only u p

    pub closed_pass : (rd' : Relations) (listed' : Bool) (seats' : List Seat) (z : Sizes) (sys : System) (w : Work) (answers' : ℕ) → sys ≡ v.next
        → listed' ≡ v.listed → (v.listed ≡ true → SettlesReads v.reads rd' v.renewed v.dropped) → rd'.pending ≡ []
        → ((k : ℕ) → In k v.moved → neighbours_at seats' k ≡ neighbours_in f' k) → ((k : ℕ) → (In k v.moved → ⊥) → neighbours_at seats' k ≡ neighbours_at v.seats k) → SameMarks v.seats seats' → KeepsSeats v.seats seats'
        → answers' ≡ v.answers - length v.dropped + v.born → IsCleared w → z.rest.items ≡ v.made → z.made.items ≡ [] → IsPass (resting f' st' rd' listed' seats' z sys v.limit w answers')
    closed_pass rd' listed' seats' z sys w answers' e same_listed settled quiet seated others marks keeps count clear sizes none =
        is_resting f' st' rd' listed' seats' z sys v.limit w answers' stored (let f = h.few in let l = c.live in omega (arith, f, l)) (λ k. marks k ∙ h.unmarked k)
        (count ∙ counts ∙ ap (λ (z : System). length (questions z (levels_meant z v.limit))) (sym e))
        (subst (λ (z : System). IsResting listed' z v.limit (rest_of f') f'.root st' rd' seats') (sym e)
        (subst (λ r. IsResting listed' v.next v.limit (rest_of f') r st' rd' seats') (sym c.root)
        (subst (λ (m : Nodes Kept). IsResting listed' v.next v.limit m v.forest.root st' rd' seats') (sym (ap (λ (cs : List (Change Kept)). undone cs m') c.rest)) rests)))
        c.rest quiet clear
        (subst (HaveSizes (rest_of f') f'.root) (sym sizes) (subst (λ r. HaveSizes (rest_of f') r v.made) (sym c.root) (subst (λ (m : Nodes Kept). HaveSizes m v.forest.root v.made) (sym (ap (λ (cs : List (Change Kept)). undone cs m') c.rest)) sized_all))) none
        (subst (λ (m : Nodes Kept). AllHaveSeats m seats') (sym (ap (λ (cs : List (Change Kept)). undone cs m') c.rest)) have_seats)
      where
        room_at : AllHaveSeats (now_in v) v.seats
        room_at = subst (FrontAt v) state h.front

        have_seats : AllHaveSeats m' seats'
        have_seats k n e = keeps k (room_at k n (lived (now_in v) m' v.forest.root (changes_in v.forest) sound c.stay c.only k n e))

        made_at : HaveSizesTo (now_in v) v.forest.root v.made v.next.depth
        made_at = subst (SizesAt (now_in v) v.forest.root v.next.depth v.made) state h.made_sized

        level_long : length (levels_meant v.next v.limit) ≡ v.next.depth + 1
        level_long = level_count v.next v.limit v.next.depth (levels_meant v.next v.limit) done.spelled done.is

        sized_all : HaveSizes m' v.forest.root v.made
        sized_all =
            sized_stays (now_in v) m' v.forest.root v.made (closed_nodes (now_in v) m' v.forest.root (changes_in v.forest) sound c.stay c.only)
            (λ t k i. c.stay k (on_reached (now_in v) v.forest.root t k i))
            (all_sized (now_in v) v.forest.root v.made v.next.depth made_at (ap (level_nodes (now_in v) v.forest.root) (sym level_long) ∙ done.ends) done.last)

        counts : v.answers - length v.dropped + v.born ≡ length (questions v.next (levels_meant v.next v.limit))
        counts = let a = total in let b = few_dropped in omega (arith, a, b)

        rests : IsResting listed' v.next v.limit m' v.forest.root st' rd' seats'
        rests =
            closed_rests (stage_of v) done m' st' rd' seats' (changes_in v.forest) sound c.stay c.only stays
            (λ known. (let here = sym same_listed ∙ known in closed_reads (stage_of v) done m' st' rd' (settled here) c.stay c.only stays here))
            (λ t p k l i m. seated k m ∙ neighbours_there t p k l i) others

  -- what is counted, as the other view of the pass tells it
  pub closed_counts : (w : PassView) (asked count : ℕ) → v ≡ w → asked ≡ length v.renewed → count ≡ v.answers - length v.dropped + v.born
      → IsCount (questions w.system (levels_meant w.system w.limit)) (questions w.next (levels_meant w.next w.limit)) (record { asked = asked; questions = count })
  closed_counts w asked count e a q =
      subst (λ (z : PassView). IsCount (questions z.system (levels_meant z.system z.limit)) (questions z.next (levels_meant z.next z.limit)) (record { asked = asked; questions = count })) e (record {
        asked = a ∙ asked_count;
        questions = q ∙ (let b = total in let f = few_dropped in omega (arith, b, f));
      })

  pub fits_count : (gone : ℕ) → gone ≡ length v.dropped → v.answers - gone + v.born < 2 ^ 64
  fits_count gone e = let b = total in let f = few_dropped in let n = few_questions in omega (arith, b, f, n, e)

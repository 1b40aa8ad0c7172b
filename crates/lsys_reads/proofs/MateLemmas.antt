-- The mates of nodes, and their children.
use Rattle.std.proofs.Common.{◌≡◌, ℕ, List, Some, refl, sym, ap, ◌∙◌, subst, inl, inr}
use Rattle.std.proofs.lemmas.Bool.{cases_eq}
use Rattle.std.specs.Prelude.{IsSome, option_map, Result, Ok, Err, OnOk}
use Rattle.std.proofs.lemmas.Option.{none-some, same_Some}
use Rattle.lsys_spec.specs.Rows.{In}
use Rattle.lsys_spec.specs.Levels as L
use Rattle.lsys_level.specs.Spots.{Push, Pop, Module, Spotted, spots_at, spotted_at, IsMate}
use Rattle.lsys_forest.specs.Groves.{Grove, IsLive, IsRooted, changes_in, now_of}
use Rattle.lsys_forest.specs.Rows.{complete_levels, kids_in, level_of_node, place_of_node}
use Rattle.lsys_forest.proofs.RowLemmas.{level_depth}
use Rattle.lsys_reads.specs.Neighbours.{IsOnLevel, level_around}
use Rattle.lsys_reads.specs.Seats.{neighbour_told}
use Rattle.lsys_reads.specs.Looks.{LooksAtMate, LooksInto}
use Rattle.lsys_reads.proofs.SeatLemmas.{told_own, told_other}
use Rattle.lsys_reads.proofs.LevelLemmas.{there_is, got_in, push_mate, pop_mate, no_mate}

-- who is told at a seat is the node
told_node : (k r j : ℕ) → neighbour_told k r ≡ Some j → r ≡ j
told_node k r j e = elim (cases_eq r k) [
  | inl same ↦ absurd (none-some j (sym (told_own k) ∙ ap (neighbour_told k) (sym same) ∙ e))
  | inr ne ↦ same_Some r j (sym (told_other k r ne) ∙ e)
]

module _ {A : Type 0} where
  pub mate_lives : (f : Grove A) (k r : ℕ) → IsRooted f.root (changes_in f) (now_of f) → IsOnLevel f k → level_of_node f r ≡ level_of_node f k
      → IsMate (spots_at (complete_levels f) (level_of_node f k)) (place_of_node f k) (place_of_node f r) → IsLive f r
  mate_lives f k r sound h level mate =
      let d = level_depth f.root (changes_in f) (now_of f) sound (level_of_node f k) r (got_in (level_around f k) (place_of_node f r) r (there_is f k r h level mate.within)) in
      subst IsSome (sym d.1) refl

  pub at_push : (f : Grove A) (k r : ℕ) (nodes : List ℕ) → IsOnLevel f k → option_map (λ (s : Spotted). s.seen) (spotted_at (complete_levels f) (level_of_node f k) (place_of_node f k)) ≡ Some Push
      → level_of_node f r ≡ level_of_node f k → IsMate (spots_at (complete_levels f) (level_of_node f k)) (place_of_node f k) (place_of_node f r)
      → ((i : ℕ) → In i (kids_in (now_of f r)) → In i nodes) → LooksAtMate f k nodes
  at_push f k r nodes h seen level mate kids = record {
    mates = λ j i e among. kids i (subst (λ j. In i (kids_in (now_of f j))) (sym (told_node k r j (push_mate f k r h seen level mate ∙ e))) among);
  }

  pub at_pop : (f : Grove A) (k r : ℕ) (nodes : List ℕ) → IsOnLevel f k → option_map (λ (s : Spotted). s.seen) (spotted_at (complete_levels f) (level_of_node f k) (place_of_node f k)) ≡ Some Pop
      → level_of_node f r ≡ level_of_node f k → IsMate (spots_at (complete_levels f) (level_of_node f k)) (place_of_node f k) (place_of_node f r)
      → ((i : ℕ) → In i (kids_in (now_of f r)) → In i nodes) → LooksAtMate f k nodes
  at_pop f k r nodes h seen level mate kids = record {
    mates = λ j i e among. kids i (subst (λ j. In i (kids_in (now_of f j))) (sym (told_node k r j (pop_mate f k r h seen level mate ∙ e))) among);
  }

  pub at_module : (f : Grove A) (k : ℕ) (v : L.ModuleValue) (nodes : List ℕ) → IsOnLevel f k → option_map (λ (s : Spotted). s.seen) (spotted_at (complete_levels f) (level_of_node f k) (place_of_node f k)) ≡ Some (Module v)
      → LooksAtMate f k nodes
  at_module f k v nodes h seen = record { mates = λ j i e among. absurd (none-some j (sym (told_own k) ∙ no_mate f k v h seen ∙ e)) }

  pub mate_keep : (f : Grove A) (q : ℕ) (xs ys : List ℕ) → ((k : ℕ) → In k xs → In k ys) → LooksAtMate f q xs → LooksAtMate f q ys
  mate_keep f q xs ys keep looks = record { mates = λ r k e h. keep k (looks.mates r k e h) }

  pub into_keep : (f : Grove A) (q : ℕ) (xs ys : List ℕ) → ((k : ℕ) → In k xs → In k ys) → LooksInto f q xs → LooksInto f q ys
  into_keep f q xs ys keep looks = record { branch = λ k e h. keep k (looks.branch k e h) }

-- what an answer that is no error tells
pub on_ok : {X E P Q : Type 0} (r : Result X E) → (P → Q) → OnOk r P → OnOk r Q
on_ok (Ok x) f h = f h
on_ok (Err e) f h = h

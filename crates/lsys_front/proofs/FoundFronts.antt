-- The front of a level of which the nodes were found.
use Rattle.std.proofs.Common.{◌≡◌, ◌⊎◌, ◌++◌, ℕ, List, [], sym, ◌∙◌, inl, inr}
use Rattle.std.proofs.lemmas.Option.{none-some}
use Rattle.lsys_spec.specs.Rows.{In, AreApart}
use Rattle.lsys_reads.specs.Relations.{Relations}
use Rattle.lsys_forest.proofs.RowLemmas.{In_left, In_right}
use Rattle.lsys_reads.specs.Levels.{answer_at}
use Rattle.lsys_reads.specs.declared.seat.Seat.{Seat}
use Rattle.lsys_reads.specs.Neighbours.{neighbours_in}
use Rattle.lsys_reads.specs.Seats.{neighbours_at}
use Rattle.lsys_reads.specs.Standings.{AreSeated}
use Rattle.lsys_front.specs.Repairs.{Repair, SteppingSpots, now, rest, were, are}
use Rattle.lsys_front.specs.Found.{LevelChanges, Differs, IsFound}
use Rattle.lsys_front.proofs.Spots.{is_in, sound_new}
use Rattle.lsys_front.proofs.FoundNodes.{same_neighbours}
use Rattle.lsys_front.specs.Turned.{AreTurnedBy}
use Rattle.lsys_front.specs.Fronts.{IsLevelFront}

module _ (r : Repair) (seats : List Seat) (reads : Relations) (c : LevelChanges) (turned beside readers : List ℕ)
    (s : SteppingSpots r) (d : Differs r c) (seated : AreSeated (rest r) (were r) seats)
    (looks : (k : ℕ) → In k (are r) → In k (were r) → In k c.looked ⊎ (neighbours_in r.forest k ≡ neighbours_at seats k))
    (f : IsFound r.forest seats reads c turned beside readers) where
  stayed : (k : ℕ) → In k (are r) → (In k c.came → ⊥) → In k (were r)
  stayed k i away = elim (is_in k (were r)) [ inl w ↦ w | inr none ↦ absurd (away ((d.came k).1 (i, none))) ]

  -- one that was there, and was not found to have turned, has not
  not_turned : (k : ℕ) → In k (are r) → (In k c.came → ⊥) → (In k turned → ⊥) → neighbours_in r.forest k ≡ neighbours_at seats k
  not_turned k i fresh still = elim (looks k i (stayed k i fresh)) [
    | inr e ↦ e
    | inl l ↦ elim (same_neighbours (neighbours_in r.forest k) (neighbours_at seats k)) [
      | inl e ↦ e
      | inr ne ↦ absurd (still ((f.turned_are k).1 (record { looked_at = l; turned = ne }, λ o. elim o [ inl g ↦ ((d.gone k).0 g).1 i | inr g ↦ fresh g ])))
    ]
  ]

  pub turned_by : AreTurnedBy (rest r) r.forest r.level seats (c.came ++ turned)
  turned_by = record {
    sound = sound_new r s;
    seated = seated;
    there = λ k i away. stayed k i (λ g. away (In_left k c.came turned g));
    same = λ k i away. not_turned k i (λ g. away (In_left k c.came turned g)) (λ g. away (In_right k c.came turned g));
  }

pub found_front : (r : Repair) (seats : List Seat) (reads : Relations) (c : LevelChanges) (turned beside readers : List ℕ)
    → SteppingSpots r → Differs r c → AreApart c.gone → AreSeated (rest r) (were r) seats
    → ((k : ℕ) → In k (are r) → In k (were r) → In k c.looked ⊎ (neighbours_in r.forest k ≡ neighbours_at seats k))
    → ((k : ℕ) → In k c.looked → In k (are r))
    → ((k : ℕ) → In k (are r) → answer_at (now r) k ≡ answer_at (rest r) k)
    → IsFound r.forest seats reads c turned beside readers
    → IsLevelFront r seats (record { changes = c; turned = turned; bare = [] })
found_front r seats reads c turned beside readers s d once seated looks looked_are same f = record {
  differs = d;
  gone_once = once;
  turned = turned_by r seats reads c turned beside readers s d seated looks f;
  turned_are = λ k i. looked_are k ((f.turned_are k).0 i).0.looked_at;
  bare_are = λ k none. absurd none;
  bare = λ k a i was is. absurd (none-some a (sym is ∙ same k i ∙ was));
}

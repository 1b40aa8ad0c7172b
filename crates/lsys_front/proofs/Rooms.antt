-- Seats for the nodes that may be found, and the levels that these stand on.
use Rattle.std.proofs.Common.{◌≡◌, ◌<◌, ◌+◌, ◌^◌, ◌↔◌, ℕ, zero, suc, true, List, [], length, Option, Some, None, refl, sym, ap, subst, arith, inl, inr}
use Rattle.std.specs.Prelude.{IsSome, option_map}
use Rattle.std.specs.Option.{option_and_then}
use Rattle.std.proofs.lemmas.Option.{none-some}
use Rattle.lsys_spec.specs.Rows.{In}
use Rattle.lsys_laws.specs.Nodes.{Kin}
use Rattle.lsys_laws.specs.Seams.{node_before}
use Rattle.lsys_reads.specs.Relations.{Relations, is_settled}
use Rattle.lsys_match.specs.Kept.{Kept}
use Rattle.lsys_forest.specs.Nodes.{Node}
use Rattle.lsys_forest.specs.Answers.{answer_of}
use Rattle.lsys_forest.specs.Groves.{IsLive}
use Rattle.lsys_forest.specs.Rows.{complete_levels, level_of_node, place_of_node}
use Rattle.lsys_forest.proofs.RowLemmas.{level_depth}
use Rattle.lsys_forest.proofs.SoundLemmas.{some_of}
use Rattle.lsys_forest.proofs.ViewLemmas.{are_told}
use Rattle.lsys_reads.specs.Lineages.{kin_of}
use Rattle.lsys_reads.specs.Levels.{HasRead}
use Rattle.lsys_reads.specs.declared.seat.Seat.{Seat}
use Rattle.lsys_reads.specs.Neighbours.{IsOnLevel, level_around}
use Rattle.lsys_reads.specs.Seats.{HasSeat}
use Rattle.lsys_reads.proofs.LevelLemmas.{got_in}
use Rattle.lsys_front.specs.Repairs.{Repair, SteppingSpots, now, rest, root, were, are}
use Rattle.lsys_front.specs.Finds.{IsBeside}
use Rattle.lsys_front.specs.Found.{LevelChanges, Differs, AreOnLevels, HasSeatsForFound}
use Rattle.lsys_front.proofs.Spots.{sound_old, sound_new, new_long}
use Rattle.lsys_front.proofs.Standing.{live_at, spot_at}

pub before_in : (xs : List ℕ) (q j : ℕ) → node_before xs q ≡ Some j → In j xs
before_in xs zero j e = absurd (none-some j e)
before_in xs (suc p) j e = got_in xs p j e

node_of_kin : (o : Option (Node Kept)) (x : Kin) → option_map kin_of o ≡ Some x → IsSome o
node_of_kin None x e = absurd (none-some x e)
node_of_kin (Some n) x e = refl

node_of_answer : (o : Option (Node Kept)) (a : Kept) → option_and_then answer_of o ≡ Some a → IsSome o
node_of_answer None a e = absurd (none-some a e)
node_of_answer (Some n) a e = refl

module _ (r : Repair) (s : SteppingSpots r) where
  -- one that lived at the last rest lives
  lives_still : (k : ℕ) → IsSome (rest r k) → IsLive r.forest k
  lives_still k some = let n = some_of (rest r k) some in node_of_kin (now r k) (kin_of n.0) (s.stay k (kin_of n.0) (ap (option_map kin_of) n.1))

  pub was_live : (k : ℕ) → In k (were r) → IsLive r.forest k
  was_live k i = let d = level_depth (root r) [] (rest r) (sound_old r s) r.level k i in lives_still k (subst IsSome (sym d.1) refl)

  pub is_live : (k : ℕ) → In k (are r) → IsLive r.forest k
  is_live k i = live_at r.forest r.level k (sound_new r s) i

  around_live : (j k : ℕ) → In k (level_around r.forest j) → IsLive r.forest k
  around_live j k i = live_at r.forest (level_of_node r.forest j) k (sound_new r s) i

  beside_live : (c : LevelChanges) → Differs r c → (k : ℕ) → IsBeside r.forest c.changed k → IsLive r.forest k
  beside_live c d k b = elim b.near [
    | inl e ↦ is_live k (subst (λ j. In j (are r)) (sym e) ((d.changed b.node).0 b.among).0)
    | inr (inl e) ↦ around_live b.node k (before_in (level_around r.forest b.node) (place_of_node r.forest b.node) k e)
    | inr (inr e) ↦ around_live b.node k (got_in (level_around r.forest b.node) (place_of_node r.forest b.node + 1) k e)
  ]

  pub complete_now : r.level < 2 ^ 32 → r.level < length (complete_levels r.forest)
  complete_now small = are_told r.forest r.level small (λ u l. s.new_levels.balanced u (omega (arith, new_long r s, l)))

  on_level : r.level < 2 ^ 32 → (k : ℕ) → In k (are r) → IsOnLevel r.forest k
  on_level small k i = spot_at r.forest r.level k (sound_new r s) (complete_now small) i

pub seat_room : (r : Repair) (seats : List Seat) (reads : Relations) (c : LevelChanges)
    → SteppingSpots r → Differs r c → ((k : ℕ) → In k c.looked → In k (are r))
    → ((reader seen : ℕ) → (is_settled reads reader seen ≡ true) ↔ HasRead (rest r) r.store reader seen)
    → ((k : ℕ) → IsLive r.forest k → HasSeat seats k) → HasSeatsForFound r.forest reads c seats
seat_room r seats reads c s d looked_are read has = record {
  others = λ k o. elim o [ inl g ↦ has k (was_live r s k ((d.gone k).0 g).0) | inr g ↦ has k (is_live r s k ((d.came k).0 g).0) ];
  looked = λ k i. has k (is_live r s k (looked_are k i));
  beside = λ k b. has k (beside_live r s c d k b);
  readers = λ k node e. (let h = (read k node).0 e in has k (lives_still r s k (node_of_answer (rest r k) h.answer h.kept)));
}

pub on_levels : (r : Repair) (c : LevelChanges) → r.level < 2 ^ 32 → SteppingSpots r → Differs r c → ((k : ℕ) → In k c.looked → In k (are r)) → AreOnLevels r.forest c
on_levels r c small s d looked_are = record {
  looked = λ k i. on_level r s small k (looked_are k i);
  changed = λ k i. on_level r s small k ((d.changed k).0 i).0;
}

-- Levels of a forest that is being repaired.
use Rattle.std.proofs.Common.{◌≡◌, ◌<◌, ◌⊎◌, ◌+◌, ℕ, List, [], sym, subst, arith, inl, inr}
use Rattle.lsys_spec.specs.Rows.{In}
use Rattle.lsys_laws.proofs.UpTo.{level_count}
use Rattle.lsys_reads.specs.Meant.{levels_meant}
use Rattle.lsys_children.specs.Nexts.{AreLevels}
use Rattle.lsys_children.specs.Answers.{kept_successors}
use Rattle.lsys_children.proofs.Replaced.{replaced}
use Rattle.lsys_reads.specs.declared.seat.Seat.{Seat}
use Rattle.lsys_front.specs.Repairs.{Repair, SteppingSpots, rest, root, were}
use Rattle.lsys_front.proofs.Spots.{sound_old}
use Rattle.lsys_match.specs.Kept.{Kept}
use Rattle.lsys_forest.specs.Groves.{Grove, now_of}
use Rattle.lsys_forest.specs.Rows.{level_nodes}
use Rattle.lsys_children.specs.Children.{KeepsChildren}
use Rattle.lsys_children.specs.Nexts.{Successors}
use Rattle.lsys_reads.specs.Neighbours.{neighbours_in}
use Rattle.lsys_reads.specs.Seats.{neighbours_at}
use Rattle.lsys_reads.specs.Standings.{AreSeated}
use Rattle.lsys_front.specs.Below.{AreLeftLevels, KeepsFamily, AreLookedBelow}
use Rattle.lsys_front.specs.Remade.{IsNextMade}
use Rattle.lsys_front.proofs.TurnedLemmas.{family_kept, old_there, seats_told, same_turned, looked_below}
use Rattle.lsys_front.specs.Turned.{AreTurnedBy}
use Rattle.lsys_front.proofs.LevelLemmas.{left_levels}

pub rested_levels : (r : Repair) → SteppingSpots r → r.level < r.old.depth → AreLeftLevels (rest r) (root r) r.level
rested_levels r s below =
    let long = level_count r.old r.limit r.old.depth (levels_meant r.old r.limit) s.old_spelled s.old_is in
    let levels : AreLevels r.old r.limit r.old.depth (rest r) (root r) =
    record { spelled = s.old_spelled; is = s.old_is; levels = s.old_levels; once = s.once; changes = []; sound = sound_old r s } in
    left_levels r.old r.limit r.old.depth r.level (rest r) (root r) (kept_successors (rest r)) levels below
    (λ p k here.
    replaced r.old r.level (rest r) (root r) r.store p k (λ a there. s.old_levels.keys r.level p a (omega (arith, long, below)) there) (s.answered p k below here) here)

-- the level of the repair, and what was looked at below it
pub remade_below : (r : Repair) (h : Grove Kept) (by : Successors) (touched turned looked : List ℕ) (seats : List Seat) → SteppingSpots r → r.level < r.old.depth → AreTurnedBy (rest r) r.forest r.level seats turned
    → IsNextMade r h by touched turned looked → AreLookedBelow (rest r) h r.level touched turned looked
remade_below r h by touched turned looked seats s below told made =
    let here : AreTurnedBy (rest r) h r.level seats turned = same_turned (rest r) r.forest h r.level seats turned made.sound made.same told in
    let family : (q : ℕ) → In q (were r) → KeepsChildren (rest r) (now_of h) q → KeepsFamily (rest r) (now_of h) h.root r.level q =
    λ q i keeps. subst (λ u. KeepsFamily (rest r) (now_of h) u r.level q) (sym made.same.root) (family_kept (root r) [] (rest r) (now_of h) r.level q (sound_old r s) i keeps) in
    record {
      were = subst (λ u. AreLeftLevels (rest r) u r.level) (sym made.same.root) (rested_levels r s below);
      are = left_levels r.new r.limit (r.level + 1) r.level (now_of h) h.root by made.levels (omega arith) made.replaced;
      touched_level = made.touched_level;
      turned_level = made.turned_level;
      families = λ q i. elim (made.families q i) [ inl j ↦ inl j | inr k ↦ inr (family q k.0 k.1) ];
      old = old_there (rest r) h r.level seats turned here;
      seats = seats_told (rest r) h r.level seats turned here;
      around = made.around;
      mates = made.mates;
      beyond = made.beyond;
      branches = made.branches;
    }

pub remade_looked : (r : Repair) (h : Grove Kept) (by : Successors) (touched turned looked : List ℕ) (seats : List Seat) → SteppingSpots r → r.level < r.old.depth → AreTurnedBy (rest r) r.forest r.level seats turned
    → IsNextMade r h by touched turned looked → (next : List Seat) → AreSeated (rest r) (level_nodes (rest r) (root r) (r.level + 1)) next
    → (k : ℕ) → In k (level_nodes (now_of h) h.root (r.level + 1)) → In k (level_nodes (rest r) (root r) (r.level + 1)) → In k looked ⊎ (neighbours_in h k ≡ neighbours_at next k)
remade_looked r h by touched turned looked seats s below told made next seated k now then =
    looked_below (rest r) h r.level touched turned looked next (remade_below r h by touched turned looked seats s below told made) made.sound
    (subst (λ u. AreSeated (rest r) (level_nodes (rest r) u (r.level + 1)) next) (sym made.same.root) seated) k now (subst (λ u. In k (level_nodes (rest r) u (r.level + 1))) (sym made.same.root) then)

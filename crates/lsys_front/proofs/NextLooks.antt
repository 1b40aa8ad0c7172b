-- What was looked at below the level that was made last.
use Rattle.std.proofs.Common.{◌≡◌, ◌<◌, ◌⊎◌, ◌+◌, ◌++◌, ℕ, List, [], Ok, Some, slice_get, sym, ap, ◌∙◌, subst, arith, inl, inr}
use Rattle.std.proofs.lemmas.List.{append-nil}
use Rattle.lsys_spec.specs.Rows.{In}
use Rattle.lsys_spec.specs.Meaning.{replacement}
use Rattle.lsys_match.specs.Kept.{Kept}
use Rattle.lsys_forest.specs.Groves.{Grove, IsRooted, changes_in, now_of}
use Rattle.lsys_forest.specs.Rows.{level_nodes, level_spots, level_of_node}
use Rattle.lsys_forest.proofs.RowLemmas.{In_append}
use Rattle.lsys_children.specs.Children.{ToldNodes, KeepsChildren}
use Rattle.lsys_reads.specs.Levels.{level_of}
use Rattle.lsys_children.specs.Nexts.{Successors, AreLevels, node_symbol}
use Rattle.lsys_children.specs.Renewals.{KeepsUpper}
use Rattle.lsys_children.proofs.Renewing.{keeps_upper}
use Rattle.lsys_children.proofs.Above.{upper_nodes, upper_spots}
use Rattle.lsys_children.specs.declared.parent.Parent.{Parent}
use Rattle.lsys_children.specs.Parents.{nodes_in}
use Rattle.lsys_reads.specs.declared.seat.Seat.{Seat}
use Rattle.lsys_reads.specs.Neighbours.{neighbours_in}
use Rattle.lsys_reads.specs.Seats.{neighbours_at}
use Rattle.lsys_reads.specs.Standings.{AreSeated}
use Rattle.lsys_front.specs.Repairs.{Repair, SteppingSpots, now, rest, root, were, are}
use Rattle.lsys_front.proofs.Spots.{sound_new}
use Rattle.lsys_front.specs.Turned.{IsSameLevel}
use Rattle.lsys_front.specs.Remade.{IsNextMade}
use Rattle.lsys_front.proofs.RepairedLemmas.{remade_looked}
use Rattle.lsys_front.specs.Fronts.{Differences, IsLevelFront, next_of, MakesNext, LooksBelow}
use Rattle.lsys_front.proofs.Standing.{at_level}

module _ (r : Repair) (h : Grove Kept) (by : Successors) (ps : List Parent) (told : ToldNodes) (s : SteppingSpots r) (next : MakesNext r h by ps told) where
  pub next_sound : IsRooted h.root (changes_in h) (now_of h)
  next_sound = next.sound (changes_in h) [] (sym (append-nil (changes_in h)))

  next_upper : KeepsUpper (now r) (now_of h) (r.level + 1)
  next_upper = keeps_upper r.new.numbering r.new.seed (now r) (now_of h) (root r) (r.level + 1) by (nodes_in ps) next.renewals

  -- the level whose children were made stays
  pub next_same : IsSameLevel r.forest h r.level
  next_same = record {
    root = next.root;
    nodes = ap (λ u. level_nodes (now_of h) u r.level) next.root ∙ upper_nodes (root r) (changes_in r.forest) (now r) (now_of h) (sound_new r s) r.level next_upper r.level (omega arith);
    spots = ap (λ u. level_spots (now_of h) u r.level) next.root ∙ upper_spots (root r) (changes_in r.forest) (now r) (now_of h) (sound_new r s) r.level next_upper r.level (omega arith);
  }

  -- the next level as it was
  pub next_were : were (next_of r h) ≡ level_nodes (rest r) (root r) (r.level + 1)
  next_were = ap (λ m. level_nodes m h.root (r.level + 1)) next.rest ∙ ap (λ u. level_nodes (rest r) u (r.level + 1)) next.root

  pub stays_on : (q : ℕ) → In q (are r) → level_of_node h q ≡ r.level
  stays_on q i = at_level h r.level q next_sound (subst (In q) (sym next_same.nodes) i)

  pub touched_are : (q : ℕ) → In q told.touched → In q (are r)
  touched_are q i = elim ((next.tells.touched q).0 i) [ inl none ↦ absurd none | inr p ↦ next.parents q p.0 ]

pub next_looks : (r : Repair) (seats : List Seat) (d : Differences) (h : Grove Kept) (by succ : Successors) (ps : List Parent) (told : ToldNodes) (looked : List ℕ)
    → SteppingSpots r → r.level < r.old.depth → IsLevelFront r seats d → MakesNext r h by ps told
    → AreLevels r.new r.limit (r.level + 1) (now_of h) h.root
    → ((p k : ℕ) → slice_get (level_nodes (now_of h) h.root r.level) p ≡ Some k → replacement r.new r.level (level_of (now_of h) h.root r.level) p (node_symbol (now_of h) k) ≡ Ok (succ k))
    → ((q : ℕ) → In q (level_nodes (now_of h) h.root r.level) → In q (told.touched ++ d.changes.came) ⊎ (In q (were r) × KeepsChildren (rest r) (now_of h) q))
    → LooksBelow h (told.touched ++ d.changes.came) (d.changes.came ++ d.turned) looked
    → AreSeated (rest r) (were (next_of r h)) seats
    → (k : ℕ) → In k (are (next_of r h)) → In k (were (next_of r h)) → In k looked ⊎ (neighbours_in h k ≡ neighbours_at seats k)
next_looks r seats d h by succ ps told looked s below front next levels replaced families looks seated k is was =
    remade_looked r h succ touched turned looked seats s below front.turned made seats
    (subst (λ xs. AreSeated (rest r) xs seats) (next_were r h by ps told s next) seated) k is (subst (In k) (next_were r h by ps told s next) was)
  where
    touched : List ℕ
    touched = told.touched ++ d.changes.came

    turned : List ℕ
    turned = d.changes.came ++ d.turned

    here : (q : ℕ) → In q (are r) → level_of_node h q ≡ r.level
    here = stays_on r h by ps told s next

    came_here : (q : ℕ) → In q d.changes.came → level_of_node h q ≡ r.level
    came_here q i = here q ((front.differs.came q).0 i).0

    made : IsNextMade r h succ touched turned looked
    made = record {
      same = next_same r h by ps told s next;
      sound = next_sound r h by ps told s next;
      levels = levels;
      replaced = replaced;
      touched_level = λ q i. elim (In_append told.touched d.changes.came q i) [ inl a ↦ here q (touched_are r h by ps told s next q a) | inr b ↦ came_here q b ];
      turned_level = λ q i. elim (In_append d.changes.came d.turned q i) [ inl a ↦ came_here q a | inr b ↦ here q (front.turned_are q b) ];
      families = λ q i. elim (families q i) [ inl a ↦ inl a | inr b ↦ inr (b.0, b.1) ];
      around = λ q i. looks.around q i;
      mates = λ q i. looks.mates q i;
      beyond = λ q i. looks.beyond q i;
      branches = λ q i. looks.branches q i;
    }

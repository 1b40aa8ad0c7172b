-- Which nodes of a level are new, or have another neighbour or another mate, told by seats.
use Rattle.std.specs.Prelude.{◌≡◌, ℕ, List}
use Rattle.lsys_spec.specs.Rows.{In}
use Rattle.lsys_forest.specs.Nodes.{Nodes}
use Rattle.lsys_forest.specs.Groves.{Grove, IsRooted, changes_in, now_of}
use Rattle.lsys_forest.specs.Rows.{level_nodes, level_spots}
use Rattle.lsys_reads.specs.declared.seat.Seat.{Seat}
use Rattle.lsys_reads.specs.Neighbours.{neighbours_in}
use Rattle.lsys_reads.specs.Seats.{neighbours_at}
use Rattle.lsys_reads.specs.Standings.{AreSeated}

module _ {A : Type 0} where
  -- The seats tell the neighbours that the nodes of level t had; those that are not turned were there, and have these.
  pub record AreTurnedBy (o : Nodes A) (f : Grove A) (t : ℕ) (seats : List Seat)
      (turned : List ℕ) : Type 0 where
    pub sound : IsRooted f.root (changes_in f) (now_of f)
    pub seated : AreSeated o (level_nodes o f.root t) seats
    pub there : (k : ℕ) → In k (level_nodes (now_of f) f.root t) → (In k turned → ⊥)
        → In k (level_nodes o f.root t)
    pub same : (k : ℕ) → In k (level_nodes (now_of f) f.root t) → (In k turned → ⊥)
        → neighbours_in f k ≡ neighbours_at seats k

  -- level t of two forests has the same nodes, which have the same symbols
  pub record IsSameLevel (f h : Grove A) (t : ℕ) : Type 0 where
    pub root : h.root ≡ f.root
    pub nodes : level_nodes (now_of h) h.root t ≡ level_nodes (now_of f) f.root t
    pub spots : level_spots (now_of h) h.root t ≡ level_spots (now_of f) f.root t

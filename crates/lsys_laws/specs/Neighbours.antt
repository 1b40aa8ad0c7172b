-- Whose neighbours are others, on the next level.
use Rattle.std.specs.Prelude.{◌≡◌, ◌⊎◌, ℕ, List, ◌+◌, Some, slice_get}
use Rattle.lsys_spec.specs.Rows.{flat, In, AreApart}
use Rattle.lsys_laws.specs.Seams.{right_of, AreTouched, AreTurned, IsRightSeam, left_of, IsLeftSeam, node_before}

-- a node's right neighbour is the one from before, or the node is at a seam
abbrev pub RightNeighboursStayAwayFromSeams : Type 0
RightNeighboursStayAwayFromSeams =
    (T S : List ℕ) (f g : ℕ → List ℕ) (xs ys : List ℕ)
    → AreTouched T f g xs ys → AreTurned right_of S xs ys
    → (k : ℕ) → In k (flat g ys)
    → IsRightSeam T S g ys k ⊎ (right_of k (flat f xs) ≡ right_of k (flat g ys))

-- a node's left neighbour is the one from before, or the node is at a seam
abbrev pub LeftNeighboursStayAwayFromSeams : Type 0
LeftNeighboursStayAwayFromSeams =
    (T S : List ℕ) (f g : ℕ → List ℕ) (xs ys : List ℕ)
    → AreTouched T f g xs ys → AreTurned left_of S xs ys
    → (k : ℕ) → In k (flat g ys)
    → IsLeftSeam T S g ys k ⊎ (left_of k (flat f xs) ≡ left_of k (flat g ys))

-- the right neighbour of a node that stands there once is that at the place after its own
abbrev pub RightNeighboursStandAfter : Type 0
RightNeighboursStandAfter =
    (ks : List ℕ) (p k : ℕ) → AreApart ks → slice_get ks p ≡ Some k
    → right_of k ks ≡ slice_get ks (p + 1)

-- its left neighbour is that at the place before its own
abbrev pub LeftNeighboursStandBefore : Type 0
LeftNeighboursStandBefore =
    (ks : List ℕ) (p k : ℕ) → AreApart ks → slice_get ks p ≡ Some k
    → left_of k ks ≡ node_before ks p

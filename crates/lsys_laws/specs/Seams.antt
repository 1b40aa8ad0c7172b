-- Two levels of nodes, one below the other, before a change and after it, and whose neighbours may be others then.
use Rattle.std.specs.Prelude.{◌≡◌, ◌⊎◌, ℕ, zero, suc, List, [], ◌∷◌, ◌++◌, Option, Some, None, cond, nat_eq, slice_get}
use Rattle.lsys_spec.specs.Rows.{first_in, last_in, mirrored, flat, In, AreApart}

-- 1. nodes in a row, by their numbers

-- the number that stands after this one; none also where this one is not among them
abbrev pub right_of : ℕ → List ℕ → Option ℕ
right_of k [] = None
right_of k (x ∷ xs) = cond (nat_eq k x) (first_in xs) (right_of k xs)

-- the number that stands before this one
abbrev pub left_of : ℕ → List ℕ → Option ℕ
left_of k xs = right_of k (mirrored xs)

-- the number at the place before this one
abbrev pub node_before : List ℕ → ℕ → Option ℕ
node_before ks zero = None
node_before ks (suc p) = slice_get ks p

-- 2. changed levels

-- The nodes of a level were xs and are ys, and had the children f and have g. T are those that are new or have other
-- children.
pub record AreTouched (T : List ℕ) (f g : ℕ → List ℕ) (xs ys : List ℕ) : Type 0 where
  pub apart_old : AreApart xs
  pub apart_new : AreApart ys
  pub old_kids : AreApart (flat f xs)
  pub new_kids : AreApart (flat g ys)
  pub touched : (q : ℕ) → In q ys → In q T ⊎ (In q xs × (g q ≡ f q))

-- S are those that have another neighbour on this side, or are new
abbrev pub AreTurned : (ℕ → List ℕ → Option ℕ) → List ℕ → List ℕ → List ℕ → Type 0
AreTurned side S xs ys = (q : ℕ) → In q ys → In q S ⊎ (side q xs ≡ side q ys)

-- 3. who is looked at

-- The right neighbour of k may be another one: k is a child of a touched node; or the last child of those before one; or
-- the last child of those up to one that has another right neighbour.
pub data IsRightSeam (T S : List ℕ) (g : ℕ → List ℕ) (ys : List ℕ) (k : ℕ) : Type 0 where
  child_of_touched : (q : ℕ) → In q ys → In q T → In k (g q) → IsRightSeam T S g ys k
  before_touched : (q : ℕ) (before after : List ℕ) → ys ≡ before ++ q ∷ after → In q T
      → last_in (flat g before) ≡ Some k → IsRightSeam T S g ys k
  up_to_turned : (q : ℕ) (before after : List ℕ) → ys ≡ before ++ q ∷ after → In q S
      → last_in (flat g (before ++ q ∷ [])) ≡ Some k → IsRightSeam T S g ys k

-- The left neighbour of k may be another one: k is a child of a touched node; or the first child of those after one; or
-- the first child of those from one on that has another left neighbour.
pub data IsLeftSeam (T S : List ℕ) (g : ℕ → List ℕ) (ys : List ℕ) (k : ℕ) : Type 0 where
  kid_of_touched : (q : ℕ) → In q ys → In q T → In k (g q) → IsLeftSeam T S g ys k
  after_touched : (q : ℕ) (before after : List ℕ) → ys ≡ before ++ q ∷ after → In q T
      → first_in (flat g after) ≡ Some k → IsLeftSeam T S g ys k
  from_turned : (q : ℕ) (before after : List ℕ) → ys ≡ before ++ q ∷ after → In q S
      → first_in (flat g (q ∷ after)) ≡ Some k → IsLeftSeam T S g ys k

-- How long levels are, and on which of them a cut may reach what stands after.
use Rattle.std.specs.Prelude.{◌≡◌, ◌<◌, ◌≤◌, ◌+◌, ◌++◌, ℕ, zero, suc, Bool, false, List, [], ◌∷◌, length, sum_by}
use Rattle.lsys_match.specs.Kept.{Kept}
use Rattle.lsys_forest.specs.Nodes.{Nodes}
use Rattle.lsys_forest.specs.Rows.{level_nodes}
use Rattle.lsys_children.specs.Nexts.{AreClosed}
use Rattle.lsys_children.specs.Answers.{kept_successors}
use Rattle.lsys_pass.specs.declared.sizes.Size.{Size}
use Rattle.lsys_pass.specs.declared.state.PassState.{PassState}
use Rattle.lsys_pass.specs.declared.state.PassState.TheVariants.{Rest, Level, Done, Failed}

-- how many symbols level t has; none, where no size is told
abbrev pub symbols_at : List Size → ℕ → ℕ
symbols_at [] t = 0
symbols_at (x ∷ xs) zero = x.symbols
symbols_at (x ∷ xs) (suc t) = symbols_at xs t

-- whether it is open
abbrev pub opens_at : List Size → ℕ → Bool
opens_at [] t = false
opens_at (x ∷ xs) zero = x.is_open
opens_at (x ∷ xs) (suc t) = opens_at xs t

-- how many symbols all of them have
abbrev pub total_of : List Size → ℕ
total_of sizes = sum_by (λ (x : Size). x.symbols) sizes

-- of the last of these levels it is told whether it is open
abbrev pub with_open : List Size → Bool → List Size
with_open [] b = []
with_open (x ∷ []) b = record { symbols = x.symbols; is_open = b } ∷ []
with_open (x ∷ y ∷ xs) b = x ∷ with_open (y ∷ xs) b

-- one more level, of so many symbols
abbrev pub with_level : List Size → ℕ → List Size
with_level xs n = xs ++ record { symbols = n; is_open = false } ∷ []

-- They are the sizes of the nodes' levels: how many nodes each has; and where one isn't open, no cut among what replaces one of
-- its nodes reaches what stands after.
pub record HaveSizes (m : Nodes Kept) (root : ℕ) (sizes : List Size) : Type 0 where
  pub symbols : (t : ℕ) → symbols_at sizes t ≡ length (level_nodes m root t)
  pub closed : (t : ℕ) → opens_at sizes t ≡ false → AreClosed (kept_successors m) (level_nodes m root t)

-- They are those of the levels up to level t, of which it isn't known yet whether it is open.
pub record HaveSizesTo (m : Nodes Kept) (root : ℕ) (sizes : List Size) (t : ℕ) : Type 0 where
  pub count : length sizes ≡ t + 1
  pub symbols : (u : ℕ) → u ≤ t → symbols_at sizes u ≡ length (level_nodes m root u)
  pub closed : (u : ℕ) → u < t → opens_at sizes u ≡ false
      → AreClosed (kept_successors m) (level_nodes m root u)

-- so it is with the levels that were made, where the pass stands; depth is the depth of the system that is being made
abbrev pub SizesAt : Nodes Kept → ℕ → ℕ → List Size → PassState → Type 0
SizesAt m root depth made Rest = made ≡ []
SizesAt m root depth made (Level t) = HaveSizesTo m root made t
SizesAt m root depth made Done = HaveSizesTo m root made depth
SizesAt m root depth made Failed = Unit {0}

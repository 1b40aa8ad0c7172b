-- Which bracket ends a branch, in a level and in the level below it, whose nodes are told by their numbers and kinds.
use Rattle.std.specs.Prelude.{◌≡◌, ℕ, zero, suc, Bool, List, [], ◌∷◌, ◌++◌, map, slice_get, Option, Some, None, if◌then◌else◌}
use Rattle.lsys_spec.specs.Rows.{In, AreApart}
use Rattle.lsys_spec.specs.Levels.{LevelSymbol, AreMates}
use Rattle.lsys_laws.specs.Kinds.{BracketKind, Opens, Closes, Neither, stays, reached}

-- the bracket that ends the branch that is being read, where n branches inside it are open
abbrev pub closing : BracketKind → ℕ → ℕ → (ℕ → Option ℕ) → Option ℕ
closing Neither n x rest = rest n
closing Opens n x rest = rest (suc n)
closing Closes zero x rest = Some x
closing Closes (suc n) x rest = rest n

abbrev pub closer : (ℕ → BracketKind) → ℕ → List ℕ → Option ℕ
closer kind n [] = None
closer kind n (x ∷ xs) = closing (kind x) n x (λ m. closer kind m xs)

-- both say the same of these nodes
abbrev pub AgreeOn : (ℕ → BracketKind) → (ℕ → BracketKind) → List ℕ → Type 0
AgreeOn kind kind' xs = (x : ℕ) → In x xs → kind' x ≡ kind x

abbrev pub balancing : BracketKind → ℕ → (ℕ → Type 0) → Type 0
balancing Neither n rest = rest n
balancing Opens n rest = rest (suc n)
balancing Closes zero rest = ⊥
balancing Closes (suc n) rest = rest n

-- n branches are open before these, and none after them
abbrev pub AreBalanced : (ℕ → BracketKind) → ℕ → List ℕ → Type 0
AreBalanced kind n [] = n ≡ 0
AreBalanced kind n (x ∷ xs) = balancing (kind x) n (λ m. AreBalanced kind m xs)

-- the children of a node: those of a bracket are one bracket of its kind, those of a module are balanced
abbrev pub AreOwn : (ℕ → BracketKind) → BracketKind → List ℕ → Type 0
AreOwn kind Neither ks = AreBalanced kind 0 ks
AreOwn kind Opens ks = (k : ℕ) × (ks ≡ k ∷ []) × (kind k ≡ Opens)
AreOwn kind Closes ks = (k : ℕ) × (ks ≡ k ∷ []) × (kind k ≡ Closes)

-- the level below these nodes, each with its own children, of which some have a cut that reaches what stands after them
abbrev pub below : (ℕ → BracketKind) → (ℕ → List ℕ) → (ℕ → Bool) → Option ℕ → List ℕ → List ℕ
below kind own cuts o [] = []
below kind own cuts o (p ∷ ps) =
    (if stays o (kind p) then own p else [])
    ++ below kind own cuts (reached o (kind p) (cuts p)) ps

-- among these nodes the bracket k begins the branch that j ends
pub record AreMatesAmong (kind : ℕ → BracketKind) (ks : List ℕ) (k j : ℕ) : Type 0 where
  pub before : List ℕ
  pub after : List ℕ
  pub whole : ks ≡ before ++ k ∷ after
  pub opens : kind k ≡ Opens
  pub closes : closer kind 0 after ≡ Some j

-- in the level of nodes with these symbols they stand at places that are mates
pub record AreMatesThere (symbol : ℕ → LevelSymbol) (ks : List ℕ) (k j : ℕ) : Type 0 where
  pub place : ℕ
  pub end : ℕ
  pub opens : slice_get ks place ≡ Some k
  pub closes : slice_get ks end ≡ Some j
  pub mates : AreMates (map symbol ks) place end

-- a level's nodes in order, and of each its kind, its own children, and whether a cut among them reaches what stands after
pub record Generation : Type 0 where
  pub nodes : List ℕ
  pub kind : ℕ → BracketKind
  pub own : ℕ → List ℕ
  pub cuts : ℕ → Bool

-- the level below
abbrev pub next_nodes : Generation → List ℕ
next_nodes g = below g.kind g.own g.cuts None g.nodes

-- two of its brackets are mates; and two of the level below
abbrev pub AreMatesOn : Generation → ℕ → ℕ → Type 0
AreMatesOn g k j = AreMatesAmong g.kind g.nodes k j

abbrev pub AreMatesBelow : Generation → ℕ → ℕ → Type 0
AreMatesBelow g k j = AreMatesAmong g.kind (next_nodes g) k j

-- The level is balanced, and children are of their parents' kinds. On neither level a node stands twice, and each child has
-- one parent.
pub record IsGeneration (g : Generation) : Type 0 where
  pub balanced : AreBalanced g.kind 0 g.nodes
  pub own_kinds : (p : ℕ) → In p g.nodes → AreOwn g.kind (g.kind p) (g.own p)
  pub apart : AreApart g.nodes
  pub next_apart : AreApart (next_nodes g)
  pub one_parent : (p q k : ℕ) → In p g.nodes → In q g.nodes
      → In k (g.own p) → In k (g.own q) → p ≡ q

-- mates of the level below are children of one module, or of two mates
pub data AreMatesFrom (g : Generation) (k j : ℕ) : Type 0 where
  of_module : (q : ℕ) → In q g.nodes → g.kind q ≡ Neither → In k (g.own q) → In j (g.own q)
      → AreMatesFrom g k j
  of_mates : (q r : ℕ) → AreMatesOn g q r → g.own q ≡ k ∷ [] → g.own r ≡ j ∷ []
      → AreMatesFrom g k j

-- Whose mate a bracket is, on the level below and after a change.
use Rattle.std.specs.Prelude.{ℕ, List, ◌≡◌, ◌++◌, ◌∷◌, Some, Bool, None, []}
use Rattle.lsys_spec.specs.Rows.{In}
use Rattle.lsys_spec.specs.Levels.{LevelSymbol}
use Rattle.lsys_laws.specs.Kinds.{kind_of_symbol, BracketKind, Opens, Neither}
use Rattle.lsys_laws.specs.Mates.{AreMatesAmong, AreMatesThere, closer, AgreeOn, AreBalanced, AreOwn, below, Generation, AreMatesBelow, IsGeneration, AreMatesFrom, next_nodes, AreMatesOn}

-- nodes that are mates by their kinds are mates in the level of their symbols
abbrev pub MatesAreToldByKinds : Type 0
MatesAreToldByKinds =
    (symbol : ℕ → LevelSymbol) (ks : List ℕ) (k j : ℕ)
    → AreMatesAmong (λ k. kind_of_symbol (symbol k)) ks k j → AreMatesThere symbol ks k j

-- a branch that begins among balanced nodes ends at one of them, and at the same while the kinds
-- after its beginning are the same, whatever stands after these nodes
abbrev pub BranchesEndAmongBalancedNodes : Type 0
BranchesEndAmongBalancedNodes =
    (kind : ℕ → BracketKind) (u : List ℕ) (k : ℕ) (v : List ℕ)
    → kind k ≡ Opens → AreBalanced kind 0 (u ++ k ∷ v)
    → (j : ℕ) × ((kind' : ℕ → BracketKind) (rest : List ℕ)
    → AgreeOn kind kind' v → closer kind' 0 (v ++ rest) ≡ Some j)

-- the child of a bracket's mate is the mate of the
-- bracket's child, whatever is cut off between them
abbrev pub MatesHaveMatesBelow : Type 0
MatesHaveMatesBelow =
    (kind : ℕ → BracketKind) (own : ℕ → List ℕ) (cuts : ℕ → Bool)
    (ps : List ℕ) (r : ℕ) → ((p : ℕ) → In p ps → AreOwn kind (kind p) (own p))
    → closer kind 0 ps ≡ Some r
    → (j : ℕ) × (own r ≡ j ∷ []) × (closer kind 0 (below kind own cuts None ps) ≡ Some j)

-- mates of the level below are children of one module of the level above it, or of two mates
abbrev pub MatesComeFromOneModuleOrTwoMates : Type 0
MatesComeFromOneModuleOrTwoMates =
    (g : Generation) → IsGeneration g
    → (k j : ℕ) → AreMatesBelow g k j → AreMatesFrom g k j

-- children of one module that were mates still are, while its children and their kinds are the same
abbrev pub MatesOfOneModuleStayMates : Type 0
MatesOfOneModuleStayMates =
    (old new : Generation) → IsGeneration old → IsGeneration new
    → (q k j : ℕ) → In q old.nodes → In q new.nodes → old.kind q ≡ Neither
    → new.own q ≡ old.own q → AgreeOn old.kind new.kind (old.own q)
    → In k (old.own q) → In k (next_nodes new)
    → AreMatesBelow old k j → AreMatesBelow new k j

-- children of two mates that were mates still are, while those are mates and have the same children
abbrev pub MatesOfTwoBracketsStayMates : Type 0
MatesOfTwoBracketsStayMates =
    (old new : Generation) → IsGeneration old → IsGeneration new
    → (q r k j : ℕ) → AreMatesOn old q r → AreMatesOn new q r
    → new.own q ≡ old.own q → new.own r ≡ old.own r
    → In k (old.own q) → In k (next_nodes new)
    → AreMatesBelow old k j → AreMatesBelow new k j

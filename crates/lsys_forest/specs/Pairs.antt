-- The mates of the brackets of linked levels.
use Rattle.std.specs.Prelude.{◌≡◌, ◌≢◌, ◌<◌, ℕ, suc, Bool, false, List, [], ◌∷◌, ◌++◌, Option, Some, None}
use Rattle.std.specs.Option.{option_and_then}
use Rattle.lsys_level.specs.Spots.{Seen, Push, Pop, Module, IsBracket}
use Rattle.lsys_forest.specs.declared.node.Footing.{Footing}
use Rattle.lsys_forest.specs.declared.walk.Way.{Way}
use Rattle.lsys_forest.specs.declared.walk.Way.TheVariants.{Left, Right}
use Rattle.lsys_forest.specs.Slots.{footing_at, rank_at, footing_mate}
use Rattle.lsys_forest.specs.Nodes.{Node, Nodes}
use Rattle.lsys_forest.specs.Changes.{undone}
use Rattle.lsys_forest.specs.Rows.{oriented, level_nodes, spot_in}
use Rattle.lsys_forest.specs.Mates.{one_less}
use Rattle.lsys_forest.specs.Ranks.{KeepsLinks}
use Rattle.lsys_forest.specs.Stocks.{Stock, nodes_of, changes_of}

-- how many branches are open after a symbol, that way; none where the symbol ends the branch that is walked along
abbrev pub open_after : Way → Seen → ℕ → Option ℕ
open_after Right Push n = Some (suc n)
open_after Right Pop n = one_less n
open_after Left Push n = one_less n
open_after Left Pop n = Some (suc n)
open_after way (Module v) n = Some n

-- the bracket whose mate is that way
abbrev pub branch_opening : Way → Seen
branch_opening Right = Push
branch_opening Left = Pop

-- this number, where no count of open branches is left, and else what comes then
abbrev pub ends_or : Option ℕ → ℕ → (ℕ → Option ℕ) → Option ℕ
ends_or None q then = Some q
ends_or (Some n) q then = then n

-- the first of these numbers that ends the branch that is walked along, where so many are open inside it
abbrev pub branch_end : Way → (ℕ → Seen) → ℕ → List ℕ → Option ℕ
branch_end way seen n [] = None
branch_end way seen n (q ∷ qs) = ends_or (open_after way (seen q) n) q (λ k. branch_end way seen k qs)

-- the same bracket, or modules both
abbrev pub AreSameSort : Seen → Seen → Type 0
AreSameSort Push Push = Unit {0}
AreSameSort Pop Pop = Unit {0}
AreSameSort (Module v) (Module w) = Unit {0}
AreSameSort s t = ⊥

-- the first of two, if there is one, and else the second
abbrev pub first_of_two : Option ℕ → Option ℕ → Option ℕ
first_of_two None y = y
first_of_two (Some x) y = Some x

-- On a row, the mate of each bracket stands at it.
abbrev pub AreMatedIn : (ℕ → Seen) → List ℕ → List Footing → Type 0
AreMatedIn seen row footings =
    (k mate : ℕ) (way : Way) (before after : List ℕ) → oriented way row ≡ before ++ k ∷ after
    → seen k ≡ branch_opening way → branch_end way seen 0 after ≡ Some mate
    → footing_mate footings k ≡ Some mate

-- While a row is walked along from the left: `opener` is the innermost bracket that is open after those that were passed. A
-- bracket that ends a branch has its mate, and so has each that begins one that was ended. One that is still open has the
-- open bracket around it in that place: so the open brackets are a list, and need no memory.
pub record IsPairing (seen : ℕ → Seen) (passed : List ℕ) (footings : List Footing)
    (opener : Option ℕ) : Type 0 where
  pub open_is : opener ≡ branch_end Left seen 0 (oriented Left passed)
  pub ended : (k : ℕ) (before after : List ℕ) → passed ≡ before ++ k ∷ after → seen k ≡ Pop
      → footing_mate footings k ≡ branch_end Left seen 0 (oriented Left before)
  pub begun : (k : ℕ) (before after : List ℕ) → passed ≡ before ++ k ∷ after → seen k ≡ Push
      → footing_mate footings k
      ≡ first_of_two (branch_end Right seen 0 after) (branch_end Left seen 0 (oriented Left before))

-- the innermost bracket that is open after a symbol
abbrev pub still_open : Seen → List Footing → Option ℕ → ℕ → Option ℕ
still_open Push footings opener node = Some node
still_open Pop footings opener node = option_and_then (footing_mate footings) opener
still_open (Module v) footings opener node = opener

-- a symbol was passed after these open brackets
pub record Pairs (seen : Seen) (old new : List Footing) (opener : Option ℕ) (node : ℕ)
    (next : Option ℕ) : Type 0 where
  pub next_is : next ≡ still_open seen old opener node
  pub here : IsBracket seen → footing_mate new node ≡ opener
  pub closed : (k : ℕ) → seen ≡ Pop → opener ≡ Some k → footing_mate new k ≡ Some node
  pub others : (k : ℕ) → (IsBracket seen → k ≢ node) → (seen ≡ Pop → opener ≡ Some k → ⊥)
      → footing_at new k ≡ footing_at old k
  pub ranks : (k : ℕ) → rank_at new k ≡ rank_at old k
  pub links : KeepsLinks old new

module _ {A : Type 0} where
  -- what is seen of a node
  abbrev pub seen_at : Nodes A → ℕ → Seen
  seen_at m k = (spot_in k (m k)).seen

  -- a node was passed after these open brackets
  abbrev pub PairsIn : Stock A → Stock A → Option ℕ → ℕ → Option ℕ → Type 0
  PairsIn old new opener node next =
      Pairs (seen_at (nodes_of old) node) old.footings new.footings opener node next

  -- On each of so many levels, from the first one on, the mate of each bracket stands at it.
  abbrev pub AreMated : Nodes A → ℕ → List Footing → ℕ → Type 0
  AreMated m root footings mated =
      (t : ℕ) → t < mated → AreMatedIn (seen_at m) (level_nodes m root t) footings

  -- no node but the root is a bracket
  abbrev pub AreModules : Nodes A → ℕ → Type 0
  AreModules m root = (k : ℕ) (n : Node A) → m k ≡ Some n → k ≢ root → IsBracket n.seen → ⊥

  -- unless there are branches, it is so, and was at the last rest
  abbrev pub AreModulesUnless : Bool → Stock A → ℕ → Type 0
  AreModulesUnless branches t root =
      branches ≡ false
      → AreModules (nodes_of t) root × AreModules (undone (changes_of t) (nodes_of t)) root

-- Who is looked at on the next level since its mate may be another: the nodes of a level and their children, before and now.
use Rattle.std.specs.Prelude.{◌≡◌, ◌⊎◌, ℕ, List}
use Rattle.lsys_spec.specs.Rows.{In}
use Rattle.lsys_laws.specs.Kinds.{Neither}
use Rattle.lsys_laws.specs.Mates.{AgreeOn, Generation, IsGeneration, next_nodes, AreMatesOn}

-- the node was there, of its kind, with its children, which were of their kinds
pub record IsSameParent (old new : Generation) (q : ℕ) : Type 0 where
  pub there : In q old.nodes
  pub kind : new.kind q ≡ old.kind q
  pub own : new.own q ≡ old.own q
  pub kinds : AgreeOn old.kind new.kind (old.own q)

-- Of a level as it is now, with all its children on the next level: these nodes are new, or have other children, or children of other
-- kinds; and those brackets are new or have another mate. Looked at were the children of the first, those of their mates, and those of
-- the second.
pub record AreLookedMates (old new : Generation) (touched turned looked : List ℕ) : Type 0 where
  pub was : IsGeneration old
  pub is : IsGeneration new
  pub all_stay : (q k : ℕ) → In q new.nodes → In k (new.own q) → In k (next_nodes new)
  pub changed : (q : ℕ) → In q new.nodes → In q touched ⊎ IsSameParent old new q
  pub opens : (q r : ℕ) → AreMatesOn old q r → In q new.nodes → In q turned ⊎ AreMatesOn new q r
  pub closes : (q r : ℕ) → AreMatesOn old q r → In r new.nodes → In r turned ⊎ AreMatesOn new q r
  pub children : (q k : ℕ) → In q touched → In q new.nodes → In k (new.own q) → In k looked
  pub branches : (q k : ℕ) → In q turned → In q new.nodes → (new.kind q ≡ Neither → ⊥) → In k (new.own q) → In k looked
  pub mates : (q r k : ℕ) → AreMatesOn new q r → In r touched → In k (new.own q) → In k looked
  pub mates_after : (q r k : ℕ) → AreMatesOn new q r → In q touched → In k (new.own r) → In k looked

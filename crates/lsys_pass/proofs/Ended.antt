-- The nodes of a level that ends, and those below them, live.
use Rattle.std.proofs.Common.{◌≡◌, ◌++◌, ℕ, List, Option, Some, None, refl, sym, subst, inl, inr}
use Rattle.std.specs.Prelude.{IsSome, option_map}
use Rattle.lsys_spec.specs.Rows.{In}
use Rattle.lsys_forest.specs.Nodes.{Node, Nodes}
use Rattle.lsys_forest.specs.Changes.{Change}
use Rattle.lsys_forest.specs.Groves.{IsRooted}
use Rattle.lsys_forest.specs.Rows.{kids_in, kids_below, level_nodes}
use Rattle.lsys_forest.proofs.RowLemmas.{In_append, flat_In, child, level_depth}
use Rattle.lsys_children.proofs.Renewing.{in_cases}
use Rattle.lsys_front.specs.Ends.{ended_node, AreEnded}

module _ {A : Type 0} where
  some_ended : (o : Option (Node A)) → IsSome o → IsSome (option_map ended_node o)
  some_ended None h = h
  some_ended (Some n) h = refl

  pub lives_on : (old new : Nodes A) (nodes : List ℕ) → AreEnded old new nodes → (k : ℕ) → IsSome (old k) → IsSome (new k)
  lives_on old new nodes e k h = elim (in_cases k nodes) [
    | inl i ↦ subst IsSome (sym (e.here k i)) (some_ended (old k) h)
    | inr out ↦ subst IsSome (sym (e.others k out)) h
  ]

  module _ (root : ℕ) (changes : List (Change A)) (m : Nodes A) (sound : IsRooted root changes m) where
    pub level_lives : (t k : ℕ) → In k (level_nodes m root t) → IsSome (m k)
    level_lives t k i = subst IsSome (sym (level_depth root changes m sound t k i).1) refl

    pub kids_live : (nodes : List ℕ) (k : ℕ) → In k (kids_below m nodes) → IsSome (m k)
    kids_live nodes k i =
        let p = flat_In (λ q. kids_in (m q)) nodes k i in
        subst IsSome (sym (child root changes m sound p.0 k p.2).is) refl

    -- the children of these nodes, before they end, and of others after it
    pub all_live : (new : Nodes A) (nodes gone start first both : List ℕ) → AreEnded m new nodes → first ≡ start ++ kids_below m nodes → both ≡ first ++ kids_below new gone
        → ((k : ℕ) → In k start → IsSome (m k)) → ((k : ℕ) → In k (kids_below new gone) → IsSome (new k)) → (k : ℕ) → In k both → IsSome (new k)
    all_live new nodes gone start first both e one two lives rest k i = elim (In_append first (kids_below new gone) k (subst (In k) two i)) [
      | inl a ↦ lives_on m new nodes e k (elim (In_append start (kids_below m nodes) k (subst (In k) one a)) [
        | inl s ↦ lives k s
        | inr b ↦ kids_live nodes k b
      ])
      | inr b ↦ rest k b
    ]

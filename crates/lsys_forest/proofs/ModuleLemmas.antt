-- A forest without branches has no mates to be found.
use Rattle.std.proofs.Common.{◌≡◌, ◌≢◌, ℕ, List, ◌∷◌, Some, None, refl, sym, ap, ◌∙◌, arith, inl, inr, subst}
use Rattle.std.proofs.lemmas.Bool.{cases_eq}
use Rattle.std.proofs.lemmas.Option.{none-some, same_Some}
use Rattle.lsys_spec.specs.Rows.{In}
use Rattle.lsys_level.specs.Spots.{IsBracket}
use Rattle.lsys_forest.specs.declared.node.Footing.{Footing}
use Rattle.lsys_forest.specs.declared.walk.Way.{Way}
use Rattle.lsys_forest.specs.declared.walk.Way.TheVariants.{Left, Right}
use Rattle.lsys_forest.specs.Nodes.{Node, Nodes, with_node, root_node}
use Rattle.lsys_forest.specs.Changes.{Change}
use Rattle.lsys_forest.specs.Groves.{IsRooted}
use Rattle.lsys_forest.specs.Rows.{level_nodes, spot_in}
use Rattle.lsys_forest.specs.Pairs.{branch_opening, AreMated, AreModules}
use Rattle.lsys_forest.proofs.StockLemmas.{put_same, put_other}
use Rattle.lsys_forest.proofs.RowLemmas.{In_right, oriented_In_back, level_depth}

opens_branch : (way : Way) → IsBracket (branch_opening way)
opens_branch Left = tt
opens_branch Right = tt

module _ {A : Type 0} where
  pub root_alone : (m : Nodes A) → m ≡ with_node (λ k. None) 0 (Some (root_node 0)) → AreModules m 0
  root_alone m is = λ k n there other bracket. none-some n (sym (ap (λ (f : Nodes A). f k) is ∙ put_other (λ j. None) 0 k (Some (root_node 0)) other) ∙ there)

  pub modules_put : (m : Nodes A) (root k : ℕ) (new : Node A) → (k ≢ root → IsBracket new.seen → ⊥) → AreModules m root → AreModules (with_node m k (Some new)) root
  modules_put m root k new here modules = λ j n is other bracket. elim (cases_eq j k) [
    | inl e ↦ here (λ h. other (e ∙ h)) (subst (λ (x : Node A). IsBracket x.seen) (sym (same_Some new n (sym (put_same m k j (Some new) e) ∙ is))) bracket)
    | inr ne ↦ modules j n (sym (put_other m k j (Some new) ne) ∙ is) other bracket
  ]

  pub modules_mated : (root : ℕ) (changes : List (Change A)) (m : Nodes A) (footings : List Footing) (levels : ℕ) → IsRooted root changes m → AreModules m root → AreMated m root footings levels
  modules_mated root changes m footings levels sound modules = λ t less k mate way before after whole opens ends.
      let among : In k (level_nodes m root t) = oriented_In_back way k (level_nodes m root t) (subst (In k) (sym whole) (In_right k before (k ∷ after) (inl refl))) in
      let d = level_depth root changes m sound t k among in
      let seen : d.0.seen ≡ branch_opening way = ap (λ o. (spot_in k o).seen) (sym d.1) ∙ opens in
      let other : k ≢ root = λ e. (
      let same = same_Some sound.root_lives.0 d.0 (sym sound.root_lives.1 ∙ ap m (sym e) ∙ d.1) in
      let depth = ap (λ (n : Node A). n.depth) same in
      let zero = sound.root_lives.2 in
      omega (arith, depth, zero, d.2)
      ) in
      absurd (modules k d.0 d.1 other (subst IsBracket (sym seen) (opens_branch way)))

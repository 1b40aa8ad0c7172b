-- The key of a node by that of its parent.
use Rattle.std.proofs.Common.{◌≡◌, ◌+◌, ◌*◌, ◌<◌, ℕ, Option, Some, None, refl, sym, ap, ◌∙◌, arith}
use Rattle.std.specs.Prelude.{◌≢◌, IsSome, option_map}
use Rattle.std.proofs.lemmas.Option.{none-some, same_Some}
use Rattle.lsys_spec.specs.Draws.{number_base, child_key_of, key_of}
use Rattle.lsys_laws.specs.Nodes.{Kin, AreOnce}
use Rattle.lsys_laws.proofs.KeptLineages.{child}
use Rattle.lsys_forest.specs.Nodes.{Node, Nodes}
use Rattle.lsys_forest.specs.Rows.{depth_in}
use Rattle.lsys_reads.specs.Lineages.{kin_of, kins, names}
use Rattle.lsys_children.proofs.Wants.{child_key}

module _ {A : Type 0} (m : Nodes A) (root : ℕ) (once : AreOnce (kins m) root) where
  -- node k is not the root, and this is its parent, which is nearer to the root
  pub record IsBelow (k parent : ℕ) : Type 0 where
    pub node : Node A
    pub is : m k ≡ Some node
    pub other : k ≢ root
    pub parent_is : node.parent ≡ parent
    pub nearer : depth_in (m parent) < depth_in (m k)

  depth_of : (o : Option (Node A)) (p : Kin) → option_map kin_of o ≡ Some p → depth_in o ≡ p.depth
  depth_of None p e = absurd (none-some p e)
  depth_of (Some n) p e = ap (λ (q : Kin). q.depth) (same_Some (kin_of n) p e)

  below : (k : ℕ) (n : Node A) (parent : ℕ) → m k ≡ Some n → k ≢ root → n.parent ≡ parent → IsBelow k parent
  below k n parent is other up = record {
    node = n;
    is = is;
    other = other;
    parent_is = up;
    nearer = omega
        (arith, above, here, deep);
  }
    where
      h : (p : Kin) × (kins m n.parent ≡ Some p) × (n.depth ≡ p.depth + 1)
      h = once.held k (kin_of n) (ap (option_map kin_of) is) other

      deep : n.depth ≡ h.0.depth + 1
      deep = h.2

      above : depth_in (m parent) ≡ h.0.depth
      above = ap (λ j. depth_in (m j)) (sym up) ∙ depth_of (m n.parent) h.0 h.1

      here : depth_in (m k) ≡ n.depth
      here = ap depth_in is

  pub is_below : (k parent : ℕ) (r : Option ℕ) → IsSome (m k) → (k ≡ root → r ≡ None)
      → (k ≢ root → (n : Node A) → m k ≡ Some n → r ≡ Some n.parent) → r ≡ Some parent → IsBelow k parent
  is_below k parent r lives none some e = by (m k) refl lives
    where
      other : k ≢ root
      other same = none-some parent (sym (none same) ∙ e)

      by : (o : Option (Node A)) → m k ≡ o → IsSome o → IsBelow k parent
      by None is l = cc
      by (Some n) is l = below k n parent is other (same_Some n.parent parent (sym (some other n is) ∙ e))

  pub key_below : (seed k parent code count : ℕ) (b : IsBelow k parent) → code ≡ b.node.code → count ≡ b.node.count
      → child_key_of (key_of seed (names m parent)) (number_base * code + count) ≡ key_of seed (names m k)
  key_below seed k parent code count b same same' =
      ap (λ c. child_key_of (key_of seed (names m parent)) (number_base * c + count)) same
      ∙ ap (λ c. child_key_of (key_of seed (names m parent)) (number_base * b.node.code + c)) same'
      ∙ ap (λ j. child_key_of (key_of seed (names m j)) (number_base * b.node.code + b.node.count)) (sym b.parent_is)
      ∙ sym (child_key seed (names m b.node.parent) (number_base * b.node.code + b.node.count))
      ∙ ap (key_of seed) (sym (child (kins m) root k (kin_of b.node) once (ap (option_map kin_of) b.is) b.other))

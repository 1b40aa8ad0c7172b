-- The nodes of a level as parents.
use Rattle.std.proofs.Common.{◌≡◌, ℕ, Bool, true, false, List, [], ◌∷◌, Option, None, map, refl, ap, ◌∙◌, subst, inl, inr}
use Rattle.std.specs.Prelude.{ℤ, not, if◌then◌else◌}
use Rattle.lsys_spec.specs.Rows.{In, AreApart}
use Rattle.lsys_syntax.specs.Strings as S
use Rattle.lsys_laws.specs.Kinds.{stays, reached}
use Rattle.lsys_laws.specs.Children.{is_open}
use Rattle.lsys_forest.specs.Nodes.{Nodes}
use Rattle.lsys_match.specs.Kept.{Kept}
use Rattle.lsys_children.specs.Nexts.{Successors, node_kind, wanted_after, wanted_in}
use Rattle.lsys_children.specs.Answers.{kept_successors}
use Rattle.lsys_children.proofs.Walks.{same_yes, same_not}
use Rattle.lsys_children.specs.Parents.{nodes_in, AreToldBy, cut_parents, uncut}

pub walked_nodes : (m : Nodes Kept) (o : Option ℕ) (ks : List ℕ) → nodes_in (cut_parents m o ks) ≡ ks
walked_nodes m o [] = refl
walked_nodes m o (k ∷ ks) = ap (λ (l : List ℕ). k ∷ l) (walked_nodes m (reached o (node_kind m k) (is_open (kept_successors m k))) ks)

pub whole_nodes : (m : Nodes Kept) (ks : List ℕ) → nodes_in (map uncut ks) ≡ ks
whole_nodes m [] = refl
whole_nodes m (k ∷ ks) = ap (λ (l : List ℕ). k ∷ l) (whole_nodes m ks)

pub whole_told : (m : Nodes Kept) (ks : List ℕ) → AreToldBy (kept_successors m) m (map uncut ks)
whole_told m [] = tt
whole_told m (k ∷ ks) = (refl, whole_told m ks)

turned : (b : Bool) (zs : List (S.Symbol ℤ)) → (if b then zs else []) ≡ (if not b then [] else zs)
turned true zs = refl
turned false zs = refl

told : (m : Nodes Kept) (by : Successors) (o : Option ℕ) (ks : List ℕ) → AreApart ks → ((k : ℕ) → In k ks → by k ≡ wanted_in m (kept_successors m) o ks k) → AreToldBy by m (cut_parents m o ks)
told m by o [] a e = tt
told m by o (k ∷ ks) a e = (e k (inl refl) ∙ here ∙ turned (stays o (node_kind m k)) (kept_successors m k), told m by (reached o (node_kind m k) (is_open (kept_successors m k))) ks a.1 (λ j i. e j (inr i) ∙ later j i))
  where
    here : wanted_in m (kept_successors m) o (k ∷ ks) k ≡ wanted_after o (node_kind m k) (kept_successors m k)
    here = ap (λ b. if b then wanted_after o (node_kind m k) (kept_successors m k) else wanted_in m (kept_successors m) (reached o (node_kind m k) (is_open (kept_successors m k))) ks k) (same_yes k)

    later : (j : ℕ) → In j ks → wanted_in m (kept_successors m) o (k ∷ ks) j ≡ wanted_in m (kept_successors m) (reached o (node_kind m k) (is_open (kept_successors m k))) ks j
    later j i =
        ap (λ b. if b then wanted_after o (node_kind m k) (kept_successors m k) else wanted_in m (kept_successors m) (reached o (node_kind m k) (is_open (kept_successors m k))) ks j)
        (same_not j k (λ f. a.0 (subst (λ n. In n ks) f i)))

pub walked_told : (m : Nodes Kept) (ks : List ℕ) → AreApart ks → AreToldBy (wanted_in m (kept_successors m) None ks) m (cut_parents m None ks)
walked_told m ks a = told m (wanted_in m (kept_successors m) None ks) None ks a (λ k i. refl)

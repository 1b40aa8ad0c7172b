-- Nodes that differ in nothing but what they keep: they have the same levels and lineages.
use Rattle.std.proofs.Common.{◌≡◌, ◌≢◌, ◌+◌, ℕ, zero, suc, List, [], ◌∷◌, map, Option, Some, refl, sym, ap, ◌∙◌, inl, inr, slice_get}
use Rattle.std.specs.Prelude.{option_map}
use Rattle.std.specs.Option.{option_and_then}
use Rattle.std.proofs.Math.Path.{fun_ext}
use Rattle.std.proofs.lemmas.Bool.{cases_eq}
use Rattle.std.proofs.lemmas.Option.{same_Some}
use Rattle.lsys_spec.specs.Rows.{first_in, flat}
use Rattle.lsys_spec.specs.Draws.{key_of}
use Rattle.lsys_spec.specs.Levels.{level_balanced}
use Rattle.lsys_spec.specs.Levels as L
use Rattle.lsys_spec.specs.Standings.{mate_at}
use Rattle.lsys_level.specs.Spots.{Spotted, named, level_by}
use Rattle.lsys_laws.specs.Nodes.{Kins, naming}
use Rattle.lsys_laws.specs.Seams.{node_before}
use Rattle.lsys_match.specs.Kept.{Kept}
use Rattle.lsys_forest.specs.Nodes.{Node, Nodes, with_node, with_answer}
use Rattle.lsys_forest.specs.Answers.{answer_of}
use Rattle.lsys_forest.specs.Rows.{kids_in, spot_in, level_nodes, level_spots}
use Rattle.lsys_forest.proofs.StockLemmas.{put_same, put_other}
use Rattle.lsys_reads.specs.Lineages.{kin_of, kins, names}
use Rattle.lsys_reads.specs.Levels.{level_of, HaveLevels, answer_at}
use Rattle.lsys_reads.specs.Neighbours.{Neighbours, neighbours_on}

pub record AreAlike (m m' : Nodes Kept) : Type 0 where
  pub kids : ◌≡◌ {A = ℕ → List ℕ} (λ k. kids_in (m' k)) (λ k. kids_in (m k))
  pub spots : ◌≡◌ {A = ℕ → Spotted} (λ k. spot_in k (m' k)) (λ k. spot_in k (m k))
  pub kins : ◌≡◌ {A = Kins} (kins m') (kins m)

pub nodes_alike : (m m' : Nodes Kept) (root : ℕ) → AreAlike m m' → (t : ℕ) → level_nodes m' root t ≡ level_nodes m root t
nodes_alike m m' root h zero = ap (λ (f : ℕ → List ℕ). f root) h.kids
nodes_alike m m' root h (suc t) =
    ap (λ (f : ℕ → List ℕ). flat f (level_nodes m' root t)) h.kids ∙ ap (flat (λ k. kids_in (m k))) (nodes_alike m m' root h t)

pub spots_alike : (m m' : Nodes Kept) (root : ℕ) → AreAlike m m' → (t : ℕ) → level_spots m' root t ≡ level_spots m root t
spots_alike m m' root h t =
    ap (λ (f : ℕ → Spotted). map f (level_nodes m' root t)) h.spots ∙ ap (map (λ k. spot_in k (m k))) (nodes_alike m m' root h t)

pub names_alike : (m m' : Nodes Kept) → AreAlike m m' → ◌≡◌ {A = ℕ → List ℕ} (names m') (names m)
names_alike m m' h = ap naming h.kins

pub level_alike : (m m' : Nodes Kept) (root : ℕ) → AreAlike m m' → (t : ℕ) → level_of m' root t ≡ level_of m root t
level_alike m m' root h t =
    ap (λ (f : ℕ → List ℕ). level_by f (level_spots m' root t)) (names_alike m m' h) ∙ ap (level_by (names m)) (spots_alike m m' root h t)

-- the neighbours as what is seen of each node tells them
abbrev neighbours_by : List ℕ → ℕ → (ℕ → Spotted) → Neighbours
neighbours_by xs p f = record {
  left = node_before xs p;
  right = slice_get xs (p + 1);
  mate = option_and_then first_in (mate_at (map (named (λ k. k ∷ [])) (map f xs)) p (slice_get (map (named (λ k. k ∷ [])) (map f xs)) p));
}

pub neighbours_alike : (m m' : Nodes Kept) → AreAlike m m' → (xs : List ℕ) (p : ℕ) → neighbours_on m' xs p ≡ neighbours_on m xs p
neighbours_alike m m' h xs p = ap (neighbours_by xs p) h.spots

pub have_alike : (m m' : Nodes Kept) (root seed : ℕ) (xs : List (List L.LevelSymbol)) → AreAlike m m' → HaveLevels m root seed xs → HaveLevels m' root seed xs
have_alike m m' root seed xs a h = record {
  each = λ t l. level_alike m m' root a t ∙ h.each t l;
  keys = λ t p x l e.
      h.keys t p x l (ap (λ (r : List Spotted). slice_get r p) (sym (spots_alike m m' root a t)) ∙ e)
      ∙ ap (λ (f : ℕ → List ℕ). key_of seed (f x.tag)) (sym (names_alike m m' a));
  balanced = λ t l. ap (λ (r : List Spotted). level_balanced 0 (level_by (λ tag. []) r)) (spots_alike m m' root a t) ∙ h.balanced t l;
}

-- one node keeps something else

pub alike_put : (m : Nodes Kept) (k : ℕ) (n : Node Kept) (o : Option Kept) → m k ≡ Some n → AreAlike m (with_node m k (Some (with_answer o n)))
alike_put m k n o is = record {
  kids = fun_ext (λ j. elim (cases_eq j k) [
    | inl e ↦ ap kids_in (put_same m k j (Some (with_answer o n)) e) ∙ sym (ap kids_in (ap m e ∙ is))
    | inr ne ↦ ap kids_in (put_other m k j (Some (with_answer o n)) ne)
  ]);
  spots = fun_ext (λ j. elim (cases_eq j k) [
    | inl e ↦ ap (spot_in j) (put_same m k j (Some (with_answer o n)) e) ∙ sym (ap (spot_in j) (ap m e ∙ is))
    | inr ne ↦ ap (spot_in j) (put_other m k j (Some (with_answer o n)) ne)
  ]);
  kins = fun_ext (λ j. elim (cases_eq j k) [
    | inl e ↦ ap (option_map kin_of) (put_same m k j (Some (with_answer o n)) e) ∙ sym (ap (option_map kin_of) (ap m e ∙ is))
    | inr ne ↦ ap (option_map kin_of) (put_other m k j (Some (with_answer o n)) ne)
  ]);
}

pub answer_put : (m : Nodes Kept) (k j : ℕ) (n : Node Kept) (o : Option Kept) → j ≡ k → answer_at (with_node m k (Some (with_answer o n))) j ≡ o
answer_put m k j n o e = ap (option_and_then answer_of) (put_same m k j (Some (with_answer o n)) e)

pub answer_other : (m : Nodes Kept) (k j : ℕ) (n : Node Kept) (o : Option Kept) → j ≢ k → answer_at (with_node m k (Some (with_answer o n))) j ≡ answer_at m j
answer_other m k j n o ne = ap (option_and_then answer_of) (put_other m k j (Some (with_answer o n)) ne)

pub put_again : (m : Nodes Kept) (k : ℕ) (n : Node Kept) → m k ≡ Some n → with_node m k (Some (with_answer n.answer n)) ≡ m
put_again m k n is = fun_ext (λ j. elim (cases_eq j k) [
  | inl e ↦ put_same m k j (Some (with_answer n.answer n)) e ∙ sym (ap m e ∙ is)
  | inr ne ↦ put_other m k j (Some (with_answer n.answer n)) ne
])

-- what was at a number
pub record IsFrom (m : Nodes Kept) (j : ℕ) (n : Node Kept) : Type 0 where
  pub node : Node Kept
  pub is : m j ≡ Some node
  pub kids : n.kids ≡ node.kids
  pub depth : n.depth ≡ node.depth
  pub count : n.count ≡ node.count

pub put_from : (m : Nodes Kept) (k : ℕ) (n : Node Kept) (o : Option Kept) → m k ≡ Some n → (j : ℕ) (x : Node Kept) → with_node m k (Some (with_answer o n)) j ≡ Some x → IsFrom m j x
put_from m k n o is j x there = elim (cases_eq j k) [
  | inl e ↦
      let same : with_answer o n ≡ x = same_Some (with_answer o n) x (sym (put_same m k j (Some (with_answer o n)) e) ∙ there) in
      record { node = n; is = ap m e ∙ is; kids = ap (λ (y : Node Kept). y.kids) (sym same); depth = ap (λ (y : Node Kept). y.depth) (sym same); count = ap (λ (y : Node Kept). y.count) (sym same) }
  | inr ne ↦ record { node = x; is = sym (put_other m k j (Some (with_answer o n)) ne) ∙ there; kids = refl; depth = refl; count = refl }
]

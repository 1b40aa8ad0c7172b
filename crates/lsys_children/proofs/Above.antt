-- The levels above those that change stay.
use Rattle.std.proofs.Common.{◌≡◌, ◌+◌, ◌≤◌, ℕ, zero, suc, map, Some, List, [], ◌∷◌, length, refl, sym, ap, ◌∙◌, subst, arith, inl, inr}
use Rattle.std.specs.Prelude.{slice_get, option_map}
use Rattle.lsys_spec.specs.Rows.{In, flat}
use Rattle.lsys_spec.specs.Draws.{key_of}
use Rattle.lsys_spec.specs.Systems.{System}
use Rattle.lsys_spec.specs.Levels as L
use Rattle.lsys_spec.specs.Levels.{level_balanced}
use Rattle.lsys_laws.specs.Nodes.{AreOnce, Extends}
use Rattle.lsys_laws.proofs.KeptLineages.{stays}
use Rattle.lsys_level.specs.Spots.{Spotted, with_lineage, level_by}
use Rattle.lsys_forest.specs.Nodes.{Node, Nodes}
use Rattle.lsys_forest.specs.Changes.{Change}
use Rattle.lsys_forest.specs.Groves.{IsRooted}
use Rattle.lsys_forest.specs.Rows.{kids_in, spot_in, level_nodes, level_spots}
use Rattle.lsys_forest.proofs.LinkLemmas.{flat_same}
use Rattle.lsys_forest.proofs.RowLemmas.{level_depth}
use Rattle.lsys_walks.specs.Stores.{Store}
use Rattle.lsys_match.specs.Kept.{Kept}
use Rattle.lsys_reads.specs.Lineages.{kin_of, kins, names}
use Rattle.lsys_reads.specs.Levels.{HaveLevels, AnsweredIn, AnsweredAt, answer_at}
use Rattle.lsys_children.specs.Renewals.{KeepsUpper}
use Rattle.lsys_children.proofs.Nexts.{tag_of, spot_of}

pub map_same : {X : Type 0} (f g : ℕ → X) (xs : List ℕ) → ((k : ℕ) → In k xs → f k ≡ g k) → map f xs ≡ map g xs
map_same f g [] h = refl
map_same f g (x ∷ xs) h = (λ i. h x (inl refl) i ∷ map_same f g xs (λ k j. h k (inr j)) i)

module _ {A : Type 0} where
  pub name_stays : (old new : Nodes A) (root k : ℕ) (n : Node A) → AreOnce (kins old) root → Extends (kins old) (kins new) → old k ≡ Some n → names new k ≡ names old k
  name_stays old new root k n once stay is = stays (kins old) (kins new) root k (kin_of n) once stay (ap (option_map (λ (n : Node A). kin_of n)) is)

  module _ (root : ℕ) (changes : List (Change A)) (old new : Nodes A) (sound : IsRooted root changes old) (t : ℕ) (h : KeepsUpper old new (t + 1)) where
    pub upper_nodes : (u : ℕ) → u ≤ t → level_nodes new root u ≡ level_nodes old root u
    upper_nodes zero l = h.lists root sound.root_lives.0 sound.root_lives.1 (let d = sound.root_lives.2 in omega (arith, d))
    upper_nodes (suc u) l =
        ap (flat (λ k. kids_in (new k))) (upper_nodes u (omega (arith, l)))
        ∙ flat_same (λ k. kids_in (new k)) (λ k. kids_in (old k)) (level_nodes old root u)
        (λ k i. (let d = level_depth root changes old sound u k i in let e : d.0.depth ≡ u + 1 = d.2 in h.lists k d.0 d.1 (omega (arith, e, l))))

    pub upper_spots : (u : ℕ) → u ≤ t → level_spots new root u ≡ level_spots old root u
    upper_spots u l =
        ap (map (λ k. spot_in k (new k))) (upper_nodes u l)
        ∙ map_same (λ k. spot_in k (new k)) (λ k. spot_in k (old k)) (level_nodes old root u)
        (λ k i. (let d = level_depth root changes old sound u k i in let e : d.0.depth ≡ u + 1 = d.2 in h.spots k d.0 d.1 (omega (arith, e, l))))

    module _ (once : AreOnce (kins old) root) (stay : Extends (kins old) (kins new)) where
      name_there : (u k : ℕ) → In k (level_nodes old root u) → names new k ≡ names old k
      name_there u k i = let d = level_depth root changes old sound u k i in name_stays old new root k d.0 once stay d.1

      upper_level : (ks : List ℕ) → ((k : ℕ) → In k ks → names new k ≡ names old k)
          → level_by (names new) (map (λ k. spot_in k (old k)) ks) ≡ level_by (names old) (map (λ k. spot_in k (old k)) ks)
      upper_level [] f = refl
      upper_level (k ∷ ks) f =
          let same : names new (spot_in k (old k)).tag ≡ names old (spot_in k (old k)).tag = subst (λ j. names new j ≡ names old j) (sym (tag_of k (old k))) (f k (inl refl)) in
          (λ i. with_lineage (same i) (spot_in k (old k)).seen ∷ upper_level ks (λ j g. f j (inr g)) i)

      pub upper_levels_by : (u : ℕ) → u ≤ t → level_by (names new) (level_spots new root u) ≡ level_by (names old) (level_spots old root u)
      upper_levels_by u l = ap (level_by (names new)) (upper_spots u l) ∙ upper_level (level_nodes old root u) (name_there u)

      pub upper_keys : (seed u : ℕ) → u ≤ t → ((p : ℕ) (a : Spotted) → slice_get (level_spots old root u) p ≡ Some a → a.key ≡ key_of seed (names old a.tag))
          → (p : ℕ) (a : Spotted) → slice_get (level_spots new root u) p ≡ Some a → a.key ≡ key_of seed (names new a.tag)
      upper_keys seed u l f p a g =
          let there : slice_get (level_spots old root u) p ≡ Some a = ap (λ (x : List Spotted). slice_get x p) (sym (upper_spots u l)) ∙ g in
          let k = spot_of old (level_nodes old root u) p a there in
          let tag : a.tag ≡ k.0 = ap (λ (a : Spotted). a.tag) (sym k.2) ∙ tag_of k.0 (old k.0) in
          f p a there ∙ ap (key_of seed) (ap (names old) tag ∙ sym (name_there u k.0 k.1) ∙ ap (names new) (sym tag))

module _ (root : ℕ) (changes : List (Change Kept)) (old new : Nodes Kept) (sound : IsRooted root changes old) (t : ℕ) (h : KeepsUpper old new (t + 1))
    (once : AreOnce (kins old) root) (stay : Extends (kins old) (kins new)) where
  pub upper_levels : (seed : ℕ) (xs : List (List L.LevelSymbol)) → length xs ≤ t + 1 → HaveLevels old root seed xs → HaveLevels new root seed xs
  upper_levels seed xs short was = record {
    each = λ u l. upper_levels_by root changes old new sound t h once stay u (omega (arith, l, short)) ∙ was.each u l;
    keys = λ u p a l g. upper_keys root changes old new sound t h once stay seed u (omega (arith, l, short)) (λ p a f. was.keys u p a l f) p a g;
    balanced = λ u l. ap (λ (x : List Spotted). level_balanced 0 (level_by (λ tag. []) x)) (upper_spots root changes old new sound t h u (omega (arith, l, short))) ∙ was.balanced u l;
  }

pub upper_answers : (root : ℕ) (changes : List (Change Kept)) (old new : Nodes Kept) → IsRooted root changes old → (t : ℕ) → KeepsUpper old new (t + 1)
    → (s : System) (store : Store) (u p k : ℕ) → u ≤ t → answer_at new k ≡ answer_at old k → AnsweredAt s u old root store p k → AnsweredAt s u new root store p k
upper_answers root changes old new sound t h s store u p k l e was =
    subst (λ (row : List Spotted). AnsweredIn s u row store p (answer_at new k)) (sym (upper_spots root changes old new sound t h u l)) (subst (AnsweredIn s u (level_spots old root u) store p) (sym e) was)

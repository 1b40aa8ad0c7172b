-- The next level of nodes.
use Rattle.std.proofs.Common.{◌≡◌, ◌+◌, ◌<◌, ◌≤◌, ℕ, zero, suc, Bool, true, false, cond, map, Option, Some, None, Result, Ok, List, [], ◌∷◌, ◌++◌, length, refl, sym, ap, ◌∙◌, subst, arith, inl, inr, add-one, sum_by}
use Rattle.std.specs.Prelude.{slice_get, get_or}
use Rattle.std.proofs.lemmas.Bool.{cases_lt}
use Rattle.std.proofs.lemmas.Bool.Decides.{nat_tests}
use Rattle.std.proofs.lemmas.List.{map-append, length-map, length_push}
use Rattle.std.proofs.lemmas.List.Sums.{sum_by_push}
use Rattle.std.proofs.lemmas.Option.{same_Some, slice_get-get_or}
use Rattle.std.proofs.Math.ListN.{get_or-append}
use Rattle.std.proofs.Math.Seq.{get_or-append_seam}
use Rattle.lsys_spec.specs.Rows.{In}
use Rattle.lsys_syntax.specs.Commands.{Numbering}
use Rattle.lsys_spec.specs.Draws.{key_of}
use Rattle.lsys_spec.specs.Systems.{System}
use Rattle.lsys_spec.specs.Values.{◌and_then◌}
use Rattle.lsys_spec.specs.Levels as L
use Rattle.lsys_spec.specs.Levels.{lineage, level_balanced}
use Rattle.lsys_spec.specs.Cuts.{cut}
use Rattle.lsys_spec.specs.Meaning.{LevelRefusal, children, next_level, last_level, within_limit, meaning_to, replacement}
use Rattle.lsys_laws.specs.Kinds.{stays, reached}
use Rattle.lsys_laws.specs.Kinds as kinds
use Rattle.lsys_laws.specs.Children.{own_children, is_open, AreReplaced, row}
use Rattle.lsys_laws.proofs.Rows.{kept_level}
use Rattle.lsys_laws.proofs.UpTo.{level_count, grown_to}
use Rattle.lsys_level.specs.Spots.{Seen, Push, Pop, Module, Spotted, with_lineage, named, level_by}
use Rattle.lsys_forest.specs.Nodes.{Node, Nodes}
use Rattle.lsys_forest.specs.Rows.{kids_in, kids_below, spot_in, level_nodes, level_spots}
use Rattle.lsys_forest.proofs.RowLemmas.{In_append}
use Rattle.lsys_children.specs.Children.{bracket_kind}
use Rattle.lsys_match.specs.Kept.{Kept}
use Rattle.lsys_reads.specs.Lineages.{names}
use Rattle.lsys_reads.specs.Levels.{level_of, HaveLevels}
use Rattle.lsys_reads.specs.Meant.{levels_or_none, meant_to}
use Rattle.lsys_children.specs.Nexts.{Successors, node_symbol, node_kind, node_key, HaveWanted, HaveNext}

-- 1. symbols and spots

map_map : {X Y Z : Type 0} (f : Y → Z) (h : X → Y) (xs : List X) → map f (map h xs) ≡ map (λ x. f (h x)) xs
map_map f h [] = refl
map_map f h (x ∷ xs) = ap (λ zs. f (h x) ∷ zs) (map_map f h xs)

pub lineage_with : (l : List ℕ) (x : Seen) → lineage (with_lineage l x) ≡ l
lineage_with l Push = refl
lineage_with l Pop = refl
lineage_with l (Module v) = refl

pub kind_with : (l : List ℕ) (x : Seen) → kinds.kind_of_symbol (with_lineage l x) ≡ bracket_kind x
kind_with l Push = refl
kind_with l Pop = refl
kind_with l (Module v) = refl

module _ {A : Type 0} where
  pub tag_of : (k : ℕ) (o : Option (Node A)) → (spot_in k o).tag ≡ k
  tag_of k None = refl
  tag_of k (Some n) = refl

  pub lineage_at : (m : Nodes A) (k : ℕ) → lineage (node_symbol m k) ≡ names m k
  lineage_at m k = lineage_with (names m (spot_in k (m k)).tag) (spot_in k (m k)).seen ∙ ap (names m) (tag_of k (m k))

  pub level_symbols : (m : Nodes A) (ks : List ℕ) → level_by (names m) (map (λ k. spot_in k (m k)) ks) ≡ map (node_symbol m) ks
  level_symbols m ks = map_map (named (names m)) (λ k. spot_in k (m k)) ks

  -- a spot is one of a node
  pub spot_of : (m : Nodes A) (ks : List ℕ) (p : ℕ) (a : Spotted) → slice_get (map (λ k. spot_in k (m k)) ks) p ≡ Some a → (k : ℕ) × In k ks × (spot_in k (m k) ≡ a)
  spot_of m [] p a g = cc
  spot_of m (k ∷ ks) zero a g = (k, inl refl, same_Some (spot_in k (m k)) a g)
  spot_of m (k ∷ ks) (suc p) a g = let r = spot_of m ks p a g in (r.0, inr r.1, r.2)

  -- 2. the level below these nodes

  pub below_row : (g : Numbering) (seed : ℕ) (m : Nodes A) (by : Successors) (o : Option ℕ) (ks : List ℕ) → HaveWanted g seed m by o ks
      → map (node_symbol m) (kids_below m ks) ≡ row g o (map (node_symbol m) ks) (map by ks)
  below_row g seed m by o [] h = refl
  below_row g seed m by o (k ∷ ks) h =
      let a : L.LevelSymbol = node_symbol m k in
      let kind : kinds.kind_of_symbol a ≡ node_kind m k = kind_with (names m (spot_in k (m k)).tag) (spot_in k (m k)).seen in
      map-append (node_symbol m) (kids_in (m k)) (kids_below m ks)
      ∙ ap (λ y. y ++ map (node_symbol m) (kids_below m ks)) (h.0.symbols ∙ own (stays o (node_kind m k)) ∙ ap (λ b. cond (stays o b) (own_children g a (by k)) []) (sym kind))
      ∙ ap (λ y. cond (stays o (kinds.kind_of_symbol a)) (own_children g a (by k)) [] ++ y)
      (below_row g seed m by (reached o (node_kind m k) (is_open (by k))) ks h.1 ∙ ap (λ b. row g (reached o b (is_open (by k))) (map (node_symbol m) ks) (map by ks)) (sym kind))
    where
      own : (b : Bool) → cut (children g (names m k) (cond b (by k) [])) ≡ cond b (own_children g (node_symbol m k) (by k)) []
      own true = ap (λ l. cut (children g l (by k))) (sym (lineage_at m k))
      own false = refl

  pub below_keys : (g : Numbering) (seed : ℕ) (m : Nodes A) (by : Successors) (o : Option ℕ) (ks : List ℕ) → HaveWanted g seed m by o ks
      → (j : ℕ) → In j (kids_below m ks) → node_key m j ≡ key_of seed (names m j)
  below_keys g seed m by o [] h j i = absurd i
  below_keys g seed m by o (k ∷ ks) h j i = elim (In_append (kids_in (m k)) (kids_below m ks) j i) [
    | inl a ↦ h.0.keys j a
    | inr b ↦ below_keys g seed m by (reached o (node_kind m k) (is_open (by k))) ks h.1 j b
  ]

  -- 3. what replaces the nodes replaces the level

  replaced_from : (s : System) (t : ℕ) (x : List L.LevelSymbol) (m : Nodes A) (by : Successors) (p : ℕ) (ks : List ℕ)
      → ((i k : ℕ) → slice_get ks i ≡ Some k → replacement s t x (p + i) (node_symbol m k) ≡ Ok (by k)) → AreReplaced s t x p (map (node_symbol m) ks) (map by ks)
  replaced_from s t x m by p [] h = refl
  replaced_from s t x m by p (k ∷ ks) h =
      let e : p + 0 ≡ p = omega arith in (
        ap (λ p. replacement s t x p (node_symbol m k)) (sym e) ∙ h 0 k refl,
        replaced_from s t x m by (p + 1) ks (λ i j g. (let f : p + 1 + i ≡ p + suc i = omega arith in ap (λ p. replacement s t x p (node_symbol m j)) f ∙ h (suc i) j g)),
      )

  pub all_replaced : (s : System) (t : ℕ) (x : List L.LevelSymbol) (m : Nodes A) (by : Successors) (ks : List ℕ)
      → ((p k : ℕ) → slice_get ks p ≡ Some k → replacement s t x p (node_symbol m k) ≡ Ok (by k)) → AreReplaced s t x 0 (map (node_symbol m) ks) (map by ks)
  all_replaced s t x m by ks h = replaced_from s t x m by 0 ks (λ i k g. (let f : 0 + i ≡ i = omega arith in ap (λ p. replacement s t x p (node_symbol m k)) f ∙ h i k g))

-- 4. levels of a system

pub last_there : (xs : List (List L.LevelSymbol)) (t : ℕ) → length xs ≡ t + 1 → last_level xs ≡ get_or xs t []
last_there [] t h = absurd (omega (arith, h))
last_there (x ∷ []) zero h = refl
last_there (x ∷ []) (suc t) h = absurd (omega (arith, h))
last_there (x ∷ y ∷ xs) zero h = absurd (omega (arith, h))
last_there (x ∷ y ∷ xs) (suc t) h = last_there (y ∷ xs) t (omega (arith, h))

-- balance is one of kinds
pub balance_by : (f h : ℕ → List ℕ) (n : ℕ) (xs : List Spotted) → level_balanced n (level_by f xs) ≡ level_balanced n (level_by h xs)
balance_by f h n [] = refl
balance_by f h n (x ∷ xs) = by x.seen n (λ n. balance_by f h n xs)
  where
    by : (y : Seen) (n : ℕ) → ((n : ℕ) → level_balanced n (level_by f xs) ≡ level_balanced n (level_by h xs))
        → level_balanced n (with_lineage (f x.tag) y ∷ level_by f xs) ≡ level_balanced n (with_lineage (h x.tag) y ∷ level_by h xs)
    by Push n rest = rest (suc n)
    by Pop zero rest = refl
    by Pop (suc n) rest = rest n
    by (Module v) n rest = rest n

pub within : (limit t : ℕ) (xs : List (List L.LevelSymbol)) → sum_by length xs ≤ limit → within_limit limit t xs ≡ Ok xs
within limit t xs h = grind (arith, nat_tests)

module _ (s : System) (limit t : ℕ) (m : Nodes Kept) (root : ℕ) (by : Successors) (h : HaveNext s limit t m root by) where
  count : length (meant_to s limit t) ≡ t + 1
  count = level_count s limit t (meant_to s limit t) h.level.spelled h.level.is

  here : last_level (meant_to s limit t) ≡ level_of m root t
  here = last_there (meant_to s limit t) t count ∙ sym (h.level.levels.each t (omega (arith, count)))

  abbrev nodes : List ℕ
  nodes = level_nodes m root t

  row_is : level_of m root (suc t) ≡ row s.numbering None (map (node_symbol m) nodes) (map by nodes)
  row_is = level_symbols m (kids_below m nodes) ∙ below_row s.numbering s.seed m by None nodes h.children

  replaced : AreReplaced s t (level_of m root t) 0 (map (node_symbol m) nodes) (map by nodes)
  replaced = all_replaced s t (level_of m root t) m by nodes h.level.replaced

  pub next : next_level s t (last_level (meant_to s limit t)) ≡ Ok (level_of m root (t + 1))
  next =
      let x : List L.LevelSymbol = map (node_symbol m) nodes in
      let same : level_of m root t ≡ x = level_symbols m nodes in
      ap (next_level s t) (here ∙ same)
      ∙ kept_level s t x (map by nodes) h.level.spelled (subst (λ y. AreReplaced s t y 0 x (map by nodes)) same replaced)
      ∙ ap Ok (sym row_is) ∙ ap (λ u. Ok (level_of m root u)) (sym (add-one t))

  -- the levels with the next one
  abbrev pub more : List (List L.LevelSymbol)
  more = meant_to s limit t ++ level_of m root (t + 1) ∷ []

  fits : sum_by length (meant_to s limit t) + length (level_nodes m root (t + 1)) ≤ limit → sum_by length more ≤ limit
  fits l = omega (arith, sum_by_push (length {A = L.LevelSymbol}) (meant_to s limit t) (level_of m root (t + 1)), long, l)
    where
      long : length (level_of m root (t + 1)) ≡ length (level_nodes m root (t + 1))
      long = ap length (level_symbols m (level_nodes m root (t + 1))) ∙ length-map (level_nodes m root (t + 1)) (node_symbol m)

  pub meant_more : sum_by length (meant_to s limit t) + length (level_nodes m root (t + 1)) ≤ limit → meaning_to s limit (t + 1) ≡ Ok more
  meant_more l =
      ap (meaning_to s limit) (add-one t)
      ∙ ap (λ (r : Result (List (List L.LevelSymbol)) LevelRefusal). r and_then λ levels. next_level s t (last_level levels) and_then λ x. within_limit limit (suc t) (levels ++ x ∷ [])) h.level.is
      ∙ ap (λ (r : Result (List L.LevelSymbol) LevelRefusal). r and_then λ x. within_limit limit (suc t) (meant_to s limit t ++ x ∷ [])) next
      ∙ within limit (suc t) more (fits l)

  pub levels_more : meaning_to s limit (t + 1) ≡ Ok more → HaveLevels m root s.seed more
  levels_more e = record {
    each = λ u l. elim (cases_lt u (t + 1)) [ inl a ↦ each_old u a | inr b ↦ each_new u l b ];
    keys = λ u p a l g. elim (cases_lt u (t + 1)) [ inl b ↦ h.level.levels.keys u p a (omega (arith, b, count)) g | inr b ↦ keys_new u p a l b g ];
    balanced = λ u l. elim (cases_lt u (t + 1)) [ inl a ↦ h.level.levels.balanced u (omega (arith, a, count)) | inr b ↦ balanced_new u l b ];
  }
    where
      long : length more ≡ t + 2
      long = length_push (meant_to s limit t) (level_of m root (t + 1)) ∙ omega (arith, count)

      each_old : (u : ℕ) → u < t + 1 → level_of m root u ≡ get_or more u []
      each_old u a = h.level.levels.each u (omega (arith, a, count)) ∙ sym (get_or-append (meant_to s limit t) (level_of m root (t + 1) ∷ []) [] u (omega (arith, a, count)))

      last_is : get_or more (t + 1) [] ≡ level_of m root (t + 1)
      last_is = ap (λ u. get_or more u []) (sym count) ∙ get_or-append_seam (meant_to s limit t) (level_of m root (t + 1)) [] []

      each_new : (u : ℕ) → u < length more → t + 1 ≤ u → level_of m root u ≡ get_or more u []
      each_new u l b = let e : t + 1 ≡ u = omega (arith, l, b, long) in subst (λ u. level_of m root u ≡ get_or more u []) e (sym last_is)

      keys_new : (u p : ℕ) (a : Spotted) → u < length more → t + 1 ≤ u → slice_get (level_spots m root u) p ≡ Some a → a.key ≡ key_of s.seed (names m a.tag)
      keys_new u p a l b g =
          let e : u ≡ suc t = omega (arith, l, b, long) in
          let g1 : slice_get (map (λ k. spot_in k (m k)) (kids_below m nodes)) p ≡ Some a = ap (λ u. slice_get (level_spots m root u) p) (sym e) ∙ g in
          let f = spot_of m (kids_below m nodes) p a g1 in
          ap (λ (a : Spotted). a.key) (sym f.2) ∙ below_keys s.numbering s.seed m by None nodes h.children f.0 f.1
          ∙ ap (λ k. key_of s.seed (names m k)) (sym (tag_of f.0 (m f.0)) ∙ ap (λ (a : Spotted). a.tag) f.2)

      balanced_new : (u : ℕ) → u < length more → t + 1 ≤ u → level_balanced 0 (level_by (λ tag. []) (level_spots m root u)) ≡ true
      balanced_new u l b =
          let i : t + 1 ≡ u = omega (arith, l, b, long) in
          let at : slice_get more (t + 1) ≡ Some (level_of m root (t + 1)) = slice_get-get_or more (t + 1) [] (omega (arith, long)) ∙ ap Some last_is in
          subst (λ u. level_balanced 0 (level_by (λ tag. []) (level_spots m root u)) ≡ true) i
          (balance_by (λ tag. []) (names m) 0 (level_spots m root (t + 1)) ∙ (grown_to s limit (t + 1) more h.level.spelled e (t + 1) (level_of m root (t + 1)) at).balanced)

  pub meant_next : sum_by length (meant_to s limit t) + length (level_nodes m root (t + 1)) ≤ limit → meant_to s limit (t + 1) ≡ more
  meant_next l = ap levels_or_none (meant_more l)

  pub next_meant : sum_by length (meant_to s limit t) + length (level_nodes m root (t + 1)) ≤ limit → meaning_to s limit (t + 1) ≡ Ok (meant_to s limit (t + 1))
  next_meant l = meant_more l ∙ ap Ok (sym (meant_next l))

  pub next_levels : sum_by length (meant_to s limit t) + length (level_nodes m root (t + 1)) ≤ limit → HaveLevels m root s.seed (meant_to s limit (t + 1))
  next_levels l = subst (HaveLevels m root s.seed) (sym (meant_next l)) (levels_more (meant_more l))

-- How many nodes live in a pass at rest.
use Rattle.std.proofs.Common.{◌≡◌, ◌⊎◌, ◌+◌, ◌<◌, ◌≤◌, ℕ, zero, suc, List, [], ◌∷◌, ◌++◌, length, take, get_or, cond, Option, Some, None, refl, sym, ap, ◌∙◌, subst, inl, inr, arith}
use Rattle.std.specs.Prelude.{is_some, count_by, sum_by, option_map}
use Rattle.std.proofs.lemmas.Bool.{cases_lt}
use Rattle.std.proofs.lemmas.List.{length-append, take_all}
use Rattle.std.proofs.lemmas.List.Sums.{sum_by-cons, sum_by_more}
use Rattle.std.proofs.lemmas.Option.{none-some, same_Some}
use Rattle.lsys_spec.specs.Rows.{In, AreApart}
use Rattle.lsys_level.specs.Spots.{Spotted}
use Rattle.lsys_match.specs.Kept.{Kept}
use Rattle.lsys_forest.specs.Nodes.{Node, Nodes}
use Rattle.lsys_forest.specs.Changes.{Change}
use Rattle.lsys_forest.specs.Slots.{slot_at}
use Rattle.lsys_forest.specs.Stocks.{row_at, node_of}
use Rattle.lsys_forest.specs.Groves.{IsRooted, ReachedIn, changes_in, live_nodes}
use Rattle.lsys_forest.specs.Rows.{level_nodes}
use Rattle.lsys_forest.proofs.RowLemmas.{In_append, In_left, In_right, apart_append, level_depth, level_apart}
use Rattle.lsys_forest.proofs.SoundLemmas.{AreSound-now}
use Rattle.lsys_forest.proofs.StockLemmas.{stored_of}
use Rattle.lsys_pass.specs.Passes.{PassView, now_in, IsPass}
use Rattle.lsys_pass.specs.Views.{pass_levels, IsQuiet}
use Rattle.lsys_pass.proofs.Before.{reached_on}
use Rattle.lsys_pass.proofs.Counting.{same_length}
use Rattle.lsys_pass.proofs.Deriving.{rest_now, count, nodes_at, none_after}

-- 1. the numbers of slots that aren't empty

module _ {A : Type 0} where
  abbrev numbers_from : ℕ → List (Option A) → List ℕ
  numbers_from n [] = []
  numbers_from n (None ∷ xs) = numbers_from (suc n) xs
  numbers_from n (Some x ∷ xs) = n ∷ numbers_from (suc n) xs

  numbers_long : (n : ℕ) (xs : List (Option A)) → length (numbers_from n xs) ≡ count_by is_some xs
  numbers_long n [] = refl
  numbers_long n (None ∷ xs) =
      let r = numbers_long (suc n) xs in
      let s = sum_by-cons (λ (o : Option A). cond (is_some o) 1 0) None xs in
      omega (arith, r, s)
  numbers_long n (Some x ∷ xs) =
      let r = numbers_long (suc n) xs in
      let s = sum_by-cons (λ (o : Option A). cond (is_some o) 1 0) (Some x) xs in
      omega (arith, r, s)

  -- what stands at a number, counted from n
  record IsThere (n : ℕ) (xs : List (Option A)) (k : ℕ) : Type 0 where
    place : ℕ
    is : k ≡ n + place
    item : A
    there : get_or xs place None ≡ Some item

  number_there : (n : ℕ) (xs : List (Option A)) (k : ℕ) → In k (numbers_from n xs) → IsThere n xs k
  number_there n [] k i = absurd i
  number_there n (None ∷ xs) k i =
      let r = number_there (suc n) xs k i in
      let e = r.is in
      record { place = suc r.place; is = omega (arith, e); item = r.item; there = r.there }
  number_there n (Some x ∷ xs) k (inl e) = record { place = 0; is = omega (arith, e); item = x; there = refl }
  number_there n (Some x ∷ xs) k (inr i) =
      let r = number_there (suc n) xs k i in
      let e = r.is in
      record { place = suc r.place; is = omega (arith, e); item = r.item; there = r.there }

  numbers_apart : (n : ℕ) (xs : List (Option A)) → AreApart (numbers_from n xs)
  numbers_apart n [] = tt
  numbers_apart n (None ∷ xs) = numbers_apart (suc n) xs
  numbers_apart n (Some x ∷ xs) = (λ i. (let r = number_there (suc n) xs n i in let e = r.is in omega (arith, e)), numbers_apart (suc n) xs)

  number_among : (n : ℕ) (xs : List (Option A)) (i : ℕ) (x : A) → get_or xs i None ≡ Some x → In (n + i) (numbers_from n xs)
  number_among n [] i x e = absurd (none-some x e)
  number_among n (None ∷ xs) zero x e = absurd (none-some x e)
  number_among n (None ∷ xs) (suc i) x e = let same : suc n + i ≡ n + suc i = omega arith in subst (λ k. In k (numbers_from (suc n) xs)) same (number_among (suc n) xs i x e)
  number_among n (Some y ∷ xs) zero x e = inl (omega arith)
  number_among n (Some y ∷ xs) (suc i) x e = let same : suc n + i ≡ n + suc i = omega arith in inr (subst (λ k. In k (numbers_from (suc n) xs)) same (number_among (suc n) xs i x e))

-- 2. the nodes of levels

-- those of the levels before level t
abbrev nodes_to : Nodes Kept → ℕ → ℕ → List ℕ
nodes_to m root zero = []
nodes_to m root (suc t) = nodes_to m root t ++ level_nodes m root t

module _ (m : Nodes Kept) (root : ℕ) (changes : List (Change Kept)) (sound : IsRooted root changes m) where
  level_among : (t k : ℕ) → In k (nodes_to m root t) → (u : ℕ) × (u < t) × In k (level_nodes m root u)
  level_among zero k i = absurd i
  level_among (suc t) k i = elim (In_append (nodes_to m root t) (level_nodes m root t) k i) [
    | inl l ↦ (let r = level_among t k l in (r.0, (let b = r.1 in omega (arith, b)), r.2))
    | inr on ↦ (t, omega arith, on)
  ]

  among_level : (t u k : ℕ) → u < t → In k (level_nodes m root u) → In k (nodes_to m root t)
  among_level zero u k l i = absurd (omega (arith, l))
  among_level (suc t) u k l i = by (cases_lt u t) (λ b. among_level t u k b i)
    where
      by : (u < t) ⊎ (t ≤ u) → (u < t → In k (nodes_to m root t)) → In k (nodes_to m root t ++ level_nodes m root t)
      by (inl b) rec = In_left k (nodes_to m root t) (level_nodes m root t) (rec b)
      by (inr g) rec = let same : u ≡ t = omega (arith, l, g) in In_right k (nodes_to m root t) (level_nodes m root t) (subst (λ w. In k (level_nodes m root w)) same i)

  one_level : (t u k : ℕ) → In k (level_nodes m root t) → In k (level_nodes m root u) → t ≡ u
  one_level t u k i j =
      let a = level_depth root changes m sound t k i in
      let b = level_depth root changes m sound u k j in
      let e = ap (λ (n : Node Kept). n.depth) (same_Some a.0 b.0 (sym a.1 ∙ b.1)) in
      omega (arith, e, a.2, b.2)

  nodes_apart : (t : ℕ) → AreApart (nodes_to m root t)
  nodes_apart zero = tt
  nodes_apart (suc t) =
      apart_append (nodes_to m root t) (level_nodes m root t) (nodes_apart t) (level_apart root changes m sound t)
      (λ k i on. (let r = level_among t k i in let e = one_level r.0 t k r.2 on in let b = r.1 in omega (arith, e, b)))

  root_out : (t : ℕ) → In root (nodes_to m root t) → ⊥
  root_out t i =
      let r = level_among t root i in
      let a = level_depth root changes m sound r.0 root r.2 in
      let z = sound.root_lives in
      let e = ap (λ (n : Node Kept). n.depth) (same_Some a.0 z.0 (sym a.1 ∙ z.1)) in
      let b = a.2 in
      let d = z.2 in
      omega (arith, e, b, d)

  -- what is reached is the root, or stands on a level
  reached_at : (d k : ℕ) → ReachedIn m root d k → (k ≡ root) ⊎ ((t : ℕ) × In k (level_nodes m root t))
  reached_at zero k e = inl e
  reached_at (suc d) k h = inr (d, reached_on m root d k h)

-- 3. a pass at rest

module _ (v : PassView) (h : IsPass v) (q : IsQuiet v) where
  abbrev levels : ℕ
  levels = v.system.depth + 1

  abbrev all_nodes : List ℕ
  all_nodes = nodes_to (now_in v) v.forest.root levels

  sound : IsRooted v.forest.root (changes_in v.forest) (now_in v)
  sound = AreSound-now v.forest.root (changes_in v.forest) (now_in v) h.stored.sound

  lives_slot : (k : ℕ) (n : Node Kept) → now_in v k ≡ Some n → In k (numbers_from 0 v.forest.stock.slots)
  lives_slot k n e =
      let s = stored_of v.forest.stock.slots v.forest.stock.params v.forest.stock.kids k n e in
      let same : 0 + k ≡ k = omega arith in
      subst (λ j. In j (numbers_from 0 v.forest.stock.slots)) same (number_among 0 v.forest.stock.slots k s.0 s.1)

  node_slot : (k : ℕ) → In k (v.forest.root ∷ all_nodes) → In k (numbers_from 0 v.forest.stock.slots)
  node_slot k (inl e) = let z = sound.root_lives in lives_slot k z.0 (ap (now_in v) e ∙ z.1)
  node_slot k (inr i) =
      let r = level_among (now_in v) v.forest.root (changes_in v.forest) sound levels k i in
      let a = level_depth v.forest.root (changes_in v.forest) (now_in v) sound r.0 k r.2 in
      lives_slot k a.0 a.1

  slot_node : (k : ℕ) → In k (numbers_from 0 v.forest.stock.slots) → In k (v.forest.root ∷ all_nodes)
  slot_node k i =
      let r = number_there 0 v.forest.stock.slots k i in
      let e = r.is in
      let same : r.place ≡ k = omega (arith, e) in
      let lives = ap (option_map (node_of (row_at v.forest.stock.params k) (row_at v.forest.stock.kids k))) (ap (slot_at v.forest.stock.slots) (sym same) ∙ r.there) in
      let reached = (rest_now v h q.state).reached k (node_of (row_at v.forest.stock.params k) (row_at v.forest.stock.kids k) r.item) lives in
      elim (reached_at (now_in v) v.forest.root (changes_in v.forest) sound reached.0 k reached.1) [
        | inl e ↦ inl e
        | inr on ↦ inr (elim (cases_lt on.0 levels) [
          | inl l ↦ among_level (now_in v) v.forest.root (changes_in v.forest) sound levels on.0 k l on.1
          | inr g ↦ absurd (subst (In k) (none_after v h q on.0 g) on.1)
        ])
      ]

  sums : (t : ℕ) → t ≤ levels → length (nodes_to (now_in v) v.forest.root t) ≡ sum_by length (take t (pass_levels v))
  sums zero l = refl
  sums (suc t) l =
      let r = sums t (omega (arith, l)) in
      let c = count v h q in
      let more = sum_by_more (length {A = Spotted}) (pass_levels v) t [] (omega (arith, l, c)) in
      let here = nodes_at v h q t (omega (arith, l)) in
      let whole = length-append (nodes_to (now_in v) v.forest.root t) (level_nodes (now_in v) v.forest.root t) in
      let step : t + 1 ≡ suc t = omega arith in
      let sum = ap (λ i. sum_by length (take i (pass_levels v))) step in
      omega (arith, r, more, here, whole, sum)

  pub live_is : live_nodes v.forest ≡ sum_by length (pass_levels v) + 1
  live_is =
      let same =
      same_length (v.forest.root ∷ all_nodes) (numbers_from 0 v.forest.stock.slots)
      (root_out (now_in v) v.forest.root (changes_in v.forest) sound levels, nodes_apart (now_in v) v.forest.root (changes_in v.forest) sound levels)
      (numbers_apart 0 v.forest.stock.slots) node_slot slot_node in
      let many = numbers_long 0 v.forest.stock.slots in
      let sum = sums levels (omega arith) in
      let whole = ap (sum_by (length {A = Spotted})) (take_all levels (pass_levels v) (let c = count v h q in omega (arith, c))) in
      omega (arith, same, many, sum, whole)

-- A pass at rest has the levels of its system.
use Rattle.std.proofs.Common.{◌≡◌, ◌+◌, ◌-◌, ◌<◌, ◌≤◌, ◌⊎◌, ℕ, zero, suc, Bool, List, [], ◌∷◌, length, map, get_or, slice_get, Option, Some, None, refl, sym, ap, ◌∙◌, subst, inl, inr, arith}
use Rattle.std.specs.Prelude.{sum_by, IsSome}
use Rattle.std.proofs.lemmas.Bool.{cases_lt}
use Rattle.std.proofs.lemmas.List.{length-map, length-take-le, get_or_past}
use Rattle.std.proofs.lemmas.List.Sums.{sum_by-cons}
use Rattle.std.proofs.lemmas.Option.{slice_get_within}
use Rattle.lsys_spec.specs.Draws.{key_of}
use Rattle.lsys_spec.specs.Systems.{System}
use Rattle.lsys_spec.specs.Levels.{LevelSymbol, lineage, plain}
use Rattle.lsys_laws.proofs.UpTo.{level_count}
use Rattle.lsys_level.specs.Spots.{Seen, Push, Pop, Module, Spotted, with_lineage, named, level_by, spots_at, spotted_at}
use Rattle.lsys_level.specs.Tags.{HasOwnTags}
use Rattle.lsys_match.specs.Kept.{Kept}
use Rattle.lsys_match.specs.Derivations.{symbol_at}
use Rattle.lsys_walks.specs.Stores.{Store}
use Rattle.lsys_reads.specs.Relations.{Relations}
use Rattle.lsys_spec.specs.Rows.{In}
use Rattle.lsys_forest.specs.Nodes.{Node, Nodes}
use Rattle.lsys_forest.specs.Groves.{IsAtRest, ReachedIn}
use Rattle.lsys_forest.specs.Changes.{Change, undone}
use Rattle.lsys_forest.specs.Rows.{spot_in, level_nodes, level_spots, complete_levels, AreBalancedTo}
use Rattle.lsys_forest.proofs.ViewLemmas.{are_told, told_is}
use Rattle.lsys_reads.specs.declared.seat.Seat.{Seat}
use Rattle.lsys_reads.proofs.LevelLemmas.{lineage_at}
use Rattle.lsys_reads.specs.Lineages.{names}
use Rattle.lsys_reads.specs.Meant.{levels_meant}
use Rattle.lsys_pass.specs.declared.sizes.Size.{Size}
use Rattle.lsys_pass.specs.declared.state.PassState.TheVariants.{Rest}
use Rattle.lsys_pass.specs.Rests.{IsResting}
use Rattle.lsys_pass.specs.Sizes.{symbols_at, total_of, HaveSizes}
use Rattle.lsys_pass.specs.Passes.{PassView, stage_of, now_in, rest_in, IsStill, HoldsAt, IsPass}
use Rattle.lsys_pass.specs.Views.{pass_levels, IsQuiet, KeepsLevelsAlone, AnswersItsQuestions, KeepsNoOtherAnswer}
use Rattle.lsys_pass.proofs.Backing.{rests_at}
use Rattle.lsys_pass.proofs.Before.{no_more, reached_on}
use Rattle.lsys_pass.proofs.Limits.{within}
use Rattle.lsys_pass.proofs.Viewing.{Shows, shows, spot_told, row_is, there, own, node_there, below}

-- 1. lists

plain_seen : (k l : List ℕ) (x : Seen) → plain (with_lineage k x) ≡ plain (with_lineage l x)
plain_seen k l Push = refl
plain_seen k l Pop = refl
plain_seen k l (Module v) = refl

-- the string of a level doesn't depend on lineages
plain_level : (f g : ℕ → List ℕ) (xs : List Spotted) → map plain (level_by f xs) ≡ map plain (level_by g xs)
plain_level f g [] = refl
plain_level f g (x ∷ xs) =
    let one = plain_seen (f x.tag) (g x.tag) x.seen in
    let more = plain_level f g xs in
    λ i. one i ∷ more i

-- sizes that are told as the lengths of lists have their sum
same_sums : {A : Type 0} (zs : List Size) (xs : List (List A)) → ((t : ℕ) → symbols_at zs t ≡ length (get_or xs t [])) → total_of zs ≡ sum_by length xs
same_sums [] [] h = refl
same_sums {A = A} [] (x ∷ xs) h =
    let one = h 0 in
    let rest = same_sums [] xs (λ t. h (suc t)) in
    let b = sum_by-cons (length {A = A}) x xs in
    omega (arith, one, rest, b)
same_sums {A = A} (z ∷ zs) [] h =
    let one = h 0 in
    let rest = same_sums {A = A} zs [] (λ t. h (suc t)) in
    let a = sum_by-cons (λ (y : Size). y.symbols) z zs in
    omega (arith, one, rest, a)
same_sums {A = A} (z ∷ zs) (x ∷ xs) h =
    let one = h 0 in
    let rest = same_sums zs xs (λ t. h (suc t)) in
    let a = sum_by-cons (λ (y : Size). y.symbols) z zs in
    let b = sum_by-cons (length {A = A}) x xs in
    omega (arith, one, rest, a, b)

-- 2. the last rest

module _ {listed : Bool} (s : System) (limit : ℕ) (m : Nodes Kept) (root : ℕ) (store : Store) (reads : Relations) (seats : List Seat) (r : IsResting listed s limit m root store reads seats) where
  many : length (levels_meant s limit) ≡ s.depth + 1
  many = level_count s limit s.depth (levels_meant s limit) r.spelled r.is

  pub none_past : (t : ℕ) → length (levels_meant s limit) ≤ t → level_nodes m root t ≡ []
  none_past t l =
      let e : length (levels_meant s limit) + (t - length (levels_meant s limit)) ≡ t = omega (arith, l) in
      ap (level_nodes m root) (sym e) ∙ no_more m root (length (levels_meant s limit)) (t - length (levels_meant s limit)) r.ends

  -- a level has as many nodes as symbols
  pub nodes_long : (t : ℕ) → length (level_nodes m root t) ≡ length (get_or (levels_meant s limit) t [])
  nodes_long t = elim (cases_lt t (length (levels_meant s limit))) [
    | inl l ↦
        sym (length-map (level_nodes m root t) (λ k. spot_in k (m k)))
        ∙ sym (length-map (level_spots m root t) (named (names m)))
        ∙ ap (length {A = LevelSymbol}) (r.levels.each t l)
    | inr g ↦ ap (length {A = ℕ}) (none_past t g) ∙ sym (ap (length {A = LevelSymbol}) (get_or_past (levels_meant s limit) t [] g))
  ]

  pub rest_total : (sizes : List Size) → HaveSizes m root sizes → total_of sizes ≤ limit
  rest_total sizes h =
      let same = same_sums sizes (levels_meant s limit) (λ t. h.symbols t ∙ nodes_long t) in
      let most = within s limit s.depth (levels_meant s limit) r.is in
      omega (arith, same, most)

pub under_limit : (v : PassView) → IsPass v → total_of v.sizes ≤ v.limit
under_limit v h = rest_total v.system v.limit (rest_in v) v.forest.root v.store v.reads v.seats (rests_at (stage_of v) v.state h.holds) v.sizes h.sized

-- 3. at rest

module _ (v : PassView) (h : IsPass v) (q : v.state ≡ Rest) where
  still : IsStill (stage_of v)
  still = subst (HoldsAt (stage_of v)) q h.holds

  -- the nodes are those of the last rest
  pub was_now : rest_in v ≡ now_in v
  was_now = ap (λ (cs : List (Change Kept)). undone cs (now_in v)) still.changes

  pub rest_now : IsResting v.listed v.system v.limit (now_in v) v.forest.root v.store v.reads v.seats
  rest_now = subst (λ (m : Nodes Kept). IsResting v.listed v.system v.limit m v.forest.root v.store v.reads v.seats) was_now still.rest

module _ (v : PassView) (h : IsPass v) (q : IsQuiet v) where
  abbrev r : IsResting v.listed v.system v.limit (now_in v) v.forest.root v.store v.reads v.seats
  r = rest_now v h q.state

  abbrev xs : List (List LevelSymbol)
  xs = levels_meant v.system v.limit

  sight : Shows v.forest (v.system.depth + 1) (pass_levels v)
  sight = shows v (v.system.depth + 1) v.forest h refl

  levels_many : length xs ≡ v.system.depth + 1
  levels_many = many v.system v.limit (now_in v) v.forest.root v.store v.reads v.seats r

  balanced_all : AreBalancedTo v.forest v.system.depth
  balanced_all u l = let c = levels_many in r.levels.balanced u (omega (arith, l, c))

  complete : v.system.depth < length (complete_levels v.forest)
  complete = are_told v.forest v.system.depth q.small balanced_all

  pub count : length (pass_levels v) ≡ v.system.depth + 1
  count = let c = complete in length-take-le (v.system.depth + 1) (complete_levels v.forest) (omega (arith, c))

  pub count_meant : length (pass_levels v) ≡ length xs
  count_meant = count ∙ sym levels_many

  pub own_at : HasOwnTags (pass_levels v)
  own_at = own v.forest (v.system.depth + 1) (pass_levels v) sight

  -- each level is that of the nodes
  told_at : (t : ℕ) → t < v.system.depth + 1 → spots_at (pass_levels v) t ≡ level_spots (now_in v) v.forest.root t
  told_at t l =
      row_is v.forest (v.system.depth + 1) (pass_levels v) sight t l
      ∙ told_is v.forest t (let c = complete in omega (arith, c, l))

  none_at : (t : ℕ) → v.system.depth + 1 ≤ t → spots_at (pass_levels v) t ≡ []
  none_at t g = let c = count in get_or_past (pass_levels v) t [] (omega (arith, c, g))

  pub strings_are : (t : ℕ) → map plain (level_by (λ tag. []) (spots_at (pass_levels v) t)) ≡ map plain (get_or xs t [])
  strings_are t = elim (cases_lt t (v.system.depth + 1)) [
    | inl l ↦
        ap (λ (x : List Spotted). map plain (level_by (λ tag. []) x)) (told_at t l)
        ∙ plain_level (λ tag. []) (names (now_in v)) (level_spots (now_in v) v.forest.root t)
        ∙ ap (map plain) (r.levels.each t (let c = levels_many in omega (arith, c, l)))
    | inr g ↦
        ap (λ (x : List Spotted). map plain (level_by (λ tag. []) x)) (none_at t g)
        ∙ sym (ap (map plain) (get_or_past xs t [] (let c = levels_many in omega (arith, c, g))))
  ]

  -- 4. one symbol

  -- it is a node of this level, by its lineage
  pub record IsNodeOf (t p : ℕ) (a : Spotted) : Type 0 where
    pub within : t < v.system.depth + 1
    pub there : slice_get (level_nodes (now_in v) v.forest.root t) p ≡ Some a.tag

  pub node_of : (t p : ℕ) (a : Spotted) → spotted_at (pass_levels v) t p ≡ Some a → IsNodeOf t p a
  node_of t p a e =
      let b = below v.forest (v.system.depth + 1) (pass_levels v) sight t (spot_told (pass_levels v) t p (slice_get_within (spots_at (pass_levels v) t) p a e)) in
      record {
        within = b.0;
        there = node_there v.forest (v.system.depth + 1) (pass_levels v) sight t p a b.1 (there v.forest (v.system.depth + 1) (pass_levels v) sight t p a e);
      }

  pub lineage_is : (t p : ℕ) (a : Spotted) (s : LevelSymbol) → spotted_at (pass_levels v) t p ≡ Some a → symbol_at xs t p ≡ Some s → lineage s ≡ names (now_in v) a.tag
  lineage_is t p a s e f =
      let n = node_of t p a e in
      lineage_at (names (now_in v)) (now_in v) (level_nodes (now_in v) v.forest.root t) p a.tag s n.there
      (ap (λ (y : List LevelSymbol). slice_get y p) (r.levels.each t (let c = levels_many in let l = n.within in omega (arith, c, l))) ∙ f)

  pub key_there : (t p : ℕ) (a : Spotted) → spotted_at (pass_levels v) t p ≡ Some a
      → a.key ≡ key_of v.system.seed (names (now_in v) a.tag)
  key_there t p a e =
      let n = node_of t p a e in
      r.levels.keys t p a (let c = levels_many in let l = n.within in omega (arith, c, l))
      (ap (λ (x : List Spotted). slice_get x p) (sym (told_at t n.within)) ∙ e)

  -- 5. all of them

  -- after the last level there are no nodes
  pub none_after : (t : ℕ) → v.system.depth + 1 ≤ t → level_nodes (now_in v) v.forest.root t ≡ []
  none_after t g = none_past v.system v.limit (now_in v) v.forest.root v.store v.reads v.seats r t (let c = levels_many in omega (arith, c, g))

  pub nodes_at : (t : ℕ) → t < v.system.depth + 1 → length (level_nodes (now_in v) v.forest.root t) ≡ length (spots_at (pass_levels v) t)
  nodes_at t l = sym (length-map (level_nodes (now_in v) v.forest.root t) (λ k. spot_in k (now_in v k))) ∙ sym (ap (length {A = Spotted}) (told_at t l))

  -- its sizes tell how many symbols there are
  pub total_is : total_of v.sizes ≡ sum_by length (pass_levels v)
  total_is = same_sums v.sizes (pass_levels v) (λ t. h.sized.symbols t ∙ ap (λ (m : Nodes Kept). length (level_nodes m v.forest.root t)) (was_now v h q.state) ∙ long t)
    where
      long : (t : ℕ) → length (level_nodes (now_in v) v.forest.root t) ≡ length (spots_at (pass_levels v) t)
      long t = elim (cases_lt t (v.system.depth + 1)) [
        | inl l ↦ nodes_at t l
        | inr g ↦ ap (length {A = ℕ}) (none_after t g) ∙ sym (ap (length {A = Spotted}) (none_at t g))
      ]

  -- 6. what is kept

  live_on : (k : ℕ) (n : Node Kept) → now_in v k ≡ Some n → (k ≡ v.forest.root) ⊎ ((t : ℕ) × (t ≤ v.system.depth) × In k (level_nodes (now_in v) v.forest.root t))
  live_on k n e = by (r.reached k n e).0 (r.reached k n e).1
    where
      by : (d : ℕ) → ReachedIn (now_in v) v.forest.root d k → (k ≡ v.forest.root) ⊎ ((t : ℕ) × (t ≤ v.system.depth) × In k (level_nodes (now_in v) v.forest.root t))
      by zero h = inl h
      by (suc t) h =
          let on = reached_on (now_in v) v.forest.root t k h in
          elim (cases_lt t (v.system.depth + 1)) [
            | inl l ↦ inr (t, omega (arith, l), on)
            | inr g ↦ absurd (subst (In k) (none_after t g) on)
          ]

  pub levels_alone : KeepsLevelsAlone v
  levels_alone k l = by (now_in v k) refl l
    where
      by : (o : Option (Node Kept)) → now_in v k ≡ o → IsSome o → (k ≡ v.forest.root) ⊎ ((t : ℕ) × (t ≤ v.system.depth) × In k (level_nodes (now_in v) v.forest.root t))
      by None e i = cc
      by (Some n) e i = live_on k n e

  pub answers_all : AnswersItsQuestions v
  answers_all = r.answered

  pub no_others : KeepsNoOtherAnswer v
  no_others = r.others

  pub unchanged : IsAtRest v.forest
  unchanged = (still v h q.state).changes

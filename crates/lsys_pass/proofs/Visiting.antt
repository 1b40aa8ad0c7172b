-- What a pass has read, when a node is asked, when a level is made, and at most.
use Rattle.std.proofs.Common.{◌≡◌, ◌≢◌, ◌+◌, ◌*◌, ◌<◌, ◌≤◌, ℕ, zero, suc, false, List, [], ◌∷◌, ◌++◌, length, Some, Ok, refl, sym, ap, ◌∙◌, subst, inl, inr, arith, slice_get}
use Rattle.std.specs.Prelude.{get_or, sum_by}
use Rattle.std.proofs.lemmas.Bool.{false_from_ne_true}
use Rattle.std.proofs.lemmas.List.{length-append, length-map}
use Rattle.std.proofs.lemmas.List.Sums.{sum_by-cons}
use Rattle.std.proofs.lemmas.Nat.{mul-le}
use Rattle.lsys_spec.specs.Rows.{In, AreApart}
use Rattle.lsys_spec.specs.Systems.{System, WellSpelled}
use Rattle.lsys_spec.specs.Levels.{LevelSymbol, Module}
use Rattle.lsys_spec.specs.Meaning.{first_level, last_level, next_level, meaning_to}
use Rattle.lsys_spec.specs.LevelLaws.{may_differ, candidate_visits}
use Rattle.lsys_spec.proofs.LevelInduction.{ok_parts, ok_within}
use Rattle.lsys_spec.proofs.Tests.{each_way}
use Rattle.lsys_level.specs.Spots.{named}
use Rattle.lsys_reads.specs.Rows.{has}
use Rattle.lsys_laws.specs.Passes.{is_candidate_at}
use Rattle.lsys_laws.specs.LevelCounts.{visits_at}
use Rattle.lsys_laws.proofs.Sums.{more_visits}
use Rattle.lsys_laws.proofs.UpTo.{level_count}
use Rattle.lsys_match.specs.Derivations.{most_read}
use Rattle.lsys_forest.specs.Groves.{IsRooted, changes_in}
use Rattle.lsys_forest.specs.Rows.{depth_in, kids_in, spot_in, level_nodes, level_spots}
use Rattle.lsys_forest.proofs.LinkLemmas.{levels_above}
use Rattle.lsys_forest.proofs.RowLemmas.{In_left, In_right, level_apart, level_depth}
use Rattle.lsys_forest.proofs.WalkLemmas.{In_at}
use Rattle.lsys_reads.specs.Lineages.{names}
use Rattle.lsys_reads.specs.Levels.{level_of}
use Rattle.lsys_reads.specs.Meant.{levels_or_none, levels_meant, meant_to, level_to, IsCandidate}
use Rattle.lsys_pass.specs.declared.state.PassState.{PassState}
use Rattle.lsys_pass.specs.declared.state.PassState.TheVariants.{Rest, Level, Done, Failed}
use Rattle.lsys_pass.specs.Stages.{IsAtLevel}
use Rattle.lsys_pass.specs.Passes.{PassView, stage_of, now_in, HoldsAt, IsPass}
use Rattle.lsys_pass.specs.Moves.{ArrivesAt, Follows, StepsOver, Moves, MovesOnce, Finishes}
use Rattle.lsys_pass.specs.Fresh.{IsReadyToAsk}
use Rattle.lsys_pass.specs.Spent.{read_at, read_without, visits_here, visits_in, spent_visits, AllPending}
use Rattle.lsys_pass.proofs.Before.{zero_plus}
use Rattle.lsys_pass.proofs.Settling.{has_in, in_has}
use Rattle.lsys_pass.proofs.Stepping.{some_in, in_more, in_less, not_left, is_open}
use Rattle.lsys_pass.proofs.Needed.{level_is_meant}
use Rattle.lsys_pass.proofs.Asking.{at, sound_now, asked}
use Rattle.lsys_pass.proofs.Totals.{fewer}
use Rattle.lsys_pass.proofs.Limits.{within}
use Rattle.lsys_pass.proofs.Spending.{none_out, all_out, one_less, fewer_without, few_without, few_at, few_below, read_module, is_read}

-- 1. numbers and lists

times_less : (c a b : ℕ) → a ≤ b → c * a ≤ c * b
times_less c a b h = mul-le c a c b (omega arith) h

-- the nodes of levels, one level after the other
abbrev along : (ℕ → List ℕ) → ℕ → List (List LevelSymbol) → List ℕ
along nodes t [] = []
along nodes t (x ∷ xs) = nodes t ++ along nodes (t + 1) xs

along_length : (nodes : ℕ → List ℕ) (t : ℕ) (xs : List (List LevelSymbol)) → ((i : ℕ) → i < length xs → length (nodes (t + i)) ≡ length (get_or xs i [])) → length (along nodes t xs) ≡ sum_by length xs
along_length nodes t [] h = refl
along_length nodes t (x ∷ xs) h =
    let one : length (nodes t) ≡ length x = ap (λ u. length (nodes u)) (omega arith) ∙ h 0 (omega arith) in
    let r = along_length nodes (t + 1) xs (λ i l. ap (λ u. length (nodes u)) (omega arith) ∙ h (suc i) (omega (arith, l))) in
    let both = length-append (nodes t) (along nodes (t + 1) xs) in
    let all = sum_by-cons (length {A = LevelSymbol}) x xs in
    omega (arith, one, r, both, all)

in_along : (nodes : ℕ → List ℕ) (t : ℕ) (xs : List (List LevelSymbol)) (i k : ℕ) → i < length xs → In k (nodes (t + i)) → In k (along nodes t xs)
in_along nodes t [] i k l h = absurd (omega (arith, l))
in_along nodes t (x ∷ xs) zero k l h = In_left k (nodes t) (along nodes (t + 1) xs) (subst (λ u. In k (nodes u)) (omega arith) h)
in_along nodes t (x ∷ xs) (suc i) k l h = In_right k (nodes t) (along nodes (t + 1) xs) (in_along nodes (t + 1) xs i k (omega (arith, l)) (subst (λ u. In k (nodes u)) (omega arith) h))

-- 2. one level more

grows : (old new : System) (xs : List (List LevelSymbol)) (limit t : ℕ) → WellSpelled new → meaning_to new limit (suc t) ≡ Ok (meant_to new limit (suc t))
    → candidate_visits old new xs (meant_to new limit (suc t)) ≡ candidate_visits old new xs (meant_to new limit t) + visits_at old new xs t (level_to new limit t)
grows old new xs limit t spelled h =
    let before = ok_parts (meaning_to new limit t) _ (meant_to new limit (suc t)) h in
    let here = ok_parts (next_level new t (last_level before.0)) _ (meant_to new limit (suc t)) before.2 in
    let whole : before.0 ++ here.0 ∷ [] ≡ meant_to new limit (suc t) = ok_within limit (suc t) (before.0 ++ here.0 ∷ []) (meant_to new limit (suc t)) here.2 in
    let same : meant_to new limit t ≡ before.0 = ap levels_or_none before.1 in
    let count = level_count new limit t before.0 spelled before.1 in
    ap (candidate_visits old new xs) (sym whole) ∙ more_visits (λ q. length q.trace) old new xs before.0 here.0 t count
    ∙ ap (λ ys. candidate_visits old new xs ys + visits_at old new xs t (get_or ys t [])) (sym same)

none_first : (old new : System) (xs : List (List LevelSymbol)) (limit : ℕ) → meaning_to new limit 0 ≡ Ok (meant_to new limit 0) → candidate_visits old new xs (meant_to new limit 0) ≡ 0
none_first old new xs limit h = ap (candidate_visits old new xs) (sym (ok_within limit 0 (first_level new ∷ []) (meant_to new limit 0) h))

-- 3. what was read, by the systems, the level, and its nodes

abbrev visits_by : System → System → ℕ → ℕ → List ℕ → List ℕ → ℕ
visits_by old new limit t pending ks =
    candidate_visits old new (levels_meant old limit) (meant_to new limit t)
    + read_without (read_at old new (levels_meant old limit) t (level_to new limit t)) pending 0 (level_to new limit t) ks

-- 4. a level

module _ (v : PassView) (t : ℕ) (h : IsPass v) (state : v.state ≡ Level t) where
  here : IsAtLevel (stage_of v) t
  here = at v t h state

  abbrev rows : ℕ → List ℕ
  rows u = level_nodes (now_in v) v.forest.root u

  abbrev level : List LevelSymbol
  level = level_to v.next v.limit t

  abbrev olds : List (List LevelSymbol)
  olds = levels_meant v.system v.limit

  abbrev ys : List (List LevelSymbol)
  ys = meant_to v.next v.limit t

  count : length ys ≡ t + 1
  count = level_count v.next v.limit t ys here.tree.spelled here.tree.is

  long : (u : ℕ) → length (level_of (now_in v) v.forest.root u) ≡ length (rows u)
  long u = length-map (level_spots (now_in v) v.forest.root u) (named (names (now_in v))) ∙ length-map (rows u) (λ k. spot_in k (now_in v k))

  long_here : length level ≡ length (rows t)
  long_here = ap length (sym (level_is_meant (stage_of v) t here.tree)) ∙ long t

  total : sum_by length ys ≤ v.limit
  total = within v.next v.limit t ys here.tree.is

  -- nothing is pending
  pub all_read : v.pending ≡ [] → visits_in v (Level t) ≡ candidate_visits v.system v.next olds ys + visits_at v.system v.next olds t level
  all_read e =
      ap (λ ps. visits_by v.system v.next v.limit t ps (rows t)) e
      ∙ ap (λ n. candidate_visits v.system v.next olds ys + n) (none_out v.system v.next olds t level 0 level (rows t) long_here)

  -- all candidates are pending
  pub none_read : AllPending v (Level t) → visits_in v (Level t) ≡ candidate_visits v.system v.next olds ys
  none_read all =
      let none : visits_here v t ≡ 0 = all_out (read_at v.system v.next olds t level) v.pending 0 level (rows t) (λ p k a there stands. (
      elim (is_read v.system v.next olds t level p a) [
        | inl r ↦ inl (in_has v.pending k (all p k there (record { line = r.line; own = r.own; stands = stands ∙ ap (λ y. Some y) r.stands; rules = r.rules; is = r.is })))
        | inr z ↦ inr (ap (λ q. read_at v.system v.next olds t level q a) (zero_plus p) ∙ z)
      ]
      )) in
      omega (arith, none)

  -- 5. at most

  below : candidate_visits v.system v.next olds ys + most_read * length level ≤ most_read * v.limit
  below =
      let b = few_below (may_differ v.system v.next olds ys) v.next 0 ys t count in
      let l = times_less most_read (sum_by length ys) v.limit total in
      omega (arith, b, l)

  pub visits_few : visits_in v (Level t) ≤ most_read * v.limit
  visits_few =
      let b = below in
      let f = few_without (read_at v.system v.next olds t level) most_read (few_at (is_candidate_at v.system v.next olds t level) v.next t level) v.pending 0 level (rows t) in
      omega (arith, b, f)

  among : (k : ℕ) → In k v.pending → In k (rows t)
  among k i = some_in v.pending (rows t) here.answers.in_order k i

  pub visits_fewer : (node : ℕ) → In node v.pending → visits_in v (Level t) + most_read ≤ most_read * v.limit
  visits_fewer node i =
      let b = below in
      let p = In_at node (rows t) (among node i) in
      let f = fewer_without (read_at v.system v.next olds t level) most_read (few_at (is_candidate_at v.system v.next olds t level) v.next t level) v.pending 0 level (rows t) p.0 node long_here p.1 (in_has v.pending node i) in
      omega (arith, b, f)

  nodes_few : length (along rows 0 ys) ≤ v.limit
  nodes_few =
      let e = along_length rows 0 ys (λ i l. ap (λ u. length (rows u)) (zero_plus i) ∙ sym (long i) ∙ ap length (here.tree.levels.each i l)) in
      let w = total in
      omega (arith, e, w)

  in_nodes : (u k : ℕ) → u ≤ t → In k (rows u) → In k (along rows 0 ys)
  in_nodes u k l i = in_along rows 0 ys u k (let c = count in omega (arith, c, l)) (subst (λ q. In k (rows q)) (sym (zero_plus u)) i)

  renewed_in : (k : ℕ) → In k v.renewed → In k (along rows 0 ys)
  renewed_in k i = let r = here.lists.renewed_are k i in in_nodes r.0 k r.1 r.2

  pub renewed_few : length v.renewed ≤ v.limit
  renewed_few =
      let f = fewer v.renewed (along rows 0 ys) here.news.apart renewed_in in
      let n = nodes_few in
      omega (arith, f, n)

  pub renewed_fewer : (node : ℕ) → In node v.pending → length v.renewed + 1 ≤ v.limit
  renewed_fewer node i =
      let f = fewer (node ∷ v.renewed) (along rows 0 ys) ((λ r. here.lists.renewed_done node r i), here.news.apart) (λ k j. (
      elim j [ inl e ↦ in_nodes t k (omega arith) (subst (λ q. In q (rows t)) (sym e) (among node i)) | inr r ↦ renewed_in k r ]
      )) in
      let n = nodes_few in
      omega (arith, f, n)

  -- 6. a node was asked

  module _ (w : PassView) (node : ℕ) (steps : StepsOver v w node) (pending : In node v.pending) where
    sound : IsRooted v.forest.root (changes_in v.forest) (now_in v)
    sound = sound_now v t h state

    -- only a node of the level itself changed
    rows_stay : level_nodes (now_in w) w.forest.root t ≡ rows t
    rows_stay =
        let d = level_depth v.forest.root (changes_in v.forest) (now_in v) sound t node (among node pending) in
        let deep : depth_in (now_in v node) ≡ t + 1 = ap depth_in d.1 ∙ d.2 in
        ap (λ r. level_nodes (now_in w) r t) steps.run.root
        ∙ sym (levels_above v.forest.root (changes_in v.forest) (now_in w) (now_in v) node sound (λ k ne. ap kids_in (sym (steps.nodes k ne))) t (omega (arith, deep)))

    apart_all : AreApart (steps.before ++ node ∷ steps.after)
    apart_all = subst AreApart steps.pending_old here.answers.apart

    left_out : has w.pending node ≡ false
    left_out = false_from_ne_true (has w.pending node) (λ e. not_left steps.before node steps.after apart_all (subst (In node) steps.pending (has_in w.pending node e)))

    others_left : (j : ℕ) → j ≢ node → has w.pending j ≡ has v.pending j
    others_left j ne = each_way (has w.pending j) (has v.pending j)
        (λ e. in_has v.pending j (subst (In j) (sym steps.pending_old) (in_more steps.before node steps.after j (subst (In j) steps.pending (has_in w.pending j e)))))
        (λ e. in_has w.pending j (subst (In j) (sym steps.pending) (in_less steps.before node steps.after j ne (subst (In j) steps.pending_old (has_in v.pending j e)))))

    candidate : (p : ℕ) → slice_get (rows t) p ≡ Some node → IsCandidate v.system v.next v.limit t p
    candidate p there = let x = asked v t h state node pending in (is_open (stage_of v) t node x.n x.front x.back x.next p there).candidate

    same_visits : visits_in w w.state ≡ visits_by v.system v.next v.limit t w.pending (rows t)
    same_visits =
        ap (visits_in w) (steps.state ∙ state)
        ∙ ap (λ s. visits_by s w.next w.limit t w.pending (level_nodes (now_in w) w.forest.root t)) steps.run.system
        ∙ ap (λ s. visits_by v.system s w.limit t w.pending (level_nodes (now_in w) w.forest.root t)) steps.run.next
        ∙ ap (λ n. visits_by v.system v.next n t w.pending (level_nodes (now_in w) w.forest.root t)) steps.run.limit
        ∙ ap (visits_by v.system v.next v.limit t w.pending) rows_stay

    pub stepped_visits : (has_asked will_ask r q : ℕ) → MovesOnce v node (λ asks reads. (will_ask ≡ has_asked + asks) × (q ≡ r + reads)) → q + spent_visits v ≡ r + spent_visits w
    stepped_visits has_asked will_ask r q moves =
        let p = In_at node (rows t) (among node pending) in
        let c = candidate p.0 p.1 in
        let moved = (subst (λ s. Moves v s node (λ asks reads. (will_ask ≡ has_asked + asks) × (q ≡ r + reads))) state moves) p.0 c.line c.own p.1 c.stands in
        let more = one_less (read_at v.system v.next olds t level) v.pending w.pending 0 level (rows t) p.0 node (Module c.line c.own)
        (level_apart v.forest.root (changes_in v.forest) (now_in v) sound t) p.1 c.stands (in_has v.pending node pending) left_out others_left in
        let own = ap (λ z. read_at v.system v.next olds t level z (Module c.line c.own)) (zero_plus p.0) ∙ read_module v.system v.next olds t level p.0 c.line c.own c.rules c.is in
        let was : spent_visits v ≡ visits_in v (Level t) = ap (visits_in v) state in
        let is = same_visits in
        let read = moved.1 in
        omega (arith, more, own, was, is, read)

-- 7. the first level, and the next one

at_level : (v : PassView) (t : ℕ) → IsPass v → v.state ≡ Level t → AllPending v v.state → spent_visits v ≡ candidate_visits v.system v.next (levels_meant v.system v.limit) (meant_to v.next v.limit t)
at_level v t h e all = ap (visits_in v) e ∙ none_read v t h e (subst (AllPending v) e all)

pub visits_first : (v : PassView) (s : PassState) → IsPass v → v.state ≡ s → ArrivesAt v.next 0 s → AllPending v v.state → spent_visits v ≡ 0
visits_first v (Level u) h e next all =
    let first = subst (λ n. meaning_to v.next v.limit n ≡ Ok (meant_to v.next v.limit n)) next.0 (at v u h e).tree.is in
    at_level v u h e all ∙ ap (λ n. candidate_visits v.system v.next (levels_meant v.system v.limit) (meant_to v.next v.limit n)) next.0
    ∙ none_first v.system v.next (levels_meant v.system v.limit) v.limit first
visits_first v Done h e next all =
    let done = subst (HoldsAt (stage_of v)) e h.holds in
    let first = subst (λ n. meaning_to v.next v.limit n ≡ Ok (meant_to v.next v.limit n)) next done.is in
    ap (visits_in v) e ∙ ap (λ n. candidate_visits v.system v.next (levels_meant v.system v.limit) (meant_to v.next v.limit n)) next
    ∙ none_first v.system v.next (levels_meant v.system v.limit) v.limit first
visits_first v Rest h e next all = absurd next
visits_first v Failed h e next all = absurd next

-- what the pass w has read, that stands after level t
visits_next : (w : PassView) (s : PassState) (t : ℕ) → IsPass w → w.state ≡ s → ArrivesAt w.next (t + 1) s → AllPending w w.state
    → spent_visits w ≡ candidate_visits w.system w.next (levels_meant w.system w.limit) (meant_to w.next w.limit t) + visits_at w.system w.next (levels_meant w.system w.limit) t (level_to w.next w.limit t)
visits_next w (Level u) t h e next all =
    let x = at w u h e in
    let same : u ≡ suc t = omega (arith, next.0) in
    at_level w u h e all ∙ ap (λ n. candidate_visits w.system w.next (levels_meant w.system w.limit) (meant_to w.next w.limit n)) same
    ∙ grows w.system w.next (levels_meant w.system w.limit) w.limit t x.tree.spelled (subst (λ n. meaning_to w.next w.limit n ≡ Ok (meant_to w.next w.limit n)) same x.tree.is)
visits_next w Done t h e next all =
    let done = subst (HoldsAt (stage_of w)) e h.holds in
    let same : w.next.depth ≡ suc t = omega (arith, next) in
    ap (visits_in w) e ∙ ap (λ n. candidate_visits w.system w.next (levels_meant w.system w.limit) (meant_to w.next w.limit n)) same
    ∙ grows w.system w.next (levels_meant w.system w.limit) w.limit t done.spelled (subst (λ n. meaning_to w.next w.limit n ≡ Ok (meant_to w.next w.limit n)) same done.is)
visits_next w Rest t h e next all = absurd next
visits_next w Failed t h e next all = absurd next

pub finished_visits : (v w : PassView) (t : ℕ) → IsPass v → v.state ≡ Level t → v.pending ≡ [] → Finishes v w → IsPass w → AllPending w w.state → spent_visits w ≡ spent_visits v
finished_visits v w t h e none f g all =
    let next = subst (λ (z : System). ArrivesAt z (t + 1) w.state) (sym f.run.next) (subst (λ s. Follows v.next s w.state) e f.state) in
    visits_next w w.state t g refl next all
    ∙ ap (λ s. by s w.next w.limit) f.run.system ∙ ap (λ s. by v.system s w.limit) f.run.next ∙ ap (by v.system v.next) f.run.limit
    ∙ sym (ap (visits_in v) e ∙ all_read v t h e none)
  where
    by : System → System → ℕ → ℕ
    by old new limit = candidate_visits old new (levels_meant old limit) (meant_to new limit t) + visits_at old new (levels_meant old limit) t (level_to new limit t)

-- 8. a level that was just made, as calls tell it

pub all_to_ask : (u x w : PassView) (t : ℕ) → u ≡ x → IsReadyToAsk x t → w ≡ record u { state = Level t } → AllPending w w.state
all_to_ask u x w t e i f = subst (λ (z : PassView). AllPending z z.state) (sym f) (subst (λ (y : PassView). IsReadyToAsk y t) (sym e) i).advances.ask.all

pub none_to_ask : (w : PassView) (s : PassState) → w.state ≡ s → s ≡ Done → AllPending w w.state
none_to_ask w s e f = subst (AllPending w) (sym (e ∙ f)) tt

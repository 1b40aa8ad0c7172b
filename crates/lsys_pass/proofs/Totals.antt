-- How many questions the new system has, and how many of them are new, by the lists of a pass.
use Rattle.std.proofs.Common.{◌≡◌, ◌+◌, ◌<◌, ◌≤◌, ℕ, zero, suc, Bool, true, false, List, [], ◌∷◌, ◌++◌, length, Option, Some, None, Ok, refl, sym, ap, ◌∙◌, subst, inl, inr, arith, slice_get, cond}
use Rattle.std.specs.Prelude.{◌-◌, count_by, is_none, option_map}
use Rattle.std.specs.List.{filter}
use Rattle.std.proofs.lemmas.Bool.{cases_lt}
use Rattle.std.proofs.lemmas.List.{length-append, length-map}
use Rattle.std.proofs.lemmas.List.Sums.{length-filter, sum_by-cons}
use Rattle.std.proofs.lemmas.Option.{none-some, same_Some, get_or_from_slice_get, slice_get-get_or, slice_get_within, slice_get-map}
use Rattle.lsys_spec.specs.Rows.{In, AreApart}
use Rattle.lsys_spec.specs.Systems.{System, WellSpelled}
use Rattle.lsys_spec.specs.Bodies.{Body, group}
use Rattle.lsys_spec.specs.Levels.{ModuleValue, LevelSymbol, Push, Pop, Module}
use Rattle.lsys_spec.specs.Meaning.{meaning}
use Rattle.lsys_spec.specs.Questions.{Question, questions, is_needed, need}
use Rattle.lsys_laws.specs.KeptQuestions.{where_grouped, question_here}
use Rattle.lsys_laws.specs.Passes.{module_question}
use Rattle.lsys_laws.proofs.UpTo.{level_count}
use Rattle.lsys_level.specs.Spots.{Seen, Spotted, with_lineage, named}
use Rattle.lsys_level.specs.Spots as S
use Rattle.lsys_walks.specs.Stores.{Store}
use Rattle.lsys_match.specs.Kept.{Kept}
use Rattle.lsys_forest.specs.Nodes.{Node, Nodes}
use Rattle.lsys_forest.specs.Changes.{Change}
use Rattle.lsys_forest.specs.Groves.{IsRooted, ReachedIn, Reached}
use Rattle.lsys_forest.specs.Rows.{level_nodes, level_spots, spot_in}
use Rattle.lsys_forest.proofs.RowLemmas.{In_append, In_left, In_right, In_split, apart_append, level_depth, level_apart}
use Rattle.lsys_forest.proofs.WalkLemmas.{get_In, In_at}
use Rattle.lsys_reads.specs.Lineages.{names}
use Rattle.lsys_reads.specs.Levels.{HaveLevels, AnsweredAt, IsAnsweredRight, IsKeptFor, IsRight, level_of, answer_at}
use Rattle.lsys_reads.specs.Meant.{levels_meant}
use Rattle.lsys_pass.specs.Stages.{Stage, was, IsDone}
use Rattle.lsys_pass.proofs.Before.{spot_at, kept_rules, placed, is_below, answer_lives, zero_plus, reached_on, no_more}
use Rattle.lsys_pass.proofs.Needed.{is_module}
use Rattle.lsys_pass.proofs.Closing.{on_reached, root_none}
use Rattle.lsys_pass.proofs.Counting.{same_length, Passes, picked_below, below_count, below_in, in_below, below_apart}

-- 1. the question of a symbol

record IsAskedHere (s : System) (t : ℕ) (x : List LevelSymbol) (p : ℕ) (a : LevelSymbol) (q : Question) : Type 0 where
  line : List ℕ
  own : ModuleValue
  is : a ≡ Module line own
  rules : group s t own.name (length own.params) ≡ [] → ⊥
  same : module_question s t x p line own ≡ q

grouped_is : (bs : List Body) (q r : Question) → where_grouped bs q ≡ Some r → (bs ≡ [] → ⊥) × (q ≡ r)
grouped_is [] q r e = absurd (none-some r e)
grouped_is (b ∷ bs) q r e = (λ f. cc, same_Some q r e)

asked_here : (s : System) (t : ℕ) (x : List LevelSymbol) (p : ℕ) (a : LevelSymbol) (q : Question) → question_here s t x p a ≡ Some q → IsAskedHere s t x p a q
asked_here s t x p (Push l) q e = absurd (none-some q e)
asked_here s t x p (Pop l) q e = absurd (none-some q e)
asked_here s t x p (Module l m) q e = let g = grouped_is (group s t m.name (length m.params)) (module_question s t x p l m) q e in record { line = l; own = m; is = refl; rules = g.0; same = g.1 }

grouped_there : (bs : List Body) (q : Question) → (bs ≡ [] → ⊥) → where_grouped bs q ≡ Some q
grouped_there [] q h = absurd (h refl)
grouped_there (b ∷ bs) q h = refl

-- 2. the nodes with an answer

abbrev pub all : Question → Bool
all q = true

module _ (s : System) (limit : ℕ) (m : Nodes Kept) (root : ℕ) (store : Store) (changes : List (Change Kept)) (sound : IsRooted root changes m) (spelled : WellSpelled s) (is : meaning s limit ≡ Ok (levels_meant s limit))
    (levels : HaveLevels m root s.seed (levels_meant s limit)) (answered : (t p k : ℕ) → t < s.depth → slice_get (level_nodes m root t) p ≡ Some k → AnsweredAt s t m root store p k) where
  many : length (levels_meant s limit) ≡ s.depth + 1
  many = level_count s limit s.depth (levels_meant s limit) spelled is

  -- the nodes whose questions pass
  abbrev passing : (Question → Bool) → List ℕ
  passing test = picked_below test s (λ t. level_nodes m root t) 0 (levels_meant s limit)

  level_is : (t : ℕ) (x : List LevelSymbol) → slice_get (levels_meant s limit) t ≡ Some x → x ≡ level_of m root t
  level_is t x e = sym (get_or_from_slice_get (levels_meant s limit) t x [] e) ∙ sym (levels.each t (slice_get_within (levels_meant s limit) t x e))

  level_there : (t : ℕ) → t < s.depth → slice_get (levels_meant s limit) t ≡ Some (level_of m root t)
  level_there t l =
      let c = many in
      let w : t < length (levels_meant s limit) = omega (arith, c, l) in
      slice_get-get_or (levels_meant s limit) t [] w ∙ ap (λ y. Some y) (sym (levels.each t w))

  long : (t : ℕ) → length (level_of m root t) ≡ length (level_nodes m root t)
  long t = length-map (level_spots m root t) (named (names m)) ∙ length-map (level_nodes m root t) (λ k. spot_in k (m k))

  pub passing_count : (test : Question → Bool) → length (passing test) ≡ count_by test (questions s (levels_meant s limit))
  passing_count test = below_count test s (λ t. level_nodes m root t) 0 (levels_meant s limit) (λ i x e. ap length (level_is i x e) ∙ long i ∙ ap (λ t. length (level_nodes m root t)) (sym (zero_plus i)))

  one_level : (t u k : ℕ) → In k (level_nodes m root t) → In k (level_nodes m root u) → t ≡ u
  one_level t u k i j =
      let a = level_depth root changes m sound t k i in
      let b = level_depth root changes m sound u k j in
      let e = ap (λ (n : Node Kept). n.depth) (same_Some a.0 b.0 (sym a.1 ∙ b.1)) in
      omega (arith, e, a.2, b.2)

  pub passing_apart : (test : Question → Bool) → AreApart (passing test)
  passing_apart test = below_apart test s (λ t. level_nodes m root t) (level_apart root changes m sound) one_level 0 (levels_meant s limit)

  -- a node among them, with its question
  pub record IsPassing (test : Question → Bool) (k : ℕ) : Type 0 where
    pub level : ℕ
    pub place : ℕ
    pub below : level < s.depth
    pub there : slice_get (level_nodes m root level) place ≡ Some k
    pub line : List ℕ
    pub own : ModuleValue
    pub stands : slice_get (level_of m root level) place ≡ Some (Module line own)
    pub rules : group s level own.name (length own.params) ≡ [] → ⊥
    pub passes : test (module_question s level (level_of m root level) place line own) ≡ true

  pub is_passing : (test : Question → Bool) (k : ℕ) → In k (passing test) → IsPassing test k
  is_passing test k i =
      let r = below_in test s (λ t. level_nodes m root t) 0 (levels_meant s limit) k i in
      let c = many in
      let l = r.below in
      let at = subst (λ u. Passes test s u r.symbols 0 r.symbols (level_nodes m root u) k) (zero_plus r.level) r.at in
      let same = level_is r.level r.symbols r.there in
      let a = asked_here s r.level r.symbols (0 + at.place) at.symbol at.question at.is in
      record {
        level = r.level;
        place = at.place;
        below = omega (arith, c, l);
        there = at.node;
        line = a.line;
        own = a.own;
        stands = ap (λ (y : List LevelSymbol). slice_get y at.place) (sym same) ∙ at.stands ∙ ap (λ y. Some y) a.is;
        rules = a.rules;
        passes = ap test (ap (λ (y : List LevelSymbol). module_question s r.level y at.place a.line a.own) (sym same) ∙ ap (λ p. module_question s r.level r.symbols p a.line a.own) (sym (zero_plus at.place)) ∙ a.same) ∙ at.passes;
      }

  pub in_passing : (test : Question → Bool) (t p k : ℕ) (l : List ℕ) (v : ModuleValue) → t < s.depth → slice_get (level_nodes m root t) p ≡ Some k → slice_get (level_of m root t) p ≡ Some (Module l v)
      → (group s t v.name (length v.params) ≡ [] → ⊥) → test (module_question s t (level_of m root t) p l v) ≡ true → In k (passing test)
  in_passing test t p k l v below there stands rules passes =
      let c = many in
      in_below test s (λ t. level_nodes m root t) 0 (levels_meant s limit) t (level_of m root t) p k (Module l v) (module_question s t (level_of m root t) p l v) (level_there t below) (omega (arith, c, below))
      (ap (λ u. slice_get (level_nodes m root u) p) (zero_plus t) ∙ there) stands
      (ap (λ u. question_here s u (level_of m root t) (0 + p) (Module l v)) (zero_plus t) ∙ ap (λ q. question_here s t (level_of m root t) q (Module l v)) (zero_plus p)
      ∙ grouped_there (group s t v.name (length v.params)) (module_question s t (level_of m root t) p l v) rules) passes

  -- those with an answer

  spot : (t p k : ℕ) (n : Node Kept) → slice_get (level_nodes m root t) p ≡ Some k → m k ≡ Some n → slice_get (level_of m root t) p ≡ Some (with_lineage (names m k) n.seen)
  spot t p k n there e = slice_get-map (named (names m)) (level_spots m root t) p ∙ ap (option_map (named (names m))) (spot_at m root t p k n there e)

  some_kept : (bs : List Body) (right : Kept → Type 0) (o : Option Kept) → (bs ≡ [] → ⊥) → IsKeptFor bs right o → (a : Kept) × (o ≡ Some a)
  some_kept [] right o rules h = absurd (rules refl)
  some_kept (b ∷ bs) right o rules h = (h.0, h.1)

  pub has_answer : (k : ℕ) → In k (passing all) → (a : Kept) × (answer_at m k ≡ Some a)
  has_answer k i =
      let r = is_passing all k i in
      let d = level_depth root changes m sound r.level k (get_In (level_nodes m root r.level) r.place k r.there) in
      let same : with_lineage (names m k) d.0.seen ≡ Module r.line r.own = same_Some _ _ (sym (spot r.level r.place k d.0 r.there d.1) ∙ r.stands) in
      let seen = is_module (names m k) r.line d.0.seen r.own same in
      let kept = subst (λ y. IsAnsweredRight s r.level (level_spots m root r.level) store r.place k y (answer_at m k)) seen.seen
      (answered r.level r.place k r.below r.there (record { seen = d.0.seen; tag = k; key = d.0.key }) (spot_at m root r.level r.place k d.0 r.there d.1)) in
      some_kept (group s r.level r.own.name (length r.own.params)) (IsRight s r.level (level_spots m root r.level) store r.place k r.own) (answer_at m k) r.rules kept

  pub in_answered : (t k : ℕ) (a : Kept) → t < s.depth → In k (level_nodes m root t) → answer_at m k ≡ Some a → In k (passing all)
  in_answered t k a below on e = by d.0.seen refl (answered t p.0 k below p.1 (record { seen = d.0.seen; tag = k; key = d.0.key }) (spot_at m root t p.0 k d.0 p.1 d.1))
    where
      p : (q : ℕ) × (slice_get (level_nodes m root t) q ≡ Some k)
      p = In_at k (level_nodes m root t) on

      d : (n : Node Kept) × (m k ≡ Some n) × (n.depth ≡ t + 1)
      d = level_depth root changes m sound t k on

      by : (x : Seen) → d.0.seen ≡ x → IsAnsweredRight s t (level_spots m root t) store p.0 k d.0.seen (answer_at m k) → In k (passing all)
      by S.Push f h = absurd (none-some a (sym (subst (λ y. IsAnsweredRight s t (level_spots m root t) store p.0 k y (answer_at m k)) f h) ∙ e))
      by S.Pop f h = absurd (none-some a (sym (subst (λ y. IsAnsweredRight s t (level_spots m root t) store p.0 k y (answer_at m k)) f h) ∙ e))
      by (S.Module v) f h =
          let kept = kept_rules (group s t v.name (length v.params)) (IsRight s t (level_spots m root t) store p.0 k v) (answer_at m k) a e (subst (λ y. IsAnsweredRight s t (level_spots m root t) store p.0 k y (answer_at m k)) f h) in
          in_passing all t p.0 k (names m k) v below p.1 (spot t p.0 k d.0 p.1 d.1 ∙ ap (λ y. Some (with_lineage (names m k) y)) f) kept.0 refl

-- some of a list, none twice, are no more
pub fewer : (xs ys : List ℕ) → AreApart xs → ((k : ℕ) → In k xs → In k ys) → length xs ≤ length ys
fewer [] ys a f = omega arith
fewer (x ∷ xs) ys a f =
    let s = In_split x ys (f x (inl refl)) in
    let rec = fewer xs (s.0 ++ s.1) a.1 (λ k i. (
    let j : In k (s.0 ++ x ∷ s.1) = subst (In k) s.2 (f k (inr i)) in
    elim (In_append s.0 (x ∷ s.1) k j) [
      | inl l ↦ In_left k s.0 s.1 l
      | inr r ↦ elim r [ inl e ↦ absurd (a.0 (subst (λ q. In q xs) e i)) | inr t ↦ In_right k s.0 s.1 t ]
    ]
    )) in
    let l1 = ap length s.2 in
    let l2 = length-append s.0 (x ∷ s.1) in
    let l3 = length-append s.0 s.1 in
    omega (arith, rec, l1, l2, l3)

-- 3. of a pass that is done

count_all : (qs : List Question) → count_by all qs ≡ length qs
count_all [] = refl
count_all (q ∷ qs) = let r = count_all qs in let e = sum_by-cons (λ q. cond (all q) 1 0) q qs in omega (arith, e, r)

filter_in : (f : ℕ → Bool) (xs : List ℕ) (k : ℕ) → In k (filter f xs) → In k xs × (f k ≡ true)
filter_in f [] k h = absurd h
filter_in f (x ∷ xs) k h = by (f x) refl h (filter_in f xs k)
  where
    by : (b : Bool) → f x ≡ b → In k (cond b (x ∷ filter f xs) (filter f xs)) → (In k (filter f xs) → In k xs × (f k ≡ true)) → In k (x ∷ xs) × (f k ≡ true)
    by true e i r = elim i [ inl q ↦ (inl q, ap f q ∙ e) | inr j ↦ (inr (r j).0, (r j).1) ]
    by false e i r = (inr (r i).0, (r i).1)

in_filter : (f : ℕ → Bool) (xs : List ℕ) (k : ℕ) → In k xs → f k ≡ true → In k (filter f xs)
in_filter f [] k h e = absurd h
in_filter f (x ∷ xs) k (inl q) e = subst (λ b. In k (cond b (x ∷ filter f xs) (filter f xs))) (sym (ap f (sym q) ∙ e)) (inl q)
in_filter f (x ∷ xs) k (inr i) e = by (f x) (in_filter f xs k i e)
  where
    by : (b : Bool) → In k (filter f xs) → In k (cond b (x ∷ filter f xs) (filter f xs))
    by true j = inr j
    by false j = j

filter_apart : (f : ℕ → Bool) (xs : List ℕ) → AreApart xs → AreApart (filter f xs)
filter_apart f [] h = tt
filter_apart f (x ∷ xs) h = by (f x) (filter_apart f xs h.1)
  where
    by : (b : Bool) → AreApart (filter f xs) → AreApart (cond b (x ∷ filter f xs) (filter f xs))
    by true r = ((λ i. h.0 (filter_in f xs x i).0), r)
    by false r = r

some_is : (o : Option Kept) → (o ≡ None → ⊥) → (a : Kept) × (o ≡ Some a)
some_is None h = absurd (h refl)
some_is (Some a) h = (a, refl)

none_is : (o : Option Kept) → is_none o ≡ true → o ≡ None
none_is None h = refl
none_is (Some a) h = cc

module _ (s : Stage) (d : IsDone s) (changes : List (Change Kept)) (sound : IsRooted s.root changes s.now) (was_sound : IsRooted s.root [] (was s)) where
  abbrev olds : List (List LevelSymbol)
  olds = levels_meant s.system s.limit

  abbrev pub new_nodes : (Question → Bool) → List ℕ
  new_nodes test = passing s.next s.limit s.now s.root s.store changes sound d.spelled d.is d.levels d.answered test

  abbrev old_nodes : List ℕ
  old_nodes = passing s.system s.limit (was s) s.root s.store [] was_sound d.rest.spelled d.rest.is d.rest.levels d.rest.answered all

  -- as many are new as were renewed
  pub renewed_needed : length s.renewed ≡ need (questions s.system olds) (questions s.next (levels_meant s.next s.limit))
  renewed_needed =
      same_length s.renewed (new_nodes (is_needed (questions s.system olds))) d.renewed_apart
      (passing_apart s.next s.limit s.now s.root s.store changes sound d.spelled d.is d.levels d.answered (is_needed (questions s.system olds)))
      (λ k i. (
      let u = d.renewed_are k i in
      let p = In_at k (level_nodes s.now s.root u.0) u.2 in
      let n = (d.news u.0 p.0 k u.1 p.1).0 i in
      in_passing s.next s.limit s.now s.root s.store changes sound d.spelled d.is d.levels d.answered (is_needed (questions s.system olds)) u.0 p.0 k n.line n.own u.1 p.1 n.stands n.rules n.is
      ))
      (λ k i. (
      let r = is_passing s.next s.limit s.now s.root s.store changes sound d.spelled d.is d.levels d.answered (is_needed (questions s.system olds)) k i in
      (d.news r.level r.place k r.below r.there).1 (record { line = r.line; own = r.own; stands = r.stands; rules = r.rules; is = r.passes })
      ))
      ∙ passing_count s.next s.limit s.now s.root s.store changes sound d.spelled d.is d.levels d.answered (is_needed (questions s.system olds))

  abbrev born : List ℕ
  born = filter (λ k. is_none (answer_at (was s) k)) s.renewed

  -- a node that had an answer was asked by the old system
  had : (k : ℕ) (a : Kept) → answer_at (was s) k ≡ Some a → In k old_nodes
  had k a e =
      let n = answer_lives (was s) k a e in
      let at = placed s.system s.limit (was s) s.root s.store s.reads s.seats d.rest k n.0 a n.1 e in
      in_answered s.system s.limit (was s) s.root s.store [] was_sound d.rest.spelled d.rest.is d.rest.levels d.rest.answered at.level k a
      (is_below s.system s.limit (was s) s.root s.store s.reads s.seats d.rest at.level k a at.on e) at.on e

  -- one that was renewed has an answer
  renewed_has : (k : ℕ) → In k s.renewed → In k (new_nodes all)
  renewed_has k i =
      let u = d.renewed_are k i in
      let p = In_at k (level_nodes s.now s.root u.0) u.2 in
      let n = (d.news u.0 p.0 k u.1 p.1).0 i in
      in_passing s.next s.limit s.now s.root s.store changes sound d.spelled d.is d.levels d.answered all u.0 p.0 k n.line n.own u.1 p.1 n.stands n.rules refl

  -- a node with an answer stands on a level that has questions
  now_level : (k : ℕ) (a : Kept) → Reached s.now s.root k → answer_at s.now k ≡ Some a → (u : ℕ) × (u < s.next.depth) × In k (level_nodes s.now s.root u)
  now_level k a r e = by r.0 r.1
    where
      below : (u : ℕ) → In k (level_nodes s.now s.root u) → u < s.next.depth
      below u on = elim (cases_lt u s.next.depth) [
        | inl l ↦ l
        | inr ge ↦ elim (cases_lt s.next.depth u) [
          | inl far ↦
              let c = level_count s.next s.limit s.next.depth (levels_meant s.next s.limit) d.spelled d.is in
              let back : length (levels_meant s.next s.limit) + (u - length (levels_meant s.next s.limit)) ≡ u = omega (arith, c, far) in
              let past = no_more s.now s.root (length (levels_meant s.next s.limit)) (u - length (levels_meant s.next s.limit)) d.ends in
              absurd (subst (In k) (sym (ap (level_nodes s.now s.root) back) ∙ past) on)
          | inr near ↦
              let same : u ≡ s.next.depth = omega (arith, ge, near) in
              absurd (none-some a (sym (d.last k (subst (λ v. In k (level_nodes s.now s.root v)) same on)) ∙ e))
        ]
      ]

      by : (n : ℕ) → ReachedIn s.now s.root n k → (u : ℕ) × (u < s.next.depth) × In k (level_nodes s.now s.root u)
      by zero h = absurd (none-some a (sym (root_none s d changes sound) ∙ ap (answer_at s.now) (sym h) ∙ e))
      by (suc n) h = let on = reached_on s.now s.root n k h in (n, below n on, on)

  -- what has an answer now, and what was dropped; and what had one, and what was born
  abbrev are : List ℕ
  are = new_nodes all ++ s.dropped

  abbrev were : List ℕ
  were = old_nodes ++ born

  gone_apart : (k : ℕ) → In k (new_nodes all) → In k s.dropped → ⊥
  gone_apart k i j =
      let r = is_passing s.next s.limit s.now s.root s.store changes sound d.spelled d.is d.levels d.answered all k i in
      let a = has_answer s.next s.limit s.now s.root s.store changes sound d.spelled d.is d.levels d.answered k i in
      none-some a.0 (sym (d.dropped_are k j (on_reached s.now s.root r.level k (get_In (level_nodes s.now s.root r.level) r.place k r.there))) ∙ a.1)

  born_apart : (k : ℕ) → In k old_nodes → In k born → ⊥
  born_apart k i j =
      let a = has_answer s.system s.limit (was s) s.root s.store [] was_sound d.rest.spelled d.rest.is d.rest.levels d.rest.answered k i in
      let n = none_is (answer_at (was s) k) (filter_in (λ q. is_none (answer_at (was s) q)) s.renewed k j).1 in
      none-some a.0 (sym n ∙ a.1)

  were_are : (k : ℕ) → In k were → In k are
  were_are k h = elim (In_append old_nodes born k h) [
    | inl i ↦
        let a = has_answer s.system s.limit (was s) s.root s.store [] was_sound d.rest.spelled d.rest.is d.rest.levels d.rest.answered k i in
        elim (d.kept k a.0 a.1) [
          | inl j ↦ In_left k (new_nodes all) s.dropped (renewed_has k j)
          | inr (inl j) ↦ In_right k (new_nodes all) s.dropped j
          | inr (inr r) ↦
              let u = now_level k a.0 r.0 r.1 in
              In_left k (new_nodes all) s.dropped (in_answered s.next s.limit s.now s.root s.store changes sound d.spelled d.is d.levels d.answered u.0 k a.0 u.1 u.2 r.1)
        ]
    | inr i ↦ In_left k (new_nodes all) s.dropped (renewed_has k (filter_in (λ q. is_none (answer_at (was s) q)) s.renewed k i).0)
  ]

  -- a node that was renewed had an answer, or is born
  renewed_were : (k : ℕ) → In k s.renewed → In k were
  renewed_were k i = by (answer_at (was s) k) refl
    where
      by : (o : Option Kept) → answer_at (was s) k ≡ o → In k were
      by None e = In_right k old_nodes born (in_filter (λ q. is_none (answer_at (was s) q)) s.renewed k i (ap (λ o. is_none o) e))
      by (Some a) e = In_left k old_nodes born (had k a e)

  are_were : (k : ℕ) → In k are → In k were
  are_were k h = elim (In_append (new_nodes all) s.dropped k h) [
    | inl i ↦
        let a = has_answer s.next s.limit s.now s.root s.store changes sound d.spelled d.is d.levels d.answered k i in
        elim (d.fresh k a.0 a.1) [ inl j ↦ renewed_were k j | inr w ↦ In_left k old_nodes born (had k a.0 w) ]
    | inr i ↦ let a = some_is (answer_at (was s) k) (d.dropped_had k i) in In_left k old_nodes born (had k a.0 a.1)
  ]

  old_count : length old_nodes ≡ length (questions s.system olds)
  old_count = passing_count s.system s.limit (was s) s.root s.store [] was_sound d.rest.spelled d.rest.is d.rest.levels d.rest.answered all ∙ count_all (questions s.system olds)

  pub new_count : length (new_nodes all) ≡ length (questions s.next (levels_meant s.next s.limit))
  new_count = passing_count s.next s.limit s.now s.root s.store changes sound d.spelled d.is d.levels d.answered all ∙ count_all (questions s.next (levels_meant s.next s.limit))

  -- what came and what went
  pub answers_count : length (questions s.next (levels_meant s.next s.limit)) + length s.dropped ≡ length (questions s.system olds) + s.born
  answers_count =
      let one = same_length are were
      (apart_append (new_nodes all) s.dropped (passing_apart s.next s.limit s.now s.root s.store changes sound d.spelled d.is d.levels d.answered all) d.dropped_apart gone_apart)
      (apart_append old_nodes born (passing_apart s.system s.limit (was s) s.root s.store [] was_sound d.rest.spelled d.rest.is d.rest.levels d.rest.answered all) (filter_apart (λ q. is_none (answer_at (was s) q)) s.renewed d.renewed_apart) born_apart)
      are_were were_are in
      let a = length-append (new_nodes all) s.dropped in
      let b = length-append old_nodes born in
      let c = length-filter (λ q. is_none (answer_at (was s) q)) s.renewed in
      let e = d.born in
      omega (arith, one, a, b, c, e, old_count, new_count)

  -- those that were dropped had been asked
  pub dropped_few : length s.dropped ≤ length (questions s.system olds)
  dropped_few =
      let f = fewer s.dropped old_nodes d.dropped_apart (λ k i. (let a = some_is (answer_at (was s) k) (d.dropped_had k i) in had k a.0 a.1)) in
      omega (arith, f, old_count)

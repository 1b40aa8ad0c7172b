-- What the old system asked: its questions by their places, and the nodes that keep its answers.
use Rattle.std.proofs.Common.{◌≡◌, ◌+◌, ◌<◌, ℕ, zero, suc, Bool, false, List, [], ◌∷◌, length, Option, Some, None, Ok, refl, sym, ap, ◌∙◌, subst, inl, inr, arith, slice_get, get_or}
use Rattle.std.specs.Prelude.{◌-◌, not, option_map}
use Rattle.std.specs.Option.{option_and_then}
use Rattle.std.proofs.lemmas.Bool.{cases_lt}
use Rattle.std.proofs.lemmas.Option.{none-some, same_Some, slice_get-map, get_or_from_slice_get}
use Rattle.lsys_spec.specs.Rows.{In, flat}
use Rattle.lsys_spec.specs.Systems.{System, Each, WellSpelled}
use Rattle.lsys_spec.specs.Bodies.{Body, group}
use Rattle.lsys_spec.specs.Levels.{ModuleValue, LevelSymbol, Module, lineage}
use Rattle.lsys_spec.specs.Cuts.{Distinct}
use Rattle.lsys_spec.specs.Meaning.{meaning}
use Rattle.lsys_spec.specs.Questions.{Question, questions, question_at, differs, is_needed}
use Rattle.lsys_spec.specs.Standings.{place_of}
use Rattle.lsys_spec.proofs.Equal.{same_question_refl}
use Rattle.lsys_spec.proofs.Standings.{place_is}
use Rattle.lsys_laws.specs.KeptQuestions.{where_grouped, question_here, questions_by_place, level_questions, kept_from, kept_at}
use Rattle.lsys_laws.proofs.Lookups.{kept_there}
use Rattle.lsys_laws.specs.Passes.{module_question}
use Rattle.lsys_laws.proofs.UpTo.{level_count, grown_to}
use Rattle.lsys_match.specs.Kept.{Kept}
use Rattle.lsys_match.specs.Stored.{answer_in}
use Rattle.lsys_walks.specs.Stores.{Store}
use Rattle.lsys_match.specs.Recalled.{IsAnswerThere}
use Rattle.lsys_level.specs.Spots.{Seen, Spotted}
use Rattle.lsys_level.specs.Spots as S
use Rattle.lsys_forest.specs.Nodes.{Node, Nodes}
use Rattle.lsys_forest.specs.Answers.{answer_of}
use Rattle.lsys_forest.specs.Groves.{ReachedIn}
use Rattle.lsys_forest.specs.Rows.{kids_in, kids_below, spot_in, level_nodes, level_spots}
use Rattle.lsys_forest.proofs.RowLemmas.{In_left, In_right}
use Rattle.lsys_forest.proofs.WalkLemmas.{In_at}
use Rattle.lsys_reads.specs.Levels.{IsKeptFor, IsRight, IsAnsweredRight, answer_at}
use Rattle.lsys_reads.specs.Meant.{levels_meant}
use Rattle.lsys_reads.specs.declared.seat.Seat.{Seat}
use Rattle.lsys_reads.specs.Relations.{Relations}
use Rattle.lsys_pass.specs.Rests.{IsResting}

-- 1. a question by its place

-- where_grouped of rules that there are
grouped : (bs : List Body) (q : Question) → (bs ≡ [] → ⊥) → where_grouped bs q ≡ Some q
grouped [] q h = absurd (h refl)
grouped (b ∷ bs) q h = refl

by_place : (s : System) (t : ℕ) (x : List LevelSymbol) (p : ℕ) (rest : List LevelSymbol) (i : ℕ) (a : LevelSymbol) → slice_get rest i ≡ Some a → get_or (questions_by_place s t x p rest) i None ≡ question_here s t x (p + i) a
by_place s t x p [] i a h = absurd (none-some a h)
by_place s t x p (b ∷ rest) zero a h =
    let e : b ≡ a = cc in
    let f : p ≡ p + 0 = omega arith in
    ap (question_here s t x p) e ∙ ap (λ q. question_here s t x q a) f
by_place s t x p (b ∷ rest) (suc i) a h =
    let f : (p + 1) + i ≡ p + suc i = omega arith in
    by_place s t x (p + 1) rest i a h ∙ ap (λ q. question_here s t x q a) f

kept_level : (s : System) (n t : ℕ) (xs : List (List LevelSymbol)) (i : ℕ) → n + i ≡ t → i + 1 < length xs → kept_from s n xs i ≡ level_questions s t (get_or xs i [])
kept_level s n t [] i e h = absurd (omega (arith, h))
kept_level s n t (x ∷ []) i e h = absurd (omega (arith, h))
kept_level s n t (x ∷ y ∷ xs) zero e h = let f : n ≡ t = omega (arith, e) in ap (λ u. level_questions s u x) f
kept_level s n t (x ∷ y ∷ xs) (suc i) e h = kept_level s (n + 1) t (y ∷ xs) i (omega (arith, e)) (omega (arith, h))

distinct_all : (xs : List (List LevelSymbol)) → ((t : ℕ) (x : List LevelSymbol) → slice_get xs t ≡ Some x → Distinct x) → Each Distinct xs
distinct_all [] h = tt
distinct_all (x ∷ xs) h = (h 0 x refl, distinct_all xs (λ t y e. h (suc t) y e))

pub zero_plus : (p : ℕ) → 0 + p ≡ p
zero_plus p = omega arith

-- a level below the last one has the questions of its modules
pub asked_there : (s : System) (limit : ℕ) (xs : List (List LevelSymbol)) → WellSpelled s → meaning s limit ≡ Ok xs → (t : ℕ) (x : List LevelSymbol) → slice_get xs t ≡ Some x → t < s.depth
    → (p : ℕ) (l : List ℕ) (m : ModuleValue) → slice_get x p ≡ Some (Module l m) → (group s t m.name (length m.params) ≡ [] → ⊥) → question_at t l (questions s xs) ≡ Some (module_question s t x p l m)
asked_there s limit xs w e t x there below p l m stands rules =
    kept_there s 0 t xs t l (omega arith) (distinct_all xs (λ u y h. (grown_to s limit s.depth xs w e u y h).distinct))
    ∙ ap (λ (os : List (Option Question)). kept_at os (place_of l (get_or xs t []))) (kept_level s 0 t xs t (omega arith) (let c = level_count s limit s.depth xs w e in omega (arith, c, below)))
    ∙ ap (λ (y : List LevelSymbol). kept_at (level_questions s t y) (place_of l y)) (get_or_from_slice_get xs t x [] there)
    ∙ ap (kept_at (level_questions s t x)) (place_is x p (Module l m) (grown_to s limit s.depth xs w e t x there).level stands)
    ∙ by_place s t x 0 x p (Module l m) stands
    ∙ ap (λ q. question_here s t x q (Module l m)) (zero_plus p)
    ∙ grouped (group s t m.name (length m.params)) (module_question s t x p l m) rules

-- such a question isn't needed
pub found_same : (olds : List Question) (q : Question) → question_at q.level (lineage q.own) olds ≡ Some q → is_needed olds q ≡ false
found_same olds q e = ap (differs q) e ∙ ap not (same_question_refl q)

-- 2. levels

flat_into : (f : ℕ → List ℕ) (xs : List ℕ) (p k : ℕ) → In p xs → In k (f p) → In k (flat f xs)
flat_into f [] p k i h = absurd i
flat_into f (x ∷ xs) p k (inl e) h = In_left k (f x) (flat f xs) (subst (λ q. In k (f q)) e h)
flat_into f (x ∷ xs) p k (inr i) h = In_right k (f x) (flat f xs) (flat_into f xs p k i h)

-- a node that is reached stands on its level
pub reached_on : (m : Nodes Kept) (root d k : ℕ) → ReachedIn m root (suc d) k → In k (level_nodes m root d)
reached_on m root zero k h =
    let e : kids_in (m root) ≡ h.1.kids = ap (λ r. kids_in (m r)) (sym h.2) ∙ ap kids_in h.3 in
    subst (In k) (sym e) h.4
reached_on m root (suc d) k h =
    let above = reached_on m root d h.0 h.2 in
    flat_into (λ i. kids_in (m i)) (level_nodes m root d) h.0 k above (subst (In k) (sym (ap kids_in h.3)) h.4)

pub no_more : (m : Nodes Kept) (root t u : ℕ) → level_nodes m root t ≡ [] → level_nodes m root (t + u) ≡ []
no_more m root t zero h = let e : t + 0 ≡ t = omega arith in ap (level_nodes m root) e ∙ h
no_more m root t (suc u) h =
    let e : t + suc u ≡ suc (t + u) = omega arith in
    ap (level_nodes m root) e ∙ ap (kids_below m) (no_more m root t u h)

-- 3. an answer of the last rest

-- The node stood at this place of level t, its module had rules there, and this was their answer.
pub record WasAnswered (s : System) (t : ℕ) (m : Nodes Kept) (root : ℕ) (store : Store) (k : ℕ) (a : Kept) : Type 0 where
  pub place : ℕ
  pub there : slice_get (level_nodes m root t) place ≡ Some k
  pub own : ModuleValue
  pub key : ℕ
  pub spot : slice_get (level_spots m root t) place ≡ Some (record { seen = S.Module own; tag = k; key = key })
  pub rules : group s t own.name (length own.params) ≡ [] → ⊥
  pub below : t < s.depth
  pub answer : IsAnswerThere s t (level_spots m root t) place k own (answer_in store a)

-- what is seen of a node at a place
pub spot_at : (m : Nodes Kept) (root t p k : ℕ) (n : Node Kept) → slice_get (level_nodes m root t) p ≡ Some k → m k ≡ Some n
    → slice_get (level_spots m root t) p ≡ Some (record { seen = n.seen; tag = k; key = n.key })
spot_at m root t p k n there is =
    slice_get-map (λ i. spot_in i (m i)) (level_nodes m root t) p
    ∙ ap (option_map (λ i. spot_in i (m i))) there ∙ ap (λ o. Some (spot_in k o)) is

pub kept_rules : (bs : List Body) (right : Kept → Type 0) (o : Option Kept) (a : Kept) → o ≡ Some a → IsKeptFor bs right o → (bs ≡ [] → ⊥) × right a
kept_rules [] right o a e h = absurd (none-some a (sym h ∙ e))
kept_rules (b ∷ bs) right o a e h =
    let same : h.0 ≡ a = same_Some h.0 a (sym h.1 ∙ e) in
    (λ f. cc, subst right same h.2)

module _ {listed : Bool} (s : System) (limit : ℕ) (m : Nodes Kept) (root : ℕ) (store : Store) (reads : Relations) (seats : List Seat) (r : IsResting listed s limit m root store reads seats) where
  pub count_is : length (levels_meant s limit) ≡ s.depth + 1
  count_is = level_count s limit s.depth (levels_meant s limit) r.spelled r.is

  -- none is kept past the levels that have questions
  pub is_below : (t k : ℕ) (a : Kept) → In k (level_nodes m root t) → answer_at m k ≡ Some a → t < s.depth
  is_below t k a on e = elim (cases_lt t s.depth) [
    | inl l ↦ l
    | inr ge ↦ elim (cases_lt s.depth t) [
      | inl far ↦
          let past = no_more m root (length (levels_meant s limit)) (t - length (levels_meant s limit)) r.ends in
          let same : length (levels_meant s limit) + (t - length (levels_meant s limit)) ≡ t = (let c = count_is in omega (arith, c, far)) in
          absurd (subst (In k) (sym (ap (level_nodes m root) same) ∙ past) on)
      | inr near ↦
          let same : t ≡ s.depth = omega (arith, ge, near) in
          absurd (none-some a (sym (r.others k (inr (subst (λ u. In k (level_nodes m root u)) same on))) ∙ e))
    ]
  ]

  pub was_answered : (t p k : ℕ) (n : Node Kept) (a : Kept) → slice_get (level_nodes m root t) p ≡ Some k → m k ≡ Some n → In k (level_nodes m root t) → answer_at m k ≡ Some a
      → WasAnswered s t m root store k a
  was_answered t p k n a there is on e = by n.seen refl (r.answered t p k below there (record { seen = n.seen; tag = k; key = n.key }) spot)
    where
      below : t < s.depth
      below = is_below t k a on e

      spot : slice_get (level_spots m root t) p ≡ Some (record { seen = n.seen; tag = k; key = n.key })
      spot = spot_at m root t p k n there is

      by : (x : Seen) → n.seen ≡ x → IsAnsweredRight s t (level_spots m root t) store p k n.seen (answer_at m k) → WasAnswered s t m root store k a
      by S.Push f h = absurd (none-some a (sym (subst (λ y. IsAnsweredRight s t (level_spots m root t) store p k y (answer_at m k)) f h) ∙ e))
      by S.Pop f h = absurd (none-some a (sym (subst (λ y. IsAnsweredRight s t (level_spots m root t) store p k y (answer_at m k)) f h) ∙ e))
      by (S.Module v) f h =
          let kept = kept_rules (group s t v.name (length v.params)) (IsRight s t (level_spots m root t) store p k v) (answer_at m k) a e (subst (λ y. IsAnsweredRight s t (level_spots m root t) store p k y (answer_at m k)) f h) in
          record {
            place = p;
            there = there;
            own = v;
            key = n.key;
            spot = spot ∙ ap (λ y. Some (record { seen = y; tag = k; key = n.key })) f;
            rules = kept.0;
            below = below;
            answer = kept.1.answer;
          }

  -- a node with an answer stands on a level
  pub record IsPlaced (k : ℕ) : Type 0 where
    pub level : ℕ
    pub place : ℕ
    pub there : slice_get (level_nodes m root level) place ≡ Some k
    pub on : In k (level_nodes m root level)

  pub placed : (k : ℕ) (n : Node Kept) (a : Kept) → m k ≡ Some n → answer_at m k ≡ Some a → IsPlaced k
  placed k n a is e = by (r.reached k n is).0 (r.reached k n is).1
    where
      by : (d : ℕ) → ReachedIn m root d k → IsPlaced k
      by zero h = absurd (none-some a (sym (r.others k (inl h)) ∙ e))
      by (suc d) h = let on = reached_on m root d k h in let p = In_at k (level_nodes m root d) on in record { level = d; place = p.0; there = p.1; on = on }

-- a node with an answer lives
pub answer_lives : (m : Nodes Kept) (k : ℕ) (a : Kept) → answer_at m k ≡ Some a → (n : Node Kept) × (m k ≡ Some n)
answer_lives m k a h = by (m k) refl h
  where
    by : (o : Option (Node Kept)) → m k ≡ o → option_and_then answer_of o ≡ Some a → (n : Node Kept) × (m k ≡ Some n)
    by None e i = absurd (none-some a i)
    by (Some n) e i = (n, e)

-- The question at a level and lineage, found by the place of the lineage in its level.
use Rattle.std.proofs.Common.{◌≡◌, ℕ, zero, suc, ◌+◌, ◌<◌, Bool, true, false, ◌&&◌, ◌==◌, cond, get_or, Option, Some, None, List, [], ◌∷◌, ◌++◌, length, refl, sym, ap, ◌∙◌, subst, arith, eq-eqb, add-one}
use Rattle.std.specs.Prelude.{option_map}
use Rattle.std.proofs.lemmas.Bool.{eqb-true}
use Rattle.lsys_spec.specs.Systems.{System, Each}
use Rattle.lsys_spec.specs.Bodies.{Body, group}
use Rattle.lsys_spec.specs.Levels.{LevelSymbol, Push, Pop, Module, lineage}
use Rattle.lsys_spec.specs.Equalities.{same_lineage}
use Rattle.lsys_spec.specs.Questions.{Question, question, where_any, questions_from, questions_at, questions_below, question_at}
use Rattle.lsys_spec.specs.Standings.{first_or, place_of}
use Rattle.lsys_spec.specs.Cuts.{Distinct}
use Rattle.lsys_spec.proofs.Equal.{same_lineage_true}
use Rattle.lsys_spec.proofs.Tests.{and_true}
use Rattle.lsys_laws.specs.KeptQuestions.{where_grouped, questions_by_place, level_questions, kept_from, kept_at, present}
use Rattle.lsys_laws.proofs.Lineages.{place_after}

and_false : (a b : Bool) → b ≡ false → a && b ≡ false
and_false true b e = e
and_false false b e = refl

false_and : (a b : Bool) → a ≡ false → a && b ≡ false
false_and true b e = cc
false_and false b e = refl

not_same : (a b : ℕ) → (a ≡ b → ⊥) → a == b ≡ false
not_same a b f = by (a == b) refl
  where
    by : (c : Bool) → a == b ≡ c → a == b ≡ false
    by true e = absurd (f (eqb-true a b e))
    by false e = e

-- 1. in one level

later : (o : Option Question) (os : List (Option Question)) (m : Option ℕ) → kept_at (o ∷ os) (option_map (λ p. p + 1) m) ≡ kept_at os m
later o os None = refl
later o os (Some p) = rw add-one refl

hit : (bs : List Body) (q : Question) (qs : List Question) (t : ℕ) (l : List ℕ) → q.level ≡ t → same_lineage l (lineage q.own) ≡ true → question_at t l qs ≡ None → question_at t l (where_any bs q qs) ≡ where_grouped bs q
hit [] q qs t l e f g = g
hit (b ∷ bs) q qs t l e f g = ap (λ c. cond c (Some q) (question_at t l qs)) (and_true (q.level == t) (same_lineage l (lineage q.own)) (eq-eqb q.level t e) f)

miss : (bs : List Body) (q : Question) (qs : List Question) (t : ℕ) (l : List ℕ) → same_lineage l (lineage q.own) ≡ false → question_at t l (where_any bs q qs) ≡ question_at t l qs
miss [] q qs t l f = refl
miss (b ∷ bs) q qs t l f = ap (λ c. cond c (Some q) (question_at t l qs)) (and_false (q.level == t) (same_lineage l (lineage q.own)) f)

elsewhere : (bs : List Body) (q : Question) (qs : List Question) (t : ℕ) (l : List ℕ) → (q.level ≡ t → ⊥) → question_at t l (where_any bs q qs) ≡ question_at t l qs
elsewhere [] q qs t l f = refl
elsewhere (b ∷ bs) q qs t l f = ap (λ c. cond c (Some q) (question_at t l qs)) (false_and (q.level == t) (same_lineage l (lineage q.own)) (not_same q.level t f))

-- a lineage that stands first stands nowhere else
gone : (u : LevelSymbol) (x : List LevelSymbol) (l : List ℕ) → Distinct (u ∷ x) → same_lineage l (lineage u) ≡ true → place_of l x ≡ None
gone u x l h e = ap (λ l. place_of l x) (same_lineage_true l (lineage u) e) ∙ place_after u x h

-- a symbol without a question, and with one
past : (u : LevelSymbol) (rest : List LevelSymbol) (l : List ℕ) (os : List (Option Question)) (r : Option Question) → Distinct (u ∷ rest) → r ≡ kept_at os (place_of l rest)
    → r ≡ kept_at (None ∷ os) (place_of l (u ∷ rest))
past u rest l os r h e = by (same_lineage l (lineage u)) refl
  where
    by : (b : Bool) → same_lineage l (lineage u) ≡ b → r ≡ kept_at (None ∷ os) (first_or (same_lineage l (lineage u)) (place_of l rest))
    by true k = rw k (e ∙ ap (kept_at os) (gone u rest l h k))
    by false k = rw k (e ∙ sym (later None os (place_of l rest)))

here : (u : LevelSymbol) (rest : List LevelSymbol) (t : ℕ) (l : List ℕ) (os : List (Option Question)) (bs : List Body) (q : Question) (qs : List Question) → Distinct (u ∷ rest) → q.level ≡ t → lineage q.own ≡ lineage u
    → question_at t l qs ≡ kept_at os (place_of l rest) → question_at t l (where_any bs q qs) ≡ kept_at (where_grouped bs q ∷ os) (place_of l (u ∷ rest))
here u rest t l os bs q qs h f o e = by (same_lineage l (lineage u)) refl
  where
    by : (b : Bool) → same_lineage l (lineage u) ≡ b → question_at t l (where_any bs q qs) ≡ kept_at (where_grouped bs q ∷ os) (first_or (same_lineage l (lineage u)) (place_of l rest))
    by true k = rw k (hit bs q qs t l f (ap (same_lineage l) o ∙ k) (e ∙ ap (kept_at os) (gone u rest l h k)))
    by false k = rw k (miss bs q qs t l (ap (same_lineage l) o ∙ k) ∙ e ∙ sym (later (where_grouped bs q) os (place_of l rest)))

looked_up : (s : System) (t : ℕ) (x : List LevelSymbol) (p : ℕ) (rest : List LevelSymbol) → Distinct rest → (l : List ℕ) → question_at t l (questions_from s t x p rest) ≡ kept_at (questions_by_place s t x p rest) (place_of l rest)
looked_up s t x p [] h l = refl
looked_up s t x p (Push k ∷ rest) h l = past (Push k) rest l (questions_by_place s t x (p + 1) rest) (question_at t l (questions_from s t x (p + 1) rest)) h (looked_up s t x (p + 1) rest h.1 l)
looked_up s t x p (Pop k ∷ rest) h l = past (Pop k) rest l (questions_by_place s t x (p + 1) rest) (question_at t l (questions_from s t x (p + 1) rest)) h (looked_up s t x (p + 1) rest h.1 l)
looked_up s t x p (Module k m ∷ rest) h l =
    let bs : List Body = group s t m.name (length m.params) in
    here (Module k m) rest t l (questions_by_place s t x (p + 1) rest) bs (question s t bs x p k m) (questions_from s t x (p + 1) rest) h refl refl (looked_up s t x (p + 1) rest h.1 l)

-- the questions of a level are those of its places

one_present : (bs : List Body) (q : Question) (qs : List Question) (os : List (Option Question)) → qs ≡ present os → where_any bs q qs ≡ present (where_grouped bs q ∷ os)
one_present [] q qs os e = e
one_present (b ∷ bs) q qs os e = ap (λ qs. q ∷ qs) e

pub all_present : (s : System) (t : ℕ) (x : List LevelSymbol) (p : ℕ) (rest : List LevelSymbol) → questions_from s t x p rest ≡ present (questions_by_place s t x p rest)
all_present s t x p [] = refl
all_present s t x p (Push k ∷ rest) = all_present s t x (p + 1) rest
all_present s t x p (Pop k ∷ rest) = all_present s t x (p + 1) rest
all_present s t x p (Module k m ∷ rest) =
    let bs : List Body = group s t m.name (length m.params) in
    one_present bs (question s t bs x p k m) (questions_from s t x (p + 1) rest) (questions_by_place s t x (p + 1) rest) (all_present s t x (p + 1) rest)

-- 2. in another level

other_level : (s : System) (n t : ℕ) (x : List LevelSymbol) (p : ℕ) (rest : List LevelSymbol) (l : List ℕ) → (n ≡ t → ⊥) → question_at t l (questions_from s n x p rest) ≡ None
other_level s n t x p [] l f = refl
other_level s n t x p (Push k ∷ rest) l f = other_level s n t x (p + 1) rest l f
other_level s n t x p (Pop k ∷ rest) l f = other_level s n t x (p + 1) rest l f
other_level s n t x p (Module k m ∷ rest) l f =
    let bs : List Body = group s n m.name (length m.params) in
    elsewhere bs (question s n bs x p k m) (questions_from s n x (p + 1) rest) t l f ∙ other_level s n t x (p + 1) rest l f

-- 3. in all levels

or_else : Option Question → Option Question → Option Question
or_else None o = o
or_else (Some q) o = Some q

at_append : (t : ℕ) (l : List ℕ) (a bs : List Question) → question_at t l (a ++ bs) ≡ or_else (question_at t l a) (question_at t l bs)
unfolding or_else
at_append t l [] bs = refl
at_append t l (q ∷ a) bs = by ((q.level == t) && same_lineage l (lineage q.own)) (at_append t l a bs)
  where
    by : (c : Bool) → question_at t l (a ++ bs) ≡ or_else (question_at t l a) (question_at t l bs) → cond c (Some q) (question_at t l (a ++ bs)) ≡ or_else (cond c (Some q) (question_at t l a)) (question_at t l bs)
    by true e = refl
    by false e = e

none_then : (o r : Option Question) → o ≡ None → or_else o r ≡ r
unfolding or_else
none_then None r e = refl
none_then (Some q) r e = cc

then_none : (o r : Option Question) → r ≡ None → or_else o r ≡ o
unfolding or_else
then_none None r e = e
then_none (Some q) r e = refl

nothing_kept : (m : Option ℕ) → kept_at [] m ≡ None
nothing_kept None = refl
nothing_kept (Some p) = refl

past_levels : (s : System) (n t : ℕ) (levels : List (List LevelSymbol)) (l : List ℕ) → t < n → question_at t l (questions_below s n levels) ≡ None
past_levels s n t [] l h = refl
past_levels s n t (x ∷ []) l h = refl
past_levels s n t (x ∷ y ∷ levels) l h =
    at_append t l (questions_at s n x) (questions_below s (n + 1) (y ∷ levels))
    ∙ none_then _ _ (other_level s n t x 0 x l (λ e. omega (arith, h, e))) ∙ past_levels s (n + 1) t (y ∷ levels) l (omega (arith, h))

-- what is kept of the level i places after level n
pub kept_there : (s : System) (n t : ℕ) (levels : List (List LevelSymbol)) (i : ℕ) (l : List ℕ) → n + i ≡ t → Each Distinct levels
    → question_at t l (questions_below s n levels) ≡ kept_at (kept_from s n levels i) (place_of l (get_or levels i []))
kept_there s n t [] i l e h = sym (nothing_kept (place_of l (get_or [] i [])))
kept_there s n t (x ∷ []) i l e h = sym (nothing_kept (place_of l (get_or (x ∷ []) i [])))
kept_there s n t (x ∷ y ∷ levels) zero l e h =
    let same : n ≡ t = omega (arith, e) in
    at_append t l (questions_at s n x) (questions_below s (n + 1) (y ∷ levels))
    ∙ then_none _ _ (past_levels s (n + 1) t (y ∷ levels) l (omega (arith, e)))
    ∙ subst (λ t. question_at t l (questions_at s n x) ≡ kept_at (level_questions s n x) (place_of l x)) same (looked_up s n x 0 x h.0 l)
kept_there s n t (x ∷ y ∷ levels) (suc i) l e h =
    at_append t l (questions_at s n x) (questions_below s (n + 1) (y ∷ levels))
    ∙ none_then _ _ (other_level s n t x 0 x l (λ k. omega (arith, k, e)))
    ∙ kept_there s (n + 1) t (y ∷ levels) i l (omega (arith, e)) h.1

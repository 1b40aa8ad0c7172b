-- How many questions of a level are new, and how many there are, place by place.
use Rattle.std.proofs.Common.{◌≡◌, ℕ, zero, suc, ◌+◌, ◌<◌, Bool, true, false, cond, Option, Some, None, List, [], ◌∷◌, length, refl, ap, ◌∙◌, arith}
use Rattle.std.specs.Prelude.{slice_get}
use Rattle.lsys_spec.specs.Systems.{System}
use Rattle.lsys_spec.specs.Levels.{LevelSymbol, Push, Pop, Module}
use Rattle.lsys_spec.specs.Questions.{Question, differs}
use Rattle.lsys_laws.specs.KeptQuestions.{questions_by_place, present, unanswered, question_here}
use Rattle.lsys_flat.specs.Slots.{slot_by_place, filled_slots}

-- 1. the question at a place

pub by_place : (s : System) (t : ℕ) (x : List LevelSymbol) (p : ℕ) (rest : List LevelSymbol) (i n : ℕ) (a : LevelSymbol) → slice_get rest i ≡ Some a → p + i ≡ n → slot_by_place (questions_by_place s t x p rest) i ≡ question_here s t x n a
by_place s t x p [] i n a e f = let no : None ≡ Some a = e in cc
by_place s t x p (Push l ∷ rest) zero n a e f = let h : Push l ≡ a = cc in ap (question_here s t x n) h
by_place s t x p (Pop l ∷ rest) zero n a e f = let h : Pop l ≡ a = cc in ap (question_here s t x n) h
by_place s t x p (Module l m ∷ rest) zero n a e f =
    let h : Module l m ≡ a = cc in
    let k : p ≡ n = omega (arith, f) in ap (λ p. question_here s t x p (Module l m)) k ∙ ap (question_here s t x n) h
by_place s t x p (Push l ∷ rest) (suc i) n a e f = by_place s t x (p + 1) rest i n a e (omega (arith, f))
by_place s t x p (Pop l ∷ rest) (suc i) n a e f = by_place s t x (p + 1) rest i n a e (omega (arith, f))
by_place s t x p (Module l m ∷ rest) (suc i) n a e f = by_place s t x (p + 1) rest i n a e (omega (arith, f))

pub places_length : (s : System) (t : ℕ) (x : List LevelSymbol) (p : ℕ) (rest : List LevelSymbol) → length (questions_by_place s t x p rest) ≡ length rest
places_length s t x p [] = refl
places_length s t x p (Push l ∷ rest) = ap suc (places_length s t x (p + 1) rest)
places_length s t x p (Pop l ∷ rest) = ap suc (places_length s t x (p + 1) rest)
places_length s t x p (Module l m ∷ rest) = ap suc (places_length s t x (p + 1) rest)

-- 2. counts by places

-- one for a question that the old one doesn't answer
abbrev pub one_new : Option Question → Option Question → ℕ
one_new None o = 0
one_new (Some q) o = cond (differs q o) 1 0

abbrev pub one : {A : Type 0} → Option A → ℕ
one None = 0
one (Some a) = 1

unanswered_more : (o : Option Question) (os : List (Option Question)) (q : Option Question) (qs : List (Option Question)) → length (unanswered (o ∷ os) (q ∷ qs)) ≡ one_new q o + length (unanswered os qs)
unanswered_more o os None qs = omega arith
unanswered_more o os (Some q) qs = by (differs q o)
  where
    by : (b : Bool) → length (cond b (q ∷ unanswered os qs) (unanswered os qs)) ≡ cond b 1 0 + length (unanswered os qs)
    by true = omega arith
    by false = omega arith

pub filled_more : {A : Type 0} (f : Option A) (fs : List (Option A)) → filled_slots (f ∷ fs) ≡ one f + filled_slots fs
filled_more None fs = omega arith
filled_more (Some a) fs = omega arith

present_more : (q : Option Question) (qs : List (Option Question)) → length (present (q ∷ qs)) ≡ one q + length (present qs)
present_more None qs = omega arith
present_more (Some q) qs = omega arith

pub count_new : {A : Type 0} (os qs : List (Option Question)) (fs : List (Option A)) → length os ≡ length qs → length fs ≡ length qs → ((i : ℕ) → i < length qs → one_new (slot_by_place qs i) (slot_by_place os i) ≡ one (slot_by_place fs i))
    → length (unanswered os qs) ≡ filled_slots fs
count_new [] [] [] e g h = refl
count_new [] [] (f ∷ fs) e g h = absurd (omega (arith, g))
count_new [] (q ∷ qs) fs e g h = absurd (omega (arith, e))
count_new (o ∷ os) [] fs e g h = absurd (omega (arith, e))
count_new (o ∷ os) (q ∷ qs) [] e g h = absurd (omega (arith, g))
count_new (o ∷ os) (q ∷ qs) (f ∷ fs) e g h =
    let first : one_new q o ≡ one f = h 0 (omega arith) in
    let rest : length (unanswered os qs) ≡ filled_slots fs = count_new os qs fs (omega (arith, e)) (omega (arith, g)) (λ i k. h (suc i) (omega (arith, k))) in
    omega (arith, unanswered_more o os q qs, filled_more f fs, first, rest)

pub count_asked : {A B : Type 0} (qs : List (Option Question)) (fs : List (Option A)) (ks : List (Option B)) → length fs ≡ length qs → length ks ≡ length qs
    → ((i : ℕ) → i < length qs → one (slot_by_place qs i) ≡ one (slot_by_place fs i) + one (slot_by_place ks i)) → length (present qs) ≡ filled_slots fs + filled_slots ks
count_asked [] [] [] e g h = refl
count_asked [] [] (k ∷ ks) e g h = absurd (omega (arith, g))
count_asked [] (f ∷ fs) ks e g h = absurd (omega (arith, e))
count_asked (q ∷ qs) [] ks e g h = absurd (omega (arith, e))
count_asked (q ∷ qs) (f ∷ fs) [] e g h = absurd (omega (arith, g))
count_asked (q ∷ qs) (f ∷ fs) (k ∷ ks) e g h =
    let first : one q ≡ one f + one k = h 0 (omega arith) in
    let rest : length (present qs) ≡ filled_slots fs + filled_slots ks = count_asked qs fs ks (omega (arith, e)) (omega (arith, g)) (λ i k. h (suc i) (omega (arith, k))) in
    omega (arith, present_more q qs, filled_more f fs, filled_more k ks, first, rest)

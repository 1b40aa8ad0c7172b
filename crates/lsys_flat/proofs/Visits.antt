-- What is read for questions.
use Rattle.std.proofs.Common.{◌≡◌, ℕ, zero, suc, ◌+◌, ◌*◌, ◌≤◌, Bool, true, false, cond, List, [], ◌∷◌, ◌++◌, length, sym, ap, ◌∙◌, arith, get_or, append_assoc}
use Rattle.std.specs.Prelude.{sum_by}
use Rattle.std.proofs.lemmas.List.{append-nil, length-take}
use Rattle.std.proofs.lemmas.List.Sums.{sum_by-cons}
use Rattle.lsys_spec.specs.Systems.{System}
use Rattle.lsys_spec.specs.Bodies.{Body, group}
use Rattle.lsys_spec.specs.Levels.{ModuleValue, LevelSymbol, Push, Pop, Module}
use Rattle.lsys_spec.specs.Meaning.{asked, most_entries}
use Rattle.lsys_spec.specs.Questions.{Question, question, where_any, questions_from, questions_at, questions_below, is_needed, least_visits}

pub least_within : (olds qs : List Question) → least_visits olds qs ≤ sum_by (λ q. length q.trace) qs
least_within olds [] = omega arith
least_within olds (q ∷ qs) =
    let rest : least_visits olds qs ≤ sum_by (λ q. length q.trace) qs = least_within olds qs in
    let one : cond (is_needed olds q) (length q.trace) 0 ≤ length q.trace = by (is_needed olds q) in
    omega (arith, sum_by-cons (λ q. cond (is_needed olds q) (length q.trace) 0) q qs, sum_by-cons (λ (q : Question). length q.trace) q qs, rest, one)
  where
    by : (b : Bool) → cond b (length q.trace) 0 ≤ length q.trace
    by true = omega arith
    by false = omega arith

any_sum : (g : Question → ℕ) (bs : List Body) (q : Question) (qs : List Question) → sum_by g (where_any bs q qs) ≤ g q + sum_by g qs
any_sum g [] q qs = omega arith
any_sum g (b ∷ bs) q qs = omega (arith, sum_by-cons g q qs)

any_length : (bs : List Body) (q : Question) (qs : List Question) → length (where_any bs q qs) ≤ length qs + 1
any_length [] q qs = omega arith
any_length (b ∷ bs) q qs = omega arith

short_trace : (s : System) (t : ℕ) (bs : List Body) (x : List LevelSymbol) (p : ℕ) (l : List ℕ) (m : ModuleValue) → length (question s t bs x p l m).trace ≤ most_entries + 1
short_trace s t bs x p l m = omega (arith, length-take (most_entries + 1) (asked s t bs x p l m).entries)

pub level_visits : (s : System) (t : ℕ) (x : List LevelSymbol) (p : ℕ) (rest : List LevelSymbol) → sum_by (λ q. length q.trace) (questions_from s t x p rest) ≤ (most_entries + 1) * length rest
level_visits s t x p [] = omega arith
level_visits s t x p (Push l ∷ rest) = let r : sum_by (λ q. length q.trace) (questions_from s t x (p + 1) rest) ≤ (most_entries + 1) * length rest = level_visits s t x (p + 1) rest in omega (arith, r)
level_visits s t x p (Pop l ∷ rest) = let r : sum_by (λ q. length q.trace) (questions_from s t x (p + 1) rest) ≤ (most_entries + 1) * length rest = level_visits s t x (p + 1) rest in omega (arith, r)
level_visits s t x p (Module l m ∷ rest) =
    let bs : List Body = group s t m.name (length m.params) in
    let r : sum_by (λ q. length q.trace) (questions_from s t x (p + 1) rest) ≤ (most_entries + 1) * length rest = level_visits s t x (p + 1) rest in
    let one = any_sum (λ (q : Question). length q.trace) bs (question s t bs x p l m) (questions_from s t x (p + 1) rest) in
    omega (arith, r, one, short_trace s t bs x p l m)

pub level_few : (s : System) (t : ℕ) (x : List LevelSymbol) (p : ℕ) (rest : List LevelSymbol) → length (questions_from s t x p rest) ≤ length rest
level_few s t x p [] = omega arith
level_few s t x p (Push l ∷ rest) = let r : length (questions_from s t x (p + 1) rest) ≤ length rest = level_few s t x (p + 1) rest in omega (arith, r)
level_few s t x p (Pop l ∷ rest) = let r : length (questions_from s t x (p + 1) rest) ≤ length rest = level_few s t x (p + 1) rest in omega (arith, r)
level_few s t x p (Module l m ∷ rest) =
    let bs : List Body = group s t m.name (length m.params) in
    let r : length (questions_from s t x (p + 1) rest) ≤ length rest = level_few s t x (p + 1) rest in
    let one = any_length bs (question s t bs x p l m) (questions_from s t x (p + 1) rest) in
    omega (arith, r, one)

pub more_questions : (s : System) (n : ℕ) (xs : List (List LevelSymbol)) (y : List LevelSymbol) (i t : ℕ) → length xs ≡ i + 1 → n + i ≡ t → questions_below s n (xs ++ y ∷ []) ≡ questions_below s n xs ++ questions_at s t (get_or xs i [])
more_questions s n [] y i t e f = absurd (omega (arith, e))
more_questions s n (x ∷ []) y zero t e f = let k : n ≡ t = omega (arith, f) in append-nil (questions_at s n x) ∙ ap (λ n. questions_at s n x) k
more_questions s n (x ∷ []) y (suc i) t e f = absurd (omega (arith, e))
more_questions s n (x ∷ z ∷ xs) y zero t e f = absurd (omega (arith, e))
more_questions s n (x ∷ z ∷ xs) y (suc i) t e f =
    ap (λ qs. questions_at s n x ++ qs) (more_questions s (n + 1) (z ∷ xs) y i t (omega (arith, e)) (omega (arith, f)))
    ∙ sym (append_assoc (questions_at s n x) (questions_below s (n + 1) (z ∷ xs)) (questions_at s t (get_or (z ∷ xs) i [])))

-- What an edit asks and reads, level by level.
use Rattle.std.proofs.Common.{◌≡◌, ℕ, zero, suc, ◌+◌, ◌<◌, Bool, cond, get_or, List, [], ◌∷◌, ◌++◌, length, refl, sym, ap, ◌∙◌, arith, append_assoc}
use Rattle.std.specs.Prelude.{sum_by}
use Rattle.std.proofs.lemmas.List.{append-nil}
use Rattle.std.proofs.lemmas.List.Sums.{sum_by-cons, sum_by-append}
use Rattle.lsys_spec.specs.Systems.{System, Each}
use Rattle.lsys_spec.specs.Bodies.{Body, group}
use Rattle.lsys_spec.specs.Levels.{LevelSymbol, Push, Pop, Module}
use Rattle.lsys_spec.specs.Questions.{Question, question, where_any, questions_from, questions_at, questions_below, questions, is_needed}
use Rattle.lsys_spec.specs.LevelLaws.{may_differ}
use Rattle.lsys_laws.specs.Passes.{is_candidate_at}
use Rattle.lsys_laws.proofs.Faultless.{IsBelow, below}

-- one level more
pub more_questions : (s : System) (n : ℕ) (xs : List (List LevelSymbol)) (y : List LevelSymbol) (i t : ℕ) → length xs ≡ i + 1 → n + i ≡ t → questions_below s n (xs ++ y ∷ []) ≡ questions_below s n xs ++ questions_at s t (get_or xs i [])
more_questions s n [] y i t e f = absurd (omega (arith, e))
more_questions s n (x ∷ []) y zero t e f = let k : n ≡ t = omega (arith, f) in append-nil (questions_at s n x) ∙ ap (λ n. questions_at s n x) k
more_questions s n (x ∷ []) y (suc i) t e f = absurd (omega (arith, e))
more_questions s n (x ∷ z ∷ xs) y zero t e f = absurd (omega (arith, e))
more_questions s n (x ∷ z ∷ xs) y (suc i) t e f =
    ap (λ qs. questions_at s n x ++ qs) (more_questions s (n + 1) (z ∷ xs) y i t (omega (arith, e)) (omega (arith, f)))
    ∙ sym (append_assoc (questions_at s n x) (questions_below s (n + 1) (z ∷ xs)) (questions_at s t (get_or (z ∷ xs) i [])))

-- sums of what passes
abbrev pub over : (Question → ℕ) → (Question → Bool) → List Question → ℕ
over w p qs = sum_by (λ q. cond (p q) (w q) 0) qs

over_same : (w : Question → ℕ) (f g : Question → Bool) (P : Question → Type 0) → ((q : Question) → P q → f q ≡ g q) → (qs : List Question) → Each P qs → over w f qs ≡ over w g qs
over_same w f g P h [] e = refl
over_same w f g P h (q ∷ qs) e =
    sum_by-cons (λ q. cond (f q) (w q) 0) q qs ∙ ap (λ b. cond b (w q) 0 + over w f qs) (h q e.0) ∙ ap (λ n. cond (g q) (w q) 0 + n) (over_same w f g P h qs e.1)
    ∙ sym (sum_by-cons (λ q. cond (g q) (w q) 0) q qs)

-- the questions of a level are of that level
abbrev IsOf : ℕ → Question → Type 0
IsOf t q = q.level ≡ t

any_of : (t : ℕ) (bs : List Body) (q : Question) (qs : List Question) → IsOf t q → Each (IsOf t) qs → Each (IsOf t) (where_any bs q qs)
any_of t [] q qs h k = k
any_of t (b ∷ bs) q qs h k = (h, k)

of_level : (s : System) (t : ℕ) (x : List LevelSymbol) (p : ℕ) (rest : List LevelSymbol) → Each (IsOf t) (questions_from s t x p rest)
of_level s t x p [] = tt
of_level s t x p (Push l ∷ rest) = of_level s t x (p + 1) rest
of_level s t x p (Pop l ∷ rest) = of_level s t x (p + 1) rest
of_level s t x p (Module l m ∷ rest) =
    let bs : List Body = group s t m.name (length m.params) in any_of t bs (question s t bs x p l m) (questions_from s t x (p + 1) rest) refl (of_level s t x (p + 1) rest)

get_front : (ys : List (List LevelSymbol)) (z : List LevelSymbol) (u : ℕ) → u < length ys → get_or (ys ++ z ∷ []) u [] ≡ get_or ys u []
get_front [] z u h = absurd (omega (arith, h))
get_front (y ∷ ys) z zero h = refl
get_front (y ∷ ys) z (suc u) h = get_front ys z u (omega (arith, h))

pub more_visits : (w : Question → ℕ) (old new : System) (xs ys : List (List LevelSymbol)) (z : List LevelSymbol) (t : ℕ) → length ys ≡ t + 1
    → over w (may_differ old new xs (ys ++ z ∷ [])) (questions new (ys ++ z ∷ [])) ≡ over w (may_differ old new xs ys) (questions new ys) + over w (is_candidate_at old new xs t (get_or ys t [])) (questions_at new t (get_or ys t []))
more_visits w old new xs ys z t e =
    let new_test : Question → Bool = may_differ old new xs (ys ++ z ∷ []) in
    let level : List LevelSymbol = get_or ys t [] in
    ap (over w new_test) (more_questions new 0 ys z t t e (omega arith))
    ∙ sum_by-append (λ q. cond (new_test q) (w q) 0) (questions new ys) (questions_at new t level)
    ∙ ap (λ n. n + over w new_test (questions_at new t level))
    (over_same w new_test (may_differ old new xs ys) (IsBelow (length ys)) (λ q h. earlier q h) (questions new ys) (below (length ys) new 0 ys (omega arith)))
    ∙ ap (λ n. over w (may_differ old new xs ys) (questions new ys) + n)
    (over_same w new_test (is_candidate_at old new xs t level) (IsOf t) (λ q h. here q h) (questions_at new t level) (of_level new t level 0 level))
  where
    earlier : (q : Question) → IsBelow (length ys) q → may_differ old new xs (ys ++ z ∷ []) q ≡ may_differ old new xs ys q
    earlier q h = ap (λ y. is_candidate_at old new xs q.level y q) (get_front ys z q.level (omega (arith, h)))

    here : (q : Question) → q.level ≡ t → may_differ old new xs (ys ++ z ∷ []) q ≡ is_candidate_at old new xs t (get_or ys t []) q
    here q h =
        ap (λ u. is_candidate_at old new xs u (get_or (ys ++ z ∷ []) u []) q) h ∙ ap (λ y. is_candidate_at old new xs t y q) (get_front ys z t (omega (arith, e)))

pub more_needs : (w : Question → ℕ) (olds : List Question) (new : System) (ys : List (List LevelSymbol)) (z : List LevelSymbol) (t : ℕ) → length ys ≡ t + 1
    → over w (is_needed olds) (questions new (ys ++ z ∷ [])) ≡ over w (is_needed olds) (questions new ys) + over w (is_needed olds) (questions_at new t (get_or ys t []))
more_needs w olds new ys z t e =
    ap (over w (is_needed olds)) (more_questions new 0 ys z t t e (omega arith)) ∙ sum_by-append (λ q. cond (is_needed olds q) (w q) 0) (questions new ys) (questions_at new t (get_or ys t []))

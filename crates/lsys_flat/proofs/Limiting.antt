-- A derivation, level by level, and its limit.
use Rattle.std.proofs.Common.{◌≡◌, ℕ, zero, suc, ◌+◌, ◌-◌, ◌<◌, ◌≤◌, List, [], ◌∷◌, ◌++◌, length, Result, Ok, Err, sum_by, arith, refl, sym, ap, ◌∙◌, add-one}
use Rattle.std.proofs.Math.Nat.{add-suc}
use Rattle.std.proofs.lemmas.Grind.{common_steps}
use Rattle.std.proofs.lemmas.Bool.Decides.{nat_tests}
use Rattle.std.proofs.lemmas.List.Sums.{sum_by_push, sum_by-cons}
use Rattle.lsys_spec.specs.Systems.{System}
use Rattle.lsys_spec.specs.Levels.{LevelSymbol}
use Rattle.lsys_spec.specs.Meaning.{LevelRefusal, OverLimit, first_level, next_level, last_level, within_limit, meaning_to, meaning}
use Rattle.lsys_spec.specs.Values.{◌and_then◌}

-- a refusal stays
stays_by : (s : System) (limit t d : ℕ) (e : LevelRefusal) → meaning_to s limit t ≡ Err e → meaning_to s limit (t + d) ≡ Err e
stays_by s limit t zero e h = grind (arith, common_steps)
stays_by s limit t (suc d) e h = let before = stays_by s limit t d e h in rw (add-suc) (rw before refl)

stays : (s : System) (limit t n : ℕ) (e : LevelRefusal) → t ≤ n → meaning_to s limit t ≡ Err e → meaning_to s limit n ≡ Err e
stays s limit t n e h m =
    let at : t + (n - t) ≡ n = omega arith in
    ap (meaning_to s limit) (sym at) ∙ stays_by s limit t (n - t) e m

over : (limit t : ℕ) (levels : List (List LevelSymbol)) → limit < sum_by length levels → within_limit limit t levels ≡ Err (OverLimit t)
over limit t levels h = grind (arith, nat_tests)

-- the step to the next level, by what that level is
step_to : (s : System) (limit t : ℕ) (levels : List (List LevelSymbol)) (r : Result (List LevelSymbol) LevelRefusal) → meaning_to s limit t ≡ Ok levels → next_level s t (last_level levels) ≡ r
    → meaning_to s limit (suc t) ≡ (r and_then λ x. within_limit limit (suc t) (levels ++ x ∷ []))
step_to s limit t levels r m n =
    ap (λ (r : Result (List (List LevelSymbol)) LevelRefusal). r and_then λ levels. next_level s t (last_level levels) and_then λ x. within_limit limit (suc t) (levels ++ x ∷ [])) m
    ∙ ap (λ (r : Result (List LevelSymbol) LevelRefusal). r and_then λ x. within_limit limit (suc t) (levels ++ x ∷ [])) n

pub begins_over : (s : System) (limit : ℕ) → limit < length (first_level s) → meaning s limit ≡ Err (OverLimit 0)
begins_over s limit h =
    stays s limit 0 s.depth (OverLimit 0) (omega arith) (over limit 0 (first_level s ∷ []) (omega (arith, sum_by-cons (length {A = LevelSymbol}) (first_level s) [])))

pub goes_over : (s : System) (limit t : ℕ) (xs : List (List LevelSymbol)) (x : List LevelSymbol) → meaning_to s limit t ≡ Ok xs → next_level s t (last_level xs) ≡ Ok x → limit < sum_by length xs + length x → t < s.depth
    → meaning s limit ≡ Err (OverLimit (t + 1))
goes_over s limit t xs x m n h l =
    rw add-one (stays s limit (suc t) s.depth (OverLimit (suc t)) (omega arith)
    (step_to s limit t xs (Ok x) m n ∙ over limit (suc t) (xs ++ x ∷ []) (omega (arith, sum_by_push (length {A = LevelSymbol}) xs x))))

pub refused : (s : System) (limit t : ℕ) (xs : List (List LevelSymbol)) (e : LevelRefusal) → meaning_to s limit t ≡ Ok xs → next_level s t (last_level xs) ≡ Err e → t < s.depth → meaning s limit ≡ Err e
refused s limit t xs e m n l = stays s limit (suc t) s.depth e (omega arith) (step_to s limit t xs (Err e) m n)

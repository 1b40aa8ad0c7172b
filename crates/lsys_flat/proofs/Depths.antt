-- Levels of an unfinished derivation are those of a system with less depth.
use Rattle.std.proofs.Common.{◌≡◌, ℕ, zero, suc, ◌≤◌, Bool, true, false, cond, Some, Result, Ok, Err, List, [], ◌∷◌, ◌++◌, length, refl, ap, ◌∙◌, subst, arith}
use Rattle.std.specs.Prelude.{slice_get, sum_by, nat_lt}
use Rattle.std.proofs.lemmas.Bool.Decides.{nat_tests}
use Rattle.lsys_spec.specs.Systems.{System, WellSpelled}
use Rattle.lsys_spec.specs.Values.{◌and_then◌}
use Rattle.lsys_spec.specs.Levels.{LevelSymbol, level_balanced}
use Rattle.lsys_spec.specs.Cuts.{Distinct}
use Rattle.lsys_spec.specs.Meaning.{LevelRefusal, OverLimit, first_level, next_level, last_level, within_limit, meaning_to}
use Rattle.lsys_spec.specs.LevelLaws.{HasBalance}
use Rattle.lsys_spec.proofs.LevelInduction.{ok_parts}
use Rattle.lsys_spec.proofs.Offspring.{has_balance, grown}

same_to : (s : System) (limit d n : ℕ) → meaning_to (record s { depth = d }) limit n ≡ meaning_to s limit n
same_to s limit d zero = refl
same_to s limit d (suc n) =
    ap (λ (r : Result (List (List LevelSymbol)) LevelRefusal). r and_then λ levels. next_level s n (last_level levels) and_then λ x. within_limit limit (suc n) (levels ++ x ∷ [])) (same_to s limit d n)

pub level_grown : (s : System) (limit t : ℕ) (ys : List (List LevelSymbol)) → WellSpelled s → meaning_to s limit t ≡ Ok ys → (u : ℕ) (x : List LevelSymbol) → slice_get ys u ≡ Some x → Distinct x × (level_balanced 0 x ≡ true)
level_grown s limit t ys w h u x e =
    let b = has_balance s w in
    let balance : HasBalance (record s { depth = t }) = record { in_axiom = b.in_axiom; in_successors = b.in_successors; short_axiom = b.short_axiom; short_successors = b.short_successors } in
    let g = grown (record s { depth = t }) balance limit ys (same_to s limit t t ∙ h) u x e in
    (g.distinct, g.is_balanced)

under : (limit t : ℕ) (xs ys : List (List LevelSymbol)) → within_limit limit t xs ≡ Ok ys → sum_by length ys ≤ limit
under limit t xs ys h = by (nat_lt limit (sum_by length xs)) refl h
  where
    by : (b : Bool) → nat_lt limit (sum_by length xs) ≡ b → cond b (Err (OverLimit t)) (Ok xs) ≡ Ok ys → sum_by length ys ≤ limit
    by true e k = cc
    by false e k = let same : xs ≡ ys = cc in subst (λ (ys : List (List LevelSymbol)). sum_by length ys ≤ limit) same (grind (arith, nat_tests))

pub within : (s : System) (limit t : ℕ) (ys : List (List LevelSymbol)) → meaning_to s limit t ≡ Ok ys → sum_by length ys ≤ limit
within s limit zero ys h = under limit 0 (first_level s ∷ []) ys h
within s limit (suc t) ys h =
    let before = ok_parts (meaning_to s limit t) _ ys h in
    let here = ok_parts (next_level s t (last_level before.0)) _ ys before.2 in
    under limit (suc t) (before.0 ++ here.0 ∷ []) ys here.2

pub last_push : (xs : List (List LevelSymbol)) (x : List LevelSymbol) → last_level (xs ++ x ∷ []) ≡ x
last_push [] x = refl
last_push (y ∷ []) x = refl
last_push (y ∷ z ∷ xs) x = last_push (z ∷ xs) x

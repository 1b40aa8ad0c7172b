-- One level more of which something is found out.
use Rattle.std.proofs.Common.{◌≡◌, ℕ, zero, suc, ◌+◌, ◌≤◌, Option, List, [], ◌∷◌, ◌++◌, length, refl, sym, subst, arith, get_or}
use Rattle.lsys_spec.specs.Systems.{System}
use Rattle.lsys_spec.specs.Levels.{LevelSymbol}
use Rattle.lsys_laws.specs.KeptQuestions.{places_in}
use Rattle.lsys_level.specs.Spots.{Spotted}
use Rattle.lsys_match.specs.TagQuestions.{TagAnswer}
use Rattle.lsys_flat.specs.Slots.{AreFound, AreAllFound}

-- what is found out about level n by what is seen
abbrev Here : System → List (List Spotted) → List (List LevelSymbol) → List (List (Option TagAnswer)) → ℕ → List LevelSymbol → List (Option TagAnswer) → List (Option ℕ) → Type 0
Here s rows xs olds n y f k = AreFound s n (get_or rows n []) y (get_or olds n []) (places_in (get_or xs n []) y) f k

seen_alike : (s : System) (rows seen : List (List Spotted)) (xs : List (List LevelSymbol)) (olds : List (List (Option TagAnswer))) (n : ℕ) (y : List LevelSymbol) (f : List (Option TagAnswer)) (k : List (Option ℕ)) → get_or seen n [] ≡ get_or rows n []
    → Here s rows xs olds n y f k → Here s seen xs olds n y f k
seen_alike s rows seen xs olds n y f k e h = subst (λ row. AreFound s n row y (get_or olds n []) (places_in (get_or xs n []) y) f k) (sym e) h

module _ (s : System) (rows seen : List (List Spotted)) (xs : List (List LevelSymbol)) (olds : List (List (Option TagAnswer))) (z : List LevelSymbol) (f : List (Option TagAnswer)) (k : List (Option ℕ)) (t : ℕ) (same : (u : ℕ) → u ≤ t → get_or seen u [] ≡ get_or rows u []) where
  pub more_found : (n : ℕ) (ys : List (List LevelSymbol)) (fresh : List (List (Option TagAnswer))) (taken : List (List (Option ℕ))) (i : ℕ) → length ys ≡ i + 1 → n + i ≡ t → AreAllFound s n rows xs olds ys fresh taken
      → Here s rows xs olds t (get_or ys i []) f k → AreAllFound s n seen xs olds (ys ++ z ∷ []) (fresh ++ f ∷ []) (taken ++ k ∷ [])
  more_found n [] fresh taken i e g h l = absurd (omega (arith, e))
  more_found n (y ∷ []) fresh taken zero e g h l =
      let here : t ≡ n = omega (arith, g) in
      subst (λ fresh. AreAllFound s n seen xs olds (y ∷ z ∷ []) (fresh ++ f ∷ []) (taken ++ k ∷ [])) (sym h.0)
      (subst (λ taken. AreAllFound s n seen xs olds (y ∷ z ∷ []) (f ∷ []) (taken ++ k ∷ [])) (sym h.1)
      (seen_alike s rows seen xs olds n y f k (same n (omega (arith, g))) (subst (λ n. Here s rows xs olds n y f k) here l), (refl, refl)))
  more_found n (y ∷ []) fresh taken (suc i) e g h l = absurd (omega (arith, e))
  more_found n (y ∷ x ∷ ys) fresh taken zero e g h l = absurd (omega (arith, e))
  more_found n (y ∷ x ∷ ys) [] taken (suc i) e g h l = absurd h
  more_found n (y ∷ x ∷ ys) (f0 ∷ fresh) [] (suc i) e g h l = absurd h
  more_found n (y ∷ x ∷ ys) (f0 ∷ fresh) (k0 ∷ taken) (suc i) e g h l = (
    seen_alike s rows seen xs olds n y f0 k0 (same n (omega (arith, g))) h.0,
    more_found (n + 1) (x ∷ ys) fresh taken i (omega (arith, e)) (omega (arith, g)) h.1 l,
  )

-- Which levels a system has does not depend on the limit under which they were made.
use Rattle.std.proofs.Common.{◌≡◌, ℕ, zero, suc, Ok, List, [], ◌∷◌, ◌++◌, ap, sym, ◌∙◌}
use Rattle.lsys_spec.specs.Systems.{System}
use Rattle.lsys_spec.specs.Levels.{LevelSymbol}
use Rattle.lsys_spec.specs.Meaning.{first_level, next_level, last_level, meaning_to}
use Rattle.lsys_spec.proofs.LevelInduction.{ok_parts, ok_within}

pub same_levels : (s : System) (limit limit' t : ℕ) (xs ys : List (List LevelSymbol)) → meaning_to s limit t ≡ Ok xs → meaning_to s limit' t ≡ Ok ys → xs ≡ ys
same_levels s limit limit' zero xs ys h k = sym (ok_within limit 0 (first_level s ∷ []) xs h) ∙ ok_within limit' 0 (first_level s ∷ []) ys k
same_levels s limit limit' (suc t) xs ys h k =
    let a = ok_parts (meaning_to s limit t) _ xs h in
    let a' = ok_parts (next_level s t (last_level a.0)) _ xs a.2 in
    let b = ok_parts (meaning_to s limit' t) _ ys k in
    let b' = ok_parts (next_level s t (last_level b.0)) _ ys b.2 in
    let e : a.0 ≡ b.0 = same_levels s limit limit' t a.0 b.0 a.1 b.1 in
    let f : Ok a'.0 ≡ Ok b'.0 = sym a'.1 ∙ ap (λ zs. next_level s t (last_level zs)) e ∙ b'.1 in
    let g : a'.0 ≡ b'.0 = cc in
    sym (ok_within limit (suc t) (a.0 ++ a'.0 ∷ []) xs a'.2) ∙ ap (λ zs. zs ++ a'.0 ∷ []) e ∙ ap (λ z. b.0 ++ z ∷ []) g ∙ ok_within limit' (suc t) (b.0 ++ b'.0 ∷ []) ys b'.2

-- A front with what follows it, and a list from a place on.
use Rattle.std.proofs.Common.{◌≡◌, ℕ, suc, ◌+◌, ◌<◌, Result, Ok, Err, List, ◌∷◌, ◌++◌, drop, get_or, length, refl, ap, sym, ◌∙◌, append_assoc, add-one, drop-cons}
use Rattle.lsys_spec.specs.Values.{◌and_then◌}

-- a front, and after it what was made
abbrev pub after : {A E : Type 0} → List A → Result (List A) E → Result (List A) E
after front r = r and_then λ more. Ok (front ++ more)

pub after_twice : {A E : Type 0} (a b : List A) (r : Result (List A) E) → after a (after b r) ≡ after (a ++ b) r
after_twice a b (Ok x) = ap Ok (sym (append_assoc a b x))
after_twice a b (Err e) = refl

pub drop_item : {A : Type 0} (xs : List A) (n : ℕ) (x : A) → n < length xs → x ≡ get_or xs n x → drop n xs ≡ x ∷ drop (n + 1) xs
drop_item xs n x l e = rw add-one (drop-cons xs n x l ∙ ap (λ y. y ∷ drop (suc n) xs) (sym e))

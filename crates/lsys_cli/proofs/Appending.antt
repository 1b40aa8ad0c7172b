-- Puts one after another.
use Rattle.std.proofs.Common.{◌≡◌, ◌+◌, ℕ, Option, Some, None, Result, Ok, List, [], ◌++◌, length, take, ap, sym, ◌∙◌, subst, arith, append_assoc, append-nil, length-append, OnOk}
use Rattle.std.specs.Io.KnownBytes.{Appends, append_known}
use Rattle.std.proofs.Math.Seq.{take-append-add}
use Rattle.std.proofs.lemmas.List.{take-append-le}
use Rattle.lsys_io.specs.Writes.{AppendsFront}

pub then : (a b c : Option (List ℕ)) (xs ys : List ℕ) → Appends a b xs → Appends b c ys → Appends a c (xs ++ ys)
then None b c xs ys h k = tt
then (Some a) None c xs ys h k = absurd h
then (Some a) (Some b) None xs ys h k = absurd k
then (Some a) (Some b) (Some c) xs ys h k = k ∙ ap (λ t. t ++ ys) h ∙ append_assoc a xs ys

pub nothing : (a : Option (List ℕ)) → Appends a a []
nothing None = tt
nothing (Some a) = sym (append-nil a)

-- a text that is put where nothing was held, and none is now
pub goes_out : (a b : Option (List ℕ)) (held text : List ℕ) → held ≡ [] → Appends (append_known a []) (append_known b held) text → Appends a b text
goes_out None b held text e h = tt
goes_out (Some a) None held text e h = absurd h
goes_out (Some a) (Some b) held text e h = sym (append-nil b) ∙ ap (λ t. b ++ t) (sym e) ∙ h ∙ ap (λ t. t ++ text) (append-nil a)

-- a text, and a front of the next
pub then_front : (a b c : Option (List ℕ)) (xs ys more : List ℕ) → Appends a b xs → AppendsFront b c ys → AppendsFront a c (xs ++ (ys ++ more))
then_front a b c xs ys more h (n, within, k) =
    let is : take (length xs + n) (xs ++ (ys ++ more)) ≡ xs ++ take n ys = take-append-add xs (ys ++ more) n ∙ ap (λ t. xs ++ t) (take-append-le n ys more within) in
    (length xs + n, omega (arith, within, length-append xs (ys ++ more), length-append ys more), subst (λ t. Appends a c t) (sym is) (then a b c xs (take n ys) h k))

pub on_ok : {T E P : Type 0} (r : Result T E) (x : T) → r ≡ Ok x → OnOk r P → P
on_ok {P = P} r x e h = subst (λ (s : Result _ _). OnOk s P) e h

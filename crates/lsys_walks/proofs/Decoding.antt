-- Entries whose parameters stand in order.
use Rattle.std.proofs.Common.{◌≡◌, ℕ, ℤ, zero, suc, List, [], ◌∷◌, ◌++◌, ◌+◌, ◌≤◌, length, take, drop, refl, ap, ◌∙◌, arith, length-drop}
use Rattle.std.proofs.lemmas.List.{take_all}
use Rattle.lsys_walks.specs.declared.entry.Entry.{Entry}
use Rattle.lsys_walks.specs.Parts.{arity_of}
use Rattle.lsys_walks.specs.Views.{noted_of, arities, decoded}

pub length_decoded : (es : List Entry) (vs : List ℤ) → length (decoded es vs) ≡ length es
length_decoded [] vs = refl
length_decoded (e ∷ es) vs = ap suc (length_decoded es (drop (arity_of e) vs))

pub drop_front : (n : ℕ) (xs ys : List ℤ) → n ≤ length xs → drop n (xs ++ ys) ≡ drop n xs ++ ys
drop_front zero xs ys h = refl
drop_front (suc n) [] ys h = absurd (omega (arith, h))
drop_front (suc n) (x ∷ xs) ys h = drop_front n xs ys (omega (arith, h))

pub take_front : (n : ℕ) (xs ys : List ℤ) → n ≤ length xs → take n (xs ++ ys) ≡ take n xs
take_front zero xs ys h = refl
take_front (suc n) [] ys h = absurd (omega (arith, h))
take_front (suc n) (x ∷ xs) ys h = ap (λ t. x ∷ t) (take_front n xs ys (omega (arith, h)))

pub decoded_more : (es : List Entry) (vs : List ℤ) (e : Entry) (ps : List ℤ) → arities es ≡ length vs → length ps ≡ arity_of e → decoded (es ++ e ∷ []) (vs ++ ps) ≡ decoded es vs ++ noted_of e ps ∷ []
decoded_more [] [] e ps h k = ap (λ v. noted_of e v ∷ []) (take_all (arity_of e) ps (omega (arith, k)))
decoded_more [] (v ∷ vs) e ps h k = absurd (omega (arith, h))
decoded_more (d ∷ es) vs e ps h k =
    let fits : arity_of d ≤ length vs = omega (arith, h) in
    let rest : arities es ≡ length (drop (arity_of d) vs) = omega (arith, h, length-drop (arity_of d) vs) in
    ap (λ v. noted_of d v ∷ decoded (es ++ e ∷ []) (drop (arity_of d) (vs ++ ps))) (take_front (arity_of d) vs ps fits)
    ∙ ap (λ v. noted_of d (take (arity_of d) vs) ∷ decoded (es ++ e ∷ []) v) (drop_front (arity_of d) vs ps fits)
    ∙ ap (λ t. noted_of d (take (arity_of d) vs) ∷ t) (decoded_more es (drop (arity_of d) vs) e ps rest k)

pub arities_more : (es : List Entry) (e : Entry) → arities (es ++ e ∷ []) ≡ arities es + arity_of e
arities_more [] e = omega arith
arities_more (d ∷ es) e = let h = arities_more es e in omega (arith, h)

-- Fronts of an old trace.
use Rattle.std.proofs.Common.{◌≡◌, ℕ, ℤ, Bool, true, false, IsTrue, ◌↔◌, nat_eq, eqb-true, eq-eqb, subst, zero, suc, List, [], ◌∷◌, ◌++◌, ◌+◌, ◌-◌, ◌<◌, ◌≤◌, length, take, drop, get_or, refl, ap, sym, ◌∙◌, arith, append_assoc, length-append, length-drop}
use Rattle.std.proofs.lemmas.List.{drop_more}
use Rattle.lsys_spec.specs.Output.{IsFront}
use Rattle.lsys_walks.specs.declared.entry.Entry.{Entry}
use Rattle.lsys_walks.specs.Noted.{Noted}
use Rattle.lsys_walks.specs.Parts.{arity_of}
use Rattle.lsys_walks.specs.Views.{noted_of, arities, decoded}
use Rattle.lsys_walks.specs.Readings.{Read, trace_so_far}
use Rattle.lsys_walks.proofs.Decoding.{length_decoded, drop_front, take_front}

take_drop : {A : Type 0} (n : ℕ) (xs : List A) → take n xs ++ drop n xs ≡ xs
take_drop zero xs = refl
take_drop (suc n) [] = refl
take_drop (suc n) (x ∷ xs) = ap (λ r. x ∷ r) (take_drop n xs)

take_none : {A : Type 0} (n : ℕ) (xs : List A) → length xs ≡ 0 → take n xs ≡ []
take_none zero xs h = refl
take_none (suc n) [] h = refl
take_none (suc n) (x ∷ xs) h = absurd (omega (arith, h))

take_sum : {A : Type 0} (n m : ℕ) (xs : List A) → take (n + m) xs ≡ take n xs ++ take m (drop n xs)
take_sum zero m xs = ap (λ k. take k xs) (omega arith)
take_sum (suc n) m [] = take_none (suc n + m) [] refl ∙ sym (take_none m [] refl)
take_sum (suc n) m (x ∷ xs) = let e : suc n + m ≡ suc (n + m) = omega arith in ap (λ k. take k (x ∷ xs)) e ∙ ap (λ r. x ∷ r) (take_sum n m xs)

pub length_take : {A : Type 0} (n : ℕ) (xs : List A) → n ≤ length xs → length (take n xs) ≡ n
length_take zero xs h = refl
length_take (suc n) [] h = absurd (omega (arith, h))
length_take (suc n) (x ∷ xs) h = ap suc (length_take n xs (omega (arith, h)))

arities_join : (es fs : List Entry) → arities (es ++ fs) ≡ arities es + arities fs
arities_join [] fs = omega arith
arities_join (e ∷ es) fs = let h = arities_join es fs in omega (arith, h)

decoded_join : (es fs : List Entry) (us ws : List ℤ) → arities es ≡ length us → decoded (es ++ fs) (us ++ ws) ≡ decoded es us ++ decoded fs ws
decoded_join [] fs [] ws h = refl
decoded_join [] fs (u ∷ us) ws h = absurd (omega (arith, h))
decoded_join (d ∷ es) fs us ws h =
    let fits : arity_of d ≤ length us = omega (arith, h) in
    let rest : arities es ≡ length (drop (arity_of d) us) = omega (arith, h, length-drop (arity_of d) us) in
    ap (λ v. noted_of d v ∷ decoded (es ++ fs) (drop (arity_of d) (us ++ ws))) (take_front (arity_of d) us ws fits)
    ∙ ap (λ v. noted_of d (take (arity_of d) us) ∷ decoded (es ++ fs) v) (drop_front (arity_of d) us ws fits)
    ∙ ap (λ t. noted_of d (take (arity_of d) us) ∷ t) (decoded_join es fs (drop (arity_of d) us) ws rest)

cancel : {A : Type 0} (xs ys zs : List A) → xs ++ ys ≡ xs ++ zs → ys ≡ zs
cancel [] ys zs e = e
cancel (x ∷ xs) ys zs e = cancel xs ys zs cc

-- what an old trace goes on with
pub next_is : (old now : List Noted) (m n : Noted) (rest : List Noted) → old ≡ now ++ m ∷ rest → IsFront (now ++ n ∷ []) old → m ≡ n
next_is old now m n rest e f =
    let whole : m ∷ rest ≡ n ∷ f.0 = cancel now (m ∷ rest) (n ∷ f.0) (sym e ∙ f.1 ∙ append_assoc now (n ∷ []) f.0) in cc

pub no_next : (old now : List Noted) (n : Noted) → old ≡ now → IsFront (now ++ n ∷ []) old → ⊥
no_next old now n e f =
    let whole : length old ≡ length (now ++ n ∷ []) + length f.0 = ap length f.1 ∙ length-append (now ++ n ∷ []) f.0 in
    let front = length-append now (n ∷ []) in let same = ap length e in omega (arith, whole, front, same)

module _ (es : List Entry) (vs : List ℤ) (p q : ℕ) (h : arities es ≡ length vs) (k : p ≤ length es) (l : q ≡ arities (take p es)) where
  abbrev pub front : List Noted
  front = decoded (take p es) (take q vs)

  pub front_within : q ≤ length vs
  front_within = let s : arities es ≡ arities (take p es) + arities (drop p es) = ap arities (sym (take_drop p es)) ∙ arities_join (take p es) (drop p es) in omega (arith, s, h, l)

  pub front_fits : arities (take p es) ≡ length (take q vs)
  front_fits = sym l ∙ sym (length_take q vs front_within)

  pub front_length : length front ≡ p
  front_length = length_decoded (take p es) (take q vs) ∙ length_take p es k

  splits : decoded es vs ≡ front ++ decoded (drop p es) (drop q vs)
  splits =
      (λ i. decoded (sym (take_drop p es) i) (sym (take_drop q vs) i)) ∙ decoded_join (take p es) (drop p es) (take q vs) (drop q vs) front_fits

  pub front_all : length es ≤ p → decoded es vs ≡ front
  front_all r =
      let n : length (take p es) ≡ length es = length_take p es k ∙ omega (arith, k, r) in
      let m : length (drop p es) ≡ 0 = length-drop p es ∙ omega (arith, k, r) in
      splits ∙ ap (λ t. front ++ t) (none (drop p es) (drop q vs) m) ∙ nil front
    where
      none : (es : List Entry) (vs : List ℤ) → length es ≡ 0 → decoded es vs ≡ []
      none [] vs h = refl
      none (e ∷ es) vs h = absurd (omega (arith, h))

      nil : (xs : List Noted) → xs ++ [] ≡ xs
      nil [] = refl
      nil (x ∷ xs) = ap (λ r. x ∷ r) (nil xs)

  -- the entry that follows, and how many parameters it has
  module _ (d : Entry) (r : p < length es) (size : ℕ) (a : size ≡ arity_of (get_or es p d)) where
    abbrev pub next : Entry
    next = get_or es p d

    here : drop p es ≡ next ∷ drop (p + 1) es
    here = drop_more es p d r

    -- its values, as the code slices them
    abbrev pub values : List ℤ
    values = take (q + size - q) (drop q vs)

    arity_is : q + size - q ≡ arity_of next
    arity_is = omega (arith, a)

    pub more_within : q + size ≤ length vs
    more_within =
        let s : arities es ≡ arities (take p es) + arities (drop p es) = ap arities (sym (take_drop p es)) ∙ arities_join (take p es) (drop p es) in
        let t = ap arities here in omega (arith, s, t, h, l, a)

    more : take (p + 1) es ≡ take p es ++ next ∷ []
    more = take_sum p 1 es ∙ ap (λ t. take p es ++ take 1 t) here

    pub more_arities : q + size ≡ arities (take (p + 1) es)
    more_arities = let s = ap arities more ∙ arities_join (take p es) (next ∷ []) in omega (arith, s, l, a)

    goes_on : decoded es vs ≡ front ++ noted_of next values ∷ decoded (drop (p + 1) es) (drop (arity_of next) (drop q vs))
    goes_on =
        splits ∙ ap (λ t. front ++ decoded t (drop q vs)) here
        ∙ ap (λ k. front ++ noted_of next (take k (drop q vs)) ∷ decoded (drop (p + 1) es) (drop (arity_of next) (drop q vs))) (sym arity_is)

    front_more : decoded (take (p + 1) es) (take (q + size) vs) ≡ front ++ noted_of next values ∷ []
    front_more =
        ap (λ k. decoded (take (p + 1) es) (take (q + k) vs)) a
        ∙ (λ j. decoded (more j) (take_sum q (arity_of next) vs j)) ∙ decoded_join (take p es) (next ∷ []) (take q vs) (take (arity_of next) (drop q vs)) front_fits
        ∙ ap (λ v. front ++ noted_of next v ∷ []) (twice (arity_of next) (drop q vs))
        ∙ ap (λ k. front ++ noted_of next (take k (drop q vs)) ∷ []) (sym arity_is)
      where
        twice : (n : ℕ) (xs : List ℤ) → take n (take n xs) ≡ take n xs
        twice zero xs = refl
        twice (suc n) [] = refl
        twice (suc n) (x ∷ xs) = ap (λ r. x ∷ r) (twice n xs)

    module _ (n : Noted) where
      pub passed : noted_of next values ≡ n → decoded (take (p + 1) es) (take (q + size) vs) ≡ front ++ n ∷ []
      passed e = front_more ∙ ap (λ n. front ++ n ∷ []) e

      pub is_front : noted_of next values ≡ n → IsFront (front ++ n ∷ []) (decoded es vs)
      is_front e =
          let rest = decoded (drop (p + 1) es) (drop (arity_of next) (drop q vs)) in
          (rest, goes_on ∙ ap (λ n. front ++ n ∷ rest) e ∙ sym (append_assoc front (n ∷ []) rest))

      pub is_next : IsFront (front ++ n ∷ []) (decoded es vs) → noted_of next values ≡ n
      is_next f = next_is (decoded es vs) front (noted_of next values) n (decoded (drop (p + 1) es) (drop (arity_of next) (drop q vs))) goes_on f

-- while all agree
module _ (es : List Entry) (vs : List ℤ) (p q : ℕ) (own : List Noted) (agrees : Bool) (s : Read) (v : record { old = decoded es vs; read = trace_so_far agrees es vs p q own; agrees = agrees } ≡ s) (t : agrees ≡ true) where
  pub old_is : s.old ≡ decoded es vs
  old_is = ap (λ (r : Read). r.old) (sym v)

  pub now_is : s.read ≡ decoded (take p es) (take q vs)
  now_is = ap (λ (r : Read). r.read) (sym v) ∙ ap (λ b. trace_so_far b es vs p q own) t

  pub agrees_is : s.agrees ≡ true
  agrees_is = ap (λ (r : Read). r.agrees) (sym v) ∙ t

nil_end : (xs : List Noted) → xs ++ [] ≡ xs
nil_end [] = refl
nil_end (x ∷ xs) = ap (λ r. x ∷ r) (nil_end xs)

pub front_of_more : (old now : List Noted) (n : Noted) → IsFront (now ++ n ∷ []) old → IsFront now old
front_of_more old now n f = (n ∷ f.0, f.1 ∙ append_assoc now (n ∷ []) f.0)

module _ (es : List Entry) (vs : List ℤ) (p q : ℕ) (h : arities es ≡ length vs) (k : p ≤ length es) (l : q ≡ arities (take p es)) (own : List Noted) (agrees : Bool) (x : agrees ≡ false → IsFront own (decoded es vs) → ⊥)
    (s : Read) (v : record { old = decoded es vs; read = trace_so_far agrees es vs p q own; agrees = agrees } ≡ s) where
  -- all agree exactly where the old trace begins so
  pub agrees_exact : IsTrue agrees ↔ IsFront s.read s.old
  agrees_exact = subst (λ (s : Read). IsTrue agrees ↔ IsFront s.read s.old) v (by agrees x)
    where
      by : (agrees : Bool) → (agrees ≡ false → IsFront own (decoded es vs) → ⊥) → IsTrue agrees ↔ IsFront (trace_so_far agrees es vs p q own) (decoded es vs)
      by true x = (λ t. (decoded (drop p es) (drop q vs), splits es vs p q h k l), λ f. refl)
      by false x = (λ t. cc, λ f. absurd (x refl f))

  -- nothing agrees with what follows
  pub none_follows : (n : Noted) → agrees ≡ false → IsFront (s.read ++ n ∷ []) s.old → ⊥
  none_follows n a f = let e : agrees ≡ true = agrees_exact.1 (front_of_more s.old s.read n f) in cc

  pub never_same : agrees ≡ false → s.old ≡ s.read → ⊥
  never_same a i = let e : agrees ≡ true = agrees_exact.1 ([], i ∙ sym (nil_end s.read)) in cc

  module _ (t : agrees ≡ true) where
    pub none_left : (n : Noted) → length es ≤ p → IsFront (s.read ++ n ∷ []) s.old → ⊥
    none_left n r f = no_next s.old s.read n (old_is es vs p q own agrees s v t ∙ front_all es vs p q h k l r ∙ sym (now_is es vs p q own agrees s v t)) f

    pub same_exact : IsTrue (nat_eq p (length es)) ↔ (s.old ≡ s.read)
    same_exact = (
      λ e. let i : p ≡ length es = eqb-true p (length es) e in
          old_is es vs p q own agrees s v t ∙ front_all es vs p q h k l (omega (arith, i)) ∙ sym (now_is es vs p q own agrees s v t),
      λ e. let i : length (decoded es vs) ≡ length (decoded (take p es) (take q vs)) = ap length (sym (old_is es vs p q own agrees s v t) ∙ e ∙ now_is es vs p q own agrees s v t) in
          eq-eqb p (length es) (sym (front_length es vs p q h k l) ∙ sym i ∙ length_decoded es vs),
    )

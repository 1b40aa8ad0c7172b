-- What was told in one level is told in the other, as far as the entries that were read are settled.
use Rattle.std.proofs.Common.{◌≡◌, ℕ, zero, suc, ◌+◌, ◌-◌, ◌<◌, ◌≤◌, List, [], ◌∷◌, ◌++◌, length, take, refl, ap, sym, ◌∙◌, subst, arith, length-append, ◌⊎◌, inl, inr}
use Rattle.std.proofs.lemmas.List.{take-append-le, take_all}
use Rattle.std.proofs.lemmas.Bool.{cases_lt}
use Rattle.lsys_spec.specs.Systems.{Each}
use Rattle.lsys_spec.specs.Walks.{Entry, Told, before, followed}
use Rattle.lsys_spec.proofs.Eachs.{each_front, each_back}

-- Where one told at most k entries, the other is the same; where it told more, so did the other, and the first k are the same.
pub record Same (A : Type 0) (k : ℕ) (t t' : Told A) : Type 0 where
  pub short : length t.entries ≤ k → t' ≡ t
  pub long : k < length t.entries → (take k t'.entries ≡ take k t.entries) × (k < length t'.entries)

-- so it is for each k for which the first k entries are settled
abbrev pub Carries : {A : Type 0} → (Entry → Type 0) → Told A → Told A → Type 0
Carries {A} S t t' = (k : ℕ) → Each S (take k t.entries) → Same A k t t'

pub carries_self : {A : Type 0} (S : Entry → Type 0) (t : Told A) → Carries S t t
carries_self S t k h = record { short = λ l. refl; long = λ l. (refl, l) }

pub carries_before : {A : Type 0} (S : Entry → Type 0) (e e' : Entry) (t t' : Told A) → (S e → (e' ≡ e) × Carries S t t') → Carries S (before e t) (before e' t')
carries_before S e e' t t' f zero h = record { short = λ l. absurd (omega (arith, l)); long = λ l. (refl, omega arith) }
carries_before {A} S e e' t t' f (suc k) h =
    let g = f h.0 in
    let s : Same A k t t' = g.1 k h.1 in
    record {
      short = λ l. ap (λ e. before e t') g.0 ∙ ap (before e) (s.short (omega (arith, l)));
      long = λ l. let m = s.long (omega (arith, l)) in (ap (λ e. e ∷ take k t'.entries) g.0 ∙ ap (λ es. e ∷ es) m.0, omega (arith, m.1));
    }

-- helpers on lists
take_past : (es fs : List Entry) (k : ℕ) → length es ≤ k → take k (es ++ fs) ≡ es ++ take (k - length es) fs
take_past [] fs k h = ap (λ k. take k fs) (omega arith)
take_past (e ∷ es) fs zero h = absurd (omega (arith, h))
take_past (e ∷ es) fs (suc k) h = ap (λ es. e ∷ es) (take_past es fs k (omega (arith, h)) ∙ ap (λ k. es ++ take k fs) (omega arith))

-- where the first part was cut off
cut_off : {A B : Type 0} (S : Entry → Type 0) (k : ℕ) (t t' : Told A) (n n' : Told B) → Carries S t t' → k < length t.entries
    → Each S (take k (t.entries ++ n.entries)) → Same B k (followed t n) (followed t' n')
cut_off {A} {B} S k t t' n n' f l h =
    let whole : take k (t.entries ++ n.entries) ≡ take k t.entries = take-append-le k t.entries n.entries (omega (arith, l)) in
    let s : Same A k t t' = f k (subst (Each S) whole h) in
    let m : (take k t'.entries ≡ take k t.entries) × (k < length t'.entries) = s.long l in
    let more : length (t.entries ++ n.entries) ≡ length t.entries + length n.entries = length-append t.entries n.entries in
    let more' : length (t'.entries ++ n'.entries) ≡ length t'.entries + length n'.entries = length-append t'.entries n'.entries in
    record {
      short = λ i. absurd (omega (arith, i, l, more));
      long = λ i. (take-append-le k t'.entries n'.entries (omega (arith, m.1)) ∙ m.0 ∙ sym whole, omega (arith, m.1, more'));
    }

-- where the first part was told to its end
goes_on : {A B : Type 0} (k : ℕ) (t : Told A) (n n' : Told B) → length t.entries ≤ k → Same B (k - length t.entries) n n' → Same B k (followed t n) (followed t n')
goes_on {A} {B} k t n n' l s =
    let more : length (t.entries ++ n.entries) ≡ length t.entries + length n.entries = length-append t.entries n.entries in
    let more' : length (t.entries ++ n'.entries) ≡ length t.entries + length n'.entries = length-append t.entries n'.entries in
    record {
      short = λ i. ap (followed t) (s.short (omega (arith, i, more, l)));
      long = λ i.
          let m : (take (k - length t.entries) n'.entries ≡ take (k - length t.entries) n.entries) × (k - length t.entries < length n'.entries) = s.long (omega (arith, i, more, l)) in
          (take_past t.entries n'.entries k l ∙ ap (λ es. t.entries ++ es) m.0 ∙ sym (take_past t.entries n.entries k l), omega (arith, m.1, more', l));
    }

pub carries_followed : {A B : Type 0} (S : Entry → Type 0) (t t' : Told A) (n n' : Told B) → Carries S t t' → (t' ≡ t → Carries S n n') → Carries S (followed t n) (followed t' n')
carries_followed {A} {B} S t t' n n' f g k h = by (cases_lt k (length t.entries))
  where
    by : (k < length t.entries) ⊎ (length t.entries ≤ k) → Same B k (followed t n) (followed t' n')
    by (inl l) = cut_off S k t t' n n' f l h
    by (inr l) =
        let past : take k (t.entries ++ n.entries) ≡ t.entries ++ take (k - length t.entries) n.entries = take_past t.entries n.entries k l in
        let all : Each S (t.entries ++ take (k - length t.entries) n.entries) = subst (Each S) past h in
        let s : Same A k t t' = f k (subst (Each S) (sym (take_all k t.entries l)) (each_front S t.entries (take (k - length t.entries) n.entries) all)) in
        let e : t' ≡ t = s.short l in
        let m : Same B k (followed t n) (followed t n') = goes_on k t n n' l (g e (k - length t.entries) (each_back S t.entries (take (k - length t.entries) n.entries) all)) in
        subst (λ u. Same B k (followed t n) (followed u n')) (sym e) m

-- what is made of the answer alone
pub carries_answer : {A B : Type 0} (S : Entry → Type 0) (f : A → B) (t t' : Told A) → Carries S t t' → Carries S (record { entries = t.entries; answer = f t.answer }) (record { entries = t'.entries; answer = f t'.answer })
carries_answer {A} {B} S f t t' g k h =
    let s : Same A k t t' = g k h in
    record { short = λ l. let e : t' ≡ t = s.short l in ap (λ (u : Told A). let v : Told B = record { entries = u.entries; answer = f u.answer } in v) e; long = s.long }

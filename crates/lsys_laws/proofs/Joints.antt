-- Whose right neighbour stays.
use Rattle.std.proofs.Common.{◌≡◌, ◌⊎◌, inl, inr, ℕ, List, [], ◌∷◌, ◌++◌, append_assoc, append-nil, eq-eqb, Some, None, Bool, true, false, cond, refl, ap, sym, ◌∙◌, subst}
use Rattle.std.specs.Prelude.{nat_eq}
use Rattle.std.proofs.lemmas.Bool.{eqb-true}
use Rattle.lsys_spec.specs.Rows.{first_in, last_in, flat, In, AreApart}
use Rattle.lsys_laws.specs.Seams.{right_of, AreTouched, AreTurned, IsRightSeam, child_of_touched, before_touched, up_to_turned}

-- 1. lists

pub in_front : (k : ℕ) (xs ys : List ℕ) → In k xs → In k (xs ++ ys)
in_front k [] ys h = absurd h
in_front k (x ∷ xs) ys (inl e) = inl e
in_front k (x ∷ xs) ys (inr h) = inr (in_front k xs ys h)

pub in_back : (k : ℕ) (xs ys : List ℕ) → In k ys → In k (xs ++ ys)
in_back k [] ys h = h
in_back k (x ∷ xs) ys h = inr (in_back k xs ys h)

pub in_middle : (k : ℕ) (xs ys : List ℕ) → In k (xs ++ k ∷ ys)
in_middle k xs ys = in_back k xs (k ∷ ys) (inl refl)

pub in_either : (k : ℕ) (xs ys : List ℕ) → In k (xs ++ ys) → In k xs ⊎ In k ys
in_either k [] ys h = inr h
in_either k (x ∷ xs) ys (inl e) = inl (inl e)
in_either k (x ∷ xs) ys (inr h) = on (in_either k xs ys h)
  where
    on : In k xs ⊎ In k ys → In k (x ∷ xs) ⊎ In k ys
    on (inl i) = inl (inr i)
    on (inr i) = inr i

pub record IsSplit (k : ℕ) (xs : List ℕ) : Type 0 where
  pub before : List ℕ
  pub after : List ℕ
  pub whole : xs ≡ before ++ k ∷ after

pub split : (k : ℕ) (xs : List ℕ) → In k xs → IsSplit k xs
split k [] h = absurd h
split k (x ∷ xs) (inl e) = record { before = []; after = xs; whole = ap (λ x. x ∷ xs) (sym e) }
split k (x ∷ xs) (inr h) = let r = split k xs h in record { before = x ∷ r.before; after = r.after; whole = ap (λ xs. x ∷ xs) r.whole }

pub flat_append : (f : ℕ → List ℕ) (xs ys : List ℕ) → flat f (xs ++ ys) ≡ flat f xs ++ flat f ys
flat_append f [] ys = refl
flat_append f (x ∷ xs) ys = ap (λ zs. f x ++ zs) (flat_append f xs ys) ∙ sym (append_assoc (f x) (flat f xs) (flat f ys))

pub last_push : (xs : List ℕ) (k : ℕ) → last_in (xs ++ k ∷ []) ≡ Some k
last_push [] k = refl
last_push (x ∷ []) k = refl
last_push (x ∷ y ∷ xs) k = last_push (y ∷ xs) k

same_number : (k : ℕ) → nat_eq k k ≡ true
same_number k = eq-eqb k k refl

other_number : (k x : ℕ) → (k ≡ x → ⊥) → nat_eq k x ≡ false
other_number k x h = by (nat_eq k x) refl
  where
    by : (b : Bool) → nat_eq k x ≡ b → nat_eq k x ≡ false
    by true e = absurd (h (eqb-true k x e))
    by false e = e

-- what stands after k, where it stands once
pub next_there : (k : ℕ) (before after : List ℕ) → AreApart (before ++ k ∷ after) → right_of k (before ++ k ∷ after) ≡ first_in after
next_there k [] after h = ap (λ b. cond b (first_in after) (right_of k after)) (same_number k)
next_there k (x ∷ before) after h =
    let n : nat_eq k x ≡ false = other_number k x (λ e. h.0 (subst (λ x. In x (before ++ k ∷ after)) e (in_middle k before after))) in
    ap (λ b. cond b (first_in (before ++ k ∷ after)) (right_of k (before ++ k ∷ after))) n ∙ next_there k before after h.1

empty_first : (xs : List ℕ) → first_in xs ≡ None → xs ≡ []
empty_first [] h = refl
empty_first (x ∷ xs) h = cc

record BeginsWith (c : ℕ) (xs : List ℕ) : Type 0 where
  pub rest : List ℕ
  pub is : xs ≡ c ∷ rest

begins_with : (c : ℕ) (xs : List ℕ) → first_in xs ≡ Some c → BeginsWith c xs
begins_with c [] h = cc
begins_with c (x ∷ xs) h = let e : x ≡ c = cc in record { rest = xs; is = ap (λ x. x ∷ xs) e }

-- 2. the walk to the right

abbrev Stays : List ℕ → List ℕ → (ℕ → List ℕ) → (ℕ → List ℕ) → List ℕ → ℕ → List ℕ → List ℕ → Type 0
Stays T S f g ys k after after' = IsRightSeam T S g ys k ⊎ (first_in (flat f after') ≡ first_in (flat g after))

-- from b on, up to whose children k is the last
walk : (T S : List ℕ) (f g : ℕ → List ℕ) (xs ys : List ℕ) → AreTouched T f g xs ys → AreTurned right_of S xs ys → (k b : ℕ) (before after before' after' : List ℕ)
    → ys ≡ before ++ b ∷ after → xs ≡ before' ++ b ∷ after' → last_in (flat g (before ++ b ∷ [])) ≡ Some k → Stays T S f g ys k after after'
walk T S f g xs ys a v k b before [] before' after' w w' e = by (v b (subst (In b) (sym w) (in_middle b before [])))
  where
    by : In b S ⊎ (right_of b xs ≡ right_of b ys) → Stays T S f g ys k [] after'
    by (inl s) = inl (up_to_turned b before [] w s e)
    by (inr n) =
        let old : right_of b xs ≡ first_in after' = ap (right_of b) w' ∙ next_there b before' after' (subst AreApart w' a.apart_old) in
        let new : right_of b ys ≡ None = ap (right_of b) w ∙ next_there b before [] (subst AreApart w a.apart_new) in
        inr (ap (λ zs. first_in (flat f zs)) (empty_first after' (sym old ∙ n ∙ new)))
walk T S f g xs ys a v k b before (c ∷ after) before' after' w w' e =
    by (v b (subst (In b) (sym w) (in_middle b before (c ∷ after))))
    (λ rest v' i. walk T S f g xs ys a v k c (before ++ b ∷ []) after (before' ++ b ∷ []) rest w2 v' i)
  where
    w2 : ys ≡ (before ++ b ∷ []) ++ c ∷ after
    w2 = w ∙ sym (append_assoc before (b ∷ []) (c ∷ after))

    same_last : g c ≡ [] → last_in (flat g ((before ++ b ∷ []) ++ c ∷ [])) ≡ Some k
    same_last h =
        ap last_in (flat_append g (before ++ b ∷ []) (c ∷ []) ∙ ap (λ zs. flat g (before ++ b ∷ []) ++ (zs ++ [])) h ∙ append-nil (flat g (before ++ b ∷ []))) ∙ e

    past : (rest zs : List ℕ) → g c ≡ f c → g c ≡ zs → (g c ≡ [] → Stays T S f g ys k after rest) → Stays T S f g ys k (c ∷ after) (c ∷ rest)
    past rest [] s z ih = go (ih z)
      where
        go : Stays T S f g ys k after rest → Stays T S f g ys k (c ∷ after) (c ∷ rest)
        go (inl i) = inl i
        go (inr i) = inr (ap (λ zs. first_in (zs ++ flat f rest)) (sym s ∙ z) ∙ i ∙ ap (λ zs. first_in (zs ++ flat g after)) (sym z))
    past rest (j ∷ zs) s z ih = inr (ap (λ zs. first_in (zs ++ flat f rest)) (sym s ∙ z) ∙ ap (λ zs. first_in (zs ++ flat g after)) (sym z))

    to : (rest : List ℕ) → after' ≡ c ∷ rest → In c T ⊎ (In c xs × (g c ≡ f c))
        → ((rest : List ℕ) → xs ≡ (before' ++ b ∷ []) ++ c ∷ rest → last_in (flat g ((before ++ b ∷ []) ++ c ∷ [])) ≡ Some k → Stays T S f g ys k after rest)
        → Stays T S f g ys k (c ∷ after) after'
    to rest i (inl t) ih = inl (before_touched c (before ++ b ∷ []) after w2 t e)
    to rest i (inr t) ih =
        let v' : xs ≡ (before' ++ b ∷ []) ++ c ∷ rest = w' ∙ ap (λ zs. before' ++ b ∷ zs) i ∙ sym (append_assoc before' (b ∷ []) (c ∷ rest)) in
        subst (Stays T S f g ys k (c ∷ after)) (sym i) (past rest (g c) t.1 refl (λ z. ih rest v' (same_last z)))

    by : In b S ⊎ (right_of b xs ≡ right_of b ys)
        → ((rest : List ℕ) → xs ≡ (before' ++ b ∷ []) ++ c ∷ rest → last_in (flat g ((before ++ b ∷ []) ++ c ∷ [])) ≡ Some k → Stays T S f g ys k after rest)
        → Stays T S f g ys k (c ∷ after) after'
    by (inl s) ih = inl (up_to_turned b before (c ∷ after) w s e)
    by (inr n) ih =
        let old : right_of b xs ≡ first_in after' = ap (right_of b) w' ∙ next_there b before' after' (subst AreApart w' a.apart_old) in
        let new : right_of b ys ≡ Some c = ap (right_of b) w ∙ next_there b before (c ∷ after) (subst AreApart w a.apart_new) in
        let r : BeginsWith c after' = begins_with c after' (sym old ∙ n ∙ new) in
        to r.rest r.is (a.touched c (subst (In c) (sym w2) (in_middle c (before ++ b ∷ []) after))) ih

-- 3. each child

record IsKid (g : ℕ → List ℕ) (ys : List ℕ) (k : ℕ) : Type 0 where
  pub parent : ℕ
  pub there : In parent ys
  pub among : In k (g parent)

kid_of : (g : ℕ → List ℕ) (ys : List ℕ) (k : ℕ) → In k (flat g ys) → IsKid g ys k
kid_of g [] k h = absurd h
kid_of g (y ∷ ys) k h = by (g y) refl h (kid_of g ys k)
  where
    later : IsKid g ys k → IsKid g (y ∷ ys) k
    later r = record { parent = r.parent; there = inr r.there; among = r.among }

    by : (zs : List ℕ) → g y ≡ zs → In k (zs ++ flat g ys) → (In k (flat g ys) → IsKid g ys k) → IsKid g (y ∷ ys) k
    by zs e i ih = which (in_either k zs (flat g ys) i)
      where
        which : In k zs ⊎ In k (flat g ys) → IsKid g (y ∷ ys) k
        which (inl j) = record { parent = y; there = inl refl; among = subst (In k) (sym e) j }
        which (inr j) = later (ih j)

-- the children of these, where those of one in the middle are known
around : (f : ℕ → List ℕ) (before : List ℕ) (b : ℕ) (after u : List ℕ) (k : ℕ) (v : List ℕ) → f b ≡ u ++ k ∷ v → flat f (before ++ b ∷ after) ≡ (flat f before ++ u) ++ k ∷ (v ++ flat f after)
around f before b after u k v e =
    flat_append f before (b ∷ after) ∙ ap (λ zs. flat f before ++ (zs ++ flat f after)) e ∙ ap (λ zs. flat f before ++ zs) (append_assoc u (k ∷ v) (flat f after))
    ∙ sym (append_assoc (flat f before) u (k ∷ (v ++ flat f after)))

pub seamed : (T S : List ℕ) (f g : ℕ → List ℕ) (xs ys : List ℕ) → AreTouched T f g xs ys → AreTurned right_of S xs ys → (k : ℕ) → In k (flat g ys)
    → IsRightSeam T S g ys k ⊎ (right_of k (flat f xs) ≡ right_of k (flat g ys))
seamed T S f g xs ys a s k h = by (kid_of g ys k h)
  where
    by : IsKid g ys k → IsRightSeam T S g ys k ⊎ (right_of k (flat f xs) ≡ right_of k (flat g ys))
    by r = to (a.touched r.parent r.there)
      where
        b : ℕ
        b = r.parent

        to : In b T ⊎ (In b xs × (g b ≡ f b)) → IsRightSeam T S g ys k ⊎ (right_of k (flat f xs) ≡ right_of k (flat g ys))
        to (inl t) = inl (child_of_touched b r.there t r.among)
        to (inr t) =
            let p : IsSplit b ys = split b ys r.there in
            let p' : IsSplit b xs = split b xs t.0 in
            let i : IsSplit k (g b) = split k (g b) r.among in
            let new : flat g ys ≡ (flat g p.before ++ i.before) ++ k ∷ (i.after ++ flat g p.after) = ap (flat g) p.whole ∙ around g p.before b p.after i.before k i.after i.whole in
            let old : flat f xs ≡ (flat f p'.before ++ i.before) ++ k ∷ (i.after ++ flat f p'.after) = ap (flat f) p'.whole ∙ around f p'.before b p'.after i.before k i.after (sym t.1 ∙ i.whole) in
            let next_new : right_of k (flat g ys) ≡ first_in (i.after ++ flat g p.after) = ap (right_of k) new ∙ next_there k (flat g p.before ++ i.before) (i.after ++ flat g p.after) (subst AreApart new a.new_kids) in
            let next_old : right_of k (flat f xs) ≡ first_in (i.after ++ flat f p'.after) = ap (right_of k) old ∙ next_there k (flat f p'.before ++ i.before) (i.after ++ flat f p'.after) (subst AreApart old a.old_kids) in
            end p p' i next_new next_old i.after refl
          where
            end : (p : IsSplit b ys) (p' : IsSplit b xs) (i : IsSplit k (g b)) → right_of k (flat g ys) ≡ first_in (i.after ++ flat g p.after) → right_of k (flat f xs) ≡ first_in (i.after ++ flat f p'.after)
                → (v : List ℕ) → i.after ≡ v → IsRightSeam T S g ys k ⊎ (right_of k (flat f xs) ≡ right_of k (flat g ys))
            end p p' i n o [] e =
                let last : last_in (flat g (p.before ++ b ∷ [])) ≡ Some k =
                ap last_in (around g p.before b [] i.before k i.after i.whole ∙ ap (λ v. (flat g p.before ++ i.before) ++ k ∷ (v ++ [])) e) ∙ last_push (flat g p.before ++ i.before) k in
                on (walk T S f g xs ys a s k b p.before p.after p'.before p'.after p.whole p'.whole last)
              where
                on : Stays T S f g ys k p.after p'.after → IsRightSeam T S g ys k ⊎ (right_of k (flat f xs) ≡ right_of k (flat g ys))
                on (inl s) = inl s
                on (inr s) = inr (o ∙ ap (λ v. first_in (v ++ flat f p'.after)) e ∙ s ∙ ap (λ v. first_in (v ++ flat g p.after)) (sym e) ∙ sym n)
            end p p' i n o (j ∷ v) e = inr (o ∙ ap (λ v. first_in (v ++ flat f p'.after)) e ∙ ap (λ v. first_in (v ++ flat g p.after)) (sym e) ∙ sym n)

-- Whose left neighbour stays: seen from the right to the left, it is the right one.
use Rattle.std.proofs.Common.{◌≡◌, ◌⊎◌, inl, inr, ℕ, zero, suc, ◌+◌, List, [], ◌∷◌, ◌++◌, append_assoc, append-nil, take, drop, Some, refl, ap, sym, ◌∙◌, subst, arith}
use Rattle.std.specs.Prelude.{slice_get}
use Rattle.lsys_spec.specs.Rows.{first_in, last_in, mirrored, flat, In, AreApart}
use Rattle.lsys_laws.specs.Seams.{right_of, left_of, node_before, AreTouched, AreTurned, IsRightSeam, child_of_touched, before_touched, up_to_turned, IsLeftSeam, kid_of_touched, after_touched, from_turned}
use Rattle.lsys_laws.proofs.Joints.{in_front, in_back, flat_append, last_push, next_there, seamed}

-- 1. lists from the right to the left

mirrored_append : (xs ys : List ℕ) → mirrored (xs ++ ys) ≡ mirrored ys ++ mirrored xs
mirrored_append [] ys = sym (append-nil (mirrored ys))
mirrored_append (x ∷ xs) ys = ap (λ zs. zs ++ x ∷ []) (mirrored_append xs ys) ∙ append_assoc (mirrored ys) (mirrored xs) (x ∷ [])

mirrored_twice : (xs : List ℕ) → mirrored (mirrored xs) ≡ xs
mirrored_twice [] = refl
mirrored_twice (x ∷ xs) = mirrored_append (mirrored xs) (x ∷ []) ∙ ap (λ zs. x ∷ zs) (mirrored_twice xs)

mirrored_around : (xs : List ℕ) (k : ℕ) (ys : List ℕ) → mirrored (xs ++ k ∷ ys) ≡ mirrored ys ++ k ∷ mirrored xs
mirrored_around xs k ys = mirrored_append xs (k ∷ ys) ∙ append_assoc (mirrored ys) (k ∷ []) (mirrored xs)

in_mirror : (k : ℕ) (xs : List ℕ) → In k xs → In k (mirrored xs)
in_mirror k [] h = h
in_mirror k (x ∷ xs) (inl e) = in_back k (mirrored xs) (x ∷ []) (inl e)
in_mirror k (x ∷ xs) (inr h) = in_front k (mirrored xs) (x ∷ []) (in_mirror k xs h)

of_mirror : (k : ℕ) (xs : List ℕ) → In k (mirrored xs) → In k xs
of_mirror k xs h = subst (In k) (mirrored_twice xs) (in_mirror k (mirrored xs) h)

in_push : (k x : ℕ) (xs : List ℕ) → In k (xs ++ x ∷ []) → In k xs ⊎ (k ≡ x)
in_push k x [] (inl e) = inr e
in_push k x [] (inr h) = absurd h
in_push k x (y ∷ xs) (inl e) = inl (inl e)
in_push k x (y ∷ xs) (inr h) = on (in_push k x xs h)
  where
    on : In k xs ⊎ (k ≡ x) → In k (y ∷ xs) ⊎ (k ≡ x)
    on (inl i) = inl (inr i)
    on (inr e) = inr e

apart_push : (xs : List ℕ) (x : ℕ) → AreApart xs → (In x xs → ⊥) → AreApart (xs ++ x ∷ [])
apart_push [] x h n = (λ i. i, tt)
apart_push (y ∷ xs) x h n = (λ i. other (in_push y x xs i), apart_push xs x h.1 (λ i. n (inr i)))
  where
    other : In y xs ⊎ (y ≡ x) → ⊥
    other (inl i) = h.0 i
    other (inr e) = n (inl (sym e))

apart_mirror : (xs : List ℕ) → AreApart xs → AreApart (mirrored xs)
apart_mirror [] h = tt
apart_mirror (x ∷ xs) h = apart_push (mirrored xs) x (apart_mirror xs h.1) (λ i. h.0 (of_mirror x xs i))

last_mirror : (xs : List ℕ) → last_in (mirrored xs) ≡ first_in xs
last_mirror [] = refl
last_mirror (x ∷ xs) = last_push (mirrored xs) x

first_mirror : (xs : List ℕ) → first_in (mirrored xs) ≡ last_in xs
first_mirror xs = sym (last_mirror (mirrored xs)) ∙ ap last_in (mirrored_twice xs)

-- the children of a node from the right to the left
abbrev turned : (ℕ → List ℕ) → ℕ → List ℕ
turned f = λ q. mirrored (f q)

flat_mirror : (f : ℕ → List ℕ) (xs : List ℕ) → flat (turned f) (mirrored xs) ≡ mirrored (flat f xs)
flat_mirror f [] = refl
flat_mirror f (x ∷ xs) =
    flat_append (turned f) (mirrored xs) (x ∷ []) ∙ ap (λ zs. flat (turned f) (mirrored xs) ++ zs) (append-nil (mirrored (f x)))
    ∙ ap (λ zs. zs ++ mirrored (f x)) (flat_mirror f xs) ∙ sym (mirrored_append (f x) (flat f xs))

-- the last child of these that way is the first of them this way
last_child : (g : ℕ → List ℕ) (xs : List ℕ) → last_in (flat (turned g) xs) ≡ first_in (flat g (mirrored xs))
last_child g xs = ap (λ zs. last_in (flat (turned g) zs)) (sym (mirrored_twice xs)) ∙ ap last_in (flat_mirror g (mirrored xs)) ∙ last_mirror (flat g (mirrored xs))

-- 2. seams

as_left : (T S : List ℕ) (g : ℕ → List ℕ) (ys : List ℕ) (k : ℕ) → IsRightSeam T S (turned g) (mirrored ys) k → IsLeftSeam T S g ys k
as_left T S g ys k (child_of_touched q i t j) = kid_of_touched q (of_mirror q ys i) t (of_mirror k (g q) j)
as_left T S g ys k (before_touched q before after w t e) =
    after_touched q (mirrored after) (mirrored before) (sym (mirrored_twice ys) ∙ ap mirrored w ∙ mirrored_around before q after) t (sym (last_child g before) ∙ e)
as_left T S g ys k (up_to_turned q before after w s e) =
    from_turned q (mirrored after) (mirrored before) (sym (mirrored_twice ys) ∙ ap mirrored w ∙ mirrored_around before q after) s
    (sym (last_child g (before ++ q ∷ []) ∙ ap (λ zs. first_in (flat g zs)) (mirrored_append before (q ∷ []))) ∙ e)

pub seamed_left : (T S : List ℕ) (f g : ℕ → List ℕ) (xs ys : List ℕ) → AreTouched T f g xs ys → AreTurned left_of S xs ys → (k : ℕ) → In k (flat g ys)
    → IsLeftSeam T S g ys k ⊎ (left_of k (flat f xs) ≡ left_of k (flat g ys))
seamed_left T S f g xs ys a s k h =
    by (seamed T S (turned f) (turned g) (mirrored xs) (mirrored ys) touched (λ q i. s q (of_mirror q ys i)) k (subst (In k) (sym (flat_mirror g ys)) (in_mirror k (flat g ys) h)))
  where
    kept : (q : ℕ) → In q T ⊎ (In q xs × (g q ≡ f q)) → In q T ⊎ (In q (mirrored xs) × (turned g q ≡ turned f q))
    kept q (inl t) = inl t
    kept q (inr t) = inr (in_mirror q xs t.0, ap mirrored t.1)

    touched : AreTouched T (turned f) (turned g) (mirrored xs) (mirrored ys)
    touched = record {
      apart_old = apart_mirror xs a.apart_old;
      apart_new = apart_mirror ys a.apart_new;
      old_kids = subst AreApart (sym (flat_mirror f xs)) (apart_mirror (flat f xs) a.old_kids);
      new_kids = subst AreApart (sym (flat_mirror g ys)) (apart_mirror (flat g ys) a.new_kids);
      touched = λ q i. kept q (a.touched q (of_mirror q ys i));
    }

    by : IsRightSeam T S (turned g) (mirrored ys) k ⊎ (right_of k (flat (turned f) (mirrored xs)) ≡ right_of k (flat (turned g) (mirrored ys)))
        → IsLeftSeam T S g ys k ⊎ (left_of k (flat f xs) ≡ left_of k (flat g ys))
    by (inl r) = inl (as_left T S g ys k r)
    by (inr e) = inr (sym (ap (right_of k) (flat_mirror f xs)) ∙ e ∙ ap (right_of k) (flat_mirror g ys))

-- 3. places

first_there : (ks : List ℕ) → first_in ks ≡ slice_get ks 0
first_there [] = refl
first_there (k ∷ ks) = refl

-- the nodes before a place, the one there, and those after it
around_place : (ks : List ℕ) (p k : ℕ) → slice_get ks p ≡ Some k → ks ≡ take p ks ++ k ∷ drop (suc p) ks
around_place [] p k h = cc
around_place (x ∷ ks) zero k h = let e : x ≡ k = cc in ap (λ x. x ∷ ks) e
around_place (x ∷ ks) (suc p) k h = ap (λ ks. x ∷ ks) (around_place ks p k h)

last_before : (ks : List ℕ) (p k : ℕ) → slice_get ks p ≡ Some k → last_in (take p ks) ≡ node_before ks p
last_before ks zero k h = refl
last_before [] (suc p) k h = cc
last_before (x ∷ ks) (suc zero) k h = refl
last_before (x ∷ []) (suc (suc p)) k h = cc
last_before (x ∷ y ∷ ks) (suc (suc p)) k h = last_before (y ∷ ks) (suc p) k h

first_after : (ks : List ℕ) (p : ℕ) → first_in (drop (suc p) ks) ≡ slice_get ks (p + 1)
first_after [] p = refl
first_after (x ∷ ks) zero = first_there ks
first_after (x ∷ ks) (suc p) = let e : suc p + 1 ≡ suc (p + 1) = omega arith in first_after ks p ∙ ap (slice_get (x ∷ ks)) (sym e)

pub right_neighbour : (ks : List ℕ) (p k : ℕ) → AreApart ks → slice_get ks p ≡ Some k → right_of k ks ≡ slice_get ks (p + 1)
right_neighbour ks p k a h =
    let w = around_place ks p k h in ap (right_of k) w ∙ next_there k (take p ks) (drop (suc p) ks) (subst AreApart w a) ∙ first_after ks p

pub left_neighbour : (ks : List ℕ) (p k : ℕ) → AreApart ks → slice_get ks p ≡ Some k → left_of k ks ≡ node_before ks p
left_neighbour ks p k a h =
    let w : mirrored ks ≡ mirrored (drop (suc p) ks) ++ k ∷ mirrored (take p ks) = ap mirrored (around_place ks p k h) ∙ mirrored_around (take p ks) k (drop (suc p) ks) in
    ap (right_of k) w ∙ next_there k (mirrored (drop (suc p) ks)) (mirrored (take p ks)) (subst AreApart w (apart_mirror ks a)) ∙ first_mirror (take p ks) ∙ last_before ks p k h

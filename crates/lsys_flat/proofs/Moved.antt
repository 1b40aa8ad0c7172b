-- Answers that are taken over, level by level.
use Rattle.std.proofs.Common.{◌≡◌, ℕ, zero, suc, ◌+◌, ◌<◌, ◌≤◌, Bool, true, false, cond, ◌++◌, take, drop, ◌⊎◌, inl, inr, min, Option, Some, None, List, [], ◌∷◌, length, get_or, set, refl, sym, ap, ◌∙◌, subst, arith, length-set}
use Rattle.std.specs.Prelude.{slice_get, Vec}
use Rattle.std.specs.declared.alloc.Global.{Global}
use Rattle.std.specs.Vec.{with_items}
use Rattle.std.specs.Ordering.{ord_min, nat_cmp, is_lt}
use Rattle.std.proofs.lemmas.List.{ext_get_or, get_or-set_same, get_or-set_other, get_or_past, get_or-map, map-set, length-map, with_items_is, take_at}
use Rattle.std.proofs.lemmas.Bool.{cases_order, cases_lt}
use Rattle.lsys_walks.specs.Stores.{Store}
use Rattle.lsys_match.specs.Asks.{IsMade}
use Rattle.lsys_match.specs.Kept.{Kept}
use Rattle.lsys_match.specs.KeptAnswers.{HoldOwnRuns}
use Rattle.lsys_flat.specs.Moves.{moved, AreWithin, AreSwapped}
use Rattle.lsys_flat.specs.Answers.{lists_of, at_level, answer_on_level, AreMadeWith, AllHoldOwnRuns, AllStayMade, OthersStayMade, AreReleased, CanAllMove, CanMove, CanTakeOver, moved_from, all_moved, AreAllLeft, OthersAreGone}
use Rattle.lsys_flat.proofs.Freed.{own_back}

-- 1. one level

-- nothing can be taken over from a level without places
nothing_moved : {A : Type 0} (olds ns : List (Option A)) (ks : List (Option ℕ)) → AreWithin 0 ks → moved olds ns ks ≡ ns
nothing_moved olds [] ks h = refl
nothing_moved olds (n ∷ ns) [] h = refl
nothing_moved olds (n ∷ ns) (None ∷ ks) h = ap (λ ns. n ∷ ns) (nothing_moved olds ns ks (λ p j e. h (suc p) j e))
nothing_moved olds (n ∷ ns) (Some j ∷ ks) h = let no : j < 0 = h 0 j refl in absurd (omega (arith, no))

-- what is there then was new there, or was taken over
comes : (olds ns : List (Option Kept)) (ks : List (Option ℕ)) (p : ℕ) (a : Kept) → length ns ≡ length ks → get_or (moved olds ns ks) p None ≡ Some a
    → (get_or ns p None ≡ Some a) ⊎ ((j : ℕ) × (slice_get ks p ≡ Some (Some j)) × (get_or olds j None ≡ Some a))
comes olds [] ks p a e g = let no : None ≡ Some a = g in cc
comes olds (n ∷ ns) [] p a e g = absurd (omega (arith, e))
comes olds (n ∷ ns) (None ∷ ks) zero a e g = inl g
comes olds (n ∷ ns) (Some j ∷ ks) zero a e g = inr (j, refl, g)
comes olds (n ∷ ns) (None ∷ ks) (suc p) a e g = comes olds ns ks p a (omega (arith, e)) g
comes olds (n ∷ ns) (Some j ∷ ks) (suc p) a e g = comes olds ns ks p a (omega (arith, e)) g

-- 2. the levels by their numbers

pub moved_at : {A : Type 0} (t : ℕ) (olds fresh : List (List (Option A))) (taken : List (List (Option ℕ))) (i n : ℕ) → length fresh ≡ length taken → t + i ≡ n
    → at_level (moved_from t olds fresh taken) i ≡ moved (at_level olds n) (at_level fresh i) (at_level taken i)
moved_at t olds [] taken i n e f = refl
moved_at t olds (f ∷ fresh) [] i n e g = absurd (omega (arith, e))
moved_at t olds (f ∷ fresh) (k ∷ taken) zero n e g = let h : t ≡ n = omega (arith, g) in ap (λ n. moved (at_level olds n) f k) h
moved_at t olds (f ∷ fresh) (k ∷ taken) (suc i) n e g = moved_at (t + 1) olds fresh taken i n (omega (arith, e)) (omega (arith, g))

pub moved_length : {A : Type 0} (t : ℕ) (olds fresh : List (List (Option A))) (taken : List (List (Option ℕ))) → length (moved_from t olds fresh taken) ≡ length fresh
moved_length t olds [] taken = refl
moved_length t olds (f ∷ fresh) [] = refl
moved_length t olds (f ∷ fresh) (k ∷ taken) = ap suc (moved_length (t + 1) olds fresh taken)

-- 3. one level after another: those before this one are done

pub record Going (olds0 fresh0 : List (List (Option Kept))) (taken : List (List (Option ℕ))) (level : ℕ) (olds fresh : List (List (Option Kept))) : Type 0 where
  pub same_old : length olds ≡ length olds0
  pub same_new : length fresh ≡ length fresh0
  pub moved : (t : ℕ) → t < level → at_level fresh t ≡ moved (at_level olds0 t) (at_level fresh0 t) (at_level taken t)
  pub left : (t : ℕ) → t < level → AreSwapped (at_level olds0 t) (at_level fresh0 t) (at_level taken t) (at_level olds t)
  pub rest_old : (t : ℕ) → level ≤ t → at_level olds t ≡ at_level olds0 t
  pub rest_new : (t : ℕ) → level ≤ t → at_level fresh t ≡ at_level fresh0 t

pub begun : (olds fresh : List (List (Option Kept))) (taken : List (List (Option ℕ))) → Going olds fresh taken 0 olds fresh
begun olds fresh taken = record {
  same_old = refl;
  same_new = refl;
  moved = λ t h. absurd (omega (arith, h));
  left = λ t h. absurd (omega (arith, h));
  rest_old = λ t h. refl;
  rest_new = λ t h. refl;
}

module _ (olds0 fresh0 : List (List (Option Kept))) (taken : List (List (Option ℕ))) (level : ℕ) (olds fresh : List (List (Option Kept))) (h : Going olds0 fresh0 taken level olds fresh) where
  pub goes : (o n : List (Option Kept)) → level < length olds → level < length fresh → n ≡ moved (at_level olds level) (at_level fresh level) (at_level taken level)
      → AreSwapped (at_level olds level) (at_level fresh level) (at_level taken level) o → Going olds0 fresh0 taken (level + 1) (set olds level o) (set fresh level n)
  goes o n a b e l =
      record {
        same_old = length-set olds level o ∙ h.same_old;
        same_new = length-set fresh level n ∙ h.same_new;
        moved = λ t k. by_new t (cases_order t level) k;
        left = λ t k. by_old t (cases_order t level) k;
        rest_old = λ t k. get_or-set_other olds level t o [] (λ i. omega (arith, i, k)) ∙ h.rest_old t (omega (arith, k));
        rest_new = λ t k. get_or-set_other fresh level t n [] (λ i. omega (arith, i, k)) ∙ h.rest_new t (omega (arith, k));
      }
    where
      old_here : at_level olds level ≡ at_level olds0 level
      old_here = h.rest_old level (omega arith)

      new_here : at_level fresh level ≡ at_level fresh0 level
      new_here = h.rest_new level (omega arith)

      by_new : (t : ℕ) → (t ≡ level) ⊎ ((t < level) ⊎ (level < t)) → t < level + 1 → at_level (set fresh level n) t ≡ moved (at_level olds0 t) (at_level fresh0 t) (at_level taken t)
      by_new t (inl i) k =
          ap (λ t. at_level (set fresh level n) t) i ∙ get_or-set_same fresh level n [] b ∙ e
          ∙ ap (λ o. moved o (at_level fresh level) (at_level taken level)) old_here ∙ ap (λ n. moved (at_level olds0 level) n (at_level taken level)) new_here
          ∙ ap (λ t. moved (at_level olds0 t) (at_level fresh0 t) (at_level taken t)) (sym i)
      by_new t (inr (inl i)) k = get_or-set_other fresh level t n [] (λ j. omega (arith, i, j)) ∙ h.moved t i
      by_new t (inr (inr i)) k = absurd (omega (arith, i, k))

      by_old : (t : ℕ) → (t ≡ level) ⊎ ((t < level) ⊎ (level < t)) → t < level + 1 → AreSwapped (at_level olds0 t) (at_level fresh0 t) (at_level taken t) (at_level (set olds level o) t)
      by_old t (inl i) k =
          let here : AreSwapped (at_level olds0 level) (at_level fresh0 level) (at_level taken level) o =
          subst (λ n. AreSwapped (at_level olds0 level) n (at_level taken level) o) new_here (subst (λ x. AreSwapped x (at_level fresh level) (at_level taken level) o) old_here l) in
          subst (λ t. AreSwapped (at_level olds0 t) (at_level fresh0 t) (at_level taken t) (at_level (set olds level o) t)) (sym i)
          (subst (AreSwapped (at_level olds0 level) (at_level fresh0 level) (at_level taken level)) (sym (get_or-set_same olds level o [] a)) here)
      by_old t (inr (inl i)) k = subst (AreSwapped (at_level olds0 t) (at_level fresh0 t) (at_level taken t)) (sym (get_or-set_other olds level t o [] (λ j. omega (arith, i, j)))) (h.left t i)
      by_old t (inr (inr i)) k = absurd (omega (arith, i, k))

  module _ (same : length fresh0 ≡ length taken) (fits : (t : ℕ) → CanMove (at_level olds0 t) (at_level fresh0 t) (at_level taken t)) (done : min (length olds0) (length fresh0) ≤ level) where
    pub all_gone_over : fresh ≡ all_moved olds0 fresh0 taken
    all_gone_over = ext_get_or [] fresh (all_moved olds0 fresh0 taken) (h.same_new ∙ sym (moved_length 0 olds0 fresh0 taken)) (λ i k. by i (cases_lt i level) k ∙ sym (moved_at 0 olds0 fresh0 taken i i same (omega arith)))
      where
        by : (i : ℕ) → (i < level) ⊎ (level ≤ i) → i < length fresh → at_level fresh i ≡ moved (at_level olds0 i) (at_level fresh0 i) (at_level taken i)
        by i (inl l) k = h.moved i l
        by i (inr l) k =
            let past : length olds0 ≤ i = omega (arith, done, l, k, h.same_new) in
            let none : at_level olds0 i ≡ [] = get_or_past olds0 i [] past in
            h.rest_new i l ∙ sym (nothing_moved (at_level olds0 i) (at_level fresh0 i) (at_level taken i) (subst (λ (x : List (Option Kept)). AreWithin (length x) (at_level taken i)) none (fits i).below))

    pub all_left : AreAllLeft olds0 taken olds
    all_left =
        record {
          levels = h.same_old;
          each = λ t j a e. (sym (others t j (untaken t j a e (cases_lt t level))) ∙ e, untaken t j a e (cases_lt t level));
          others = others;
        }
      where
        others : (t j : ℕ) → ((p : ℕ) → slice_get (at_level taken t) p ≡ Some (Some j) → ⊥) → answer_on_level olds t j ≡ answer_on_level olds0 t j
        others t j f = by (cases_lt t level)
          where
            by : (t < level) ⊎ (level ≤ t) → answer_on_level olds t j ≡ answer_on_level olds0 t j
            by (inl l) = (h.left t l).others j f
            by (inr l) = ap (λ (x : List (Option Kept)). get_or x j None) (h.rest_old t l)

        untaken : (t j : ℕ) (a : Kept) → answer_on_level olds t j ≡ Some a → (t < level) ⊎ (level ≤ t) → (p : ℕ) → slice_get (at_level taken t) p ≡ Some (Some j) → ⊥
        untaken t j a e (inl l) p g = let no : None ≡ Some a = sym ((h.left t l).taken p j g ∙ (fits t).free p j g) ∙ e in cc
        untaken t j a e (inr l) p g = by (cases_lt t (length fresh0))
          where
            by : (t < length fresh0) ⊎ (length fresh0 ≤ t) → ⊥
            by (inl k) =
                let past : length olds ≤ t = omega (arith, done, l, k, h.same_old) in
                let none : None ≡ Some a = sym (ap (λ (x : List (Option Kept)). get_or x j None) (get_or_past olds t [] past)) ∙ e in cc
            by (inr k) =
                let past : length taken ≤ t = omega (arith, k, same) in
                let none : None ≡ Some (Some j) = sym (ap (λ (x : List (Option ℕ)). slice_get x p) (get_or_past taken t [] past)) ∙ g in cc

-- the same of vectors

item_at : {A : Type 0} (xs : List (Vec A Global)) (i : ℕ) (d : Vec A Global) → i < length xs → at_level (lists_of xs) i ≡ (get_or xs i d).items
item_at {A} xs i d h = get_or-map (λ (v : Vec A Global). v.items) xs i d [] h

module _ (olds0 fresh0 : List (List (Option Kept))) (taken : List (Vec (Option ℕ) Global)) (level : ℕ) (olds fresh : List (Vec (Option Kept) Global)) (h : Going olds0 fresh0 (lists_of taken) level (lists_of olds) (lists_of fresh)) where
  pub goes_on : (dv dw : Vec (Option Kept) Global) (k : Vec (Option ℕ) Global) (a b : List (Option Kept)) (ks : List (Option ℕ)) (o n : List (Option Kept))
      → level < length olds → level < length fresh → level < length taken
      → a ≡ (get_or olds level dv).items → b ≡ (get_or fresh level dw).items → k ≡ get_or taken level k → ks ≡ k.items
      → length o ≡ length a → length n ≡ length b → n ≡ moved a b ks → AreSwapped a b ks o
      → Going olds0 fresh0 (lists_of taken) (level + 1) (lists_of (set olds level (with_items (get_or olds level dv) o))) (lists_of (set fresh level (with_items (get_or fresh level dw) n)))
  goes_on dv dw k a b ks o n x y z ea eb ek eks lo ln en l =
      subst (λ os. Going olds0 fresh0 (lists_of taken) (level + 1) os (lists_of (set fresh level w))) (sym put_old) (subst (λ ns. Going olds0 fresh0 (lists_of taken) (level + 1) (set (lists_of olds) level o) ns) (sym put_new) gone)
    where
      v : Vec (Option Kept) Global
      v = with_items (get_or olds level dv) o

      w : Vec (Option Kept) Global
      w = with_items (get_or fresh level dw) n

      put_old : lists_of (set olds level (with_items (get_or olds level dv) o)) ≡ set (lists_of olds) level o
      put_old =
          map-set (λ (v : Vec (Option Kept) Global). v.items) olds level (with_items (get_or olds level dv) o)
          ∙ ap (set (lists_of olds) level) (with_items_is (get_or olds level dv) o (lo ∙ ap length ea ∙ sym (get_or olds level dv).ok.0))

      put_new : lists_of (set fresh level (with_items (get_or fresh level dw) n)) ≡ set (lists_of fresh) level n
      put_new =
          map-set (λ (v : Vec (Option Kept) Global). v.items) fresh level (with_items (get_or fresh level dw) n)
          ∙ ap (set (lists_of fresh) level) (with_items_is (get_or fresh level dw) n (ln ∙ ap length eb ∙ sym (get_or fresh level dw).ok.0))

      old_is : a ≡ at_level (lists_of olds) level
      old_is = ea ∙ sym (item_at olds level dv x)

      new_is : b ≡ at_level (lists_of fresh) level
      new_is = eb ∙ sym (item_at fresh level dw y)

      places_is : ks ≡ at_level (lists_of taken) level
      places_is = eks ∙ ap (λ (v : Vec (Option ℕ) Global). v.items) ek ∙ sym (item_at taken level k z)

      gone : Going olds0 fresh0 (lists_of taken) (level + 1) (set (lists_of olds) level o) (set (lists_of fresh) level n)
      gone =
          goes olds0 fresh0 (lists_of taken) level (lists_of olds) (lists_of fresh) h o n
          (omega (arith, x, length-map olds (λ (v : Vec (Option Kept) Global). v.items))) (omega (arith, y, length-map fresh (λ (v : Vec (Option Kept) Global). v.items)))
          (en ∙ ap (λ a. moved a b ks) old_is ∙ ap (λ b. moved (at_level (lists_of olds) level) b ks) new_is ∙ ap (moved (at_level (lists_of olds) level) (at_level (lists_of fresh) level)) places_is)
          (subst (λ ks. AreSwapped (at_level (lists_of olds) level) (at_level (lists_of fresh) level) ks o) places_is
          (subst (λ b. AreSwapped (at_level (lists_of olds) level) b ks o) new_is (subst (λ a. AreSwapped a b ks o) old_is l)))

  pub can_go : (dv dw : Vec (Option Kept) Global) (k : Vec (Option ℕ) Global) (a b : List (Option Kept)) (ks : List (Option ℕ))
      → level < length olds → level < length fresh → level < length taken
      → a ≡ (get_or olds level dv).items → b ≡ (get_or fresh level dw).items → k ≡ get_or taken level k → ks ≡ k.items
      → CanAllMove olds0 fresh0 (lists_of taken) → CanMove a b ks
  can_go dv dw k a b ks x y z ea eb ek eks can =
      let old_is : a ≡ at_level olds0 level = ea ∙ sym (item_at olds level dv x) ∙ h.rest_old level (omega arith) in
      let new_is : b ≡ at_level fresh0 level = eb ∙ sym (item_at fresh level dw y) ∙ h.rest_new level (omega arith) in
      let places_is : ks ≡ at_level (lists_of taken) level = eks ∙ ap (λ (v : Vec (Option ℕ) Global). v.items) ek ∙ sym (item_at taken level k z) in
      subst (λ a. CanMove a b ks) (sym old_is) (subst (λ b. CanMove (at_level olds0 level) b ks) (sym new_is) (subst (CanMove (at_level olds0 level) (at_level fresh0 level)) (sym places_is) (can level)))

least : (a b m level : ℕ) → m ≡ ord_min nat_cmp a b → m ≤ level → min a b ≤ level
least a b m level e h = by (is_lt (nat_cmp b a)) e
  where
    by : (t : Bool) → m ≡ cond t b a → min a b ≤ level
    by true f = omega (arith, f, h)
    by false f = omega (arith, f, h)

pub past_least : {A B : Type 0} (xs : List (Vec A Global)) (ys : List (Vec B Global)) (m level : ℕ) → m ≡ ord_min nat_cmp (length xs) (length ys) → m ≤ level → min (length (lists_of xs)) (length (lists_of ys)) ≤ level
past_least {A} {B} xs ys m level e h =
    let r : min (length xs) (length ys) ≤ level = least (length xs) (length ys) m level e h in
    omega (arith, r, length-map xs (λ (v : Vec A Global). v.items), length-map ys (λ (v : Vec B Global). v.items))

-- a slice in place of all that a vector has
pub whole_slice : {A : Type 0} (n : ℕ) (ws items : List A) → length ws ≡ n → take n (ws ++ drop (length ws) items) ≡ ws
whole_slice n ws items e = take_at ws (drop (length ws) items) n e

-- 4. what was taken over, and what is left

module _ (s : Store) (olds fresh : List (List (Option Kept))) (taken : List (List (Option ℕ))) (left : List (List (Option Kept))) (h : CanTakeOver s olds fresh taken) (l : AreAllLeft olds taken left) where
  pub left_made : AreMadeWith s left
  left_made = record { each = λ t p a e. h.olds_made.each t p a (l.each t p a e).0 }

  pub left_own : AllHoldOwnRuns left
  left_own = record { each = λ t p u q a b e f apart. h.olds_own.each t p u q a b (l.each t p a e).0 (l.each u q b f).0 apart }

  Comes : ℕ → ℕ → Kept → Type 0
  Comes t p a = (answer_on_level fresh t p ≡ Some a) ⊎ ((j : ℕ) × (slice_get (at_level taken t) p ≡ Some (Some j)) × (answer_on_level olds t j ≡ Some a))

  all_come : (t p : ℕ) (a : Kept) → answer_on_level (all_moved olds fresh taken) t p ≡ Some a → Comes t p a
  unfolding Comes
  all_come t p a e =
      comes (at_level olds t) (at_level fresh t) (at_level taken t) p a (h.places t).each
      (ap (λ (x : List (Option Kept)). get_or x p None) (sym (moved_at 0 olds fresh taken t t h.levels (omega arith))) ∙ e)

  all_made : (t p : ℕ) (a : Kept) → Comes t p a → IsMade s a
  unfolding Comes
  all_made t p a (inl e) = h.fresh_made.each t p a e
  all_made t p a (inr k) = h.olds_made.each t k.0 a k.2

  beside_left : (t p : ℕ) (a : Kept) → Comes t p a → (u q : ℕ) (b : Kept) → answer_on_level left u q ≡ Some b → HoldOwnRuns b a
  unfolding Comes
  beside_left t p a (inl e) u q b f = h.beside.each u q t p b a (l.each u q b f).0 e
  beside_left t p a (inr k) u q b f =
      h.olds_own.each u q t k.0 b a (l.each u q b f).0 k.2 (λ i j. (l.each u q b f).1 p (ap (λ (t : ℕ). slice_get (at_level taken t) p) i ∙ k.1 ∙ ap (λ j. Some (Some j)) (sym j)))

  pub all_stay : (after : Store) → OthersStayMade s after left → AllStayMade s after (all_moved olds fresh taken)
  all_stay after o = record { each = λ t p a e. let c = all_come t p a e in o.each a (all_made t p a c) (λ u q b f. beside_left t p a c u q b f) }

  own_both : (t p u q : ℕ) (a b : Kept) → (t ≡ u → p ≡ q → ⊥) → Comes t p a → Comes u q b → HoldOwnRuns a b
  unfolding Comes
  own_both t p u q a b apart (inl e) (inl f) = h.fresh_own.each t p u q a b e f apart
  own_both t p u q a b apart (inl e) (inr k) = own_back b a (h.beside.each u k.0 t p b a k.2 e)
  own_both t p u q a b apart (inr k) (inl f) = h.beside.each t k.0 u q a b k.2 f
  own_both t p u q a b apart (inr k) (inr m) =
      h.olds_own.each t k.0 u m.0 a b k.2 m.2 (λ i j. apart i ((h.places t).apart p q k.0 k.1 (ap (λ (t : ℕ). slice_get (at_level taken t) q) i ∙ m.1 ∙ ap (λ j. Some (Some j)) (sym j))))

  pub all_own : AllHoldOwnRuns (all_moved olds fresh taken)
  all_own = record { each = λ t p u q a b e f apart. own_both t p u q a b apart (all_come t p a e) (all_come u q b f) }

  pub others_gone : (after : Store) → AreReleased s after left → OthersAreGone after olds taken
  others_gone after r = record { each = λ t j a e f. r.gone t j a (l.others t j f ∙ e) }

-- 5. the same of vectors, of which slices were handed over

module _ (s : Store) (olds fresh : Vec (Vec (Option Kept) Global) Global) (taken : List (List (Option ℕ))) (can : CanTakeOver s (lists_of olds.items) (lists_of fresh.items) taken) (x y o n : List (Vec (Option Kept) Global)) (ex : x ≡ olds.items) (ey : y ≡ fresh.items) (lo : length o ≡ length x) (ln : length n ≡ length y) (left : AreAllLeft (lists_of x) taken (lists_of o)) (moves : lists_of n ≡ all_moved (lists_of x) (lists_of y) taken) where
  rest_is : lists_of (take olds.len (o ++ drop (length o) olds.items)) ≡ lists_of o
  rest_is = ap lists_of (whole_slice olds.len o olds.items (lo ∙ ap length ex ∙ sym olds.ok.0))

  result_is : lists_of (take fresh.len (n ++ drop (length n) fresh.items)) ≡ all_moved (lists_of olds.items) (lists_of fresh.items) taken
  result_is =
      ap lists_of (whole_slice fresh.len n fresh.items (ln ∙ ap length ey ∙ sym fresh.ok.0)) ∙ moves
      ∙ ap (λ (x : List (Vec (Option Kept) Global)). all_moved (lists_of x) (lists_of y) taken) ex
      ∙ ap (λ (y : List (Vec (Option Kept) Global)). all_moved (lists_of olds.items) (lists_of y) taken) ey

  rest : AreAllLeft (lists_of olds.items) taken (lists_of (take olds.len (o ++ drop (length o) olds.items)))
  rest = subst (AreAllLeft (lists_of olds.items) taken) (sym rest_is) (subst (λ (x : List (Vec (Option Kept) Global)). AreAllLeft (lists_of x) taken (lists_of o)) ex left)

  pub rest_made : AreMadeWith s (lists_of (take olds.len (o ++ drop (length o) olds.items)))
  rest_made = left_made s (lists_of olds.items) (lists_of fresh.items) taken _ can rest

  pub rest_own : AllHoldOwnRuns (lists_of (take olds.len (o ++ drop (length o) olds.items)))
  rest_own = left_own s (lists_of olds.items) (lists_of fresh.items) taken _ can rest

  pub result_moved : lists_of (take fresh.len (n ++ drop (length n) fresh.items)) ≡ all_moved (lists_of olds.items) (lists_of fresh.items) taken
  result_moved = result_is

  pub result_made : (after : Store) → OthersStayMade s after (lists_of (take olds.len (o ++ drop (length o) olds.items))) → AllStayMade s after (lists_of (take fresh.len (n ++ drop (length n) fresh.items)))
  result_made after k = subst (AllStayMade s after) (sym result_is) (all_stay s (lists_of olds.items) (lists_of fresh.items) taken _ can rest after k)

  pub result_own : AllHoldOwnRuns (lists_of (take fresh.len (n ++ drop (length n) fresh.items)))
  result_own = subst AllHoldOwnRuns (sym result_is) (all_own s (lists_of olds.items) (lists_of fresh.items) taken _ can rest)

  pub rest_gone : (after : Store) → AreReleased s after (lists_of (take olds.len (o ++ drop (length o) olds.items))) → OthersAreGone after (lists_of olds.items) taken
  rest_gone after k = others_gone s (lists_of olds.items) (lists_of fresh.items) taken _ can rest after k

-- What is taken from one place leaves the others.
use Rattle.std.proofs.Common.{◌≡◌, ℕ, zero, suc, ◌+◌, ◌<◌, ◌≤◌, Option, Some, None, List, [], ◌∷◌, length, get_or, refl, sym, ap, ◌∙◌, arith, set, inl, inr, ◌⊎◌, length-set}
use Rattle.std.specs.Prelude.{slice_get}
use Rattle.std.proofs.lemmas.Option.{slice_get_within}
use Rattle.std.proofs.lemmas.List.{ext_get_or, get_or-set_other, get_or-set_same}
use Rattle.std.proofs.lemmas.Bool.{cases_order}
use Rattle.lsys_flat.specs.Moves.{moved, AreTakenOnce, AreSwapped}

pub moved_length : {A : Type 0} (olds ns : List (Option A)) (ks : List (Option ℕ)) → length (moved olds ns ks) ≡ length ns
moved_length olds [] ks = refl
moved_length olds (n ∷ ns) [] = refl
moved_length olds (n ∷ ns) (None ∷ ks) = ap suc (moved_length olds ns ks)
moved_length olds (n ∷ ns) (Some j ∷ ks) = ap suc (moved_length olds ns ks)

pub moved_there : {A : Type 0} (olds ns : List (Option A)) (ks : List (Option ℕ)) (p j : ℕ) → length ns ≡ length ks → slice_get ks p ≡ Some (Some j) → get_or (moved olds ns ks) p None ≡ get_or olds j None
moved_there olds [] [] p j e g = cc
moved_there olds [] (k ∷ ks) p j e g = absurd (omega (arith, e))
moved_there olds (n ∷ ns) [] p j e g = cc
moved_there olds (n ∷ ns) (None ∷ ks) zero j e g = cc
moved_there olds (n ∷ ns) (Some k ∷ ks) zero j e g = let h : k ≡ j = cc in ap (λ j. get_or olds j None) h
moved_there olds (n ∷ ns) (None ∷ ks) (suc p) j e g = moved_there olds ns ks p j (omega (arith, e)) g
moved_there olds (n ∷ ns) (Some k ∷ ks) (suc p) j e g = moved_there olds ns ks p j (omega (arith, e)) g

pub moved_not : {A : Type 0} (olds ns : List (Option A)) (ks : List (Option ℕ)) (p : ℕ) → slice_get ks p ≡ Some None → get_or (moved olds ns ks) p None ≡ get_or ns p None
moved_not olds [] ks p g = refl
moved_not olds (n ∷ ns) [] p g = cc
moved_not olds (n ∷ ns) (None ∷ ks) zero g = refl
moved_not olds (n ∷ ns) (Some k ∷ ks) zero g = cc
moved_not olds (n ∷ ns) (None ∷ ks) (suc p) g = moved_not olds ns ks p g
moved_not olds (n ∷ ns) (Some k ∷ ks) (suc p) g = moved_not olds ns ks p g

-- a front has come to its places, and what is still wanted is still there
pub record Going {A : Type 0} (olds0 ns0 : List (Option A)) (ks : List (Option ℕ)) (place : ℕ) (olds ns : List (Option A)) : Type 0 where
  pub same_old : length olds ≡ length olds0
  pub same_new : length ns ≡ length ns0
  pub front : (p : ℕ) → p < place → get_or ns p None ≡ get_or (moved olds0 ns0 ks) p None
  pub back : (p : ℕ) → place ≤ p → get_or ns p None ≡ get_or ns0 p None
  pub taken : (p j : ℕ) → p < place → slice_get ks p ≡ Some (Some j) → get_or olds j None ≡ get_or ns0 p None
  pub others : (j : ℕ) → ((p : ℕ) → p < place → slice_get ks p ≡ Some (Some j) → ⊥) → get_or olds j None ≡ get_or olds0 j None
  pub there : (q j : ℕ) → place ≤ q → slice_get ks q ≡ Some (Some j) → get_or olds j None ≡ get_or olds0 j None

pub stays : {A : Type 0} (olds0 ns0 : List (Option A)) (ks : List (Option ℕ)) (place : ℕ) (olds ns : List (Option A)) → Going olds0 ns0 ks place olds ns → slice_get ks place ≡ Some None → Going olds0 ns0 ks (place + 1) olds ns
stays olds0 ns0 ks place olds ns h g =
    record {
      same_old = h.same_old;
      same_new = h.same_new;
      front = λ p l. by p (cases_order p place) l;
      back = λ p l. h.back p (omega (arith, l));
      taken = λ p j l v. by_taken p j v (cases_order p place) l;
      others = λ j f. h.others j (λ p l. f p (omega (arith, l)));
      there = λ q j l. h.there q j (omega (arith, l));
    }
  where
    by : (p : ℕ) → (p ≡ place) ⊎ ((p < place) ⊎ (place < p)) → p < place + 1 → get_or ns p None ≡ get_or (moved olds0 ns0 ks) p None
    by p (inl e) l = h.back p (omega (arith, e)) ∙ sym (moved_not olds0 ns0 ks p (ap (slice_get ks) e ∙ g))
    by p (inr (inl e)) l = h.front p e
    by p (inr (inr e)) l = absurd (omega (arith, e, l))

    by_taken : (p j : ℕ) → slice_get ks p ≡ Some (Some j) → (p ≡ place) ⊎ ((p < place) ⊎ (place < p)) → p < place + 1 → get_or olds j None ≡ get_or ns0 p None
    by_taken p j v (inl e) l = let no : Some None ≡ Some (Some j) = sym g ∙ ap (slice_get ks) (sym e) ∙ v in cc
    by_taken p j v (inr (inl e)) l = h.taken p j e v
    by_taken p j v (inr (inr e)) l = absurd (omega (arith, e, l))

pub goes : {A : Type 0} (olds0 ns0 : List (Option A)) (ks : List (Option ℕ)) (place j : ℕ) (olds ns : List (Option A)) (o : Option A) → Going olds0 ns0 ks place olds ns → AreTakenOnce ks → length ns0 ≡ length ks → place < length ns → j < length olds → o ≡ get_or ns place None
    → slice_get ks place ≡ Some (Some j) → Going olds0 ns0 ks (place + 1) (set olds j o) (set ns place (get_or olds j None))
goes olds0 ns0 ks place j olds ns o h apart same within room was g =
    record {
      same_old = length-set olds j o ∙ h.same_old;
      same_new = length-set ns place (get_or olds j None) ∙ h.same_new;
      front = λ p l. by p (cases_order p place) l;
      back = λ p l. get_or-set_other ns place p (get_or olds j None) None (λ e. omega (arith, e, l)) ∙ h.back p (omega (arith, l));
      taken = λ p k l v. by_taken p k v (cases_order p place) l;
      others = λ k f. get_or-set_other olds j k o None (λ e. f place (omega arith) (g ∙ ap (λ k. Some (Some k)) (sym e))) ∙ h.others k (λ p l. f p (omega (arith, l)));
      there = λ q k l v. get_or-set_other olds j k o None (λ e. let i : place ≡ q = apart place q j g (v ∙ ap (λ k. Some (Some k)) e) in omega (arith, i, l)) ∙ h.there q k (omega (arith, l)) v;
    }
  where
    by : (p : ℕ) → (p ≡ place) ⊎ ((p < place) ⊎ (place < p)) → p < place + 1 → get_or (set ns place (get_or olds j None)) p None ≡ get_or (moved olds0 ns0 ks) p None
    by p (inl e) l =
        ap (λ p. get_or (set ns place (get_or olds j None)) p None) e ∙ get_or-set_same ns place (get_or olds j None) None within ∙ h.there place j (omega arith) g
        ∙ sym (moved_there olds0 ns0 ks p j same (ap (slice_get ks) e ∙ g))
    by p (inr (inl e)) l = get_or-set_other ns place p (get_or olds j None) None (λ i. omega (arith, i, e)) ∙ h.front p e
    by p (inr (inr e)) l = absurd (omega (arith, e, l))

    by_taken : (p k : ℕ) → slice_get ks p ≡ Some (Some k) → (p ≡ place) ⊎ ((p < place) ⊎ (place < p)) → p < place + 1 → get_or (set olds j o) k None ≡ get_or ns0 p None
    by_taken p k v (inl e) l =
        let i : k ≡ j = let same : Some (Some k) ≡ Some (Some j) = sym v ∙ ap (slice_get ks) e ∙ g in cc in
        ap (λ k. get_or (set olds j o) k None) i ∙ get_or-set_same olds j o None room ∙ was ∙ h.back place (omega arith) ∙ ap (λ p. get_or ns0 p None) (sym e)
    by_taken p k v (inr (inl e)) l = get_or-set_other olds j k o None (λ i. let same : place ≡ p = apart place p k (g ∙ ap (λ k. Some (Some k)) (sym i)) v in omega (arith, same, e)) ∙ h.taken p k e v
    by_taken p k v (inr (inr e)) l = absurd (omega (arith, e, l))

pub gone : {A : Type 0} (olds0 ns0 : List (Option A)) (ks : List (Option ℕ)) (place : ℕ) (olds ns : List (Option A)) → Going olds0 ns0 ks place olds ns → length ns0 ≡ length ks → length ks ≤ place → ns ≡ moved olds0 ns0 ks
gone olds0 ns0 ks place olds ns h e l =
    ext_get_or None ns (moved olds0 ns0 ks) (h.same_new ∙ sym (moved_length olds0 ns0 ks)) (λ i k. h.front i (omega (arith, k, h.same_new, e, l)))

pub left : {A : Type 0} (olds0 ns0 : List (Option A)) (ks : List (Option ℕ)) (place : ℕ) (olds ns : List (Option A)) → Going olds0 ns0 ks place olds ns → length ks ≤ place → AreSwapped olds0 ns0 ks olds
left olds0 ns0 ks place olds ns h l = record {
  same = h.same_old;
  taken = λ p j g. h.taken p j (let k : p < length ks = slice_get_within ks p (Some j) g in omega (arith, k, l)) g;
  others = λ j f. h.others j (λ p k. f p);
}

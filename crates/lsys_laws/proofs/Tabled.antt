-- The tables, where a rule took another's place, came last, or was left out.
use Rattle.std.proofs.Common.{◌≡◌, ℕ, suc, Bool, true, false, ◌||◌, List, [], ◌∷◌, ◌++◌, ◌≤◌, length, refl, ap, ◌∙◌, sym, arith, length-append, bytes_eq}
use Rattle.lsys_syntax.specs.Rules.{Production}
use Rattle.lsys_spec.specs.Systems.{any, main, is_table, with_table, tables_onto, tables}
use Rattle.lsys_spec.proofs.Tests.{or_first}
use Rattle.lsys_laws.proofs.Aparts.{bytes_eq_sym, bytes_eq_true, Dropped, gone, all_stay}

or_false : (a : Bool) → (a || false) ≡ a
or_false true = refl
or_false false = refl

or_assoc : (a b c : Bool) → (a || (b || c)) ≡ ((a || b) || c)
or_assoc true b c = refl
or_assoc false b c = refl

or_swap : (a b c : Bool) → ((a || b) || c) ≡ ((a || c) || b)
or_swap true b c = refl
or_swap false true true = refl
or_swap false true false = refl
or_swap false false true = refl
or_swap false false false = refl

any_last : {A : Type 0} (p : A → Bool) (xs : List A) (y : A) → any p (xs ++ y ∷ []) ≡ (any p xs || p y)
any_last p [] y = or_false (p y)
any_last p (x ∷ xs) y = ap (λ b. p x || b) (any_last p xs y) ∙ or_assoc (p x) (any p xs) (p y)

-- a rule of the same table
pub tables_swap : (xs ys : List Production) (q p : Production) (ts : List (List ℕ)) → q.table ≡ p.table → tables_onto ts (xs ++ q ∷ ys) ≡ tables_onto ts (xs ++ p ∷ ys)
tables_swap [] ys q p ts e = ap (λ t. tables_onto (with_table (is_table ts t) ts t) ys) e
tables_swap (x ∷ xs) ys q p ts e = tables_swap xs ys q p (with_table (is_table ts x.table) ts x.table) e

with_keeps : (b : Bool) (ts : List (List ℕ)) (t w : List ℕ) → is_table ts w ≡ true → is_table (with_table b ts t) w ≡ true
with_keeps true ts t w h = h
with_keeps false ts t w h = any_last (λ u. bytes_eq u w) ts t ∙ or_first (is_table ts w) (bytes_eq t w) h

-- one more rule loses no table
pub tables_more : (rs : List Production) (p : Production) (ts : List (List ℕ)) (w : List ℕ) → is_table (tables_onto ts rs) w ≡ true → is_table (tables_onto ts (rs ++ p ∷ [])) w ≡ true
tables_more [] p ts w h = with_keeps (is_table ts p.table) ts p.table w h
tables_more (r ∷ rs) p ts w h = tables_more rs p (with_table (is_table ts r.table) ts r.table) w h

-- the same tables in the one and in the other, and no more of them
record Alike (ts us : List (List ℕ)) : Type 0 where
  same : (w : List ℕ) → is_table us w ≡ is_table ts w
  more : length ts ≤ length us

-- and t, which the first hasn't
record Beyond (t : List ℕ) (ts us : List (List ℕ)) : Type 0 where
  same : (w : List ℕ) → is_table us w ≡ (is_table ts w || bytes_eq t w)
  absent : is_table ts t ≡ false
  more : suc (length ts) ≤ length us

grown : (ts us : List (List ℕ)) (y : List ℕ) → Alike ts us → Alike (ts ++ y ∷ []) (us ++ y ∷ [])
grown ts us y h = record {
  same = λ w. any_last (λ u. bytes_eq u w) us y ∙ ap (λ b. b || bytes_eq y w) (h.same w) ∙ sym (any_last (λ u. bytes_eq u w) ts y);
  more = omega (arith, h.more, length-append ts (y ∷ []), length-append us (y ∷ []));
}

grown_with : (b : Bool) (ts us : List (List ℕ)) (y : List ℕ) → Alike ts us → Alike (with_table b ts y) (with_table b us y)
grown_with true ts us y h = h
grown_with false ts us y h = grown ts us y h

alike_length : (ps : List Production) (ts us : List (List ℕ)) → Alike ts us → length (tables_onto ts ps) ≤ length (tables_onto us ps)
alike_length [] ts us h = h.more
alike_length (p ∷ ps) ts us h = rw h.same (alike_length ps (with_table (is_table ts p.table) ts p.table) (with_table (is_table ts p.table) us p.table) (grown_with (is_table ts p.table) ts us p.table h))

beyond_grown : (t : List ℕ) (ts us : List (List ℕ)) (y : List ℕ) → Beyond t ts us → bytes_eq t y ≡ false → Beyond t (ts ++ y ∷ []) (us ++ y ∷ [])
beyond_grown t ts us y h e = record {
  same = λ w.
      any_last (λ u. bytes_eq u w) us y ∙ ap (λ b. b || bytes_eq y w) (h.same w) ∙ or_swap (is_table ts w) (bytes_eq t w) (bytes_eq y w)
      ∙ ap (λ b. b || bytes_eq t w) (sym (any_last (λ u. bytes_eq u w) ts y));
  absent = any_last (λ u. bytes_eq u t) ts y ∙ ap (λ b. b || bytes_eq y t) h.absent ∙ bytes_eq_sym y t ∙ e;
  more = omega (arith, h.more, length-append ts (y ∷ []), length-append us (y ∷ []));
}

beyond_met : (t : List ℕ) (ts us : List (List ℕ)) (y : List ℕ) → Beyond t ts us → bytes_eq t y ≡ true → Alike (ts ++ y ∷ []) us
beyond_met t ts us y h e = record {
  same = λ w. h.same w ∙ ap (λ v. is_table ts w || bytes_eq v w) (bytes_eq_true t y e) ∙ sym (any_last (λ u. bytes_eq u w) ts y);
  more = omega (arith, h.more, length-append ts (y ∷ []));
}

by_tests : (a e : Bool) (t : List ℕ) (ts us : List (List ℕ)) (y : List ℕ) (ps : List Production)
    → ((vs ws : List (List ℕ)) → Beyond t vs ws → length (tables_onto vs ps) ≤ length (tables_onto ws ps))
    → Beyond t ts us → bytes_eq t y ≡ e → length (tables_onto (with_table a ts y) ps) ≤ length (tables_onto (with_table (a || e) us y) ps)
by_tests true e t ts us y ps f h g = f ts us h
by_tests false false t ts us y ps f h g = f (ts ++ y ∷ []) (us ++ y ∷ []) (beyond_grown t ts us y h g)
by_tests false true t ts us y ps f h g = alike_length ps (ts ++ y ∷ []) us (beyond_met t ts us y h g)

beyond_length : (ps : List Production) (t : List ℕ) (ts us : List (List ℕ)) → Beyond t ts us → length (tables_onto ts ps) ≤ length (tables_onto us ps)
beyond_length [] t ts us h = omega (arith, h.more)
beyond_length (p ∷ ps) t ts us h =
    rw (h.same p.table) (by_tests (is_table ts p.table) (bytes_eq t p.table) t ts us p.table ps (λ vs ws k. beyond_length ps t vs ws k) h refl)

with_length : (b : Bool) (t : List ℕ) (ts : List (List ℕ)) (ps : List Production) → is_table ts t ≡ b → length (tables_onto ts ps) ≤ length (tables_onto (with_table b ts t) ps)
with_length true t ts ps e = omega arith
with_length false t ts ps e =
    beyond_length ps t ts (ts ++ t ∷ []) (record { same = λ w. any_last (λ u. bytes_eq u w) ts t; absent = e; more = omega (arith, length-append ts (t ∷ [])) })

without_length : (xs ys : List Production) (q : Production) (ts : List (List ℕ)) → length (tables_onto ts (xs ++ ys)) ≤ length (tables_onto ts (xs ++ q ∷ ys))
without_length [] ys q ts = with_length (is_table ts q.table) q.table ts ys refl
without_length (x ∷ xs) ys q ts = without_length xs ys q (with_table (is_table ts x.table) ts x.table)

-- one rule less, no more tables
pub tables_dropped : (old new : List Production) → Dropped old new → length (tables new) ≤ length (tables old)
tables_dropped old new (gone xs q ys e f) = rw (e, f) (without_length xs ys q (main ∷ []))
tables_dropped old new (all_stay e) = rw e (omega arith)

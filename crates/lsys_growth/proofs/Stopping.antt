-- Sums and products that stop at 2^128, and rows and matrices of them.
use Rattle.std.proofs.Common.{◌≡◌, ℕ, zero, suc, ◌+◌, ◌*◌, ◌-◌, ◌<◌, ◌≤◌, Bool, true, false, nat_lt, List, [], ◌∷◌, ◌++◌, length, length-append, get_or, take, drop, refl, ap, sym, subst, ◌∙◌, arith}
use Rattle.std.specs.Prelude.{min, Option, None}
use Rattle.std.proofs.lemmas.List.{get_or-take, get_or-drop, get_or_append_left, get_or_at}
use Rattle.std.proofs.lemmas.Bool.Decides.{nat_tests}
use Rattle.std.proofs.Math.Nat.{mul-le-mul_right}
use Rattle.lsys_growth.specs.Capped.{cap, capped, value_of}
use Rattle.lsys_growth.specs.Sums.{sum_to, row_by}
use Rattle.lsys_growth.specs.Matrices.{Square, place, entry, IsRow, IsMatrix, AreNeeded, AddsRow}
use Rattle.lsys_growth.proofs.Sums.{stops_sum, stops_product, sum_same, sum_rises}

pub capped_plus : (x y u v : ℕ) → capped x ≡ capped u → capped y ≡ capped v → capped (x + y) ≡ capped (u + v)
capped_plus x y u v e f = stops_sum cap x y ∙ ap (λ (n : ℕ). min (n + min y cap) cap) e ∙ ap (λ (n : ℕ). min (min u cap + n) cap) f ∙ sym (stops_sum cap u v)

pub capped_times : (x y u v : ℕ) → capped x ≡ capped u → capped y ≡ capped v → capped (x * y) ≡ capped (u * v)
capped_times x y u v e f = stops_product cap x y ∙ ap (λ (n : ℕ). min (n * min y cap) cap) e ∙ ap (λ (n : ℕ). min (min u cap * n) cap) f ∙ sym (stops_product cap u v)

twice : (c x : ℕ) → min (min x c) c ≡ min x c
twice c x = omega arith

pub capped_twice : (x : ℕ) → capped (capped x) ≡ capped x
capped_twice x = twice cap x

pub sum_capped : (k : ℕ) (f g : ℕ → ℕ) → ((i : ℕ) → i < k → capped (f i) ≡ capped (g i)) → capped (sum_to k f) ≡ capped (sum_to k g)
sum_capped zero f g h = refl
sum_capped (suc k) f g h = capped_plus (sum_to k f) (f k) (sum_to k g) (g k) (sum_capped k f g (λ i b. h i (omega arith))) (h k (omega arith))

-- one more term
pub one_more : (i : ℕ) (f : ℕ → ℕ) (s r x y : ℕ) → s ≡ capped (sum_to i f) → x * y ≡ f i → r ≡ capped (s + x * y) → r ≡ capped (sum_to (i + 1) f)
one_more i f s r x y a b c =
    let j : i + 1 ≡ suc i = omega arith in
    rw j (by cap s (x * y) a c b)
  where
    by : (c s t : ℕ) → s ≡ min (sum_to i f) c → r ≡ min (s + t) c → t ≡ f i → r ≡ min (sum_to (suc i) f) c
    by c s t h g e = omega (arith, h, g, e)

-- once past 128 bits, a sum stays so
pub stays_past : (k i : ℕ) (f : ℕ → ℕ) (s x y : ℕ) → i < k → s ≡ capped (sum_to i f) → x * y ≡ f i → cap ≡ capped (s + x * y) → cap ≡ capped (sum_to k f)
stays_past k i f s x y l a b c = by cap s (x * y) a c b (sum_rises k (suc i) f (omega arith))
  where
    by : (c s t : ℕ) → s ≡ min (sum_to i f) c → c ≡ min (s + t) c → t ≡ f i → sum_to (suc i) f ≤ sum_to k f → c ≡ min (sum_to k f) c
    by c s t h g e r = omega (arith, h, g, e, r)

-- the places of a row stand before those of the rows after it
pub row_within : (n i p j : ℕ) → p < i → j < n → p * n + j < i * n
row_within n i p j u v =
    let t : suc p ≤ i = omega arith in
    let m : suc p * n ≤ i * n = mul-le-mul_right n t in
    omega (arith, m)

-- a row of the code by a matrix of the code is what they tell, as far as it goes
pub row_capped : (k : ℕ) (v : ℕ → ℕ) (a : ℕ → ℕ → ℕ) (row : List (Option ℕ)) (m : Square) (j : ℕ) → IsRow k v row → IsMatrix k a m → j < k
    → capped (row_by m.size (place row) (entry m) j) ≡ capped (row_by k v a j)
row_capped k v a row m j r n b =
    ap (λ s. capped (row_by s (place row) (entry m) j)) n.size
    ∙ sum_capped k (λ i. place row i * entry m i j) (λ i. v i * a i j) (λ i c. capped_times (place row i) (entry m i j) (v i) (a i j) (once (place row i) (v i) (r.places i c)) (once (entry m i j) (a i j) (n.entries i j c b)))
  where
    once : (x y : ℕ) → x ≡ capped y → capped x ≡ capped y
    once x y e = ap capped e ∙ capped_twice y

pub slice_place : (xs : List (Option ℕ)) (start n l : ℕ) → l < n → start + n ≤ length xs → place (take (start + n - start) (drop start xs)) l ≡ place xs (start + l)
slice_place xs start n l h k =
    let e : start + n - start ≡ n = omega arith in
    rw e (ap value_of (get_or-take n (drop start xs) l None h ∙ get_or-drop start xs l None))

-- the places of the first i of a row that aren't 0
pub record NeededTo (row : List (Option ℕ)) (i : ℕ) (places : List ℕ) : Type 0 where
  pub within : (k : ℕ) → k < length places → get_or places k 0 < i
  pub sums : (f : ℕ → ℕ) → ((j : ℕ) → place row j ≡ 0 → f j ≡ 0) → sum_to (length places) (λ k. f (get_or places k 0)) ≡ sum_to i f

pub needed_all : (row : List (Option ℕ)) (i : ℕ) (places : List ℕ) → i ≡ length row → NeededTo row i places → AreNeeded row places
needed_all row i places e n =
    let m : NeededTo row (length row) places = subst (λ (k : ℕ). NeededTo row k places) e n in
    record { within = m.within; sums = m.sums }

-- a place where the row is 0
pub not_needed : (row : List (Option ℕ)) (i : ℕ) (places : List ℕ) → place row i ≡ 0 → NeededTo row i places → NeededTo row (i + 1) places
not_needed row i places z n =
    let e : suc i ≡ i + 1 = omega arith in
    subst (λ (k : ℕ). NeededTo row k places) e
    (record {
      within = λ k h. let w = n.within k h in omega (arith, w);
      sums = λ f g. let s = n.sums f g in let o = g i z in omega (arith, s, o);
    })

-- one where it isn't
pub one_needed : (row : List (Option ℕ)) (i : ℕ) (places more : List ℕ) → more ≡ places ++ i ∷ [] → NeededTo row i places → NeededTo row (i + 1) more
one_needed row i places more is n =
    let e : suc i ≡ i + 1 = omega arith in
    rw is (subst (λ (k : ℕ). NeededTo row k (places ++ i ∷ [])) e (record {
      within = λ k h. by k (nat_lt k (length places)) refl h;
      sums = λ f g.
          ap (λ (k : ℕ). sum_to k (λ k. f (get_or (places ++ i ∷ []) k 0))) count
          ∙ both (sum_to (length places) (λ k. f (get_or (places ++ i ∷ []) k 0))) (sum_to i f) (f (get_or (places ++ i ∷ []) (length places) 0)) (f i)
          (sum_same (length places) (λ k. f (get_or (places ++ i ∷ []) k 0)) (λ k. f (get_or places k 0)) (λ k l. ap f (get_or_append_left places (i ∷ []) 0 k l)) ∙ n.sums f g)
          (ap f (get_or_at places i [] 0 (length places) refl));
    }))
  where
    count : length (places ++ i ∷ []) ≡ suc (length places)
    count = length-append places (i ∷ []) ∙ (omega arith)

    both : (a b c d : ℕ) → a ≡ b → c ≡ d → a + c ≡ b + d
    both a b c d e f = omega (arith, e, f)

    by : (k : ℕ) (b : Bool) → nat_lt k (length places) ≡ b → k < length (places ++ i ∷ []) → get_or (places ++ i ∷ []) k 0 < suc i
    by k true e h =
        let l : k < length places = grind (arith, nat_tests) in
        let w = n.within k l in
        rw (get_or_append_left places (i ∷ []) 0 k l) (omega (arith, w))
    by k false e h =
        let l : length places ≤ k = grind (arith, nat_tests) in
        let c = count in
        let q : length places ≡ k = omega (arith, h, l, c) in
        rw (get_or_at places i [] 0 k q) (omega arith)

-- the first i rows of a matrix, each times the matrix b
pub record RowsTo (a : Square) (i : ℕ) (b : Square) (new : List (Option ℕ)) : Type 0 where
  pub len : length new ≡ i * a.size
  pub cells : (p j : ℕ) → p < i → j < a.size → place new (p * a.size + j) ≡ capped (row_by a.size (entry a p) (entry b) j)

pub next_row : (n i : ℕ) (es : List (Option ℕ)) (b : Square) (old new : List (Option ℕ)) → n ≡ b.size → i < n → length es ≡ n * n
    → RowsTo (record { size = n; entries = es }) i b old → AddsRow (take (i * n + n - i * n) (drop (i * n) es)) b old new → RowsTo (record { size = n; entries = es }) (i + 1) b new
next_row n i es b old new s h w r a = record {
  len = let e = a.len in let f = r.len in omega arith;
  cells = λ p j u v. by p j v (nat_lt p i) refl u;
}
  where
    whole : i * n + n ≤ length es
    whole =
        let t : suc i ≤ n = omega arith in
        let m : suc i * n ≤ n * n = mul-le-mul_right n t in omega (arith, m)

    by : (p j : ℕ) → j < n → (c : Bool) → nat_lt p i ≡ c → p < i + 1 → place new (p * n + j) ≡ capped (row_by n (λ l. place es (p * n + l)) (entry b) j)
    by p j v true e u =
        let l : p < i = grind (arith, nat_tests) in
        let f : p * n + j < i * n = row_within n i p j l v in
        let g = r.len in
        a.before (p * n + j) (omega arith) ∙ r.cells p j l v
    by p j v false e u =
        let l : i ≤ p = grind (arith, nat_tests) in
        let q : p ≡ i = omega arith in
        let g = r.len in
        rw q ((let o : i * n + j ≡ length old + j = omega arith in ap (place new) o) ∙ a.cells j (let x = s in omega arith) ∙ ap capped (same_row j))
      where
        same_row : (j : ℕ) → row_by b.size (place (take (i * n + n - i * n) (drop (i * n) es))) (entry b) j ≡ row_by n (λ l. place es (i * n + l)) (entry b) j
        same_row j = ap (λ (m : ℕ). row_by m (place (take (i * n + n - i * n) (drop (i * n) es))) (entry b) j) (sym s) ∙ (sum_same n (λ l. place (take (i * n + n - i * n) (drop (i * n) es)) l * entry b l j) (λ l. place es (i * n + l) * entry b l j) (λ l m. ap (λ (x : ℕ). x * entry b l j) (slice_place es (i * n) n l m whole)))

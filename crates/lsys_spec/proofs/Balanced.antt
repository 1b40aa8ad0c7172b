-- In a balanced list each bracket has its mate.
use Rattle.std.proofs.Common.{◌≡◌, ℕ, zero, suc, ◌+◌, ◌<◌, true, Option, Some, List, [], ◌∷◌, drop, refl, ap, ◌∙◌, arith}
use Rattle.std.specs.Prelude.{option_map, slice_get}
use Rattle.std.proofs.lemmas.Bool.{eqb-true}
use Rattle.lsys_spec.specs.Levels.{LevelSymbol, Push, Pop, Module, lineage, close_of, AreMates, IsLevel, level_balanced}

-- more branches are open than those that are counted
closes_later : (x : List LevelSymbol) (n m : ℕ) → n < m → level_balanced m x ≡ true → (q : ℕ) × (close_of n x ≡ Some q)
closes_later [] n m h b = let z : m ≡ 0 = eqb-true m 0 b in absurd (omega (arith, h, z))
closes_later (Module l k ∷ x) n m h b = let r = closes_later x n m h b in (r.0 + 1, ap (option_map (λ q. q + 1)) r.1)
closes_later (Push l ∷ x) n m h b = let r = closes_later x (suc n) (suc m) (omega (arith, h)) b in (r.0 + 1, ap (option_map (λ q. q + 1)) r.1)
closes_later (Pop l ∷ x) n zero h b = absurd (omega (arith, h))
closes_later (Pop l ∷ x) zero (suc m) h b = (0, refl)
closes_later (Pop l ∷ x) (suc n) (suc m) h b = let r = closes_later x n m (omega (arith, h)) b in (r.0 + 1, ap (option_map (λ q. q + 1)) r.1)

after_open : (x : List LevelSymbol) (n p : ℕ) (l : List ℕ) → level_balanced n x ≡ true → slice_get x p ≡ Some (Push l) → (q : ℕ) × (close_of 0 (drop (suc p) x) ≡ Some q)
after_open [] n p l b h = cc
after_open (Push k ∷ x) n zero l b h = closes_later x 0 (suc n) (omega arith) b
after_open (Pop k ∷ x) n zero l b h = cc
after_open (Module k m ∷ x) n zero l b h = cc
after_open (Push k ∷ x) n (suc p) l b h = after_open x (suc n) p l b h
after_open (Pop k ∷ x) zero (suc p) l b h = cc
after_open (Pop k ∷ x) (suc n) (suc p) l b h = after_open x n p l b h
after_open (Module k m ∷ x) n (suc p) l b h = after_open x n p l b h

-- the bracket at q ends a branch of x, or one of the n that were open before
pub data Ends (x : List LevelSymbol) (n q : ℕ) : Type 0 where
  inside : (p d : ℕ) → (l : List ℕ) → slice_get x p ≡ Some (Push l) → close_of 0 (drop (suc p) x) ≡ Some d → suc p + d ≡ q → Ends x n q
  outside : (k : ℕ) → k < n → close_of k x ≡ Some q → Ends x n q

after_rule : (o : Option ℕ) (q : ℕ) → o ≡ Some q → option_map (λ q. q + 1) o ≡ Some (suc q)
after_rule o q h = let e : q + 1 ≡ suc q = omega arith in ap (option_map (λ q. q + 1)) h ∙ ap (λ q. Some q) e

after : (s : LevelSymbol) (x : List LevelSymbol) (n m q : ℕ) → ((k : ℕ) → k < n → close_of k x ≡ Some q → Ends (s ∷ x) m (suc q)) → Ends x n q → Ends (s ∷ x) m (suc q)
after s x n m q f (inside p d l h c e) = inside (suc p) d l h c (omega (arith, e))
after s x n m q f (outside k h c) = f k h c

ends : (x : List LevelSymbol) (n q : ℕ) (l : List ℕ) → level_balanced n x ≡ true → slice_get x q ≡ Some (Pop l) → Ends x n q
ends [] n q l b h = cc
ends (Push k ∷ x) n zero l b h = cc
ends (Module k m ∷ x) n zero l b h = cc
ends (Pop k ∷ x) zero q l b h = cc
ends (Pop k ∷ x) (suc n) zero l b h = outside 0 (omega arith) refl
ends (Module k m ∷ x) n (suc q) l b h = after (Module k m) x n n q (λ i j c. outside i j (after_rule (close_of i x) q c)) (ends x n q l b h)
ends (Pop k ∷ x) (suc n) (suc q) l b h = after (Pop k) x n (suc n) q (λ i j c. outside (suc i) (omega (arith, j)) (after_rule (close_of i x) q c)) (ends x n q l b h)
ends (Push k ∷ x) n (suc q) l b h = after (Push k) x (suc n) n q (λ i j c. to i j c) (ends x (suc n) q l b h)
  where
    to : (i : ℕ) → i < suc n → close_of i x ≡ Some q → Ends (Push k ∷ x) n (suc q)
    to zero j c = inside 0 q k refl c (omega arith)
    to (suc i) j c = outside i (omega (arith, j)) (after_rule (close_of (suc i) x) q c)

mates : (x : List LevelSymbol) (p d q : ℕ) (l : List ℕ) → slice_get x p ≡ Some (Push l) → close_of 0 (drop (suc p) x) ≡ Some d → suc p + d ≡ q → AreMates x p q
mates x p d q l h c e =
    let at : p + 1 ≡ suc p = omega arith in
    let there : p + 1 + d ≡ q = omega (arith, e) in
    record {
      opens = (l, h);
      closes = ap (λ n. option_map (λ m. p + 1 + m) (close_of 0 (drop n x))) at ∙ ap (option_map (λ m. p + 1 + m)) c ∙ ap (λ q. Some q) there;
    }

pub is_level : (x : List LevelSymbol) → level_balanced 0 x ≡ true
    → ((p q : ℕ) (s t : LevelSymbol) → slice_get x p ≡ Some s → slice_get x q ≡ Some t → lineage s ≡ lineage t → p ≡ q) → IsLevel x
is_level x b a = record {
  apart = a;
  opens = λ p l h. let r = after_open x 0 p l b h in (suc p + r.0, omega arith, mates x p r.0 (suc p + r.0) l h r.1 refl);
  closes = λ q l h. of q (ends x 0 q l b h);
}
  where
    of : (q : ℕ) → Ends x 0 q → (p : ℕ) × (p < q) × AreMates x p q
    of q (inside p d l h c e) = (p, omega (arith, e), mates x p d q l h c e)
    of q (outside k h c) = absurd (omega (arith, h))

-- What a cut leaves: it is balanced, and it is the symbols that no cut cuts off.
use Rattle.std.proofs.Common.{◌≡◌, ◌≤◌, ℕ, zero, suc, ◌+◌, ◌-◌, Bool, true, false, ◌&&◌, ◌||◌, Option, Some, None, List, [], ◌∷◌, take, drop, refl, ap, sym, ◌∙◌, arith, eq-eqb}
use Rattle.std.specs.Prelude.{map}
use Rattle.std.proofs.lemmas.Bool.{eqb-true}
use Rattle.lsys_spec.specs.Levels.{LevelSymbol, Push, Pop, Module, level_balanced}
use Rattle.lsys_spec.specs.Cuts.{Raw, Plain, Cut, raw_balanced, cut_on, cut, never_closes, CutsOff, IsCutOff, is_percent, is_cut_off, kept}
use Rattle.lsys_spec.proofs.Tests.{or_later}

abbrev open_in : Option ℕ → ℕ
open_in None = 0
open_in (Some n) = n

-- b brackets are open: some of them in what is cut off
pub cut_balanced : (x : List Raw) (o : Option ℕ) (m b : ℕ) → m + open_in o ≡ b → raw_balanced b x ≡ true → level_balanced m (cut_on o x) ≡ true
cut_balanced [] None m b e h = let z : b ≡ 0 = eqb-true b 0 h in eq-eqb m 0 (omega (arith, z, e))
cut_balanced [] (Some n) m b e h = let z : b ≡ 0 = eqb-true b 0 h in eq-eqb m 0 (omega (arith, z, e))
cut_balanced (Cut l ∷ x) None m b e h = cut_balanced x (Some 0) m b e h
cut_balanced (Cut l ∷ x) (Some n) m b e h = cut_balanced x (Some n) m b e h
cut_balanced (Plain (Module l k) ∷ x) None m b e h = cut_balanced x None m b e h
cut_balanced (Plain (Module l k) ∷ x) (Some n) m b e h = cut_balanced x (Some n) m b e h
cut_balanced (Plain (Push l) ∷ x) None m b e h = cut_balanced x None (suc m) (suc b) (omega (arith, e)) h
cut_balanced (Plain (Push l) ∷ x) (Some n) m b e h = cut_balanced x (Some (suc n)) m (suc b) (omega (arith, e)) h
cut_balanced (Plain (Pop l) ∷ x) o m zero e h = cc
cut_balanced (Plain (Pop l) ∷ x) None zero (suc b) e h = absurd (omega (arith, e))
cut_balanced (Plain (Pop l) ∷ x) None (suc m) (suc b) e h = cut_balanced x None m b (omega (arith, e)) h
cut_balanced (Plain (Pop l) ∷ x) (Some zero) zero (suc b) e h = absurd (omega (arith, e))
cut_balanced (Plain (Pop l) ∷ x) (Some zero) (suc m) (suc b) e h = cut_balanced x None m b (omega (arith, e)) h
cut_balanced (Plain (Pop l) ∷ x) (Some (suc n)) m (suc b) e h = cut_balanced x (Some n) m b (omega (arith, e)) h

-- where nothing is cut off, nothing changes
pub cut_plain : (y : List LevelSymbol) → cut (map Plain y) ≡ y
cut_plain [] = refl
cut_plain (s ∷ y) = ap (λ r. s ∷ r) (cut_plain y)

-- more open branches close none
never_closes_more : (x : List Raw) (n m : ℕ) → n ≤ m → never_closes n x ≡ true → never_closes m x ≡ true
never_closes_more [] n m i h = refl
never_closes_more (Cut l ∷ x) n m i h = never_closes_more x n m i h
never_closes_more (Plain (Module l k) ∷ x) n m i h = never_closes_more x n m i h
never_closes_more (Plain (Push l) ∷ x) n m i h = never_closes_more x (suc n) (suc m) (omega (arith, i)) h
never_closes_more (Plain (Pop l) ∷ x) zero m i h = cc
never_closes_more (Plain (Pop l) ∷ x) (suc n) zero i h = absurd (omega (arith, i))
never_closes_more (Plain (Pop l) ∷ x) (suc n) (suc m) i h = never_closes_more x n m (omega (arith, i)) h

-- what the cut that stands before x, with that many open branches since then, cuts off of x
abbrev off_before : Option ℕ → List Raw → ℕ → Bool
off_before None x p = false
off_before (Some n) x p = never_closes n (take (suc p) x)

abbrev off : Option ℕ → List Raw → ℕ → Bool
off o x p = off_before o x p || is_cut_off x p

kept_same : (f g : ℕ → Bool) (x : List Raw) → ((p : ℕ) → f p ≡ g p) → kept f x ≡ kept g x
kept_same f g [] h = refl
kept_same f g (Cut l ∷ x) h = kept_same (λ p. f (suc p)) (λ p. g (suc p)) x (λ p. h (suc p))
kept_same f g (Plain s ∷ x) h = rw (h 0, kept_same (λ p. f (suc p)) (λ p. g (suc p)) x (λ p. h (suc p))) refl

either_way : (a b c : Bool) → (b ≡ true → a ≡ true) → a || c ≡ a || (b || c)
either_way true b c h = refl
either_way false false c h = refl
either_way false true c h = let e : false ≡ true = h refl in cc

pub cut_by_places : (x : List Raw) (o : Option ℕ) → kept (off o x) x ≡ cut_on o x
cut_by_places [] None = refl
cut_by_places [] (Some n) = refl
cut_by_places (Cut l ∷ x) None = cut_by_places x (Some 0)
cut_by_places (Cut l ∷ x) (Some n) =
    kept_same _ (off (Some n) x) x (λ p. sym (either_way (never_closes n (take (suc p) x)) (never_closes 0 (take (suc p) x)) (is_cut_off x p)
    (never_closes_more (take (suc p) x) 0 n (omega arith)))) ∙ cut_by_places x (Some n)
cut_by_places (Plain (Module l k) ∷ x) None = ap (λ r. Module l k ∷ r) (cut_by_places x None)
cut_by_places (Plain (Push l) ∷ x) None = ap (λ r. Push l ∷ r) (cut_by_places x None)
cut_by_places (Plain (Pop l) ∷ x) None = ap (λ r. Pop l ∷ r) (cut_by_places x None)
cut_by_places (Plain (Module l k) ∷ x) (Some n) = cut_by_places x (Some n)
cut_by_places (Plain (Push l) ∷ x) (Some n) = cut_by_places x (Some (suc n))
cut_by_places (Plain (Pop l) ∷ x) (Some zero) = ap (λ r. Pop l ∷ r) (cut_by_places x None)
cut_by_places (Plain (Pop l) ∷ x) (Some (suc n)) = cut_by_places x (Some n)

-- the test and the relation

by_first : (a b c : Bool) → a ≡ true → b ≡ true → (a && b) || c ≡ true
by_first a b c e i = rw (e, i) refl

pub tested : (x : List Raw) (q p : ℕ) → CutsOff x q p → is_cut_off x p ≡ true
tested [] q p h = let e = h.there.1 in cc
tested (r ∷ x) zero zero h = let e : r ≡ Cut h.there.0 = let i = h.there.1 in cc in ap is_percent e
tested (r ∷ x) (suc q) zero h = absurd (omega (arith, h.reaches))
tested (r ∷ x) zero (suc p) h =
    let e : r ≡ Cut h.there.0 = let i = h.there.1 in cc in
    let n : suc p - 0 ≡ suc p = omega arith in
    by_first (is_percent r) (never_closes 0 (take (suc p) x)) (is_cut_off x p) (ap is_percent e) (ap (λ n. never_closes 0 (take n x)) (sym n) ∙ h.stays)
tested (r ∷ x) (suc q) (suc p) h =
    let n : p - q ≡ suc p - suc q = omega arith in
    or_later (is_percent r && never_closes 0 (take (suc p) x)) (is_cut_off x p)
    (tested x q p (record { there = h.there; reaches = omega (arith, h.reaches); stays = ap (λ n. never_closes 0 (take n (drop (suc q) x))) n ∙ h.stays }))

after : (r : Raw) (x : List Raw) (p : ℕ) → IsCutOff x p → IsCutOff (r ∷ x) (suc p)
after r x p c =
    let n : suc p - suc c.0 ≡ p - c.0 = omega arith in
    (suc c.0, record { there = c.1.there; reaches = omega (arith, c.1.reaches); stays = ap (λ n. never_closes 0 (take n (drop (suc c.0) x))) n ∙ c.1.stays })

pub found : (x : List Raw) (p : ℕ) → is_cut_off x p ≡ true → IsCutOff x p
found [] p h = cc
found (Cut l ∷ x) zero h = (0, record { there = (l, refl); reaches = omega arith; stays = refl })
found (Plain s ∷ x) zero h = cc
found (Plain s ∷ x) (suc p) h = after (Plain s) x p (found x p h)
found (Cut l ∷ x) (suc p) h = of (never_closes 0 (take (suc p) x)) refl h (found x p)
  where
    of : (b : Bool) → never_closes 0 (take (suc p) x) ≡ b → b || is_cut_off x p ≡ true → (is_cut_off x p ≡ true → IsCutOff x p) → IsCutOff (Cut l ∷ x) (suc p)
    of true e i f =
        let n : suc p - 0 ≡ suc p = omega arith in
        (0, record { there = (l, refl); reaches = omega arith; stays = ap (λ n. never_closes 0 (take n x)) n ∙ e })
    of false e i f = after (Cut l) x p (f i)

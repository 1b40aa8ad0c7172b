-- The box of a picture is the least around its points.
use Rattle.std.proofs.Common.{◌≡◌, suc, List, [], ◌∷◌, map, fold, refl, sym, subst, arith, ◌⊎◌, inl, inr, ℤ}
use Rattle.std.specs.Prelude.{pos, ◌+ℤ◌, ◌-ℤ◌}
use Rattle.std.specs.Int.{int_min, int_max}
use Rattle.std.specs.Int.Signed.{◌≤ℤ◌}
use Rattle.std.specs.List.{All, Contains}
use Rattle.std.proofs.lemmas.Int.{ints, fold-int_min_bounds, fold-int_min_reached, fold-int_max_bounds, fold-int_max_reached}
use Rattle.lsys_spec.specs.Systems.{Each}
use Rattle.lsys_spec.specs.Lattices.{Lattice, projected}
use Rattle.lsys_spec.specs.Pictures.{Segment, segment_ends, framed, origin, box}
use Rattle.lsys_laws.specs.Boxes.{left_side, right_side, top_side, bottom_side, IsInside, IsLeastBox}

each_of : {A : Type 0} (P : A → Type 0) (xs : List A) → All P xs → Each P xs
each_of P [] h = tt
each_of P (x ∷ xs) h = (h 0 x (omega arith), each_of P xs (λ k d l. h (suc k) d (omega (arith, l))))

contains_first : {A : Type 0} (x r : A) (xs : List A) → r ≡ x → Contains (x ∷ xs) r
contains_first x r xs e = (0, omega arith, sym e)

contains_later : {A : Type 0} (x r : A) (xs : List A) → Contains xs r → Contains (x ∷ xs) r
contains_later x r xs h = (suc h.0, omega (arith, h.1), h.2)

one_of : {A : Type 0} (x r : A) (xs : List A) → (r ≡ x) ⊎ Contains xs r → Contains (x ∷ xs) r
one_of x r xs (inl e) = contains_first x r xs e
one_of x r xs (inr h) = contains_later x r xs h

each_below : (f : ℤ × ℤ → ℤ) (r : ℤ) (ps : List (ℤ × ℤ)) → Each (λ z. r ≤ℤ z) (map f ps) → Each (λ p. r ≤ℤ f p) ps
each_below f r [] h = tt
each_below f r (p ∷ ps) h = (h.0, each_below f r ps h.1)

each_above : (f : ℤ × ℤ → ℤ) (r : ℤ) (ps : List (ℤ × ℤ)) → Each (λ z. z ≤ℤ r) (map f ps) → Each (λ p. f p ≤ℤ r) ps
each_above f r [] h = tt
each_above f r (p ∷ ps) h = (h.0, each_above f r ps h.1)

least_below : (f : ℤ × ℤ → ℤ) (p : ℤ × ℤ) (ps : List (ℤ × ℤ)) → Each (λ q. fold int_min (f p) (map f ps) ≤ℤ f q) (p ∷ ps)
least_below f p ps =
    let r = fold int_min (f p) (map f ps) in
    let b = fold-int_min_bounds (f p) (map f ps) r refl in (b.0, each_below f r ps (each_of (λ z. r ≤ℤ z) (map f ps) b.1))

greatest_above : (f : ℤ × ℤ → ℤ) (p : ℤ × ℤ) (ps : List (ℤ × ℤ)) → Each (λ q. f q ≤ℤ fold int_max (f p) (map f ps)) (p ∷ ps)
greatest_above f p ps =
    let r = fold int_max (f p) (map f ps) in
    let b = fold-int_max_bounds (f p) (map f ps) r refl in (b.0, each_above f r ps (each_of (λ z. z ≤ℤ r) (map f ps) b.1))

-- a margin that is taken off again
off_low : (a : ℤ) → a -ℤ pos 10 +ℤ pos 10 ≡ a
off_low a = omega (arith, ints)

off_high : (a b : ℤ) → a -ℤ pos 10 +ℤ (b -ℤ a +ℤ pos 20) -ℤ pos 10 ≡ b
off_high a b = omega (arith, ints)

module _ (p : ℤ × ℤ) (ps : List (ℤ × ℤ)) where
  left_is : left_side (framed p ps) ≡ fold int_min p.0 (map (λ q. q.0) ps)
  left_is = off_low (fold int_min p.0 (map (λ q. q.0) ps))

  right_is : right_side (framed p ps) ≡ fold int_max p.0 (map (λ q. q.0) ps)
  right_is = off_high (fold int_min p.0 (map (λ q. q.0) ps)) (fold int_max p.0 (map (λ q. q.0) ps))

  top_is : top_side (framed p ps) ≡ fold int_min p.1 (map (λ q. q.1) ps)
  top_is = off_low (fold int_min p.1 (map (λ q. q.1) ps))

  bottom_is : bottom_side (framed p ps) ≡ fold int_max p.1 (map (λ q. q.1) ps)
  bottom_is = off_high (fold int_min p.1 (map (λ q. q.1) ps)) (fold int_max p.1 (map (λ q. q.1) ps))

  inside : (qs : List (ℤ × ℤ)) → Each (λ q. fold int_min p.0 (map (λ q. q.0) ps) ≤ℤ q.0) qs → Each (λ q. q.0 ≤ℤ fold int_max p.0 (map (λ q. q.0) ps)) qs
      → Each (λ q. fold int_min p.1 (map (λ q. q.1) ps) ≤ℤ q.1) qs → Each (λ q. q.1 ≤ℤ fold int_max p.1 (map (λ q. q.1) ps)) qs → Each (IsInside (framed p ps)) qs
  inside [] a b c d = tt
  inside (q ∷ qs) a b c d = (
    record {
      left = subst (λ z. z ≤ℤ q.0) (sym left_is) a.0;
      right = subst (λ z. q.0 ≤ℤ z) (sym right_is) b.0;
      top = subst (λ z. z ≤ℤ q.1) (sym top_is) c.0;
      bottom = subst (λ z. q.1 ≤ℤ z) (sym bottom_is) d.0;
    },
    inside qs a.1 b.1 c.1 d.1,
  )

  framed_least : IsLeastBox (p ∷ ps) (framed p ps)
  framed_least = record {
    holds = inside (p ∷ ps) (least_below (λ q. q.0) p ps) (greatest_above (λ q. q.0) p ps) (least_below (λ q. q.1) p ps) (greatest_above (λ q. q.1) p ps);
    left = subst (Contains (map (λ q. q.0) (p ∷ ps))) (sym left_is) (one_of p.0 _ _ (fold-int_min_reached p.0 (map (λ q. q.0) ps) _ refl));
    right = subst (Contains (map (λ q. q.0) (p ∷ ps))) (sym right_is) (one_of p.0 _ _ (fold-int_max_reached p.0 (map (λ q. q.0) ps) _ refl));
    top = subst (Contains (map (λ q. q.1) (p ∷ ps))) (sym top_is) (one_of p.1 _ _ (fold-int_min_reached p.1 (map (λ q. q.1) ps) _ refl));
    bottom = subst (Contains (map (λ q. q.1) (p ∷ ps))) (sym bottom_is) (one_of p.1 _ _ (fold-int_max_reached p.1 (map (λ q. q.1) ps) _ refl));
  }

pub box_least : (l : Lattice) (gs : List Segment) → IsLeastBox (projected l origin ∷ segment_ends l gs) (box l gs)
box_least l gs = framed_least (projected l origin) (segment_ends l gs)

-- The extents of places one after the other, and of places seen from elsewhere.
use Rattle.std.proofs.Common.{◌≡◌, ℕ, zero, suc, ◌+◌, true, List, [], ◌∷◌, ◌++◌, map, length, refl, ap, sym, ◌∙◌, arith, length-append, ◌==◌}
use Rattle.std.proofs.lemmas.Bool.Decides.{nat_tests}
use Rattle.std.specs.Prelude.{ℤ, ◌+ℤ◌, Option, Some, fold}
use Rattle.std.specs.Int.{int_min, int_max}
use Rattle.std.proofs.lemmas.Int.{ints, int_min_is, int_max_is}
use Rattle.std.proofs.lemmas.List.{append-nil, map-append}
use Rattle.std.proofs.lemmas.List.Sums.{fold-append}
use Rattle.lsys_syntax.specs.Strings.{balanced}
use Rattle.lsys_syntax.specs.Strings as S
use Rattle.lsys_spec.specs.Lattices.{Lattice, square, hexagonal, cubic, Vector, vector}
use Rattle.lsys_spec.specs.Pictures.{Act, act}
use Rattle.lsys_spec.proofs.Turns.{same_vector}
use Rattle.lsys_lattice.specs.Rotations.{plus, carried, measures}
use Rattle.lsys_lattice.specs.Extents.{Extents, extents}
use Rattle.lsys_lattice.specs.Effects.{Stand, Walker, walker, stepped, drawn_ends, place_reached, symbol_places, places, first_walker, place_from, effect, drawn, reach}
use Rattle.lsys_lattice.proofs.Moving.{effect-append, effect-branch, told-append, told_anywhere, drawn_from, reached_from}
use Rattle.lsys_lattice.proofs.Fronts.{first_known, place_there}
use Rattle.lsys_lattice.specs.Motions.{Motion, extents_or_none, motion, branched, motion_of_act, both, united, shifted_by, AreSeen, AreUnited, IsJoined}

-- 1. the least and the greatest of lists one after the other

abbrev IsAssociative : (ℤ → ℤ → ℤ) → Type 0
IsAssociative f = (a b c : ℤ) → f (f a b) c ≡ f a (f b c)

fold_out : (f : ℤ → ℤ → ℤ) → IsAssociative f → (a b : ℤ) (xs : List ℤ) → fold f (f a b) xs ≡ f a (fold f b xs)
fold_out f h a b [] = refl
fold_out f h a b (x ∷ xs) = ap (λ (c : ℤ). fold f c xs) (h a b x) ∙ fold_out f h a (f b x) xs

least_associative : IsAssociative int_min
least_associative a b c = omega (arith, ints, int_min_is a b, int_min_is b c, int_min_is (int_min a b) c, int_min_is a (int_min b c))

greatest_associative : IsAssociative int_max
greatest_associative a b c = omega (arith, ints, int_max_is a b, int_max_is b c, int_max_is (int_max a b) c, int_max_is a (int_max b c))

measured-append : (f : ℤ → ℤ → ℤ) → IsAssociative f → (p : Vector → ℤ) (v w : Vector) (vs ws : List Vector)
    → fold f (p v) (map p (vs ++ w ∷ ws)) ≡ f (fold f (p v) (map p vs)) (fold f (p w) (map p ws))
measured-append f h p v w vs ws =
    ap (fold f (p v)) (map-append p vs (w ∷ ws))
    ∙ fold-append f (p v) (map p vs) (p w ∷ map p ws)
    ∙ fold_out f h (fold f (p v) (map p vs)) (p w) (map p ws)

abbrev pub reach_of : Vector → Vector → Extents
reach_of low high = record { low = low; high = high }

pub same_reach : (a a' b b' c c' d d' e e' f f' : ℤ) → a ≡ a' → b ≡ b' → c ≡ c' → d ≡ d' → e ≡ e' → f ≡ f' → reach_of (vector a b c) (vector d e f) ≡ reach_of (vector a' b' c') (vector d' e' f')
same_reach a a' b b' c c' d d' e e' f f' h i j k l m = cc

extents-append : (l : Lattice) (v w : Vector) (vs ws : List Vector) → extents l v (vs ++ w ∷ ws) ≡ both (extents l v vs) (extents l w ws)
extents-append l v w vs ws =
    same_reach _ _ _ _ _ _ _ _ _ _ _ _
    (measured-append int_min least_associative (λ u. (measures l u).x) v w vs ws)
    (measured-append int_min least_associative (λ u. (measures l u).y) v w vs ws)
    (measured-append int_min least_associative (λ u. (measures l u).z) v w vs ws)
    (measured-append int_max greatest_associative (λ u. (measures l u).x) v w vs ws)
    (measured-append int_max greatest_associative (λ u. (measures l u).y) v w vs ws)
    (measured-append int_max greatest_associative (λ u. (measures l u).z) v w vs ws)

pub extents_of-append : (l : Lattice) (vs ws : List Vector) → extents_or_none l (vs ++ ws) ≡ united (extents_or_none l vs) (extents_or_none l ws)
extents_of-append l [] ws = refl
extents_of-append l (v ∷ vs) [] = ap (λ us. Some (extents l v us)) (append-nil vs)
extents_of-append l (v ∷ vs) (w ∷ ws) = ap Some (extents-append l v w vs ws)

-- 2. of places that were shifted

abbrev IsShifted : (ℤ → ℤ → ℤ) → Type 0
IsShifted f = (k a b : ℤ) → f (k +ℤ a) (k +ℤ b) ≡ k +ℤ f a b

least_shifted : IsShifted int_min
least_shifted k a b = omega (arith, ints, int_min_is a b, int_min_is (k +ℤ a) (k +ℤ b))

greatest_shifted : IsShifted int_max
greatest_shifted k a b = omega (arith, ints, int_max_is a b, int_max_is (k +ℤ a) (k +ℤ b))

measured_shifted : (f : ℤ → ℤ → ℤ) → IsShifted f → (p : Vector → ℤ) (g : Vector → Vector) (k : ℤ) → ((w : Vector) → p (g w) ≡ k +ℤ p w) → (a : ℤ) (vs : List Vector)
    → fold f (k +ℤ a) (map p (map g vs)) ≡ k +ℤ fold f a (map p vs)
measured_shifted f h p g k e a [] = refl
measured_shifted f h p g k e a (v ∷ vs) =
    ap (λ (b : ℤ). fold f (f (k +ℤ a) b) (map p (map g vs))) (e v)
    ∙ ap (λ (b : ℤ). fold f b (map p (map g vs))) (h k a (p v))
    ∙ measured_shifted f h p g k e (f a (p v)) vs

ends_shifted : (f : ℤ → ℤ → ℤ) → IsShifted f → (p : Vector → ℤ) (g : Vector → Vector) (k : ℤ) → ((w : Vector) → p (g w) ≡ k +ℤ p w) → (v : Vector) (vs : List Vector)
    → fold f (p (g v)) (map p (map g vs)) ≡ k +ℤ fold f (p v) (map p vs)
ends_shifted f h p g k e v vs = ap (λ (b : ℤ). fold f b (map p (map g vs))) (e v) ∙ measured_shifted f h p g k e (p v) vs

measure_plus : (l : Lattice) (u w : Vector) → measures l (plus u w) ≡ plus (measures l u) (measures l w)
measure_plus square u w = refl
measure_plus hexagonal u w = same_vector _ _ _ _ _ _ refl refl (omega (arith, ints))
measure_plus cubic u w = refl

extents_shifted : (l : Lattice) (u v : Vector) (vs : List Vector) → extents l (plus u v) (map (plus u) vs) ≡ shifted_by l u (extents l v vs)
extents_shifted l u v vs =
    same_reach _ _ _ _ _ _ _ _ _ _ _ _
    (ends_shifted int_min least_shifted (λ w. (measures l w).x) (plus u) (measures l u).x (λ w. ap (λ (q : Vector). q.x) (measure_plus l u w)) v vs)
    (ends_shifted int_min least_shifted (λ w. (measures l w).y) (plus u) (measures l u).y (λ w. ap (λ (q : Vector). q.y) (measure_plus l u w)) v vs)
    (ends_shifted int_min least_shifted (λ w. (measures l w).z) (plus u) (measures l u).z (λ w. ap (λ (q : Vector). q.z) (measure_plus l u w)) v vs)
    (ends_shifted int_max greatest_shifted (λ w. (measures l w).x) (plus u) (measures l u).x (λ w. ap (λ (q : Vector). q.x) (measure_plus l u w)) v vs)
    (ends_shifted int_max greatest_shifted (λ w. (measures l w).y) (plus u) (measures l u).y (λ w. ap (λ (q : Vector). q.y) (measure_plus l u w)) v vs)
    (ends_shifted int_max greatest_shifted (λ w. (measures l w).z) (plus u) (measures l u).z (λ w. ap (λ (q : Vector). q.z) (measure_plus l u w)) v vs)

-- 3. seen from a stand

carried_there : (l : Lattice) (from : Stand) (vs : List Vector) → map (place_from l from) vs ≡ map (plus from.place) (map (carried l from.frame) vs)
carried_there l from [] = refl
carried_there l from (v ∷ vs) = ap (λ us. place_from l from v ∷ us) (carried_there l from vs)

pub seen_there : (l : Lattice) (from : Stand) (vs : List Vector) (after : Option Extents) → AreSeen l from (extents_or_none l vs) after → after ≡ extents_or_none l (map (place_from l from) vs)
seen_there l from [] after h = h
seen_there l from (v ∷ vs) after h =
    h.2
    ∙ ap (λ (e : Extents). Some (shifted_by l from.place e)) (h.1 v vs refl)
    ∙ ap Some (sym (extents_shifted l from.place (carried l from.frame v) (map (carried l from.frame) vs)))
    ∙ ap (λ us. Some (extents l (place_from l from v) us)) (sym (carried_there l from vs))

united_there : (l : Lattice) (from : Stand) (vs ws : List Vector) (whole : Option Extents) → AreUnited l from (extents_or_none l vs) (extents_or_none l ws) whole
    → whole ≡ extents_or_none l (vs ++ map (place_from l from) ws)
united_there l from vs ws whole h =
    h.2 ∙ ap (united (extents_or_none l vs)) (seen_there l from ws h.0 h.1) ∙ sym (extents_of-append l vs (map (place_from l from) ws))

-- 4. motions

abbrev made : ℕ → Stand → Option Extents → Option Extents → Motion
made n h d r = record { symbols = n; effect = h; drawn = d; reached = r }

same_parts : (n n' : ℕ) (h h' : Stand) (d d' r r' : Option Extents) → n ≡ n' → h ≡ h' → d ≡ d' → r ≡ r' → made n h d r ≡ made n' h' d' r'
same_parts n n' h h' d d' r r' a b c e = cc

same_motion : (m n : Motion) → m.symbols ≡ n.symbols → m.effect ≡ n.effect → m.drawn ≡ n.drawn → m.reached ≡ n.reached → m ≡ n
same_motion m n a b c d = same_parts m.symbols n.symbols m.effect n.effect m.drawn n.drawn m.reached n.reached a b c d

pub motions_joined : (l : Lattice) (xs ys : List (S.Symbol ℤ)) (whole : Motion) → balanced 0 xs ≡ true → balanced 0 ys ≡ true
    → IsJoined l (motion l xs) (motion l ys) whole → whole ≡ motion l (xs ++ ys)
motions_joined l xs ys whole b c h =
    same_motion whole (motion l (xs ++ ys))
    (h.symbols ∙ sym (length-append xs ys))
    (h.effect ∙ sym (effect-append l xs ys b c))
    (united_there l (effect l xs) (drawn l xs) (drawn l ys) whole.drawn h.drawn ∙ ap (extents_or_none l) (sym (told-append drawn_ends drawn_from l xs ys b c)))
    (united_there l (effect l xs) (reach l xs) (reach l ys) whole.reached h.reached ∙ ap (extents_or_none l) (sym (told-append place_reached reached_from l xs ys b c)))

pub never : (n : ℕ) → (suc n == 0) ≡ true → ⊥
never n h = grind (arith, nat_tests)

pub balanced-append : (k : ℕ) (xs ys : List (S.Symbol ℤ)) → balanced k xs ≡ true → balanced 0 ys ≡ true → balanced k (xs ++ ys) ≡ true
balanced-append zero [] ys b c = c
balanced-append (suc k) [] ys b c = absurd (never k b)
balanced-append k (S.Module n ps ∷ xs) ys b c = balanced-append k xs ys b c
balanced-append k (S.Push ∷ xs) ys b c = balanced-append (suc k) xs ys b c
balanced-append zero (S.Pop ∷ xs) ys b c = cc
balanced-append (suc k) (S.Pop ∷ xs) ys b c = balanced-append k xs ys b c
balanced-append k (S.Cut ∷ xs) ys b c = balanced-append k xs ys b c

-- 5. a branch

from_there : (l : Lattice) (vs : List Vector) → map (place_from l (first_walker l).here) vs ≡ vs
from_there l [] = refl
from_there l (v ∷ vs) = ap (λ (u : Vector). u ∷ map (place_from l (first_walker l).here) vs) (place_there l v) ∙ ap (λ us. v ∷ us) (from_there l vs)

closed : (told : Act → Stand → List Vector) (l : Lattice) (xs : List (S.Symbol ℤ)) (w : Walker) → places told l (xs ++ S.Pop ∷ []) w ≡ places told l xs w
closed told l [] w = refl
closed told l (x ∷ xs) w = ap (λ vs. symbol_places told x w.here ++ vs) (closed told l xs (stepped l x w))

two_more : (n : ℕ) → suc (n + 1) ≡ n + 2
two_more n = omega arith

pub motion_branched : (l : Lattice) (xs : List (S.Symbol ℤ)) → balanced 0 xs ≡ true → motion l (S.Push ∷ xs ++ S.Pop ∷ []) ≡ branched l (motion l xs)
motion_branched l xs b =
    let start : Stand = (first_walker l).here in
    let ends : drawn l (S.Push ∷ xs ++ S.Pop ∷ []) ≡ drawn l xs =
    closed drawn_ends l xs (walker start (start ∷ [])) ∙ told_anywhere drawn_ends drawn_from l start (start ∷ []) xs (first_known l) b ∙ from_there l (drawn l xs) in
    let all : reach l (S.Push ∷ xs ++ S.Pop ∷ []) ≡ reach l xs =
    closed place_reached l xs (walker start (start ∷ [])) ∙ told_anywhere place_reached reached_from l start (start ∷ []) xs (first_known l) b ∙ from_there l (reach l xs) in
    same_motion (motion l (S.Push ∷ xs ++ S.Pop ∷ [])) (branched l (motion l xs)) (ap suc (length-append xs (S.Pop ∷ [])) ∙ two_more (length xs)) (effect-branch l xs b) (ap (extents_or_none l) ends) (ap (extents_or_none l) all)

pub motion_module : (l : Lattice) (name : S.ModuleName) (ps : List ℤ) → motion l (S.Module name ps ∷ []) ≡ motion_of_act l (act name ps)
motion_module l name ps =
    let start : Stand = (first_walker l).here in
    same_motion (motion l (S.Module name ps ∷ [])) (motion_of_act l (act name ps)) refl refl
    (ap (extents_or_none l) (append-nil (drawn_ends (act name ps) start)))
    (ap (extents_or_none l) (append-nil (place_reached (act name ps) start)))

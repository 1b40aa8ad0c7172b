-- The places that turtles reach lie in the plane of the hexagonal lattice.
use Rattle.std.proofs.Common.{◌≡◌, Bool, true, List, [], ◌∷◌, ◌++◌, refl, ap, ◌∙◌, arith, subst}
use Rattle.std.specs.Prelude.{ℤ, pos, ◌+ℤ◌, ◌*ℤ◌, Contains}
use Rattle.std.specs.List.{list_all}
use Rattle.std.proofs.Common.{int_eq}
use Rattle.std.proofs.lemmas.Int.{ints}
use Rattle.lsys_syntax.specs.Strings as S
use Rattle.lsys_spec.specs.Systems.{Each}
use Rattle.lsys_spec.specs.Lattices.{Lattice, square, hexagonal, cubic, Vector, Frame, frames}
use Rattle.lsys_spec.specs.Pictures.{Act, draws, moves, turns, widens, rests, act, origin}
use Rattle.lsys_lattice.specs.Effects.{Stand, Walker, walker, steps_ahead, done, walked, place_reached, places_reached, stand_from, effect}
use Rattle.lsys_lattice.proofs.Moving.{walked_known, law_of_effects}
use Rattle.lsys_lattice.proofs.Rows.{equal, of_frame}
use Rattle.lsys_lattice.specs.Far.{IsInPlane}

abbrev heads_in_plane : Frame → Bool
heads_in_plane f = int_eq f.heading.z (pos 0)

all_in_plane : list_all heads_in_plane (frames hexagonal) ≡ true
all_in_plane = refl

no_height : (f : Frame) → Contains (frames hexagonal) f → f.heading.z ≡ pos 0
no_height f k = equal f.heading.z (pos 0) (of_frame heads_in_plane (frames hexagonal) f all_in_plane k)

no_multiple : (n : ℤ) → n *ℤ pos 0 ≡ pos 0
no_multiple n = omega (arith, ints)

stays_flat : (n p h : ℤ) → p ≡ pos 0 → h ≡ pos 0 → p +ℤ n *ℤ h ≡ pos 0
stays_flat n p h a b = ap (λ (q : ℤ). q +ℤ n *ℤ h) a ∙ ap (λ (q : ℤ). pos 0 +ℤ n *ℤ q) b ∙ ap (λ (q : ℤ). pos 0 +ℤ q) (no_multiple n)

ahead_in_plane : (l : Lattice) (n : ℤ) (h : Stand) → Contains (frames l) h.frame → IsInPlane l h.place → IsInPlane l (steps_ahead n h)
ahead_in_plane square n h k p = tt
ahead_in_plane hexagonal n h k p = stays_flat n h.place.z h.frame.heading.z p (no_height h.frame k)
ahead_in_plane cubic n h k p = tt

-- a stand from which the way stays in the plane
abbrev Stays : Lattice → Stand → Type 0
Stays l h = Contains (frames l) h.frame × IsInPlane l h.place

done_known : (l : Lattice) (m : S.ModuleName) (ps : List ℤ) (h : Stand) → Contains (frames l) h.frame → Contains (frames l) (done l (act m ps) h).frame
done_known l m ps h k = walked_known l (S.Module m ps ∷ []) h [] k tt

done_in_plane : (l : Lattice) (a : Act) (h : Stand) → Stays l h → IsInPlane l (done l a h).place
done_in_plane l (draws n) h s = ahead_in_plane l n h s.0 s.1
done_in_plane l (moves n) h s = ahead_in_plane l n h s.0 s.1
done_in_plane l (turns turn n) h s = s.1
done_in_plane l (widens w) h s = s.1
done_in_plane l rests h s = s.1

reached_in_plane : (l : Lattice) (a : Act) (h : Stand) (vs : List Vector) → Stays l h → Each (IsInPlane l) vs → Each (IsInPlane l) (place_reached a h ++ vs)
reached_in_plane l (draws n) h vs s e = (ahead_in_plane l n h s.0 s.1, e)
reached_in_plane l (moves n) h vs s e = (ahead_in_plane l n h s.0 s.1, e)
reached_in_plane l (turns turn n) h vs s e = e
reached_in_plane l (widens w) h vs s e = e
reached_in_plane l rests h vs s e = e

pub all_reached_in_plane : (l : Lattice) (xs : List (S.Symbol ℤ)) (here : Stand) (saved : List Stand) → Stays l here → Each (Stays l) saved → Each (IsInPlane l) (places_reached l xs (walker here saved))
all_reached_in_plane l [] here saved s e = tt
all_reached_in_plane l (S.Push ∷ xs) here saved s e = all_reached_in_plane l xs here (here ∷ saved) s (s, e)
all_reached_in_plane l (S.Pop ∷ xs) here [] s e = all_reached_in_plane l xs here [] s tt
all_reached_in_plane l (S.Pop ∷ xs) here (h ∷ hs) s e = all_reached_in_plane l xs h hs e.0 e.1
all_reached_in_plane l (S.Cut ∷ xs) here saved s e = all_reached_in_plane l xs here saved s e
all_reached_in_plane l (S.Module m ps ∷ xs) here saved s e =
    reached_in_plane l (act m ps) here (places_reached l xs (walker (done l (act m ps) here) saved)) s
    (all_reached_in_plane l xs (done l (act m ps) here) saved (done_known l m ps here s.0, done_in_plane l (act m ps) here s) e)

walked_in_plane : (l : Lattice) (xs : List (S.Symbol ℤ)) (here : Stand) (saved : List Stand) → Stays l here → Each (Stays l) saved → IsInPlane l (walked l xs (walker here saved)).here.place
walked_in_plane l [] here saved s e = s.1
walked_in_plane l (S.Push ∷ xs) here saved s e = walked_in_plane l xs here (here ∷ saved) s (s, e)
walked_in_plane l (S.Pop ∷ xs) here [] s e = walked_in_plane l xs here [] s tt
walked_in_plane l (S.Pop ∷ xs) here (h ∷ hs) s e = walked_in_plane l xs h hs e.0 e.1
walked_in_plane l (S.Cut ∷ xs) here saved s e = walked_in_plane l xs here saved s e
walked_in_plane l (S.Module m ps ∷ xs) here saved s e =
    walked_in_plane l xs (done l (act m ps) here) saved (done_known l m ps here s.0, done_in_plane l (act m ps) here s) e

pub led_in_plane : (l : Lattice) (from : Stand) (xs : List (S.Symbol ℤ)) → Contains (frames l) from.frame → IsInPlane l from.place → S.balanced 0 xs ≡ true → IsInPlane l (stand_from l from (effect l xs)).place
led_in_plane l from xs k p b = subst (λ (w : Walker). IsInPlane l w.here.place) (law_of_effects l from [] xs k b) (walked_in_plane l xs from [] (k, p) tt)

pub origin_in_plane : (l : Lattice) → IsInPlane l origin
origin_in_plane square = tt
origin_in_plane hexagonal = refl
origin_in_plane cubic = tt

-- The motion of a whole.
use Rattle.std.proofs.Common.{◌≡◌, true, List, [], ◌∷◌, ◌++◌, refl, ap, sym, ◌∙◌, append_assoc}
use Rattle.std.specs.Prelude.{ℤ, Option, Some, None, Ok, Contains}
use Rattle.std.proofs.lemmas.List.{append-nil}
use Rattle.lsys_syntax.specs.Strings.{balanced}
use Rattle.lsys_syntax.specs.Strings as S
use Rattle.lsys_spec.specs.Lattices.{Lattice, frames}
use Rattle.lsys_lattice.specs.Extents.{Extents, extents}
use Rattle.lsys_lattice.specs.Effects.{Stand, first_walker, drawn}
use Rattle.lsys_lattice.specs.Bounds.{bounds_of}
use Rattle.lsys_spec.specs.Pictures.{Segment, origin, segments_of}
use Rattle.lsys_lattice.proofs.Freely.{drawn_freely}
use Rattle.lsys_lattice.specs.Motions.{Motion, motion, at_rest, carried_extents, seen_from, AreSeen, IsJoined, united, joined_motions}
use Rattle.lsys_lattice.proofs.Fronts.{effect_known}
use Rattle.lsys_lattice.proofs.Joining.{motions_joined, balanced-append, extents_of-append}
use Rattle.lsys_lattice.proofs.Rows.{are_carried}

pub are_seen : (l : Lattice) (from : Stand) → Contains (frames l) from.frame → (o : Option Extents) → AreSeen l from o (seen_from l from o)
are_seen l from k None = refl
are_seen l from k (Some e) = (carried_extents l from.frame e, are_carried l from.frame k e, refl)

is_joined : (l : Lattice) (m n : Motion) → Contains (frames l) m.effect.frame → IsJoined l m n (joined_motions l m n)
is_joined l m n k = record {
  symbols = refl;
  effect = refl;
  drawn = (seen_from l m.effect n.drawn, are_seen l m.effect k n.drawn, refl);
  reached = (seen_from l m.effect n.reached, are_seen l m.effect k n.reached, refl);
}

pub whole_motion : (l : Lattice) (xs ys : List (S.Symbol ℤ)) → balanced 0 xs ≡ true → balanced 0 ys ≡ true → motion l (xs ++ ys) ≡ joined_motions l (motion l xs) (motion l ys)
whole_motion l xs ys b c =
    sym (motions_joined l xs ys (joined_motions l (motion l xs) (motion l ys)) b c (is_joined l (motion l xs) (motion l ys) (effect_known l xs)))

pub made_motion : (l : Lattice) (xs ys : List (S.Symbol ℤ)) (whole : Motion) → balanced 0 xs ≡ true → balanced 0 ys ≡ true → IsJoined l (motion l xs) (motion l ys) whole
    → whole ≡ joined_motions l (motion l xs) (motion l ys)
made_motion l xs ys whole b c h = motions_joined l xs ys whole b c h ∙ whole_motion l xs ys b c

pub either_way : (l : Lattice) (xs ys zs : List (S.Symbol ℤ)) → balanced 0 xs ≡ true → balanced 0 ys ≡ true → balanced 0 zs ≡ true
    → joined_motions l (joined_motions l (motion l xs) (motion l ys)) (motion l zs) ≡ joined_motions l (motion l xs) (joined_motions l (motion l ys) (motion l zs))
either_way l xs ys zs a b c =
    ap (λ (m : Motion). joined_motions l m (motion l zs)) (sym (whole_motion l xs ys a b))
    ∙ sym (whole_motion l (xs ++ ys) zs (balanced-append 0 xs ys a b) c)
    ∙ ap (motion l) (append_assoc xs ys zs)
    ∙ whole_motion l xs (ys ++ zs) a (balanced-append 0 ys zs b c)
    ∙ ap (joined_motions l (motion l xs)) (whole_motion l ys zs b c)

pub rest_before : (l : Lattice) (xs : List (S.Symbol ℤ)) → balanced 0 xs ≡ true → joined_motions l (at_rest l 0) (motion l xs) ≡ motion l xs
rest_before l xs b = sym (whole_motion l [] xs refl b)

pub rest_after : (l : Lattice) (xs : List (S.Symbol ℤ)) → balanced 0 xs ≡ true → joined_motions l (motion l xs) (at_rest l 0) ≡ motion l xs
rest_after l xs b = sym (whole_motion l xs [] b refl) ∙ ap (motion l) (append-nil xs)

pub bounds_told : (l : Lattice) (xs : List (S.Symbol ℤ)) (gs : List Segment) → segments_of l xs ≡ Ok gs → Some (bounds_of l gs) ≡ united (Some (extents l origin [])) (motion l xs).drawn
bounds_told l xs gs h =
    ap (λ vs. Some (extents l origin vs)) (drawn_freely l 0 (first_walker l) xs gs h) ∙ extents_of-append l (origin ∷ []) (drawn l xs)

-- Stands and walkers that are seen from stands.
use Rattle.std.proofs.Common.{◌≡◌, ℕ, Option, Some, None, List, [], ◌∷◌, ◌++◌, map, refl, ap, sym, ◌∙◌, arith}
use Rattle.std.specs.Prelude.{ℤ, pos, Contains}
use Rattle.std.proofs.lemmas.Int.{ints}
use Rattle.lsys_syntax.specs.Strings as S
use Rattle.lsys_spec.specs.Systems.{Each}
use Rattle.lsys_spec.specs.Lattices.{Lattice, Vector, Frame, frames}
use Rattle.lsys_spec.specs.Pictures.{act, origin}
use Rattle.lsys_spec.proofs.Turns.{same_vector}
use Rattle.lsys_lattice.specs.Rotations.{plus, scaled, carried}
use Rattle.lsys_lattice.specs.Effects.{Stand, Walker, walker, done, stepped, first_walker, width_after, stand_from, walker_from}
use Rattle.lsys_lattice.proofs.Carrying.{carried-plus, carried-scaled, carried-followed, followed-followed, followed-start}
use Rattle.lsys_lattice.proofs.Turning.{followed-known}
use Rattle.lsys_lattice.proofs.Moving.{walked_from}
use Rattle.lsys_motion.specs.Keepers.{OpenMark, through, up, out_of, outward}

-- 1. one stand

abbrev stand : Vector → Frame → Option ℕ → Stand
stand p f w = record { place = p; frame = f; width = w }

same_stand : (p q : Vector) (f g : Frame) (v w : Option ℕ) → p ≡ q → f ≡ g → v ≡ w → stand p f v ≡ stand q g w
same_stand p q f g v w a b c = cc

plus-plus : (u v w : Vector) → plus (plus u v) w ≡ plus u (plus v w)
plus-plus u v w = same_vector _ _ _ _ _ _ (omega (arith, ints)) (omega (arith, ints)) (omega (arith, ints))

plus-origin : (v : Vector) → plus v origin ≡ v
plus-origin v = same_vector _ _ _ _ _ _ (omega (arith, ints)) (omega (arith, ints)) (omega (arith, ints))

never_scaled : (v : Vector) → scaled (pos 0) v ≡ origin
never_scaled v = same_vector _ _ _ _ _ _ (omega (arith, ints)) (omega (arith, ints)) (omega (arith, ints))

widths : (u v w : Option ℕ) → width_after (width_after u v) w ≡ width_after u (width_after v w)
widths u v None = refl
widths u v (Some w) = refl

pub seen_twice : (l : Lattice) (a b c : Stand) → stand_from l (stand_from l a b) c ≡ stand_from l a (stand_from l b c)
seen_twice l a b c =
    same_stand _ _ _ _ _ _
    (ap (plus (plus a.place (carried l a.frame b.place))) (carried-followed l a.frame b.frame c.place)
    ∙ plus-plus a.place (carried l a.frame b.place) (carried l a.frame (carried l b.frame c.place))
    ∙ ap (plus a.place) (sym (carried-plus l a.frame b.place (carried l b.frame c.place))))
    (followed-followed l a.frame b.frame c.frame) (widths a.width b.width c.width)

carried_origin : (l : Lattice) (f : Frame) → carried l f origin ≡ origin
carried_origin l f = carried-scaled l f (pos 0) origin ∙ never_scaled (carried l f origin)

pub seen_start : (l : Lattice) (from : Stand) → stand_from l from (first_walker l).here ≡ from
seen_start l from =
    same_stand _ from.place _ from.frame _ from.width (ap (plus from.place) (carried_origin l from.frame) ∙ plus-origin from.place) (followed-start l from.frame) refl

-- 2. seen through all that is open

abbrev pub AreKnown : Lattice → List OpenMark → Type 0
AreKnown l ms = Each (λ m. Contains (frames l) m.stand.frame) ms

through_seen : (l : Lattice) (p : Option ℕ) (s a h : Stand) → through l p s (stand_from l a h) ≡ stand_from l (through l p s a) h
through_seen l None s a h = refl
through_seen l (Some i) s a h = sym (seen_twice l s a h)

pub up_seen : (l : Lattice) (ms : List OpenMark) (a h : Stand) → up l ms (stand_from l a h) ≡ stand_from l (up l ms a) h
up_seen l [] a h = refl
up_seen l (m ∷ ms) a h = ap (up l ms) (through_seen l m.piece m.stand a h) ∙ up_seen l ms (through l m.piece m.stand a) h

through_known : (l : Lattice) (p : Option ℕ) (s a : Stand) → Contains (frames l) s.frame → Contains (frames l) a.frame → Contains (frames l) (through l p s a).frame
through_known l None s a h k = k
through_known l (Some i) s a h k = followed-known l s.frame a.frame h k

pub up_known : (l : Lattice) (ms : List OpenMark) (a : Stand) → AreKnown l ms → Contains (frames l) a.frame → Contains (frames l) (up l ms a).frame
up_known l [] a h k = k
up_known l (m ∷ ms) a h k = up_known l ms (through l m.piece m.stand a) h.1 (through_known l m.piece m.stand a h.0 k)

out_here : (l : Lattice) (p : Option ℕ) (s : Stand) (w : Walker) → (out_of l p s w).here ≡ through l p s w.here
out_here l None s w = refl
out_here l (Some i) s w = refl

pub outward_here : (l : Lattice) (ms : List OpenMark) (w : Walker) → (outward l ms w).here ≡ up l ms w.here
outward_here l [] w = refl
outward_here l (m ∷ ms) w = outward_here l ms (out_of l m.piece m.stand w) ∙ ap (up l ms) (out_here l m.piece m.stand w)

-- 3. a symbol more

-- a `]` has its `[`
abbrev pub HasSaved : S.Symbol ℤ → List Stand → Type 0
HasSaved S.Pop [] = ⊥
HasSaved S.Pop (h ∷ hs) = Unit {0}
HasSaved S.Push hs = Unit {0}
HasSaved S.Cut hs = Unit {0}
HasSaved (S.Module n ps) hs = Unit {0}

pub done_from : (l : Lattice) (from here : Stand) (m : S.ModuleName) (ps : List ℤ) → Contains (frames l) from.frame → done l (act m ps) (stand_from l from here) ≡ stand_from l from (done l (act m ps) here)
done_from l from here m ps k = ap (λ (w : Walker). w.here) (walked_from l from [] (S.Module m ps ∷ []) here [] k refl)

step_from : (l : Lattice) (from : Stand) (x : S.Symbol ℤ) (here : Stand) (saved : List Stand) → Contains (frames l) from.frame → HasSaved x saved
    → walker_from l from [] (stepped l x (walker here saved)) ≡ stepped l x (walker_from l from [] (walker here saved))
step_from l from S.Push here saved k s = refl
step_from l from S.Pop here [] k s = absurd s
step_from l from S.Pop here (h ∷ hs) k s = refl
step_from l from S.Cut here saved k s = refl
step_from l from (S.Module m ps) here saved k s = ap (λ (h : Stand). walker h (map (stand_from l from) saved ++ [])) (sym (done_from l from here m ps k))

step_beside : (l : Lattice) (s : Stand) (x : S.Symbol ℤ) (here : Stand) (saved : List Stand) → HasSaved x saved
    → out_of l None s (stepped l x (walker here saved)) ≡ stepped l x (out_of l None s (walker here saved))
step_beside l s S.Push here saved h = refl
step_beside l s S.Pop here [] h = absurd h
step_beside l s S.Pop here (g ∷ gs) h = refl
step_beside l s S.Cut here saved h = refl
step_beside l s (S.Module m ps) here saved h = refl

step_out : (l : Lattice) (p : Option ℕ) (s : Stand) (x : S.Symbol ℤ) (w : Walker) → Contains (frames l) s.frame → HasSaved x w.saved → out_of l p s (stepped l x w) ≡ stepped l x (out_of l p s w)
step_out l None s x w k h = step_beside l s x w.here w.saved h
step_out l (Some i) s x w k h = step_from l s x w.here w.saved k h

still_saved : (x : S.Symbol ℤ) (f : Stand → Stand) (hs more : List Stand) → HasSaved x hs → HasSaved x (map f hs ++ more)
still_saved S.Push f hs more h = tt
still_saved S.Pop f [] more h = absurd h
still_saved S.Pop f (g ∷ gs) more h = tt
still_saved S.Cut f hs more h = tt
still_saved (S.Module m ps) f hs more h = tt

still_beside : (x : S.Symbol ℤ) (hs more : List Stand) → HasSaved x hs → HasSaved x (hs ++ more)
still_beside S.Push hs more h = tt
still_beside S.Pop [] more h = absurd h
still_beside S.Pop (g ∷ gs) more h = tt
still_beside S.Cut hs more h = tt
still_beside (S.Module m ps) hs more h = tt

saved_out : (l : Lattice) (p : Option ℕ) (s : Stand) (x : S.Symbol ℤ) (w : Walker) → HasSaved x w.saved → HasSaved x (out_of l p s w).saved
saved_out l None s x w h = still_beside x w.saved (s ∷ []) h
saved_out l (Some i) s x w h = still_saved x (stand_from l s) w.saved [] h

pub step_outward : (l : Lattice) (ms : List OpenMark) (x : S.Symbol ℤ) (w : Walker) → AreKnown l ms → HasSaved x w.saved → outward l ms (stepped l x w) ≡ stepped l x (outward l ms w)
step_outward l [] x w k h = refl
step_outward l (m ∷ ms) x w k h =
    ap (outward l ms) (step_out l m.piece m.stand x w k.0 h) ∙ step_outward l ms x (out_of l m.piece m.stand w) k.1 (saved_out l m.piece m.stand x w h)

-- The turtle of a picture goes the free way, as far as that doesn't lead too far.
use Rattle.std.proofs.Common.{◌≡◌, ◌&&◌, not, subst, take, zero, suc, ℕ, Bool, true, false, cond, Option, Some, None, Result, Ok, Err, List, [], ◌∷◌, ◌++◌, refl, sym, ap, ◌∙◌}
use Rattle.std.specs.Prelude.{ℤ, ◌↔◌}
use Rattle.std.specs.List.{list_all}
use Rattle.lsys_syntax.specs.Strings as S
use Rattle.lsys_spec.specs.Lattices.{Lattice, Vector}
use Rattle.lsys_spec.specs.Pictures.{Act, draws, moves, turns, widens, rests, act, Turtle, Segment, Stepped, is_far, acted, turtle_step, modules_to, with_segment, and_on, segments_from}
use Rattle.lsys_lattice.specs.Effects.{Stand, Walker, walker, walked, done, stepped, drawn_ends, place_reached, symbol_places, ends, places_reached}
use Rattle.lsys_lattice.specs.Bounds.{gone_on, turtle_after}
use Rattle.lsys_lattice.specs.Free.{turtle_of, leads_far, goes_far, first_far, ends_of}

-- what a step gives: the turtle after it, and the ends that it draws; or it is too far
abbrev Goes : Bool → Option Stepped → Turtle → List Vector → Type 0
Goes true r t es = r ≡ None
Goes false r t es = (s : Stepped) × (r ≡ Some s) × (s.turtle ≡ t) × ((gs : List Segment) (rest : Result (List Segment) ℕ) → with_segment s.segment rest ≡ Ok gs → (more : List Segment) × (rest ≡ Ok more) × (ends_of gs ≡ es ++ ends_of more))

drawn_then : (g : Segment) (gs : List Segment) (rest : Result (List Segment) ℕ) → with_segment (Some g) rest ≡ Ok gs → (more : List Segment) × (rest ≡ Ok more) × (ends_of gs ≡ (g.from ∷ g.to ∷ []) ++ ends_of more)
drawn_then g gs (Ok more) h = let e : g ∷ more ≡ gs = cc in (more, refl, ap ends_of (sym e))
drawn_then g gs (Err n) h = cc

none_then : (gs : List Segment) (rest : Result (List Segment) ℕ) → with_segment None rest ≡ Ok gs → (more : List Segment) × (rest ≡ Ok more) × (ends_of gs ≡ [] ++ ends_of more)
none_then gs rest h = (gs, h, refl)

-- a module
module_goes : (l : Lattice) (a : Act) (h : Stand) (saved : List Stand)
    → Goes (leads_far a (done l a h).place) (acted l a (turtle_of (walker h saved))) (turtle_of (walker (done l a h) saved)) (drawn_ends a h)
module_goes l (draws n) h saved = by (is_far (done l (draws n) h).place) refl
  where
    by : (b : Bool) → is_far (done l (draws n) h).place ≡ b → Goes (is_far (done l (draws n) h).place) (acted l (draws n) (turtle_of (walker h saved))) (turtle_of (walker (done l (draws n) h) saved)) (drawn_ends (draws n) h)
    by true e = rw e refl
    by false e = rw e (_, refl, refl, drawn_then _)
module_goes l (moves n) h saved = by (is_far (done l (moves n) h).place) refl
  where
    by : (b : Bool) → is_far (done l (moves n) h).place ≡ b → Goes (is_far (done l (moves n) h).place) (acted l (moves n) (turtle_of (walker h saved))) (turtle_of (walker (done l (moves n) h) saved)) (drawn_ends (moves n) h)
    by true e = rw e refl
    by false e = rw e (_, refl, refl, none_then)
module_goes l (turns turn n) h saved = (_, refl, refl, none_then)
module_goes l (widens w) h saved = (_, refl, refl, none_then)
module_goes l rests h saved = (_, refl, refl, none_then)

-- a symbol
step_goes : (l : Lattice) (x : S.Symbol ℤ) (here : Stand) (saved : List Stand)
    → Goes (goes_far l x (walker here saved)) (turtle_step l x (turtle_of (walker here saved))) (turtle_of (stepped l x (walker here saved))) (symbol_places drawn_ends x here)
step_goes l S.Push here saved = (_, refl, refl, none_then)
step_goes l S.Pop here [] = (_, refl, refl, none_then)
step_goes l S.Pop here (h ∷ saved) = (_, refl, refl, none_then)
step_goes l S.Cut here saved = (_, refl, refl, none_then)
step_goes l (S.Module n ps) here saved = module_goes l (act n ps) here saved

-- what follows a step

goes_on : (b : Bool) (r : Option Stepped) (t : Turtle) (es : List Vector) → Goes b r t es → (n : ℕ) (rest : Turtle → Result (List Segment) ℕ) (gs : List Segment) → and_on n r rest ≡ Ok gs
    → (b ≡ false) × (more : List Segment) × (rest t ≡ Ok more) × (ends_of gs ≡ es ++ ends_of more)
goes_on true r t es e n rest gs h = let f : and_on n None rest ≡ Ok gs = ap (λ (r : Option Stepped). and_on n r rest) (sym e) ∙ h in cc
goes_on false r t es e n rest gs h =
    let one = e.3 gs (rest e.0.turtle) (ap (λ (r : Option Stepped). and_on n r rest) (sym e.1) ∙ h) in
    (refl, one.0, ap rest (sym e.2) ∙ one.1, one.2)

stops : (o : Option Segment) (m : ℕ) → with_segment o (Err m) ≡ Err m
stops None m = refl
stops (Some g) m = refl

goes_to : (o : Option Segment) (more : List Segment) → (gs : List Segment) × (with_segment o (Ok more) ≡ Ok gs)
goes_to None more = (more, refl)
goes_to (Some g) more = (g ∷ more, refl)

far_then : (b : Bool) (r : Option Stepped) (t : Turtle) (es : List Vector) → Goes b r t es → (n : ℕ) (rest : Turtle → Result (List Segment) ℕ) (far : Option ℕ) (m : ℕ)
    → (far ≡ Some m → rest t ≡ Err m) → cond b (Some n) far ≡ Some m → and_on n r rest ≡ Err m
far_then true r t es e n rest far m f h = let is : n ≡ m = cc in ap (λ (r : Option Stepped). and_on n r rest) e ∙ ap Err is
far_then false r t es e n rest far m f h =
    ap (λ (r : Option Stepped). and_on n r rest) e.1 ∙ ap (with_segment e.0.segment) (ap rest e.2 ∙ f h) ∙ stops e.0.segment m

near_then : (b : Bool) (r : Option Stepped) (t : Turtle) (es : List Vector) → Goes b r t es → (n : ℕ) (rest : Turtle → Result (List Segment) ℕ) (far : Option ℕ)
    → (far ≡ None → (more : List Segment) × (rest t ≡ Ok more)) → cond b (Some n) far ≡ None → (gs : List Segment) × (and_on n r rest ≡ Ok gs)
near_then true r t es e n rest far f h = cc
near_then false r t es e n rest far f h =
    let one = f h in
    let all = goes_to e.0.segment one.0 in
    (all.0, ap (λ (r : Option Stepped). and_on n r rest) e.1 ∙ ap (with_segment e.0.segment) (ap rest e.2 ∙ one.1) ∙ all.1)

-- a string

pub drawn_freely : (l : Lattice) (n : ℕ) (w : Walker) (xs : List (S.Symbol ℤ)) (gs : List Segment) → segments_from l n (turtle_of w) xs ≡ Ok gs → ends_of gs ≡ ends l xs w
drawn_freely l n w [] gs h = let e : [] ≡ gs = cc in ap ends_of (sym e)
drawn_freely l n w (x ∷ xs) gs h =
    let one = goes_on (goes_far l x w) (turtle_step l x (turtle_of w)) (turtle_of (stepped l x w)) (symbol_places drawn_ends x w.here) (step_goes l x w.here w.saved) (modules_to n x)
    (λ u. segments_from l (modules_to n x) u xs) gs h in
    one.3 ∙ ap (λ es. symbol_places drawn_ends x w.here ++ es) (drawn_freely l (modules_to n x) (stepped l x w) xs one.1 one.2)

pub stops_far : (l : Lattice) (n : ℕ) (w : Walker) (xs : List (S.Symbol ℤ)) (m : ℕ) → first_far l n w xs ≡ Some m → segments_from l n (turtle_of w) xs ≡ Err m
stops_far l n w [] m h = cc
stops_far l n w (x ∷ xs) m h =
    far_then (goes_far l x w) (turtle_step l x (turtle_of w)) (turtle_of (stepped l x w)) (symbol_places drawn_ends x w.here) (step_goes l x w.here w.saved) (modules_to n x)
    (λ u. segments_from l (modules_to n x) u xs) (first_far l (modules_to n x) (stepped l x w) xs) m (stops_far l (modules_to n x) (stepped l x w) xs m) h

pub goes_whole : (l : Lattice) (n : ℕ) (w : Walker) (xs : List (S.Symbol ℤ)) → first_far l n w xs ≡ None → (gs : List Segment) × (segments_from l n (turtle_of w) xs ≡ Ok gs)
goes_whole l n w [] h = ([], refl)
goes_whole l n w (x ∷ xs) h =
    near_then (goes_far l x w) (turtle_step l x (turtle_of w)) (turtle_of (stepped l x w)) (symbol_places drawn_ends x w.here) (step_goes l x w.here w.saved) (modules_to n x)
    (λ u. segments_from l (modules_to n x) u xs) (first_far l (modules_to n x) (stepped l x w) xs) (goes_whole l (modules_to n x) (stepped l x w) xs) h

-- one step

pub step_freely : (l : Lattice) (x : S.Symbol ℤ) (w : Walker) (s : Stepped) → turtle_step l x (turtle_of w) ≡ Some s → s.turtle ≡ turtle_of (stepped l x w)
step_freely l x w s h = by (goes_far l x w) (turtle_step l x (turtle_of w)) (step_goes l x w.here w.saved) h
  where
    by : (b : Bool) (r : Option Stepped) → Goes b r (turtle_of (stepped l x w)) (symbol_places drawn_ends x w.here) → r ≡ Some s → s.turtle ≡ turtle_of (stepped l x w)
    by true r e k = let f : None ≡ Some s = sym e ∙ k in cc
    by false r e k = let f : Some e.0 ≡ Some s = sym e.1 ∙ k in let same : e.0 ≡ s = cc in ap (λ (s : Stepped). s.turtle) (sym same) ∙ e.2

-- 4. the places that are reached

abbrev all_near : List Vector → Bool
all_near vs = list_all (λ v. not (is_far v)) vs

one_near : (b c : Bool) (n : ℕ) (far : Option ℕ) → (far ≡ None ↔ c ≡ true) → cond b (Some n) far ≡ None ↔ (not b && c) ≡ true
one_near true c n far h = ((λ e. cc), (λ e. cc))
one_near false c n far h = h

act_near : (a : Act) (h : Stand) (l : Lattice) (vs : List Vector) → all_near (place_reached a h ++ vs) ≡ not (leads_far a (done l a h).place) && all_near vs
act_near (draws n) h l vs = refl
act_near (moves n) h l vs = refl
act_near (turns turn n) h l vs = refl
act_near (widens w) h l vs = refl
act_near rests h l vs = refl

symbol_near : (l : Lattice) (x : S.Symbol ℤ) (w : Walker) (vs : List Vector) → all_near (symbol_places place_reached x w.here ++ vs) ≡ not (goes_far l x w) && all_near vs
symbol_near l S.Push w vs = refl
symbol_near l S.Pop w vs = refl
symbol_near l S.Cut w vs = refl
symbol_near l (S.Module n ps) w vs = act_near (act n ps) w.here l vs

pub reached_near : (l : Lattice) (n : ℕ) (w : Walker) (xs : List (S.Symbol ℤ)) → (first_far l n w xs ≡ None) ↔ (all_near (places_reached l xs w) ≡ true)
reached_near l n w [] = ((λ e. refl), (λ e. refl))
reached_near l n w (x ∷ xs) =
    subst (λ b. (first_far l n w (x ∷ xs) ≡ None) ↔ (b ≡ true)) (sym (symbol_near l x w (places_reached l xs (stepped l x w))))
    (one_near (goes_far l x w) (all_near (places_reached l xs (stepped l x w))) (modules_to n x) (first_far l (modules_to n x) (stepped l x w) xs) (reached_near l (modules_to n x) (stepped l x w) xs))

-- 5. the turtle after some symbols

-- where the whole way isn't too far, no front of it is
some_turtle : (b : Bool) (r : Option Stepped) (t : Turtle) (es : List Vector) → Goes b r t es → b ≡ false → (rest : Turtle → Option Turtle) (u : Turtle) → rest t ≡ Some u → gone_on r rest ≡ Some u
some_turtle true r t es e f rest u h = cc
some_turtle false r t es e f rest u h = ap (λ (r : Option Stepped). gone_on r rest) e.1 ∙ ap rest e.2 ∙ h

not_first : (b : Bool) (n : ℕ) (far : Option ℕ) → cond b (Some n) far ≡ None → (b ≡ false) × (far ≡ None)
not_first true n far h = cc
not_first false n far h = (refl, h)

pub turtle_there : (l : Lattice) (k : ℕ) (w : Walker) (xs : List (S.Symbol ℤ)) → first_far l k w xs ≡ None → (n : ℕ) → turtle_after l (turtle_of w) (take n xs) ≡ Some (turtle_of (walked l (take n xs) w))
turtle_there l k w [] h zero = refl
turtle_there l k w [] h (suc n) = refl
turtle_there l k w (x ∷ xs) h zero = refl
turtle_there l k w (x ∷ xs) h (suc n) =
    let one = not_first (goes_far l x w) (modules_to k x) (first_far l (modules_to k x) (stepped l x w) xs) h in
    some_turtle (goes_far l x w) (turtle_step l x (turtle_of w)) (turtle_of (stepped l x w)) (symbol_places drawn_ends x w.here) (step_goes l x w.here w.saved) one.0
    (λ u. turtle_after l u (take n xs)) (turtle_of (walked l (take n xs) (stepped l x w))) (turtle_there l (modules_to k x) (stepped l x w) xs one.1 n)

pub none_too_far : (l : Lattice) (n : ℕ) (w : Walker) (xs : List (S.Symbol ℤ)) (gs : List Segment) → segments_from l n (turtle_of w) xs ≡ Ok gs → first_far l n w xs ≡ None
none_too_far l n w xs gs h = by (first_far l n w xs) refl
  where
    by : (o : Option ℕ) → first_far l n w xs ≡ o → first_far l n w xs ≡ None
    by None e = e
    by (Some m) e = let f : Ok gs ≡ Err m = sym h ∙ stops_far l n w xs m e in cc

-- A symbol that is looked at has a turtle do what the whole symbol has it do.
use Rattle.std.proofs.Common.{◌≡◌, ◌≤◌, ◌+◌, ℕ, ℤ, Result, Ok, Err, List, [], ◌∷◌, length, refl, subst, sym, ap, ◌∙◌, arith}
use Rattle.std.proofs.Math.Nat.{le-max_right}
use Rattle.lsys_syntax.specs.Strings as S
use Rattle.lsys_syntax.specs.Strings.{ModuleName, named, plus, minus, ampersand, caret, backslash, slash, bar, bang}
use Rattle.lsys_spec.specs.Lattices.{Lattice}
use Rattle.lsys_spec.specs.Pictures.{Turtle, act, acted, first_or_one, modules_to, turtle_step}
use Rattle.lsys_hom.specs.Looks.{in_short}
use Rattle.lsys_turtle.specs.Ways.{RoomyTurtle, CanStep, SavesAsMany, saved_after}
use Rattle.lsys_out.specs.Drawings.{OnStep, Way, drawing, drawn_on}
use Rattle.lsys_out.specs.declared.refusal.PictureRefusal.{PictureRefusal as Refusal}
use Rattle.lsys_out.specs.declared.way.ImageStep.{ImageStep}
use Rattle.lsys_out.specs.declared.way.ImageStep.TheVariants as steps
use Rattle.lsys_out.specs.Nesting.{CanGo, Closes, nesting_from}
use Rattle.lsys_out.proofs.Going.{can_step}

short_act : (m : ModuleName) (ps : List ℤ) → act m (first_or_one ps ∷ []) ≡ act m ps
short_act (named n) ps = refl
short_act plus ps = refl
short_act minus ps = refl
short_act ampersand ps = refl
short_act caret ps = refl
short_act backslash ps = refl
short_act slash ps = refl
short_act bar ps = refl
short_act bang ps = refl

short_step : (l : Lattice) (x : S.Symbol ℤ) (t : Turtle) → turtle_step l (in_short x) t ≡ turtle_step l x t
short_step l (S.Module m ps) t = ap (λ a. acted l a t) (short_act m ps)
short_step l S.Push t = refl
short_step l S.Pop t = refl
short_step l S.Cut t = refl

pub short_modules : (n : ℕ) (x : S.Symbol ℤ) → modules_to n (in_short x) ≡ modules_to n x
short_modules n (S.Module m ps) = refl
short_modules n S.Push = refl
short_modules n S.Pop = refl
short_modules n S.Cut = refl

-- a symbol is one module at most
pub counted : (n : ℕ) (x : S.Symbol ℤ) → modules_to n x ≤ n + 1
counted n (S.Module m ps) = omega arith
counted n S.Push = omega arith
counted n S.Pop = omega arith
counted n S.Cut = omega arith

pub short_saved : (x : S.Symbol ℤ) (n : ℕ) → saved_after (in_short x) n ≡ saved_after x n
short_saved (S.Module m ps) n = refl
short_saved S.Push n = refl
short_saved S.Pop n = refl
short_saved S.Cut n = refl

-- at most one more is saved after a symbol
pub saved_few : (x : S.Symbol ℤ) (n : ℕ) → saved_after x n ≤ n + 1
saved_few (S.Module m ps) n = omega arith
saved_few S.Push n = omega arith
saved_few S.Pop n = omega arith
saved_few S.Cut n = omega arith

short_can : (x : S.Symbol ℤ) (w : RoomyTurtle) → CanStep x w → CanStep (in_short x) w
short_can (S.Module m ps) w h = h
short_can S.Push w h = h
short_can S.Pop w h = h
short_can S.Cut w h = h

-- what follows where a step goes on
pub on_step : {P Q : Type 0} (r : Result ImageStep Refusal) → OnStep r P → (P → Q) → OnStep r Q
on_step (Ok steps.Quiet) p f = f p
on_step (Ok (steps.Drawn g)) p f = (f p.0, p.1)
on_step (Ok steps.End) p f = tt
on_step (Err e) p f = tt

-- y is what is looked at of x
module _ (x y : S.Symbol ℤ) (is : y ≡ in_short x) where
  -- it can take the one that is looked at
  pub can_take : (xs : List (S.Symbol ℤ)) (w : RoomyTurtle) → CanGo (x ∷ xs) w → CanStep y w
  can_take xs w h = subst (λ z. CanStep z w) (sym is) (short_can x w (can_step x xs w h))

  -- and goes over the others then
  pub can_go_on : (xs : List (S.Symbol ℤ)) (w v : RoomyTurtle) → CanGo (x ∷ xs) w → SavesAsMany y w v → v.room ≡ w.room → CanGo xs v
  can_go_on xs w v h saves room =
      let n = length w.turtle.saved in
      let now : length v.turtle.saved ≡ saved_after x n = saves ∙ ap (λ z. saved_after z n) is ∙ short_saved x n in
      let deep : nesting_from (saved_after x n) xs ≤ v.room = omega (arith, room, h.room, le-max_right n (nesting_from (saved_after x n) xs)) in
      record {
        closes = subst (λ k. Closes k xs) (sym now) h.closes.1;
        room = subst (λ k. nesting_from k xs ≤ v.room) (sym now) deep;
      }

  -- what is still to come, after it
  pub drawing_taken : (l : Lattice) (old new : Way) (t : Turtle) → old.image ≡ record { symbols = x ∷ new.image.symbols; refusal = new.image.refusal } → new.modules ≡ modules_to old.modules x
      → drawing l old t ≡ drawn_on new.image.refusal new.modules (turtle_step l y t) (λ u. drawing l new u)
  drawing_taken l old new t passed counted =
      ap (λ i. drawing l (record { image = i; modules = old.modules }) t) passed
      ∙ ap (λ n. drawn_on new.image.refusal n (turtle_step l x t) (λ u. drawing l (record { image = new.image; modules = n }) u)) (sym counted)
      ∙ ap (λ o. drawn_on new.image.refusal new.modules o (λ u. drawing l new u)) (sym (ap (λ z. turtle_step l z t) is ∙ short_step l x t))

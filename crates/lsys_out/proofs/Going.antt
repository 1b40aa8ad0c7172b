-- A turtle that goes over symbols.
use Rattle.std.proofs.Common.{◌≡◌, ◌≤◌, ℕ, ℤ, ◌+◌, List, [], ◌∷◌, length, max, subst, sym, ap, ◌∙◌, arith}
use Rattle.std.proofs.Math.Nat.{le-max_left, le-max_right}
use Rattle.lsys_syntax.specs.Strings as S
use Rattle.lsys_turtle.specs.Ways.{RoomyTurtle, CanStep, saved_after}
use Rattle.lsys_syntax.specs.Limits.{most_image_symbols}
use Rattle.lsys_spec.specs.Systems.{System}
use Rattle.lsys_spec.specs.Lattices.{Lattice}
use Rattle.lsys_spec.specs.Pictures.{Turtle, at_start}
use Rattle.lsys_level.specs.Spots.{Spotted}
use Rattle.lsys_hom.specs.Coming.{Coming}
use Rattle.lsys_out.specs.Drawings.{last_image, last_symbols}
use Rattle.lsys_out.specs.Nesting.{CanGo, Closes, HasLast, image_nesting, nesting_from}
use Rattle.lsys_out.proofs.Closing.{last_closes}
use Rattle.lsys_out.proofs.Counted.{few_from}

nested_here : (n : ℕ) (xs : List (S.Symbol ℤ)) → n ≤ nesting_from n xs
nested_here n [] = omega arith
nested_here n (x ∷ xs) = le-max_left n (nesting_from (saved_after x n) xs)

-- it can take the first one
pub can_step : (x : S.Symbol ℤ) (xs : List (S.Symbol ℤ)) (w : RoomyTurtle) → CanGo (x ∷ xs) w → CanStep x w
can_step S.Push xs w h =
    let n = length w.turtle.saved in
    omega (arith, h.room, nested_here (n + 1) xs, le-max_right n (nesting_from (n + 1) xs))
can_step S.Pop xs w h = h.closes.0
can_step S.Cut xs w h = tt
can_step (S.Module m ps) xs w h = tt

-- a turtle at the start can go over the last level's image
pub can_begin : (l : Lattice) (s : System) (levels : List (List Spotted)) (room : ℕ) (i : Coming) (w : RoomyTurtle) → HasLast s levels → image_nesting s levels ≤ room
    → i ≡ last_image s levels → w.turtle ≡ at_start l → w.room ≡ room → CanGo i.symbols w
can_begin l s levels room i w h deep is start same =
    let none : 0 ≡ length w.turtle.saved = ap (λ (t : Turtle). length t.saved) (sym start) in
    let closes : Closes 0 i.symbols = subst (λ (c : Coming). Closes 0 c.symbols) (sym is) (last_closes s (last_symbols (λ tag. []) s levels) h.spelled h.balance) in
    let nested : nesting_from 0 i.symbols ≤ w.room = rw same (subst (λ (c : Coming). nesting_from 0 c.symbols ≤ room) (sym is) deep) in
    record {
      closes = subst (λ n. Closes n i.symbols) none closes;
      room = subst (λ n. nesting_from n i.symbols ≤ w.room) none nested;
    }

-- no more symbols come than an image may have
pub few_begin : (s : System) (levels : List (List Spotted)) (i : Coming) → i ≡ last_image s levels → 0 + length i.symbols ≤ most_image_symbols
few_begin s levels i is = subst (λ (c : Coming). 0 + length c.symbols ≤ most_image_symbols) (sym is) (few_from s.homomorphisms 0 0 (last_symbols (λ tag. []) s levels) (omega arith))

one_deeper : (m o k x n : ℕ) → max m (max o x) ≡ n → o ≤ m → k ≤ x → max (max m k) x ≡ n
one_deeper m o k x n e h b = omega arith

-- the nesting after a symbol, where so many branches are open before it, and so many were at most so far
pub nested_after : (x : S.Symbol ℤ) (most here n : ℕ) (old new : List (S.Symbol ℤ)) → old ≡ x ∷ new → max most (nesting_from here old) ≡ n → here ≤ most
    → max (max most (saved_after x here)) (nesting_from (saved_after x here) new) ≡ n
nested_after x most here n old new is e h =
    one_deeper most here (saved_after x here) (nesting_from (saved_after x here) new) n (ap (λ xs. max most (nesting_from here xs)) (sym is) ∙ e) h (nested_here (saved_after x here) new)

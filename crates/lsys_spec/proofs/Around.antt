-- The way and the items at a place, by the symbol there.
use Rattle.std.proofs.Common.{◌≡◌, ℕ, zero, suc, List, [], ◌∷◌, ◌++◌, ◌+◌, ◌<◌, length, take, drop, get_or, Option, Some, None, refl, ap, sym, ◌∙◌, arith}
use Rattle.std.specs.Prelude.{option_map, fold, slice_get}
use Rattle.std.proofs.lemmas.Grind.{fold-append}
use Rattle.std.proofs.lemmas.List.{take_more, drop_more, drop-drop}
use Rattle.std.proofs.Math.Seq.{take-add}
use Rattle.std.proofs.lemmas.Option.{slice_get_within, get_or_from_slice_get}
use Rattle.lsys_spec.specs.Levels.{ModuleValue, LevelSymbol, Push, Pop, Module, close_of, AreMates, Passed, Around, OutOf, Reading, read, reading, way, Items, Nothing, One, Branch, Nest, at_root, in_branch, items_here, with_module, with_whole_branch, with_open_bracket, items_of, items_from}
use Rattle.lsys_spec.proofs.Mates.{close_there, close_items, close_reading, Peels}

abbrev start : Reading
start = record { way = []; saved = [] }

reading_more : (x : List LevelSymbol) (p : ℕ) (s : LevelSymbol) → slice_get x p ≡ Some s → reading x (p + 1) ≡ read (reading x p) s
reading_more x p s h =
    let at : p < length x = slice_get_within x p s h in
    let is : get_or x p s ≡ s = get_or_from_slice_get x p s s h in
    ap (fold read start) (take_more x p s at ∙ ap (λ t. take p x ++ t ∷ []) is) ∙ fold-append read start (take p x) (s ∷ [])

from_symbol : (x : List LevelSymbol) (p : ℕ) (s : LevelSymbol) → slice_get x p ≡ Some s → drop p x ≡ s ∷ drop (p + 1) x
from_symbol x p s h =
    let at : p < length x = slice_get_within x p s h in
    let is : get_or x p s ≡ s = get_or_from_slice_get x p s s h in
    drop_more x p s at ∙ ap (λ t. t ∷ drop (p + 1) x) is

pub way_module : (x : List LevelSymbol) (p : ℕ) (m : ModuleValue) (l : List ℕ) → slice_get x p ≡ Some (Module l m) → way x (p + 1) ≡ Passed (Module l m) ∷ way x p
way_module x p m l h = ap (λ r. r.way) (reading_more x p (Module l m) h)

pub way_push : (x : List LevelSymbol) (p : ℕ) (l : List ℕ) → slice_get x p ≡ Some (Push l) → way x (p + 1) ≡ OutOf (Push l) ∷ way x p
way_push x p l h = ap (λ r. r.way) (reading_more x p (Push l) h)

told_by : (o : Option ℕ) (f : ℕ → ℕ) (q : ℕ) → option_map f o ≡ Some q → (n : ℕ) × (o ≡ Some n) × (f n ≡ q)
told_by None f q h = cc
told_by (Some n) f q h = (n, refl, cc)

-- the element n places after the front that is dropped
get_drop : (x : List LevelSymbol) (k n : ℕ) → slice_get (drop k x) n ≡ slice_get x (k + n)
get_drop x zero n = let e : n ≡ 0 + n = omega arith in ap (slice_get x) e
get_drop [] (suc k) n = refl
get_drop (s ∷ x) (suc k) n = let e : suc (k + n) ≡ suc k + n = omega arith in get_drop x k n ∙ ap (slice_get (s ∷ x)) e

pub way_pop : (x : List LevelSymbol) (p q : ℕ) (o l : List ℕ) → AreMates x q p → slice_get x q ≡ Some (Push o) → slice_get x p ≡ Some (Pop l)
    → way x (p + 1) ≡ Around (Push o) (Pop l) ∷ way x q
way_pop x p q o l m i h =
    let n = told_by (close_of 0 (drop (q + 1) x)) (λ n. q + 1 + n) p m.closes in
    let at : p + 1 ≡ q + 1 + suc n.0 = omega (arith, n.2) in
    let there : slice_get (drop (q + 1) x) n.0 ≡ Some (Pop l) = get_drop x (q + 1) n.0 ∙ ap (slice_get x) n.2 ∙ h in
    let opened_at : reading x (q + 1) ≡ read (reading x q) (Push o) = reading_more x q (Push o) i in
    let closed : fold read (read (reading x q) (Push o)) (take (suc n.0) (drop (q + 1) x)) ≡ record { way = Around (Push o) (Pop l) ∷ way x q; saved = (reading x q).saved }
    = close_reading (drop (q + 1) x) 0 n.0 (read (reading x q) (Push o)) [] (reading x q).saved (Push o, way x q) (Pop l) n.1 there refl refl in
    let whole : reading x (q + 1 + suc n.0) ≡ record { way = Around (Push o) (Pop l) ∷ way x q; saved = (reading x q).saved }
    = ap (fold read start) (take-add (q + 1) (suc n.0) x)
    ∙ fold-append read start (take (q + 1) x) (take (suc n.0) (drop (q + 1) x))
    ∙ ap (λ r. fold read r (take (suc n.0) (drop (q + 1) x))) opened_at
    ∙ closed in
    ap (λ r. r.way) (ap (reading x) at ∙ whole)

pub items_none : (x : List LevelSymbol) (p : ℕ) → slice_get x p ≡ None → items_from x p ≡ Nothing
items_none x p h = ap (λ t. items_here (items_of t)) (nothing_left x p h)
  where
    nothing_left : (x : List LevelSymbol) (p : ℕ) → slice_get x p ≡ None → drop p x ≡ []
    nothing_left [] zero h = refl
    nothing_left [] (suc p) h = refl
    nothing_left (s ∷ x) zero h = cc
    nothing_left (s ∷ x) (suc p) h = nothing_left x p h

at_symbol : (x : List LevelSymbol) (p : ℕ) (s : LevelSymbol) → slice_get x p ≡ Some s → items_from x p ≡ items_here (items_of (s ∷ drop (p + 1) x))
at_symbol x p s h = ap (λ t. items_here (items_of t)) (from_symbol x p s h)

pub items_pop : (x : List LevelSymbol) (p : ℕ) (l : List ℕ) → slice_get x p ≡ Some (Pop l) → items_from x p ≡ Nothing
items_pop x p l h = at_symbol x p (Pop l) h

of_module : (s : LevelSymbol) (k : Nest) → items_here (with_module s k) ≡ One s (items_here k)
of_module s (at_root r) = refl
of_module s (in_branch r c k) = refl

pub items_module : (x : List LevelSymbol) (p : ℕ) (m : ModuleValue) (l : List ℕ) → slice_get x p ≡ Some (Module l m) → items_from x p ≡ One (Module l m) (items_from x (p + 1))
items_module x p m l h = at_symbol x p (Module l m) h ∙ of_module (Module l m) (items_of (drop (p + 1) x))

of_branch : (o c : LevelSymbol) (inner : Items) (k : Nest) → items_here (with_whole_branch o c inner k) ≡ Branch o c inner (items_here k)
of_branch o c inner (at_root r) = refl
of_branch o c inner (in_branch r d k) = refl

of_opened : (o c : LevelSymbol) (n m : Nest) → Peels 0 n c m → items_here (with_open_bracket o n) ≡ Branch o c (items_here n) (items_here m)
of_opened o c (at_root r) m h = elim h [ ]
of_opened o c (in_branch r close k) m h = of_branch o close r k ∙ ap (λ c. Branch o c r (items_here k)) h.0 ∙ ap (λ t. Branch o c r (items_here t)) h.1

-- a bracket ends the branch that begins at p
pub ends_at : (x : List LevelSymbol) (p q : ℕ) → AreMates x p q → (l : List ℕ) × (slice_get x q ≡ Some (Pop l))
ends_at x p q m =
    let n = told_by (close_of 0 (drop (p + 1) x)) (λ n. p + 1 + n) q m.closes in
    let there = close_there (drop (p + 1) x) 0 n.0 n.1 in
    (there.0, ap (slice_get x) (sym n.2) ∙ sym (get_drop x (p + 1) n.0) ∙ there.1)

pub items_push : (x : List LevelSymbol) (p q : ℕ) (o l : List ℕ) → AreMates x p q → slice_get x p ≡ Some (Push o) → slice_get x q ≡ Some (Pop l)
    → items_from x p ≡ Branch (Push o) (Pop l) (items_from x (p + 1)) (items_from x (q + 1))
items_push x p q o l m h i =
    let n = told_by (close_of 0 (drop (p + 1) x)) (λ n. p + 1 + n) q m.closes in
    let there : slice_get (drop (p + 1) x) n.0 ≡ Some (Pop l) = get_drop x (p + 1) n.0 ∙ ap (slice_get x) n.2 ∙ i in
    let at : p + 1 + suc n.0 ≡ q + 1 = omega (arith, n.2) in
    at_symbol x p (Push o) h
    ∙ of_opened (Push o) (Pop l) (items_of (drop (p + 1) x)) (items_of (drop (suc n.0) (drop (p + 1) x))) (close_items (drop (p + 1) x) 0 n.0 (Pop l) n.1 there)
    ∙ ap (λ t. Branch (Push o) (Pop l) (items_from x (p + 1)) (items_here (items_of t))) (drop-drop (suc n.0) (p + 1) x ∙ ap (λ t. drop t x) at)

-- What stands around a symbol that isn't disturbed is alike as far as settled symbols reach.
use Rattle.std.proofs.Common.{◌≡◌, ℕ, zero, suc, List, [], ◌∷◌, ◌+◌, ◌<◌, ◌≤◌, length, Option, Some, None, refl, ap, sym, ◌∙◌, subst, arith}
use Rattle.std.specs.Prelude.{slice_get}
use Rattle.std.proofs.lemmas.Option.{slice_get_past, slice_get_within}
use Rattle.lsys_spec.specs.Levels.{LevelSymbol, Push, Pop, Module, lineage, IsLevel, way, items_from, Branch, Around}
use Rattle.lsys_spec.specs.Standings.{standing, Settled, before_place, mate_at, mate_ahead, mate_after}
use Rattle.lsys_spec.proofs.Alike.{AlikeItems, AlikeWays}
use Rattle.lsys_spec.proofs.Around.{way_module, way_push, way_pop, items_none, items_pop, items_module, items_push, ends_at}
use Rattle.lsys_spec.proofs.Standings.{stands}

same_after : (x y : List LevelSymbol) (p q : ℕ) → standing y q ≡ standing x p → slice_get x (p + 1) ≡ slice_get y (q + 1)
same_after x y p q e = sym (ap (λ s. s.after) e)

alike_items_step : (x y : List LevelSymbol) → IsLevel x → IsLevel y → (p q : ℕ) (o : Option LevelSymbol) → slice_get x p ≡ o → slice_get y q ≡ o
    → ((p' q' : ℕ) → p < p' → slice_get x p' ≡ slice_get y q' → AlikeItems (Settled x y) (items_from x p') (items_from y q'))
    → AlikeItems (Settled x y) (items_from x p) (items_from y q)
alike_items_step x y lx ly p q None h g ih = rw (items_none x p h, items_none y q g) tt
alike_items_step x y lx ly p q (Some (Pop l)) h g ih = rw (items_pop x p l h, items_pop y q l g) tt
alike_items_step x y lx ly p q (Some (Module l m)) h g ih =
    rw (items_module x p m l h, items_module y q m l g)
    (refl, λ s. ih (p + 1) (q + 1) (omega arith) (same_after x y p q (stands x y p q (Module l m) lx ly h g s)))
alike_items_step x y lx ly p q (Some (Push o)) h g ih =
    let m = lx.opens p o h in
    let m' = ly.opens q o g in
    let c = ends_at x p m.0 m.2 in
    let c' = ends_at y q m'.0 m'.2 in
    let here : items_from x p ≡ Branch (Push o) (Pop c.0) (items_from x (p + 1)) (items_from x (m.0 + 1)) = items_push x p m.0 o c.0 m.2 h c.1 in
    let there : items_from y q ≡ Branch (Push o) (Pop c'.0) (items_from y (q + 1)) (items_from y (m'.0 + 1)) = items_push y q m'.0 o c'.0 m'.2 g c'.1 in
    rw (here, there) (λ so sc.
    let st : standing y q ≡ standing x p = stands x y p q (Push o) lx ly h g so in
    let a : mate_at x p (slice_get x p) ≡ Some c.0 = ap (mate_at x p) h ∙ ap mate_ahead here in
    let b : mate_at y q (slice_get y q) ≡ Some c'.0 = ap (mate_at y q) g ∙ ap mate_ahead there in
    let d : Some c'.0 ≡ Some c.0 = sym b ∙ ap (λ s. s.mate) st ∙ a in
    let e : c'.0 ≡ c.0 = cc in
    let close : slice_get y m'.0 ≡ Some (Pop c.0) = c'.1 ∙ ap (λ c. Some (Pop c)) e in (
      refl,
      ap (λ c. Pop c) e,
      ih (p + 1) (q + 1) (omega arith) (same_after x y p q st),
      ih (m.0 + 1) (m'.0 + 1) (omega (arith, m.1)) (same_after x y m.0 m'.0 (stands x y m.0 m'.0 (Pop c.0) lx ly c.1 close sc)),
    ))

alike_items_in : (x y : List LevelSymbol) → IsLevel x → IsLevel y → (n p q : ℕ) → length x ≤ p + n → slice_get x p ≡ slice_get y q
    → AlikeItems (Settled x y) (items_from x p) (items_from y q)
alike_items_in x y lx ly zero p q l e =
    let none : slice_get x p ≡ None = slice_get_past x p (omega (arith, l)) in
    alike_items_step x y lx ly p q None none (sym e ∙ none) (λ p' q' i f. rw (items_none x p' (slice_get_past x p' (omega (arith, l, i))), items_none y q' (sym f ∙ slice_get_past x p' (omega (arith, l, i)))) tt)
alike_items_in x y lx ly (suc n) p q l e =
    alike_items_step x y lx ly p q (slice_get x p) refl (sym e) (λ p' q' i f. alike_items_in x y lx ly n p' q' (omega (arith, l, i)) f)

pub alike_items : (x y : List LevelSymbol) → IsLevel x → IsLevel y → (p q : ℕ) → slice_get x p ≡ slice_get y q → AlikeItems (Settled x y) (items_from x p) (items_from y q)
alike_items x y lx ly p q e = alike_items_in x y lx ly (length x) p q (omega arith) e

alike_ways_step : (x y : List LevelSymbol) → IsLevel x → IsLevel y → (p q : ℕ) (s : LevelSymbol) → slice_get x p ≡ Some s → slice_get y q ≡ Some s
    → ((p' q' : ℕ) → p' ≤ p → p' ≤ length x → q' ≤ length y → before_place x p' ≡ before_place y q' → AlikeWays (Settled x y) (way x p') (way y q'))
    → AlikeWays (Settled x y) (way x (p + 1)) (way y (q + 1))
alike_ways_step x y lx ly p q (Module l m) h g ih =
    rw (way_module x p m l h, way_module y q m l g)
    (refl, λ s. ih p q (omega arith) (omega (arith, slice_get_within x p (Module l m) h)) (omega (arith, slice_get_within y q (Module l m) g)) (sym (ap (λ s. s.before) (stands x y p q (Module l m) lx ly h g s))))
alike_ways_step x y lx ly p q (Push o) h g ih =
    rw (way_push x p o h, way_push y q o g)
    (refl, λ s. ih p q (omega arith) (omega (arith, slice_get_within x p (Push o) h)) (omega (arith, slice_get_within y q (Push o) g)) (sym (ap (λ s. s.before) (stands x y p q (Push o) lx ly h g s))))
alike_ways_step x y lx ly p q (Pop c) h g ih =
    let m = lx.closes p c h in
    let m' = ly.closes q c g in
    let o = m.2.opens in
    let o' = m'.2.opens in
    let here : way x (p + 1) ≡ Around (Push o.0) (Pop c) ∷ way x m.0 = way_pop x p m.0 o.0 c m.2 o.1 h in
    let there : way y (q + 1) ≡ Around (Push o'.0) (Pop c) ∷ way y m'.0 = way_pop y q m'.0 o'.0 c m'.2 o'.1 g in
    rw (here, there) (λ so sc.
    let st : standing y q ≡ standing x p = stands x y p q (Pop c) lx ly h g sc in
    let a : mate_at x p (slice_get x p) ≡ Some o.0 = ap (mate_at x p) h ∙ ap mate_after here in
    let b : mate_at y q (slice_get y q) ≡ Some o'.0 = ap (mate_at y q) g ∙ ap mate_after there in
    let d : Some o'.0 ≡ Some o.0 = sym b ∙ ap (λ s. s.mate) st ∙ a in
    let e : o'.0 ≡ o.0 = cc in
    let open' : slice_get y m'.0 ≡ Some (Push o.0) = o'.1 ∙ ap (λ o. Some (Push o)) e in (
      ap (λ o. Push o) e,
      refl,
      ih m.0 m'.0 (omega (arith, m.1)) (omega (arith, slice_get_within x m.0 (Push o.0) o.1)) (omega (arith, slice_get_within y m'.0 (Push o.0) open'))
          (sym (ap (λ s. s.before) (stands x y m.0 m'.0 (Push o.0) lx ly o.1 open' so))),
    ))

at_place : (x : List LevelSymbol) (p : ℕ) → p < length x → (s : LevelSymbol) × (slice_get x p ≡ Some s)
at_place [] p h = absurd (omega (arith, h))
at_place (s ∷ x) zero h = (s, refl)
at_place (s ∷ x) (suc p) h = at_place x p (omega (arith, h))

moved : (S : List ℕ → Type 0) (x y : List LevelSymbol) (p q p' q' : ℕ) → p + 1 ≡ p' → q + 1 ≡ q' → AlikeWays S (way x (p + 1)) (way y (q + 1)) → AlikeWays S (way x p') (way y q')
moved S x y p q p' q' a b h = subst (λ n. AlikeWays S (way x n) (way y q')) a (subst (λ n. AlikeWays S (way x (p + 1)) (way y n)) b h)

alike_ways_in : (x y : List LevelSymbol) → IsLevel x → IsLevel y → (n p q : ℕ) → p ≤ n → p ≤ length x → q ≤ length y → before_place x p ≡ before_place y q
    → AlikeWays (Settled x y) (way x p) (way y q)
alike_ways_in x y lx ly n zero zero i j k e = tt
alike_ways_in x y lx ly n zero (suc q) i j k e = let s = at_place y q (omega (arith, k)) in let f : None ≡ Some s.0 = e ∙ s.1 in cc
alike_ways_in x y lx ly n (suc p) zero i j k e = let s = at_place x p (omega (arith, j)) in let f : None ≡ Some s.0 = sym e ∙ s.1 in cc
alike_ways_in x y lx ly zero (suc p) (suc q) i j k e = absurd (omega (arith, i))
alike_ways_in x y lx ly (suc n) (suc p) (suc q) i j k e =
    let s = at_place x p (omega (arith, j)) in
    moved (Settled x y) x y p q (suc p) (suc q) (omega arith) (omega arith)
    (alike_ways_step x y lx ly p q s.0 s.1 (sym e ∙ s.1) (λ p' q' i' j' k' e'. alike_ways_in x y lx ly n p' q' (omega (arith, i, i')) j' k' e'))

pub alike_ways : (x y : List LevelSymbol) → IsLevel x → IsLevel y → (p q : ℕ) → p ≤ length x → q ≤ length y → before_place x p ≡ before_place y q → AlikeWays (Settled x y) (way x p) (way y q)
alike_ways x y lx ly p q i j e = alike_ways_in x y lx ly p p q (omega arith) i j e

-- what stands around a symbol that isn't disturbed is alike
pub alike_around : (x y : List LevelSymbol) → IsLevel x → IsLevel y → (p q : ℕ) (s : LevelSymbol) → slice_get x p ≡ Some s → slice_get y q ≡ Some s → Settled x y (lineage s)
    → AlikeWays (Settled x y) (way x p) (way y q) × AlikeItems (Settled x y) (items_from x (p + 1)) (items_from y (q + 1))
alike_around x y lx ly p q s h g e =
    let st : standing y q ≡ standing x p = stands x y p q s lx ly h g e in (
      alike_ways x y lx ly p q (omega (arith, slice_get_within x p s h)) (omega (arith, slice_get_within y q s g)) (sym (ap (λ s. s.before) st)),
      alike_items x y lx ly (p + 1) (q + 1) (same_after x y p q st),
    )

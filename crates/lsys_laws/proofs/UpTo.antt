-- What holds of the levels of a system holds of those of an unfinished derivation.
use Rattle.std.proofs.Common.{◌≡◌, ℕ, ◌+◌, false, Some, Ok, List, length, arith}
use Rattle.std.specs.Prelude.{◌↔◌, slice_get}
use Rattle.lsys_spec.specs.Systems.{System, WellSpelled}
use Rattle.lsys_spec.specs.Levels.{LevelSymbol}
use Rattle.lsys_spec.specs.Meaning.{meaning_to}
use Rattle.lsys_spec.specs.Standings.{Settled, is_disturbed}
use Rattle.lsys_spec.proofs.LevelInduction.{UpTo, up_to, all_at}
use Rattle.lsys_spec.proofs.Offspring.{Grown, has_balance, first_grown, next_grown}
use Rattle.lsys_spec.proofs.Balanced.{is_level}
use Rattle.lsys_spec.proofs.Rising.{distinct_apart}
use Rattle.lsys_spec.proofs.WellNamed.{NamedLevel, first_named, next_named}
use Rattle.lsys_spec.proofs.Needs.{Derived, derived, disturbed}
use Rattle.lsys_laws.specs.Passes.{AreMeantTo, IsGrownLevel}

pub derived_to : (s : System) (limit t : ℕ) (xs : List (List LevelSymbol)) → WellSpelled s → meaning_to s limit t ≡ Ok xs → Derived s xs
derived_to s limit t xs w h =
    let b = has_balance s w in
    let u : UpTo (Grown s.numbering) t xs = up_to s (Grown s.numbering) (first_grown s b) (next_grown s b) limit t xs h in
    let v : UpTo (λ t x. NamedLevel x) t xs = up_to s (λ t x. NamedLevel x) (first_named s w) (λ t x y. next_named s w t x y) limit t xs h in
    record {
      formed = w;
      levels = λ i x g. let r : Grown s.numbering i x = all_at (Grown s.numbering) 0 i xs i x (omega arith) u.all g in is_level x r.is_balanced (distinct_apart x r.distinct);
      names = λ i x g. all_at (λ t x. NamedLevel x) 0 i xs i x (omega arith) v.all g;
    }

pub level_count : (s : System) (limit t : ℕ) (xs : List (List LevelSymbol)) → WellSpelled s → meaning_to s limit t ≡ Ok xs → length xs ≡ t + 1
level_count s limit t xs w h =
    let b = has_balance s w in
    let u : UpTo (Grown s.numbering) t xs = up_to s (Grown s.numbering) (first_grown s b) (next_grown s b) limit t xs h in omega (arith, u.count)

pub grown_to : (s : System) (limit t : ℕ) (xs : List (List LevelSymbol)) → WellSpelled s → meaning_to s limit t ≡ Ok xs → (i : ℕ) (x : List LevelSymbol) → slice_get xs i ≡ Some x → IsGrownLevel i x
grown_to s limit t xs w h i x g =
    let b = has_balance s w in
    let u : UpTo (Grown s.numbering) t xs = up_to s (Grown s.numbering) (first_grown s b) (next_grown s b) limit t xs h in
    let r : Grown s.numbering i x = all_at (Grown s.numbering) 0 i xs i x (omega arith) u.all g in
    record { balanced = r.is_balanced; level = is_level x r.is_balanced (distinct_apart x r.distinct); distinct = r.distinct; generations = r.generations }

pub disturbed_to : (old new : System) (xs ys : List (List LevelSymbol)) (t : ℕ) → AreMeantTo old new xs ys t → (i : ℕ) (x y : List LevelSymbol) → slice_get xs i ≡ Some x → slice_get ys i ≡ Some y
    → (l : List ℕ) → (is_disturbed x y l ≡ false) ↔ Settled x y l
disturbed_to old new xs ys t a i x y g k l =
    let d : Derived old xs = derived old a.old_limit xs a.old_spelled a.old_meant in
    let e : Derived new ys = derived_to new a.new_limit t ys a.new_spelled a.new_meant in disturbed x y l (d.names i x g) (e.names i y k)

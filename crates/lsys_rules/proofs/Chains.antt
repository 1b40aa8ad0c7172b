-- Refusals in order, taken together part by part.
use Rattle.std.proofs.Common.{◌≡◌, ℕ, Bool, true, false, ◌||◌, Option, Some, None, option_map, refl, ◌∙◌, sym, ap}
use Rattle.lsys_spec.specs.Edits.{Refusal, Why, or_else, refused_if}
use Rattle.lsys_rules.specs.declared.faults.Fault.{Fault}
use Rattle.lsys_rules.specs.Faults.{Tells, refusal_of_fault}

grouped : (a b c : Option Refusal) → or_else a (or_else b c) ≡ or_else (or_else a b) c
grouped None b c = refl
grouped (Some r) b c = refl

-- seven refusals, as the first two, two more, two more and the last
pub in_pairs : (a b c d e f g : Option Refusal) → or_else a (or_else b (or_else c (or_else d (or_else e (or_else f g))))) ≡ or_else (or_else a b) (or_else (or_else c d) (or_else (or_else e f) g))
in_pairs a b c d e f g = grouped a b _ ∙ ap (or_else (or_else a b)) (grouped c d _ ∙ ap (or_else (or_else c d)) (grouped e f g))

-- five, as the first two and one after another
pub five_pairs : (a b c d e : Option Refusal) → or_else a (or_else b (or_else c (or_else d e))) ≡ or_else (or_else a b) (or_else c (or_else d e))
five_pairs a b c d e = grouped a b _

-- the first part tells
pub told_first : (fault : Option Fault) (f : Fault) (a b : Option Refusal) → Tells fault a → fault ≡ Some f → Some (refusal_of_fault f) ≡ or_else a b
told_first fault f a b h is = let first : a ≡ Some (refusal_of_fault f) = sym h ∙ ap (option_map refusal_of_fault) is in rw first refl

-- it tells nothing
pub told_none : (fault : Option Fault) (a b : Option Refusal) → Tells fault a → fault ≡ None → b ≡ or_else a b
told_none fault a b h is = let none : a ≡ None = sym h ∙ ap (option_map refusal_of_fault) is in rw none refl

nothing : (b : Bool) (why : Why) (place : ℕ) → refused_if b why place ≡ None → b ≡ false
nothing true why place h = cc
nothing false why place h = refl

neither : (a b : Option Refusal) → or_else a b ≡ None → (a ≡ None) × (b ≡ None)
neither None b h = (refl, h)
neither (Some r) b h = cc

no_either : (a b : Bool) → (a || b) ≡ false → a ≡ false
no_either true b h = cc
no_either false b h = refl

-- where nothing is told of a group and a label, the label has no other table
pub label_free : (fault : Option Fault) (m e h : Bool) (why other : Why) (place : ℕ) → Tells fault (or_else (refused_if m why place) (refused_if (e || h) other place)) → fault ≡ None → e ≡ false
label_free fault m e h why other place t is =
    let none : or_else (refused_if m why place) (refused_if (e || h) other place) ≡ None = sym t ∙ ap (option_map refusal_of_fault) is in
    no_either e h (nothing (e || h) other place (neither (refused_if m why place) (refused_if (e || h) other place) none).1)

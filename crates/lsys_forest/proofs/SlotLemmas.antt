-- Nodes by their numbers, while they come, go and change.
use Rattle.std.proofs.Common.{◌≡◌, ◌+◌, ℕ, zero, suc, List, [], ◌∷◌, set, slice_get, Option, Some, None, refl, ap, arith}
use Rattle.std.proofs.lemmas.List.Sums.{sum_by-cons}
use Rattle.std.proofs.lemmas.Option.{none-some, same_Some}
use Rattle.lsys_forest.specs.declared.node.Stored.{Stored}
use Rattle.lsys_forest.specs.Slots.{slot_at, live_slots, change_slot}

module _ {A : Type 0} where
  some_more : (n : Stored A) (slots : List (Option (Stored A))) → live_slots (Some n ∷ slots) ≡ 1 + live_slots slots
  some_more n slots = sum_by-cons _ (Some n) slots

  none_more : (slots : List (Option (Stored A))) → live_slots (None ∷ slots) ≡ 0 + live_slots slots
  none_more slots = sum_by-cons _ None slots

  pub live_gone : (slots : List (Option (Stored A))) (k : ℕ) (n : Stored A) → slice_get slots k ≡ Some (Some n) → live_slots (set slots k None) + 1 ≡ live_slots slots
  live_gone [] k n is = absurd (none-some (Some n) is)
  live_gone (None ∷ slots) zero n is = absurd (none-some n (same_Some None (Some n) is))
  live_gone (Some m ∷ slots) zero n is = omega (arith, some_more m slots, none_more slots)
  live_gone (None ∷ slots) (suc k) n is = omega (arith, none_more slots, none_more (set slots k None), live_gone slots k n is)
  live_gone (Some m ∷ slots) (suc k) n is = omega (arith, some_more m slots, some_more m (set slots k None), live_gone slots k n is)

  pub live_change : (f : Stored A → Stored A) (slots : List (Option (Stored A))) (k : ℕ) → live_slots (change_slot f slots k) ≡ live_slots slots
  live_change f [] k = refl
  live_change f (None ∷ slots) zero = refl
  live_change f (Some m ∷ slots) zero = omega (arith, some_more m slots, some_more (f m) slots)
  live_change f (None ∷ slots) (suc k) = omega (arith, none_more slots, none_more (change_slot f slots k), live_change f slots k)
  live_change f (Some m ∷ slots) (suc k) = omega (arith, some_more m slots, some_more m (change_slot f slots k), live_change f slots k)

  pub slot_some : (slots : List (Option (Stored A))) (k : ℕ) (s : Stored A) → slot_at slots k ≡ Some s → slice_get slots k ≡ Some (Some s)
  slot_some [] k s is = absurd (none-some s is)
  slot_some (x ∷ slots) zero s is = ap Some is
  slot_some (x ∷ slots) (suc k) s is = slot_some slots k s is

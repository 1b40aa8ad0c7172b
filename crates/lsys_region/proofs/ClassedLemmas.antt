-- The entries with their classes, after one of them was written or added.
use Rattle.std.proofs.Common.{◌≡◌, ℕ, zero, suc, ◌+◌, ◌-◌, ◌^◌, List, [], ◌∷◌, ◌++◌, length, set, Some, slice_get, inl, inr, refl, sym, ap, ◌∙◌, arith, zero-add}
use Rattle.std.proofs.lemmas.Nat.{pow_below}
use Rattle.std.proofs.lemmas.Bool.{cases_order}
use Rattle.std.proofs.lemmas.Option.{same_Some, none-some}
use Rattle.lsys_region.specs.declared.packed.PackedPart.{PackedPart}
use Rattle.lsys_region.specs.declared.packed.State.{State}
use Rattle.lsys_region.specs.Entries.{Classed, begin_of, exponent_of, classed}
use Rattle.lsys_region.proofs.RoomLemmas.{IsFirstPower, exponent_from_first, below_pow}

same_first : (class exponent : ℕ) → IsFirstPower 0 (2 ^ class) exponent → exponent ≡ class
same_first class exponent first =
    elim (cases_order exponent class) [
      | inl same ↦ same
      | inr apart ↦ elim apart [
        | inl less ↦ absurd (omega (arith, first.fits, pow_below exponent class less))
        | inr more ↦ absurd (omega (arith, first.below class (omega arith) more))
      ]
    ]

-- the exponent of the room of a class is the class
pub exponent_of-pow : (class : ℕ) → exponent_of (2 ^ class) ≡ class
unfolding exponent_of
exponent_of-pow class =
    same_first class _ (exponent_from_first (2 ^ class) 0 (2 ^ class) (rw (zero-add (2 ^ class)) (omega (arith, below_pow (2 ^ class)))))

pub length-classed : (entries : List PackedPart) (end : ℕ) → length (classed entries end) ≡ length entries
length-classed [] end = refl
length-classed (entry ∷ entries) end = ap suc (length-classed entries end)

-- the entry itself
pub entry_of-classed : (entries : List PackedPart) (end n : ℕ) (found : Classed) → slice_get (classed entries end) n ≡ Some found → slice_get entries n ≡ Some (record { start = found.start; state = found.state })
entry_of-classed [] end n found here = absurd (none-some found here)
entry_of-classed (entry ∷ entries) end zero found here =
    ap (λ (e : Classed). Some (record { start = e.start; state = e.state })) (same_Some _ found here)
entry_of-classed (entry ∷ entries) end (suc n) found here = entry_of-classed entries end n found here

begin_of-set : (entries : List PackedPart) (end i : ℕ) (entry : PackedPart) (was : Classed) → slice_get (classed entries end) i ≡ Some was → entry.start ≡ was.start → begin_of (set entries i entry) end ≡ begin_of entries end
begin_of-set [] end i entry was here same = absurd (none-some was here)
begin_of-set (first ∷ entries) end zero entry was here same =
    same ∙ sym (ap (λ (e : Classed). e.start) (same_Some _ was here))
begin_of-set (first ∷ entries) end (suc i) entry was here same = refl

-- a write that leaves where the part begins leaves the classes
pub classed-set : (entries : List PackedPart) (end i : ℕ) (entry : PackedPart) (was : Classed) → slice_get (classed entries end) i ≡ Some was → entry.start ≡ was.start → classed (set entries i entry) end ≡ set (classed entries end) i (record { start = entry.start; class = was.class; state = entry.state })
classed-set [] end i entry was here same = absurd (none-some was here)
classed-set (first ∷ entries) end zero entry was here same =
    let own = same_Some _ was here in
    let begins : entry.start ≡ first.start = same ∙ sym (ap (λ (e : Classed). e.start) own) in
    let class : exponent_of (begin_of entries end - entry.start) ≡ was.class = ap (λ s. exponent_of (begin_of entries end - s)) begins ∙ ap (λ (e : Classed). e.class) own in
    ap (λ c. record { start = entry.start; class = c; state = entry.state } ∷ classed entries end) class
classed-set (first ∷ entries) end (suc i) entry was here same =
    ap (λ b. record { start = first.start; class = exponent_of (b - first.start); state = first.state } ∷ classed (set entries i entry) end) (begin_of-set entries end i entry was here same)
    ∙ ap (λ (es : List Classed). record { start = first.start; class = exponent_of (begin_of entries end - first.start); state = first.state } ∷ es) (classed-set entries end i entry was here same)

begin_of-push : (entries : List PackedPart) (end after : ℕ) (state : State) → begin_of (entries ++ record { start = end; state = state } ∷ []) after ≡ begin_of entries end
begin_of-push [] end after state = refl
begin_of-push (first ∷ entries) end after state = refl

-- an entry is added where the last part ended
pub classed-push : (entries : List PackedPart) (end class : ℕ) (state : State) → classed (entries ++ record { start = end; state = state } ∷ []) (end + 2 ^ class) ≡ classed entries end ++ record { start = end; class = class; state = state } ∷ []
classed-push [] end class state =
    let room : end + 2 ^ class - end ≡ 2 ^ class = omega arith in
    ap (λ c. record { start = end; class = c; state = state } ∷ []) (ap exponent_of room ∙ exponent_of-pow class)
classed-push (first ∷ entries) end class state =
    ap (λ b. record { start = first.start; class = exponent_of (b - first.start); state = first.state } ∷ classed (entries ++ record { start = end; state = state } ∷ []) (end + 2 ^ class)) (begin_of-push entries end (end + 2 ^ class) state)
    ∙ ap (λ (es : List Classed). record { start = first.start; class = exponent_of (begin_of entries end - first.start); state = first.state } ∷ es) (classed-push entries end class state)

-- Old symbols in the order of their origins, and where a search among them ends.
use Rattle.std.proofs.Common.{◌≡◌, ℕ, ◌+◌, ◌<◌, ◌≤◌, IfSome, IfNone, Option, Some, None, Err, List, [], ◌∷◌, ◌++◌, length, get_or, refl, sym, ap, ◌∙◌, subst, arith, inl, inr}
use Rattle.std.specs.Prelude.{slice_get}
use Rattle.std.proofs.lemmas.Bool.{cases_lt}
use Rattle.std.proofs.lemmas.Option.{slice_get_within}
use Rattle.std.proofs.lemmas.List.{get_or_default}
use Rattle.std.proofs.lemmas.List.Elements.{All-push, Contains-push, Contains-append_left}
use Rattle.std.specs.Ordering.{nat_cmp, ordering_then}
use Rattle.std.specs.declared.cmp.Ordering.{Ordering}
use Rattle.std.specs.declared.cmp.Ordering.TheVariants.{Less, Equal, Greater}
use Rattle.std.specs.Cmp.{IsTotalOrder}
use Rattle.std.specs.List.{All, Contains, HoldsAt}
use Rattle.std.specs.List.Sorted.{IsSortedByKey, IsPermutation, IsBinarySearchResult}
use Rattle.std.proofs.lemmas.Cmp.{nat_cmp_total, on_total, then_total, ranked, tied_itself}
use Rattle.std.proofs.lemmas.List.Sorted.{searchable_from_sorted, All-permutation, Contains-permutation}
use Rattle.lsys_flat.specs.declared.origin.Origin.{Origin}
use Rattle.lsys_flat.specs.declared.places.Placed.{Placed}
use Rattle.lsys_flat.specs.Lookups.{origin_cmp, IsPlaceOf, ArePlacesOf, StandsAt, StandsNowhere}

origins_ordered : IsTotalOrder origin_cmp
origins_ordered = then_total (on_total (λ (o : Origin). o.parent) nat_cmp_total) (then_total (on_total (λ (o : Origin). o.code) nat_cmp_total) (on_total (λ (o : Origin). o.count) nat_cmp_total))

both_equal : (a b : Ordering) → ordering_then a b ≡ Equal → (a ≡ Equal) × (b ≡ Equal)
both_equal Less b e = cc
both_equal Equal b e = (refl, e)
both_equal Greater b e = cc

same_origin : (a b : Origin) → origin_cmp a b ≡ Equal → a ≡ b
same_origin a b e =
    let one = both_equal (nat_cmp a.parent b.parent) (ordering_then (nat_cmp a.code b.code) (nat_cmp a.count b.count)) e in
    let two = both_equal (nat_cmp a.code b.code) (nat_cmp a.count b.count) one.1 in
    let parent : a.parent ≡ b.parent = ranked _ _ Equal (sym one.0) in
    let code : a.code ≡ b.code = ranked _ _ Equal (sym two.0) in
    let count : a.count ≡ b.count = ranked _ _ Equal (sym two.1) in λ i. record { parent = parent i; code = code i; count = count i }

-- where a search by origins ends
pub found_at : (ps : List Placed) (o : Origin) (i : ℕ) (d : Placed) → i < length ps → HoldsAt (λ p. origin_cmp p.origin o ≡ Equal) ps i → StandsAt ps o (get_or ps i d).place
found_at ps o i d l e =
    let origin : (get_or ps i d).origin ≡ o = same_origin (get_or ps i d).origin o (e d) in
    (i, l, get_or_default ps i _ d l ∙ (λ k. record { origin = origin k; place = (get_or ps i d).place }))

pub found_nowhere : (ps : List Placed) (o : Origin) (i : ℕ) → IsSortedByKey (λ p. p.origin) origin_cmp ps → IsBinarySearchResult (λ p. origin_cmp p.origin o) ps (Err i) → StandsNowhere ps o
found_nowhere ps o i h r p s =
    let x : Placed = record { origin = o; place = p } in
    let there : origin_cmp (get_or ps s.0 x).origin o ≡ Equal = ap (λ x. origin_cmp x.origin o) s.2 ∙ tied_itself origins_ordered o in
    let parted = r (searchable_from_sorted origins_ordered (λ p. p.origin) ps o h) in
    elim (cases_lt s.0 i) [
      | inl before ↦ let less : Less ≡ Equal = sym (parted.0 s.0 x (omega arith) before) ∙ there in cc
      | inr after ↦ let greater : Greater ≡ Equal = sym (parted.1 s.0 x after s.1) ∙ there in cc
    ]

-- a front of the origins with their places
pub record AreFront (old : List Origin) (placed : List Placed) (i : ℕ) : Type 0 where
  pub each : All (λ p. slice_get old p.place ≡ Some p.origin) placed
  pub whole : (p : ℕ) (o : Origin) → p < i → slice_get old p ≡ Some o → Contains placed (record { origin = o; place = p })

pub no_front : (old : List Origin) → AreFront old [] 0
no_front old = record { each = λ k d l. absurd (omega (arith, l)); whole = λ p o l. absurd (omega (arith, l)) }

pub front_more : (old : List Origin) (placed : List Placed) (i : ℕ) (o : Origin) → AreFront old placed i → slice_get old i ≡ Some o → AreFront old (placed ++ record { origin = o; place = i } ∷ []) (i + 1)
front_more old placed i o h g = record {
  each = All-push (λ p. slice_get old p.place ≡ Some p.origin) placed (record { origin = o; place = i }) h.each g;
  whole = λ p u l e. elim (cases_lt p i) [
    | inl before ↦ Contains-append_left placed _ _ (h.whole p u before e)
    | inr after ↦
        let here : p ≡ i = omega (arith, l, after) in
        let same : u ≡ o = let both : Some u ≡ Some o = sym e ∙ ap (slice_get old) here ∙ g in cc in
        subst (Contains (placed ++ record { origin = o; place = i } ∷ [])) (λ j. record { origin = sym same j; place = sym here j }) (Contains-push placed (record { origin = o; place = i }))
  ];
}

pub front_sorted : (old : List Origin) (placed sorted : List Placed) (i : ℕ) → AreFront old placed i → length old ≤ i → IsPermutation placed sorted → IsSortedByKey (λ p. p.origin) origin_cmp sorted → ArePlacesOf old sorted
front_sorted old placed sorted i h l m s = record {
  each = All-permutation (λ p. slice_get old p.place ≡ Some p.origin) placed sorted m h.each;
  whole = λ p o e. Contains-permutation placed sorted _ m (h.whole p o (let k : p < length old = slice_get_within old p o e in omega (arith, k, l)) e);
  order = s;
}

-- what a search among the sorted ones tells of the old level
pub looked_up : (old : List Origin) (ps : List Placed) (o : Origin) (r : Option ℕ) → ArePlacesOf old ps → IfSome r (StandsAt ps o) → IfNone r (StandsNowhere ps o) → IsPlaceOf old o r
looked_up old ps o (Some p) h some none = let x : Placed = record { origin = o; place = p } in subst (λ (x : Placed). slice_get old x.place ≡ Some x.origin) some.2 (h.each some.0 x some.1)
looked_up old ps o None h some none = λ p e. none p (h.whole p o e)

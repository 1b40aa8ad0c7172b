-- Where tags are equal exactly where level and lineage are, no tag stands twice.
use Rattle.std.proofs.Common.{◌≡◌, ℕ, zero, suc, ◌<◌, Some, List, [], ◌∷◌, length, get_or, sym, ap, ◌∙◌, arith}
use Rattle.std.specs.Prelude.{slice_get, option_map}
use Rattle.std.proofs.lemmas.Option.{slice_get-map, slice_get_within, slice_get-get_or}
use Rattle.lsys_spec.specs.Systems.{Each}
use Rattle.lsys_spec.specs.Levels.{LevelSymbol, Push, lineage}
use Rattle.lsys_spec.specs.Cuts.{Distinct}
use Rattle.lsys_spec.proofs.Rising.{distinct_apart}
use Rattle.lsys_level.specs.Spots.{Spotted}
use Rattle.lsys_level.specs.Tags.{HasOwnTags}
use Rattle.lsys_flat.specs.Tagged.{Tagged, all_tagged, Agree, AgreeAll, HaveTags}
use Rattle.lsys_flat.proofs.Agreeing.{In, each_in, in_old, distinct_at}

-- a symbol of the levels, with the tag that stands at a spot
pub record StandsAt (ys : List (List LevelSymbol)) (tags : List (List ℕ)) (t p tag : ℕ) : Type 0 where
  pub symbol : LevelSymbol
  pub there : slice_get (get_or ys t []) p ≡ Some symbol
  pub has_tag : slice_get (get_or tags t []) p ≡ Some tag

pub stands_at : (ys : List (List LevelSymbol)) (tags : List (List ℕ)) (xs : List (List Spotted)) → HaveTags ys tags xs → (t p : ℕ) (a : Spotted) → slice_get (get_or xs t []) p ≡ Some a → StandsAt ys tags t p a.tag
stands_at [] [] [] h t p a g = cc
stands_at (y ∷ ys) (ks ∷ tags) (x ∷ xs) h zero p a g =
    let l : p < length x = slice_get_within x p a g in
    record {
      symbol = get_or y p (Push []);
      there = slice_get-get_or y p (Push []) (omega (arith, l, h.0));
      has_tag = ap (λ ks. slice_get ks p) (sym h.1) ∙ slice_get-map (λ s. s.tag) x p ∙ ap (option_map (λ s. s.tag)) g;
    }
stands_at (y ∷ ys) (ks ∷ tags) (x ∷ xs) h (suc t) p a g =
    let r = stands_at ys tags xs h.2 t p a g in record { symbol = r.symbol; there = r.there; has_tag = r.has_tag }
stands_at ys tags xs h t p a g = absurd h

pub own_tags : (ys : List (List LevelSymbol)) (tags : List (List ℕ)) (spots : List (List Spotted)) → Each Distinct ys → AgreeAll (all_tagged 0 ys tags) (all_tagged 0 ys tags) → HaveTags ys tags spots → HasOwnTags spots
own_tags ys tags spots r agree h = record { apart = λ t u p q a b f g e. by t u p q a b e (stands_at ys tags spots h t p a f) (stands_at ys tags spots h u q b g) }
  where
    by : (t u p q : ℕ) (a b : Spotted) → a.tag ≡ b.tag → StandsAt ys tags t p a.tag → StandsAt ys tags u q b.tag → (t ≡ u) × (p ≡ q)
    by t u p q a b e v w =
        let one : Tagged = record { level = t; line = lineage v.symbol; tag = a.tag } in
        let other : Tagged = record { level = u; line = lineage w.symbol; tag = b.tag } in
        let i : In one (all_tagged 0 ys tags) = in_old ys tags 0 t t p v.symbol a.tag (omega arith) v.there v.has_tag in
        let j : In other (all_tagged 0 ys tags) = in_old ys tags 0 u u q w.symbol b.tag (omega arith) w.there w.has_tag in
        let both : Agree one other = each_in (Agree one) (all_tagged 0 ys tags) other (each_in (λ a. Each (Agree a) (all_tagged 0 ys tags)) (all_tagged 0 ys tags) one agree i) j in
        let same = both.0 e in
        (same.0, distinct_apart (get_or ys t []) (distinct_at ys t r) p q v.symbol w.symbol v.there (ap (λ t. slice_get (get_or ys t []) q) same.0 ∙ w.there) same.1)

-- One symbol of the level is passed.
use Rattle.std.proofs.Common.{◌≡◌, ℕ, ℤ, zero, suc, ◌+◌, ◌<◌, Bool, true, false, Ok, Err, nat_lt, if◌then◌else◌, Option, Some, None, List, [], ◌∷◌, length, drop, slice_get, refl, ap, ap₂, sym, ◌∙◌, add-one, arith}
use Rattle.std.specs.Prelude.{option_map, MatchOption}
use Rattle.lsys_spec.specs.Systems.{Homomorphism}
use Rattle.std.proofs.lemmas.Bool.Decides.{nat_tests}
use Rattle.lsys_syntax.specs.Limits.{most_image_symbols}
use Rattle.lsys_syntax.specs.Strings as S
use Rattle.lsys_spec.specs.Levels.{plain}
use Rattle.lsys_spec.specs.Images.{ImageLimit, within_image}
use Rattle.lsys_level.specs.Spots.{Seen, Push, Pop, Module, Spotted, spots_at, with_lineage}
use Rattle.lsys_hom.specs.Coming.{Coming, coming_from, modules_after, symbol_image, coming_with}
use Rattle.lsys_hom.specs.Ways.{at, bare_level, symbols_from}

-- what stands at a place, and what stands after it
pub record Stands (x : List Spotted) (p : ℕ) (v : Seen) : Type 0 where
  pub spotted : Spotted
  pub is : drop p x ≡ spotted ∷ drop (suc p) x
  pub seen : spotted.seen ≡ v

stands : (x : List Spotted) (p : ℕ) (v : Seen) → option_map (λ s. s.seen) (slice_get x p) ≡ Some v → Stands x p v
stands [] p v e = absurd (cc)
stands (s ∷ x) zero v e = record { spotted = s; is = refl; seen = cc }
stands (s ∷ x) (suc p) v e = let h = stands x p v e in record { spotted = h.spotted; is = h.is; seen = h.seen }

abbrev pub after : List Homomorphism → ℕ → ℕ → Seen → List Spotted → ℕ → Coming
after hs n k v rest j = coming_from hs (modules_after n (with_lineage [] v)) (k + j) (bare_level rest)

pub coming_passed : (hs : List Homomorphism) (n k : ℕ) (x : List Spotted) (p : ℕ) (v : Seen) → option_map (λ s. s.seen) (slice_get x p) ≡ Some v
    → coming_from hs n k (bare_level (drop p x)) ≡ coming_with (symbol_image hs n k (with_lineage [] v)) (after hs n k v (drop (p + 1) x))
coming_passed hs n k x p v e =
    let h = stands x p v e in
    ap (λ r. coming_from hs n k (bare_level r)) h.is
    ∙ ap (λ w. coming_with (symbol_image hs n k (with_lineage [] w)) (after hs n k w (drop (suc p) x))) h.seen
    ∙ ap (λ q. coming_with (symbol_image hs n k (with_lineage [] v)) (after hs n k v (drop q x))) (sym (add-one p))

within_one : (k : ℕ) (x : S.Symbol ℤ) → k < most_image_symbols → within_image k (x ∷ []) ≡ Ok (x ∷ [])
within_one k x h = by (nat_lt most_image_symbols (k + 1)) refl
  where
    by : (over : Bool) → nat_lt most_image_symbols (k + 1) ≡ over → (if over then Err ImageLimit else Ok (x ∷ [])) ≡ Ok (x ∷ [])
    by true e = absurd (grind (arith, nat_tests))
    by false e = refl

-- without rules a symbol is its own image, where the limit isn't reached
pub kept_image : (n k : ℕ) (v : Seen) → k < most_image_symbols → symbol_image [] n k (with_lineage [] v) ≡ Ok (plain (with_lineage [] v) ∷ [])
kept_image n k Push h = within_one k S.Push h
kept_image n k Pop h = within_one k S.Pop h
kept_image n k (Module m) h = within_one k (S.Module m.name m.params) h

-- fewer symbols are left
pub left_passed : (x : List Spotted) (p : ℕ) (v : Seen) → option_map (λ s. s.seen) (slice_get x p) ≡ Some v → length (drop (p + 1) x) < length (drop p x)
left_passed x p v e =
    let h = stands x p v e in
    let l : length (drop p x) ≡ suc (length (drop (suc p) x)) = ap length h.is in
    let m : length (drop (p + 1) x) ≡ length (drop (suc p) x) = ap (λ q. length (drop q x)) (add-one p) in
    omega (arith, l, m)

none_after : (x : List Spotted) (p : ℕ) → p ≡ length x → [] ≡ drop p x
none_after [] p e = rw e refl
none_after (s ∷ x) zero e = absurd (omega (arith, e))
none_after (s ∷ x) (suc p) e = none_after x p (omega (arith, e))

-- the spot to the right stands before what is left
pub right_rest : {S : Type 0} (level_of place_of : S → ℕ) (levels : List (List Spotted)) (t p : ℕ) (spot : Option S)
    → MatchOption spot (p + 1 ≡ length (spots_at levels t)) (λ s. (level_of s ≡ t) × (place_of s ≡ p + 1) × (place_of s < length (spots_at levels t)))
    → symbols_from levels (at level_of place_of spot) ≡ drop (p + 1) (spots_at levels t)
right_rest level_of place_of levels t p None e = none_after (spots_at levels t) (p + 1) e
right_rest level_of place_of levels t p (Some s) h = ap₂ (λ u q. drop q (spots_at levels u)) h.0 h.1

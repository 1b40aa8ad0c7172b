-- How a symbol stands, by its place.
use Rattle.std.proofs.Common.{◌≡◌, ℕ, zero, suc, List, [], ◌∷◌, ◌+◌, Bool, true, false, Option, Some, None, refl, ap, sym, ◌∙◌, arith}
use Rattle.std.specs.Prelude.{option_map, slice_get}
use Rattle.lsys_spec.specs.Levels.{LevelSymbol, lineage, IsLevel}
use Rattle.lsys_spec.specs.Standings.{standing, first_or, place_of, standing_of, Settled}
use Rattle.lsys_spec.specs.Equalities.{same_lineage}
use Rattle.lsys_spec.proofs.Equal.{same_lineage_refl, same_lineage_true}

pub place_told : (l : List ℕ) (x : List LevelSymbol) (q : ℕ) → place_of l x ≡ Some q → (t : LevelSymbol) × (slice_get x q ≡ Some t) × (lineage t ≡ l)
place_told l [] q h = cc
place_told l (s ∷ x) q h = at (same_lineage l (lineage s)) refl (place_of l x) refl h (place_told l x)
  where
    at : (b : Bool) → same_lineage l (lineage s) ≡ b → (o : Option ℕ) → place_of l x ≡ o → first_or b o ≡ Some q
        → ((q : ℕ) → place_of l x ≡ Some q → (t : LevelSymbol) × (slice_get x q ≡ Some t) × (lineage t ≡ l)) → (t : LevelSymbol) × (slice_get (s ∷ x) q ≡ Some t) × (lineage t ≡ l)
    at true e o g h ih = let z : 0 ≡ q = cc in (s, ap (slice_get (s ∷ x)) (sym z), sym (same_lineage_true l (lineage s) e))
    at false e None g h ih = cc
    at false e (Some p) g h ih =
        let n : p + 1 ≡ q = cc in
        let n' : q ≡ suc p = omega (arith, n) in
        let r = ih p g in (r.0, ap (slice_get (s ∷ x)) n' ∙ r.1, r.2)

pub place_found : (l : List ℕ) (x : List LevelSymbol) (p : ℕ) (s : LevelSymbol) → slice_get x p ≡ Some s → lineage s ≡ l → (q : ℕ) × (place_of l x ≡ Some q)
place_found l [] p s h e = cc
place_found l (t ∷ x) zero s h e =
    let i : t ≡ s = cc in
    let b : same_lineage l (lineage t) ≡ true = ap (λ t. same_lineage l (lineage t)) i ∙ ap (same_lineage l) e ∙ same_lineage_refl l in
    (0, ap (λ b. first_or b (place_of l x)) b)
place_found l (t ∷ x) (suc p) s h e = at (same_lineage l (lineage t)) (place_found l x p s h e)
  where
    at : (b : Bool) → (q : ℕ) × (place_of l x ≡ Some q) → (q : ℕ) × (first_or b (place_of l x) ≡ Some q)
    at true r = (0, refl)
    at false r = (r.0 + 1, ap (option_map (λ p. p + 1)) r.1)

pub place_is : (x : List LevelSymbol) (p : ℕ) (s : LevelSymbol) → IsLevel x → slice_get x p ≡ Some s → place_of (lineage s) x ≡ Some p
place_is x p s l h =
    let f = place_found (lineage s) x p s h refl in
    let t = place_told (lineage s) x f.0 f.1 in
    f.1 ∙ ap (λ q. Some q) (l.apart f.0 p t.0 s t.1 h t.2)

-- where a symbol that stands at both places isn't disturbed, it stands there in the same way
pub stands : (x y : List LevelSymbol) (p q : ℕ) (s : LevelSymbol) → IsLevel x → IsLevel y → slice_get x p ≡ Some s → slice_get y q ≡ Some s → Settled x y (lineage s)
    → standing y q ≡ standing x p
stands x y p q s l m h g e =
    let a : standing_of x (lineage s) ≡ Some (standing x p) = ap (option_map (standing x)) (place_is x p s l h) in
    let b : standing_of y (lineage s) ≡ Some (standing y q) = ap (option_map (standing y)) (place_is y q s m g) in
    let c : Some (standing y q) ≡ Some (standing x p) = sym b ∙ e ∙ a in
    cc

-- a symbol that isn't disturbed is there
pub still_there : (x y : List LevelSymbol) (p : ℕ) (s : LevelSymbol) → IsLevel x → slice_get x p ≡ Some s → Settled x y (lineage s) → (q : ℕ) × (place_of (lineage s) y ≡ Some q) × (slice_get y q ≡ Some s)
still_there x y p s l h e = at (place_of (lineage s) y) refl
  where
    at : (o : Option ℕ) → place_of (lineage s) y ≡ o → (q : ℕ) × (place_of (lineage s) y ≡ Some q) × (slice_get y q ≡ Some s)
    at None g =
        let a : standing_of x (lineage s) ≡ Some (standing x p) = ap (option_map (standing x)) (place_is x p s l h) in
        let b : standing_of y (lineage s) ≡ None = ap (option_map (standing y)) g in
        let c : None ≡ Some (standing x p) = sym b ∙ e ∙ a in cc
    at (Some q) g =
        let a : standing_of x (lineage s) ≡ Some (standing x p) = ap (option_map (standing x)) (place_is x p s l h) in
        let b : standing_of y (lineage s) ≡ Some (standing y q) = ap (option_map (standing y)) g in
        let c : Some (standing y q) ≡ Some (standing x p) = sym b ∙ e ∙ a in
        let d : standing y q ≡ standing x p = cc in
        (q, g, ap (λ t. t.symbol) d ∙ h)

-- Two symbols of a level don't have the same old symbol.
use Rattle.std.proofs.Common.{◌≡◌, ℕ, Option, Some, None, List, refl, sym, ap, ◌∙◌}
use Rattle.std.specs.Prelude.{slice_get, option_map}
use Rattle.std.proofs.lemmas.Option.{slice_get-map}
use Rattle.lsys_spec.specs.Levels.{LevelSymbol, lineage}
use Rattle.lsys_spec.specs.Standings.{place_of}
use Rattle.lsys_spec.specs.Cuts.{Distinct}
use Rattle.lsys_spec.proofs.Rising.{distinct_apart}
use Rattle.lsys_spec.proofs.Standings.{place_told}
use Rattle.lsys_laws.specs.KeptQuestions.{places_in}
use Rattle.lsys_flat.specs.Moves.{AreTakenOnce, AreOfMates}

-- the symbol that has its mate at a place
mated : (x y : List LevelSymbol) (p j : ℕ) → slice_get (places_in x y) p ≡ Some (Some j) → (s : LevelSymbol) × (slice_get y p ≡ Some s) × (place_of (lineage s) x ≡ Some j)
mated x y p j g = by (slice_get y p) refl (sym (slice_get-map (λ s. place_of (lineage s) x) y p) ∙ g)
  where
    by : (o : Option LevelSymbol) → slice_get y p ≡ o → option_map (λ s. place_of (lineage s) x) (slice_get y p) ≡ Some (Some j) → (s : LevelSymbol) × (slice_get y p ≡ Some s) × (place_of (lineage s) x ≡ Some j)
    by None e h = let no : None ≡ Some (Some j) = sym (ap (option_map (λ s. place_of (lineage s) x)) e) ∙ h in cc
    by (Some s) e h = let same : Some (place_of (lineage s) x) ≡ Some (Some j) = sym (ap (option_map (λ s. place_of (lineage s) x)) e) ∙ h in (s, e, cc)

pub mates_apart : (x y : List LevelSymbol) (places : List (Option ℕ)) → Distinct y → AreOfMates (places_in x y) places → AreTakenOnce places
mates_apart x y places r m p q j f g =
    let a = mated x y p j (m p j f) in
    let b = mated x y q j (m q j g) in
    let c = place_told (lineage a.0) x j a.2 in
    let d = place_told (lineage b.0) x j b.2 in
    let same : c.0 ≡ d.0 = let e : Some c.0 ≡ Some d.0 = sym c.1 ∙ d.1 in cc in
    distinct_apart y r p q a.0 b.0 a.1 b.1 (sym c.2 ∙ ap lineage same ∙ d.2)

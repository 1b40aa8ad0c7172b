-- What is seen of levels has the keys of their lineages.
use Rattle.std.proofs.Common.{◌≡◌, ℕ, zero, suc, Some, List, [], ◌∷◌, length, sym, ap, ◌∙◌, arith, get_or}
use Rattle.std.specs.Prelude.{slice_get, option_map}
use Rattle.std.proofs.lemmas.Option.{slice_get-map}
use Rattle.lsys_spec.specs.Draws.{key_of}
use Rattle.lsys_spec.specs.Levels.{ModuleValue, LevelSymbol, lineage}
use Rattle.lsys_spec.specs.Levels as L
use Rattle.lsys_level.specs.Spots.{Spotted, Module, spots_at, named, seen_by}
use Rattle.lsys_flat.specs.Lines.{Descent, AreLines}
use Rattle.lsys_flat.specs.Revised.{AreOldLevels, all_spots, spots_by, tags_of}
use Rattle.lsys_flat.specs.Counted.{AreKeyed}

spot_of : (seed : ℕ) (y : List LevelSymbol) (ks : List ℕ) → length ks ≡ length y → (p : ℕ) (s : LevelSymbol) → slice_get y p ≡ Some s
    → (k : ℕ) × (slice_get (spots_by seed y ks) p ≡ Some (record { seen = seen_by s; tag = k; key = key_of seed (lineage s) }))
spot_of seed [] ks e p s g = cc
spot_of seed (a ∷ y) [] e p s g = absurd (omega (arith, e))
spot_of seed (a ∷ y) (k ∷ ks) e zero s g = let same : a ≡ s = cc in (k, ap (λ a. Some (record { seen = seen_by a; tag = k; key = key_of seed (lineage a) })) same)
spot_of seed (a ∷ y) (k ∷ ks) e (suc p) s g = spot_of seed y ks (omega (arith, e)) p s g

spot_there : (seed : ℕ) (above : List LevelSymbol) (ys : List (List LevelSymbol)) (ls : List Descent) → AreLines above ys ls → (t p : ℕ) (s : LevelSymbol) → slice_get (get_or ys t []) p ≡ Some s
    → (k : ℕ) × (slice_get (get_or (all_spots seed ys (tags_of ls)) t []) p ≡ Some (record { seen = seen_by s; tag = k; key = key_of seed (lineage s) }))
spot_there seed above [] [] h t p s g = cc
spot_there seed above [] (l ∷ ls) h t p s g = absurd h
spot_there seed above (y ∷ ys) [] h t p s g = absurd h
spot_there seed above (y ∷ ys) (l ∷ ls) h zero p s g = spot_of seed y l.tags h.1 p s g
spot_there seed above (y ∷ ys) (l ∷ ls) h (suc t) p s g = spot_there seed y ys ls h.2 t p s g

pub all_keyed : (seed : ℕ) (xs : List (List LevelSymbol)) (lines : List Descent) → AreOldLevels xs lines → AreKeyed seed xs (all_spots seed xs (tags_of lines))
all_keyed seed xs lines h = record {
  each = λ naming t p l m e g.
      let rows : List (List Spotted) = all_spots seed xs (tags_of lines) in
      let s = spot_there seed _ xs lines h.lines t p (L.Module l m) g in
      let there : slice_get (spots_at (all_spots seed xs (tags_of lines)) t) p ≡ Some (record { seen = Module m; tag = s.0; key = key_of seed l }) = s.1 in
      let name : naming s.0 ≡ l =
      let both : Some (L.Module (naming s.0) m) ≡ Some (L.Module l m) = sym (slice_get-map (named naming) (spots_at (all_spots seed xs (tags_of lines)) t) p ∙ ap (option_map (named naming)) there) ∙ ap (λ (x : List LevelSymbol). slice_get x p) e ∙ g in cc in
      record { tag = s.0; here = there ∙ ap (λ l. Some (record { seen = Module m; tag = s.0; key = key_of seed l })) (sym name); line = name };
}

-- What is seen of a level.
use Rattle.std.proofs.Common.{◌≡◌, ℕ, suc, Option, Some, None, List, [], ◌∷◌, length, refl, sym, ap, ◌∙◌}
use Rattle.std.specs.Prelude.{slice_get, option_map}
use Rattle.std.proofs.lemmas.Option.{slice_get-map}
use Rattle.lsys_syntax.specs.Strings as S
use Rattle.lsys_spec.specs.Draws.{key_of}
use Rattle.lsys_spec.specs.Levels as L
use Rattle.lsys_spec.specs.Levels.{LevelSymbol, lineage, plain}
use Rattle.lsys_level.specs.Spots.{Seen, Push, Pop, Module, Spotted, with_lineage, named, level_by, seen_by}
use Rattle.lsys_flat.specs.Replaced.{IsSymbolAt}
use Rattle.lsys_flat.specs.Rounds.{ShowsLevel, seen_alone}

seen_with : (l : List ℕ) (e : Seen) → seen_by (with_lineage l e) ≡ e
seen_with l Push = refl
seen_with l Pop = refl
seen_with l (Module m) = refl

line_with : (l : List ℕ) (e : Seen) → lineage (with_lineage l e) ≡ l
line_with l Push = refl
line_with l Pop = refl
line_with l (Module m) = refl

-- the spot of a symbol
pub spot_of : (naming : ℕ → List ℕ) (row : List Spotted) (x : List LevelSymbol) (p : ℕ) (a : LevelSymbol) → level_by naming row ≡ x → slice_get x p ≡ Some a → (b : Spotted) × (slice_get row p ≡ Some b) × (b.seen ≡ seen_by a) × (naming b.tag ≡ lineage a)
spot_of naming row x p a e h = by (slice_get row p) refl (sym (slice_get-map (named naming) row p) ∙ ap (λ y. slice_get y p) e ∙ h)
  where
    by : (o : Option Spotted) → slice_get row p ≡ o → option_map (named naming) o ≡ Some a → (b : Spotted) × (slice_get row p ≡ Some b) × (b.seen ≡ seen_by a) × (naming b.tag ≡ lineage a)
    by None f g = cc
    by (Some b) f g =
        let same : with_lineage (naming b.tag) b.seen ≡ a = cc in
        (b, f, sym (seen_with (naming b.tag) b.seen) ∙ ap seen_by same, sym (line_with (naming b.tag) b.seen) ∙ ap lineage same)

pub symbol_there : (naming : ℕ → List ℕ) (seed : ℕ) (row : List Spotted) (x : List LevelSymbol) (p : ℕ) (a : LevelSymbol) → ShowsLevel naming seed row x → slice_get x p ≡ Some a → IsSymbolAt naming seed row p a
symbol_there naming seed row x p a h e =
    let b = spot_of naming row x p a h.string e in
    let key : b.0.key ≡ key_of seed (lineage a) = h.keys p b.0 b.1 ∙ ap (key_of seed) b.3 in
    record { tag = b.0.tag; here = b.1 ∙ (λ i. Some (record { seen = b.2 i; tag = b.0.tag; key = key i })); line = b.3 }

length_level : (naming : ℕ → List ℕ) (row : List Spotted) → length (level_by naming row) ≡ length row
length_level naming [] = refl
length_level naming (b ∷ row) = ap suc (length_level naming row)

pub row_length : (naming : ℕ → List ℕ) (seed : ℕ) (row : List Spotted) (x : List LevelSymbol) → ShowsLevel naming seed row x → length x ≡ length row
row_length naming seed row x h = ap length (sym h.string) ∙ length_level naming row

-- the key that is seen
pub key_there : (naming : ℕ → List ℕ) (seed : ℕ) (row : List Spotted) (p : ℕ) (a : LevelSymbol) (key : ℕ) → IsSymbolAt naming seed row p a → option_map (λ s. s.key) (slice_get row p) ≡ Some key → key ≡ key_of seed (lineage a)
key_there naming seed row p a key h e =
    let both : Some key ≡ Some (key_of seed (lineage a)) = sym e ∙ ap (option_map (λ s. s.key)) h.here in cc

pub alone_plain : (a : LevelSymbol) → seen_alone (seen_by a) ≡ plain a ∷ []
alone_plain (L.Push l) = refl
alone_plain (L.Pop l) = refl
alone_plain (L.Module l m) = refl

-- What is seen of a level.
use Rattle.std.proofs.Common.{◌≡◌, ℕ, zero, suc, false, List, [], ◌∷◌, ◌++◌, length, map, refl, sym, ap, arith}
use Rattle.lsys_syntax.specs.Strings as S
use Rattle.lsys_spec.specs.Draws.{key_of}
use Rattle.lsys_spec.specs.Levels as L
use Rattle.lsys_spec.specs.Levels.{LevelSymbol, lineage, plain, level_balanced}
use Rattle.lsys_module.specs.Views.{symbol_of, string_of, module_name}
use Rattle.lsys_module.specs.declared.symbol.Symbol.{Symbol as Code}
use Rattle.lsys_module.specs.declared.symbol.Symbol.TheVariants as code
use Rattle.lsys_level.specs.Spots.{Module, seen_by}
use Rattle.lsys_level.specs.Places.{seen_in, spots_of, has_cut}
use Rattle.lsys_flat.specs.Tagged.{HaveTags}
use Rattle.lsys_flat.specs.Lines.{Descent, AreLines}
use Rattle.lsys_flat.specs.Revised.{spots_by, all_spots, tags_of}

seen_same : (a : LevelSymbol) (c : Code) → plain a ≡ symbol_of c → seen_in c ≡ seen_by a
seen_same (L.Push l) code.Push e = refl
seen_same (L.Push l) code.Pop e = cc
seen_same (L.Push l) code.Cut e = cc
seen_same (L.Push l) (code.Module m) e = cc
seen_same (L.Pop l) code.Push e = cc
seen_same (L.Pop l) code.Pop e = refl
seen_same (L.Pop l) code.Cut e = cc
seen_same (L.Pop l) (code.Module m) e = cc
seen_same (L.Module l k) code.Push e = cc
seen_same (L.Module l k) code.Pop e = cc
seen_same (L.Module l k) code.Cut e = cc
seen_same (L.Module l k) (code.Module m) e =
    let name : k.name ≡ module_name m.name = cc in
    let params : k.params ≡ m.params = cc in
    λ i. Module (record { name = sym name i; params = sym params i })

pub spots_same : (seed : ℕ) (y : List LevelSymbol) (symbols : List Code) (ks : List ℕ) → map plain y ≡ string_of symbols → spots_of symbols ks (map (λ s. key_of seed (lineage s)) y) ≡ spots_by seed y ks
spots_same seed [] [] ks e = refl
spots_same seed [] (c ∷ cs) ks e = cc
spots_same seed (a ∷ y) [] ks e = cc
spots_same seed (a ∷ y) (c ∷ cs) [] e = refl
spots_same seed (a ∷ y) (c ∷ cs) (k ∷ ks) e =
    let head : plain a ≡ symbol_of c = cc in
    let rest : map plain y ≡ string_of cs = cc in
    let seen = seen_same a c head in
    let more = spots_same seed y cs ks rest in
    (λ i. record { seen = seen i; tag = k; key = key_of seed (lineage a) } ∷ more i)

-- a level has no cuts
pub no_cut : (y : List LevelSymbol) (symbols : List Code) → map plain y ≡ string_of symbols → has_cut symbols ≡ false
no_cut [] [] e = refl
no_cut [] (c ∷ cs) e = cc
no_cut (a ∷ y) [] e = cc
no_cut (a ∷ y) (code.Push ∷ cs) e = let rest : map plain y ≡ string_of cs = cc in no_cut y cs rest
no_cut (a ∷ y) (code.Pop ∷ cs) e = let rest : map plain y ≡ string_of cs = cc in no_cut y cs rest
no_cut (a ∷ y) (code.Module m ∷ cs) e = let rest : map plain y ≡ string_of cs = cc in no_cut y cs rest
no_cut (L.Push l ∷ y) (code.Cut ∷ cs) e = cc
no_cut (L.Pop l ∷ y) (code.Cut ∷ cs) e = cc
no_cut (L.Module l m ∷ y) (code.Cut ∷ cs) e = cc

-- a balanced level is a balanced string
pub string_balanced : (n : ℕ) (y : List LevelSymbol) → level_balanced n y ≡ S.balanced n (map plain y)
string_balanced n [] = refl
string_balanced n (L.Module l m ∷ y) = string_balanced n y
string_balanced n (L.Push l ∷ y) = string_balanced (suc n) y
string_balanced zero (L.Pop l ∷ y) = refl
string_balanced (suc n) (L.Pop l ∷ y) = string_balanced n y

pub all_spots_push : (seed : ℕ) (ys : List (List LevelSymbol)) (kss : List (List ℕ)) (y : List LevelSymbol) (ks : List ℕ) → length kss ≡ length ys → all_spots seed (ys ++ y ∷ []) (kss ++ ks ∷ []) ≡ all_spots seed ys kss ++ spots_by seed y ks ∷ []
all_spots_push seed [] [] y ks e = refl
all_spots_push seed [] (k ∷ kss) y ks e = absurd (omega (arith, e))
all_spots_push seed (x ∷ ys) [] y ks e = absurd (omega (arith, e))
all_spots_push seed (x ∷ ys) (k ∷ kss) y ks e = ap (λ zs. spots_by seed x k ∷ zs) (all_spots_push seed ys kss y ks (omega (arith, e)))

-- they have these tags

spots_length : (seed : ℕ) (y : List LevelSymbol) (ks : List ℕ) → length ks ≡ length y → length (spots_by seed y ks) ≡ length y
spots_length seed [] ks e = refl
spots_length seed (s ∷ y) [] e = absurd (omega (arith, e))
spots_length seed (s ∷ y) (k ∷ ks) e = ap suc (spots_length seed y ks (omega (arith, e)))

spots_tags : (seed : ℕ) (y : List LevelSymbol) (ks : List ℕ) → length ks ≡ length y → map (λ s. s.tag) (spots_by seed y ks) ≡ ks
spots_tags seed [] [] e = refl
spots_tags seed [] (k ∷ ks) e = absurd (omega (arith, e))
spots_tags seed (s ∷ y) [] e = absurd (omega (arith, e))
spots_tags seed (s ∷ y) (k ∷ ks) e = ap (λ ks. k ∷ ks) (spots_tags seed y ks (omega (arith, e)))

pub spots_have : (seed : ℕ) (above : List LevelSymbol) (ys : List (List LevelSymbol)) (ls : List Descent) → AreLines above ys ls → HaveTags ys (tags_of ls) (all_spots seed ys (tags_of ls))
spots_have seed above [] [] h = tt
spots_have seed above [] (l ∷ ls) h = absurd h
spots_have seed above (y ∷ ys) [] h = absurd h
spots_have seed above (y ∷ ys) (l ∷ ls) h = (spots_length seed y l.tags h.1, spots_tags seed y l.tags h.1, spots_have seed y ys ls h.2)

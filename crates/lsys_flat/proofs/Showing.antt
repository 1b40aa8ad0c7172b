-- What is seen of levels with their tags and keys.
use Rattle.std.proofs.Common.{◌≡◌, ◌↔◌, ℕ, zero, suc, Some, List, [], ◌∷◌, length, map, get_or, refl, sym, ap, ◌∙◌, arith}
use Rattle.std.specs.Prelude.{slice_get, option_map, sum_by}
use Rattle.std.proofs.lemmas.List.Sums.{sum_by-cons}
use Rattle.std.proofs.lemmas.Option.{slice_get-map}
use Rattle.lsys_spec.specs.Draws.{key_of}
use Rattle.lsys_spec.specs.Systems.{Each}
use Rattle.lsys_spec.specs.Levels as L
use Rattle.lsys_spec.specs.Levels.{LevelSymbol, lineage, plain}
use Rattle.lsys_level.specs.Spots.{Seen, Push, Pop, Module, Spotted, with_lineage, named, level_by, spots_at, seen_by}
use Rattle.lsys_match.specs.Derivations.{StandsFor, KeepsTags, symbol_at}
use Rattle.lsys_flat.specs.Origins.{root_level}
use Rattle.lsys_flat.specs.Tagged.{Tagged, all_tagged, Agree, AgreeAll}
use Rattle.lsys_flat.proofs.Agreeing.{In, each_in, in_old}
use Rattle.lsys_flat.proofs.Owning.{StandsAt, stands_at, own_tags}
use Rattle.lsys_flat.specs.Lines.{Descent, AreLines, line_of}
use Rattle.lsys_flat.specs.declared.ancestry.Ancestry.{Ancestry}
use Rattle.lsys_flat.specs.Revised.{AreOldLevels, all_spots, spots_by, tags_of}
use Rattle.lsys_flat.proofs.Seeing.{spots_have}
use Rattle.lsys_flat.specs.Rounds.{ShowsLevel}

-- 1. one level

seen_string : (naming : ℕ → List ℕ) (k : ℕ) (a : LevelSymbol) → plain (with_lineage (naming k) (seen_by a)) ≡ plain a
seen_string naming k (L.Push l) = refl
seen_string naming k (L.Pop l) = refl
seen_string naming k (L.Module l m) = refl

spots_string : (naming : ℕ → List ℕ) (seed : ℕ) (x : List LevelSymbol) (ks : List ℕ) → length ks ≡ length x → map plain (level_by naming (spots_by seed x ks)) ≡ map plain x
spots_string naming seed [] ks e = refl
spots_string naming seed (a ∷ x) [] e = absurd (omega (arith, e))
spots_string naming seed (a ∷ x) (k ∷ ks) e =
    let one = seen_string naming k a in
    let more = spots_string naming seed x ks (omega (arith, e)) in
    λ i. one i ∷ more i

spots_key : (seed : ℕ) (x : List LevelSymbol) (ks : List ℕ) (p : ℕ) (b : Spotted) (a : LevelSymbol) → slice_get (spots_by seed x ks) p ≡ Some b → slice_get x p ≡ Some a → b.key ≡ key_of seed (lineage a)
spots_key seed [] ks p b a f g = cc
spots_key seed (c ∷ x) [] p b a f g = cc
spots_key seed (c ∷ x) (k ∷ ks) zero b a f g =
    let one : record { seen = seen_by c; tag = k; key = key_of seed (lineage c) } ≡ b = cc in
    let other : c ≡ a = cc in
    sym (ap (λ (b : Spotted). b.key) one) ∙ ap (λ a. key_of seed (lineage a)) other
spots_key seed (c ∷ x) (k ∷ ks) (suc p) b a f g = spots_key seed x ks p b a f g

spots_length : (seed : ℕ) (x : List LevelSymbol) (ks : List ℕ) → length ks ≡ length x → length (spots_by seed x ks) ≡ length x
spots_length seed [] ks e = refl
spots_length seed (a ∷ x) [] e = absurd (omega (arith, e))
spots_length seed (a ∷ x) (k ∷ ks) e = ap suc (spots_length seed x ks (omega (arith, e)))

line_with : (l : List ℕ) (e : Seen) → lineage (with_lineage l e) ≡ l
line_with l Push = refl
line_with l Pop = refl
line_with l (Module m) = refl

-- 2. levels

-- a level of these, with its tags
pub record IsLevelOf (seed t : ℕ) (xs : List (List LevelSymbol)) (ls : List Descent) : Type 0 where
  pub tags : List ℕ
  pub each : length tags ≡ length (get_or xs t [])
  pub is : get_or (all_spots seed xs (tags_of ls)) t [] ≡ spots_by seed (get_or xs t []) tags

pub level_of : (seed : ℕ) (above : List LevelSymbol) (xs : List (List LevelSymbol)) (ls : List Descent) (t : ℕ) → AreLines above xs ls → IsLevelOf seed t xs ls
level_of seed above [] [] t h = record { tags = []; each = refl; is = refl }
level_of seed above [] (l ∷ ls) t h = absurd h
level_of seed above (x ∷ xs) [] t h = absurd h
level_of seed above (x ∷ xs) (l ∷ ls) zero h = record { tags = l.tags; each = h.1; is = refl }
level_of seed above (x ∷ xs) (l ∷ ls) (suc t) h = let r = level_of seed x xs ls t h.2 in record { tags = r.tags; each = r.each; is = r.is }

pub all_length : (seed : ℕ) (above : List LevelSymbol) (xs : List (List LevelSymbol)) (ls : List Descent) → AreLines above xs ls → length (all_spots seed xs (tags_of ls)) ≡ length xs
all_length seed above [] [] h = refl
all_length seed above [] (l ∷ ls) h = absurd h
all_length seed above (x ∷ xs) [] h = absurd h
all_length seed above (x ∷ xs) (l ∷ ls) h = ap suc (all_length seed x xs ls h.2)

pub rows_total : (seed : ℕ) (above : List LevelSymbol) (xs : List (List LevelSymbol)) (ls : List Descent) → AreLines above xs ls → sum_by length (all_spots seed xs (tags_of ls)) ≡ sum_by length xs
rows_total seed above [] [] h = refl
rows_total seed above [] (l ∷ ls) h = absurd h
rows_total seed above (x ∷ xs) [] h = absurd h
rows_total seed above (x ∷ xs) (l ∷ ls) h =
    let here : length (spots_by seed x l.tags) ≡ length x = spots_length seed x l.tags h.1 in
    let rest : sum_by length (all_spots seed xs (tags_of ls)) ≡ sum_by length xs = rows_total seed x xs ls h.2 in
    omega (arith, sum_by-cons length (spots_by seed x l.tags) (all_spots seed xs (tags_of ls)), sum_by-cons length x xs, here, rest)

pub tags_total : (above : List LevelSymbol) (xs : List (List LevelSymbol)) (ls : List Descent) → AreLines above xs ls → sum_by length (tags_of ls) ≡ sum_by length xs
tags_total above [] [] h = refl
tags_total above [] (l ∷ ls) h = absurd h
tags_total above (x ∷ xs) [] h = absurd h
tags_total above (x ∷ xs) (l ∷ ls) h =
    let here : length l.tags ≡ length x = h.1 in
    let rest : sum_by length (tags_of ls) ≡ sum_by length xs = tags_total x xs ls h.2 in
    omega (arith, sum_by-cons length l.tags (tags_of ls), sum_by-cons length x xs, here, rest)

abbrev pub tags_in : Ancestry → ℕ
tags_in a = length a.tags.items

pub tags_sum : (xs : List Ancestry) → sum_by length (tags_of (map line_of xs)) ≡ sum_by tags_in xs
tags_sum [] = refl
tags_sum (x ∷ xs) =
    let rest : sum_by length (tags_of (map line_of xs)) ≡ sum_by tags_in xs = tags_sum xs in
    omega (arith, sum_by-cons length x.tags.items (tags_of (map line_of xs)), sum_by-cons tags_in x xs, rest)

pub row_of : (naming : ℕ → List ℕ) (seed : ℕ) (xs : List (List LevelSymbol)) (ls : List Descent) (t : ℕ) → AreLines root_level xs ls → level_by naming (spots_at (all_spots seed xs (tags_of ls)) t) ≡ get_or xs t []
    → ShowsLevel naming seed (spots_at (all_spots seed xs (tags_of ls)) t) (get_or xs t [])
row_of naming seed xs ls t h e = record {
  string = e;
  keys = λ p b f.
      let r = level_of seed root_level xs ls t h in
      let there : slice_get (get_or xs t []) p ≡ Some (named naming b) = ap (λ x. slice_get x p) (sym e) ∙ slice_get-map (named naming) (spots_at (all_spots seed xs (tags_of ls)) t) p ∙ ap (option_map (named naming)) f in
      spots_key seed (get_or xs t []) r.tags p b (named naming b) (ap (λ row. slice_get row p) (sym r.is) ∙ f) there
      ∙ ap (key_of seed) (line_with (naming b.tag) b.seen);
}

pub row_length : (seed : ℕ) (xs : List (List LevelSymbol)) (ls : List Descent) (t : ℕ) → AreLines root_level xs ls → length (spots_at (all_spots seed xs (tags_of ls)) t) ≡ length (get_or xs t [])
row_length seed xs ls t h = let r = level_of seed root_level xs ls t h in ap length r.is ∙ spots_length seed (get_or xs t []) r.tags r.each

pub stands_for : (seed : ℕ) (xs : List (List LevelSymbol)) (ls : List Descent) → AreOldLevels xs ls → StandsFor seed xs (all_spots seed xs (tags_of ls))
stands_for seed xs ls h = record {
  depth = all_length seed root_level xs ls h.lines;
  strings = record { string = λ t. let r = level_of seed root_level xs ls t h.lines in ap (λ row. map plain (level_by (λ tag. []) row)) r.is ∙ spots_string (λ tag. []) seed (get_or xs t []) r.tags r.each };
  tags = own_tags xs (tags_of ls) (all_spots seed xs (tags_of ls)) h.distinct h.agree (spots_have seed root_level xs ls h.lines);
  keys = λ t p b a f g. let r = level_of seed root_level xs ls t h.lines in spots_key seed (get_or xs t []) r.tags p b a (ap (λ row. slice_get row p) (sym r.is) ∙ f) g;
}

-- 3. tags of old and new levels

pub keeps_tags : (before after : ℕ) (xs ys : List (List LevelSymbol)) (ls ms : List Descent) → AreLines root_level xs ls → AreLines root_level ys ms → AgreeAll (all_tagged 0 xs (tags_of ls)) (all_tagged 0 ys (tags_of ms))
    → KeepsTags xs ys (all_spots before xs (tags_of ls)) (all_spots after ys (tags_of ms))
keeps_tags before after xs ys ls ms h g agree = record { tags = λ t u p q a b r s f k v w. by t u p q a b r s v w (stands_at xs (tags_of ls) _ (spots_have before root_level xs ls h) t p a f) (stands_at ys (tags_of ms) _ (spots_have after root_level ys ms g) u q b k) }
  where
    by : (t u p q : ℕ) (a b : Spotted) (r s : LevelSymbol) → symbol_at xs t p ≡ Some r → symbol_at ys u q ≡ Some s → StandsAt xs (tags_of ls) t p a.tag → StandsAt ys (tags_of ms) u q b.tag
        → (a.tag ≡ b.tag) ↔ ((t ≡ u) × (lineage r ≡ lineage s))
    by t u p q a b r s v w i j =
        let one : Tagged = record { level = t; line = lineage r; tag = a.tag } in
        let other : Tagged = record { level = u; line = lineage s; tag = b.tag } in
        let there : In one (all_tagged 0 xs (tags_of ls)) = in_old xs (tags_of ls) 0 t t p r a.tag (omega arith) v i.has_tag in
        let here : In other (all_tagged 0 ys (tags_of ms)) = in_old ys (tags_of ms) 0 u u q s b.tag (omega arith) w j.has_tag in
        let both : Agree one other = each_in (Agree one) (all_tagged 0 ys (tags_of ms)) other (each_in (λ a. Each (Agree a) (all_tagged 0 ys (tags_of ms))) (all_tagged 0 xs (tags_of ls)) one agree there) here in
        both

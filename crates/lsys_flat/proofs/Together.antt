-- One naming of the tags for old and new levels.
use Rattle.std.proofs.Common.{◌≡◌, ℕ, zero, suc, ◌+◌, Bool, true, false, ◌==◌, cond, Some, List, [], ◌∷◌, ◌++◌, length, get_or, refl, sym, ap, ◌∙◌, subst, arith, eq-eqb, inl, inr, ◌⊎◌}
use Rattle.std.specs.Prelude.{slice_get, option_map}
use Rattle.std.proofs.lemmas.Bool.{eqb-true}
use Rattle.std.proofs.lemmas.Option.{slice_get-map}
use Rattle.lsys_spec.specs.Draws.{key_of}
use Rattle.lsys_spec.specs.Systems.{Each}
use Rattle.lsys_spec.specs.Levels as L
use Rattle.lsys_spec.specs.Levels.{LevelSymbol, lineage, ModuleValue}
use Rattle.lsys_level.specs.Spots.{Module, with_lineage, named, level_by, spots_at, seen_by}
use Rattle.lsys_level.specs.Tags.{StandsThere}
use Rattle.lsys_flat.specs.Tagged.{Tagged, tagged, all_tagged, Agree, AgreeAll}
use Rattle.lsys_flat.proofs.Agreeing.{In, each_in, each_of, in_append, append_in, in_old}
use Rattle.lsys_flat.proofs.Owning.{stands_at}
use Rattle.lsys_flat.specs.Lines.{Descent, AreLines}
use Rattle.lsys_flat.specs.Revised.{Revised, tags_of, spots_by, all_spots, AreNamedTogether, IsKeyed, IsRevised}
use Rattle.lsys_flat.proofs.Seeing.{spots_have}
use Rattle.lsys_flat.proofs.Adding.{across, next_olds}

-- 1. the first of some tagged symbols that has a tag

name_of : List Tagged → ℕ → List ℕ
name_of [] k = []
name_of (a ∷ more) k = cond (a.tag == k) a.line (name_of more k)

-- where tags are equal exactly where levels and lineages are, it is the lineage of each
name_told : (xs all : List Tagged) → AgreeAll all all → ((a : Tagged) → In a xs → In a all) → (a : Tagged) → In a xs → name_of xs a.tag ≡ a.line
unfolding name_of
name_told [] all h f a i = absurd i
name_told (b ∷ xs) all h f a i = by (λ j. name_told xs all h (λ a i. f a (inr i)) a j) (b.tag == a.tag) refl i
  where
    by : (In a xs → name_of xs a.tag ≡ a.line) → (c : Bool) → b.tag == a.tag ≡ c → In a (b ∷ xs) → cond (b.tag == a.tag) b.line (name_of xs a.tag) ≡ a.line
    by more true e j =
        let same : b.tag ≡ a.tag = eqb-true b.tag a.tag e in
        let both : Agree b a = each_in (Agree b) all a (each_in (λ b. Each (Agree b) all) all b h (f b (inl refl))) (f a j) in
        ap (λ c. cond c b.line (name_of xs a.tag)) e ∙ (both.0 same).1
    by more false e (inl j) = let same : b.tag == a.tag ≡ true = eq-eqb b.tag a.tag (ap (λ (x : Tagged). x.tag) j) in let no : true ≡ false = sym same ∙ e in cc
    by more false e (inr j) = ap (λ c. cond c b.line (name_of xs a.tag)) e ∙ more j

-- 2. old and new ones together

together : (old new : List Tagged) → AgreeAll old old → AgreeAll old new → AgreeAll new new → AgreeAll (old ++ new) (old ++ new)
together old new h g k = each_of (λ a. Each (Agree a) (old ++ new)) (old ++ new) (λ a i. each_of (Agree a) (old ++ new) (λ b j. by a b (append_in a old new i) (append_in b old new j)))
  where
    at : (one other : List Tagged) → AgreeAll one other → (a b : Tagged) → In a one → In b other → Agree a b
    at one other f a b i j = each_in (Agree a) other b (each_in (λ a. Each (Agree a) other) one a f i) j

    by : (a b : Tagged) → In a old ⊎ In a new → In b old ⊎ In b new → Agree a b
    by a b (inl i) (inl j) = at old old h a b i j
    by a b (inl i) (inr j) = at old new g a b i j
    by a b (inr i) (inl j) = let f = at old new g b a j i in (λ e. let s = f.0 (sym e) in (sym s.0, sym s.1), λ s. sym (f.1 (sym s.0, sym s.1)))
    by a b (inr i) (inr j) = at new new k a b i j

-- 3. levels by a naming

with_own : (s : LevelSymbol) → with_lineage (lineage s) (seen_by s) ≡ s
with_own (L.Push l) = refl
with_own (L.Pop l) = refl
with_own (L.Module l m) = refl

level_named : (naming : ℕ → List ℕ) (seed t : ℕ) (x : List LevelSymbol) (ks : List ℕ) → length ks ≡ length x → ((a : Tagged) → In a (tagged t x ks) → naming a.tag ≡ a.line) → level_by naming (spots_by seed x ks) ≡ x
level_named naming seed t [] ks e f = refl
level_named naming seed t (s ∷ x) [] e f = absurd (omega (arith, e))
level_named naming seed t (s ∷ x) (k ∷ ks) e f =
    let head : with_lineage (naming k) (seen_by s) ≡ s = ap (λ l. with_lineage l (seen_by s)) (f (record { level = t; line = lineage s; tag = k }) (inl refl)) ∙ with_own s in
    let rest = level_named naming seed t x ks (omega (arith, e)) (λ a i. f a (inr i)) in
    λ i. head i ∷ rest i

levels_named : (naming : ℕ → List ℕ) (seed u : ℕ) (above : List LevelSymbol) (xs : List (List LevelSymbol)) (ls : List Descent) → AreLines above xs ls
    → ((a : Tagged) → In a (all_tagged u xs (tags_of ls)) → naming a.tag ≡ a.line) → (t : ℕ) → level_by naming (get_or (all_spots seed xs (tags_of ls)) t []) ≡ get_or xs t []
levels_named naming seed u above [] [] h f t = refl
levels_named naming seed u above [] (l ∷ ls) h f t = absurd h
levels_named naming seed u above (x ∷ xs) [] h f t = absurd h
levels_named naming seed u above (x ∷ xs) (l ∷ ls) h f zero = level_named naming seed u x l.tags h.1 (λ a i. f a (in_append a (tagged u x l.tags) (all_tagged (u + 1) xs (tags_of ls)) (inl i)))
levels_named naming seed u above (x ∷ xs) (l ∷ ls) h f (suc t) =
    levels_named naming seed (u + 1) x xs ls h.2 (λ a i. f a (in_append a (tagged u x l.tags) (all_tagged (u + 1) xs (tags_of ls)) (inr i))) t

-- a spot of a level as a tagged symbol
spot_in : (seed : ℕ) (above : List LevelSymbol) (xs : List (List LevelSymbol)) (ls : List Descent) → AreLines above xs ls → (t k : ℕ) → StandsThere k (spots_at (all_spots seed xs (tags_of ls)) t)
    → (line : List ℕ) × In (record { level = t; line = line; tag = k }) (all_tagged 0 xs (tags_of ls))
spot_in seed above xs ls h t k w =
    let s = stands_at xs (tags_of ls) (all_spots seed xs (tags_of ls)) (spots_have seed above xs ls h) t w.place w.spot w.there in
    (lineage s.symbol, in_old xs (tags_of ls) 0 t t w.place s.symbol k (omega arith) s.there (s.has_tag ∙ ap (λ k. Some k) w.is))

pub named_together : (before seed : ℕ) (xs ys : List (List LevelSymbol)) (r : Revised) → IsRevised seed xs ys r → AreNamedTogether xs ys (all_spots before xs (tags_of r.old_lines)) r.view
named_together before seed xs ys r h = record {
  naming = name_of (all_tagged 0 xs (tags_of r.old_lines) ++ all_tagged 0 ys (tags_of r.lines));
  old_levels = levels_named (name_of (all_tagged 0 xs (tags_of r.old_lines) ++ all_tagged 0 ys (tags_of r.lines))) before 0 _ xs r.old_lines h.olds.lines (λ a i. told a (in_append a (all_tagged 0 xs (tags_of r.old_lines)) (all_tagged 0 ys (tags_of r.lines)) (inl i)));
  new_levels = λ t.
      ap (λ v. level_by (name_of (all_tagged 0 xs (tags_of r.old_lines) ++ all_tagged 0 ys (tags_of r.lines))) (get_or v t [])) h.view
      ∙ levels_named (name_of (all_tagged 0 xs (tags_of r.old_lines) ++ all_tagged 0 ys (tags_of r.lines))) seed 0 _ ys r.lines h.lines (λ a i. told a (in_append a (all_tagged 0 xs (tags_of r.old_lines)) (all_tagged 0 ys (tags_of r.lines)) (inr i))) t;
  across = λ t k m v w e.
      let i = spot_in before _ xs r.old_lines h.olds.lines t k v in
      let j = spot_in seed _ ys r.lines h.lines t m (subst (λ v. StandsThere m (spots_at v t)) h.view w) in
      let a : Tagged = record { level = t; line = i.0; tag = k } in
      let b : Tagged = record { level = t; line = j.0; tag = m } in
      let all : Agree a b = each_in (Agree a) (all_tagged 0 ys (tags_of r.lines)) b (each_in (λ a. Each (Agree a) (all_tagged 0 ys (tags_of r.lines))) (all_tagged 0 xs (tags_of r.old_lines)) a (across seed xs ys r h) i.1) j.1 in
      all.1 (
        refl,
        sym (told a (in_append a (all_tagged 0 xs (tags_of r.old_lines)) (all_tagged 0 ys (tags_of r.lines)) (inl i.1))) ∙ e ∙ told b (in_append b (all_tagged 0 xs (tags_of r.old_lines)) (all_tagged 0 ys (tags_of r.lines)) (inr j.1)),
      );
}
  where
    told : (a : Tagged) → In a (all_tagged 0 xs (tags_of r.old_lines) ++ all_tagged 0 ys (tags_of r.lines)) → name_of (all_tagged 0 xs (tags_of r.old_lines) ++ all_tagged 0 ys (tags_of r.lines)) a.tag ≡ a.line
    told a i =
        let all = together (all_tagged 0 xs (tags_of r.old_lines)) (all_tagged 0 ys (tags_of r.lines)) h.olds.agree (across seed xs ys r h) (next_olds seed xs ys r h).agree in
        name_told (all_tagged 0 xs (tags_of r.old_lines) ++ all_tagged 0 ys (tags_of r.lines)) (all_tagged 0 xs (tags_of r.old_lines) ++ all_tagged 0 ys (tags_of r.lines)) all (λ a i. i) a i

-- 4. keys

spot_of : (seed : ℕ) (y : List LevelSymbol) (ks : List ℕ) → length ks ≡ length y → (p : ℕ) (s : LevelSymbol) → slice_get y p ≡ Some s
    → (k : ℕ) × (slice_get (spots_by seed y ks) p ≡ Some (record { seen = seen_by s; tag = k; key = key_of seed (lineage s) }))
spot_of seed [] ks e p s g = cc
spot_of seed (a ∷ y) [] e p s g = absurd (omega (arith, e))
spot_of seed (a ∷ y) (k ∷ ks) e zero s g =
    let same : a ≡ s = cc in (k, ap (λ a. Some (record { seen = seen_by a; tag = k; key = key_of seed (lineage a) })) same)
spot_of seed (a ∷ y) (k ∷ ks) e (suc p) s g = spot_of seed y ks (omega (arith, e)) p s g

spot_there : (seed : ℕ) (above : List LevelSymbol) (ys : List (List LevelSymbol)) (ls : List Descent) → AreLines above ys ls → (t p : ℕ) (s : LevelSymbol) → slice_get (get_or ys t []) p ≡ Some s
    → (k : ℕ) × (slice_get (get_or (all_spots seed ys (tags_of ls)) t []) p ≡ Some (record { seen = seen_by s; tag = k; key = key_of seed (lineage s) }))
spot_there seed above [] [] h t p s g = cc
spot_there seed above [] (l ∷ ls) h t p s g = absurd h
spot_there seed above (y ∷ ys) [] h t p s g = absurd h
spot_there seed above (y ∷ ys) (l ∷ ls) h zero p s g = spot_of seed y l.tags h.1 p s g
spot_there seed above (y ∷ ys) (l ∷ ls) h (suc t) p s g = spot_there seed y ys ls h.2 t p s g

pub keyed : (seed : ℕ) (xs ys : List (List LevelSymbol)) (r : Revised) → IsRevised seed xs ys r → (naming : ℕ → List ℕ) (t p : ℕ) (l : List ℕ) (m : ModuleValue)
    → level_by naming (spots_at r.view t) ≡ get_or ys t [] → slice_get (get_or ys t []) p ≡ Some (L.Module l m) → IsKeyed naming seed (spots_at r.view t) p l m
keyed seed xs ys r h naming t p l m e g =
    let s = spot_there seed _ ys r.lines h.lines t p (L.Module l m) g in
    let there : slice_get (spots_at r.view t) p ≡ Some (record { seen = Module m; tag = s.0; key = key_of seed l }) = ap (λ v. slice_get (spots_at v t) p) h.view ∙ s.1 in
    let name : naming s.0 ≡ l =
    let both : Some (L.Module (naming s.0) m) ≡ Some (L.Module l m) =
    sym (slice_get-map (named naming) (spots_at r.view t) p ∙ ap (option_map (named naming)) there) ∙ ap (λ x. slice_get x p) e ∙ g in
    cc in
    record { tag = s.0; here = there ∙ ap (λ l. Some (record { seen = Module m; tag = s.0; key = key_of seed l })) (sym name); line = name }

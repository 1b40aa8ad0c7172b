-- Tags and lineages: one naming of the tags makes levels of what is seen.
use Rattle.std.proofs.Common.{◌≡◌, ◌≢◌, ℕ, zero, suc, true, false, List, [], ◌∷◌, ◌++◌, length, map, refl, ap, sym, ◌∙◌, arith, eqb, eq-eqb}
use Rattle.std.specs.Prelude.{slice_get, slice_index_or, Some, option_map}
use Rattle.std.proofs.lemmas.Bool.{ne_eqb}
use Rattle.std.proofs.lemmas.Option.{slice_get-map, same_Some}
use Rattle.lsys_spec.specs.Levels as L
use Rattle.lsys_spec.specs.Levels.{lineage, plain}
use Rattle.lsys_module.specs.Views.{string_of, symbol_of}
use Rattle.lsys_module.specs.declared.symbol.Symbol.{Symbol}
use Rattle.lsys_module.specs.declared.symbol.Symbol.TheVariants.{Push, Pop, Cut, Module}
use Rattle.lsys_level.specs.Spots as S
use Rattle.lsys_level.specs.Spots.{Spotted, Seen, with_lineage, named, level_by, spots_at, spotted_at}
use Rattle.lsys_level.specs.Tags.{HasOwnTags, NamesLevels, TagsTell, ShowsLevels, IsNamed}
use Rattle.lsys_level.specs.Places.{spots_of, has_cut}
use Rattle.lsys_region.proofs.ListLemmas.{from_option_map}

-- no tag stands twice in the list
record IsApart (tags : List ℕ) : Type 0 where
  pub apart : (p q tag : ℕ) → slice_get tags p ≡ Some tag → slice_get tags q ≡ Some tag → p ≡ q

-- 1. the lineage that stands where a tag does

naming_of : List ℕ → List (List ℕ) → ℕ → List ℕ
naming_of [] ls n = []
naming_of (t ∷ ts) [] n = []
naming_of (t ∷ ts) (l ∷ ls) n = elim (eqb t n) [ true ↦ l | false ↦ naming_of ts ls n ]

first_named : (t : ℕ) (ts : List ℕ) (l : List ℕ) (ls : List (List ℕ)) → naming_of (t ∷ ts) (l ∷ ls) t ≡ l
unfolding naming_of
first_named t ts l ls = rw (eq-eqb t t refl, naming_of) refl

other_named : (t : ℕ) (ts : List ℕ) (l : List ℕ) (ls : List (List ℕ)) (n : ℕ) → t ≢ n → naming_of (t ∷ ts) (l ∷ ls) n ≡ naming_of ts ls n
unfolding naming_of
other_named t ts l ls n h = rw (ne_eqb t n h, naming_of) refl

others_named : (t : ℕ) (ts : List ℕ) (l : List ℕ) (ls : List (List ℕ)) (us : List ℕ) → ((p : ℕ) → slice_get us p ≡ Some t → ⊥) → map (naming_of (t ∷ ts) (l ∷ ls)) us ≡ map (naming_of ts ls) us
others_named t ts l ls [] h = refl
others_named t ts l ls (u ∷ us) h =
    ap (λ k. k ∷ map (naming_of (t ∷ ts) (l ∷ ls)) us) (other_named t ts l ls u (λ e. h 0 (ap (λ t. Some t) (sym e))))
    ∙ ap (λ r. naming_of ts ls u ∷ r) (others_named t ts l ls us (λ p. h (suc p)))

-- the first tags of a list, none of which stands there twice
front_named : (ts more : List ℕ) (ls rest : List (List ℕ)) → IsApart ts → length ls ≡ length ts → map (naming_of (ts ++ more) (ls ++ rest)) ts ≡ ls
front_named [] more [] rest d n = refl
front_named [] more (l ∷ ls) rest d n = absurd (omega (arith, n))
front_named (t ∷ ts) more [] rest d n = absurd (omega (arith, n))
front_named (t ∷ ts) more (l ∷ ls) rest d n =
    ap (λ k. k ∷ map (naming_of (t ∷ (ts ++ more)) (l ∷ (ls ++ rest))) ts) (first_named t (ts ++ more) l (ls ++ rest))
    ∙ ap (λ r. l ∷ r) (others_named t (ts ++ more) l (ls ++ rest) ts (λ p h. let e : 0 ≡ suc p = d.apart 0 (suc p) t refl h in absurd (omega (arith, e)))
    ∙ front_named ts more ls rest (record { apart = λ p q u a b. let e = d.apart (suc p) (suc q) u a b in omega (arith, e) }) (omega (arith, n)))

-- tags that are not among the first ones
after_named : (ts more : List ℕ) (ls rest : List (List ℕ)) (us : List ℕ) → length ls ≡ length ts → ((p q t : ℕ) → slice_get ts p ≡ Some t → slice_get us q ≡ Some t → ⊥) → map (naming_of (ts ++ more) (ls ++ rest)) us ≡ map (naming_of more rest) us
after_named [] more [] rest us n apart = refl
after_named [] more (l ∷ ls) rest us n apart = absurd (omega (arith, n))
after_named (t ∷ ts) more [] rest us n apart = absurd (omega (arith, n))
after_named (t ∷ ts) more (l ∷ ls) rest us n apart =
    others_named t (ts ++ more) l (ls ++ rest) us (λ q h. apart 0 q t refl h) ∙ after_named ts more ls rest us (omega (arith, n)) (λ p. apart (suc p))

-- 2. one naming for all levels

one_named : (e : Seen) (y : L.LevelSymbol) (l : List ℕ) → plain (with_lineage [] e) ≡ plain y → l ≡ lineage y → with_lineage l e ≡ y
one_named S.Push (L.Push k) l e h = ap L.Push h
one_named S.Push (L.Pop k) l e h = cc
one_named S.Push (L.Module k m) l e h = cc
one_named S.Pop (L.Push k) l e h = cc
one_named S.Pop (L.Pop k) l e h = ap L.Pop h
one_named S.Pop (L.Module k m) l e h = cc
one_named (S.Module a) (L.Push k) l e h = cc
one_named (S.Module a) (L.Pop k) l e h = cc
one_named (S.Module a) (L.Module k m) l e h =
    let n : a.name ≡ m.name = cc in
    let v : a.params ≡ m.params = cc in
    ap (λ l. L.Module l a) h ∙ ap (λ n. L.Module k (record { name = n; params = a.params })) n ∙ ap (λ v. L.Module k (record { name = m.name; params = v })) v

level_named : (naming : ℕ → List ℕ) (spots : List Spotted) (x : List L.LevelSymbol) → map plain (level_by (λ tag. []) spots) ≡ map plain x → map naming (map (λ (s : Spotted). s.tag) spots) ≡ map lineage x → level_by naming spots ≡ x
level_named naming [] [] e h = refl
level_named naming [] (y ∷ x) e h = cc
level_named naming (s ∷ spots) [] e h = cc
level_named naming (s ∷ spots) (y ∷ x) e h =
    let a : plain (with_lineage [] s.seen) ≡ plain y = cc in
    let b : map plain (level_by (λ tag. []) spots) ≡ map plain x = cc in
    let c : naming s.tag ≡ lineage y = cc in
    let d : map naming (map (λ (s : Spotted). s.tag) spots) ≡ map lineage x = cc in
    ap (λ z. z ∷ level_by naming spots) (one_named s.seen y (naming s.tag) a c) ∙ ap (λ z. y ∷ z) (level_named naming spots x b d)

same_named : (f g : ℕ → List ℕ) (spots : List Spotted) → map f (map (λ (s : Spotted). s.tag) spots) ≡ map g (map (λ (s : Spotted). s.tag) spots) → level_by f spots ≡ level_by g spots
same_named f g [] e = refl
same_named f g (s ∷ spots) e =
    let a : f s.tag ≡ g s.tag = cc in
    let b : map f (map (λ (s : Spotted). s.tag) spots) ≡ map g (map (λ (s : Spotted). s.tag) spots) = cc in
    ap (λ l. with_lineage l s.seen ∷ level_by f spots) a ∙ ap (λ r. with_lineage (g s.tag) s.seen ∷ r) (same_named f g spots b)

tags_in : List (List Spotted) → List ℕ
tags_in [] = []
tags_in (spots ∷ levels) = map (λ (s : Spotted). s.tag) spots ++ tags_in levels

lineages_in : List (List L.LevelSymbol) → List (List ℕ)
lineages_in [] = []
lineages_in (x ∷ xs) = map lineage x ++ lineages_in xs

no_level : (t : ℕ) → spots_at [] t ≡ []
no_level zero = refl
no_level (suc t) = refl

no_symbols : (t : ℕ) (xs : List (List L.LevelSymbol)) → xs ≡ [] → slice_index_or xs t [] ≡ []
no_symbols zero [] e = refl
no_symbols (suc t) [] e = refl
no_symbols t (x ∷ xs) e = cc

none_seen : (spots : List Spotted) (x : List L.LevelSymbol) → map plain (level_by (λ tag. []) spots) ≡ map plain x → x ≡ [] → spots ≡ []
none_seen [] x e h = refl
none_seen (s ∷ spots) [] e h = cc
none_seen (s ∷ spots) (y ∷ x) e h = cc

none_named : (naming : ℕ → List ℕ) (spots : List Spotted) (x : List L.LevelSymbol) → map plain (level_by (λ tag. []) spots) ≡ map plain x → spots ≡ [] → level_by naming spots ≡ x
none_named naming [] [] e h = refl
none_named naming [] (y ∷ x) e h = cc
none_named naming (s ∷ spots) x e h = cc

read_tag : (spots : List Spotted) (p t : ℕ) → slice_get (map (λ (s : Spotted). s.tag) spots) p ≡ Some t → (a : Spotted) × (slice_get spots p ≡ Some a) × (a.tag ≡ t)
read_tag spots p t h = from_option_map (λ (s : Spotted). s.tag) (slice_get spots p) t (sym (slice_get-map (λ (s : Spotted). s.tag) spots p) ∙ h)

own_apart : (spots : List Spotted) (levels : List (List Spotted)) → HasOwnTags (spots ∷ levels) → IsApart (map (λ (s : Spotted). s.tag) spots)
own_apart spots levels own = record {
  apart = λ p q t h k.
      let a = read_tag spots p t h in
      let b = read_tag spots q t k in
      (own.apart 0 0 p q a.0 b.0 a.1 b.1 (a.2 ∙ sym b.2)).1;
}

own_after : (spots : List Spotted) (levels : List (List Spotted)) → HasOwnTags (spots ∷ levels) → (u p q t : ℕ) → slice_get (map (λ (s : Spotted). s.tag) spots) p ≡ Some t → slice_get (map (λ (s : Spotted). s.tag) (spots_at levels u)) q ≡ Some t → ⊥
own_after spots levels own u p q t h k =
    let a = read_tag spots p t h in
    let b = read_tag (spots_at levels u) q t k in
    let e : 0 ≡ suc u = (own.apart 0 (suc u) p q a.0 b.0 a.1 b.1 (a.2 ∙ sym b.2)).0 in
    absurd (omega (arith, e))

as_long : (spots : List Spotted) (x : List L.LevelSymbol) → map plain (level_by (λ tag. []) spots) ≡ map plain x → length (map lineage x) ≡ length (map (λ (s : Spotted). s.tag) spots)
as_long [] [] e = refl
as_long [] (y ∷ x) e = cc
as_long (s ∷ spots) [] e = cc
as_long (s ∷ spots) (y ∷ x) e = let d : map plain (level_by (λ tag. []) spots) ≡ map plain x = cc in ap suc (as_long spots x d)

all_named : (levels : List (List Spotted)) (xs : List (List L.LevelSymbol)) → HasOwnTags levels → ((t : ℕ) → map plain (level_by (λ tag. []) (spots_at levels t)) ≡ map plain (slice_index_or xs t [])) → (t : ℕ)
    → level_by (naming_of (tags_in levels) (lineages_in xs)) (spots_at levels t) ≡ slice_index_or xs t []
unfolding tags_in lineages_in
all_named [] xs own shows t = none_named (naming_of [] (lineages_in xs)) (spots_at [] t) (slice_index_or xs t []) (shows t) (no_level t)
all_named (spots ∷ levels) [] own shows t = none_named (naming_of (tags_in (spots ∷ levels)) []) (spots_at (spots ∷ levels) t) (slice_index_or [] t []) (shows t) (none_seen (spots_at (spots ∷ levels) t) (slice_index_or [] t []) (shows t) (no_symbols t [] refl))
all_named (spots ∷ levels) (x ∷ xs) own shows zero =
    level_named (naming_of (tags_in (spots ∷ levels)) (lineages_in (x ∷ xs))) spots x (shows 0)
    (front_named (map (λ (s : Spotted). s.tag) spots) (tags_in levels) (map lineage x) (lineages_in xs) (own_apart spots levels own) (as_long spots x (shows 0)))
all_named (spots ∷ levels) (x ∷ xs) own shows (suc t) =
    same_named (naming_of (tags_in (spots ∷ levels)) (lineages_in (x ∷ xs))) (naming_of (tags_in levels) (lineages_in xs)) (spots_at levels t)
    (after_named (map (λ (s : Spotted). s.tag) spots) (tags_in levels) (map lineage x) (lineages_in xs) (map (λ (s : Spotted). s.tag) (spots_at levels t)) (as_long spots x (shows 0)) (own_after spots levels own t))
    ∙ all_named levels xs (record { apart = λ t u p q a b here there e. let k = own.apart (suc t) (suc u) p q a b here there e in (omega (arith, k.0), k.1) }) (λ t. shows (suc t)) t

pub is_named : (xs : List (List L.LevelSymbol)) (levels : List (List Spotted)) → HasOwnTags levels → ShowsLevels xs levels → IsNamed xs levels
is_named xs levels own shows = record { naming = naming_of (tags_in levels) (lineages_in xs); level = all_named levels xs own shows.string }

pub strings : (naming : ℕ → List ℕ) (ss : List Symbol) (ts ks : List ℕ) → has_cut ss ≡ false → length ts ≡ length ss → length ks ≡ length ss → map plain (level_by naming (spots_of ss ts ks)) ≡ string_of ss
strings naming [] ts ks w n m = refl
strings naming (s ∷ ss) [] ks w n m = absurd (omega (arith, n))
strings naming (s ∷ ss) (t ∷ ts) [] w n m = absurd (omega (arith, m))
strings naming (Push ∷ ss) (t ∷ ts) (k ∷ ks) w n m = ap (λ r. symbol_of Push ∷ r) (strings naming ss ts ks w (omega (arith, n)) (omega (arith, m)))
strings naming (Pop ∷ ss) (t ∷ ts) (k ∷ ks) w n m = ap (λ r. symbol_of Pop ∷ r) (strings naming ss ts ks w (omega (arith, n)) (omega (arith, m)))
strings naming (Cut ∷ ss) (t ∷ ts) (k ∷ ks) w n m = let no : true ≡ false = w in cc
strings naming (Module a ∷ ss) (t ∷ ts) (k ∷ ks) w n m = ap (λ r. symbol_of (Module a) ∷ r) (strings naming ss ts ks w (omega (arith, n)) (omega (arith, m)))

-- 3. tags and lineages tell the same

lineage_of : (naming : ℕ → List ℕ) (a : Spotted) → lineage (named naming a) ≡ naming a.tag
lineage_of naming a = by a.seen
  where
    by : (e : Seen) → lineage (with_lineage (naming a.tag) e) ≡ naming a.tag
    by S.Push = refl
    by S.Pop = refl
    by (S.Module m) = refl

pub tags_tell : (naming : ℕ → List ℕ) (levels : List (List Spotted)) → HasOwnTags levels → NamesLevels naming levels → TagsTell naming levels
tags_tell naming levels own names = record {
  of_tags = λ t u p q a b here there e. ((own.apart t u p q a b here there e).0, ap naming e);
  of_lineages = λ t p q a b here there e.
      let x = spots_at levels t in
      let at : slice_get (level_by naming x) p ≡ Some (named naming a) = slice_get-map (named naming) x p ∙ ap (option_map (named naming)) here in
      let other : slice_get (level_by naming x) q ≡ Some (named naming b) = slice_get-map (named naming) x q ∙ ap (option_map (named naming)) there in
      let same : p ≡ q = (names.level t).apart p q (named naming a) (named naming b) at other (lineage_of naming a ∙ e ∙ sym (lineage_of naming b)) in
      ap (λ (s : Spotted). s.tag) (same_Some a b (sym here ∙ ap (slice_get x) same ∙ there));
}

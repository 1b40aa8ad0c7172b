-- One level more beside the old ones.
use Rattle.std.proofs.Common.{◌≡◌, ℕ, suc, ◌+◌, ◌<◌, ◌≤◌, ◌^◌, true, false, Bool, Option, Some, None, Result, Ok, Err, OnOk, List, [], ◌∷◌, ◌++◌, length, get_or, refl, sym, ap, ◌∙◌, subst, arith}
use Rattle.std.specs.List.{All}
use Rattle.std.proofs.Math.Seq.{get_or-append_seam}
use Rattle.std.proofs.lemmas.Option.{slice_get_within, slice_get-get_or}
use Rattle.std.proofs.lemmas.List.{length-map, length_push}
use Rattle.std.proofs.lemmas.List.Sums.{sum_by_push}
use Rattle.lsys_syntax.specs.Strings as S
use Rattle.lsys_spec.specs.Draws.{key_of}
use Rattle.lsys_spec.specs.Systems.{Each}
use Rattle.lsys_spec.specs.Levels.{LevelSymbol, lineage, plain}
use Rattle.lsys_spec.specs.Cuts.{Distinct}
use Rattle.lsys_spec.specs.Standings.{place_of}
use Rattle.lsys_module.specs.Views.{symbol_of, string_of}
use Rattle.lsys_level.specs.Tags.{HasOwnTags}
use Rattle.lsys_level.specs.Places.{spots_of, has_cut}
use Rattle.lsys_laws.specs.KeptQuestions.{places_in}
use Rattle.lsys_flat.specs.declared.origin.Origin.{Origin}
use Rattle.lsys_flat.specs.Origins.{AreChildren}
use Rattle.lsys_flat.specs.Supplies.{Supply, tags_held, AreNamed}
use Rattle.lsys_flat.specs.Tagged.{all_tagged, AgreeAll, AllNamed}
use Rattle.lsys_flat.proofs.Mates.{children_length, child_from}
use Rattle.lsys_flat.proofs.Agreeing.{new_new, old_all, all_chained, distinct_at}
use Rattle.lsys_flat.proofs.Owning.{own_tags}
use Rattle.lsys_flat.specs.declared.level.Level.{Level}
use Rattle.lsys_flat.specs.Lines.{Descent, no_line}
use Rattle.lsys_flat.specs.Revised.{Revised, tags_of, all_spots, with_next_level, AreAllNamed, above_level, AreOldLevels, GrowsByLevel, IsRevised, IsNextLevel, AreNamedBeside}
use Rattle.lsys_flat.proofs.Below.{LineAt, old_line, lines_count, new_line, tags_at, tags_push, distinct_above, distinct_push, level_short}
use Rattle.lsys_flat.proofs.Seeing.{spots_same, all_spots_push, spots_have, string_balanced, no_cut}

-- 1. tags

named_length : (old : List ℕ) (used : List Bool) (ms : List (Option ℕ)) (from : ℕ) (ks : List ℕ) (to : ℕ) → AreNamed old used ms from ks to → length ks ≡ length ms
named_length old used [] from [] to h = refl
named_length old used [] from (k ∷ ks) to h = absurd h
named_length old used (None ∷ ms) from [] to h = absurd h
named_length old used (Some j ∷ ms) from [] to h = absurd h
named_length old used (None ∷ ms) from (k ∷ ks) to h = ap suc (named_length old used ms (k + 1) ks to h.2)
named_length old used (Some j ∷ ms) from (k ∷ ks) to h = ap suc (named_length old used ms from ks to h.1)

named_push : (xs : List (List LevelSymbol)) (olds : List (List ℕ)) (s s' : Supply) (t from : ℕ) (ys : List (List LevelSymbol)) (kss : List (List ℕ)) (y : List LevelSymbol) (ks : List ℕ) (u : ℕ) → t + length ys ≡ u
    → AreAllNamed xs olds s t from ys kss → s'.used ≡ s.used → AreNamed (get_or olds u []) s.used (places_in (get_or xs u []) y) s.next ks s'.next → AreAllNamed xs olds s' t from (ys ++ y ∷ []) (kss ++ ks ∷ [])
named_push xs olds s s' t from [] [] y ks u e h same n =
    let at : u ≡ t = omega (arith, e) in (
      s'.next,
      subst (λ v. AreNamed (get_or olds t []) v (places_in (get_or xs t []) y) from ks s'.next) (sym same)
          (subst (λ f. AreNamed (get_or olds t []) s.used (places_in (get_or xs t []) y) f ks s'.next) (sym h) (subst (λ u. AreNamed (get_or olds u []) s.used (places_in (get_or xs u []) y) s.next ks s'.next) at n)),
      refl,
    )
named_push xs olds s s' t from [] (k ∷ kss) y ks u e h same n = absurd h
named_push xs olds s s' t from (x ∷ ys) [] y ks u e h same n = absurd h
named_push xs olds s s' t from (x ∷ ys) (k ∷ kss) y ks u e h same n = (
  h.0,
  subst (λ v. AreNamed (get_or olds t []) v (places_in (get_or xs t []) x) from k h.0) (sym same) h.1,
  named_push xs olds s s' (t + 1) h.0 ys kss y ks u (omega (arith, e)) h.2 same n,
)

all_named : (xs : List (List LevelSymbol)) (olds : List (List ℕ)) (s : Supply) (t from : ℕ) (ys : List (List LevelSymbol)) (kss : List (List ℕ)) → AreAllNamed xs olds s t from ys kss → AllNamed xs olds s.used t from ys kss
all_named xs olds s t from [] kss h = tt
all_named xs olds s t from (y ∷ ys) [] h = absurd h
all_named xs olds s t from (y ∷ ys) (k ∷ kss) h = (h.0, h.1, all_named xs olds s (t + 1) h.0 ys kss h.2)

-- 2. what is known of new levels

pub across : (seed : ℕ) (xs ys : List (List LevelSymbol)) (r : Revised) → IsRevised seed xs ys r → AgreeAll (all_tagged 0 xs (tags_of r.old_lines)) (all_tagged 0 ys (tags_of r.lines))
across seed xs ys r h =
    old_all (all_tagged 0 xs (tags_of r.old_lines)) r.supply.used 0 h.olds.agree h.in_use (all_tagged 0 ys (tags_of r.lines))
    (all_chained xs (tags_of r.old_lines) r.supply.used h.olds.distinct 0 0 ys (tags_of r.lines) h.distinct (all_named xs (tags_of r.old_lines) r.supply 0 0 ys (tags_of r.lines) h.named))

pub next_olds : (seed : ℕ) (xs ys : List (List LevelSymbol)) (r : Revised) → IsRevised seed xs ys r → AreOldLevels ys r.lines
next_olds seed xs ys r h = record {
  distinct = h.distinct;
  lines = h.lines;
  agree =
      new_new (all_tagged 0 xs (tags_of r.old_lines)) r.supply.used 0 h.olds.agree h.in_use (all_tagged 0 ys (tags_of r.lines))
      (all_chained xs (tags_of r.old_lines) r.supply.used h.olds.distinct 0 0 ys (tags_of r.lines) h.distinct (all_named xs (tags_of r.old_lines) r.supply 0 0 ys (tags_of r.lines) h.named));
}

pub own_view : (seed : ℕ) (xs ys : List (List LevelSymbol)) (r : Revised) → IsRevised seed xs ys r → HasOwnTags r.view
own_view seed xs ys r h =
    subst HasOwnTags (sym h.view) (own_tags ys (tags_of r.lines) (all_spots seed ys (tags_of r.lines)) h.distinct (next_olds seed xs ys r h).agree (spots_have seed _ ys r.lines h.lines))

-- 3. one level more

module _ (seed : ℕ) (xs ys : List (List LevelSymbol)) (y : List LevelSymbol) (level : Level) (r : Revised) (h : IsRevised seed xs ys r) (n : IsNextLevel seed xs ys y level) where
  pub olds_there : LineAt (above_level xs (length ys)) (get_or xs (length ys) []) (get_or r.old_lines (length ys) no_line)
  olds_there = old_line xs r.old_lines h.olds.lines (length ys)

  pub old_few : length (get_or r.old_lines (length ys) no_line).origins < 2 ^ 32
  old_few =
      let same = children_length (above_level xs (length ys)) (get_or r.old_lines (length ys) no_line).origins (get_or xs (length ys) []) olds_there.children in
      omega (arith, same, level_short xs (length ys), n.few)

  pub old_tags : length (get_or r.old_lines (length ys) no_line).tags ≡ length (get_or r.old_lines (length ys) no_line).origins
  old_tags = olds_there.tags ∙ sym (children_length (above_level xs (length ys)) (get_or r.old_lines (length ys) no_line).origins (get_or xs (length ys) []) olds_there.children)

  pub new_length : length level.origins.items ≡ length y
  new_length = children_length (above_level ys (length ys)) level.origins.items y n.symbols.children

  pub symbols_length : length level.symbols ≡ length y
  symbols_length = sym (length-map level.symbols symbol_of) ∙ ap length (sym n.symbols.string) ∙ length-map y plain

  pub keys_length : length level.keys.items ≡ length y
  keys_length = ap length n.symbols.keys ∙ length-map y (λ s. key_of seed (lineage s))

  pub have_parents : All (λ o. o.parent < length r.mates) level.origins.items
  have_parents = λ k d l.
      let c = child_from (above_level ys (length ys)) level.origins.items y n.symbols.children k (get_or level.origins.items k d) (slice_get-get_or level.origins.items k d l) in
      let size : length r.mates ≡ length (above_level ys (length ys)) = ap length h.mates ∙ length-map (above_level ys (length ys)) (λ s. place_of (lineage s) (above_level xs (length ys))) in
      let in_above = slice_get_within (above_level ys (length ys)) (get_or level.origins.items k d).parent c.2.parent c.2.there in
      omega (arith, size, in_above)

  pub mates_told : (mates : List (Option ℕ))
      → ((a b x z : List LevelSymbol) → Distinct a → Distinct x → AreChildren a (get_or r.old_lines (length ys) no_line).origins x → AreChildren b level.origins.items z → r.mates ≡ places_in a b → mates ≡ places_in x z)
      → mates ≡ places_in (get_or xs (length ys) []) y
  mates_told mates f =
      f (above_level xs (length ys)) (above_level ys (length ys)) (get_or xs (length ys) []) y (distinct_above xs (length ys) h.olds.distinct) (distinct_at xs (length ys) h.olds.distinct) olds_there.children n.symbols.children h.mates

  pub next_revised : (mates : List (Option ℕ)) (tags : List ℕ) (after : Supply) → mates ≡ places_in (get_or xs (length ys) []) y
      → AreNamed (get_or r.old_lines (length ys) no_line).tags r.supply.used mates r.supply.next tags after.next → after.used ≡ r.supply.used → tags_held after ≤ tags_held r.supply + length mates
      → IsRevised seed xs (ys ++ y ∷ [])
      (record {
        old_lines = r.old_lines;
        view = r.view ++ spots_of level.symbols tags level.keys.items ∷ [];
        lines = r.lines ++ record { origins = level.origins.items; tags = tags } ∷ [];
        supply = after;
        mates = mates;
      })
  next_revised mates tags after m named used few =
      let l : Descent = record { origins = level.origins.items; tags = tags } in
      let long : length mates ≡ length y = ap length m ∙ length-map y (λ s. place_of (lineage s) (get_or xs (length ys) [])) in
      let size : length tags ≡ length y = named_length (get_or r.old_lines (length ys) no_line).tags r.supply.used mates r.supply.next tags after.next named ∙ long in
      let count : length (ys ++ y ∷ []) ≡ suc (length ys) = length_push ys y ∙ omega arith in
      let lines : length (tags_of r.lines) ≡ length ys = length-map r.lines (λ l. l.tags) ∙ lines_count _ ys r.lines h.lines in
      record {
        olds = h.olds;
        in_use = subst (λ u. Each (λ a. get_or u a.tag false ≡ true) (all_tagged 0 xs (tags_of r.old_lines))) (sym used) h.in_use;
        distinct = distinct_push ys y h.distinct n.distinct;
        lines = new_line ys r.lines y l h.lines (record { children = n.symbols.children; tags = size });
        view =
            ap (λ v. v ++ spots_of level.symbols tags level.keys.items ∷ []) h.view
            ∙ ap (λ ks. all_spots seed ys (tags_of r.lines) ++ spots_of level.symbols tags ks ∷ []) n.symbols.keys
            ∙ ap (λ s. all_spots seed ys (tags_of r.lines) ++ s ∷ []) (spots_same seed y level.symbols tags n.symbols.string)
            ∙ sym (all_spots_push seed ys (tags_of r.lines) y tags lines)
            ∙ ap (all_spots seed (ys ++ y ∷ [])) (sym (tags_push r.lines l));
        named = subst (AreAllNamed xs (tags_of r.old_lines) after 0 0 (ys ++ y ∷ [])) (sym (tags_push r.lines l))
            (named_push xs (tags_of r.old_lines) r.supply after 0 0 ys (tags_of r.lines) y tags (length ys) (omega arith) h.named used
            (subst (λ ks. AreNamed ks r.supply.used (places_in (get_or xs (length ys) []) y) r.supply.next tags after.next) (sym (tags_at r.old_lines (length ys)))
            (subst (λ ms. AreNamed (get_or r.old_lines (length ys) no_line).tags r.supply.used ms r.supply.next tags after.next) m named)));
        mates = m ∙ subst (λ k. places_in (get_or xs (length ys) []) y ≡ places_in (above_level xs k) (above_level (ys ++ y ∷ []) k)) (sym count) (ap (places_in (get_or xs (length ys) [])) (sym (get_or-append_seam ys y [] [])));
        few = omega (arith, few, h.few, long, sum_by_push (length {A = LevelSymbol}) ys y);
      }

-- the same where the revision is known by its parts
pub inside : (seed : ℕ) (xs ys : List (List LevelSymbol)) (a b : Revised) → a ≡ b → IsRevised seed xs ys b → IsRevised seed xs ys a
inside seed xs ys a b e h = subst (IsRevised seed xs ys) (sym e) h

pub lines_so_far : (seed : ℕ) (xs ys : List (List LevelSymbol)) (r : Revised) → IsRevised seed xs ys r → length r.lines ≡ length ys
lines_so_far seed xs ys r h = lines_count _ ys r.lines h.lines

pub same_line : (seed : ℕ) (xs ys : List (List LevelSymbol)) (r : Revised) (l : Descent) (k : ℕ) → IsRevised seed xs ys r → l ≡ get_or r.old_lines k no_line → k ≡ length r.lines → l ≡ get_or r.old_lines (length ys) no_line
same_line seed xs ys r l k h e n = e ∙ ap (λ k. get_or r.old_lines k no_line) (n ∙ lines_so_far seed xs ys r h)

pub few_taken : (seed : ℕ) (xs ys : List (List LevelSymbol)) (y : List LevelSymbol) (level : Level) (r : Revised) → IsRevised seed xs ys r → IsNextLevel seed xs ys y level → (k : ℕ) → k ≡ length y → tags_held r.supply + k < 2 ^ 32
few_taken seed xs ys y level r h n k e = omega (arith, h.few, n.few, e)

pub string_is_balanced : (seed : ℕ) (xs ys : List (List LevelSymbol)) (y : List LevelSymbol) (level : Level) → IsNextLevel seed xs ys y level → S.balanced 0 (string_of level.symbols) ≡ true
string_is_balanced seed xs ys y level n = ap (S.balanced 0) (sym n.symbols.string) ∙ sym (string_balanced 0 y) ∙ n.balanced

pub string_is_whole : (seed : ℕ) (xs ys : List (List LevelSymbol)) (y : List LevelSymbol) (level : Level) → IsNextLevel seed xs ys y level → has_cut level.symbols ≡ false
string_is_whole seed xs ys y level n = no_cut y level.symbols n.symbols.string

-- one level more, by what pairing and naming tell of the old level
pub next_by : (seed : ℕ) (xs ys : List (List LevelSymbol)) (y : List LevelSymbol) (level : Level) (r : Revised) → IsRevised seed xs ys r → IsNextLevel seed xs ys y level → (l : Descent) → l ≡ get_or r.old_lines (length ys) no_line
    → (mates : List (Option ℕ)) (tags : List ℕ) (after : Supply)
    → ((a b x z : List LevelSymbol) → Distinct a → Distinct x → AreChildren a l.origins x → AreChildren b level.origins.items z → r.mates ≡ places_in a b → mates ≡ places_in x z)
    → AreNamed l.tags r.supply.used mates r.supply.next tags after.next → after.used ≡ r.supply.used → tags_held after ≤ tags_held r.supply + length mates
    → IsRevised seed xs (ys ++ y ∷ [])
    (record {
      old_lines = r.old_lines;
      view = r.view ++ spots_of level.symbols tags level.keys.items ∷ [];
      lines = r.lines ++ record { origins = level.origins.items; tags = tags } ∷ [];
      supply = after;
      mates = mates;
    })
next_by seed xs ys y level r h n l e mates tags after paired named used few =
    next_revised seed xs ys y level r h n mates tags after
    (mates_told seed xs ys y level r h n mates (λ a b x z da dx ca cb m. paired a b x z da dx (subst (λ (l : Descent). AreChildren a l.origins x) (sym e) ca) cb m))
    (subst (λ (l : Descent). AreNamed l.tags r.supply.used mates r.supply.next tags after.next) e named) used few

pub tags_length : (old : List ℕ) (used : List Bool) (mates : List (Option ℕ)) (from : ℕ) (tags : List ℕ) (to : ℕ) → AreNamed old used mates from tags to → length tags ≡ length mates
tags_length old used mates from tags to h = named_length old used mates from tags to h

-- the old level beside the next one, told by the parts of the revision
pub line_beside : (seed : ℕ) (xs ys : List (List LevelSymbol)) (r parts : Revised) (l : Descent) (k : ℕ) → IsRevised seed xs ys r → parts ≡ r → l ≡ get_or parts.old_lines k no_line → k ≡ length parts.lines → l ≡ get_or r.old_lines (length ys) no_line
line_beside seed xs ys r parts l k h e there n = same_line seed xs ys parts l k (inside seed xs ys parts r e h) there n ∙ ap (λ (r : Revised). get_or r.old_lines (length ys) no_line) e

-- one level more, by what was named beside the old level
pub next_named : (seed : ℕ) (xs ys : List (List LevelSymbol)) (y : List LevelSymbol) (level : Level) (r : Revised) → IsRevised seed xs ys r → IsNextLevel seed xs ys y level → (l : Descent) → l ≡ get_or r.old_lines (length ys) no_line
    → (origins : List Origin) → origins ≡ level.origins.items → (after : Revised) (tags : List ℕ) → AreNamedBeside l origins r after tags → after ≡ record r { supply = after.supply; mates = after.mates } → IsRevised seed xs (ys ++ y ∷ []) (with_next_level level tags after)
next_named seed xs ys y level r h n l e origins same after tags named rest =
    let k = subst (λ origins. AreNamedBeside l origins r after tags) same named in
    subst (λ (after : Revised). IsRevised seed xs (ys ++ y ∷ []) (with_next_level level tags after)) (sym rest)
    (next_by seed xs ys y level r h n l e after.mates tags after.supply k.paired k.named k.used k.taken)

pub grows : {A E : Type 0} → (result : Result A E) (level : Level) (before with_it after : Revised) → OnOk result (after ≡ with_it) → GrowsByLevel level before with_it → OnOk result (GrowsByLevel level before after)
grows (Ok done) level before with_it after e g = λ seed xs ys y h n. subst (IsRevised seed xs (ys ++ y ∷ [])) (sym e) (g seed xs ys y h n)
grows (Err failed) level before with_it after e g = tt

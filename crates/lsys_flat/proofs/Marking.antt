-- The tags of the old levels are in use.
use Rattle.std.proofs.Common.{◌≡◌, ℕ, ◌+◌, true, List, [], ◌∷◌, ◌++◌, Some, length, refl, sym, ap, ◌∙◌, arith, append_assoc, append-nil, length-append}
use Rattle.std.specs.Prelude.{sum_by}
use Rattle.std.proofs.lemmas.List.Sums.{sum_by-cons}
use Rattle.lsys_spec.specs.Systems.{Each}
use Rattle.lsys_spec.specs.Levels.{LevelSymbol}
use Rattle.lsys_flat.specs.Supplies.{Supply, in_use, MarksAll}
use Rattle.lsys_flat.specs.Tagged.{Tagged, tagged, all_tagged}
use Rattle.lsys_flat.specs.Lines.{Descent, AreLines}
use Rattle.lsys_flat.specs.Revised.{tags_of, AreOldLevels, IsRevised}

abbrev pub all_tags : List Descent → List ℕ
all_tags [] = []
all_tags (l ∷ ls) = l.tags ++ all_tags ls

pub all_tags_push : (ls : List Descent) (l : Descent) → all_tags (ls ++ l ∷ []) ≡ all_tags ls ++ l.tags
all_tags_push [] l = append-nil l.tags
all_tags_push (k ∷ ls) l = ap (λ ks. k.tags ++ ks) (all_tags_push ls l) ∙ sym (append_assoc k.tags (all_tags ls) l.tags)

as_many : (above : List LevelSymbol) (xs : List (List LevelSymbol)) (ls : List Descent) → AreLines above xs ls → length (all_tags ls) ≡ sum_by length xs
as_many above [] [] h = refl
as_many above [] (l ∷ ls) h = absurd h
as_many above (x ∷ xs) [] h = absurd h
as_many above (x ∷ xs) (l ∷ ls) h =
    let tags : length l.tags ≡ length x = h.1 in omega (arith, tags, length-append l.tags (all_tags ls), as_many x xs ls h.2, sum_by-cons (length {A = LevelSymbol}) x xs)

each_parts : (P : ℕ → Type 0) (ks ms : List ℕ) → Each P (ks ++ ms) → Each P ks × Each P ms
each_parts P [] ms h = (tt, h)
each_parts P (k ∷ ks) ms h = let r = each_parts P ks ms h.1 in ((h.0, r.0), r.1)

each_both : (P : Tagged → Type 0) (cs bs : List Tagged) → Each P cs → Each P bs → Each P (cs ++ bs)
each_both P [] bs h g = g
each_both P (a ∷ cs) bs h g = (h.0, each_both P cs bs h.1 g)

of_level : (P : ℕ → Type 0) (t : ℕ) (x : List LevelSymbol) (ks : List ℕ) → Each P ks → Each (λ a. P a.tag) (tagged t x ks)
of_level P t [] ks h = tt
of_level P t (s ∷ x) [] h = tt
of_level P t (s ∷ x) (k ∷ ks) h = (h.0, of_level P t x ks h.1)

of_levels : (P : ℕ → Type 0) (t : ℕ) (xs : List (List LevelSymbol)) (ls : List Descent) → Each P (all_tags ls) → Each (λ a. P a.tag) (all_tagged t xs (tags_of ls))
of_levels P t [] ls h = tt
of_levels P t (x ∷ xs) [] h = tt
of_levels P t (x ∷ xs) (l ∷ ls) h =
    let r = each_parts P l.tags (all_tags ls) h in each_both (λ a. P a.tag) (tagged t x l.tags) (all_tagged (t + 1) xs (tags_of ls)) (of_level P t x l.tags r.0) (of_levels P (t + 1) xs ls r.1)

-- nothing was made yet
pub started : (seed : ℕ) (xs : List (List LevelSymbol)) (ls : List Descent) (s : Supply) → AreOldLevels xs ls → MarksAll (all_tags ls) (record { used = []; next = 0 }) s
    → IsRevised seed xs [] (record { old_lines = ls; view = []; lines = []; supply = s; mates = Some 0 ∷ [] })
started seed xs ls s h m = record {
  olds = h;
  in_use = of_levels (λ k. in_use s.used k ≡ true) 0 xs ls m.used;
  distinct = tt;
  lines = tt;
  view = refl;
  named = sym m.next;
  mates = refl;
  few = omega (arith, m.few, m.next, as_many _ xs ls h.lines);
}

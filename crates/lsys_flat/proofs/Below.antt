-- Levels, one below another.
use Rattle.std.proofs.Common.{◌≡◌, ℕ, zero, suc, ◌≤◌, List, [], ◌∷◌, ◌++◌, length, get_or, refl, sym, ap, subst, arith}
use Rattle.std.specs.Prelude.{sum_by}
use Rattle.std.proofs.lemmas.List.Sums.{sum_by-cons}
use Rattle.lsys_spec.specs.Systems.{Each}
use Rattle.lsys_spec.specs.Levels.{LevelSymbol}
use Rattle.lsys_spec.specs.Cuts.{Distinct}
use Rattle.lsys_flat.specs.Origins.{AreChildren, root_level}
use Rattle.lsys_flat.proofs.Agreeing.{distinct_at}
use Rattle.lsys_flat.specs.Lines.{Descent, no_line, AreLines}
use Rattle.lsys_flat.specs.Revised.{tags_of, above_level}

-- the level above level t, where this one stands above them all
abbrev pub level_above : List LevelSymbol → List (List LevelSymbol) → ℕ → List LevelSymbol
level_above above xs zero = above
level_above above xs (suc t) = get_or xs t []

-- what is known of a level
pub record LineAt (above x : List LevelSymbol) (l : Descent) : Type 0 where
  pub children : AreChildren above l.origins x
  pub tags : length l.tags ≡ length x

line_at : (above : List LevelSymbol) (xs : List (List LevelSymbol)) (ls : List Descent) → AreLines above xs ls → (t : ℕ) → LineAt (level_above above xs t) (get_or xs t []) (get_or ls t no_line)
line_at above [] [] h t = record { children = tt; tags = refl }
line_at above [] (l ∷ ls) h t = absurd h
line_at above (x ∷ xs) [] h t = absurd h
line_at above (x ∷ xs) (l ∷ ls) h zero = record { children = h.0; tags = h.1 }
line_at above (x ∷ xs) (l ∷ ls) h (suc zero) = let r = line_at x xs ls h.2 zero in record { children = r.children; tags = r.tags }
line_at above (x ∷ xs) (l ∷ ls) h (suc (suc t)) = let r = line_at x xs ls h.2 (suc t) in record { children = r.children; tags = r.tags }

same_above : (xs : List (List LevelSymbol)) (t : ℕ) → level_above root_level xs t ≡ above_level xs t
same_above xs zero = refl
same_above xs (suc t) = refl

pub old_line : (xs : List (List LevelSymbol)) (ls : List Descent) → AreLines root_level xs ls → (t : ℕ) → LineAt (above_level xs t) (get_or xs t []) (get_or ls t no_line)
old_line xs ls h t = subst (λ above. LineAt above (get_or xs t []) (get_or ls t no_line)) (same_above xs t) (line_at root_level xs ls h t)

pub lines_count : (above : List LevelSymbol) (xs : List (List LevelSymbol)) (ls : List Descent) → AreLines above xs ls → length ls ≡ length xs
lines_count above [] [] h = refl
lines_count above [] (l ∷ ls) h = absurd h
lines_count above (x ∷ xs) [] h = absurd h
lines_count above (x ∷ xs) (l ∷ ls) h = ap suc (lines_count x xs ls h.2)

lines_push : (above : List LevelSymbol) (xs : List (List LevelSymbol)) (ls : List Descent) (x : List LevelSymbol) (l : Descent) → AreLines above xs ls → LineAt (level_above above xs (length xs)) x l
    → AreLines above (xs ++ x ∷ []) (ls ++ l ∷ [])
lines_push above [] [] x l h g = (g.children, g.tags, tt)
lines_push above [] (k ∷ ls) x l h g = absurd h
lines_push above (y ∷ xs) [] x l h g = absurd h
lines_push above (y ∷ xs) (k ∷ ls) x l h g = (h.0, h.1, lines_push y xs ls x l h.2 (subst (λ a. LineAt a x l) (later y xs (length xs)) g))
  where
    later : (y : List LevelSymbol) (xs : List (List LevelSymbol)) (n : ℕ) → get_or (y ∷ xs) n [] ≡ level_above y xs n
    later y xs zero = refl
    later y xs (suc n) = refl

pub new_line : (ys : List (List LevelSymbol)) (ls : List Descent) (y : List LevelSymbol) (l : Descent) → AreLines root_level ys ls → LineAt (above_level ys (length ys)) y l → AreLines root_level (ys ++ y ∷ []) (ls ++ l ∷ [])
new_line ys ls y l h g = lines_push root_level ys ls y l h (subst (λ a. LineAt a y l) (sym (same_above ys (length ys))) g)

-- tags by levels
pub tags_at : (ls : List Descent) (t : ℕ) → get_or (tags_of ls) t [] ≡ (get_or ls t no_line).tags
tags_at [] t = refl
tags_at (l ∷ ls) zero = refl
tags_at (l ∷ ls) (suc t) = tags_at ls t

pub tags_push : (ls : List Descent) (l : Descent) → tags_of (ls ++ l ∷ []) ≡ tags_of ls ++ l.tags ∷ []
tags_push [] l = refl
tags_push (k ∷ ls) l = ap (λ ks. k.tags ∷ ks) (tags_push ls l)

-- lineages distinct on each level, and on the one above

pub distinct_above : (xs : List (List LevelSymbol)) (t : ℕ) → Each Distinct xs → Distinct (above_level xs t)
distinct_above xs zero h = (tt, tt)
distinct_above xs (suc t) h = distinct_at xs t h

pub distinct_push : (ys : List (List LevelSymbol)) (y : List LevelSymbol) → Each Distinct ys → Distinct y → Each Distinct (ys ++ y ∷ [])
distinct_push [] y h g = (g, tt)
distinct_push (x ∷ ys) y h g = (h.0, distinct_push ys y h.1 g)

-- a level is no longer than all
pub level_short : (xs : List (List LevelSymbol)) (t : ℕ) → length (get_or xs t []) ≤ sum_by length xs
level_short [] t = omega arith
level_short (x ∷ xs) zero = omega (arith, sum_by-cons (length {A = LevelSymbol}) x xs)
level_short (x ∷ xs) (suc t) = omega (arith, sum_by-cons (length {A = LevelSymbol}) x xs, level_short xs t)

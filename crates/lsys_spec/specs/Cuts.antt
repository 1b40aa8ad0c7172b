-- The cut (ABOP chapter 3): `%` takes away itself and what follows it in its branch. And the order of lineages.
use Rattle.std.specs.Prelude.{◌≡◌, ◌≤◌, ◌-◌, ℕ, zero, suc, Bool, true, false, Option, Some, None, List, [], ◌∷◌, ◌==◌, ◌&&◌, ◌||◌, ◌<◌, ◌⊎◌, take, drop, slice_get, if◌then◌else◌}
use Rattle.lsys_spec.specs.Levels.{LevelSymbol, Push, Pop, Module, lineage}

-- a symbol of a string in which the cuts still stand
pub data Raw : Type 0 where
  Plain : LevelSymbol → Raw
  Cut : List ℕ → Raw

abbrev pub raw_lineage : Raw → List ℕ
raw_lineage (Plain s) = lineage s
raw_lineage (Cut l) = l

abbrev pub raw_balanced : ℕ → List Raw → Bool
raw_balanced n [] = n == 0
raw_balanced n (Cut l ∷ x) = raw_balanced n x
raw_balanced n (Plain (Module l m) ∷ x) = raw_balanced n x
raw_balanced n (Plain (Push l) ∷ x) = raw_balanced (suc n) x
raw_balanced zero (Plain (Pop l) ∷ x) = false
raw_balanced (suc n) (Plain (Pop l) ∷ x) = raw_balanced n x

-- Where a branch is being cut off, the number of branches that are open in what is cut off.
abbrev pub cut_on : Option ℕ → List Raw → List LevelSymbol
cut_on cutting [] = []
cut_on None (Cut l ∷ x) = cut_on (Some 0) x
cut_on None (Plain s ∷ x) = s ∷ cut_on None x
cut_on (Some n) (Cut l ∷ x) = cut_on (Some n) x
cut_on (Some n) (Plain (Module l m) ∷ x) = cut_on (Some n) x
cut_on (Some n) (Plain (Push l) ∷ x) = cut_on (Some (suc n)) x
cut_on (Some zero) (Plain (Pop l) ∷ x) = Pop l ∷ cut_on None x
cut_on (Some (suc n)) (Plain (Pop l) ∷ x) = cut_on (Some n) x

abbrev pub cut : List Raw → List LevelSymbol
cut x = cut_on None x

-- By places: every front of a part has at least as many `[` as `]`, so nothing ends the branch in which it begins.
abbrev pub never_closes : ℕ → List Raw → Bool
never_closes n [] = true
never_closes n (Cut l ∷ x) = never_closes n x
never_closes n (Plain (Module l m) ∷ x) = never_closes n x
never_closes n (Plain (Push l) ∷ x) = never_closes (suc n) x
never_closes zero (Plain (Pop l) ∷ x) = false
never_closes (suc n) (Plain (Pop l) ∷ x) = never_closes n x

-- The cut at place q cuts off the symbol at place p: q isn't after p, and nothing from q to p ends the branch of q.
pub record CutsOff (x : List Raw) (q p : ℕ) : Type 0 where
  pub there : (l : List ℕ) × (slice_get x q ≡ Some (Cut l))
  pub reaches : q ≤ p
  pub stays : never_closes 0 (take (p - q) (drop (suc q) x)) ≡ true

abbrev pub IsCutOff : List Raw → ℕ → Type 0
IsCutOff x p = (q : ℕ) × CutsOff x q p

abbrev pub is_percent : Raw → Bool
is_percent (Cut l) = true
is_percent (Plain s) = false

-- the same as a test: by the first symbol, or by one after it
abbrev pub is_cut_off : List Raw → ℕ → Bool
is_cut_off [] p = false
is_cut_off (r ∷ x) zero = is_percent r
is_cut_off (r ∷ x) (suc p) = (is_percent r && never_closes 0 (take (suc p) x)) || is_cut_off x p

-- the brackets and modules at places that don't pass, in order
abbrev pub kept : (ℕ → Bool) → List Raw → List LevelSymbol
kept off [] = []
kept off (Cut l ∷ x) = kept (λ p. off (suc p)) x
kept off (Plain s ∷ x) = if off 0 then kept (λ p. off (suc p)) x else s ∷ kept (λ p. off (suc p)) x

-- a comes before b: at the first place where they differ it has the smaller number
abbrev pub Before : List ℕ → List ℕ → Type 0
Before [] b = ⊥
Before (x ∷ a) [] = ⊥
Before (x ∷ a) (y ∷ b) = (x < y) ⊎ ((x ≡ y) × Before a b)

-- a and the lineage of each symbol are related
abbrev pub WithAll : (List ℕ → List ℕ → Type 0) → List ℕ → List LevelSymbol → Type 0
WithAll R a [] = Unit {0}
WithAll R a (s ∷ ss) = R a (lineage s) × WithAll R a ss

-- each lineage and every one after it are related
abbrev pub Pairwise : (List ℕ → List ℕ → Type 0) → List LevelSymbol → Type 0
Pairwise R [] = Unit {0}
Pairwise R (s ∷ ss) = WithAll R (lineage s) ss × Pairwise R ss

abbrev pub BeforeAll : List ℕ → List LevelSymbol → Type 0
BeforeAll a x = WithAll Before a x

-- the lineages rise from left to right
abbrev pub Rising : List LevelSymbol → Type 0
Rising x = Pairwise Before x

-- each lineage stands there once
abbrev pub Distinct : List LevelSymbol → Type 0
Distinct x = Pairwise (λ a b. a ≡ b → ⊥) x

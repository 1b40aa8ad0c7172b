-- Numbers in a row.
use Rattle.std.specs.Prelude.{◌≡◌, ◌⊎◌, ℕ, List, [], ◌∷◌, ◌++◌, Option, Some, None}

-- the first of these, if there is one
abbrev pub first_in : List ℕ → Option ℕ
first_in [] = None
first_in (x ∷ xs) = Some x

-- the last of these, if there is one
abbrev pub last_in : List ℕ → Option ℕ
last_in [] = None
last_in (x ∷ []) = Some x
last_in (x ∷ y ∷ xs) = last_in (y ∷ xs)

-- these from the last to the first
abbrev pub mirrored : List ℕ → List ℕ
mirrored [] = []
mirrored (x ∷ xs) = mirrored xs ++ x ∷ []

-- the rows of these, one after the other
abbrev pub flat : (ℕ → List ℕ) → List ℕ → List ℕ
flat f [] = []
flat f (x ∷ xs) = f x ++ flat f xs

-- the number is among these
abbrev pub In : ℕ → List ℕ → Type 0
In k [] = ⊥
In k (x ∷ xs) = (k ≡ x) ⊎ In k xs

-- no number stands twice
abbrev pub AreApart : List ℕ → Type 0
AreApart [] = Unit {0}
AreApart (x ∷ xs) = (In x xs → ⊥) × AreApart xs

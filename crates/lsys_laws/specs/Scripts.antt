-- What is said of the lines of a script.
use Rattle.std.specs.Prelude.{◌≢◌, ℕ, List, [], ◌∷◌, ◌++◌}
use Rattle.lsys_spec.specs.Systems.{Each}

-- no byte is an LF
abbrev pub HasNoFeed : List ℕ → Type 0
HasNoFeed line = Each (λ b. b ≢ 10) line

-- the lines, and an LF between each and the next
abbrev pub with_feeds : List (List ℕ) → List ℕ
with_feeds [] = []
with_feeds (line ∷ []) = line
with_feeds (line ∷ next ∷ lines) = line ++ 10 ∷ with_feeds (next ∷ lines)

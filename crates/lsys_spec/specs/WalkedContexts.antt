-- What the walks of a rule answer.
use Rattle.std.specs.Prelude.{◌≡◌, ℕ, Bool, List, reverse, ◌+◌}
use Rattle.lsys_syntax.specs.Strings.{ModuleName}
use Rattle.lsys_spec.specs.Bodies.{Pattern, Patterns, Body}
use Rattle.lsys_spec.specs.Levels.{LevelSymbol, way, Items, ModuleValue, items_from}
use Rattle.lsys_spec.specs.Walks.{Mark, left_walk, right_walk}
use Rattle.lsys_spec.specs.Contexts.{path, left, right, around}
use Rattle.lsys_spec.specs.Choice.{contexts}

-- the left walk answers the last modules of the path, where they match the patterns in order
abbrev pub LeftWalksAnswerThePath : Type 0
LeftWalksAnswerThePath =
    (ignored : ModuleName → Bool) (d : Mark) (patterns : List Pattern) (x : List LevelSymbol) (p : ℕ)
    → (left_walk ignored d (reverse patterns) (way x p)).answer ≡ left patterns (path ignored x p)

-- the right walk answers the match of the patterns with the rest of the branch
abbrev pub RightWalksAnswerTheBranch : Type 0
RightWalksAnswerTheBranch =
    (ignored : ModuleName → Bool) (d : Mark) (patterns : Patterns) (rest : Items)
    → (right_walk ignored d patterns rest).answer ≡ right ignored patterns rest

-- a rule's walks answer the left context, the module itself, and the right context
abbrev pub WalksAnswerWhatStandsAround : Type 0
WalksAnswerWhatStandsAround =
    (ignored : ModuleName → Bool) (d : Mark) (b : Body) (own : ModuleValue) (x : List LevelSymbol)
    (p : ℕ)
    → (contexts ignored d b own (way x p) (items_from x (p + 1))).answer
    ≡ around (left b.left (path ignored x p)) own (right ignored b.right (items_from x (p + 1)))

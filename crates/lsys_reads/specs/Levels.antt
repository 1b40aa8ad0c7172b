-- The levels of a forest's nodes as those of a system, with what is kept of their questions.
use Rattle.std.specs.Prelude.{◌≡◌, ◌<◌, ℕ, true, List, [], ◌∷◌, length, Option, Some, None, flat_map, get_or, slice_get}
use Rattle.std.specs.Option.{option_and_then}
use Rattle.lsys_spec.specs.Rows.{In}
use Rattle.lsys_spec.specs.Draws.{key_of}
use Rattle.lsys_spec.specs.Systems.{System}
use Rattle.lsys_spec.specs.Bodies.{Body, group}
use Rattle.lsys_spec.specs.Levels.{ModuleValue, level_balanced}
use Rattle.lsys_spec.specs.Levels as L
use Rattle.lsys_level.specs.Spots.{Seen, Push, Pop, Module, Spotted, level_by}
use Rattle.lsys_walks.specs.Stores.{Store}
use Rattle.lsys_walks.specs.Noted.{Noted, Compared, Ignored, Out, Branched}
use Rattle.lsys_match.specs.Kept.{Kept}
use Rattle.lsys_match.specs.Stored.{answer_in, trace_in}
use Rattle.lsys_match.specs.Asks.{IsMade}
use Rattle.lsys_match.specs.Recalled.{IsAnswerThere}
use Rattle.lsys_forest.specs.Nodes.{Nodes}
use Rattle.lsys_forest.specs.Answers.{answer_of}
use Rattle.lsys_forest.specs.Rows.{level_spots}
use Rattle.lsys_reads.specs.Lineages.{names}

-- level t of the nodes, by the lineages that they have
abbrev pub level_of : Nodes Kept → ℕ → ℕ → List L.LevelSymbol
level_of m root t = level_by (names m) (level_spots m root t)

-- they have these levels, with the keys of their lineages by the seed, and their brackets are balanced
pub record HaveLevels (m : Nodes Kept) (root seed : ℕ) (xs : List (List L.LevelSymbol)) : Type 0 where
  pub each : (t : ℕ) → t < length xs → level_of m root t ≡ get_or xs t []
  pub keys : (t p : ℕ) (a : Spotted) → t < length xs → slice_get (level_spots m root t) p ≡ Some a
      → a.key ≡ key_of seed (names m a.tag)
  pub balanced : (t : ℕ) → t < length xs
      → level_balanced 0 (level_by (λ tag. []) (level_spots m root t)) ≡ true

-- the answer that a node keeps
abbrev pub answer_at : Nodes Kept → ℕ → Option Kept
answer_at m k = option_and_then answer_of (m k)

-- The answer to the question of the module v with this tag at place p of a row that is level t of the system: by every naming
-- of the tags it is the definitions' answer. And it was made with this store.
pub record IsRight (s : System) (t : ℕ) (row : List Spotted) (store : Store) (p tag : ℕ) (v : ModuleValue)
    (a : Kept) : Type 0 where
  pub made : IsMade store a
  pub answer : IsAnswerThere s t row p tag v (answer_in store a)

-- an answer is kept where there is a group, and it is right; and none else
abbrev pub IsKeptFor : List Body → (Kept → Type 0) → Option Kept → Type 0
IsKeptFor [] right o = o ≡ None
IsKeptFor (b ∷ bs) right o = (a : Kept) × (o ≡ Some a) × right a

abbrev pub IsAnsweredRight : System → ℕ → List Spotted → Store → ℕ → ℕ → Seen → Option Kept → Type 0
IsAnsweredRight s t row store p tag Push o = o ≡ None
IsAnsweredRight s t row store p tag Pop o = o ≡ None
IsAnsweredRight s t row store p tag (Module v) o =
    IsKeptFor (group s t v.name (length v.params)) (IsRight s t row store p tag v) o

-- so it is with the answer at place p of the row
abbrev pub AnsweredIn : System → ℕ → List Spotted → Store → ℕ → Option Kept → Type 0
AnsweredIn s t row store p o =
    (x : Spotted) → slice_get row p ≡ Some x → IsAnsweredRight s t row store p x.tag x.seen o

-- and at node k, which stands at place p of level t
abbrev pub AnsweredAt : System → ℕ → Nodes Kept → ℕ → Store → ℕ → ℕ → Type 0
AnsweredAt s t m root store p k = AnsweredIn s t (level_spots m root t) store p (answer_at m k)

-- the tags that an entry names
abbrev pub tags_named : Noted → List ℕ
tags_named (Compared d k v) = k ∷ []
tags_named (Ignored d k v) = k ∷ []
tags_named (Out d k) = k ∷ []
tags_named (Branched d o c) = o ∷ c ∷ []

abbrev pub tags_read : Store → Kept → List ℕ
tags_read store a = flat_map tags_named (trace_in store a)

-- the answer that the reader keeps read the tag
pub record HasRead (m : Nodes Kept) (store : Store) (reader seen : ℕ) : Type 0 where
  pub answer : Kept
  pub kept : answer_at m reader ≡ Some answer
  pub among : In seen (tags_read store answer)

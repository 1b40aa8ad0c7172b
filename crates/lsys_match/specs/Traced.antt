-- Traces told by tags.
use Rattle.std.specs.Prelude.{◌≡◌, ◌↔◌, ℕ, Some, List, map, slice_get}
use Rattle.lsys_spec.specs.Draws.{key_of}
use Rattle.lsys_spec.specs.Systems.{System}
use Rattle.lsys_spec.specs.Bodies.{Body}
use Rattle.lsys_spec.specs.Levels.{ModuleValue}
use Rattle.lsys_spec.specs.Questions.{question}
use Rattle.lsys_level.specs.Spots.{Spotted, Module, level_by}
use Rattle.lsys_level.specs.Tags.{NamesTell, StandsThere}
use Rattle.lsys_walks.specs.Noted.{Noted, entry_by}
use Rattle.lsys_walks.specs.Agreements.{HasTag}

-- the module m stands at place p with this tag, and with the key of this lineage
abbrev pub IsOwn : ℕ → List Spotted → ℕ → ℕ → ModuleValue → List ℕ → Type 0
IsOwn seed row p tag m l = slice_get row p ≡ Some (record { seen = Module m; tag = tag; key = key_of seed l })

-- The trace of the module m at place p of level t, for these bodies: by every naming of the tags that gives the module the lineage of its key it is the definitions' trace.
pub record IsTraceAt (s : System) (t : ℕ) (bs : List Body) (row : List Spotted) (p tag : ℕ) (m : ModuleValue) (trace : List Noted) : Type 0 where
  pub line : List ℕ
  pub here : IsOwn s.seed row p tag m line
  pub told : (naming : ℕ → List ℕ) → IsOwn s.seed row p tag m (naming tag) → map (entry_by naming) trace ≡ (question s t bs (level_by naming row) p (naming tag) m).trace

-- the tags of a trace stand on the level
abbrev pub TraceTagsStandThere : Type 0
TraceTagsStandThere =
    (s : System) (t : ℕ) (bs : List Body) (row : List Spotted) (p tag : ℕ) (m : ModuleValue)
    (trace : List Noted)
    → IsTraceAt s t bs row p tag m trace
    → (k : ℕ) → HasTag k trace
    → StandsThere k row

-- where a naming tells the tags of both levels, traces are the same by tags exactly where they are by
-- lineages
abbrev pub TracesAgreeByLineages : Type 0
TracesAgreeByLineages =
    (old new : System) (t : ℕ) (bs cs : List Body) (x y : List Spotted) (p q tag tag' : ℕ)
    (m n : ModuleValue) (a b : List Noted) (naming : ℕ → List ℕ)
    → IsTraceAt old t bs x p tag m a
    → IsTraceAt new t cs y q tag' n b
    → NamesTell naming x y
    → (a ≡ b) ↔ (map (entry_by naming) a ≡ map (entry_by naming) b)

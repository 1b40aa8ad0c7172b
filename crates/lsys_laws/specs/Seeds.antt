-- What a key tells of its seed, and what a seed tells of levels where no rule has a weight.
use Rattle.std.specs.Prelude.{◌≡◌, ◌<◌, ◌^◌, ℕ, None, List, length}
use Rattle.lsys_syntax.specs.Commands.{set_seed}
use Rattle.lsys_spec.specs.Draws.{key_of}
use Rattle.lsys_spec.specs.Systems.{System, Each}
use Rattle.lsys_spec.specs.Edits.{changed}
use Rattle.lsys_spec.specs.Bodies.{group, filter}
use Rattle.lsys_spec.specs.Levels.{LevelSymbol, ModuleValue}
use Rattle.lsys_spec.specs.Meaning.{key_for, asked, successor, first_level, next_level, meaning_to, meaning}
use Rattle.lsys_spec.specs.Questions.{Question, questions_at, questions}
use Rattle.lsys_spec.specs.LevelLaws.{may_differ, candidate_visits}
use Rattle.lsys_laws.specs.Passes.{module_question}

-- no lineage has one key under two seeds
abbrev pub KeysTellTheirSeeds : Type 0
KeysTellTheirSeeds =
    (seed other : ℕ) (lineage : List ℕ) → seed < 2 ^ 64 → other < 2 ^ 64
    → key_of seed lineage ≡ key_of other lineage → seed ≡ other

-- no rule of the system has a weight
abbrev pub HasNoWeights : System → Type 0
HasNoWeights s = Each (λ p. p.rule.weight ≡ None) s.rules

-- the system with another seed
abbrev pub reseeded : ℕ → System → System
reseeded seed s = changed s (set_seed seed)

-- What two systems share of a module on level t. Both have the same rules for it, and no key: so wherever it stands, and
-- whatever its lineage is, they ask the same of it, choose the same rule, and give the same successor or fault.
pub record AskAlikeAt (s r : System) (t : ℕ) (m : ModuleValue) : Type 0 where
  pub rules : group r t m.name (length m.params) ≡ group s t m.name (length m.params)
  pub keyless : (l : List ℕ) → key_for s l (group s t m.name (length m.params)) ≡ None
  pub still_keyless : (l : List ℕ) → key_for r l (group r t m.name (length m.params)) ≡ None
  pub asks : (x : List LevelSymbol) (p : ℕ) (l : List ℕ)
      → module_question r t x p l m ≡ module_question s t x p l m
  pub chooses : (x : List LevelSymbol) (p : ℕ) (l : List ℕ)
      → asked r t (group r t m.name (length m.params)) x p l m
      ≡ asked s t (group s t m.name (length m.params)) x p l m
  pub gives : (x : List LevelSymbol) (p : ℕ) (l : List ℕ)
      → successor r t x p l m ≡ successor s t x p l m

-- What two systems share that differ in the seed alone, and whose rules have no weights: the levels or the refusal, under each
-- limit, and the questions on them; and from either, or to either, an edit disturbs the same questions and reads the same. Only
-- the keys of the levels' symbols are by the seed of each: `key_of` this seed and the symbol's lineage. No question has one.
pub record AskAlike (s r : System) : Type 0 where
  pub modules : (t : ℕ) (m : ModuleValue) → AskAlikeAt s r t m
  pub filters : (t : ℕ) → filter r t ≡ filter s t
  pub depth : r.depth ≡ s.depth
  pub first : first_level r ≡ first_level s
  pub next : (t : ℕ) (x : List LevelSymbol) → next_level r t x ≡ next_level s t x
  pub levels_to : (limit t : ℕ) → meaning_to r limit t ≡ meaning_to s limit t
  pub levels : (limit : ℕ) → meaning r limit ≡ meaning s limit
  pub level_asks : (t : ℕ) (x : List LevelSymbol) → questions_at r t x ≡ questions_at s t x
  pub asks : (xs : List (List LevelSymbol)) → questions r xs ≡ questions s xs
  pub disturbed_from : (new : System) (xs ys : List (List LevelSymbol)) (q : Question)
      → may_differ r new xs ys q ≡ may_differ s new xs ys q
  pub disturbed_to : (old : System) (xs ys : List (List LevelSymbol)) (q : Question)
      → may_differ old r xs ys q ≡ may_differ old s xs ys q
  pub visits_from : (new : System) (xs ys : List (List LevelSymbol))
      → candidate_visits r new xs ys ≡ candidate_visits s new xs ys
  pub visits_to : (old : System) (xs ys : List (List LevelSymbol))
      → candidate_visits old r xs ys ≡ candidate_visits old s xs ys

-- Questions and answers told by tags: a tag stands for a level and a lineage.
use Rattle.std.specs.Prelude.{◌≡◌, ℕ, ℤ, true, List, Option, length, if◌then◌else◌, Some, None, MatchOption}
use Rattle.lsys_syntax.specs.Strings as S
use Rattle.lsys_spec.specs.Systems.{System}
use Rattle.lsys_spec.specs.Bodies.{Body, group}
use Rattle.lsys_spec.specs.Levels.{ModuleValue, Module}
use Rattle.lsys_spec.specs.Equalities.{same_all, same_body}
use Rattle.lsys_spec.specs.Meaning.{any_weight}
use Rattle.lsys_spec.specs.Questions.{Question}
use Rattle.lsys_walks.specs.Noted.{Noted}
use Rattle.lsys_match.specs.Tries.{entries_by}

-- a question but for its trace: the module with its tag, the bodies of its group in order, and its key where the group has weights
pub record Posed : Type 0 where
  pub tag : ℕ
  pub own : ModuleValue
  pub bodies : List Body
  pub key : Option ℕ

pub record TagQuestion : Type 0 where
  pub posed : Posed
  pub trace : List Noted

-- a question, the place of the rule that is chosen, and the successor
pub record TagAnswer : Type 0 where
  pub question : TagQuestion
  pub chosen : Option ℕ
  pub successor : List (S.Symbol ℤ)

-- the question of level t that it stands for, where a naming tells the lineage of each tag
abbrev pub question_by : (ℕ → List ℕ) → ℕ → TagQuestion → Question
question_by naming t q = record {
  level = t;
  own = Module (naming q.posed.tag) q.posed.own;
  bodies = q.posed.bodies;
  key = q.posed.key;
  trace = entries_by naming q.trace;
}

-- what is posed of a module of level t
abbrev pub posed_of : System → ℕ → ℕ → ℕ → ModuleValue → Posed
posed_of s t tag key m =
    let bs = group s t m.name (length m.params) in record { tag = tag; own = m; bodies = bs; key = if any_weight bs then Some key else None }

-- the same is posed; bodies are compared by the definitions' test
pub record IsSamePosed (a b : Posed) : Type 0 where
  pub tag : a.tag ≡ b.tag
  pub own : a.own ≡ b.own
  pub bodies : same_all same_body a.bodies b.bodies ≡ true
  pub key : a.key ≡ b.key

-- it is there where the same is posed, and only there
abbrev pub IsThereIfSame : {T : Type 0} → Posed → Posed → Option T → Type 0
IsThereIfSame a b o = MatchOption o (IsSamePosed a b → ⊥) (λ _. IsSamePosed a b)

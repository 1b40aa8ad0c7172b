-- Which nodes of a level have other rules than at the last rest.
use Rattle.std.specs.Prelude.{◌≡◌, ◌<◌, ◌≤◌, ◌↔◌, ℕ, List, []}
use Rattle.lsys_spec.specs.Rows.{In}
use Rattle.lsys_forest.specs.Groves.{Grove, IsLive, now_of}
use Rattle.lsys_forest.specs.Rows.{level_nodes}
use Rattle.lsys_front.specs.Others.{RulesOf, IsOtherwise}
use Rattle.lsys_front.specs.Questioned.{AddsOf}
use Rattle.lsys_pass.specs.Passes.{PassView}
use Rattle.lsys_pass.specs.Passes as P
use Rattle.lsys_pass.specs.Fresh.{row_of}

-- the rules of level t, by the system of the last rest and by the one that is being made
abbrev pub rules_on_level : PassView → ℕ → RulesOf
rules_on_level v t = record { old = v.system; new = v.next; level = t }

-- Of level t these nodes may have another question, whatever else differs: all of them, where the
-- last rest had no questions there; else those that are modules with other rules.
pub record IsOthers (v : PassView) (t : ℕ) (others : List ℕ) : Type 0 where
  pub all : v.system.depth ≤ t → others ≡ row_of v t
  pub unlike : t < v.system.depth → (k : ℕ) → In k others
      ↔ (In k (row_of v t) × IsOtherwise (rules_on_level v t) (P.now_in v) k)

module _ {A : Type 0} where
  -- all of these live
  abbrev pub AllLive : Grove A → List ℕ → Type 0
  AllLive f ks = (k : ℕ) → In k ks → IsLive f k

  -- these are the nodes of level t that are modules with other rules
  abbrev pub ListsOthers : RulesOf → Grove A → ℕ → List ℕ → Type 0
  ListsOthers r f t others = AddsOf (IsOtherwise r (now_of f)) (level_nodes (now_of f) f.root t) [] others

  -- all of these are nodes of level t that are modules with other rules, and there are no more
  abbrev pub AreUnlike : RulesOf → Grove A → ℕ → List ℕ → Type 0
  AreUnlike r f t others = (k : ℕ)
      → In k others ↔ (In k (level_nodes (now_of f) f.root t) × IsOtherwise r (now_of f) k)

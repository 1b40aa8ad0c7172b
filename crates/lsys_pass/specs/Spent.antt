-- What a pass has read since the last rest.
use Rattle.std.specs.Prelude.{◌≡◌, ◌+◌, ◌*◌, ◌≤◌, length, ℕ, List, [], ◌∷◌, Some, slice_get, if◌then◌else◌}
use Rattle.lsys_spec.specs.Rows.{In}
use Rattle.lsys_spec.specs.Systems.{System}
use Rattle.lsys_spec.specs.Levels.{LevelSymbol}
use Rattle.lsys_spec.specs.Questions.{questions_from}
use Rattle.lsys_spec.specs.LevelLaws.{candidate_visits}
use Rattle.lsys_match.specs.Derivations.{most_read}
use Rattle.lsys_reads.specs.Rows.{has}
use Rattle.lsys_laws.specs.Passes.{is_candidate_at}
use Rattle.lsys_laws.specs.LevelCounts.{read_by}
use Rattle.lsys_forest.specs.Rows.{level_nodes}
use Rattle.lsys_reads.specs.Meant.{levels_meant, meant_to, level_to, IsCandidate}
use Rattle.lsys_pass.specs.declared.state.PassState.{PassState}
use Rattle.lsys_pass.specs.declared.state.PassState.TheVariants.{Rest, Level, Done, Failed}
use Rattle.lsys_pass.specs.Passes.{PassView, now_in}

-- 1. on one level

-- The entries that are read for the symbol at place p of level t of a new system, which is y: where it has a question that is a
-- candidate, those of its trace.
abbrev pub read_at : System → System → List (List LevelSymbol) → ℕ → List LevelSymbol → ℕ → LevelSymbol → ℕ
read_at old new xs t y p a = read_by (is_candidate_at old new xs t y) (questions_from new t y p (a ∷ []))

-- of these symbols, from place p on, each by its own number of entries; but for those whose nodes are among the ones left out
abbrev pub read_without : (ℕ → LevelSymbol → ℕ) → List ℕ → ℕ → List LevelSymbol → List ℕ → ℕ
read_without entries out p [] ks = 0
read_without entries out p (a ∷ rest) [] = 0
read_without entries out p (a ∷ rest) (k ∷ ks) =
    (if has out k then 0 else entries p a) + read_without entries out (p + 1) rest ks

-- 2. of a pass

-- what was read of the level t at which it stands: for all candidates but those that are pending
abbrev pub visits_here : PassView → ℕ → ℕ
visits_here v t =
    read_without (read_at v.system v.next (levels_meant v.system v.limit) t (level_to v.next v.limit t))
    v.pending 0 (level_to v.next v.limit t) (level_nodes (now_in v) v.forest.root t)

-- and with what was read of the levels before it: for all their candidates
abbrev pub visits_in : PassView → PassState → ℕ
visits_in v Rest = 0
visits_in v (Level t) =
    candidate_visits v.system v.next (levels_meant v.system v.limit) (meant_to v.next v.limit t)
    + visits_here v t
visits_in v Done =
    candidate_visits v.system v.next (levels_meant v.system v.limit) (levels_meant v.next v.limit)
visits_in v Failed = 0

-- how many entries were read since the last rest
abbrev pub spent_visits : PassView → ℕ
spent_visits v = visits_in v v.state

-- 3. a level that was just made

-- All candidates of the level at which it stands are pending.
abbrev pub AllPending : PassView → PassState → Type 0
AllPending v (Level t) =
    (p k : ℕ) → slice_get (level_nodes (now_in v) v.forest.root t) p ≡ Some k
    → IsCandidate v.system v.next v.limit t p → In k v.pending
AllPending v Rest = Unit {0}
AllPending v Done = Unit {0}
AllPending v Failed = Unit {0}

-- 4. what counters rise by

-- by one for each new answer, and by the entries that are read
abbrev pub AsksRenewed : PassView → PassView → ℕ → ℕ → Type 0
AsksRenewed old new before after = after + length old.renewed ≡ before + length new.renewed

abbrev pub VisitsSpent : PassView → PassView → ℕ → ℕ → Type 0
VisitsSpent old new before after = after + spent_visits old ≡ before + spent_visits new

-- since the last rest at most by one for each symbol within the limit, and by the most that is read
-- for it
abbrev pub AsksWithin : PassView → ℕ → ℕ → Type 0
AsksWithin old before after = after + length old.renewed ≤ before + old.limit

abbrev pub VisitsWithin : PassView → ℕ → ℕ → Type 0
VisitsWithin old before after = after + spent_visits old ≤ before + most_read * old.limit

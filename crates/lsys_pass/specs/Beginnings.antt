-- The first level of another system, made from a pass at rest.
use Rattle.std.specs.Prelude.{◌≡◌, ◌≢◌, ◌≤◌, ◌∷◌, [], ℕ, List, map, false, Option, None, Some, MatchOption}
use Rattle.lsys_spec.specs.Systems.{System, WellSpelled}
use Rattle.lsys_rewrite.specs.declared.refusal.DeriveRefusal.{DeriveRefusal}
use Rattle.lsys_match.specs.Kept.{Kept}
use Rattle.lsys_forest.specs.Nodes.{Nodes, root_node}
use Rattle.lsys_forest.specs.Groves.{Grove, now_of, changes_in, live_nodes, IsAtRest}
use Rattle.lsys_reads.specs.declared.seat.Seat.{Seat}
use Rattle.lsys_reads.specs.Seats.{is_marked, HasSeat}
use Rattle.lsys_forest.specs.Rows.{kids_in}
use Rattle.lsys_children.specs.declared.need.Need.{Need}
use Rattle.lsys_children.specs.Matches.{nodes_without}
use Rattle.lsys_children.specs.Children.{ToldNodes}
use Rattle.lsys_children.specs.Nexts.{wanted_count}
use Rattle.lsys_children.specs.Renewals.{AreRenewals}
use Rattle.lsys_children.specs.Needs.{need_for, number_told, wanted_symbols}
use Rattle.lsys_children.specs.Made.{TellsAllOf}
use Rattle.lsys_front.specs.Fronts.{nothing}
use Rattle.lsys_pass.specs.declared.state.PassState.TheVariants.{Rest}
use Rattle.lsys_pass.specs.Stages.{Rests}
use Rattle.lsys_pass.specs.Passes.{PassView, stage_of, now_in, rest_in, IsPass}
use Rattle.lsys_pass.specs.Moves.{ArrivesAt}
use Rattle.lsys_pass.specs.Refusals.{IsFirstRefusal}

-- 1. the forest

-- the nodes stay, with their journal, and no other number of them lives
pub record KeepsNodes {A : Type 0} (old new : Grove A) : Type 0 where
  pub now : now_of new ≡ now_of old
  pub changes : changes_in new ≡ changes_in old
  pub root : new.root ≡ old.root
  pub live : live_nodes new ≡ live_nodes old

-- a forest is its root alone, and the seats beside it tell of nobody: there is one for the root
pub record IsGrown {A : Type 0} (forest : Grove A) (seats : List Seat) : Type 0 where
  pub others : (k : ℕ) → k ≢ forest.root → now_of forest k ≡ None
  pub root : now_of forest forest.root ≡ Some (root_node forest.root)
  pub rest : IsAtRest forest
  pub live : live_nodes forest ≡ 1
  pub unmarked : (k : ℕ) → is_marked seats k ≡ false
  pub seated : HasSeat seats forest.root

-- The children of the root were made those of the axiom of a system, which are no more than the limit, and it was told what differs.
pub record MakesFirst (s : System) (limit : ℕ) (old new : Nodes Kept) (root : ℕ)
    (told : ToldNodes) : Type 0 where
  pub spelled : WellSpelled s
  pub children : AreRenewals s.numbering s.seed old new root 0 (λ k. s.axiom_string) (root ∷ [])
  pub tells : TellsAllOf old new (root ∷ []) nothing told
  pub gone : told.gone ≡ nodes_without old
      (map number_told (wanted_symbols s.numbering s.axiom_string)) (kids_in (old root))
  pub within : wanted_count s.numbering s.axiom_string ≤ limit

abbrev pub MakesFirstIn : System → ℕ → Grove Kept → Grove Kept → ToldNodes → Type 0
MakesFirstIn s limit old new told = MakesFirst s limit (now_of old) (now_of new) old.root told

-- the same, under any limit that has room for them
abbrev pub MakesFirstUnder : System → Grove Kept → Grove Kept → ToldNodes → Type 0
MakesFirstUnder s old new told =
    (limit : ℕ) → wanted_count s.numbering s.axiom_string ≤ limit → MakesFirstIn s limit old new told

-- what it takes to make them
abbrev pub need_for_axiom : System → Grove Kept → Need
need_for_axiom s f = need_for s.numbering (now_of f) (kids_in (now_of f f.root)) s.axiom_string

-- so many symbols are within the limit; or a system is refused that has so many on its first level
abbrev pub RefusesLongAxiom : ℕ → ℕ → Option DeriveRefusal → Type 0
RefusesLongAxiom limit symbols r =
    (s : System) → symbols ≡ wanted_count s.numbering s.axiom_string
    → MatchOption r (symbols ≤ limit) (IsFirstRefusal s limit)

-- 2. the pass

-- it was at rest, where it was known who read what, and nothing changed since
pub record WasStill (v : PassView) : Type 0 where
  pub pass : IsPass (record v { state = Rest; next = v.system })
  pub rest : Rests (stage_of v)

-- It left its rest to make this system, and has its first level, or is done where that is the last one. No answer is new.
pub record Begun (old new : PassView) (s : System) : Type 0 where
  pub next : new.next ≡ s
  pub system : new.system ≡ old.system
  pub limit : new.limit ≡ old.limit
  pub root : new.forest.root ≡ old.forest.root
  pub was : rest_in new ≡ now_in old
  pub state : ArrivesAt s 0 new.state
  pub renewed : new.renewed ≡ []

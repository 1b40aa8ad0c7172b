-- In which runs of two regions the lists of a forest stand.
use Rattle.std.specs.Prelude.{◌≡◌, ℕ, ℤ, List, [], map, Option, None}
use Rattle.lsys_region.specs.Pool.{Pool}
use Rattle.lsys_forest.specs.Shelves.{run_at, run_list, AreOwned}
use Rattle.lsys_forest.specs.Slots.{SlotTable, slot_at}
use Rattle.lsys_forest.specs.Nodes.{Nodes}
use Rattle.lsys_forest.specs.Groves.{Grove, now_of}

-- Each of these lists stands in a run of a region: those at numbers, and the past ones. Each run is live, no two are one, and no
-- other run is live but one, in which a commit has a list in hand. Where no node lives at a number there is no run.
pub record StandIn {A T : Type 0} (m : Nodes A) (now past : List (List T)) (pool : Pool T) : Type 0 where
  pub runs : List (Option ℕ)
  pub past_runs : List (Option ℕ)
  pub in_hand : Option ℕ
  pub owned : AreOwned pool runs past_runs in_hand None
  pub lists : map (run_list pool) runs ≡ now
  pub past_lists : map (run_list pool) past_runs ≡ past
  pub vacant : (k : ℕ) → m k ≡ None → run_at runs k ≡ None

-- where no node lives at a number, there are no runs of lists
pub record HasNoVacantRuns {A : Type 0} (t : SlotTable A) : Type 0 where
  pub params : (k : ℕ) → slot_at t.slots k ≡ None → run_at t.param_runs k ≡ None
  pub kids : (k : ℕ) → slot_at t.slots k ≡ None → run_at t.kid_runs k ≡ None

module _ {A : Type 0} where
  -- so the lists of a forest stand in these regions
  abbrev pub ParamsStandIn : Grove A → Pool ℤ → Type 0
  ParamsStandIn f pool = StandIn (now_of f) f.stock.params f.stock.past_params pool

  abbrev pub KidsStandIn : Grove A → Pool ℕ → Type 0
  KidsStandIn f pool = StandIn (now_of f) f.stock.kids f.stock.past_kids pool

  -- there are no lists that nodes had before a change
  pub record HasNoPastLists (f : Grove A) : Type 0 where
    pub params : f.stock.past_params ≡ []
    pub kids : f.stock.past_kids ≡ []

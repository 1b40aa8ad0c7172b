-- Runs of answers by their names.
use Rattle.std.proofs.Common.{◌≡◌, ℕ, Option, Some, None, refl, ap, sym}
use Rattle.std.specs.Prelude.{IsSome, option_map}
use Rattle.lsys_region.specs.Pool.{Pool, list_at, IsLiveRun}
use Rattle.lsys_walks.specs.Stores.{Store, AreLive, OtherTracesStay}
use Rattle.lsys_match.specs.Kept.{Kept}
use Rattle.lsys_match.specs.Stored.{runs_of}
use Rattle.lsys_reads.specs.Names.{RunName, InTraces, InValues, Entries, Values, run_in, holds}

some_mapped : {A B : Type 0} (f : A → B) (o : Option A) → IsSome (option_map f o) → IsSome o
some_mapped f None h = h
some_mapped f (Some a) h = refl

live_one : {T : Type 0} (pool : Pool T) (run : Option ℕ) → ((n : ℕ) → run ≡ Some n → IsSome (list_at pool n)) → IsLiveRun pool run
live_one pool None h = refl
live_one pool (Some n) h = h n refl

pub all_live : (s : Store) (a : Kept) → ((r : RunName) → holds a r → IsSome (run_in s r)) → AreLive s (runs_of a)
all_live s a h = (
  live_one s.traces a.entries (λ n e. some_mapped (λ xs. Entries xs) (list_at s.traces n) (h (InTraces n) e)),
  live_one s.values a.values (λ n e. some_mapped (λ xs. Values xs) (list_at s.values n) (h (InValues n) e)),
)

pub others_stay : (old new : Store) (a : Kept) → OtherTracesStay old new (runs_of a) → (r : RunName) → (holds a r → ⊥) → run_in new r ≡ run_in old r
others_stay old new a h (InTraces n) e = ap (option_map (λ xs. Entries xs)) (h.0 (Some n) (λ i. e (sym i)))
others_stay old new a h (InValues n) e = ap (option_map (λ xs. Values xs)) (h.1 (Some n) (λ i. e (sym i)))

-- What a holder of many runs keeps true of them.
use Rattle.std.specs.Prelude.{◌≡◌, ℕ, List, Option, Some, slice_get}
use Rattle.lsys_region.specs.Pool.{Pool, list_of}

-- each of these runs is live and has this list, and no two of them are one
pub record AreHeld {T : Type 0} (pool : Pool T) (held : List (Option ℕ × List T)) : Type 0 where
  pub live : (k : ℕ) (run : Option ℕ) (list : List T) → slice_get held k ≡ Some (run, list) → list_of pool run ≡ Some list
  pub once : (j k number : ℕ) (one two : List T) → slice_get held j ≡ Some (Some number, one) → slice_get held k ≡ Some (Some number, two) → j ≡ k

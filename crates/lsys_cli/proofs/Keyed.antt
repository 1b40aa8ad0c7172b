-- The last of some levels doesn't depend on keys.
use Rattle.std.proofs.Common.{◌≡◌, ◌<◌, ◌^◌, ℕ, true, List, [], map, ap, ◌∙◌, subst}
use Rattle.std.proofs.lemmas.List.{length-map}
use Rattle.lsys_spec.specs.Systems.{System}
use Rattle.lsys_spec.specs.Levels.{LevelSymbol, level_balanced}
use Rattle.lsys_level.specs.Spots.{Spotted, spots_at, level_by}
use Rattle.lsys_match.specs.Kept.{Kept}
use Rattle.lsys_forest.specs.Nodes.{Nodes}
use Rattle.lsys_out.specs.Drawings.{last_symbols}
use Rattle.lsys_out.specs.Nesting.{HasLast}
use Rattle.lsys_pass.specs.Views.{keyed_by}
use Rattle.lsys_pass.proofs.Keyed.{all_keyed, long_is, row_keyed, named_keyed}

module _ (seed : ℕ) (m : Nodes Kept) where
  pub last_unkeyed : (naming : ℕ → List ℕ) (s : System) (levels : List (List Spotted)) → last_symbols naming s
      (all_keyed seed m levels) ≡ last_symbols naming s levels
  last_unkeyed naming s levels = ap (level_by naming) (row_keyed seed m levels s.depth) ∙ named_keyed seed m naming
      (spots_at levels s.depth)

  pub unkeyed_last : (s : System) (levels : List (List Spotted)) → HasLast s (all_keyed seed m levels) → HasLast s levels
  unkeyed_last s levels h = record {
    spelled = h.spelled;
    level = subst (λ n. s.depth < n) (length-map levels (map (keyed_by seed m))) h.level;
    few = subst (λ n. n < 2 ^ 32) (long_is seed m levels s.depth) h.few;
    balance = subst (λ (x : List LevelSymbol). level_balanced 0 x ≡ true) (last_unkeyed (λ tag. []) s levels) h.balance;
  }

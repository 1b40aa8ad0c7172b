use Rattle.std.proofs.Common.{◌≡◌, map, take, drop, length}
use Rattle.lsys_spec.specs.Meaning.{filled_params}
use Rattle.lsys_rewrite.proofs.After.{after}
use Rattle.lsys_bodies.specs.Views.{tree_in}
use Rattle.lsys_rewrite.proofs.filling.fill_params.Given as goal

-- the values so far, with those of the parameters that are left after them, are those of all
abbrev pub invariant-loop-place : goal.invariant-loop-place
invariant-loop-place l = record {
  told : after (take l.place l.values) (filled_params (map tree_in (drop l.place l.params)) l.bound) ≡ filled_params (map tree_in l.params) l.bound;
  places : length l.values ≡ 8;
}

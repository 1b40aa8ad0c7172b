use Rattle.std.proofs.Common.{◌≡◌, List, length, take}
use Rattle.lsys_spec.specs.Levels.{LevelSymbol}
use Rattle.lsys_laws.specs.KeptQuestions.{places_in}
use Rattle.lsys_flat.specs.Lookups.{AreSorted}
use Rattle.lsys_flat.specs.Moves.{AreWithin}
use Rattle.lsys_flat.proofs.Mates.{Two}
use Rattle.lsys_flat.proofs.pairing.pair.Given as goal

abbrev pub invariant-loop-origin : goal.invariant-loop-origin
invariant-loop-origin l = record {
  sorted : AreSorted l.old l.places.sorted.items;
  each : length l.mates.items ≡ l.origin-index;
  below : AreWithin (length l.old) l.mates.items;
  paired : (a b x y : List LevelSymbol) → Two a b x y l.old l.new l.above → l.mates.items ≡ take l.origin-index (places_in x y);
}

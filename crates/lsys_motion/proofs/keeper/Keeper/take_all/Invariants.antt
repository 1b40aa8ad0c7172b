use Rattle.std.proofs.Common.{List, ◌++◌, length}
use Rattle.std.specs.Prelude.{ℤ}
use Rattle.lsys_syntax.specs.Strings as S
use Rattle.lsys_hom.specs.Parts.{IsSoundPart, symbols_of}
use Rattle.lsys_motion.specs.Keepers.{Keeps}
use Rattle.lsys_motion.proofs.keeper.Keeper.take_all.Given as goal

-- what was underway is, up to what is left of the part
abbrev pub invariant-symbols : goal.invariant-symbols
invariant-symbols g l = record {
  sound : IsSoundPart l.part;
  keeps : (rest : List (S.Symbol ℤ)) → Keeps g.T.Lattice.shape (symbols_of l.initial.part ++ rest) (symbols_of l.part ++ rest) l.initial.self l.self;
}

abbrev pub decreases-symbols : goal.decreases-symbols
decreases-symbols g l = length (symbols_of l.part)

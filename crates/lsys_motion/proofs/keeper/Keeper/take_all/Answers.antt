use Rattle.std.proofs.Common.{◌++◌, List, subst}
use Rattle.std.specs.Prelude.{ℤ}
use Rattle.lsys_syntax.specs.Strings as S
use Rattle.lsys_hom.specs.Parts.{symbols_of}
use Rattle.lsys_motion.specs.Keepers.{IsBusy}
use Rattle.lsys_motion.proofs.Keeping.{busy_then}
use Rattle.lsys_motion.proofs.keeper.Keeper.take_all.Goals as goal

pub follow-requires : goal.follow-requires
follow-requires g c =
    let l = g.T.Lattice.shape in
    let rest = c.requires.busy.0 in
    let now = c.symbols.self in
    let b = busy_then l (symbols_of c.args.part.now ++ rest) (symbols_of c.symbols.part ++ rest) c.args.self.now now (c.symbols.invariant.keeps rest) c.requires.busy.1 in
    (symbols_of c.next.new.self ++ rest, subst (λ (xs : List (S.Symbol ℤ)). IsBusy l (xs ++ rest) now) c.in-Some.ensures.taken b)

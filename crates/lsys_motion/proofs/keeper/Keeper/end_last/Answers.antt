use Rattle.std.proofs.Common.{sym, ◌∙◌}
use Rattle.lsys_motion.proofs.Keeping.{can_end, end_takes, end_fewer}
use Rattle.lsys_motion.proofs.keeper.Keeper.end_last.Goals as goal

pub end-requires : goal.end-requires
end-requires g c = can_end g.T.Lattice.shape c.requires.total c.requires.front c.args.self.now 0 (sym c.is_in_piece.ensures ∙ c.if-is_in_piece.true) c.requires.taken

pub returns-then-is_in_piece-clause-taken : goal.returns-then-is_in_piece-clause-taken
returns-then-is_in_piece-clause-taken g c =
    end_takes g.T.Lattice.shape c.args.self.now c.end.new.self 0 (sym c.is_in_piece.ensures ∙ c.if-is_in_piece.true) c.end.ensures

pub returns-then-is_in_piece-clause-fewer : goal.returns-then-is_in_piece-clause-fewer
returns-then-is_in_piece-clause-fewer g c h =
    end_fewer g.T.Lattice.shape c.args.self.now c.end.new.self 0 (sym c.is_in_piece.ensures ∙ c.if-is_in_piece.true) c.end.ensures

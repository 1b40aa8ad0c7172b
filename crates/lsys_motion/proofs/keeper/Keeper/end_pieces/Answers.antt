use Rattle.std.proofs.Common.{sym, ◌∙◌}
use Rattle.lsys_motion.proofs.Keeping.{busy_then, can_end, end_keeps, end_fewer, keeps_then}
use Rattle.lsys_motion.proofs.keeper.Keeper.end_pieces.Goals as goal

pub end-requires : goal.end-requires
end-requires g c =
    let l = g.T.Lattice.shape in
    let rest = c.requires.busy.0 in
    let b = busy_then l rest rest c.args.self.now c.pieces.self (c.pieces.invariant rest) c.requires.busy.1 in
    can_end l b.total b.is.front c.pieces.self c.args.depth (sym c.is_in_piece.ensures ∙ c.pieces-test.true) b.is.taken

pub pieces-smaller : goal.pieces-smaller
pieces-smaller g c = end_fewer g.T.Lattice.shape c.pieces.self c.end.new.self c.args.depth (sym c.is_in_piece.ensures ∙ c.pieces-test.true) c.end.ensures

pub pieces-preserved : goal.pieces-preserved
pieces-preserved g c rest =
    let l = g.T.Lattice.shape in
    keeps_then l rest rest rest c.args.self.now c.pieces.self c.end.new.self (c.pieces.invariant rest) (end_keeps l c.pieces.self c.end.new.self c.args.depth (sym c.is_in_piece.ensures ∙ c.pieces-test.true) c.end.ensures rest)

use Rattle.std.proofs.Common.{◌≡◌, ◌∷◌, drop, ap, false, nat_lt, sym, ◌∙◌, rules}
use Rattle.lsys_motion.specs.Pieces.{ImagePiece}
use Rattle.lsys_motion.proofs.Finding.{found_skips, near_skips}
use Rattle.lsys_motion.proofs.descent.stand_before.Goals as goal

pub down-preserved : goal.down-preserved
down-preserved g c =
    let l = g.T.Lattice.shape in
    let inside = c.piece.inside in
    let p : ImagePiece = record { symbols = inside.symbols; pieces = inside.pieces; start = inside.start } in
    let qs = c.in-Some.inner.now in
    let first : c.down.rest.now ≡ c.in-Some.piece.now ∷ c.in-Some.inner.now = search rules in
    let is = first ∙ ap (λ (q : ImagePiece). q ∷ c.in-Some.inner.now) (sym c.piece.view_is) in
    let past : nat_lt c.down.left p.symbols ≡ false = ap (λ (q : ImagePiece). nat_lt c.down.left q.symbols) c.piece.view_is ∙ sym c.holds.ensures ∙ c.if-holds.false in
    let rest = c.after-rest.ensures ∙ ap (λ n. drop n c.in-Some.inner.now) c.saturating_sub.ensures in
    record {
      found = found_skips l c.down.rest.now p qs c.after-rest.result.now c.down.left c.down.here is past rest ∙ c.down.invariant.found;
      near = c.down.invariant.near;
      near_to = near_skips l c.down.rest.now p qs c.after-rest.result.now c.down.left c.down.here is past rest c.down.invariant.near_to;
    }

use Rattle.std.proofs.Common.{◌≡◌, ◌++◌, ◌∷◌, [], length, arith}
use Rattle.std.proofs.lemmas.Grind.{common_steps}
use Rattle.lsys_growth.specs.Matrices.{place}
use Rattle.lsys_growth.proofs.Stopping.{needed_all, not_needed, one_needed}
use Rattle.lsys_growth.proofs.matrix.needed_places.Goals as goal
use Rattle.lsys_growth.proofs.matrix.needed_places.Goals.{then-not-is_zero+in_ok-push, else-not-is_zero}

pub loop-i-preserved : goal.loop-i-preserved
loop-i-preserved c =
    let row = c.args.row.now in
    let i = c.loop-i.i in
    elim c.if-not-is_zero.branch [
      | then-not-is_zero+in_ok-push w ↦
          let more : w.push.new.self.items ≡ c.loop-i.places.items ++ i ∷ [] = grind (arith, common_steps) in
          rw w.places-is (one_needed row i c.loop-i.places.items w.push.new.self.items more c.loop-i.invariant)
      | else-not-is_zero w ↦
          let z : place row i ≡ 0 = grind arith in
          rw w.places-is (not_needed row i c.loop-i.places.items z c.loop-i.invariant)
    ]

pub returns : goal.returns
returns c =
    let n : c.loop-i.i ≡ length c.args.row.now = grind arith in
    needed_all c.args.row.now c.loop-i.i c.loop-i.places.items n c.loop-i.invariant

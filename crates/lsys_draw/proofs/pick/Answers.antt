use Rattle.std.proofs.Common.{rules, ◌≡◌, ◌*◌, ◌/◌, ◌^◌, ◌<◌, sum, length, None, Some, arith}
use Rattle.std.proofs.lemmas.Grind.{common_steps}
use Rattle.lsys_spec.proofs.Picks.{aim_below, only_pick, reached}
use Rattle.lsys_draw.proofs.pick.Goals as goal

pub returns-then-whole-eq0-clause-value : goal.returns-then-whole-eq0-clause-value
returns-then-whole-eq0-clause-value c =
    only_pick c.args.draw c.args.weights.now None (search rules) (search rules)

pub returns-then-reached-aim-clause-value : goal.returns-then-reached-aim-clause-value
returns-then-reached-aim-clause-value c =
    only_pick c.args.draw c.args.weights.now (Some c.loop-place.place) (search rules)
    (search rules, grind (arith, common_steps), grind (arith, common_steps))

-- the loop leaves at a place, since the aim is below the sum
pub returns : goal.returns
returns c =
    let end : c.loop-place.place ≡ length c.args.weights.now = omega arith in
    let below : c.args.draw * sum c.args.weights.now / 2 ^ 64 < sum c.args.weights.now =
    aim_below _ _ (search rules) (grind arith) in
    absurd (reached (c.args.draw * sum c.args.weights.now / 2 ^ 64) c.args.weights.now below
    (λ k lt. grind (arith, c.loop-place.invariant.1 k)))

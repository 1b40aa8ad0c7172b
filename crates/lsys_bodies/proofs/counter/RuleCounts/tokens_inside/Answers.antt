use Rattle.std.proofs.Common.{sym, ◌∙◌}
use Rattle.lsys_bodies.proofs.Counted.{inside-passed, inside-more, inside-is, not-inside}
use Rattle.lsys_bodies.proofs.counter.RuleCounts.tokens_inside.Goals as goal

pub returns-then-inside_passes : goal.returns-then-inside_passes
returns-then-inside_passes c =
    inside-passed c.args.self c.args.params c.args.size c.loop-done.tokens c.loop-done.done c.loop-done-test.true
    (inside-is c.args.self c.loop-done.tokens c.args.params c.loop-done.done ∙ sym c.inside_passes.ensures ∙ c.if-inside_passes.true) c.loop-done.invariant

pub loop-done-preserved : goal.loop-done-preserved
loop-done-preserved c =
    inside-more c.args.self c.args.params c.args.size c.loop-done.tokens c.loop-done.done c.loop-done-test.true
    (not-inside c.loop-done.tokens c.args.params c.loop-done.done (sym c.inside_passes.ensures ∙ c.if-inside_passes.false))
    (inside-is c.args.self c.loop-done.tokens c.args.params c.loop-done.done ∙ sym c.inside_passes.ensures ∙ c.if-inside_passes.false) c.loop-done.invariant

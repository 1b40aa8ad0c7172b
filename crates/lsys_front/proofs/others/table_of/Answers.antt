use Rattle.std.proofs.Math.Nat.{mod-lt}
use Rattle.std.proofs.Common.{◌<◌, ◌%◌, length, ap, sym, ◌∙◌, subst}
use Rattle.lsys_spec.specs.Bodies.{table_at}
use Rattle.lsys_rules.proofs.Grouping.{word_there}
use Rattle.lsys_front.proofs.others.table_of.Goals as goal

pub returns : goal.returns
returns c =
    let level = c.args.level in
    let ws = c.schedule-schedule.result.now in
    let some : 0 < length ws = subst (λ vs. 0 < length vs) (sym c.schedule-schedule.ensures.words) c.schedule-schedule.ensures.well.0.some_word in
    let within : level % length ws < length ws = mod-lt level some in
    word_there ws (level % length ws) c.index-schedule-level.result within c.index-schedule-level.is ∙ ap (λ vs. table_at vs level) c.schedule-schedule.ensures.words

use Rattle.std.proofs.Common.{◌≡◌, ◌<◌, ◌∙◌, arith, rules, length, sym}
use Rattle.std.proofs.lemmas.List.{length-map}
use Rattle.std.proofs.lemmas.Grind.{common_steps}
use Rattle.lsys_flat.specs.Answers.{lists_of, CanMove}
use Rattle.lsys_flat.proofs.Moved.{can_go, goes_on, past_least, all_gone_over, all_left}
use Rattle.lsys_flat.proofs.taking.move_all.Given.{Over}
use Rattle.lsys_flat.proofs.taking.move_all.Goals.{After-deref}
use Rattle.lsys_flat.proofs.taking.move_all.Goals as goal

can : (g : Over) (c : After-deref g) → CanMove c.deref_mut.result.now c.deref_mut-in-loop-level.result.now c.deref.result.now
can g c =
    let x : c.loop-level.level < length c.loop-level.olds = search rules in
    let y : c.loop-level.level < length c.loop-level.fresh = search rules in
    let e : length c.args.fresh.now ≡ length c.args.taken.now = sym (length-map c.args.fresh.now _) ∙ c.requires.levels ∙ length-map c.args.taken.now _ in
    can_go (lists_of c.args.olds.now) (lists_of c.args.fresh.now) c.args.taken.now c.loop-level.level c.loop-level.olds c.loop-level.fresh c.loop-level.invariant
    c.index-olds-level.result c.index-fresh-level.result c.index-taken-level.result c.deref_mut.result.now c.deref_mut-in-loop-level.result.now c.deref.result.now
    x y (omega (arith, y, e, c.loop-level.auto.fresh)) c.deref_mut.ensures.value c.deref_mut-in-loop-level.ensures.value c.index-taken-level.is c.deref.ensures.value c.requires.places

pub move_kept-requires-clause-apart : goal.move_kept-requires-clause-apart
move_kept-requires-clause-apart g c = (can g (goal.at.move_kept-requires-clause-apart g c).After-deref).apart

pub move_kept-requires-clause-within : goal.move_kept-requires-clause-within
move_kept-requires-clause-within g c = (can g (goal.at.move_kept-requires-clause-within g c).After-deref).below

pub move_kept-requires-clause-each : goal.move_kept-requires-clause-each
move_kept-requires-clause-each g c = (can g (goal.at.move_kept-requires-clause-each g c).After-deref).each

pub loop-level-preserved : goal.loop-level-preserved
loop-level-preserved g c =
    let x : c.loop-level.level < length c.loop-level.olds = search rules in
    let y : c.loop-level.level < length c.loop-level.fresh = search rules in
    let e : length c.args.fresh.now ≡ length c.args.taken.now = sym (length-map c.args.fresh.now _) ∙ c.requires.levels ∙ length-map c.args.taken.now _ in
    goes_on (lists_of c.args.olds.now) (lists_of c.args.fresh.now) c.args.taken.now c.loop-level.level c.loop-level.olds c.loop-level.fresh c.loop-level.invariant
    c.index-olds-level.result c.index-fresh-level.result c.index-taken-level.result c.deref_mut.result.now c.deref_mut-in-loop-level.result.now c.deref.result.now c.move_kept.new.old c.move_kept.new.new
    x y (omega (arith, y, e, c.loop-level.auto.fresh))
    c.deref_mut.ensures.value c.deref_mut-in-loop-level.ensures.value c.index-taken-level.is c.deref.ensures.value c.move_kept.auto.old c.move_kept.auto.new c.move_kept.ensures.moved c.move_kept.ensures.left

pub returns-clause-moved : goal.returns-clause-moved
returns-clause-moved g c =
    all_gone_over (lists_of c.args.olds.now) (lists_of c.args.fresh.now) (lists_of c.args.taken.now) c.loop-level.level (lists_of c.loop-level.olds) (lists_of c.loop-level.fresh) c.loop-level.invariant
    c.requires.levels c.requires.places (past_least c.args.olds.now c.args.fresh.now _ _ c.min-level-end.ensures c.loop-level-test.false)

pub returns-clause-left : goal.returns-clause-left
returns-clause-left g c =
    all_left (lists_of c.args.olds.now) (lists_of c.args.fresh.now) (lists_of c.args.taken.now) c.loop-level.level (lists_of c.loop-level.olds) (lists_of c.loop-level.fresh) c.loop-level.invariant
    c.requires.levels c.requires.places (past_least c.args.olds.now c.args.fresh.now _ _ c.min-level-end.ensures c.loop-level-test.false)

pub bounds-taken-level : goal.bounds-taken-level
bounds-taken-level g c = grind (arith, common_steps)

use Rattle.std.proofs.Common.{◌∙◌}
use Rattle.lsys_flat.proofs.Freed.{releasing, live_here, past_none, past_one, released_level}
use Rattle.lsys_flat.proofs.release.release_level.Goals as goal

pub loop-answer-init : goal.loop-answer-init
loop-answer-init g c = let e = c.into_iter-answer-iterator.ensures.into_iter_gives in releasing c.args.store.now c.args.answers.items _ _ e.0 (e.1 ∙ c.args.answers.ok.0)

pub release-requires : goal.release-requires
release-requires g c =
    let s = c.in-Some.ensures.steps in
    live_here c.args.store.now c.loop-answer.store c.args.answers.items c.loop-answer.yielded _ _ c.loop-answer.invariant c.in-Some.answer _ _ s.0 s.1 (record { made = c.requires.made; own = c.requires.own }) c.in-Some-answer.answer c.in-Some-answer.is

pub loop-answer-preserved-in-Some-answer : goal.loop-answer-preserved-in-Some-answer
loop-answer-preserved-in-Some-answer g c =
    let s = c.in-Some.ensures.steps in
    past_one c.args.store.now c.loop-answer.store c.args.answers.items c.loop-answer.yielded _ _ c.loop-answer.invariant c.in-Some.answer _ _ s.0 s.1 (record { made = c.requires.made; own = c.requires.own }) c.in-Some-answer.answer c.in-Some-answer.is
    c.release.new.store c.release.ensures.gone c.release.ensures.others

pub loop-answer-preserved : goal.loop-answer-preserved
loop-answer-preserved g c =
    let s = c.in-Some.ensures.steps in
    past_none c.args.store.now c.loop-answer.store c.args.answers.items c.loop-answer.yielded _ _ c.loop-answer.invariant c.in-Some.answer _ _ s.0 s.1 c.in_default.is

pub returns : goal.returns
returns g c = released_level c.args.store.now c.loop-answer.store c.args.answers.items c.loop-answer.yielded _ _ c.loop-answer.invariant c.in-None.ensures.steps.0

use Rattle.std.proofs.Common.{◌∙◌}
use Rattle.lsys_flat.proofs.Freed.{releasing_all, made_here, own_here, past_level, released_levels, others_made}
use Rattle.lsys_flat.proofs.release.release_all.Goals as goal

pub loop-answers-init : goal.loop-answers-init
loop-answers-init g c = let e = c.into_iter-answers-iterator.ensures.into_iter_gives in releasing_all c.args.store.now c.args.levels.items _ _ e.0 (e.1 ∙ c.args.levels.ok.0)

pub release_level-requires-clause-made : goal.release_level-requires-clause-made
release_level-requires-clause-made g c =
    let s = c.in-Some.ensures.steps in
    made_here c.args.store.now c.loop-answers.store c.args.levels.items c.loop-answers.yielded _ _ c.loop-answers.invariant c.requires.made c.requires.own c.in-Some.answers _ _ s.0 s.1

pub release_level-requires-clause-own : goal.release_level-requires-clause-own
release_level-requires-clause-own g c =
    let s = c.in-Some.ensures.steps in
    own_here c.args.store.now c.loop-answers.store c.args.levels.items c.loop-answers.yielded _ _ c.loop-answers.invariant c.requires.made c.requires.own c.in-Some.answers _ _ s.0 s.1

pub loop-answers-preserved : goal.loop-answers-preserved
loop-answers-preserved g c =
    let s = c.in-Some.ensures.steps in
    past_level c.args.store.now c.loop-answers.store c.args.levels.items c.loop-answers.yielded _ _ c.loop-answers.invariant c.requires.made c.requires.own c.in-Some.answers _ _ s.0 s.1
    c.release_level.new.store c.release_level.ensures

pub returns-clause-released : goal.returns-clause-released
returns-clause-released g c = released_levels c.args.store.now c.loop-answers.store c.args.levels.items c.loop-answers.yielded _ _ c.loop-answers.invariant c.in-None.ensures.steps.0

pub returns-clause-others : goal.returns-clause-others
returns-clause-others g c = others_made c.args.store.now c.loop-answers.store c.args.levels.items c.loop-answers.yielded _ _ c.loop-answers.invariant c.in-None.ensures.steps.0

use Rattle.std.proofs.Common.{◌≡◌, ℕ, ◌∷◌, ◌++◌, [], subst, arith}
use Rattle.std.proofs.lemmas.Grind.{elements}
use Rattle.lsys_forest.specs.Groves.{now_of}
use Rattle.lsys_forest.proofs.SoundLemmas.{some_of}
use Rattle.lsys_front.proofs.Gathering.{not_both}
use Rattle.lsys_front.proofs.Losing.{loses_none, loses_answer}
use Rattle.lsys_front.proofs.LostAnswers.{loses_nothing, loses_one}
use Rattle.lsys_front.proofs.lost.lose_answer.Goals as goal

pub returns-then-not-is_idle-clause-loses : goal.returns-then-not-is_idle-clause-loses
returns-then-not-is_idle-clause-loses g c = loses_nothing c.args.system.now c.args.level (now_of c.args.forest.now) c.args.node c.args.bare.now.items c.args.dropped.now.items
    (λ h. not_both c.is_idle.result (c.is_idle.ensures.1 h) c.if-not-is_idle.true)

pub returns-then-not-is_idle-clause-only : goal.returns-then-not-is_idle-clause-only
returns-then-not-is_idle-clause-only g c = loses_none c.args.forest.now

pub returns-clause-loses : goal.returns-clause-loses
returns-clause-loses g c =
    let n = some_of (now_of c.args.forest.now c.args.node) c.requires.lives in
    let dropped = subst (λ (k : ℕ). c.push_reserved-2.new.self.items ≡ c.args.dropped.now.items ++ k ∷ []) c.node.view_is c.push_reserved-2.ensures.items in
    loses_one c.args.system.now c.args.level (now_of c.args.forest.now) (now_of c.set_answer.new.self) c.args.node n.0
    c.args.bare.now.items c.push_reserved.new.self.items c.args.dropped.now.items c.push_reserved-2.new.self.items (c.is_idle.ensures.0 c.if-not-is_idle.false) n.1 (c.set_answer.ensures.set n.0 n.1).now c.push_reserved.ensures.items
    dropped

pub returns-clause-only : goal.returns-clause-only
returns-clause-only g c =
    let n = some_of (now_of c.args.forest.now c.args.node) c.requires.lives in
    loses_answer c.args.forest.now c.set_answer.new.self c.args.node n.0 n.1 (c.set_answer.ensures.set n.0 n.1) (c.set_answer.ensures.noted n.0 n.1)
    (let l = c.set_answer.ensures.spends.live in omega (arith, l))

pub returns-clause-places : goal.returns-clause-places
returns-clause-places g c = grind (arith, elements)

pub returns-clause-tags : goal.returns-clause-tags
returns-clause-tags g c = grind (arith, elements)

use Rattle.std.proofs.Common.{refl, ap, ◌∙◌}
use Rattle.lsys_pass.specs.Passes.{PassView}
use Rattle.lsys_pass.proofs.MadeLevels.{made_failed, need_at, lives_at, stands_at, answers_at, made_at, front_taken, level_was_there, fresh_at, goes_at}
use Rattle.lsys_pass.proofs.Births.{linked_keeps, linked_made}
use Rattle.lsys_pass.proofs.pass.Pass.make_level.Goals as goal

pub make_below-requires-clause-need : goal.make_below-requires-clause-need
make_below-requires-clause-need g c = need_at _ _ c.args.level c.self.view_is c.requires.asked c.args.parents.now c.requires.found _ c.target-system.ensures _ c.requires.need

pub invariant_of-self : goal.invariant_of-self
invariant_of-self g c = made_failed _ _ _ _ _ _ c.self.invariant (ap (λ (z : PassView). z.state) c.self.view_is ∙ c.requires.failed) c.make_below.ensures.keeps (λ k. refl) (λ k. refl) (λ k i. i) refl

pub invariant_of-self-in_err-is_busy : goal.invariant_of-self-in_err-is_busy
invariant_of-self-in_err-is_busy g c = made_failed _ _ _ _ _ _ c.self.invariant (ap (λ (z : PassView). z.state) c.self.view_is ∙ c.requires.failed) c.make_below.ensures.keeps (λ k. refl) (λ k. refl) (λ k i. i) refl

pub next_front-requires-clause-lives : goal.next_front-requires-clause-lives
next_front-requires-clause-lives g c =
    lives_at _ _ c.args.level c.self.view_is c.requires.asked c.args.parents.now c.requires.found _ c.target-system.ensures _ _ (linked_keeps _ _ _ c.link_busy.ensures c.make_below.ensures.keeps) (linked_made _ _ _ c.link_busy.ensures _ _ _ c.in_ok-told.ensures.made)

pub next_front-requires-clause-level : goal.next_front-requires-clause-level
next_front-requires-clause-level g c =
    (c.args.level, stands_at _ _ c.args.level c.self.view_is c.requires.asked c.args.parents.now c.requires.found _ c.target-system.ensures _ _ (linked_keeps _ _ _ c.link_busy.ensures c.make_below.ensures.keeps) (linked_made _ _ _ c.link_busy.ensures _ _ _ c.in_ok-told.ensures.made))

pub invariant_of-self-in_err-front : goal.invariant_of-self-in_err-front
invariant_of-self-in_err-front g c = made_failed _ _ _ _ _ _ c.self.invariant (ap (λ (z : PassView). z.state) c.self.view_is ∙ c.requires.failed) (linked_keeps _ _ _ c.link_busy.ensures c.make_below.ensures.keeps) (λ k. refl) (λ k. refl) (λ k i. i) refl

pub invariant_of-self-in_err-come_below : goal.invariant_of-self-in_err-come_below
invariant_of-self-in_err-come_below g c =
    let below = c.come_below.ensures in
    made_failed _ _ _ _ _ _ c.self.invariant (ap (λ (z : PassView). z.state) c.self.view_is ∙ c.requires.failed) (linked_keeps _ _ _ c.link_busy.ensures c.make_below.ensures.keeps) below.seats below.marks below.keeps below.rest

pub invariant_of-self-2 : goal.invariant_of-self-2
invariant_of-self-2 g c =
    let below = c.come_below.ensures in
    made_failed _ _ _ _ _ _ c.self.invariant (ap (λ (z : PassView). z.state) c.self.view_is ∙ c.requires.failed) (linked_keeps _ _ _ c.link_busy.ensures c.make_below.ensures.keeps) below.seats below.marks below.keeps below.rest

pub returns-clause-fresh : goal.returns-clause-fresh
returns-clause-fresh g c =
    let below = c.in_ok-come_below.ensures in
    let next = front_taken below.next c.in_ok-front.ensures in
    fresh_at _ _ c.args.level c.self.view_is c.requires.asked c.args.parents.now c.requires.found _ c.target-system.ensures _ _ (linked_keeps _ _ _ c.link_busy.ensures c.make_below.ensures.keeps) (linked_made _ _ _ c.link_busy.ensures _ _ _ c.in_ok-told.ensures.made)
    c.args.symbols c.requires.symbols c.requires.within _ _ _ _ below.seats below.keeps below.room next.bare next.told (λ l. next.looks (level_was_there c.depth.ensures.depth c.is_asked-was_there.ensures.1 l)) next.below c.requires.below

pub returns-clause-goes : goal.returns-clause-goes
returns-clause-goes g c =
    let below = c.in_ok-come_below.ensures in
    let next = front_taken below.next c.in_ok-front.ensures in
    goes_at _ _ c.args.level c.self.view_is c.requires.asked c.args.parents.now c.requires.found _ c.target-system.ensures _ _ (linked_keeps _ _ _ c.link_busy.ensures c.make_below.ensures.keeps) (linked_made _ _ _ c.link_busy.ensures _ _ _ c.in_ok-told.ensures.made)
    c.args.symbols c.requires.symbols c.requires.within c.come_below.new.seats c.come_below.new.sizes.rest.items c.come_below.new.sizes.made.items c.come_below.new.front below.seats below.keeps below.room next.bare next.told (λ l. next.looks (level_was_there c.depth.ensures.depth c.is_asked-was_there.ensures.1 l)) next.below c.requires.below

pub returns-clause-made : goal.returns-clause-made
returns-clause-made g c =
    made_at _ _ c.args.level c.self.view_is c.requires.asked c.args.parents.now c.requires.found _ c.target-system.ensures _ _ (linked_keeps _ _ _ c.link_busy.ensures c.make_below.ensures.keeps) (linked_made _ _ _ c.link_busy.ensures _ _ _ c.in_ok-told.ensures.made)
    c.args.symbols c.requires.symbols c.requires.within _ c.in_ok-come_below.ensures.made

pub returns-clause-answers : goal.returns-clause-answers
returns-clause-answers g c =
    answers_at _ _ c.args.level c.self.view_is c.requires.asked c.args.parents.now c.requires.found _ c.target-system.ensures _ _ (linked_keeps _ _ _ c.link_busy.ensures c.make_below.ensures.keeps) (linked_made _ _ _ c.link_busy.ensures _ _ _ c.in_ok-told.ensures.made)

use Rattle.std.proofs.Common.{subst}
use Rattle.lsys_pass.proofs.AskedLevels.{AreAskedTo, asked_begins, asked_spot, asked_on_row, asked_goes_on, asked_ends}
use Rattle.lsys_pass.proofs.asked.asked_on.Goals as goal

pub loop-at-init : goal.loop-at-init
loop-at-init g c = asked_begins c.args.forest.now c.args.system.now c.args.level c.first-at.result c.new-asked.result.items c.requires.level c.new-asked.ensures.items c.first-at.ensures

pub add_if_asked-requires : goal.add_if_asked-requires
add_if_asked-requires g c =
    let f = c.args.forest.now in
    let s = c.args.system.now in
    let t = c.args.level in
    c.requires.live c.in-Some.node
    (asked_on_row f s t c.in-Some.node c.loop-at.asked.items c.requires.level (subst (λ at. AreAskedTo f s t at c.loop-at.asked.items) c.in-Some.is c.loop-at.invariant))

pub right-at-requires : goal.right-at-requires
right-at-requires g c =
    let f = c.args.forest.now in
    let s = c.args.system.now in
    let t = c.args.level in
    asked_spot f s t c.in-Some.node c.loop-at.asked.items c.requires.level (subst (λ at. AreAskedTo f s t at c.loop-at.asked.items) c.in-Some.is c.loop-at.invariant)

pub loop-at-preserved : goal.loop-at-preserved
loop-at-preserved g c =
    let f = c.args.forest.now in
    let s = c.args.system.now in
    let t = c.args.level in
    asked_goes_on f s t c.in-Some.node c.loop-at.asked.items c.requires.level (subst (λ at. AreAskedTo f s t at c.loop-at.asked.items) c.in-Some.is c.loop-at.invariant)
    c.right-at.result c.add_if_asked.new.asked.items c.in_ok-add_if_asked.ensures c.right-at.ensures

pub returns : goal.returns
returns g c =
    let f = c.args.forest.now in
    let s = c.args.system.now in
    let t = c.args.level in
    asked_ends f s t c.loop-at.asked.items (subst (λ at. AreAskedTo f s t at c.loop-at.asked.items) c.in_default.is c.loop-at.invariant)

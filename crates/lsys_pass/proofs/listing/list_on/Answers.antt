use Rattle.std.proofs.Common.{subst}
use Rattle.lsys_pass.proofs.Listed.{AreListedTo, listed_begins, listed_spot, listed_on, listed_goes_on}
use Rattle.lsys_pass.proofs.listing.list_on.Goals as goal

pub loop-at-init : goal.loop-at-init
loop-at-init g c = listed_begins c.args.forest.now c.args.store.now c.args.level c.args.reads.now c.first-at.result c.requires.level c.first-at.ensures

pub list_one-requires-clause-lives : goal.list_one-requires-clause-lives
list_one-requires-clause-lives g c =
    let f = c.args.forest.now in
    let st = c.args.store.now in
    let t = c.args.level in
    c.requires.live c.in-Some.node
    (listed_on f st t c.args.reads.now c.in-Some.node c.loop-at.reads c.requires.level (subst (λ at. AreListedTo f st t c.args.reads.now at c.loop-at.reads) c.in-Some.is c.loop-at.invariant))

pub right-at-requires : goal.right-at-requires
right-at-requires g c =
    let f = c.args.forest.now in
    let st = c.args.store.now in
    let t = c.args.level in
    listed_spot f st t c.args.reads.now c.in-Some.node c.loop-at.reads c.requires.level (subst (λ at. AreListedTo f st t c.args.reads.now at c.loop-at.reads) c.in-Some.is c.loop-at.invariant)

pub loop-at-preserved : goal.loop-at-preserved
loop-at-preserved g c =
    let f = c.args.forest.now in
    let st = c.args.store.now in
    let t = c.args.level in
    listed_goes_on f st t c.args.reads.now c.in-Some.node c.loop-at.reads c.requires.level (subst (λ at. AreListedTo f st t c.args.reads.now at c.loop-at.reads) c.in-Some.is c.loop-at.invariant)
    c.right-at.result c.list_one.new.reads c.in_ok-list_one.ensures.ok c.list_one.ensures.settled c.right-at.ensures

use Rattle.std.proofs.Common.{rules, subst, sym, Some}
use Rattle.lsys_children.proofs.Listed.{Listing, list_begins, list_goes_on, list_ends, spot_is}
use Rattle.lsys_children.proofs.listing.list_level.Goals as goal

pub loop-at-init : goal.loop-at-init
loop-at-init g c = subst (λ xs. Listing c.args.forest.now c.args.level xs c.first-at.result) (search rules) (list_begins c.args.forest.now c.args.level c.requires c.first-at.result c.first-at.ensures)

pub right-at-requires : goal.right-at-requires
right-at-requires g c =
    let f = c.args.forest.now in
    let t = c.args.level in
    spot_is f t c.in-Some.node c.loop-at.nodes.items c.requires (subst (λ at. Listing f t c.loop-at.nodes.items at) c.in-Some.is c.loop-at.invariant)

pub loop-at-preserved : goal.loop-at-preserved
loop-at-preserved g c =
    let f = c.args.forest.now in
    let t = c.args.level in
    let here : Listing f t c.loop-at.nodes.items (Some c.in-Some.node) = subst (λ at. Listing f t c.loop-at.nodes.items at) c.in-Some.is c.loop-at.invariant in
    subst (λ xs. Listing f t xs c.right-at.result) (sym c.in_ok-push.ensures.items)
    (list_goes_on f t c.in-Some.node c.loop-at.nodes.items c.right-at.result c.requires here c.right-at.ensures)

pub returns : goal.returns
returns g c =
    list_ends c.args.forest.now c.args.level c.loop-at.nodes.items (subst (λ at. Listing c.args.forest.now c.args.level c.loop-at.nodes.items at) c.in_default.is c.loop-at.invariant)

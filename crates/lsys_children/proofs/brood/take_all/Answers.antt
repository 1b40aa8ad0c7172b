use Rattle.std.proofs.Common.{◌≡◌, ◌+◌, length, slice_get, Some, None, map, refl, sym, ap, ◌∙◌, subst}
use Rattle.std.specs.Prelude.{cond}
use Rattle.std.specs.HashMap.{get}
use Rattle.std.proofs.lemmas.Option.{slice_get_read}
use Rattle.lsys_children.specs.Matches.{same_child_number, has_number}
use Rattle.lsys_children.specs.Children.{numbers_of}
use Rattle.lsys_children.proofs.MatchLemmas.{IsTaken, taken_next, take_whole}
use Rattle.lsys_children.proofs.FoundLemmas.{number_there, numbers_long}
use Rattle.lsys_children.proofs.brood.take_all.Goals as goal

pub loop-child-preserved : goal.loop-child-preserved
loop-child-preserved c =
    let first = get same_child_number c.args.nodes.now in
    let next = get same_child_number c.take.new.nodes in
    let wanted = c.args.wanted.now in
    let at = c.loop-child.child-index in
    let child = c.child-item.result in
    let here : slice_get wanted at ≡ Some child = slice_get_read wanted (length wanted) at child refl c.loop-child-test.true c.child-item.is in
    subst (IsTaken first next (numbers_of wanted) (at + 1)) (sym c.in_ok-push.ensures.items)
    (taken_next first (get same_child_number c.loop-child.nodes) next (numbers_of wanted) at child.number c.loop-child.found.items c.take.result c.requires.apart (number_there wanted at child here)
    c.loop-child.invariant c.take.ensures.taken c.take.ensures.left)

pub returns-clause-found : goal.returns-clause-found
returns-clause-found c = c.loop-child.invariant.found ∙ ap (map (get same_child_number c.args.nodes.now)) (take_whole (numbers_of c.args.wanted.now) c.loop-child.child-index (numbers_long c.args.wanted.now c.loop-child.child-index c.loop-child-test.false))

pub returns-clause-left : goal.returns-clause-left
returns-clause-left c = λ q. c.loop-child.invariant.left q ∙ ap (λ l. cond (has_number l q) None (get same_child_number c.args.nodes.now q)) (take_whole (numbers_of c.args.wanted.now) c.loop-child.child-index (numbers_long c.args.wanted.now c.loop-child.child-index c.loop-child-test.false))

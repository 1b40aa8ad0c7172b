use Rattle.std.proofs.Common.{◌≡◌, ◌++◌, [], ◌∷◌, ℕ, List, Some, Option, length, slice_get, take, map, refl, sym, ap, ◌∙◌}
use Rattle.std.proofs.lemmas.Option.{slice_get_read}
use Rattle.lsys_forest.specs.Groves.{now_of}
use Rattle.lsys_children.specs.Matches.{node_numbered}
use Rattle.lsys_children.specs.Children.{numbers_of}
use Rattle.lsys_children.proofs.MatchLemmas.{map_push, take_next, take_whole}
use Rattle.lsys_children.proofs.FoundLemmas.{number_there, numbers_long}
use Rattle.lsys_children.proofs.few.find_each.Goals as goal

pub loop-child-preserved : goal.loop-child-preserved
loop-child-preserved g c =
    let wanted = c.args.wanted.now in
    let at = c.loop-child.child-index in
    let child = c.child-item.result in
    let find = node_numbered (now_of c.args.forest.now) c.args.kids.now in
    let here : slice_get wanted at ≡ Some child = slice_get_read wanted (length wanted) at child refl c.loop-child-test.true c.child-item.is in
    c.in_ok-push.ensures.items ∙ ap (λ (os : List (Option ℕ)). os ++ c.node_with.result ∷ []) c.loop-child.invariant
    ∙ ap (λ (o : Option ℕ). map find (take at (numbers_of wanted)) ++ o ∷ []) c.node_with.ensures
    ∙ sym (map_push find (take at (numbers_of wanted)) child.number)
    ∙ ap (map find) (sym (take_next (numbers_of wanted) at child.number (number_there wanted at child here)))

pub returns : goal.returns
returns g c =
    c.loop-child.invariant ∙ ap (map (node_numbered (now_of c.args.forest.now) c.args.kids.now)) (take_whole (numbers_of c.args.wanted.now) c.loop-child.child-index (numbers_long c.args.wanted.now c.loop-child.child-index c.loop-child-test.false))

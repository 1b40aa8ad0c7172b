use Rattle.std.proofs.Common.{◌≡◌, ◌<◌, Some, length, slice_get, refl, sym, ap, ◌∙◌, arith, not}
use Rattle.lsys_children.specs.declared.child.Child.{Child}
use Rattle.std.proofs.lemmas.Option.{slice_get_read}
use Rattle.lsys_spec.proofs.Tests.{not_false}
use Rattle.lsys_laws.proofs.Placed.{got_in}
use Rattle.lsys_children.proofs.MatchLemmas.{same_next}
use Rattle.lsys_children.proofs.FoundLemmas.{number_there, same_is}
use Rattle.lsys_children.specs.Matches.{same_child_number, number_of}
use Rattle.lsys_children.specs.Children.{numbers_of}
use Rattle.lsys_forest.specs.Groves.{now_of}
use Rattle.lsys_children.proofs.brood.have_numbers.Goals as goal

pub number-requires-clause-lives : goal.number-requires-clause-lives
number-requires-clause-lives g c =
    let here = slice_get_read c.args.kids.now (length c.args.kids.now) c.loop-place.place c.index-kids-place.result refl c.loop-place-test.true c.index-kids-place.is in
    (c.requires.kids c.index-kids-place.result (got_in c.args.kids.now c.loop-place.place c.index-kids-place.result here)).0

pub number-requires-clause-other : goal.number-requires-clause-other
number-requires-clause-other g c =
    let here = slice_get_read c.args.kids.now (length c.args.kids.now) c.loop-place.place c.index-kids-place.result refl c.loop-place-test.true c.index-kids-place.is in
    (c.requires.kids c.index-kids-place.result (got_in c.args.kids.now c.loop-place.place c.index-kids-place.result here)).1

pub loop-place-preserved : goal.loop-place-preserved
loop-place-preserved g c =
    let kids = c.args.kids.now in
    let wanted = c.args.wanted.now in
    let at = c.loop-place.place in
    let kid = c.index-kids-place.result in
    let child = c.index-wanted-place.result in
    let here : slice_get kids at ≡ Some kid = slice_get_read kids (length kids) at kid refl c.loop-place-test.true c.index-kids-place.is in
    let within : at < length wanted = omega (arith, c.loop-place-test.true, c.if-kids-wanted.false) in
    let there : slice_get wanted at ≡ Some child = slice_get_read wanted (length wanted) at child refl within c.index-wanted-place.is in
    let same : number_of (now_of c.args.forest.now) kid ≡ child.number = sym c.number.ensures ∙ same_is c.number.result child.number (not_false (same_child_number c.number.result child.number) (ap (λ (w : Child). not (same_child_number c.number.result w.number)) c.index-wanted-place.is ∙ sym c.ne.ensures ∙ c.if-ne.false)) in
    same_next (now_of c.args.forest.now) kids (numbers_of wanted) at kid child.number here (number_there wanted at child there) same c.loop-place.invariant

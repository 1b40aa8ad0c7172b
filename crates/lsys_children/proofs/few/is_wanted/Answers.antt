use Rattle.std.proofs.Common.{◌≡◌, ◌||◌, true, false, Some, length, slice_get, take, refl, sym, ap, ◌∙◌}
use Rattle.std.proofs.lemmas.Option.{slice_get_read}
use Rattle.lsys_children.specs.Matches.{has_number, same_child_number}
use Rattle.lsys_children.specs.Children.{numbers_of}
use Rattle.lsys_children.proofs.MatchLemmas.{has_push, has_same, take_next, take_whole}
use Rattle.lsys_children.proofs.FoundLemmas.{number_there, numbers_long}
use Rattle.lsys_children.proofs.few.is_wanted.Goals as goal

pub loop-child-preserved : goal.loop-child-preserved
loop-child-preserved c =
    let wanted = c.args.wanted.now in
    let at = c.loop-child.child-index in
    let child = c.child-item.result in
    let q = c.args.number in
    let here : slice_get wanted at ≡ Some child = slice_get_read wanted (length wanted) at child refl c.loop-child-test.true c.child-item.is in
    let differs : same_child_number child.number q ≡ false = sym c.eq.ensures ∙ c.if-eq.false in
    ap (λ l. has_number l q) (take_next (numbers_of wanted) at child.number (number_there wanted at child here)) ∙ has_push (take at (numbers_of wanted)) child.number q
    ∙ (λ i. c.loop-child.invariant i || differs i)

pub returns : goal.returns
returns c =
    sym (ap (λ l. has_number l c.args.number) (sym (take_whole (numbers_of c.args.wanted.now) c.loop-child.child-index (numbers_long c.args.wanted.now c.loop-child.child-index c.loop-child-test.false))) ∙ c.loop-child.invariant)

pub returns-then-eq : goal.returns-then-eq
returns-then-eq c =
    let wanted = c.args.wanted.now in
    let at = c.loop-child.child-index in
    let child = c.child-item.result in
    let here : slice_get wanted at ≡ Some child = slice_get_read wanted (length wanted) at child refl c.loop-child-test.true c.child-item.is in
    let same : same_child_number child.number c.args.number ≡ true = sym c.eq.ensures ∙ c.if-eq.true in
    sym (has_same (numbers_of wanted) at child.number c.args.number (number_there wanted at child here) same)

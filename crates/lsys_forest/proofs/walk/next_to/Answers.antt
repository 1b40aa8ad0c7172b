use Rattle.std.proofs.Common.{◌≡◌, ◌++◌, ◌∷◌, ◌+◌, ◌-◌, Some, slice_get, ◌∙◌, subst, arith}
use Rattle.lsys_forest.specs.Rows.{oriented}
use Rattle.lsys_forest.proofs.WalkLemmas.{next_left, none_left, next_right}
use Rattle.lsys_forest.proofs.walk.next_to.Goals as goal

pub returns-then-place-eq0 : goal.returns-then-place-eq0
returns-then-place-eq0 c = λ node before after here whole.
    none_left c.args.kids.now node c.requires.apart (subst (λ i. slice_get c.args.kids.now i ≡ Some node) c.if-place-eq0.true here) before after (subst (λ w. oriented w c.args.kids.now ≡ before ++ node ∷ after) c.in-Left.is whole)

pub returns-else-place-eq0 : goal.returns-else-place-eq0
returns-else-place-eq0 c = λ node before after here whole.
    let i = c.args.place in
    let some : i - 1 + 1 ≡ i = omega (arith, c.if-place-eq0.false) in
    c.kid_at.ensures ∙ next_left c.args.kids.now node i (i - 1) c.requires.apart here some before after (subst (λ w. oriented w c.args.kids.now ≡ before ++ node ∷ after) c.in-Left.is whole)

pub returns-in-Right : goal.returns-in-Right
returns-in-Right c = λ node before after here whole.
    c.kid_at-in-Right.ensures ∙ next_right c.args.kids.now node c.args.place c.requires.apart here before after (subst (λ w. oriented w c.args.kids.now ≡ before ++ node ∷ after) c.in-Right.is whole)

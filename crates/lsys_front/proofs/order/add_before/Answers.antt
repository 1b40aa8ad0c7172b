use Rattle.std.proofs.Common.{◌≡◌, ◌<◌, ◌+◌, Some, true, false, length, slice_get, refl, sym, ◌∙◌, subst, arith}
use Rattle.std.proofs.lemmas.Option.{slice_get_read, slice_get_within, same_Some}
use Rattle.lsys_forest.specs.Rows.{place_of_node}
use Rattle.lsys_reads.proofs.LevelLemmas.{got_in}
use Rattle.lsys_front.specs.Merges.{AreMerged}
use Rattle.lsys_front.proofs.Merging.{add_right, not_before}
use Rattle.lsys_front.proofs.order.add_before.Goals as goal

pub is_before-requires-clause-one : goal.is_before-requires-clause-one
is_before-requires-clause-one g c =
    let right = c.args.right.now in
    let y = c.index-right-j.result in
    (c.requires.both.right_level y (got_in right c.loop-j.j y (slice_get_read right (length right) c.loop-j.j y refl c.loop-j-test.true c.index-right-j.is))).0

pub is_before-requires-clause-two : goal.is_before-requires-clause-two
is_before-requires-clause-two g c =
    let left = c.args.left.now in
    let x = c.index-left-i.result in
    (c.requires.both.left_level x (got_in left c.args.i x (slice_get_read left (length left) c.args.i x refl c.requires.within c.index-left-i.is))).0

pub is_before-requires-clause-level : goal.is_before-requires-clause-level
is_before-requires-clause-level g c =
    let left = c.args.left.now in
    let right = c.args.right.now in
    let x = c.index-left-i.result in
    let y = c.index-right-j.result in
    (c.requires.both.left_level x (got_in left c.args.i x (slice_get_read left (length left) c.args.i x refl c.requires.within c.index-left-i.is))).1
    ∙ sym (c.requires.both.right_level y (got_in right c.loop-j.j y (slice_get_read right (length right) c.loop-j.j y refl c.loop-j-test.true c.index-right-j.is))).1

pub returns-then-not-is_before-clause-next : goal.returns-then-not-is_before-clause-next
returns-then-not-is_before-clause-next g c = λ k z hk hz.
    let f = c.args.forest.now in
    let left = c.args.left.now in
    let right = c.args.right.now in
    let x = c.index-left-i.result in
    let y = c.index-right-j.result in
    let here : slice_get left c.args.i ≡ Some x = slice_get_read left (length left) c.args.i x refl c.requires.within c.index-left-i.is in
    let there : slice_get right c.loop-j.j ≡ Some y = slice_get_read right (length right) c.loop-j.j y refl c.loop-j-test.true c.index-right-j.is in
    let less : place_of_node f x < place_of_node f y = not_before f left right x y c.requires.both (got_in left c.args.i x here) (got_in right c.loop-j.j y there)
    (λ h. let e : false ≡ true = c.if-not-is_before.ensures.1 h in cc) in
    subst (λ k. place_of_node f k < place_of_node f z) (same_Some x k (sym here ∙ hk)) (subst (λ z. place_of_node f x < place_of_node f z) (same_Some y z (sym there ∙ hz)) less)

pub loop-j-preserved : goal.loop-j-preserved
loop-j-preserved g c =
    let f = c.args.forest.now in
    let left = c.args.left.now in
    let right = c.args.right.now in
    let x = c.index-left-i.result in
    let y = c.index-right-j.result in
    let here : slice_get left c.args.i ≡ Some x = slice_get_read left (length left) c.args.i x refl c.requires.within c.index-left-i.is in
    let there : slice_get right c.loop-j.j ≡ Some y = slice_get_read right (length right) c.loop-j.j y refl c.loop-j-test.true c.index-right-j.is in
    record {
      merged = subst (AreMerged (place_of_node f) left right c.args.i (c.loop-j.j + 1)) (sym c.in_ok-push.ensures.items)
          (add_right (place_of_node f) left right c.args.i c.loop-j.j c.loop-j.merged.items x y c.requires.both.right_order here there c.loop-j-test.true (c.if-not-is_before.ensures.0 refl) c.loop-j.invariant.merged);
    }

pub returns-clause-next : goal.returns-clause-next
returns-clause-next g c = λ k z hk hz. absurd (omega (arith, slice_get_within c.args.right.now c.loop-j.j z hz, c.loop-j-test.false))

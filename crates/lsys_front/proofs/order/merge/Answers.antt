use Rattle.std.proofs.Common.{◌≡◌, ◌⊎◌, ◌↔◌, ◌+◌, ◌++◌, ℕ, Some, length, slice_get, refl, sym, ap, ◌∙◌, subst}
use Rattle.std.proofs.lemmas.Option.{slice_get_read}
use Rattle.lsys_spec.specs.Rows.{In}
use Rattle.lsys_forest.specs.Rows.{place_of_node}
use Rattle.lsys_front.specs.Questioned.{ArePlaced}
use Rattle.lsys_front.specs.Merges.{AreMerged}
use Rattle.lsys_front.proofs.Merging.{add_left, merged_none, all_merged, rest_all}
use Rattle.lsys_front.proofs.order.merge.Goals as goal

pub loop-i-init : goal.loop-i-init
loop-i-init g c = record { merged = merged_none (place_of_node c.args.forest.now) c.args.left.now c.args.right.now c.args.merged.now.items c.requires.empty }

pub loop-i-preserved : goal.loop-i-preserved
loop-i-preserved g c =
    let f = c.args.forest.now in
    let left = c.args.left.now in
    let right = c.args.right.now in
    let i = c.loop-i.i in
    let x = c.index-left-i.result in
    let here : slice_get left i ≡ Some x = slice_get_read left (length left) i x refl c.loop-i-test.true c.index-left-i.is in
    record {
      merged = subst (AreMerged (place_of_node f) left right (i + 1) c.in_ok-j.j) (sym c.in_ok-push.ensures.items)
          (add_left (place_of_node f) left right i c.in_ok-j.j c.add_before.new.merged.items x c.requires.both.left_order here c.in_ok-j.ensures.merged (λ y there. c.in_ok-j.ensures.next x y here there));
    }

pub returns-clause-same : goal.returns-clause-same
returns-clause-same g c =
    let right = c.args.right.now in
    let j = c.loop-i.j in
    let xs = c.loop-i.merged.items in
    let all = all_merged (place_of_node c.args.forest.now) c.args.left.now right c.loop-i.i j xs c.requires.both.right_order c.loop-i-test.false c.loop-i.invariant.merged in
    subst (λ zs. (k : ℕ) → In k zs ↔ (In k c.args.left.now ⊎ In k right)) (sym (c.in_ok-extend_from_slice.ensures.items ∙ ap (λ zs. xs ++ zs) (rest_all right j))) all.0

pub returns-clause-order : goal.returns-clause-order
returns-clause-order g c =
    let right = c.args.right.now in
    let j = c.loop-i.j in
    let xs = c.loop-i.merged.items in
    let all = all_merged (place_of_node c.args.forest.now) c.args.left.now right c.loop-i.i j xs c.requires.both.right_order c.loop-i-test.false c.loop-i.invariant.merged in
    subst (ArePlaced (place_of_node c.args.forest.now)) (sym (c.in_ok-extend_from_slice.ensures.items ∙ ap (λ zs. xs ++ zs) (rest_all right j))) all.1

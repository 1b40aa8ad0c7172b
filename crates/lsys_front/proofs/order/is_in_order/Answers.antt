use Rattle.std.proofs.Common.{◌≡◌, ◌-◌, Some, length, slice_get, refl, sym, ◌∙◌, arith}
use Rattle.std.proofs.lemmas.Option.{slice_get_read}
use Rattle.lsys_forest.specs.Rows.{place_of_node}
use Rattle.lsys_reads.proofs.LevelLemmas.{got_in}
use Rattle.lsys_front.proofs.Merging.{stepped_one, stepped_next, all_stepped}
use Rattle.lsys_front.proofs.order.is_in_order.Goals as goal

pub is_before-requires-clause-one : goal.is_before-requires-clause-one
is_before-requires-clause-one g c =
    let xs = c.args.nodes.now in
    let x = c.index-nodes-before.result in
    c.requires.level.spots x (got_in xs (c.loop-next.next - 1) x (slice_get_read xs (length xs) (c.loop-next.next - 1) x refl (let l = c.loop-next-test.true in omega (arith, l)) c.index-nodes-before.is))

pub is_before-requires-clause-two : goal.is_before-requires-clause-two
is_before-requires-clause-two g c =
    let xs = c.args.nodes.now in
    let y = c.index-nodes-next.result in
    c.requires.level.spots y (got_in xs c.loop-next.next y (slice_get_read xs (length xs) c.loop-next.next y refl c.loop-next-test.true c.index-nodes-next.is))

pub is_before-requires-clause-level : goal.is_before-requires-clause-level
is_before-requires-clause-level g c =
    let xs = c.args.nodes.now in
    let x = c.index-nodes-before.result in
    let y = c.index-nodes-next.result in
    c.requires.level.levels y (got_in xs c.loop-next.next y (slice_get_read xs (length xs) c.loop-next.next y refl c.loop-next-test.true c.index-nodes-next.is))
    ∙ sym (c.requires.level.levels x (got_in xs (c.loop-next.next - 1) x (slice_get_read xs (length xs) (c.loop-next.next - 1) x refl (let l = c.loop-next-test.true in omega (arith, l)) c.index-nodes-before.is)))

pub loop-next-init : goal.loop-next-init
loop-next-init g c = record { some = omega arith; stepped = stepped_one (place_of_node c.args.forest.now) c.args.nodes.now }

pub loop-next-preserved : goal.loop-next-preserved
loop-next-preserved g c =
    let xs = c.args.nodes.now in
    let n = c.loop-next.next in
    let x = c.index-nodes-before.result in
    let y = c.index-nodes-next.result in
    let here : slice_get xs (n - 1) ≡ Some x = slice_get_read xs (length xs) (n - 1) x refl (let l = c.loop-next-test.true in omega (arith, l)) c.index-nodes-before.is in
    let there : slice_get xs n ≡ Some y = slice_get_read xs (length xs) n y refl c.loop-next-test.true c.index-nodes-next.is in
    record {
      some = omega arith;
      stepped = stepped_next (place_of_node c.args.forest.now) xs n x y c.loop-next.invariant.stepped c.loop-next.invariant.some here there (c.if-not-is_before.ensures.0 refl);
    }

pub returns-clause-order : goal.returns-clause-order
returns-clause-order g c = λ yes. all_stepped (place_of_node c.args.forest.now) c.args.nodes.now c.loop-next.next c.loop-next-test.false c.loop-next.invariant.stepped

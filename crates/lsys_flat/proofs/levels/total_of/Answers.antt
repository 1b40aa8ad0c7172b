use Rattle.std.proofs.Common.{◌≡◌, ◌≤◌, ◌+◌, take, length, map, sym, ap, ◌∙◌, arith, take_all, get_or}
use Rattle.std.specs.Prelude.{sum_by}
use Rattle.std.proofs.lemmas.List.Sums.{sum_by_more, sum_by_more_le}
use Rattle.lsys_flat.specs.Lines.{line_of}
use Rattle.lsys_flat.specs.Revised.{tags_of}
use Rattle.lsys_flat.proofs.Showing.{tags_in, tags_sum}
use Rattle.lsys_flat.proofs.levels.total_of.Goals as goal

pub overflow_add-total : goal.overflow_add-total
overflow_add-total c =
    let all : sum_by length (tags_of (map line_of c.args.ancestries.now)) ≡ sum_by tags_in c.args.ancestries.now = tags_sum c.args.ancestries.now in
    let few : sum_by length (tags_of (map line_of c.args.ancestries.now)) ≤ 1000000 = c.requires in
    let here : sum_by tags_in (take c.loop-ancestry.ancestry-index c.args.ancestries.now) + tags_in (get_or c.args.ancestries.now c.loop-ancestry.ancestry-index c.ancestry-item.result) ≤ sum_by tags_in c.args.ancestries.now =
    sum_by_more_le tags_in c.args.ancestries.now c.loop-ancestry.ancestry-index c.ancestry-item.result c.loop-ancestry-test.true in
    let same : tags_in c.ancestry-item.result ≡ tags_in (get_or c.args.ancestries.now c.loop-ancestry.ancestry-index c.ancestry-item.result) = ap tags_in c.ancestry-item.is in
    omega (arith, all, few, here, same, c.loop-ancestry.invariant)

pub loop-ancestry-preserved : goal.loop-ancestry-preserved
loop-ancestry-preserved c =
    let more : sum_by tags_in (take (c.loop-ancestry.ancestry-index + 1) c.args.ancestries.now) ≡ sum_by tags_in (take c.loop-ancestry.ancestry-index c.args.ancestries.now) + tags_in (get_or c.args.ancestries.now c.loop-ancestry.ancestry-index c.ancestry-item.result) =
    sum_by_more tags_in c.args.ancestries.now c.loop-ancestry.ancestry-index c.ancestry-item.result c.loop-ancestry-test.true in
    let same : tags_in c.ancestry-item.result ≡ tags_in (get_or c.args.ancestries.now c.loop-ancestry.ancestry-index c.ancestry-item.result) = ap tags_in c.ancestry-item.is in
    omega (arith, more, same, c.loop-ancestry.invariant)

pub returns : goal.returns
returns c = c.loop-ancestry.invariant ∙ ap (sum_by tags_in) (take_all c.loop-ancestry.ancestry-index c.args.ancestries.now c.loop-ancestry-test.false) ∙ sym (tags_sum c.args.ancestries.now)

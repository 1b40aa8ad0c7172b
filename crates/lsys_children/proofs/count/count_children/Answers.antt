use Rattle.std.proofs.Common.{◌≡◌, ◌+◌, ◌≤◌, List, Some, take, length, refl, sym, ap, ◌∙◌, subst, arith, slice_get}
use Rattle.std.proofs.lemmas.Option.{slice_get_read}
use Rattle.std.proofs.lemmas.List.Sums.{sum_by_push, sum_by-take-le}
use Rattle.lsys_forest.specs.Groves.{now_of}
use Rattle.lsys_reading.specs.Commands.{numbering_of}
use Rattle.lsys_children.proofs.MatchLemmas.{take_next, take_whole}
use Rattle.lsys_children.specs.declared.count.ChildCount.{ChildCount}
use Rattle.lsys_children.specs.declared.parent.Parent.{Parent}
use Rattle.lsys_children.specs.Needs.{IsBoundedCount, had_by, had_by_all, count_of_all, with_count}
use Rattle.lsys_children.proofs.Needs.{count_push, small_push}
use Rattle.lsys_children.proofs.Among.{parent_lives, parent_short}
use Rattle.lsys_children.proofs.count.count_children.Goals as goal

pub count_one-requires-clause-lives : goal.count_one-requires-clause-lives
count_one-requires-clause-lives g c =
    let ps = c.args.parents.now in
    let i = c.loop-parent.parent-index in
    let p = c.parent-item.result in
    let here : slice_get ps i ≡ Some p = slice_get_read ps (length ps) i p refl c.loop-parent-test.true c.parent-item.is in
    parent_lives (now_of c.args.forest.now) c.args.forest.now.root ps i p c.requires.parents here

pub count_one-requires-clause-short : goal.count_one-requires-clause-short
count_one-requires-clause-short g c =
    let ps = c.args.parents.now in
    let i = c.loop-parent.parent-index in
    let p = c.parent-item.result in
    let here : slice_get ps i ≡ Some p = slice_get_read ps (length ps) i p refl c.loop-parent-test.true c.parent-item.is in
    parent_short (now_of c.args.forest.now) c.args.forest.now.root ps i p c.requires.parents here

pub both-count-requires : goal.both-count-requires
both-count-requires g c =
    let ps = c.args.parents.now in
    let i = c.loop-parent.parent-index in
    let p = c.parent-item.result in
    let m = now_of c.args.forest.now in
    let here : slice_get ps i ≡ Some p = slice_get_read ps (length ps) i p refl c.loop-parent-test.true c.parent-item.is in
    let one : c.in_ok-one.one.had ≡ had_by m p = ap (λ (x : ChildCount). x.had) c.in_ok-one.ensures.count in
    let sum : had_by_all m (take (i + 1) ps) ≡ had_by_all m (take i ps) + had_by m p = ap (had_by_all m) (take_next ps i p here) ∙ sum_by_push (had_by m) (take i ps) p in
    let most = sum_by-take-le (had_by m) ps (i + 1) in
    (i, had_by_all m (take i ps), c.loop-parent.invariant.small, c.in_ok-one.ensures.few, omega (arith, c.loop-parent-test.true, c.requires.few), omega (arith, sum, most, c.requires.had), omega (arith, one, sum, most, c.requires.had))

pub loop-parent-preserved : goal.loop-parent-preserved
loop-parent-preserved g c =
    let ps = c.args.parents.now in
    let i = c.loop-parent.parent-index in
    let p = c.parent-item.result in
    let m = now_of c.args.forest.now in
    let numbering = numbering_of c.args.numbering in
    let here : slice_get ps i ≡ Some p = slice_get_read ps (length ps) i p refl c.loop-parent-test.true c.parent-item.is in
    let next = take_next ps i p here in
    let one = c.in_ok-one.ensures.count in
    let had : c.in_ok-one.one.had ≡ had_by m p = ap (λ (x : ChildCount). x.had) one in
    let sum : had_by_all m (take (i + 1) ps) ≡ had_by_all m (take i ps) + had_by m p = ap (had_by_all m) next ∙ sum_by_push (had_by m) (take i ps) p in
    record {
      count =
          c.both-count.ensures ∙ ap (λ (x : ChildCount). with_count x c.in_ok-one.one) c.loop-parent.invariant.count ∙ ap (with_count (count_of_all numbering m (take i ps))) one
          ∙ sym (count_push numbering m (take i ps) p) ∙ ap (count_of_all numbering m) (sym next);
      small = small_push i (had_by_all m (take i ps)) (had_by_all m (take (i + 1) ps)) c.loop-parent.count c.in_ok-one.one c.both-count.result c.loop-parent.invariant.small c.in_ok-one.ensures.few c.both-count.ensures (omega (arith, sum, had));
    }

pub returns-clause-count : goal.returns-clause-count
returns-clause-count g c = c.loop-parent.invariant.count ∙ ap (count_of_all (numbering_of c.args.numbering) (now_of c.args.forest.now)) (take_whole c.args.parents.now c.loop-parent.parent-index c.loop-parent-test.false)

pub returns-clause-few : goal.returns-clause-few
returns-clause-few g c =
    let ps = c.args.parents.now in
    let i = c.loop-parent.parent-index in
    let m = now_of c.args.forest.now in
    let end = c.loop-parent-test.false in
    let last : i ≤ length ps = c.loop-parent.auto.parent-index-end in
    let all : i ≡ length ps = omega (arith, end, last) in
    subst (λ n. IsBoundedCount n (had_by_all m ps) c.loop-parent.count) all (subst (λ (qs : List Parent). IsBoundedCount i (had_by_all m qs) c.loop-parent.count) (take_whole ps i end) c.loop-parent.invariant.small)

use Rattle.std.proofs.Common.{◌≡◌, ℕ, List, get_or, ap, ◌∙◌}
use Rattle.std.proofs.lemmas.List.{get_or_read}
use Rattle.lsys_reads.proofs.ReadsLemmas.{thins_more, lost_more, among}
use Rattle.lsys_reads.specs.Rows.{has}
use Rattle.lsys_reads.proofs.RunLemmas.{take_whole}
use Rattle.lsys_reads.proofs.sweep_all.Goals as goal

pub loop-seen-preserved : goal.loop-seen-preserved
loop-seen-preserved c =
    let tags = c.args.tags.now in
    let at = c.loop-seen.seen-index in
    let tag = c.seen-item.result in
    let is : tag ≡ get_or tags at 0 = get_or_read tags at tag c.loop-seen-test.true c.seen-item.is 0 in
    record {
      thins = thins_more c.args.by_seen.now c.loop-seen.by_seen c.sweep.new.self tag c.args.reader c.args.gone.now c.loop-seen.invariant.thins c.sweep.ensures;
      lost = λ seen there. lost_more c.loop-seen.by_seen c.sweep.new.self tag c.args.reader seen c.args.gone.now c.sweep.ensures (λ far.
          c.loop-seen.invariant.lost seen (among tags at tag seen c.loop-seen-test.true is far there));
    }

pub returns-clause-lost : goal.returns-clause-lost
returns-clause-lost c = λ seen there. c.loop-seen.invariant.lost seen (ap (λ (l : List ℕ). has l seen) (take_whole c.args.tags.now c.loop-seen.seen-index c.loop-seen-test.false) ∙ there)

use Rattle.std.proofs.Common.{◌≡◌, Some, length, slice_get, refl, sym, ap, ◌∙◌, inl, inr}
use Rattle.std.proofs.lemmas.Option.{slice_get_read}
use Rattle.lsys_spec.specs.Rows.{In}
use Rattle.lsys_reads.specs.Seats.{is_marked}
use Rattle.lsys_reads.proofs.LevelLemmas.{got_in}
use Rattle.lsys_reads.proofs.SeamLemmas.{in_taken_next, in_all_taken, none_taken}
use Rattle.lsys_front.proofs.Gathering.{gathers_none, tags_next, still_marked}
use Rattle.lsys_front.proofs.gather.gather_tags.Goals as goal

pub gather-requires : goal.gather-requires
gather-requires c =
    let xs = c.args.tags.now in
    let i = c.loop-tag.tag-index in
    let x = c.tag.inside.0 in
    let here : slice_get xs i ≡ Some x = slice_get_read xs (length xs) i c.tag-item.result refl c.loop-tag-test.true c.tag-item.is ∙ ap Some (sym c.tag.view_is) in
    c.loop-tag.invariant.gathers.keeps x (c.requires.room x (got_in xs i x here))

pub loop-tag-init : goal.loop-tag-init
loop-tag-init c = record {
  gathers = gathers_none (λ k. In k c.args.tags.now) c.args.seats.now c.args.nodes.now.items;
  all = λ k t. absurd (none_taken c.args.tags.now k t);
}

pub returns-in_err-gather-clause-gathers : goal.returns-in_err-gather-clause-gathers
returns-in_err-gather-clause-gathers c =
    let xs = c.args.tags.now in
    let i = c.loop-tag.tag-index in
    let x = c.tag.inside.0 in
    let here : slice_get xs i ≡ Some x = slice_get_read xs (length xs) i c.tag-item.result refl c.loop-tag-test.true c.tag-item.is ∙ ap Some (sym c.tag.view_is) in
    tags_next c.args.seats.now c.loop-tag.seats c.gather.new.seats c.args.nodes.now.items c.loop-tag.nodes.items c.gather.new.nodes.items xs i x here c.loop-tag.invariant.gathers c.gather.ensures.gathers

pub loop-tag-preserved : goal.loop-tag-preserved
loop-tag-preserved c =
    let xs = c.args.tags.now in
    let i = c.loop-tag.tag-index in
    let x = c.tag.inside.0 in
    let here : slice_get xs i ≡ Some x = slice_get_read xs (length xs) i c.tag-item.result refl c.loop-tag-test.true c.tag-item.is ∙ ap Some (sym c.tag.view_is) in
    let was = c.loop-tag.invariant in
    record {
      gathers = tags_next c.args.seats.now c.loop-tag.seats c.gather.new.seats c.args.nodes.now.items c.loop-tag.nodes.items c.gather.new.nodes.items xs i x here was.gathers c.gather.ensures.gathers;
      all = λ k t. elim (in_taken_next xs i x k here t) [
        | inl before ↦ still_marked (λ k. k ≡ x) c.loop-tag.seats c.gather.new.seats c.loop-tag.nodes.items c.gather.new.nodes.items c.gather.ensures.gathers k (was.all k before)
        | inr same ↦ ap (is_marked c.gather.new.seats) same ∙ c.in_ok-gather.ensures.marked
      ];
    }

pub returns-clause-all : goal.returns-clause-all
returns-clause-all c = λ k t. c.loop-tag.invariant.all k (in_all_taken c.args.tags.now c.loop-tag.tag-index k c.loop-tag-test.false t)

use Rattle.std.proofs.Common.{◌≡◌, true, Some, length, slice_get, refl, sym, ap, ◌∙◌, inl, inr, subst}
use Rattle.std.proofs.lemmas.Option.{slice_get_read}
use Rattle.lsys_spec.specs.Rows.{In}
use Rattle.lsys_reads.specs.Relations.{is_settled}
use Rattle.lsys_reads.proofs.LevelLemmas.{got_in}
use Rattle.lsys_reads.proofs.SeamLemmas.{in_taken_next, in_all_taken, none_taken}
use Rattle.lsys_front.specs.Finds.{IsReader}
use Rattle.lsys_front.proofs.Gathering.{in_has, has_in, gathers_none, readers_next, still_marked}
use Rattle.lsys_front.proofs.finds.find_readers.Goals as goal

pub gather_tags-requires : goal.gather_tags-requires
gather_tags-requires c =
    let xs = c.args.seen.now in
    let i = c.loop-node.node-index in
    let x = c.node.inside.0 in
    let here : slice_get xs i ≡ Some x = slice_get_read xs (length xs) i c.node-item.result refl c.loop-node-test.true c.node-item.is ∙ ap Some (sym c.node.view_is) in
    record { room = λ k t. c.loop-node.invariant.gathers.keeps k (c.requires.room k (record { node = x; among = got_in xs i x here; read = sym (c.readers_of.ensures.readers k) ∙ in_has c.readers_of.result.now k t })) }

pub loop-node-init : goal.loop-node-init
loop-node-init c = record {
  gathers = gathers_none (IsReader c.args.reads.now c.args.seen.now) c.args.seats.now c.args.readers.now.items;
  all = λ q t. absurd (none_taken c.args.seen.now q t);
}

pub returns-in_err-gather_tags-clause-gathers : goal.returns-in_err-gather_tags-clause-gathers
returns-in_err-gather_tags-clause-gathers c =
    let xs = c.args.seen.now in
    let i = c.loop-node.node-index in
    let x = c.node.inside.0 in
    let here : slice_get xs i ≡ Some x = slice_get_read xs (length xs) i c.node-item.result refl c.loop-node-test.true c.node-item.is ∙ ap Some (sym c.node.view_is) in
    readers_next c.args.reads.now c.args.seats.now c.loop-node.seats c.gather_tags.new.seats c.args.readers.now.items c.loop-node.readers.items c.gather_tags.new.nodes.items xs c.readers_of.result.now i x here
    c.readers_of.ensures.readers c.loop-node.invariant.gathers c.gather_tags.ensures.gathers

pub loop-node-preserved : goal.loop-node-preserved
loop-node-preserved c =
    let xs = c.args.seen.now in
    let i = c.loop-node.node-index in
    let x = c.node.inside.0 in
    let here : slice_get xs i ≡ Some x = slice_get_read xs (length xs) i c.node-item.result refl c.loop-node-test.true c.node-item.is ∙ ap Some (sym c.node.view_is) in
    let was = c.loop-node.invariant in
    let told = c.readers_of.ensures.readers in
    record {
      gathers = readers_next c.args.reads.now c.args.seats.now c.loop-node.seats c.gather_tags.new.seats c.args.readers.now.items c.loop-node.readers.items c.gather_tags.new.nodes.items xs c.readers_of.result.now i x here
          told was.gathers c.gather_tags.ensures.gathers;
      all = λ q t k read. elim (in_taken_next xs i x q here t) [
        | inl before ↦ still_marked (λ k. In k c.readers_of.result.now) c.loop-node.seats c.gather_tags.new.seats c.loop-node.readers.items c.gather_tags.new.nodes.items c.gather_tags.ensures.gathers k (was.all q before k read)
        | inr same ↦ c.in_ok-gather_tags.ensures.all k (has_in c.readers_of.result.now k (told k ∙ subst (λ q. is_settled c.args.reads.now k q ≡ true) same read))
      ];
    }

pub returns-clause-all : goal.returns-clause-all
returns-clause-all c = λ k t. c.loop-node.invariant.all t.node (in_all_taken c.args.seen.now c.loop-node.node-index t.node c.loop-node-test.false t.among) k t.read

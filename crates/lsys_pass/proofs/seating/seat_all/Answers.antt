use Rattle.std.proofs.Common.{◌≡◌, ◌≢◌, Some, length, slice_get, refl, sym, ap, ◌∙◌, subst, arith, inl, inr}
use Rattle.std.proofs.lemmas.Bool.{cases_eq}
use Rattle.std.proofs.lemmas.Option.{slice_get_read, slice_get_within, same_Some}
use Rattle.lsys_spec.specs.Rows.{In}
use Rattle.lsys_reads.specs.Neighbours.{neighbours_in}
use Rattle.lsys_reads.specs.Seats.{neighbours_at}
use Rattle.lsys_reads.proofs.LevelLemmas.{place_in, got_in}
use Rattle.lsys_pass.proofs.seating.seat_all.Goals as goal

pub seat-requires-clause-level : goal.seat-requires-clause-level
seat-requires-clause-level g c =
    let list = c.args.nodes.now in
    let here : slice_get list c.loop-node.node-index ≡ Some c.node-item.result = slice_get_read list (length list) c.loop-node.node-index c.node-item.result refl c.loop-node-test.true c.node-item.is in
    c.requires.levels c.node-item.result (got_in list c.loop-node.node-index c.node-item.result here)

pub seat-requires-clause-room : goal.seat-requires-clause-room
seat-requires-clause-room g c =
    let list = c.args.nodes.now in
    let here : slice_get list c.loop-node.node-index ≡ Some c.node-item.result = slice_get_read list (length list) c.loop-node.node-index c.node-item.result refl c.loop-node-test.true c.node-item.is in
    c.loop-node.invariant.keeps c.node-item.result (c.requires.room c.node-item.result (got_in list c.loop-node.node-index c.node-item.result here))

pub loop-node-preserved : goal.loop-node-preserved
loop-node-preserved g c =
    let at = c.loop-node.node-index in
    let list = c.args.nodes.now in
    let was = c.loop-node.invariant in
    let node = c.node-item.result in
    let here : slice_get list at ≡ Some node = slice_get_read list (length list) at node refl c.loop-node-test.true c.node-item.is in
    let among : In node list = got_in list at node here in
    record {
      seated = λ i k less there. elim (cases_eq k node) [
        | inl e ↦ subst (λ j. neighbours_at c.seat.new.self j ≡ neighbours_in c.args.forest.now j) (sym e) c.seat.ensures.seats.own
        | inr ne ↦
            let far : i ≢ at = λ e. ne (same_Some k node (sym there ∙ ap (slice_get list) e ∙ here)) in
            c.seat.ensures.seats.others k ne ∙ was.seated i k (omega (arith, less, far)) there
      ];
      others = λ k none. c.seat.ensures.seats.others k (λ e. none (subst (λ j. In j list) (sym e) among)) ∙ was.others k none;
      marks = λ k. c.seat.ensures.marks k ∙ was.marks k;
      keeps = λ k h. c.seat.ensures.keeps k (was.keeps k h);
    }

pub returns-clause-seated : goal.returns-clause-seated
returns-clause-seated g c = λ k among.
    let list = c.args.nodes.now in
    let p = place_in k list among in
    c.loop-node.invariant.seated p.0 k (omega (arith, slice_get_within list p.0 k p.1, c.loop-node-test.false)) p.1

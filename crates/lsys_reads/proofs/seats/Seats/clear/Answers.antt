use Rattle.std.proofs.Common.{◌≡◌, ◌≢◌, Some, length, slice_get, refl, sym, ap, ◌∙◌, subst, arith, inl, inr, false}
use Rattle.std.proofs.lemmas.Bool.{cases_eq}
use Rattle.std.proofs.lemmas.Option.{slice_get_read, slice_get_within, same_Some}
use Rattle.lsys_spec.specs.Rows.{In}
use Rattle.lsys_reads.specs.Seats.{is_marked}
use Rattle.lsys_reads.proofs.LevelLemmas.{place_in, got_in}
use Rattle.lsys_reads.proofs.seats.Seats.clear.Goals as goal

pub loop-node-preserved : goal.loop-node-preserved
loop-node-preserved c =
    let at = c.loop-node.node-index in
    let list = c.args.marked.now in
    let was = c.loop-node.invariant in
    let node = c.node-item.result in
    let here : slice_get list at ≡ Some node = slice_get_read list (length list) at node refl c.loop-node-test.true c.node-item.is in
    let among : In node list = got_in list at node here in
    record {
      cleared = λ i k less there. elim (cases_eq k node) [
        | inl e ↦ subst (λ k. is_marked c.unmark.new.self k ≡ false) (sym e) c.unmark.ensures.cleared
        | inr ne ↦
            let far : i ≢ at = λ e. ne (same_Some k node (sym there ∙ ap (slice_get list) e ∙ here)) in
            c.unmark.ensures.others k ne ∙ was.cleared i k (omega (arith, less, far)) there
      ];
      others = λ k none. c.unmark.ensures.others k (λ e. none (subst (λ j. In j list) (sym e) among)) ∙ was.others k none;
      seats = λ k. c.unmark.ensures.seats k ∙ was.seats k;
      keeps = λ k h. c.unmark.ensures.keeps k (was.keeps k h);
    }

pub returns-clause-cleared : goal.returns-clause-cleared
returns-clause-cleared c = λ k among.
    let list = c.args.marked.now in
    let p = place_in k list among in
    c.loop-node.invariant.cleared p.0 k (omega (arith, slice_get_within list p.0 k p.1, c.loop-node-test.false)) p.1

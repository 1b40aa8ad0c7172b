use Rattle.std.proofs.Common.{◌≡◌, ◌≢◌, ◌<◌, ◌+◌, get_or, set, true, arith, rules}
use Rattle.std.proofs.lemmas.Grind.{get_or_default_zero}
use Rattle.lsys_reads.specs.Rows.{has}
use Rattle.lsys_reads.proofs.PassLemmas.{cuts_as, cuts_kept, cuts_gone}
use Rattle.lsys_reads.proofs.row.cut_all.Goals as goal
use Rattle.lsys_reads.proofs.row.cut_all.Goals.{then-ne+then-not-is_found, else-ne, else-ne-via-then-ne+else-not-is_found, else-ne-via-else-ne}

pub loop-at-preserved : goal.loop-at-preserved
loop-at-preserved c =
    let old = c.args.cells.now in
    let new = c.loop-at.cells in
    let at = c.loop-at.at in
    let kept = c.loop-at.kept in
    let x = c.index-cells-at.result in
    let tag = c.args.tag in
    let gone = c.args.gone.now in
    let within : at < c.args.len = search rules in
    let size = c.loop-at.invariant.size in
    let room = c.requires.room in
    let read = get_or_default_zero new at x (omega (arith, within, size, room)) in
    let is : x ≡ get_or new at 0 = omega (arith, read) in
    elim c.if-ne.branch [
      | then-ne+then-not-is_found w ↦
          (let apart : x ≢ tag = search rules in
          cuts_as old (set new kept x) c.if-ne.cells c.args.len (at + 1) (kept + 1) c.if-ne.kept tag gone w.cells-is w.kept-is
          (cuts_kept old new c.args.len at kept tag x gone c.requires.room c.requires.rising c.loop-at.invariant within is apart))
      | else-ne w ↦
          cuts_as old new c.if-ne.cells c.args.len (at + 1) kept c.if-ne.kept tag gone w.cells-is w.kept-is
          (cuts_gone old new c.args.len at kept tag x gone c.requires.room c.loop-at.invariant within is (λ other. elim w.else-ne.branch [
            | else-ne-via-then-ne+else-not-is_found w' ↦ (let there : has gone x ≡ true = search rules in there)
            | else-ne-via-else-ne w' ↦ absurd (let same : x ≡ tag = search rules in other same)
          ]))
    ]

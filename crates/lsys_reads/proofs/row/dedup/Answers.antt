use Rattle.std.proofs.Common.{◌≡◌, ◌<◌, ◌≤◌, ◌-◌, ◌+◌, length, get_or, set, arith, rules}
use Rattle.std.proofs.lemmas.Grind.{get_or_default_zero}
use Rattle.lsys_reads.proofs.PassLemmas.{dedups_as, dedups_kept, dedups_again, sorted_step}
use Rattle.lsys_reads.proofs.row.dedup.Goals as goal
use Rattle.lsys_reads.proofs.row.dedup.Goals.{then-kept-eq0, then-kept-eq0-via-then-kept-eq0, then-kept-eq0-via-else-kept-eq0+then-lt, else-kept-eq0+else-lt}

pub loop-at-preserved : goal.loop-at-preserved
loop-at-preserved c =
    let old = c.args.cells.now in
    let new = c.loop-at.cells in
    let at = c.loop-at.at in
    let kept = c.loop-at.kept in
    let x = c.index-cells-at.result in
    let within : at < c.args.len = search rules in
    let size = c.loop-at.invariant.size in
    let fewer = c.loop-at.invariant.fewer in
    let room = c.requires.room in
    let inside : at < length new = omega (arith, within, size, room) in
    let read = get_or_default_zero new at x inside in
    let is : x ≡ get_or new at 0 = omega (arith, read) in
    elim c.if-kept-eq0.branch [
      | then-kept-eq0 w ↦
          dedups_as old (set new kept x) c.if-kept-eq0.cells c.args.len (at + 1) (kept + 1) c.if-kept-eq0.kept w.cells-is w.kept-is
          (dedups_kept old new c.args.len at kept x c.requires.room c.loop-at.invariant within is (λ some. elim w.then-kept-eq0.branch [
            | then-kept-eq0-via-then-kept-eq0 w' ↦ absurd (let none : kept ≡ 0 = search rules in omega (arith, none, some))
            | then-kept-eq0-via-else-kept-eq0+then-lt w' ↦
                (let less : w'.index-cells-kept.result < x = search rules in
                let last = get_or_default_zero new (kept - 1) w'.index-cells-kept.result (omega (arith, inside, fewer)) in
                omega (arith, less, last))
          ]))
      | else-kept-eq0+else-lt w ↦
          (let some : 0 < kept = search rules in
          let more : x ≤ w.index-cells-kept.result = search rules in
          let last = get_or_default_zero new (kept - 1) w.index-cells-kept.result (omega (arith, inside, fewer)) in
          let most : x ≤ get_or new (kept - 1) 0 = omega (arith, more, last) in
          dedups_as old new c.if-kept-eq0.cells c.args.len (at + 1) kept c.if-kept-eq0.kept w.cells-is w.kept-is
          (dedups_again old new c.args.len at kept x c.requires.room c.loop-at.invariant within is some most
          (sorted_step old c.args.len at c.requires.room c.requires.sorted (omega (arith, some, fewer)) within)))
    ]

use Rattle.std.proofs.Common.{◌≡◌, ◌<◌, ◌-◌, arith, rules}
use Rattle.std.proofs.lemmas.Grind.{get_or_default_zero}
use Rattle.lsys_reads.proofs.PassLemmas.{rising_written, has_written}
use Rattle.lsys_reads.proofs.row.insert.Goals as goal
use Rattle.lsys_reads.proofs.row.insert.Goals.{then-len-eq0-via-then-len-eq0, then-len-eq0-via-else-len-eq0+then-lt}

pub returns-then-len-eq0-clause-tags : goal.returns-then-len-eq0-clause-tags
returns-then-len-eq0-clause-tags c = λ q. has_written c.args.cells.now c.args.len c.args.tag q c.requires.room

pub returns-then-len-eq0-clause-rising : goal.returns-then-len-eq0-clause-rising
returns-then-len-eq0-clause-rising c =
    rising_written c.args.cells.now c.args.len c.args.tag c.requires.room c.requires.rising (λ some. elim c.then-len-eq0.branch [
      | then-len-eq0-via-then-len-eq0 w ↦ absurd (let none : c.args.len ≡ 0 = search rules in omega (arith, none, some))
      | then-len-eq0-via-else-len-eq0+then-lt w ↦
          (let less : w.index-cells-len.result < c.args.tag = search rules in
          let room = c.requires.room in
          let last = get_or_default_zero c.args.cells.now (c.args.len - 1) w.index-cells-len.result (omega (arith, room)) in
          omega (arith, less, last))
    ])

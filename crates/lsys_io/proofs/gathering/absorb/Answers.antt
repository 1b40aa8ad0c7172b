use Rattle.std.proofs.Common.{rules, arith, ◌-◌, length}
use borrow.Author.Tests.{lt-ltb, le-ltb}
use Rattle.lsys_io.proofs.Absorbed.{absorbs_whole, absorbs_all, past_room}
use Rattle.lsys_io.proofs.gathering.absorb.Goals as goal
use Rattle.lsys_io.proofs.gathering.absorb.Goals.{then-whole, else-whole}

pub returns-then-taken-room-clause-past : goal.returns-then-taken-room-clause-past
returns-then-taken-room-clause-past c =
    rw (← c.held-held.ensures) (elim c.if-whole.branch [
      | then-whole w ↦
          let is = w.taken-is in let test = w.if-whole.true in
          past_room c.held-held.result.now (c.args.room - c.args.count) c.feed_place-place.result (search rules) (search rules) c.feed_place-place.ensures.before
      | else-whole w ↦
          let is = w.taken-is in let test = w.if-whole.false in
          past_room c.held-held.result.now (c.args.room - c.args.count) c.feed_place-place.result (search rules) (search rules) c.feed_place-place.ensures.before
    ])

pub returns-clause-absorbs : goal.returns-clause-absorbs
returns-clause-absorbs c =
    let piece = c.held-held.result.now in
    rw (c.skip.ensures, ← c.held-held.ensures) (elim c.if-whole.branch [
      | then-whole w ↦
          let is = w.taken-is in
          let test = w.if-whole.true in
          rw (is, lt-ltb c.feed_place-place.result (length piece) test) (
          absorbs_whole piece c.args.line.now.items c.keep.new.line.items c.feed_place-place.result c.args.count c.args.room test
          c.feed_place-place.ensures.before (c.feed_place-place.ensures.found test) (omega arith) c.keep.ensures.kept
          )
      | else-whole w ↦
          let is = w.taken-is in
          let test = w.if-whole.false in
          rw (is, le-ltb c.feed_place-place.result (length piece) test) (
          absorbs_all piece c.args.line.now.items c.keep.new.line.items c.feed_place-place.result c.args.count c.args.room (omega arith)
          c.feed_place-place.ensures.before c.requires.within (omega arith) c.keep.ensures.kept
          )
    ])

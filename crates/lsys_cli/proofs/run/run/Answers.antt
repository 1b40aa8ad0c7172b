use Rattle.std.proofs.Common.{arith, ◌≡◌, ◌≢◌, rules, ◌∙◌, refl, sym, subst}
use Rattle.std.proofs.lemmas.Grind.{common_steps}
use Rattle.lsys_io.specs.declared.lines.LineRead.TheVariants.{End}
use Rattle.lsys_io.specs.Reading.{remaining}
use Rattle.lsys_cli.specs.Ends.{Ends, seen}
use Rattle.lsys_cli.specs.Views.{desk_on}
use Rattle.lsys_cli.proofs.Turns.{begins, begins_going, begins_within, turned, stuck, goes_on, quits, write_fault, read_goes_on, unless_end, unread_ends, unread_rose, unread_stayed, unread_writes, at_end, ends}
use Rattle.lsys_cli.proofs.run.run.Goals as goal

pub lines-init : goal.lines-init
lines-init g c = record {
  far = begins g.D.Derivation.visits (g.D.Derivation.limit_of c.args.desk.now.derivation) c.args.reader.now (desk_on g.D.Derivation.system_of c.args.desk.now) (g.S.Source.left c.args.source.now) (seen g.K.Sink.written c.args.sink.now c.args.asked.now c.args.visited.now)
      c.new-tally.result.refused c.new-tally.result.memory c.requires.fresh c.requires.opening c.new-tally.ensures.refused c.new-tally.ensures.memory;
  limit = refl;
  empty = c.requires.empty;
  going = begins_going c.args.reader.now c.requires.fresh;
  within = begins_within c.args.reader.now c.requires.fresh;
  source = refl;
  sink = refl;
}

pub returns-in-Err-clause-ends : goal.returns-in-Err-clause-ends
returns-in-Err-clause-ends g c =
    let going = c.in-Err.ensures.was_going c.lines.invariant.going in
    let limit = g.D.Derivation.limit_of c.args.desk.now.derivation in
    let script = g.S.Source.left c.args.source.now in
    let left = g.S.Source.left c.next_line.new.source in
    let start = seen g.K.Sink.written c.args.sink.now c.args.asked.now c.args.visited.now in
    let now = seen g.K.Sink.written c.lines.sink c.lines.asked c.lines.visited in
    subst (Ends g.D.Derivation.visits limit script left start now) (sym c.unread.ensures)
    (unread_ends g.D.Derivation.visits limit script (g.S.Source.left c.lines.source) left start now c.lines.reader (desk_on g.D.Derivation.system_of c.lines.desk) c.lines.tally.refused c.lines.tally.memory c.in-Err.refusal
    going c.lines.invariant.within c.lines.invariant.far (c.in-Err.ensures.read_fault_leaves_no_line going) (c.in-Err.ensures.too_long_only_past_limit going))

pub returns-in-Err-clause-read_fault_only_where_rose : goal.returns-in-Err-clause-read_fault_only_where_rose
returns-in-Err-clause-read_fault_only_where_rose g c = λ is.
    unread_rose c.in-Err.refusal (g.S.Source.faults c.args.source.now) (g.S.Source.faults c.lines.source) (g.S.Source.faults c.next_line.new.source) c.lines.invariant.source
    (c.in-Err.ensures.read_fault_only_where_rose (c.in-Err.ensures.was_going c.lines.invariant.going)) (sym c.unread.ensures ∙ is)

pub returns-in-Err-clause-write_fault_only_where_rose : goal.returns-in-Err-clause-write_fault_only_where_rose
returns-in-Err-clause-write_fault_only_where_rose g c = λ is. unread_writes c.in-Err.refusal (sym c.unread.ensures ∙ is)

pub returns-in-Err-clause-no_read_fault_passed_over : goal.returns-in-Err-clause-no_read_fault_passed_over
returns-in-Err-clause-no_read_fault_passed_over g c = λ away.
    unread_stayed c.in-Err.refusal (g.S.Source.faults c.args.source.now) (g.S.Source.faults c.lines.source) (g.S.Source.faults c.next_line.new.source) c.lines.invariant.source
    c.in-Err.ensures.else_leaves_count (λ is. away (c.unread.ensures ∙ is))

pub returns-in-Err-clause-no_write_fault_passed_over : goal.returns-in-Err-clause-no_write_fault_passed_over
returns-in-Err-clause-no_write_fault_passed_over g c = λ away. c.lines.invariant.sink

pub returns-then-eq-clause-ends : goal.returns-then-eq-clause-ends
returns-then-eq-clause-ends g c =
    let at : c.in-Ok.read ≡ End = search rules in
    let limit = g.D.Derivation.limit_of c.args.desk.now.derivation in
    let script = g.S.Source.left c.args.source.now in
    let left = g.S.Source.left c.next_line.new.source in
    let start = seen g.K.Sink.written c.args.sink.now c.args.asked.now c.args.visited.now in
    let now = seen g.K.Sink.written c.lines.sink c.lines.asked c.lines.visited in
    subst (Ends g.D.Derivation.visits limit script left start now) (sym c.status.ensures)
    (ends g.D.Derivation.visits limit script c.lines.reader.stage (remaining c.lines.reader (g.S.Source.left c.lines.source)) left start now (desk_on g.D.Derivation.system_of c.lines.desk)
    c.lines.tally.refused c.lines.tally.memory c.lines.reader.taken c.lines.invariant.far (at_end c.in-Ok.read at c.in-Ok.ensures.end_only_where_none_left) c.lines.invariant.within)

pub returns-in_default-clause-ends : goal.returns-in_default-clause-ends
returns-in_default-clause-ends g c =
    let not_end : c.in-Ok.read ≢ End = search rules in
    let going = unless_end c.in-Ok.read not_end (c.in-Ok.ensures.was_going c.lines.invariant.going) in
    let broke = stuck g.K.Sink.written g.K.Sink.faults c.lines.sink c.answer_line.new.sink c.answer_line.new.out c.in-Ok.read (g.D.Derivation.limit_of c.lines.desk.derivation) c.lines.reader c.next_line.new.self
    (g.S.Source.left c.lines.source) (g.S.Source.left c.next_line.new.source) (desk_on g.D.Derivation.system_of c.lines.desk) (desk_on g.D.Derivation.system_of c.answer_line.new.desk) c.line.result.now c.in_default.field-0
    not_end c.in-Ok.ensures.line c.in-Ok.ensures.long c.line.ensures c.in_default.ensures.heeds in
    write_fault g.D.Derivation.visits (g.D.Derivation.limit_of c.args.desk.now.derivation) (g.D.Derivation.limit_of c.lines.desk.derivation) (g.S.Source.left c.args.source.now) (g.S.Source.left c.lines.source) (g.S.Source.left c.next_line.new.source)
    (seen g.K.Sink.written c.args.sink.now c.args.asked.now c.args.visited.now) (seen g.K.Sink.written c.lines.sink c.lines.asked c.lines.visited) (seen g.K.Sink.written c.answer_line.new.sink c.answer_line.new.asked c.answer_line.new.visited) c.lines.reader c.next_line.new.self (desk_on g.D.Derivation.system_of c.lines.desk)
    c.lines.tally.refused c.lines.tally.memory c.lines.invariant.limit going c.lines.invariant.far broke

pub returns-then-ends_session-clause-ends : goal.returns-then-ends_session-clause-ends
returns-then-ends_session-clause-ends g c =
    let not_end : c.in-Ok.read ≢ End = search rules in
    let going = unless_end c.in-Ok.read not_end (c.in-Ok.ensures.was_going c.lines.invariant.going) in
    let turn = turned g.K.Sink.written g.K.Sink.faults c.lines.sink c.answer_line.new.sink c.answer_line.new.out c.in-Ok.read g.D.Derivation.visits (g.D.Derivation.limit_of c.lines.desk.derivation) c.lines.reader c.next_line.new.self
    (g.S.Source.left c.lines.source) (g.S.Source.left c.next_line.new.source) (desk_on g.D.Derivation.system_of c.lines.desk) (desk_on g.D.Derivation.system_of c.answer_line.new.desk) c.line.result.now c.in-Ok-answer_line.outcome
    (record { asked = c.lines.asked; visited = c.lines.visited }) (record { asked = c.answer_line.new.asked; visited = c.answer_line.new.visited })
    not_end c.in-Ok.ensures.line c.in-Ok.ensures.long c.line.ensures c.in-Ok-answer_line.ensures.heeds c.in-Ok-answer_line.ensures.counts in
    let done = quits g.D.Derivation.visits (g.D.Derivation.limit_of c.args.desk.now.derivation) (g.D.Derivation.limit_of c.lines.desk.derivation) (g.S.Source.left c.args.source.now) (g.S.Source.left c.lines.source) (g.S.Source.left c.next_line.new.source)
    (seen g.K.Sink.written c.args.sink.now c.args.asked.now c.args.visited.now) (seen g.K.Sink.written c.lines.sink c.lines.asked c.lines.visited) (seen g.K.Sink.written c.answer_line.new.sink c.answer_line.new.asked c.answer_line.new.visited) c.lines.reader c.next_line.new.self (desk_on g.D.Derivation.system_of c.lines.desk) (desk_on g.D.Derivation.system_of c.answer_line.new.desk)
    c.lines.tally.refused c.lines.tally.memory c.with-tally.result.refused c.with-tally.result.memory c.in-Ok-answer_line.outcome c.lines.invariant.limit going c.next_line.ensures.within
    c.with-tally.ensures.refused c.with-tally.ensures.memory c.lines.invariant.far turn (sym c.ends_session.ensures ∙ c.if-ends_session.true) in
    subst (Ends g.D.Derivation.visits (g.D.Derivation.limit_of c.args.desk.now.derivation) (g.S.Source.left c.args.source.now) (g.S.Source.left c.next_line.new.source) (seen g.K.Sink.written c.args.sink.now c.args.asked.now c.args.visited.now) (seen g.K.Sink.written c.answer_line.new.sink c.answer_line.new.asked c.answer_line.new.visited))
    (sym c.status-then-ends_session.ensures) done

pub lines-preserved : goal.lines-preserved
lines-preserved g c =
    let not_end : c.in-Ok.read ≢ End = search rules in
    let going = unless_end c.in-Ok.read not_end (c.in-Ok.ensures.was_going c.lines.invariant.going) in
    let turn = turned g.K.Sink.written g.K.Sink.faults c.lines.sink c.answer_line.new.sink c.answer_line.new.out c.in-Ok.read g.D.Derivation.visits (g.D.Derivation.limit_of c.lines.desk.derivation) c.lines.reader c.next_line.new.self
    (g.S.Source.left c.lines.source) (g.S.Source.left c.next_line.new.source) (desk_on g.D.Derivation.system_of c.lines.desk) (desk_on g.D.Derivation.system_of c.answer_line.new.desk) c.line.result.now c.in-Ok-answer_line.outcome
    (record { asked = c.lines.asked; visited = c.lines.visited }) (record { asked = c.answer_line.new.asked; visited = c.answer_line.new.visited })
    not_end c.in-Ok.ensures.line c.in-Ok.ensures.long c.line.ensures c.in-Ok-answer_line.ensures.heeds c.in-Ok-answer_line.ensures.counts in
    record {
      far = goes_on g.D.Derivation.visits (g.D.Derivation.limit_of c.args.desk.now.derivation) (g.D.Derivation.limit_of c.lines.desk.derivation) (g.S.Source.left c.args.source.now) (g.S.Source.left c.lines.source) (g.S.Source.left c.next_line.new.source)
          (seen g.K.Sink.written c.args.sink.now c.args.asked.now c.args.visited.now) (seen g.K.Sink.written c.lines.sink c.lines.asked c.lines.visited) (seen g.K.Sink.written c.answer_line.new.sink c.answer_line.new.asked c.answer_line.new.visited) c.lines.reader c.next_line.new.self (desk_on g.D.Derivation.system_of c.lines.desk) (desk_on g.D.Derivation.system_of c.answer_line.new.desk)
          c.lines.tally.refused c.lines.tally.memory c.with-tally.result.refused c.with-tally.result.memory c.in-Ok-answer_line.outcome c.lines.invariant.limit going c.next_line.ensures.within
          c.with-tally.ensures.refused c.with-tally.ensures.memory c.lines.invariant.far turn (sym c.ends_session.ensures ∙ c.if-ends_session.false);
      limit = c.answer_line.ensures.limit ∙ c.lines.invariant.limit;
      empty = c.answer_line.ensures.empty;
      going = read_goes_on c.in-Ok.read c.lines.reader c.next_line.new.self (g.S.Source.left c.lines.source) (g.S.Source.left c.next_line.new.source) not_end c.in-Ok.ensures.line c.in-Ok.ensures.long;
      within = c.next_line.ensures.within;
      source = c.in-Ok.ensures.else_leaves_count ∙ c.lines.invariant.source;
      sink = c.in-Ok-answer_line.ensures.ok_leaves_count ∙ c.lines.invariant.sink;
    }

pub returns-then-eq-clause-write_fault_only_where_rose : goal.returns-then-eq-clause-write_fault_only_where_rose
returns-then-eq-clause-write_fault_only_where_rose g c = grind (arith, common_steps)

pub returns-in_default-clause-read_fault_only_where_rose : goal.returns-in_default-clause-read_fault_only_where_rose
returns-in_default-clause-read_fault_only_where_rose g c = grind (arith, common_steps)

pub returns-in_default-clause-write_fault_only_where_rose : goal.returns-in_default-clause-write_fault_only_where_rose
returns-in_default-clause-write_fault_only_where_rose g c = grind (arith, common_steps)

pub returns-in_default-clause-no_write_fault_passed_over : goal.returns-in_default-clause-no_write_fault_passed_over
returns-in_default-clause-no_write_fault_passed_over g c = grind (arith, common_steps)

pub returns-then-ends_session-clause-read_fault_only_where_rose : goal.returns-then-ends_session-clause-read_fault_only_where_rose
returns-then-ends_session-clause-read_fault_only_where_rose g c = grind (arith, common_steps)

pub returns-then-ends_session-clause-write_fault_only_where_rose : goal.returns-then-ends_session-clause-write_fault_only_where_rose
returns-then-ends_session-clause-write_fault_only_where_rose g c = grind (arith, common_steps)

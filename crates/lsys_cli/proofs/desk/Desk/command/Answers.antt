use Rattle.std.proofs.Common.{◌≡◌, ◌∙◌, ℕ, List, ap, refl, subst}
use Rattle.std.specs.Prelude.{option_map}
use Rattle.lsys_session.proofs.Answering.{short_by}
use Rattle.lsys_session.specs.Sessions.{refusal_outcome}
use Rattle.lsys_session.specs.declared.outcome.Outcome.TheVariants as outcomes
use Rattle.lsys_session.proofs.Whole.{unchanged}
use Rattle.lsys_cli.specs.Views.{desk_line_of, desk_on}
use Rattle.lsys_cli.proofs.Answering.{by_desk, by_unread, for_length, long_by, refusal_refuses, short_asks}
use Rattle.lsys_cli.proofs.Counting.{led_own, led_session, refusal_quiet, stay}
use Rattle.lsys_cli.specs.Answers.{leads_to}
use Rattle.lsys_cli.proofs.Telling.{desk_leads, refusal_tells, session_leads, tells_same}
use Rattle.lsys_history.specs.Costs.{own_leads}
use Rattle.lsys_history.specs.Desks.{bare_asks}
use Rattle.lsys_spec.specs.Costs.{edit_by}
use Rattle.lsys_session.specs.Answers.{line_spelled}
use Rattle.lsys_cli.proofs.desk.Desk.command.Goals as goal

-- 1. a line that is too long

pub returns-then-line-gt-MOST_LINE_BYTES-clause-answers : goal.returns-then-line-gt-MOST_LINE_BYTES-clause-answers
returns-then-line-gt-MOST_LINE_BYTES-clause-answers g c =
    for_length g.K.Sink.written g.K.Sink.faults c.args.sink.now c.refuse.new.sink c.refuse.new.out (g.D.Derivation.limit_of c.args.self.now.derivation) (desk_on g.D.Derivation.system_of c.args.self.now) c.args.line.now
    c.refuse.result (long_by c.args.line.now c.if-line-gt-MOST_LINE_BYTES.true) c.refuse.ensures

pub returns-then-line-gt-MOST_LINE_BYTES-clause-kept : goal.returns-then-line-gt-MOST_LINE_BYTES-clause-kept
returns-then-line-gt-MOST_LINE_BYTES-clause-kept g c = λ kept. kept

pub returns-then-line-gt-MOST_LINE_BYTES-clause-counts : goal.returns-then-line-gt-MOST_LINE_BYTES-clause-counts
returns-then-line-gt-MOST_LINE_BYTES-clause-counts g c =
    stay g.D.Derivation.visits (g.D.Derivation.limit_of c.args.self.now.derivation) (g.D.Derivation.system_of c.args.self.now.derivation) (record { asked = c.args.asked.now; visited = c.args.visited.now })
    _ outcomes.Refused c.refuse.result tt c.refuse.ensures.outcome

pub returns-then-line-gt-MOST_LINE_BYTES-clause-unless_accepted : goal.returns-then-line-gt-MOST_LINE_BYTES-clause-unless_accepted
returns-then-line-gt-MOST_LINE_BYTES-clause-unless_accepted g c = unchanged c.refuse.result refl

-- 2. a line that can't be read

pub returns-in-Err-clause-answers : goal.returns-in-Err-clause-answers
returns-in-Err-clause-answers g c =
    by_unread g.K.Sink.written g.K.Sink.faults c.args.sink.now c.refuse-in-Err.new.sink c.refuse-in-Err.new.out (g.D.Derivation.limit_of c.args.self.now.derivation) (desk_on g.D.Derivation.system_of c.args.self.now) c.args.line.now
    c.in-Err.refusal c.refuse-in-Err.result (short_by c.args.line.now c.if-line-gt-MOST_LINE_BYTES.false) c.in-Err.ensures.unread c.refuse-in-Err.ensures

pub returns-in-Err-clause-unless_accepted : goal.returns-in-Err-clause-unless_accepted
returns-in-Err-clause-unless_accepted g c = unchanged c.refuse-in-Err.result refl

pub returns-in-Err-clause-kept : goal.returns-in-Err-clause-kept
returns-in-Err-clause-kept g c = λ kept. kept

pub returns-in-Err-clause-counts : goal.returns-in-Err-clause-counts
returns-in-Err-clause-counts g c =
    stay g.D.Derivation.visits (g.D.Derivation.limit_of c.args.self.now.derivation) (g.D.Derivation.system_of c.args.self.now.derivation) (record { asked = c.args.asked.now; visited = c.args.visited.now })
    _ (refusal_outcome c.in-Err.refusal) c.refuse-in-Err.result (refusal_quiet c.in-Err.refusal) c.refuse-in-Err.ensures.outcome

pub returns-in-Err-clause-leads : goal.returns-in-Err-clause-leads
returns-in-Err-clause-leads g c =
    refusal_tells (leads_to (desk_on g.D.Derivation.system_of c.args.self.now) c.args.line.now) (refusal_outcome c.in-Err.refusal) c.refuse-in-Err.result (refusal_refuses c.in-Err.refusal) c.refuse-in-Err.ensures.outcome

-- 3. a line that asks nothing of the desk

pub session_line-requires-clause-short : goal.session_line-requires-clause-short
session_line-requires-clause-short g c = rw c.in-Ok.ensures.line c.if-line-gt-MOST_LINE_BYTES.false

pub session_line-requires-clause-other : goal.session_line-requires-clause-other
session_line-requires-clause-other g c = rw c.in-None.is at c.desk_line.ensures

pub returns-in-None-clause-answers : goal.returns-in-None-clause-answers
returns-in-None-clause-answers g c = rw c.in-Ok.ensures.line at c.session_line.ensures.answers

pub returns-in-None-clause-kept : goal.returns-in-None-clause-kept
returns-in-None-clause-kept g c = λ kept. c.session_line.ensures.kept

pub returns-in-None-clause-counts : goal.returns-in-None-clause-counts
returns-in-None-clause-counts g c =
    let whole : bare_asks c.args.line.now ≡ option_map desk_line_of c.desk_line.result = subst (λ (l : List ℕ). bare_asks l ≡ option_map desk_line_of c.desk_line.result) c.in-Ok.ensures.line c.desk_line.ensures in
    let none = short_asks c.args.line.now (short_by c.args.line.now c.if-line-gt-MOST_LINE_BYTES.false) ∙ whole ∙ ap (option_map desk_line_of) c.in-None.is in
    rw (led_session (g.D.Derivation.system_of c.args.self.now.derivation) c.args.line.now none) (rw c.in-Ok.ensures.line at c.session_line.ensures.counts)

pub returns-in-None-clause-leads : goal.returns-in-None-clause-leads
returns-in-None-clause-leads g c =
    let d = desk_on g.D.Derivation.system_of c.args.self.now in
    let whole : bare_asks c.args.line.now ≡ option_map desk_line_of c.desk_line.result = subst (λ (l : List ℕ). bare_asks l ≡ option_map desk_line_of c.desk_line.result) c.in-Ok.ensures.line c.desk_line.ensures in
    let none = short_asks c.args.line.now (short_by c.args.line.now c.if-line-gt-MOST_LINE_BYTES.false) ∙ whole ∙ ap (option_map desk_line_of) c.in-None.is in
    tells_same (edit_by d.system (line_spelled c.args.line.now)) (leads_to d c.args.line.now) c.session_line.result (session_leads d c.args.line.now none) (rw c.in-Ok.ensures.line at c.session_line.ensures.leads)

-- 4. a line that asks something of it

pub returns-clause-answers : goal.returns-clause-answers
returns-clause-answers g c =
    let whole : bare_asks c.args.line.now ≡ option_map desk_line_of c.desk_line.result = subst (λ (l : List ℕ). bare_asks l ≡ option_map desk_line_of c.desk_line.result) c.in-Ok.ensures.line c.desk_line.ensures in
    by_desk g.K.Sink.written g.K.Sink.faults c.args.sink.now c.own_line.new.sink c.own_line.new.out (g.D.Derivation.limit_of c.args.self.now.derivation) (desk_on g.D.Derivation.system_of c.args.self.now) c.args.line.now
    (desk_line_of c.in-Some.line) (desk_on g.D.Derivation.system_of c.own_line.new.self) c.own_line.result (short_by c.args.line.now c.if-line-gt-MOST_LINE_BYTES.false)
    (whole ∙ ap (option_map desk_line_of) c.in-Some.is) c.own_line.ensures.gives

pub returns-clause-kept : goal.returns-clause-kept
returns-clause-kept g c = λ kept. c.own_line.ensures.kept

pub returns-clause-counts : goal.returns-clause-counts
returns-clause-counts g c =
    let whole : bare_asks c.args.line.now ≡ option_map desk_line_of c.desk_line.result = subst (λ (l : List ℕ). bare_asks l ≡ option_map desk_line_of c.desk_line.result) c.in-Ok.ensures.line c.desk_line.ensures in
    let asked = short_asks c.args.line.now (short_by c.args.line.now c.if-line-gt-MOST_LINE_BYTES.false) ∙ whole ∙ ap (option_map desk_line_of) c.in-Some.is in
    rw (led_own (g.D.Derivation.system_of c.args.self.now.derivation) c.args.line.now (desk_line_of c.in-Some.line) asked) c.own_line.ensures.counts

pub returns-clause-leads : goal.returns-clause-leads
returns-clause-leads g c =
    let d = desk_on g.D.Derivation.system_of c.args.self.now in
    let whole : bare_asks c.args.line.now ≡ option_map desk_line_of c.desk_line.result = subst (λ (l : List ℕ). bare_asks l ≡ option_map desk_line_of c.desk_line.result) c.in-Ok.ensures.line c.desk_line.ensures in
    let asked = short_asks c.args.line.now (short_by c.args.line.now c.if-line-gt-MOST_LINE_BYTES.false) ∙ whole ∙ ap (option_map desk_line_of) c.in-Some.is in
    tells_same (own_leads d (desk_line_of c.in-Some.line)) (leads_to d c.args.line.now) c.own_line.result (desk_leads d c.args.line.now (desk_line_of c.in-Some.line) asked) c.own_line.ensures.leads

-- 5. where a line that is too long leads

pub returns-then-line-gt-MOST_LINE_BYTES-clause-leads : goal.returns-then-line-gt-MOST_LINE_BYTES-clause-leads
returns-then-line-gt-MOST_LINE_BYTES-clause-leads g c = refusal_tells (leads_to (desk_on g.D.Derivation.system_of c.args.self.now) c.args.line.now) outcomes.Refused c.refuse.result refl c.refuse.ensures.outcome

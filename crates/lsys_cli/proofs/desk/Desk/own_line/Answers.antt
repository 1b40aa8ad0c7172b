use Rattle.std.proofs.Common.{None, ap, false, refl}
use Rattle.lsys_spec.specs.Refusals.{Reply}
use Rattle.lsys_spec.specs.Replies.{levels_of}
use Rattle.lsys_spec.specs.Output.{memory_or}
use Rattle.lsys_session.specs.Given.{outcome_by_reply}
use Rattle.lsys_session.specs.declared.outcome.Outcome.TheVariants as outcomes
use Rattle.lsys_growth.specs.Growth.{growth_at}
use Rattle.lsys_history.specs.Desks.{bounds_reply, growth_reply, place_reply}
use Rattle.lsys_cli.specs.Views.{Bench, bench, desk_line_of, desk_on}
use Rattle.lsys_cli.proofs.Leading.{bounds_told, growth_told, place_told}
use Rattle.lsys_cli.proofs.Counting.{printed_quiet, stay}
use Rattle.lsys_history.specs.Costs.{own_leads}
use Rattle.lsys_cli.proofs.Telling.{tells_same, unrefused_tells}
use Rattle.lsys_session.proofs.Whole.{unchanged}
use Rattle.lsys_cli.proofs.desk.Desk.own_line.Goals as goal

pub returns-in-Growth-clause-gives : goal.returns-in-Growth-clause-gives
returns-in-Growth-clause-gives g c =
    let before : Bench _ = bench c.self.inside.session c.self.inside.history in
    rw (← c.self.view_is, c.in-Growth.is)
    (growth_told g.K.Sink.written g.K.Sink.faults c.args.sink.now c.answer_growth.new.sink c.answer_growth.new.out (desk_on g.D.Derivation.system_of before) c.answer_growth.result
    (g.D.Derivation.limit_of c.self.inside.session) c.in-Growth.level (rw c.system.ensures.system at c.answer_growth.ensures))

pub returns-in-Growth-clause-kept : goal.returns-in-Growth-clause-kept
returns-in-Growth-clause-kept g c = rw (← c.self.view_is) c.self.invariant.0

pub returns-in-Growth-clause-counts : goal.returns-in-Growth-clause-counts
returns-in-Growth-clause-counts g c =
    let reply : Reply = memory_or c.answer_growth.ensures.lacks c.system.result.now (growth_reply c.system.result.now (growth_at c.system.result.now c.in-Growth.level)) in
    stay g.D.Derivation.visits (g.D.Derivation.limit_of c.args.self.now.derivation) (g.D.Derivation.system_of c.args.self.now.derivation) (record { asked = c.args.asked.now; visited = c.args.visited.now })
    false (outcome_by_reply outcomes.Printed reply) c.answer_growth.result (printed_quiet reply) c.answer_growth.ensures.says.outcome

pub returns-in-Growth-clause-leads : goal.returns-in-Growth-clause-leads
returns-in-Growth-clause-leads g c =
    let d = desk_on g.D.Derivation.system_of c.args.self.now in
    let reply : Reply = memory_or c.answer_growth.ensures.lacks c.system.result.now (growth_reply c.system.result.now (growth_at c.system.result.now c.in-Growth.level)) in
    tells_same None (own_leads d (desk_line_of c.args.line)) c.answer_growth.result (ap (λ l. own_leads d (desk_line_of l)) c.in-Growth.is)
    (unrefused_tells None outcomes.Printed reply c.answer_growth.result refl c.answer_growth.ensures.says.outcome)

pub returns-in-Bounds-clause-gives : goal.returns-in-Bounds-clause-gives
returns-in-Bounds-clause-gives g c =
    rw (c.tell_bounds.ensures.stays, c.in-Bounds.is)
    (bounds_told g.K.Sink.written g.K.Sink.faults c.args.sink.now c.tell_bounds.new.sink c.tell_bounds.new.out (desk_on g.D.Derivation.system_of c.args.self.now) c.tell_bounds.result
    (g.D.Derivation.limit_of c.args.self.now.derivation) c.tell_bounds.ensures.prints)

pub returns-in-Bounds-clause-counts : goal.returns-in-Bounds-clause-counts
returns-in-Bounds-clause-counts g c =
    let s = g.D.Derivation.system_of c.args.self.now.derivation in
    let limit = g.D.Derivation.limit_of c.args.self.now.derivation in
    let reply : Reply = memory_or c.tell_bounds.ensures.prints.lacks s (bounds_reply s (levels_of limit s)) in
    rw c.tell_bounds.ensures.stays
    (stay g.D.Derivation.visits limit s (record { asked = c.args.asked.now; visited = c.args.visited.now })
    false (outcome_by_reply outcomes.Printed reply) c.tell_bounds.result (printed_quiet reply) c.tell_bounds.ensures.prints.says.outcome)

pub returns-in-Bounds-clause-leads : goal.returns-in-Bounds-clause-leads
returns-in-Bounds-clause-leads g c =
    let d = desk_on g.D.Derivation.system_of c.args.self.now in
    let s = g.D.Derivation.system_of c.args.self.now.derivation in
    let limit = g.D.Derivation.limit_of c.args.self.now.derivation in
    let reply : Reply = memory_or c.tell_bounds.ensures.prints.lacks s (bounds_reply s (levels_of limit s)) in
    tells_same None (own_leads d (desk_line_of c.args.line)) c.tell_bounds.result (ap (λ l. own_leads d (desk_line_of l)) c.in-Bounds.is)
    (unrefused_tells None outcomes.Printed reply c.tell_bounds.result refl c.tell_bounds.ensures.prints.says.outcome)

pub returns-in-At-clause-gives : goal.returns-in-At-clause-gives
returns-in-At-clause-gives g c =
    rw (c.tell_place.ensures.stays, c.in-At.is)
    (place_told g.K.Sink.written g.K.Sink.faults c.args.sink.now c.tell_place.new.sink c.tell_place.new.out (desk_on g.D.Derivation.system_of c.args.self.now) c.tell_place.result
    (g.D.Derivation.limit_of c.args.self.now.derivation) c.in-At.place c.in-At.column c.tell_place.ensures.prints)

pub returns-in-At-clause-counts : goal.returns-in-At-clause-counts
returns-in-At-clause-counts g c =
    let s = g.D.Derivation.system_of c.args.self.now.derivation in
    let limit = g.D.Derivation.limit_of c.args.self.now.derivation in
    let reply : Reply = memory_or c.tell_place.ensures.prints.lacks s (place_reply s c.in-At.place c.in-At.column (levels_of limit s)) in
    rw c.tell_place.ensures.stays
    (stay g.D.Derivation.visits limit s (record { asked = c.args.asked.now; visited = c.args.visited.now })
    false (outcome_by_reply outcomes.Printed reply) c.tell_place.result (printed_quiet reply) c.tell_place.ensures.prints.says.outcome)

pub returns-in-At-clause-leads : goal.returns-in-At-clause-leads
returns-in-At-clause-leads g c =
    let d = desk_on g.D.Derivation.system_of c.args.self.now in
    let s = g.D.Derivation.system_of c.args.self.now.derivation in
    let limit = g.D.Derivation.limit_of c.args.self.now.derivation in
    let reply : Reply = memory_or c.tell_place.ensures.prints.lacks s (place_reply s c.in-At.place c.in-At.column (levels_of limit s)) in
    tells_same None (own_leads d (desk_line_of c.args.line)) c.tell_place.result (ap (λ l. own_leads d (desk_line_of l)) c.in-At.is)
    (unrefused_tells None outcomes.Printed reply c.tell_place.result refl c.tell_place.ensures.prints.says.outcome)

pub returns-in-Growth-clause-unless_accepted : goal.returns-in-Growth-clause-unless_accepted
returns-in-Growth-clause-unless_accepted g c = unchanged c.answer_growth.result refl

pub returns-in-Bounds-clause-unless_accepted : goal.returns-in-Bounds-clause-unless_accepted
returns-in-Bounds-clause-unless_accepted g c = unchanged c.tell_bounds.result c.tell_bounds.ensures.stays

pub returns-in-At-clause-unless_accepted : goal.returns-in-At-clause-unless_accepted
returns-in-At-clause-unless_accepted g c = unchanged c.tell_place.result c.tell_place.ensures.stays

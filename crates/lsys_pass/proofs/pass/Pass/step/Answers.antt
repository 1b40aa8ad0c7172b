use Rattle.std.proofs.Common.{◌<◌, length, refl, sym, ap, ◌∙◌, subst}
use Rattle.std.specs.List.{remove}
use Rattle.std.proofs.lemmas.Option.{slice_get_within}
use Rattle.lsys_spec.specs.Rows.{In}
use Rattle.lsys_pass.specs.Places.{AreInOrderOnLevel}
use Rattle.lsys_pass.specs.Passes.{PassView}
use Rattle.lsys_pass.proofs.Asking.{in_order, lives, stands_now, has_question_by, made_if_any, taken_off, here_among, born_is}
use Rattle.lsys_pass.proofs.Moved.{replied, counted, few_read, moves_once, moves_at, asks_renewed}
use Rattle.lsys_pass.proofs.Stepped.{over_all, roomy_pass, waits_pass, steps_at}
use Rattle.lsys_pass.proofs.pass.Pass.step.Goals as goal

pub place_of-place-requires-clause-order : goal.place_of-place-requires-clause-order
place_of-place-requires-clause-order g c =
    subst (AreInOrderOnLevel c.reserve.new.self) (sym (c.reserve-2.ensures.others.pending))
    (in_order _ c.in-Level.level c.self.invariant c.in-Level.is c.reserve.new.self (record { now = c.reserve.ensures.now; changes = c.reserve.ensures.changes; root = c.reserve.ensures.root }))

pub answer_of-old-requires : goal.answer_of-old-requires
answer_of-old-requires g c =
    lives _ c.in-Level.level c.self.invariant c.in-Level.is c.reserve.new.self (record { now = c.reserve.ensures.now; changes = c.reserve.ensures.changes; root = c.reserve.ensures.root })
    c.args.node (subst (λ (v : PassView). In c.args.node v.pending) (sym c.self.view_is) c.requires.pending)

pub ask-outcome-requires-clause-spot : goal.ask-outcome-requires-clause-spot
ask-outcome-requires-clause-spot g c =
    (stands_now _ c.in-Level.level c.self.invariant c.in-Level.is c.reserve.new.self (record { now = c.reserve.ensures.now; changes = c.reserve.ensures.changes; root = c.reserve.ensures.root })
    c.args.node (subst (λ (v : PassView). In c.args.node v.pending) (sym c.self.view_is) c.requires.pending)).at_spot

pub ask-outcome-requires-clause-level : goal.ask-outcome-requires-clause-level
ask-outcome-requires-clause-level g c =
    (stands_now _ c.in-Level.level c.self.invariant c.in-Level.is c.reserve.new.self (record { now = c.reserve.ensures.now; changes = c.reserve.ensures.changes; root = c.reserve.ensures.root })
    c.args.node (subst (λ (v : PassView). In c.args.node v.pending) (sym c.self.view_is) c.requires.pending)).level_is

pub ask-outcome-requires-clause-module : goal.ask-outcome-requires-clause-module
ask-outcome-requires-clause-module g c =
    has_question_by _ c.in-Level.level c.self.invariant c.in-Level.is c.reserve.new.self (record { now = c.reserve.ensures.now; changes = c.reserve.ensures.changes; root = c.reserve.ensures.root }) _ c.target-system.ensures
    c.args.node (subst (λ (v : PassView). In c.args.node v.pending) (sym c.self.view_is) c.requires.pending)

pub ask-outcome-requires-clause-made : goal.ask-outcome-requires-clause-made
ask-outcome-requires-clause-made g c =
    made_if_any _ c.in-Level.level c.self.invariant c.in-Level.is c.reserve.new.self (record { now = c.reserve.ensures.now; changes = c.reserve.ensures.changes; root = c.reserve.ensures.root })
    c.args.node _ c.answer_of-old.ensures

pub keep_outcome-requires-clause-lives : goal.keep_outcome-requires-clause-lives
keep_outcome-requires-clause-lives g c =
    lives _ c.in-Level.level c.self.invariant c.in-Level.is c.reserve.new.self (record { now = c.reserve.ensures.now; changes = c.reserve.ensures.changes; root = c.reserve.ensures.root })
    c.args.node (subst (λ (v : PassView). In c.args.node v.pending) (sym c.self.view_is) c.requires.pending)

pub invariant_of-self-in_err-keep_outcome : goal.invariant_of-self-in_err-keep_outcome
invariant_of-self-in_err-keep_outcome g c =
    waits_pass _ c.in-Level.level c.self.invariant c.in-Level.is c.reserve.new.self (record { now = c.reserve.ensures.now; changes = c.reserve.ensures.changes; root = c.reserve.ensures.root }) c.reserve.ensures.others.live
    c.keep_outcome.new.forest c.ask-outcome.new.store c.keep_outcome.new.store c.keep_outcome.new.readers.reads c.keep_outcome.new.readers.is_listed c.reserve-2.new.self c.keep_outcome.new.work _ c.ask-outcome.result c.keep_outcome.new.work.pending
    (record { faults = c.reserve-2.ensures.faults; renewed = c.reserve-2.ensures.renewed; born = c.reserve-2.ensures.born; first_renewed = c.keep_outcome.ensures.others.first_renewed ∙ c.reserve-2.ensures.others.first_renewed; dropped = ap (λ d. d.items) (c.keep_outcome.ensures.others.dropped ∙ c.reserve-2.ensures.others.dropped); moved = ap (λ d. d.items) (c.keep_outcome.ensures.others.moved ∙ c.reserve-2.ensures.others.moved); front = c.keep_outcome.ensures.others.front ∙ c.reserve-2.ensures.others.front })
    (c.keep_outcome.ensures.others.pending ∙ c.reserve-2.ensures.others.pending) c.ask-outcome.ensures.store c.in_err-keep_outcome.ensures.refused

pub returns-in_err-keep_outcome-clause-few_read : goal.returns-in_err-keep_outcome-clause-few_read
returns-in_err-keep_outcome-clause-few_read g c =
    few_read _ c.in-Level.level c.self.invariant c.in-Level.is c.args.node (subst (λ (v : PassView). In c.args.node v.pending) (sym c.self.view_is) c.requires.pending) c.reserve.new.self (record { now = c.reserve.ensures.now; changes = c.reserve.ensures.changes; root = c.reserve.ensures.root }) c.ask-outcome.result c.args.visited.now c.ask-outcome.new.visited
    (counted _ c.in-Level.level c.self.invariant c.in-Level.is c.args.node (subst (λ (v : PassView). In c.args.node v.pending) (sym c.self.view_is) c.requires.pending) c.reserve.new.self (record { now = c.reserve.ensures.now; changes = c.reserve.ensures.changes; root = c.reserve.ensures.root }) _ c.ask-outcome.result c.args.visited.now c.ask-outcome.new.visited c.target-system.ensures c.ask-outcome.ensures.visited)

pub take-requires : goal.take-requires
take-requires g c =
    subst (λ ps. c.place_of-place.result < length ps) (sym c.keep_outcome.ensures.others.pending) (slice_get_within c.reserve-2.new.self.pending c.place_of-place.result c.args.node c.place_of-place.ensures)

pub invariant_of-self-2 : goal.invariant_of-self-2
invariant_of-self-2 g c =
    (over_all _ c.in-Level.level c.self.invariant c.in-Level.is c.args.node (subst (λ (v : PassView). In c.args.node v.pending) (sym c.self.view_is) c.requires.pending) c.reserve.new.self (record { now = c.reserve.ensures.now; changes = c.reserve.ensures.changes; root = c.reserve.ensures.root }) c.reserve.ensures.others.live
    c.ask-outcome.new.store c.keep_outcome.new.forest c.keep_outcome.new.store c.keep_outcome.new.readers.reads c.keep_outcome.new.readers.is_listed c.reserve-2.new.self c.keep_outcome.new.work
    (record { faults = c.reserve-2.ensures.faults; renewed = c.reserve-2.ensures.renewed; born = c.reserve-2.ensures.born; first_renewed = c.keep_outcome.ensures.others.first_renewed ∙ c.reserve-2.ensures.others.first_renewed; dropped = ap (λ d. d.items) (c.keep_outcome.ensures.others.dropped ∙ c.reserve-2.ensures.others.dropped); moved = ap (λ d. d.items) (c.keep_outcome.ensures.others.moved ∙ c.reserve-2.ensures.others.moved); front = c.keep_outcome.ensures.others.front ∙ c.reserve-2.ensures.others.front })
    c.is_none-is_born.result (born_is _ c.answer_of-old.result _ _ _ _ c.is_none-is_born.ensures c.answer_of-old.ensures c.reserve.ensures.now) c.take.new.self _ c.ask-outcome.result
    (replied _ c.in-Level.level c.self.invariant c.in-Level.is c.args.node (subst (λ (v : PassView). In c.args.node v.pending) (sym c.self.view_is) c.requires.pending) c.reserve.new.self (record { now = c.reserve.ensures.now; changes = c.reserve.ensures.changes; root = c.reserve.ensures.root }) _ c.ask-outcome.new.store _ c.ask-outcome.result c.target-system.ensures c.answer_of-old.ensures c.ask-outcome.ensures.answered c.ask-outcome.ensures.store)
    (c.take.ensures ∙ ap (λ ps. remove ps c.place_of-place.result) (c.keep_outcome.ensures.others.pending ∙ c.reserve-2.ensures.others.pending) ∙ taken_off _ c.in-Level.level c.self.invariant c.in-Level.is c.args.node (subst (λ (v : PassView). In c.args.node v.pending) (sym c.self.view_is) c.requires.pending) c.place_of-place.result (here_among _ _ _ _ c.place_of-place.ensures (c.reserve-2.ensures.others.pending)))
    c.in_ok-keep_outcome.ensures.kept).pass

pub returns-clause-steps : goal.returns-clause-steps
returns-clause-steps g c =
    steps_at _ _ _ c.args.node c.self.view_is
    (over_all _ c.in-Level.level c.self.invariant c.in-Level.is c.args.node (subst (λ (v : PassView). In c.args.node v.pending) (sym c.self.view_is) c.requires.pending) c.reserve.new.self (record { now = c.reserve.ensures.now; changes = c.reserve.ensures.changes; root = c.reserve.ensures.root }) c.reserve.ensures.others.live
    c.ask-outcome.new.store c.keep_outcome.new.forest c.keep_outcome.new.store c.keep_outcome.new.readers.reads c.keep_outcome.new.readers.is_listed c.reserve-2.new.self c.keep_outcome.new.work
    (record { faults = c.reserve-2.ensures.faults; renewed = c.reserve-2.ensures.renewed; born = c.reserve-2.ensures.born; first_renewed = c.keep_outcome.ensures.others.first_renewed ∙ c.reserve-2.ensures.others.first_renewed; dropped = ap (λ d. d.items) (c.keep_outcome.ensures.others.dropped ∙ c.reserve-2.ensures.others.dropped); moved = ap (λ d. d.items) (c.keep_outcome.ensures.others.moved ∙ c.reserve-2.ensures.others.moved); front = c.keep_outcome.ensures.others.front ∙ c.reserve-2.ensures.others.front })
    c.is_none-is_born.result (born_is _ c.answer_of-old.result _ _ _ _ c.is_none-is_born.ensures c.answer_of-old.ensures c.reserve.ensures.now) c.take.new.self _ c.ask-outcome.result
    (replied _ c.in-Level.level c.self.invariant c.in-Level.is c.args.node (subst (λ (v : PassView). In c.args.node v.pending) (sym c.self.view_is) c.requires.pending) c.reserve.new.self (record { now = c.reserve.ensures.now; changes = c.reserve.ensures.changes; root = c.reserve.ensures.root }) _ c.ask-outcome.new.store _ c.ask-outcome.result c.target-system.ensures c.answer_of-old.ensures c.ask-outcome.ensures.answered c.ask-outcome.ensures.store)
    (c.take.ensures ∙ ap (λ ps. remove ps c.place_of-place.result) (c.keep_outcome.ensures.others.pending ∙ c.reserve-2.ensures.others.pending) ∙ taken_off _ c.in-Level.level c.self.invariant c.in-Level.is c.args.node (subst (λ (v : PassView). In c.args.node v.pending) (sym c.self.view_is) c.requires.pending) c.place_of-place.result (here_among _ _ _ _ c.place_of-place.ensures (c.reserve-2.ensures.others.pending)))
    c.in_ok-keep_outcome.ensures.kept).steps

pub returns-clause-renewed : goal.returns-clause-renewed
returns-clause-renewed g c =
    asks_renewed c.args.node c.is_none-is_born.result _ _ c.args.self.now.renewed c.ask-outcome.result c.args.asked.now c.ask-outcome.new.asked c.in_ok-keep_outcome.ensures.kept
    (c.reserve-2.ensures.renewed ∙ ap (λ (v : PassView). v.renewed) c.self.view_is) c.ask-outcome.ensures.asked

pub returns-clause-moves : goal.returns-clause-moves
returns-clause-moves g c =
    moves_at _ _ c.args.node c.args.asked.now c.ask-outcome.new.asked c.args.visited.now c.ask-outcome.new.visited c.self.view_is
    (moves_once _ c.in-Level.level c.self.invariant c.in-Level.is c.args.node (subst (λ (v : PassView). In c.args.node v.pending) (sym c.self.view_is) c.requires.pending) c.reserve.new.self (record { now = c.reserve.ensures.now; changes = c.reserve.ensures.changes; root = c.reserve.ensures.root }) c.ask-outcome.new.store c.args.asked.now c.ask-outcome.new.asked c.args.visited.now c.ask-outcome.new.visited c.is_none-is_born.result _ _ c.ask-outcome.result
    (replied _ c.in-Level.level c.self.invariant c.in-Level.is c.args.node (subst (λ (v : PassView). In c.args.node v.pending) (sym c.self.view_is) c.requires.pending) c.reserve.new.self (record { now = c.reserve.ensures.now; changes = c.reserve.ensures.changes; root = c.reserve.ensures.root }) _ c.ask-outcome.new.store _ c.ask-outcome.result c.target-system.ensures c.answer_of-old.ensures c.ask-outcome.ensures.answered c.ask-outcome.ensures.store)
    c.in_ok-keep_outcome.ensures.kept c.ask-outcome.ensures.asked
    (counted _ c.in-Level.level c.self.invariant c.in-Level.is c.args.node (subst (λ (v : PassView). In c.args.node v.pending) (sym c.self.view_is) c.requires.pending) c.reserve.new.self (record { now = c.reserve.ensures.now; changes = c.reserve.ensures.changes; root = c.reserve.ensures.root }) _ c.ask-outcome.result c.args.visited.now c.ask-outcome.new.visited c.target-system.ensures c.ask-outcome.ensures.visited))

pub returns-clause-few_read : goal.returns-clause-few_read
returns-clause-few_read g c =
    few_read _ c.in-Level.level c.self.invariant c.in-Level.is c.args.node (subst (λ (v : PassView). In c.args.node v.pending) (sym c.self.view_is) c.requires.pending) c.reserve.new.self (record { now = c.reserve.ensures.now; changes = c.reserve.ensures.changes; root = c.reserve.ensures.root }) c.ask-outcome.result c.args.visited.now c.ask-outcome.new.visited
    (counted _ c.in-Level.level c.self.invariant c.in-Level.is c.args.node (subst (λ (v : PassView). In c.args.node v.pending) (sym c.self.view_is) c.requires.pending) c.reserve.new.self (record { now = c.reserve.ensures.now; changes = c.reserve.ensures.changes; root = c.reserve.ensures.root }) _ c.ask-outcome.result c.args.visited.now c.ask-outcome.new.visited c.target-system.ensures c.ask-outcome.ensures.visited)

pub invariant_of-self : goal.invariant_of-self
invariant_of-self g c =
    roomy_pass _ c.in-Level.level c.self.invariant c.in-Level.is c.reserve.new.self (record { now = c.reserve.ensures.now; changes = c.reserve.ensures.changes; root = c.reserve.ensures.root }) c.reserve.ensures.others.live c.self.inside.work _
    (record { faults = refl; renewed = refl; born = refl; first_renewed = refl; dropped = refl; moved = refl; front = refl }) refl

pub invariant_of-self-in_err-reserve-2 : goal.invariant_of-self-in_err-reserve-2
invariant_of-self-in_err-reserve-2 g c =
    roomy_pass _ c.in-Level.level c.self.invariant c.in-Level.is c.reserve.new.self (record { now = c.reserve.ensures.now; changes = c.reserve.ensures.changes; root = c.reserve.ensures.root }) c.reserve.ensures.others.live c.reserve-2.new.self _
    (record { faults = c.reserve-2.ensures.faults; renewed = c.reserve-2.ensures.renewed; born = c.reserve-2.ensures.born; first_renewed = c.reserve-2.ensures.others.first_renewed; dropped = ap (λ d. d.items) c.reserve-2.ensures.others.dropped; moved = ap (λ d. d.items) c.reserve-2.ensures.others.moved; front = c.reserve-2.ensures.others.front })
    c.reserve-2.ensures.others.pending

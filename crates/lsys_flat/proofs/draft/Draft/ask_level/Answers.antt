use Rattle.std.proofs.Common.{arith, rules, ◌≡◌, ◌+◌, Err, map, refl, sym, subst}
use Rattle.std.proofs.lemmas.Grind.{common_steps}
use Rattle.lsys_level.specs.Spots.{spots_at}
use Rattle.lsys_flat.specs.Answers.{at_level, lists_of}
use Rattle.lsys_flat.specs.Lines.{line_of}
use Rattle.lsys_flat.specs.Rounds.{CanAsk}
use Rattle.lsys_flat.specs.Drafts.{Drafted}
use Rattle.lsys_flat.proofs.DraftingAnswers.{level_made}
use Rattle.lsys_flat.proofs.DraftingNext.{can_ask}
use Rattle.lsys_flat.proofs.DraftingSteps.{add_refused, asked_is, asked_of, done_can_add, done_refused, few_is, found_next, going, new_is, olds_few}
use Rattle.lsys_flat.proofs.draft.Draft.ask_level.Goals as goal

pub ask-done-requires-clause-level : goal.ask-done-requires-clause-level
ask-done-requires-clause-level g c =
    let q = c.requires.1 in
    subst (λ (d : Drafted). CanAsk c.args.system.now (spots_at d.revised.view c.args.level) d.revised.mates) (sym c.in_ok-open.ensures.opened)
    (can_ask c.args.system.now c.requires.0 q.xs (map line_of c.args.olds.now.ancestries.now) (lists_of c.args.olds.now.answers.now) q.begin c.args.store.now q.before c.args.visited.now c.args.level c.args.self.now q.draft q.well q.olds.small)

pub ask-done-requires-clause-made : goal.ask-done-requires-clause-made
ask-done-requires-clause-made g c = level_made c.args.store.now (lists_of c.args.olds.now.answers.now) c.args.level c.requires.1.olds.made

pub returns-in_err-done-clause-refused : goal.returns-in_err-done-clause-refused
returns-in_err-done-clause-refused g c = λ limit xs begin before h.
    let goes : c.from_residual-in_err-done.result ≡ Err c.in_err-done.field-0.0 = search rules in
    rw goes (done_refused c.args.system.now limit (lists_of c.args.olds.now.answers.now) c.args.store.now c.ask-done.new.store c.args.visited.now c.ask-done.new.visited c.args.asked.now c.ask-done.new.asked c.args.level c.args.self.now c.ask-done.new.self c.ask-done.result.0 c.ask-done.result.1
    (asked_of c.args.system.now c.args.level (at_level (lists_of c.args.olds.now.answers.now) c.args.level) c.args.store.now c.ask-done.new.store c.args.visited.now c.ask-done.new.visited c.args.asked.now c.ask-done.new.asked c.args.self.now c.open.new.self c.ask-done.new.self c.ask-done.result.0 c.ask-done.result.1 c.in_ok-open.ensures.opened c.ask-done.ensures)
    xs (map line_of c.args.olds.now.ancestries.now) begin before h c.in_err-done.field-0.0 c.in_err-done.was c.requires.1.below)

pub returns-in_err-done-clause-new : goal.returns-in_err-done-clause-new
returns-in_err-done-clause-new g c = λ begin h.
    new_is c.args.system.now c.requires.0 (lists_of c.args.olds.now.answers.now) c.args.store.now c.ask-done.new.store c.args.visited.now c.ask-done.new.visited c.args.asked.now c.ask-done.new.asked c.args.level c.args.self.now c.ask-done.new.self c.ask-done.result.0 c.ask-done.result.1
    (asked_of c.args.system.now c.args.level (at_level (lists_of c.args.olds.now.answers.now) c.args.level) c.args.store.now c.ask-done.new.store c.args.visited.now c.ask-done.new.visited c.args.asked.now c.ask-done.new.asked c.args.self.now c.open.new.self c.ask-done.new.self c.ask-done.result.0 c.ask-done.result.1 c.in_ok-open.ensures.opened c.ask-done.ensures)
    begin c.requires.1.found.each_fresh h

pub returns-in_err-done-clause-asked : goal.returns-in_err-done-clause-asked
returns-in_err-done-clause-asked g c =
    asked_is c.args.system.now c.requires.0 (lists_of c.args.olds.now.answers.now) c.args.store.now c.ask-done.new.store c.args.visited.now c.ask-done.new.visited c.args.asked.now c.ask-done.new.asked c.args.level c.args.self.now c.ask-done.new.self c.ask-done.result.0 c.ask-done.result.1
    (asked_of c.args.system.now c.args.level (at_level (lists_of c.args.olds.now.answers.now) c.args.level) c.args.store.now c.ask-done.new.store c.args.visited.now c.ask-done.new.visited c.args.asked.now c.ask-done.new.asked c.args.self.now c.open.new.self c.ask-done.new.self c.ask-done.result.0 c.ask-done.result.1 c.in_ok-open.ensures.opened c.ask-done.ensures)
    c.requires.1.found.each_fresh

pub returns-in_err-done-clause-few : goal.returns-in_err-done-clause-few
returns-in_err-done-clause-few g c = λ limit xs begin before h.
    few_is c.args.system.now limit (lists_of c.args.olds.now.answers.now) c.args.store.now c.ask-done.new.store c.args.visited.now c.ask-done.new.visited c.args.asked.now c.ask-done.new.asked c.args.level c.args.self.now c.ask-done.new.self c.ask-done.result.0 c.ask-done.result.1
    (asked_of c.args.system.now c.args.level (at_level (lists_of c.args.olds.now.answers.now) c.args.level) c.args.store.now c.ask-done.new.store c.args.visited.now c.ask-done.new.visited c.args.asked.now c.ask-done.new.asked c.args.self.now c.open.new.self c.ask-done.new.self c.ask-done.result.0 c.ask-done.result.1 c.in_ok-open.ensures.opened c.ask-done.ensures)
    xs (map line_of c.args.olds.now.ancestries.now) begin before h c.requires.1.found.each_fresh

pub add_level-requires : goal.add_level-requires
add_level-requires g c =
    let q = c.requires.1 in
    done_can_add c.args.system.now c.requires.0 (lists_of c.args.olds.now.answers.now) c.args.store.now c.ask-done.new.store c.args.visited.now c.ask-done.new.visited c.args.asked.now c.ask-done.new.asked c.args.level c.args.self.now c.ask-done.new.self c.ask-done.result.0 c.ask-done.result.1
    (asked_of c.args.system.now c.args.level (at_level (lists_of c.args.olds.now.answers.now) c.args.level) c.args.store.now c.ask-done.new.store c.args.visited.now c.ask-done.new.visited c.args.asked.now c.ask-done.new.asked c.args.self.now c.open.new.self c.ask-done.new.self c.ask-done.result.0 c.ask-done.result.1 c.in_ok-open.ensures.opened c.ask-done.ensures)
    q.xs (map line_of c.args.olds.now.ancestries.now) q.begin q.before q.draft c.in_ok-done.field-0 c.in_ok-done.was q.well (olds_few c.requires.0 q.xs (map line_of c.args.olds.now.ancestries.now) (lists_of c.args.olds.now.answers.now) c.args.store.now q.olds) q.olds.small

pub returns-clause-going : goal.returns-clause-going
returns-clause-going g c = λ limit xs begin before olds new h.
    let q = c.requires.1 in
    going c.args.system.now limit (lists_of c.args.olds.now.answers.now) c.args.store.now c.ask-done.new.store c.args.visited.now c.ask-done.new.visited c.args.asked.now c.ask-done.new.asked c.args.level c.args.self.now c.ask-done.new.self c.ask-done.result.0 c.ask-done.result.1
    (asked_of c.args.system.now c.args.level (at_level (lists_of c.args.olds.now.answers.now) c.args.level) c.args.store.now c.ask-done.new.store c.args.visited.now c.ask-done.new.visited c.args.asked.now c.ask-done.new.asked c.args.self.now c.open.new.self c.ask-done.new.self c.ask-done.result.0 c.ask-done.result.1 c.in_ok-open.ensures.opened c.ask-done.ensures)
    xs (map line_of c.args.olds.now.ancestries.now) begin before h c.in_ok-done.field-0 c.in_ok-done.was (c.args.level + 1) c.add_level.new.self c.add_level.result c.add_level.ensures.added q.well (olds_few limit xs (map line_of c.args.olds.now.ancestries.now) (lists_of c.args.olds.now.answers.now) begin olds) olds.small q.found.each_fresh q.found.each_taken new
    olds.made

pub returns-clause-refused : goal.returns-clause-refused
returns-clause-refused g c = λ limit xs begin before h.
    add_refused c.args.system.now limit (lists_of c.args.olds.now.answers.now) c.args.store.now c.ask-done.new.store c.args.visited.now c.ask-done.new.visited c.args.asked.now c.ask-done.new.asked c.args.level c.args.self.now c.ask-done.new.self c.ask-done.result.0 c.ask-done.result.1
    (asked_of c.args.system.now c.args.level (at_level (lists_of c.args.olds.now.answers.now) c.args.level) c.args.store.now c.ask-done.new.store c.args.visited.now c.ask-done.new.visited c.args.asked.now c.ask-done.new.asked c.args.self.now c.open.new.self c.ask-done.new.self c.ask-done.result.0 c.ask-done.result.1 c.in_ok-open.ensures.opened c.ask-done.ensures)
    xs (map line_of c.args.olds.now.ancestries.now) begin before h c.in_ok-done.field-0 c.in_ok-done.was (c.args.level + 1) c.add_level.new.self c.add_level.result refl c.requires.1.below c.add_level.ensures.added

pub returns-clause-found : goal.returns-clause-found
returns-clause-found g c =
    found_next c.args.system.now c.requires.0 (lists_of c.args.olds.now.answers.now) c.args.store.now c.ask-done.new.store c.args.visited.now c.ask-done.new.visited c.args.asked.now c.ask-done.new.asked c.args.level c.args.self.now c.ask-done.new.self c.ask-done.result.0 c.ask-done.result.1
    (asked_of c.args.system.now c.args.level (at_level (lists_of c.args.olds.now.answers.now) c.args.level) c.args.store.now c.ask-done.new.store c.args.visited.now c.ask-done.new.visited c.args.asked.now c.ask-done.new.asked c.args.self.now c.open.new.self c.ask-done.new.self c.ask-done.result.0 c.ask-done.result.1 c.in_ok-open.ensures.opened c.ask-done.ensures)
    c.in_ok-done.field-0 (c.args.level + 1) c.add_level.new.self c.add_level.result c.in_ok-done.was c.add_level.ensures.added c.requires.1.found

pub returns-clause-new : goal.returns-clause-new
returns-clause-new g c = λ begin h.
    rw c.add_level.ensures.fresh
    (new_is c.args.system.now c.requires.0 (lists_of c.args.olds.now.answers.now) c.args.store.now c.ask-done.new.store c.args.visited.now c.ask-done.new.visited c.args.asked.now c.ask-done.new.asked c.args.level c.args.self.now c.ask-done.new.self c.ask-done.result.0 c.ask-done.result.1
    (asked_of c.args.system.now c.args.level (at_level (lists_of c.args.olds.now.answers.now) c.args.level) c.args.store.now c.ask-done.new.store c.args.visited.now c.ask-done.new.visited c.args.asked.now c.ask-done.new.asked c.args.self.now c.open.new.self c.ask-done.new.self c.ask-done.result.0 c.ask-done.result.1 c.in_ok-open.ensures.opened c.ask-done.ensures)
    begin c.requires.1.found.each_fresh h)

pub returns-clause-asked : goal.returns-clause-asked
returns-clause-asked g c =
    rw c.add_level.ensures.fresh
    (asked_is c.args.system.now c.requires.0 (lists_of c.args.olds.now.answers.now) c.args.store.now c.ask-done.new.store c.args.visited.now c.ask-done.new.visited c.args.asked.now c.ask-done.new.asked c.args.level c.args.self.now c.ask-done.new.self c.ask-done.result.0 c.ask-done.result.1
    (asked_of c.args.system.now c.args.level (at_level (lists_of c.args.olds.now.answers.now) c.args.level) c.args.store.now c.ask-done.new.store c.args.visited.now c.ask-done.new.visited c.args.asked.now c.ask-done.new.asked c.args.self.now c.open.new.self c.ask-done.new.self c.ask-done.result.0 c.ask-done.result.1 c.in_ok-open.ensures.opened c.ask-done.ensures)
    c.requires.1.found.each_fresh)

pub returns-clause-few : goal.returns-clause-few
returns-clause-few g c = λ limit xs begin before h.
    rw c.add_level.ensures.fresh
    (few_is c.args.system.now limit (lists_of c.args.olds.now.answers.now) c.args.store.now c.ask-done.new.store c.args.visited.now c.ask-done.new.visited c.args.asked.now c.ask-done.new.asked c.args.level c.args.self.now c.ask-done.new.self c.ask-done.result.0 c.ask-done.result.1
    (asked_of c.args.system.now c.args.level (at_level (lists_of c.args.olds.now.answers.now) c.args.level) c.args.store.now c.ask-done.new.store c.args.visited.now c.ask-done.new.visited c.args.asked.now c.ask-done.new.asked c.args.self.now c.open.new.self c.ask-done.new.self c.ask-done.result.0 c.ask-done.result.1 c.in_ok-open.ensures.opened c.ask-done.ensures)
    xs (map line_of c.args.olds.now.ancestries.now) begin before h c.requires.1.found.each_fresh)

pub ask-done-requires-clause-fresh : goal.ask-done-requires-clause-fresh
ask-done-requires-clause-fresh g c = grind (arith, common_steps)

pub ask-done-requires-clause-taken : goal.ask-done-requires-clause-taken
ask-done-requires-clause-taken g c = grind (arith, common_steps)

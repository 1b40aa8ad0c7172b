use Rattle.std.proofs.Common.{◌≡◌, ℕ, List, length, ap, sym, subst}
use Rattle.std.specs.Prelude.{option_map, IfNone, IfSome}
use Rattle.lsys_spec.specs.Meaning.{replacement}
use Rattle.lsys_spec.specs.Levels.{ModuleValue}
use Rattle.lsys_level.specs.Spots.{spots_at, level_by}
use Rattle.lsys_match.specs.Answered.{CountsEntries}
use Rattle.lsys_match.specs.Asking.{AskedLevel, HasQuestion}
use Rattle.lsys_match.specs.Asks.{IsAnswered, IsNamedAt, asked_if_any, by_definition}
use Rattle.lsys_match.specs.declared.asked.Asked.{Asked}
use Rattle.lsys_laws.specs.KeptQuestions.{question_here}
use Rattle.lsys_flat.specs.Replaced.{IsAsked, IsRecalled, IsReplaced}
use Rattle.lsys_flat.proofs.Replacing.{recalled_as, replaced_as, visited_as}
use Rattle.lsys_flat.proofs.asking.ask_at.Goals as goal

pub returns-clause-replaced : goal.returns-clause-replaced
returns-clause-replaced g c naming a h =
    let b = c.args.beside.now in
    let levels = b.view.now in
    let old = option_map (λ a. a.now) c.args.old in
    let none = subst (λ (k : AskedLevel). IfNone (asked_if_any {L = g.row.L.Denot} c.ask.result) (HasQuestion k.system k.level (spots_at levels k.level) c.args.place → ⊥)) c.requires.asker c.ask.ensures.none in
    let some = subst (λ (k : AskedLevel). IfSome (asked_if_any {L = g.row.L.Denot} c.ask.result) (λ _. HasQuestion k.system k.level (spots_at levels k.level) c.args.place)) c.requires.asker c.ask.ensures.some in
    let told = subst
    (λ (k : AskedLevel). (naming : ℕ → List ℕ) (tag : ℕ) (m : ModuleValue) → IsNamedAt naming k.system.seed (spots_at levels k.level) c.args.place tag m
    → IfSome (asked_if_any {L = g.row.L.Denot} c.ask.result) (IsAnswered {L = g.row.L.Denot} naming (by_definition k.system k.level (level_by naming (spots_at levels k.level)) c.args.place (naming tag) m) c.ask.new.store old))
    c.requires.asker c.ask.ensures.answered in
    subst (IsReplaced {L = g.row.L.Denot} (replacement b.system.now b.level (level_by naming (spots_at levels b.level)) c.args.place a) a old) (sym c.found.ensures)
    (replaced_as naming b.system.now b.level (spots_at levels b.level) c.args.place a h c.ask.new.store old c.ask.result none some (told naming))

pub returns-clause-answered : goal.returns-clause-answered
returns-clause-answered g c naming tag m h =
    let b = c.args.beside.now in
    let levels = b.view.now in
    let old = option_map (λ a. a.now) c.args.old in
    let told = subst
    (λ (k : AskedLevel). (naming : ℕ → List ℕ) (tag : ℕ) (m : ModuleValue) → IsNamedAt naming k.system.seed (spots_at levels k.level) c.args.place tag m
    → IfSome (asked_if_any {L = g.row.L.Denot} c.ask.result) (IsAnswered {L = g.row.L.Denot} naming (by_definition k.system k.level (level_by naming (spots_at levels k.level)) c.args.place (naming tag) m) c.ask.new.store old))
    c.requires.asker c.ask.ensures.answered in
    let d = by_definition b.system.now b.level (level_by naming (spots_at levels b.level)) c.args.place (naming tag) m in
    subst (IsRecalled {L = g.row.L.Denot} naming d c.ask.new.store old) (sym c.found.ensures) (recalled_as naming d c.ask.new.store old c.ask.result (told naming tag m h))

pub returns-clause-visited : goal.returns-clause-visited
returns-clause-visited g c naming a h =
    let b = c.args.beside.now in
    let levels = b.view.now in
    let none = subst (λ (k : AskedLevel). IfNone (asked_if_any {L = g.row.L.Denot} c.ask.result) (HasQuestion k.system k.level (spots_at levels k.level) c.args.place → ⊥)) c.requires.asker c.ask.ensures.none in
    let some = subst (λ (k : AskedLevel). IfSome (asked_if_any {L = g.row.L.Denot} c.ask.result) (λ _. HasQuestion k.system k.level (spots_at levels k.level) c.args.place)) c.requires.asker c.ask.ensures.some in
    let told = subst
    (λ (k : AskedLevel). (naming : ℕ → List ℕ) (tag : ℕ) (m : ModuleValue) → IsNamedAt naming k.system.seed (spots_at levels k.level) c.args.place tag m
    → IfSome (asked_if_any {L = g.row.L.Denot} c.ask.result) (CountsEntries {T = Asked g.row.L.Denot} (length (by_definition k.system k.level (level_by naming (spots_at levels k.level)) c.args.place (naming tag) m).question.trace) c.args.visited.now c.ask.new.visited))
    c.requires.asker c.ask.ensures.visited in
    subst (IsAsked {L = g.row.L.Denot} (question_here b.system.now b.level (level_by naming (spots_at levels b.level)) c.args.place a) c.args.visited.now c.ask.new.visited) (sym c.found.ensures)
    (visited_as naming b.system.now b.level (spots_at levels b.level) c.args.place a h c.args.visited.now c.ask.new.visited c.ask.result none some c.ask.ensures.unread (told naming))

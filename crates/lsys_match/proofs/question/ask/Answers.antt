use Rattle.std.proofs.Common.{rules, ◌≡◌, ℕ, List, length, Option, Some, Ok, Err, subst}
use Rattle.std.specs.Prelude.{option_map, IfSome}
use Rattle.lsys_spec.specs.Levels.{ModuleValue}
use Rattle.lsys_level.specs.Spots.{spots_at, level_by}
use Rattle.lsys_match.specs.Answered.{CountsEntries}
use Rattle.lsys_match.specs.Asking.{AskedLevel}
use Rattle.lsys_match.specs.Asks.{IsAnswered, IsNamedAt, asked_if_any, by_definition}
use Rattle.lsys_match.specs.declared.asked.Asked.{Asked}
use Rattle.lsys_match.proofs.question.ask.Goals as goal

pub returns-in-Ok-Some-clause-answered : goal.returns-in-Ok-Some-clause-answered
returns-in-Ok-Some-clause-answered g c =
    let levels = g.W.LevelView.levels c.args.view.now in
    let p = g.W.LevelView.place_of c.args.view.now c.args.spot in
    let some : c.in-Ok-Some.field-0 ≡ Some c.in-Ok-Some.answer = search rules in
    let Goal : AskedLevel → Option (Asked g.row.L.Denot) → Type 0 = (λ k o. (naming : ℕ → List ℕ) (tag : ℕ) (m : ModuleValue) → IsNamedAt naming k.system.seed (spots_at levels k.level) p tag m
    → IfSome (asked_if_any {L = g.row.L.Denot} (Ok o)) (IsAnswered {L = g.row.L.Denot} naming (by_definition k.system k.level (level_by naming (spots_at levels k.level)) p (naming tag) m) c.ask.new.store (option_map (λ a. a.now) c.args.old))) in
    subst (λ k. Goal k (Some c.in-Ok-Some.answer)) c.new-asker.ensures (subst (Goal c.new-asker.result) some c.in-Ok-Some.ensures.answered)

pub returns-in-Ok-Some-clause-visited : goal.returns-in-Ok-Some-clause-visited
returns-in-Ok-Some-clause-visited g c =
    let levels = g.W.LevelView.levels c.args.view.now in
    let p = g.W.LevelView.place_of c.args.view.now c.args.spot in
    let some : c.in-Ok-Some.field-0 ≡ Some c.in-Ok-Some.answer = search rules in
    let Goal : AskedLevel → Option (Asked g.row.L.Denot) → Type 0 = (λ k o. (naming : ℕ → List ℕ) (tag : ℕ) (m : ModuleValue) → IsNamedAt naming k.system.seed (spots_at levels k.level) p tag m
    → IfSome (asked_if_any {L = g.row.L.Denot} (Ok o)) (CountsEntries {T = Asked g.row.L.Denot} (length (by_definition k.system k.level (level_by naming (spots_at levels k.level)) p (naming tag) m).question.trace) c.args.visited.now c.ask.new.visited)) in
    subst (λ k. Goal k (Some c.in-Ok-Some.answer)) c.new-asker.ensures (subst (Goal c.new-asker.result) some c.in-Ok-Some.ensures.visited)

pub returns-clause-answered : goal.returns-clause-answered
returns-clause-answered g c =
    let levels = g.W.LevelView.levels c.args.view.now in
    let p = g.W.LevelView.place_of c.args.view.now c.args.spot in
    subst
    (λ (k : AskedLevel). (naming : ℕ → List ℕ) (tag : ℕ) (m : ModuleValue) → IsNamedAt naming k.system.seed (spots_at levels k.level) p tag m
    → IsAnswered {L = g.row.L.Denot} naming (by_definition k.system k.level (level_by naming (spots_at levels k.level)) p (naming tag) m) c.ask.new.store (option_map (λ a. a.now) c.args.old) (Err c.in-Err.refusal))
    c.new-asker.ensures c.in-Err.ensures.answered

pub returns-clause-visited : goal.returns-clause-visited
returns-clause-visited g c =
    let levels = g.W.LevelView.levels c.args.view.now in
    let p = g.W.LevelView.place_of c.args.view.now c.args.spot in
    subst
    (λ (k : AskedLevel). (naming : ℕ → List ℕ) (tag : ℕ) (m : ModuleValue) → IsNamedAt naming k.system.seed (spots_at levels k.level) p tag m
    → CountsEntries {T = Asked g.row.L.Denot} (length (by_definition k.system k.level (level_by naming (spots_at levels k.level)) p (naming tag) m).question.trace) c.args.visited.now c.ask.new.visited (Err c.in-Err.refusal))
    c.new-asker.ensures c.in-Err.ensures.visited

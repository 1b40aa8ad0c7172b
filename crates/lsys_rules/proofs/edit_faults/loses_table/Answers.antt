use Rattle.std.proofs.Common.{◌≡◌, ◌∙◌, ◌||◌, ◌+◌, Bool, List, ℕ, not, true, false, ap, sym, drop, map}
use Rattle.lsys_spec.specs.Systems.{any, is_table, tables}
use Rattle.lsys_spec.specs.Edits.{without_rule}
use Rattle.lsys_bodies.specs.Views.{as_production}
use Rattle.lsys_rules.proofs.Kept.{table_left}
use Rattle.lsys_rules.proofs.Searches.{any_at}
use Rattle.lsys_rules.proofs.edit_faults.loses_table.Goals as goal

pub returns-then-is_lost : goal.returns-then-is_lost
returns-then-is_lost c =
    let rules = map as_production c.args.rules.now in
    let lost : List ℕ → Bool = λ w. not (is_table (tables (without_rule c.args.label rules)) w) in
    let word = c.word-item.result in
    let rest = any lost (drop (c.loop-word.word-index + 1) c.args.words.now) in
    let this : lost word ≡ true = ap not (sym (table_left c.args.label word rules c.requires)) ∙ sym c.is_lost.ensures ∙ c.if-is_lost.true in
    sym (ap (λ b. b || rest) this) ∙ sym (any_at lost c.args.words.now c.loop-word.word-index word c.loop-word-test.true c.word-item.is) ∙ c.loop-word.invariant.rest

pub loop-word-preserved : goal.loop-word-preserved
loop-word-preserved c =
    let rules = map as_production c.args.rules.now in
    let lost : List ℕ → Bool = λ w. not (is_table (tables (without_rule c.args.label rules)) w) in
    let word = c.word-item.result in
    let rest = any lost (drop (c.loop-word.word-index + 1) c.args.words.now) in
    let this : lost word ≡ false = ap not (sym (table_left c.args.label word rules c.requires)) ∙ sym c.is_lost.ensures ∙ c.if-is_lost.false in
    record { rest = sym (ap (λ b. b || rest) this) ∙ sym (any_at lost c.args.words.now c.loop-word.word-index word c.loop-word-test.true c.word-item.is) ∙ c.loop-word.invariant.rest }

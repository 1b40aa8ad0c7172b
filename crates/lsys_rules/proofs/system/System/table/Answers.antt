use Rattle.std.proofs.Math.Nat.{mod-lt}
use Rattle.std.proofs.Common.{◌≡◌, ◌<◌, ◌%◌, length, ap, sym, subst, ◌∙◌, rules}
use Rattle.lsys_spec.specs.Bodies.{table_at, word_at}
use Rattle.lsys_rules.specs.declared.parts.SystemParts.{SystemParts}
use Rattle.lsys_rules.proofs.Grouping.{word_there}
use Rattle.lsys_rules.proofs.system.System.table.Goals as goal

pub returns : goal.returns
returns c =
    let level = c.args.level in
    let ws = c.deref.result.now.schedule.items in
    let count : c.len-2.result ≡ length ws = search rules in
    let some : 0 < length ws = subst (λ (p : SystemParts). 0 < length p.schedule.items) (sym c.deref.ensures) c.self.invariant.0.some_word in
    let within : level % c.len-2.result < length ws = rw count (mod-lt level some) in
    word_there ws (level % c.len-2.result) c.index-2.result.now within c.index-2.ensures ∙ ap (λ n. word_at ws (level % n)) count
    ∙ ap (λ (p : SystemParts). table_at p.schedule.items level) c.deref.ensures ∙ ap (λ s. table_at s.schedule level) c.self.view_is

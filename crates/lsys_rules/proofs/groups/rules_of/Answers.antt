use Rattle.std.proofs.Common.{◌≡◌, rules, refl, ◌++◌, ◌∷◌, [], subst, true, false}
use Rattle.std.proofs.lemmas.List.{take_all}
use Rattle.lsys_rules.specs.Groups.{IsGroup, same_key, with_rule}
use Rattle.lsys_rules.proofs.Grouping.{group_step}
use Rattle.lsys_rules.proofs.groups.rules_of.Goals.{then-eq+in_ok-clone+in_ok-push, else-eq}
use Rattle.lsys_rules.proofs.groups.rules_of.Goals as goal

pub loop-rule-init : goal.loop-rule-init
loop-rule-init c = λ table name arity k h. c.new-found.ensures.items

pub loop-rule-preserved : goal.loop-rule-preserved
loop-rule-preserved c =
    let found = c.loop-rule.found.items in
    let rule = c.rule-item.result in
    let grown : c.if-eq.found.items ≡ with_rule (same_key c.of.result c.args.key) found rule = elim c.if-eq.branch [
      | then-eq+in_ok-clone+in_ok-push w ↦
          let same : w.in_ok-clone.field-0 ≡ rule = search rules in
          let is : same_key c.of.result c.args.key ≡ true = search rules in
          let more : w.push.new.self.items ≡ found ++ rule ∷ [] = subst (λ r. w.push.new.self.items ≡ found ++ r ∷ []) same w.in_ok-push.ensures.items in
          rw (w.found-is, is) more
      | else-eq w ↦
          let is : same_key c.of.result c.args.key ≡ false = search rules in
          rw (w.found-is, is) refl
    ] in
    group_step c.args.rules.now c.loop-rule.rule-index rule c.of.result c.args.key found c.if-eq.found.items c.loop-rule-test.true c.rule-item.is
    c.of.ensures.table c.of.ensures.name c.of.ensures.arity c.of.ensures.form grown c.loop-rule.invariant

pub returns : goal.returns
returns c = subst (λ rs. IsGroup rs c.args.key c.loop-rule.found.items) (take_all c.loop-rule.rule-index c.args.rules.now c.loop-rule-test.false) c.loop-rule.invariant

use Rattle.std.proofs.Common.{[], true}
use Rattle.lsys_growth.specs.Growth.{module_names, all_rule_names}
use Rattle.lsys_growth.specs.Letters.{letters_in, HasPut}
use Rattle.lsys_growth.proofs.LettersPut.{axiom_put, rules_put, letters_full, rule_letters_full, letters_told, kept, few}
use Rattle.lsys_growth.proofs.letters.letters.Goals as goal

pub returns-then-not-branch : goal.returns-then-not-branch
returns-then-not-branch c =
    let s = c.args.system.now in
    let mid = letters_in c.put_axiom.new.letters in
    letters_full s mid c.in_ok-put_axiom.field-0 c.if-not-branch.true
    (axiom_put s c.new-letters.result.items c.symbols.result.now c.axiom.result.now mid c.in_ok-put_axiom.field-0 c.new-letters.ensures.items c.symbols.ensures.symbols c.axiom.ensures.symbols c.in_ok-put_axiom.ensures)

pub returns-then-not-branch-2 : goal.returns-then-not-branch-2
returns-then-not-branch-2 c =
    let s = c.args.system.now in
    let mid = letters_in c.put_axiom.new.letters in
    let new = letters_in c.put_rules.new.letters in
    let one : HasPut [] (module_names s.axiom_string) mid true = kept [] (module_names s.axiom_string) mid c.in_ok-put_axiom.field-0 c.if-not-branch.false
    (axiom_put s c.new-letters.result.items c.symbols.result.now c.axiom.result.now mid c.in_ok-put_axiom.field-0 c.new-letters.ensures.items c.symbols.ensures.symbols c.axiom.ensures.symbols c.in_ok-put_axiom.ensures) in
    rule_letters_full s mid new c.in_ok-put_rules.field-0 one.0 c.if-not-branch-2.true (rules_put s mid new c.rules.result.now c.in_ok-put_rules.field-0 c.rules.ensures.rules c.in_ok-put_rules.ensures)

pub returns : goal.returns
returns c =
    let s = c.args.system.now in
    let mid = letters_in c.put_axiom.new.letters in
    let new = letters_in c.put_rules.new.letters in
    let one : HasPut [] (module_names s.axiom_string) mid true = kept [] (module_names s.axiom_string) mid c.in_ok-put_axiom.field-0 c.if-not-branch.false
    (axiom_put s c.new-letters.result.items c.symbols.result.now c.axiom.result.now mid c.in_ok-put_axiom.field-0 c.new-letters.ensures.items c.symbols.ensures.symbols c.axiom.ensures.symbols c.in_ok-put_axiom.ensures) in
    let more : HasPut mid (all_rule_names s.rules) new true = kept mid (all_rule_names s.rules) new c.in_ok-put_rules.field-0 c.if-not-branch-2.false
    (rules_put s mid new c.rules.result.now c.in_ok-put_rules.field-0 c.rules.ensures.rules c.in_ok-put_rules.ensures) in
    (letters_told s mid new one.0 more.0, few c.put_rules.new.letters.items more.1)

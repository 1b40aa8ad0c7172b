use Rattle.std.proofs.Common.{◌≡◌, ◌∙◌, ◌+◌, ap, sym, refl, length, nat_lt, [], ◌∷◌, true, false, Bool}
use Rattle.lsys_syntax.specs.Rules.{Production}
use Rattle.lsys_spec.specs.Systems.{System, main, any, is_table, tables, with_table}
use Rattle.lsys_spec.specs.Edits.{put}
use Rattle.lsys_rules.specs.declared.rule_faults.Newcomer.{Newcomer}
use Rattle.lsys_rules.specs.Faults.{IsNewcomer, elsewhere}
use Rattle.lsys_rules.proofs.Kept.{put_tables}
use Rattle.lsys_rules.proofs.rule_faults.number_fault.Goals as goal

many_tables : (s : System) (p : Production) (n : Newcomer) (r : Bool) → IsNewcomer p n → any (elsewhere p) s.rules ≡ false
    → r ≡ nat_lt 16 (length (with_table (is_table (tables s.rules) n.table) (tables s.rules) n.table)) → r ≡ nat_lt 16 (length (tables (put p s.rules)))
many_tables s p n r is free e =
    e ∙ ap (λ t. nat_lt 16 (length (with_table (is_table (tables s.rules) t) (tables s.rules) t))) is.table ∙ ap (λ ts. nat_lt 16 (length ts)) (sym (put_tables p s.rules (main ∷ []) free))

pub returns-then-makes_many_tables : goal.returns-then-makes_many_tables
returns-then-makes_many_tables c = λ p is free.
    let many : true ≡ nat_lt 16 (length (tables (put p c.args.system.now.rules))) = sym c.if-makes_many_tables.true ∙ many_tables c.args.system.now p c.args.newcomer.now c.makes_many_tables.result is free c.makes_many_tables.ensures in
    rw (← many) refl

pub returns-then-makes_many_rules : goal.returns-then-makes_many_rules
returns-then-makes_many_rules c = λ p is free.
    let s = c.args.system.now in
    let few : false ≡ nat_lt 16 (length (tables (put p s.rules))) = sym c.if-makes_many_tables.false ∙ many_tables s p c.args.newcomer.now c.makes_many_tables.result is free c.makes_many_tables.ensures in
    let many : true ≡ nat_lt 256 (length (put p s.rules) + length s.homomorphisms) = sym c.if-makes_many_rules.true ∙ c.makes_many_rules.ensures p is.label in
    rw (← few, ← many) refl

pub returns : goal.returns
returns c = λ p is free.
    let s = c.args.system.now in
    let few : false ≡ nat_lt 16 (length (tables (put p s.rules))) = sym c.if-makes_many_tables.false ∙ many_tables s p c.args.newcomer.now c.makes_many_tables.result is free c.makes_many_tables.ensures in
    let less : false ≡ nat_lt 256 (length (put p s.rules) + length s.homomorphisms) = sym c.if-makes_many_rules.false ∙ c.makes_many_rules.ensures p is.label in
    rw (← few, ← less) refl

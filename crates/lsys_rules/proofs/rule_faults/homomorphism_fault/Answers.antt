use Rattle.std.proofs.Common.{◌≡◌, ◌∙◌, ◌+◌, ap, sym, refl, arith, length, bytes_eq, nat_lt, true, false}
use Rattle.lsys_spec.specs.Systems.{any}
use Rattle.lsys_spec.specs.Edits.{put_hom}
use Rattle.lsys_text.specs.Tokens.{kind_row}
use Rattle.lsys_bodies.specs.Building.{homomorphism_at}
use Rattle.lsys_bodies.proofs.WholeSearch.{rest-room}
use Rattle.lsys_rules.proofs.Chains.{five_pairs, told_first, told_none}
use Rattle.lsys_rules.proofs.rule_faults.homomorphism_fault.Goals as goal

pub own_fault-requires-clause-room : goal.own_fault-requires-clause-room
own_fault-requires-clause-room c =
    let all = rest-room 3 (kind_row c.args.tokens.now) c.args.labeled.now.rule c.args.names.now c.requires.names in
    omega (arith, all, c.requires.room)

pub returns-in-Some : goal.returns-in-Some
returns-in-Some c =
    rw (five_pairs _ _ _ _ _) (told_first c.own_fault.result c.in-Some.fault _ _ (c.own_fault.ensures 3 c.requires.names) c.in-Some.is)

pub returns-then-has_rule : goal.returns-then-has_rule
returns-then-has_rule c =
    let has : true ≡ any (λ q. bytes_eq q.label c.args.labeled.now.label) c.args.system.now.rules =
    sym c.if-has_rule.true ∙ c.has_rule.ensures ∙ ap (any (λ q. bytes_eq q.label c.args.labeled.now.label)) c.rules.ensures.rules in
    rw (five_pairs _ _ _ _ _, ← has) (told_none c.own_fault.result _ _ (c.own_fault.ensures 3 c.requires.names) c.in_default.is)

pub returns-then-makes_many_homs : goal.returns-then-makes_many_homs
returns-then-makes_many_homs c =
    let s = c.args.system.now in
    let h = homomorphism_at (kind_row c.args.tokens.now) c.args.labeled.now in
    let has : false ≡ any (λ q. bytes_eq q.label h.label) s.rules =
    sym c.if-has_rule.false ∙ c.has_rule.ensures ∙ ap (any (λ q. bytes_eq q.label h.label)) c.rules.ensures.rules in
    let many : true ≡ nat_lt 256 (length s.rules + length (put_hom h s.homomorphisms)) = sym c.if-makes_many_homs.true ∙ c.makes_many_homs.ensures h refl in
    rw (five_pairs _ _ _ _ _, ← has, ← many) (told_none c.own_fault.result _ _ (c.own_fault.ensures 3 c.requires.names) c.in_default.is)

pub returns : goal.returns
returns c =
    let s = c.args.system.now in
    let ks = kind_row c.args.tokens.now in
    let h = homomorphism_at ks c.args.labeled.now in
    let has : false ≡ any (λ q. bytes_eq q.label h.label) s.rules =
    sym c.if-has_rule.false ∙ c.has_rule.ensures ∙ ap (any (λ q. bytes_eq q.label h.label)) c.rules.ensures.rules in
    let few : false ≡ nat_lt 256 (length s.rules + length (put_hom h s.homomorphisms)) = sym c.if-makes_many_homs.false ∙ c.makes_many_homs.ensures h refl in
    rw (five_pairs _ _ _ _ _, ← has, ← few) (c.limit_fault.ensures ks c.requires.line ∙ told_none c.own_fault.result _ _ (c.own_fault.ensures 3 c.requires.names) c.in_default.is)

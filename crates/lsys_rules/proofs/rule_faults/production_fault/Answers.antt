use Rattle.std.proofs.Common.{◌∙◌, ◌+◌, arith}
use Rattle.lsys_spec.specs.Edits.{label_place}
use Rattle.lsys_text.specs.Tokens.{kind_row}
use Rattle.lsys_bodies.specs.Building.{production_at}
use Rattle.lsys_bodies.proofs.WholeSearch.{rest-room}
use Rattle.lsys_rules.proofs.Chains.{in_pairs, told_first, told_none, label_free}
use Rattle.lsys_rules.proofs.rule_faults.production_fault.Goals as goal

pub own_fault-requires-clause-room : goal.own_fault-requires-clause-room
own_fault-requires-clause-room c =
    let l = c.args.labeled.now in
    let ks = kind_row c.args.tokens.now in
    let all = rest-room (label_place l.table + 2) ks l.rule c.args.names.now c.requires.names in
    omega (arith, all, c.requires.room)

pub returns-in-Some : goal.returns-in-Some
returns-in-Some c =
    rw (in_pairs _ _ _ _ _ _ _) (told_first c.own_fault.result c.in-Some.fault _ _ (c.own_fault.ensures _ c.requires.names) c.in-Some.is)

pub returns-in-Some-group_fault : goal.returns-in-Some-group_fault
returns-in-Some-group_fault c =
    let p = production_at (kind_row c.args.tokens.now) c.args.labeled.now in
    let group = rw c.first_token-label.ensures at c.group_fault.ensures p (c.of-newcomer.ensures (kind_row c.args.tokens.now)) in
    rw (in_pairs _ _ _ _ _ _ _)
    (told_first c.group_fault.result c.in-Some-group_fault.fault _ _ group c.in-Some-group_fault.is
    ∙ told_none c.own_fault.result _ _ (c.own_fault.ensures _ c.requires.names) c.in_default.is)

pub returns-in-Some-number_fault : goal.returns-in-Some-number_fault
returns-in-Some-number_fault c =
    let p = production_at (kind_row c.args.tokens.now) c.args.labeled.now in
    let is = c.of-newcomer.ensures (kind_row c.args.tokens.now) in
    let group = rw c.first_token-label.ensures at c.group_fault.ensures p is in
    let free = label_free c.group_fault.result _ _ _ _ _ _ group c.in_default-group_fault.is in
    let number = rw c.first_token-label.ensures at c.number_fault.ensures p is free in
    rw (in_pairs _ _ _ _ _ _ _)
    (told_first c.number_fault.result c.in-Some-number_fault.fault _ _ number c.in-Some-number_fault.is
    ∙ told_none c.group_fault.result _ _ group c.in_default-group_fault.is
    ∙ told_none c.own_fault.result _ _ (c.own_fault.ensures _ c.requires.names) c.in_default.is)

pub returns : goal.returns
returns c =
    let p = production_at (kind_row c.args.tokens.now) c.args.labeled.now in
    let is = c.of-newcomer.ensures (kind_row c.args.tokens.now) in
    let group = rw c.first_token-label.ensures at c.group_fault.ensures p is in
    let free = label_free c.group_fault.result _ _ _ _ _ _ group c.in_default-group_fault.is in
    let number = rw c.first_token-label.ensures at c.number_fault.ensures p is free in
    let limit = rw c.first_token-label.ensures at c.limit_fault.ensures (kind_row c.args.tokens.now) c.requires.line in
    rw (in_pairs _ _ _ _ _ _ _)
    (limit
    ∙ told_none c.number_fault.result _ _ number c.in_default-number_fault.is
    ∙ told_none c.group_fault.result _ _ group c.in_default-group_fault.is
    ∙ told_none c.own_fault.result _ _ (c.own_fault.ensures _ c.requires.names) c.in_default.is)

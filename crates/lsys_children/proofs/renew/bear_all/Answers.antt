use Rattle.std.proofs.Common.{◌≡◌, drop, length, sym, ap, ◌∙◌, subst}
use Rattle.lsys_children.specs.Steps.{Adopts, CanAdopt}
use Rattle.lsys_children.proofs.Bearing.{can_bear_all, can_adopt, made_anew}
use Rattle.lsys_children.proofs.renew.bear_all.Goals as goal

pub bear_each-requires : goal.bear_each-requires
bear_each-requires g c = record { room = can_bear_all c.args.forest.now c.args.parent c.args.wanted.now c.args.changes.now c.requires.sound c.requires.lives c.requires.bare c.requires.apart c.requires.whole c.requires.room }

pub adopt-requires-clause-kids : goal.adopt-requires-clause-kids
adopt-requires-clause-kids g c =
    let now = c.bear_each.new.forest in
    let t' = c.bear_each.new.changes in
    let from : length c.args.changes.now.added ≡ length c.added-from.result.now = ap length (sym c.added-from.ensures) in
    subst (λ n. CanAdopt now c.args.parent (drop n t'.added) t') from
    (can_adopt c.args.forest.now now c.args.parent c.args.wanted.now c.args.changes.now t' c.requires.sound c.requires.lives c.requires.bare c.requires.room c.bear_each.ensures.born)

pub returns-clause-children : goal.returns-clause-children
returns-clause-children g c = λ n is.
    let now = c.bear_each.new.forest in
    let t' = c.bear_each.new.changes in
    let from : length c.added-from.result.now ≡ length c.args.changes.now.added = ap length c.added-from.ensures in
    let adopts = subst (λ n. Adopts now c.adopt.new.forest c.args.parent (drop n t'.added) t' c.adopt.new.told) from c.adopt.ensures.adopted in
    (made_anew c.args.forest.now now c.adopt.new.forest c.args.parent c.args.wanted.now c.args.changes.now t' c.adopt.new.told c.requires.sound n is (c.requires.bare n is) c.bear_each.ensures.born adopts).renewed

pub returns-clause-told : goal.returns-clause-told
returns-clause-told g c = λ n is.
    let now = c.bear_each.new.forest in
    let t' = c.bear_each.new.changes in
    let from : length c.added-from.result.now ≡ length c.args.changes.now.added = ap length c.added-from.ensures in
    let adopts = subst (λ n. Adopts now c.adopt.new.forest c.args.parent (drop n t'.added) t' c.adopt.new.told) from c.adopt.ensures.adopted in
    (made_anew c.args.forest.now now c.adopt.new.forest c.args.parent c.args.wanted.now c.args.changes.now t' c.adopt.new.told c.requires.sound n is (c.requires.bare n is) c.bear_each.ensures.born adopts).told

pub returns-clause-spends : goal.returns-clause-spends
returns-clause-spends g c = λ n is.
    let now = c.bear_each.new.forest in
    let t' = c.bear_each.new.changes in
    let from : length c.added-from.result.now ≡ length c.args.changes.now.added = ap length c.added-from.ensures in
    let adopts = subst (λ n. Adopts now c.adopt.new.forest c.args.parent (drop n t'.added) t' c.adopt.new.told) from c.adopt.ensures.adopted in
    (made_anew c.args.forest.now now c.adopt.new.forest c.args.parent c.args.wanted.now c.args.changes.now t' c.adopt.new.told c.requires.sound n is (c.requires.bare n is) c.bear_each.ensures.born adopts).spends

pub returns-clause-kept : goal.returns-clause-kept
returns-clause-kept g c = c.adopt.ensures.kept ∙ c.bear_each.ensures.kept

use Rattle.std.proofs.Common.{◌≡◌, [], None, drop, length, sym, ap, ◌∙◌, subst}
use Rattle.lsys_syntax.specs.Commands.{by_place}
use Rattle.lsys_module.specs.Views.{string_of}
use Rattle.lsys_children.specs.Steps.{Adopts, CanAdopt}
use Rattle.lsys_children.proofs.Bearing.{can_bear_all, can_adopt, made_anew}
use Rattle.lsys_children.specs.NumbersOf.{wanted_from}
use Rattle.lsys_children.specs.Wishes.{AreWanted}
use Rattle.lsys_children.proofs.Wishing.{are_wanted}
use Rattle.lsys_children.proofs.births.bear_by_place.Goals as goal

pub bear_staying-requires-clause-room : goal.bear_staying-requires-clause-room
bear_staying-requires-clause-room g c =
    let ss = c.args.successor.now in
    let key = c.key_of-key.result in
    let ws = wanted_from by_place key 0 [] None ss in
    let wanted = are_wanted by_place key ss c.requires.few in
    can_bear_all c.args.forest.now c.args.parent ws c.args.told.now c.requires.sound c.requires.lives c.requires.bare wanted.apart wanted.whole
    (λ n is. c.requires.room n ws is (subst (λ k. AreWanted by_place k (string_of ss) ws) (c.key_of-key.ensures n is) wanted))

pub adopt-requires-clause-kids : goal.adopt-requires-clause-kids
adopt-requires-clause-kids g c =
    let ss = c.args.successor.now in
    let key = c.key_of-key.result in
    let ws = wanted_from by_place key 0 [] None ss in
    let wanted = are_wanted by_place key ss c.requires.few in
    let now = c.bear_staying.new.forest in
    let t' = c.bear_staying.new.told in
    let from : length c.args.told.now.added ≡ length c.added-from.result.now = ap length (sym c.added-from.ensures) in
    subst (λ n. CanAdopt now c.args.parent (drop n t'.added) t') from
    (can_adopt c.args.forest.now now c.args.parent ws c.args.told.now t' c.requires.sound c.requires.lives c.requires.bare
    (λ n is. c.requires.room n ws is (subst (λ k. AreWanted by_place k (string_of ss) ws) (c.key_of-key.ensures n is) wanted)) c.bear_staying.ensures.born)

pub returns-clause-born : goal.returns-clause-born
returns-clause-born g c = λ n is.
    let ss = c.args.successor.now in
    let key = c.key_of-key.result in
    let ws = wanted_from by_place key 0 [] None ss in
    let wanted = are_wanted by_place key ss c.requires.few in
    let now = c.bear_staying.new.forest in
    let t' = c.bear_staying.new.told in
    let from : length c.added-from.result.now ≡ length c.args.told.now.added = ap length c.added-from.ensures in
    let adopts = subst (λ n. Adopts now c.adopt.new.forest c.args.parent (drop n t'.added) t' c.adopt.new.told) from c.adopt.ensures.adopted in
    let made = made_anew c.args.forest.now now c.adopt.new.forest c.args.parent ws c.args.told.now t' c.adopt.new.told c.requires.sound n is (c.requires.bare n is) c.bear_staying.ensures.born adopts in
    record {
      children = ws;
      wanted = subst (λ k. AreWanted by_place k (string_of ss) ws) (c.key_of-key.ensures n is) wanted;
      renewed = made.renewed;
      told = made.told;
      spends = made.spends;
    }

pub returns-clause-kept : goal.returns-clause-kept
returns-clause-kept g c = c.adopt.ensures.kept ∙ c.bear_staying.ensures.kept
